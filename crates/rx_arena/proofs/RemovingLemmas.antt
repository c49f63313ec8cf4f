-- A slot leaves its chain: what the chain is without it, and what the arena is then.
use Rattle.std.proofs.Common.{◌≡◌, ◌≢◌, ℕ, ◌-◌, ◌<◌, ◌≤◌, inl, inr, List, [], ◌∷◌, ◌++◌}
use Rattle.std.proofs.Common.{length, get_or, set, Some, None, IfSome, refl, sym, ap, subst, ◌∙◌, arith}
use Rattle.std.specs.Prelude.{Option, MatchOption, cond, not}
use Rattle.std.proofs.lemmas.List.{append_assoc, length-append}
use Rattle.std.proofs.lemmas.Bool.Decides.{eqb_tells}
use Rattle.rx_arena.specs.declared.Slot.{Slot}
use Rattle.rx_arena.specs.declared.arena.Arena.TheInside.{Inside}
use Rattle.rx_arena.specs.Inner.Node.{Node, with_chain}
use Rattle.rx_arena.specs.Inner.Held.{IsHeld}
use Rattle.rx_arena.specs.Inner.Links.{IsChain}
use Rattle.rx_arena.specs.Inner.Pool.{PoolState}
use Rattle.rx_arena.specs.Put.{one_if, times, altered, total}
use Rattle.rx_arena.specs.Arena.{ArenaState, chain_at, InChain, IsFirst, IsArena, besides}
use Rattle.rx_arena.proofs.WalkLemmas.{Walk, walk_begins, walk_on, chain_once}
use Rattle.rx_arena.proofs.PutLemmas.{one_if-same, one_if-other, times_in-at, times-append}
use Rattle.rx_arena.proofs.ChainLemmas as chains
use Rattle.rx_arena.proofs.ChainLemmas.{chain_after, chains_stay, chains-set, first_some, skipped}
use Rattle.rx_arena.proofs.PoolLemmas.{links_some}
use Rattle.rx_arena.proofs.ArenaStepLemmas.{ArenaStep, chain_links, opened, held_taken, led_held_by, led_apart_by, skip_step}
use Rattle.rx_arena.proofs.TotalLemmas.{total-set}

-- a list that does not name the slot stays
pub besides-away : (s : ℕ) (ss : List ℕ) → times s ss ≡ 0 → besides s ss ≡ ss
besides-away s [] e = refl
besides-away s (t ∷ ts) e = elim (eqb_tells t s) [
  | inl h ↦ (let one : one_if t s ≡ 1 = ap (λ y. cond y 1 0) h.0 in absurd (omega (arith, e, one)))
  | inr h ↦ ap (λ y. cond (not y) (t ∷ besides s ts) (besides s ts)) h.0 ∙ ap (λ z. t ∷ z) (besides-away s ts (omega (arith, e)))
]

-- a slot that is in a list once
pub besides-behind : (s : ℕ) (front rest : List ℕ) → ((t : ℕ) → times t (front ++ s ∷ rest) ≤ 1) → besides s (front ++ s ∷ rest) ≡ front ++ rest
besides-behind s [] rest once = elim (eqb_tells s s) [
  | inl h ↦ ap (λ y. cond (not y) (s ∷ besides s rest) (besides s rest)) h.0 ∙ besides-away s rest (omega (arith, once s, one_if-same s))
  | inr h ↦ absurd (h.1 refl)
]
besides-behind s (f ∷ fs) rest once = elim (eqb_tells f s) [
  | inl h ↦ (let one : one_if f s ≡ 1 = ap (λ y. cond y 1 0) h.0 in absurd (omega (arith, once s, one, times-append s fs (s ∷ rest), one_if-same s)))
  | inr h ↦ ap (λ y. cond (not y) (f ∷ besides s (fs ++ s ∷ rest)) (besides s (fs ++ s ∷ rest))) h.0
      ∙ ap (λ z. f ∷ z) (besides-behind s fs rest (λ t. omega (arith, once t)))
]

pub besides-second : (b s : ℕ) (front rest : List ℕ) → ((t : ℕ) → times t (front ++ b ∷ s ∷ rest) ≤ 1) → besides s (front ++ b ∷ s ∷ rest) ≡ front ++ b ∷ rest
besides-second b s front rest once =
    let moved : (front ++ b ∷ []) ++ s ∷ rest ≡ front ++ b ∷ s ∷ rest = append_assoc front (b ∷ []) (s ∷ rest) in
    ap (besides s) (sym moved) ∙ besides-behind s (front ++ b ∷ []) rest (λ t. subst (λ z. times t z ≤ 1) (sym moved) (once t))
    ∙ append_assoc front (b ∷ []) rest

-- the chains are one slot shorter together
pub total-skipped : (m : ℕ) (css : List (List ℕ)) (i b s : ℕ) (front rest : List ℕ) → i < length css → get_or css i [] ≡ front ++ b ∷ s ∷ rest → m ≡ total css
    → (1 ≤ m) × (m - 1 ≡ total (set css i (front ++ b ∷ rest)))
total-skipped m css i b s front rest lt split e =
    let more = total-set css i (front ++ b ∷ rest) lt in
    let long = ap length split in
    let was = length-append front (b ∷ s ∷ rest) in
    let is = length-append front (b ∷ rest) in
    (omega (arith, more, e, long, was, is), omega (arith, more, e, long, was, is))

-- the slot after another one of a chain
module _ (x : Inside) (law : IsArena (opened x)) (c b s : ℕ) (front rest : List ℕ) (split : chain_at (opened x) c ≡ front ++ b ∷ s ∷ rest) where
  pub once : (t : ℕ) → times t (front ++ b ∷ s ∷ rest) ≤ 1
  once t = subst (λ z. times t z ≤ 1) split (omega (arith, law.alone t, times_in-at t x.chained.0 c))

  pub before_in : InChain (opened x) b
  before_in =
      let here : 0 < times b (chain_at (opened x) c) = subst (λ z. 0 < times b z) (sym split)
      (omega (arith, times-append b front (b ∷ s ∷ rest), one_if-same b)) in
      omega (arith, here, times_in-at b x.chained.0 c)

  pub slot_in : InChain (opened x) s
  slot_in =
      let here : 0 < times s (chain_at (opened x) c) = subst (λ z. 0 < times s z) (sym split)
      (omega (arith, times-append s front (b ∷ s ∷ rest), one_if-same s)) in
      omega (arith, here, times_in-at s x.chained.0 c)

  pub before_held : IsHeld x.pool.cells b
  before_held = held_taken x law b (law.chained_taken b before_in)

  row : IsChain (chain_links x.pool.cells) (get_or x.heads c None) ((front ++ b ∷ []) ++ s ∷ rest)
  row = subst (IsChain (chain_links x.pool.cells) (get_or x.heads c None)) (split ∙ sym (append_assoc front (b ∷ []) (s ∷ rest)))
      (chains.chain_at (chain_links x.pool.cells) x.heads x.chained.0 c x.chained.1)

  abbrev on : (next : Option ℕ) × (get_or (chain_links x.pool.cells) s None ≡ Some next) × IsChain (chain_links x.pool.cells) next rest
  on = chain_after (chain_links x.pool.cells) (get_or x.heads c None) (front ++ b ∷ []) s rest row

  abbrev node : (n : Node) × (get_or x.pool.cells s None ≡ Some n) × (n.chain ≡ on.0)
  node = links_some (λ n. n.chain) x.pool.cells s on.0 on.1

  module _ (next : Option ℕ) (led : IfSome (get_or x.pool.cells s None) (λ n. next ≡ n.chain)) where
    next_is : next ≡ on.0
    next_is = subst (λ z. IfSome z (λ n. next ≡ n.chain)) node.1 led ∙ node.2

    pub next_held : IfSome next (IsHeld x.pool.cells)
    next_held = subst (λ z. IfSome z (IsHeld x.pool.cells)) (sym next_is)
        (led_held_by x.pool.cells (λ n. n.chain) rest on.0 (first_some (chain_links x.pool.cells) on.0 rest on.2))

    pub next_apart : IfSome next (λ t. ¬ (t ≡ b))
    next_apart = subst (λ z. IfSome z (λ t. ¬ (t ≡ b))) (sym next_is)
        (led_apart_by x.pool.cells (λ n. n.chain) rest on.0 (first_some (chain_links x.pool.cells) on.0 rest on.2) b
        (omega (arith, once b, times-append b front (b ∷ s ∷ rest), one_if-same b)))

    pub skips : (q : PoolState) → c < length x.chained.0 → q ≡ record x.pool { cells = altered b (with_chain next) x.pool.cells }
        → ArenaStep q x.heads x.gray_first (record (opened x) { chains = set x.chained.0 c (front ++ b ∷ rest) })
    skips q lt e = skip_step x law q c b s front rest next lt split once (on.1 ∙ ap Some (sym next_is)) (law.chained_taken b before_in) e

-- a slot is the last of a list, or the list is empty
abbrev pub IsLast : Option Slot → List ℕ → Type 0
IsLast None ss = ss ≡ []
IsLast (Some s) ss = (front : List ℕ) × (ss ≡ front ++ s.0 ∷ [])

-- a walk that seeks a slot has not passed it yet, and knows the last one that it passed
pub record Seeking (ss : List ℕ) (sought : ℕ) (last next : Option Slot) : Type 0 where
  pub walk : Walk ss next
  pub last_is : IsLast last walk.before
  pub away : times sought walk.before ≡ 0

pub seeking_begins : (ss : List ℕ) (sought : ℕ) (next : Option Slot) → IsFirst next ss → Seeking ss sought None next
seeking_begins ss sought next first = record { walk = walk_begins ss next first; last_is = refl; away = refl }

module _ (ss : List ℕ) (sought : ℕ) (last next : Option Slot) (inv : Seeking ss sought last next) (s : Slot) (is : next ≡ Some s) where
  pub seeking_on : s.0 ≢ sought → (far : Option Slot) → ((before after : List ℕ) → ss ≡ before ++ s.0 ∷ after → IsFirst far after)
      → Seeking ss sought (Some s) far
  seeking_on ne far found = record {
    walk = walk_on ss next inv.walk s is far found;
    last_is = (inv.walk.before, refl);
    away = omega (arith, inv.away, times-append sought inv.walk.before (s.0 ∷ []), one_if-other s.0 sought ne);
  }

-- the first slot of a chain is popped
pub popped_slot : (a b : ArenaState) (c s : ℕ) (r : Option Slot) → IsArena a → (rest : List ℕ) × (chain_at a c ≡ s ∷ rest)
    → MatchOption r (chain_at a c ≡ []) (λ t. chain_at a c ≡ t.0 ∷ chain_at b c) → b ≡ record a { chains = set a.chains c (chain_at b c) }
    → b ≡ record a { chains = set a.chains c (besides s (chain_at a c)) }
popped_slot a b c s None law row first after = let split = row.1 in let none : chain_at a c ≡ [] = first in absurd (cc)
popped_slot a b c s (Some t) law row first after =
    let split = row.1 in
    let popped : chain_at a c ≡ t.0 ∷ chain_at b c = first in
    let is : chain_at b c ≡ row.0 = cc in
    let left : besides s (chain_at a c) ≡ row.0 = ap (besides s) split
    ∙ besides-behind s [] row.0 (λ u. subst (λ z. times u z ≤ 1) split (chain_once a law c u)) in
    after ∙ ap (λ z. record a { chains = set a.chains c z }) (is ∙ sym left)
