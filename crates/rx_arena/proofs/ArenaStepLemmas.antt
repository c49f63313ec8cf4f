-- What each call of an arena makes of the pool, the heads and the lists.
use Rattle.std.proofs.Common.{◌≡◌, ◌≢◌, ℕ, zero, suc, ◌+◌, ◌-◌, ◌<◌, ◌≤◌, inl, inr, List, [], ◌∷◌, ◌++◌}
use Rattle.std.proofs.Common.{length, get_or, set, map, Some, None, IfSome, refl, sym, ap, subst, ◌∙◌, arith}
use Rattle.std.specs.Prelude.{Option, Bool, true, false, not, nat_eq, min, take, replicate, ◌^◌, Result, Ok, Err, IfOk, OnErr}
use Rattle.rx_arena.specs.declared.arena.Arena.TheInside.{Inside}
use Rattle.rx_arena.specs.declared.fault.ArenaFault.{ArenaFault}
use Rattle.std.specs.Option.{option_map}
use Rattle.std.proofs.lemmas.List.{set-set, set-get_or}
use Rattle.rx_arena.specs.declared.CellBody.{CellBody}
use Rattle.rx_arena.specs.Inner.Node.{Node, mark_of, has_mark, lone, with_mark, with_chain, with_next}
use Rattle.rx_arena.specs.Inner.Held.{IsHeld}
use Rattle.rx_arena.specs.Put.{times, times_in, put, one_some, filled, altered}
use Rattle.rx_arena.specs.Inner.Links.{Links, links, IsChain, Listed, AreChains, Chained}
use Rattle.rx_arena.specs.Inner.Pool.{PoolState, spare_of}
use Rattle.rx_arena.specs.Arena.{Taken, ArenaState, taken_at, IsTaken, chain_at, IsLoose, is_marked, IsMarked}
use Rattle.rx_arena.specs.Arena.{IsArena, empty_arena, new_cell, with_marking, shown_of, state_of}
use Rattle.rx_arena.proofs.PutLemmas.{one_or_two, get_or-put_same, get_or-put_other, put-get_or, map-put, get_or-map_option}
use Rattle.rx_arena.proofs.PutLemmas.{filled-put, filled-map, times_in-at, times_in-set, times-append, one_if-same}
use Rattle.rx_arena.proofs.ChainLemmas as chains
use Rattle.rx_arena.proofs.ChainLemmas.{chain_agrees, chain_stays, chains_agree, chains_stay, chains-set, pushed}
use Rattle.rx_arena.proofs.ChainLemmas.{popped, skipped, first_some, listed_is, chained_is, chains-length}
use Rattle.rx_arena.proofs.PoolLemmas.{links_some}
use Rattle.rx_arena.proofs.ArenaLawLemmas.{empty_law, behind_law, truncate_law, cleared_law, loose_free, push_law, pop_law, shrink_law, altered_law}
use Rattle.rx_arena.proofs.ArenaLawLemmas.{unmarked_away, gray_law, gray_pop_law, take_law, give_back_law, reserve_law, turn_law, taken_marked}

abbrev pub chain_links : List (Option Node) → Links
chain_links cells = links (λ n. n.chain) cells

abbrev pub gray_links : List (Option Node) → Links
gray_links cells = links (λ n. n.next) cells

-- what an arena shows
abbrev pub opened : Inside → ArenaState
opened x = state_of x.pool x.chained.0 x.grayed.0

-- the pool's cells, with these heads, make up the arena
pub record ArenaStep (p : PoolState) (heads : List (Option ℕ)) (first : Option ℕ) (b : ArenaState) : Type 0 where
  pub chained : AreChains (chain_links p.cells) heads b.chains
  pub grayed : IsChain (gray_links p.cells) first b.gray
  pub state_is : state_of p b.chains b.gray ≡ b
  pub law : IsArena b

module _ {p : PoolState} {heads : List (Option ℕ)} {first : Option ℕ} {b : ArenaState} (st : ArenaStep p heads first b)
    (l : Chained (chain_links p.cells) heads) (m : Listed (gray_links p.cells) first) where
  pub step_chains : l.0 ≡ b.chains
  step_chains = chained_is (chain_links p.cells) heads l b.chains st.chained

  pub step_gray : m.0 ≡ b.gray
  step_gray = listed_is (gray_links p.cells) first m b.gray st.grayed

  pub step_state : state_of p l.0 m.0 ≡ b
  step_state = (λ i. state_of p (step_chains i) (step_gray i)) ∙ st.state_is

  pub step_law : IsArena (state_of p l.0 m.0)
  step_law = subst IsArena (sym step_state) st.law

-- the same step, of heads that are these
pub with_heads : {p : PoolState} {heads new : List (Option ℕ)} {first : Option ℕ} {b : ArenaState} → ArenaStep p heads first b → new ≡ heads
    → ArenaStep p new first b
with_heads {p = p} {first = first} {b = b} st e = subst (λ z. ArenaStep p z first b) (sym e) st

links-put_other : (k : Node → Option ℕ) (xs : List (Option Node)) (s t : ℕ) (v : Option Node) → t ≢ s
    → get_or (links k (put xs s v)) t None ≡ get_or (links k xs) t None
links-put_other k xs s t v ne = get_or-map_option k (put xs s v) t ∙ ap (option_map k) (get_or-put_other xs s t v ne) ∙ sym (get_or-map_option k xs t)

links-put_same : (k : Node → Option ℕ) (xs : List (Option Node)) (s : ℕ) (v : Option Node) → get_or (links k (put xs s v)) s None ≡ option_map k v
links-put_same k xs s v = get_or-map_option k (put xs s v) s ∙ ap (option_map k) (get_or-put_same xs s v)

-- a change of a node that keeps a link of it
links-kept : (k : Node → Option ℕ) (xs : List (Option Node)) (s : ℕ) (n m : Node) → get_or xs s None ≡ Some n → k m ≡ k n → (t : ℕ)
    → get_or (links k (put xs s (Some m))) t None ≡ get_or (links k xs) t None
links-kept k xs s n m e same t =
    elim (one_or_two t s) [
      | inl h ↦ subst (λ z. get_or (links k (put xs s (Some m))) z None ≡ get_or (links k xs) z None) (sym h.1)
          (links-put_same k xs s (Some m) ∙ ap Some same ∙ sym (get_or-map_option k xs s ∙ ap (option_map k) e))
      | inr h ↦ links-put_other k xs s t (Some m) h.1
    ]

shown-node : (turned : Bool) (c : Option Node) (t : Taken) → option_map (shown_of turned) c ≡ Some t → (n : Node) × (c ≡ Some n) × (shown_of turned n ≡ t)
shown-node turned None t e = cc
shown-node turned (Some n) t e = (n, refl, cc)

-- what is shown of a new node, and of one with another mark
shown-lone : (turned : Bool) (b : CellBody) → shown_of turned (lone (mark_of turned false) b) ≡ new_cell b
shown-lone false b = refl
shown-lone true b = refl

pub shown-marked : (turned marked : Bool) (n : Node) → shown_of turned (with_mark (mark_of turned marked) n) ≡ with_marking marked (shown_of turned n)
shown-marked false false n = refl
shown-marked false true n = refl
shown-marked true false n = refl
shown-marked true true n = refl

altered-at : {X : Type 0} (xs : List (Option X)) (s : ℕ) (f : X → X) (x : X) → get_or xs s None ≡ Some x → altered s f xs ≡ put xs s (Some (f x))
altered-at xs s f x e = ap (λ z. put xs s (option_map f z)) e

-- the slot that a list begins at is held, and is not one that the list lacks
module _ (cells : List (Option Node)) (k : Node → Option ℕ) (ss : List ℕ) where
  pub led_held_by : (next : Option ℕ) → IfSome next (λ t. (0 < times t ss) × ((j : Option ℕ) × (get_or (links k cells) t None ≡ Some j)))
      → IfSome next (IsHeld cells)
  led_held_by None h = tt
  led_held_by (Some t) h = let n = links_some k cells t h.1.0 h.1.1 in (n.0, n.1)

  pub led_apart_by : (next : Option ℕ) → IfSome next (λ t. (0 < times t ss) × ((j : Option ℕ) × (get_or (links k cells) t None ≡ Some j))) → (s : ℕ)
      → times s ss ≡ 0 → IfSome next (λ t. ¬ (t ≡ s))
  led_apart_by None h s away = tt
  led_apart_by (Some t) h s away = λ e. (let here : 0 < times s ss = subst (λ z. 0 < times z ss) e h.0 in absurd (omega (arith, here, away)))

-- what is shown of marked nodes where the marks are turned
unmarked_by : (turned : Bool) (n : Node) → n.mark ≤ 1 → has_mark turned n ≡ true → shown_of (not turned) n ≡ with_marking false (shown_of turned n)
unmarked_by turned n le e = ap (λ y. record { body = n.body; roots = n.roots; marked = y }) (off turned n.mark le e) where
  off : (turned : Bool) (k : ℕ) → k ≤ 1 → not (nat_eq k (mark_of turned false)) ≡ true → not (nat_eq k (mark_of (not turned) false)) ≡ false
  off false zero le e = absurd (cc)
  off false (suc zero) le e = refl
  off true zero le e = refl
  off true (suc zero) le e = absurd (cc)
  off false (suc (suc k)) le e = absurd (omega (arith, le))
  off true (suc (suc k)) le e = absurd (omega (arith, le))

turned_cells : (turned : Bool) (xs : List (Option Node)) → ((s : ℕ) (n : Node) → get_or xs s None ≡ Some n
    → shown_of (not turned) n ≡ with_marking false (shown_of turned n))
    → map (option_map (shown_of (not turned))) xs ≡ map (option_map (with_marking false)) (map (option_map (shown_of turned)) xs)
turned_cells turned [] h = refl
turned_cells turned (None ∷ xs) h = ap (λ zs. None ∷ zs) (turned_cells turned xs (λ s. h (suc s)))
turned_cells turned (Some n ∷ xs) h = λ i. Some (h 0 n refl i) ∷ turned_cells turned xs (λ s. h (suc s)) i

-- what is shown if one more slot is taken
pub shown_taken : (p q : PoolState) (s : ℕ) (b : CellBody) → q.cells ≡ put p.cells s (Some (lone (mark_of p.turned false) b)) → q.turned ≡ p.turned
    → map (option_map (shown_of q.turned)) q.cells ≡ put (map (option_map (shown_of p.turned)) p.cells) s (Some (new_cell b))
shown_taken p q s b e et =
    (λ i. map (option_map (shown_of (et i))) (e i)) ∙ map-put (shown_of p.turned) p.cells s (Some (lone (mark_of p.turned false) b))
    ∙ ap (λ z. put (map (option_map (shown_of p.turned)) p.cells) s (Some z)) (shown-lone p.turned b)

module _ (x : Inside) (law : IsArena (opened x)) where
  abbrev p : PoolState
  p = x.pool

  abbrev heads : List (Option ℕ)
  heads = x.heads

  abbrev first : Option ℕ
  first = x.gray_first

  abbrev l : Chained (chain_links x.pool.cells) x.heads
  l = x.chained

  abbrev m : Listed (gray_links x.pool.cells) x.gray_first
  m = x.grayed

  abbrev a : ArenaState
  a = opened x

  -- the node of a taken slot
  pub taken_node : (s : ℕ) (t : Taken) → taken_at a s ≡ Some t → (n : Node) × (get_or p.cells s None ≡ Some n) × (shown_of p.turned n ≡ t)
  taken_node s t e = shown-node p.turned (get_or p.cells s None) t (sym (get_or-map_option (shown_of p.turned) p.cells s) ∙ e)

  pub held_taken : (s : ℕ) → IsTaken a s → IsHeld p.cells s
  held_taken s h = let n = taken_node s h.0 h.1 in (n.0, n.1)

  pub shown_at : (s : ℕ) → taken_at a s ≡ option_map (shown_of p.turned) (get_or p.cells s None)
  shown_at s = get_or-map_option (shown_of p.turned) p.cells s

  put_count : (s : ℕ) (n k : Node) → get_or p.cells s None ≡ Some n → filled (put p.cells s (Some k)) ≡ filled p.cells
  put_count s n k e = let was : one_some (get_or p.cells s None) ≡ 1 = ap one_some e in omega (arith, filled-put p.cells s (Some k), was)

  same_spare : (s : ℕ) (n k : Node) → get_or p.cells s None ≡ Some n → spare_of (record p { cells = put p.cells s (Some k) }) ≡ spare_of p
  same_spare s n k e = ap (λ c. min p.cap p.room - c) (put_count s n k e)

  shown-put : (s : ℕ) (k : Node) → map (option_map (shown_of p.turned)) (put p.cells s (Some k)) ≡ put a.cells s (Some (shown_of p.turned k))
  shown-put s k = map-put (shown_of p.turned) p.cells s (Some k)

  -- a change that shows no link
  pub altered_step : (q : PoolState) (s : ℕ) (f : Node → Node) (g : Taken → Taken) → IsTaken a s → q ≡ record p { cells = altered s f p.cells }
      → ((n : Node) → (shown_of p.turned (f n) ≡ g (shown_of p.turned n)) × ((f n).chain ≡ n.chain) × ((f n).next ≡ n.next))
      → IsArena (record a { cells = altered s g a.cells }) → ArenaStep q heads first (record a { cells = altered s g a.cells })
  altered_step q s f g taken e like law' =
      let n = taken_node s taken.0 taken.1 in
      let is : altered s f p.cells ≡ put p.cells s (Some (f n.0)) = altered-at p.cells s f n.0 n.1 in
      let shows : put a.cells s (Some (shown_of p.turned (f n.0))) ≡ altered s g a.cells =
      ap (λ z. put a.cells s (Some z)) (like n.0).0
      ∙ sym (altered-at a.cells s g (shown_of p.turned n.0) (shown_at s ∙ ap (option_map (shown_of p.turned)) n.1)) in
      subst (λ z. ArenaStep z heads first (record a { cells = altered s g a.cells })) (sym (e ∙ ap (λ z. record p { cells = z }) is)) (record {
        chained = chains_agree (chain_links p.cells) (chain_links (put p.cells s (Some (f n.0)))) heads l.0 (λ t _.
            links-kept (λ n. n.chain) p.cells s n.0 (f n.0) n.1 (like n.0).1 t) l.1;
        grayed = chain_agrees (gray_links p.cells) (gray_links (put p.cells s (Some (f n.0)))) first m.0 (λ t _.
            links-kept (λ n. n.next) p.cells s n.0 (f n.0) n.1 (like n.0).2 t) m.1;
        state_is = λ i. record { cells = (shown-put s (f n.0) ∙ shows) i; chains = l.0; gray = m.0; spare = same_spare s n.0 (f n.0) n.1 i; cap = p.cap };
        law = law';
      })

  -- a change of links alone
  unshown : (s : ℕ) (n k : Node) → get_or p.cells s None ≡ Some n → shown_of p.turned k ≡ shown_of p.turned n
      → put a.cells s (Some (shown_of p.turned k)) ≡ a.cells
  unshown s n k e same = ap (λ z. put a.cells s (Some z)) same ∙ put-get_or a.cells s (shown_of p.turned n) (shown_at s ∙ ap (option_map (shown_of p.turned)) e)

  pub heads_length : length heads ≡ length a.chains
  heads_length = chains-length (chain_links p.cells) heads l.0 l.1

  pub within_heads : (c : ℕ) → c < length a.chains → c < length heads
  within_heads c lt = omega (arith, lt, heads_length)

  -- a slot that is held is below what represents none
  pub held_small : (next : Option ℕ) → IfSome next (IsHeld p.cells) → IfSome next (λ t. t < 4294967295)
  held_small None h = tt
  held_small (Some t) h = let below = law.below t (shown_of p.turned h.0, shown_at t ∙ ap (option_map (shown_of p.turned)) h.1) in let cap =
      law.small_cap in omega (arith, below, cap)

  pub taken_small : (s : ℕ) → IsTaken a s → s < 4294967295
  taken_small s h = let below = law.below s h in let cap = law.small_cap in omega (arith, below, cap)

  -- the head of a chain is held, and is not a slot that is in no chain
  pub head_held : (c : ℕ) → IfSome (get_or heads c None) (IsHeld p.cells)
  head_held c = led_held_by p.cells (λ n. n.chain) (chain_at a c) (get_or heads c None)
      (first_some (chain_links p.cells) (get_or heads c None) (chain_at a c) (chains.chain_at (chain_links p.cells) heads l.0 c l.1))

  pub head_apart : (c s : ℕ) → IsLoose a s → IfSome (get_or heads c None) (λ t. ¬ (t ≡ s))
  head_apart c s loose = led_apart_by p.cells (λ n. n.chain) (chain_at a c) (get_or heads c None)
      (first_some (chain_links p.cells) (get_or heads c None) (chain_at a c) (chains.chain_at (chain_links p.cells) heads l.0 c l.1))
      s (omega (arith, loose, times_in-at s a.chains c))

  gray_held : IfSome first (IsHeld p.cells)
  gray_held = led_held_by p.cells (λ n. n.next) m.0 first (first_some (gray_links p.cells) first m.0 m.1)

  pub gray_small : IfSome first (λ t. t < 4294967295)
  gray_small = held_small first gray_held

  pub push_step : (q : PoolState) (c s : ℕ) → c < length a.chains → IsTaken a s → IsLoose a s
      → q ≡ record p { cells = altered s (with_chain (get_or heads c None)) p.cells }
      → ArenaStep q (set heads c (Some s)) first (record a { chains = set a.chains c (s ∷ chain_at a c) })
  push_step q c s lt taken loose e =
      let n = taken_node s taken.0 taken.1 in
      let k : Node = with_chain (get_or heads c None) n.0 in
      let is : altered s (with_chain (get_or heads c None)) p.cells ≡ put p.cells s (Some k) =
      altered-at p.cells s (with_chain (get_or heads c None)) n.0 n.1 in
      let b : ArenaState = record a { chains = set a.chains c (s ∷ chain_at a c) } in
      let others : (t : ℕ) → t ≢ s → get_or (chain_links (put p.cells s (Some k))) t None ≡ get_or (chain_links p.cells) t None = λ t ne.
      links-put_other (λ n. n.chain) p.cells s t (Some k) ne in
      let away : times s (chain_at a c) ≡ 0 = omega (arith, loose, times_in-at s a.chains c) in
      subst (λ z. ArenaStep z (set heads c (Some s)) first b) (sym (e ∙ ap (λ z. record p { cells = z }) is)) (record {
        chained = chains-set (chain_links (put p.cells s (Some k))) heads l.0 c (Some s) (s ∷ chain_at a c)
            (chains_stay (chain_links p.cells) (chain_links (put p.cells s (Some k))) s heads l.0 loose others l.1)
            (pushed (chain_links p.cells) (chain_links (put p.cells s (Some k))) s (get_or heads c None) (chain_at a c) away others
            (links-put_same (λ n. n.chain) p.cells s (Some k)) (chains.chain_at (chain_links p.cells) heads l.0 c l.1));
        grayed = chain_agrees (gray_links p.cells) (gray_links (put p.cells s (Some k))) first m.0 (λ t _.
            links-kept (λ n. n.next) p.cells s n.0 k n.1 refl t) m.1;
        state_is = λ i. record {
          cells = (shown-put s k ∙ unshown s n.0 k n.1 refl) i;
          chains = b.chains;
          gray = m.0;
          spare =
              same_spare s n.0 k n.1 i;
          cap = p.cap;
        };
        law = push_law a law c s lt taken loose;
      })

  pub gray_link_step : (q : PoolState) (s : ℕ) → IsMarked a s → times s a.gray ≡ 0 → q ≡ record p { cells = altered s (with_next first) p.cells }
      → ArenaStep q heads (Some s) (record a { gray = s ∷ a.gray })
  gray_link_step q s marked away e =
      let t = taken_marked a s marked in
      let n = taken_node s t.0 t.1 in
      let k : Node = with_next first n.0 in
      let is : altered s (with_next first) p.cells ≡ put p.cells s (Some k) = altered-at p.cells s (with_next first) n.0 n.1 in
      let others : (t : ℕ) → t ≢ s → get_or (gray_links (put p.cells s (Some k))) t None ≡ get_or (gray_links p.cells) t None = λ t ne.
      links-put_other (λ n. n.next) p.cells s t (Some k) ne in
      subst (λ z. ArenaStep z heads (Some s) (record a { gray = s ∷ a.gray })) (sym (e ∙ ap (λ z. record p { cells = z }) is)) (record {
        chained = chains_agree (chain_links p.cells) (chain_links (put p.cells s (Some k))) heads l.0 (λ t _.
            links-kept (λ n. n.chain) p.cells s n.0 k n.1 refl t) l.1;
        grayed = pushed (gray_links p.cells) (gray_links (put p.cells s (Some k))) s first m.0 away others
            (links-put_same (λ n. n.next) p.cells s (Some k)) m.1;
        state_is = λ i. record {
          cells = (shown-put s k ∙ unshown s n.0 k n.1 refl) i;
          chains = l.0;
          gray = s ∷ m.0;
          spare = same_spare s n.0 k n.1 i;
          cap = p.cap;
        };
        law = gray_law a law s marked away;
      })

  -- the first slot of a chain
  module _ (c s : ℕ) (is : get_or heads c None ≡ Some s) where
    abbrev pub front : (rest : List ℕ) × (chain_at a c ≡ s ∷ rest) × (next : Option ℕ) × (get_or (chain_links p.cells) s None ≡ Some next)
        × IsChain (chain_links p.cells) next rest
    front = popped (chain_links p.cells) (get_or heads c None) s (chain_at a c) (chains.chain_at (chain_links p.cells) heads l.0 c l.1) is

    abbrev pub front_node : (n : Node) × (get_or p.cells s None ≡ Some n) × (n.chain ≡ front.2)
    front_node = links_some (λ n. n.chain) p.cells s front.2 front.3

    pub front_asked : IsHeld p.cells s × IfSome (get_or p.cells s None) (λ n. IfSome n.chain (IsHeld p.cells))
    front_asked = (
      (front_node.0, front_node.1),
      subst (λ z. IfSome z (λ n. IfSome n.chain (IsHeld p.cells))) (sym front_node.1)
          (subst (λ z. IfSome z (IsHeld p.cells)) (sym front_node.2) (led_held_by p.cells (λ n. n.chain) front.0 front.2
          (first_some (chain_links p.cells) front.2 front.0 front.4))),
    )

    pub front_small : (next : Option ℕ) → IfSome (get_or p.cells s None) (λ n. next ≡ n.chain) → IfSome next (λ t. t < 4294967295)
    front_small next led =
        let n_is : next ≡ front.2 = subst (λ z. IfSome z (λ n. next ≡ n.chain)) front_node.1 led ∙ front_node.2 in
        held_small next (subst (λ z. IfSome z (IsHeld p.cells)) (sym n_is)
        (led_held_by p.cells (λ n. n.chain) front.0 front.2 (first_some (chain_links p.cells) front.2 front.0 front.4)))

    pub pop_step : (next : Option ℕ) → c < length a.chains → IfSome (get_or p.cells s None) (λ n. next ≡ n.chain)
        → ArenaStep p (set heads c next) first (record a { chains = set a.chains c front.0 })
    pop_step next lt led =
        let n_is : next ≡ front.2 = subst (λ z. IfSome z (λ n. next ≡ n.chain)) front_node.1 led ∙ front_node.2 in
        record {
          chained = chains-set (chain_links p.cells) heads l.0 c next front.0 l.1 (subst (λ z. IsChain (chain_links p.cells) z front.0) (sym n_is) front.4);
          grayed = m.1;
          state_is = refl;
          law = pop_law a law c s front.0 lt front.1;
        }

  -- a slot leaves its chain, from after another one
  pub skip_step : (q : PoolState) (c b s : ℕ) (front rest : List ℕ) (next : Option ℕ) → c < length a.chains → chain_at a c ≡ front ++ b ∷ s ∷ rest
      → ((t : ℕ) → times t (front ++ b ∷ s ∷ rest) ≤ 1)
      → get_or (chain_links p.cells) s None ≡ Some next → IsTaken a b → q ≡ record p { cells = altered b (with_chain next) p.cells }
      → ArenaStep q heads first (record a { chains = set a.chains c (front ++ b ∷ rest) })
  skip_step q c b s front rest next lt split once at_s taken e =
      let n = taken_node b taken.0 taken.1 in
      let k : Node = with_chain next n.0 in
      let ls : Links = chain_links p.cells in
      let ms : Links = chain_links (put p.cells b (Some k)) in
      let is : altered b (with_chain next) p.cells ≡ put p.cells b (Some k) = altered-at p.cells b (with_chain next) n.0 n.1 in
      let new : List ℕ = front ++ b ∷ rest in
      let others : (t : ℕ) → t ≢ b → get_or ms t None ≡ get_or ls t None = λ t ne. links-put_other (λ n. n.chain) p.cells b t (Some k) ne in
      let here : times b (chain_at a c) ≡ times b front + (1 + times b (s ∷ rest)) =
      ap (times b) split ∙ omega (arith, times-append b front (b ∷ s ∷ rest), one_if-same b) in
      let gone : times_in b (set a.chains c []) ≡ 0 = omega (arith, times_in-set b a.chains c [] lt, law.alone b, here) in
      let empty : AreChains ls (set heads c None) (set a.chains c []) = chains-set ls heads l.0 c None [] l.1 tt in
      let stay : AreChains ms (set heads c None) (set a.chains c []) = chains_stay ls ms b (set heads c None) (set a.chains c []) gone others empty in
      let row : IsChain ms (get_or heads c None) new =
      skipped ls ms b s (get_or heads c None) front rest next once others at_s (links-put_same (λ n. n.chain) p.cells b (Some k))
      (subst (IsChain ls (get_or heads c None)) split (chains.chain_at ls heads l.0 c l.1)) in
      let full : AreChains ms (set (set heads c None) c (get_or heads c None)) (set (set a.chains c []) c new) =
      chains-set ms (set heads c None) (set a.chains c []) c (get_or heads c None) new stay row in
      let back : set (set heads c None) c (get_or heads c None) ≡ heads = set-set heads c None (get_or heads c None) ∙ set-get_or heads c None in
      let b' : ArenaState = record a { chains = set a.chains c new } in
      subst (λ z. ArenaStep z heads first b') (sym (e ∙ ap (λ z. record p { cells = z }) is)) (record {
        chained = (let one = subst (λ z. AreChains ms z (set (set a.chains c []) c new)) back full in
            subst (AreChains ms heads) (set-set a.chains c [] new) one);
        grayed = chain_agrees (gray_links p.cells) (gray_links (put p.cells b (Some k))) first m.0 (λ t _.
            links-kept (λ n. n.next) p.cells b n.0 k n.1 refl t) m.1;
        state_is = λ i. record {
          cells = (shown-put b k ∙ unshown b n.0 k n.1 refl) i;
          chains = b'.chains;
          gray = m.0;
          spare =
              same_spare b n.0 k n.1 i;
          cap = p.cap;
        };
        law = shrink_law a law c new lt (λ t. subst (λ z. times t new ≤ times t z) (sym split)
            (omega (arith, times-append t front (b ∷ rest), times-append t front (b ∷ s ∷ rest))));
      })

  -- the first gray slot
  module _ (s : ℕ) (is : first ≡ Some s) where
    abbrev pub gray_front : (rest : List ℕ) × (m.0 ≡ s ∷ rest) × (next : Option ℕ) × (get_or (gray_links p.cells) s None ≡ Some next)
        × IsChain (gray_links p.cells) next rest
    gray_front = popped (gray_links p.cells) first s m.0 m.1 is

    abbrev pub gray_front_node : (n : Node) × (get_or p.cells s None ≡ Some n) × (n.next ≡ gray_front.2)
    gray_front_node = links_some (λ n. n.next) p.cells s gray_front.2 gray_front.3

    pub gray_asked : IsHeld p.cells s
    gray_asked = (gray_front_node.0, gray_front_node.1)

    pub gray_pop_step : (next : Option ℕ) → IfSome (get_or p.cells s None) (λ n. next ≡ n.next) → ArenaStep p heads next (record a { gray = gray_front.0 })
    gray_pop_step next led =
        let n_is : next ≡ gray_front.2 = subst (λ z. IfSome z (λ n. next ≡ n.next)) gray_front_node.1 led ∙ gray_front_node.2 in
        record {
          chained = l.1;
          grayed = subst (λ z. IsChain (gray_links p.cells) z gray_front.0) (sym n_is) gray_front.4;
          state_is = refl;
          law = gray_pop_law a law s gray_front.0 gray_front.1;
        }

  -- a slot is taken
  free_links : (k : Node → Option ℕ) (s : ℕ) (v : Option Node) (t : ℕ) → t ≢ s → get_or (links k (put p.cells s v)) t None ≡ get_or (links k p.cells) t None
  free_links k s v t ne = links-put_other k p.cells s t v ne

  gray_free : (s : ℕ) → taken_at a s ≡ None → times s a.gray ≡ 0
  gray_free s none = unmarked_away a law s (ap is_marked none)

  pub take_step : (q : PoolState) (s : ℕ) (b : CellBody) → get_or p.cells s None ≡ None → s < p.cap
      → q.cells ≡ put p.cells s (Some (lone (mark_of p.turned false) b)) → q.cap ≡ p.cap → q.turned ≡ p.turned → spare_of q + filled q.cells ≤ q.cap
      → ArenaStep q heads first (record a { cells = put a.cells s (Some (new_cell b)); spare = spare_of q })
  take_step q s b none lt e ec et fit =
      let free : taken_at a s ≡ None = shown_at s ∙ ap (option_map (shown_of p.turned)) none in
      let loose = loose_free a law s free in
      let shows : map (option_map (shown_of q.turned)) q.cells ≡ put a.cells s (Some (new_cell b)) = shown_taken p q s b e et in
      let count : filled (put a.cells s (Some (new_cell b))) ≡ filled q.cells = ap filled (sym shows) ∙ filled-map (shown_of q.turned) q.cells in
      record {
        chained = subst (λ z. AreChains (chain_links z) heads l.0) (sym e)
            (chains_stay (chain_links p.cells) (chain_links (put p.cells s (Some (lone (mark_of p.turned false) b)))) s heads l.0 loose (λ t ne.
            free_links (λ n. n.chain) s (Some (lone (mark_of p.turned false) b)) t ne) l.1);
        grayed = subst (λ z. IsChain (gray_links z) first m.0) (sym e)
            (chain_stays (gray_links p.cells) (gray_links (put p.cells s (Some (lone (mark_of p.turned false) b)))) s first m.0 (gray_free s free)
            (λ t ne. free_links (λ n. n.next) s (Some (lone (mark_of p.turned false) b)) t ne) m.1);
        state_is = λ i. record { cells = shows i; chains = l.0; gray = m.0; spare = spare_of q; cap = ec i };
        law = take_law a law s (new_cell b) (spare_of q) free lt (omega (arith, fit, count, ec));
      }

  -- nothing of what is shown changes
  pub same_step : (q : PoolState) → q ≡ p → ArenaStep q heads first a
  same_step q e = subst (λ z. ArenaStep z heads first a) (sym e) (record { chained = l.1; grayed = m.1; state_is = refl; law = law })

  pub give_back_step : (q : PoolState) (s : ℕ) → IsTaken a s → IsLoose a s → times s a.gray ≡ 0
      → q ≡ record p { cells = put p.cells s None; free = s ∷ p.free } → spare_of q ≡ spare_of p + 1
      → ArenaStep q heads first (record a { cells = put a.cells s None; spare = a.spare + 1 })
  give_back_step q s taken loose away e es =
      subst (λ z. spare_of z ≡ spare_of p + 1 → ArenaStep z heads first (record a { cells = put a.cells s None; spare = a.spare + 1 })) (sym e)
      (λ spare. record {
        chained = chains_stay (chain_links p.cells) (chain_links (put p.cells s None)) s heads l.0 loose (λ t ne. free_links (λ n. n.chain) s None t ne) l.1;
        grayed = chain_stays (gray_links p.cells) (gray_links (put p.cells s None)) s first m.0 away (λ t ne. free_links (λ n. n.next) s None t ne) m.1;
        state_is = λ i. record { cells = map-put (shown_of p.turned) p.cells s None i; chains = l.0; gray = m.0; spare = spare i; cap = p.cap };
        law = give_back_law a law s taken loose away;
      }) es

  pub reserve_step : (q : PoolState) → q ≡ record p { room = q.room } → spare_of q + filled q.cells ≤ q.cap
      → ArenaStep q heads first (record a { spare = spare_of q })
  reserve_step q e fit =
      let room = q.room in
      subst (λ z. spare_of z + filled z.cells ≤ z.cap → ArenaStep z heads first (record a { spare = spare_of z })) (sym e)
      (λ f. record {
        chained = l.1;
        grayed = m.1;
        state_is = refl;
        law =
            reserve_law a law (spare_of (record p { room = room })) (let count = filled-map (shown_of p.turned) p.cells in omega (arith, f, count));
      }) fit

  turned_shown : ((s : ℕ) (n : Node) → get_or p.cells s None ≡ Some n → n.mark ≤ 1) → ((s : ℕ) → IsTaken a s → IsMarked a s) → (s : ℕ) (n : Node)
      → get_or p.cells s None ≡ Some n → shown_of (not p.turned) n ≡ with_marking false (shown_of p.turned n)
  turned_shown two all s n h =
      let here : taken_at a s ≡ Some (shown_of p.turned n) = shown_at s ∙ ap (option_map (shown_of p.turned)) h in
      unmarked_by p.turned n (two s n h) (sym (ap is_marked here) ∙ all s (shown_of p.turned n, here))

  -- the marks are turned
  pub turn_step : (q : PoolState) → q ≡ record p { turned = not p.turned } → ((s : ℕ) (n : Node) → get_or p.cells s None ≡ Some n → n.mark ≤ 1)
      → ((s : ℕ) → IsTaken a s → IsMarked a s) → a.gray ≡ []
      → ArenaStep q heads first (record a { cells = map (option_map (with_marking false)) a.cells })
  turn_step q e two all none = subst (λ z. ArenaStep z heads first (record a { cells = map (option_map (with_marking false)) a.cells })) (sym e) (record {
    chained = l.1;
    grayed = m.1;
    state_is = λ i. record a { cells = turned_cells p.turned p.cells (turned_shown two all) i };
    law = turn_law a law none;
  })

-- a slot is marked, and then goes in front of the gray list
module _ (x : Inside) (law : IsArena (opened x)) (q r : PoolState) (s : ℕ) (taken : IsTaken (opened x) s) (away : times s x.grayed.0 ≡ 0)
    (e : q ≡ record x.pool { cells = altered s (with_mark (mark_of x.pool.turned true)) x.pool.cells }) where
  abbrev b : ArenaState
  b = opened x

  abbrev marked : ArenaState
  marked = record b { cells = altered s (with_marking true) b.cells }

  abbrev mark_step : ArenaStep q x.heads x.gray_first marked
  mark_step = altered_step x law q s (with_mark (mark_of x.pool.turned true)) (with_marking true) taken e (λ n.
      (shown-marked x.pool.turned true n, refl, refl)) (altered_law b law s (with_marking true) taken.0 taken.1 (λ g. refl))

  -- the arena with the mark
  abbrev y : Inside
  y = record x { pool = q; chained = (x.chained.0, mark_step.chained); grayed = (x.grayed.0, mark_step.grayed) }

  mark_law : IsArena (opened y)
  mark_law = subst IsArena (sym mark_step.state_is) mark_step.law

  now_marked : IsMarked marked s
  now_marked = ap is_marked (get_or-put_same b.cells s (option_map (with_marking true) (get_or b.cells s None)) ∙ ap (option_map (with_marking true)) taken.1)

  now_taken : IsTaken marked s
  now_taken = let t = taken_marked marked s now_marked in (t.0, t.1)

  pub gray_push_held : IsHeld q.cells s
  gray_push_held = held_taken y mark_law s (subst (λ z. IsTaken z s) (sym mark_step.state_is) now_taken)

  pub gray_push_step : r ≡ record q { cells = altered s (with_next x.gray_first) q.cells }
      → ArenaStep r x.heads (Some s) (record b { cells = altered s (with_marking true) b.cells; gray = s ∷ b.gray })
  gray_push_step f =
      subst (λ z. ArenaStep r x.heads (Some s) (record z { gray = s ∷ z.gray })) mark_step.state_is
      (gray_link_step y mark_law r s (subst (λ z. IsMarked z s) (sym mark_step.state_is) now_marked) away f)

-- a slot is taken, or there is none
pub take_result_step : (x : Inside) (law : IsArena (opened x)) (q : PoolState) (b : CellBody) (r : Result ℕ ArenaFault)
    → IfOk r (λ s. get_or x.pool.cells s None ≡ None) → IfOk r (λ s. s < x.pool.cap)
    → IfOk r (λ s. q.cells ≡ put x.pool.cells s (Some (lone (mark_of x.pool.turned false) b))) → q.cap ≡ x.pool.cap → q.turned ≡ x.pool.turned
    → spare_of q + filled q.cells ≤ q.cap → OnErr r (q ≡ x.pool)
    → ArenaStep q x.heads x.gray_first (record (opened x) { cells = map (option_map (shown_of q.turned)) q.cells; spare = spare_of q })
take_result_step x law q b (Ok s) none lt e ec et fit err =
    let shows = shown_taken x.pool q s b e et in
    subst (λ z. ArenaStep q x.heads x.gray_first (record (opened x) { cells = z; spare = spare_of q })) (sym shows) (take_step x law q s b none lt e ec et fit)
take_result_step x law q b (Err f) none lt e ec et fit err =
    subst (λ z. ArenaStep z x.heads x.gray_first (record (opened x) { cells = map (option_map (shown_of z.turned)) z.cells; spare = spare_of z }))
    (sym err) (same_step x law x.pool refl)

empty_chains : (ls : Links) (n : ℕ) → AreChains ls (replicate n None) (replicate n [])
empty_chains ls zero = tt
empty_chains ls (suc n) = (tt, empty_chains ls n)

-- an arena of empty chains
pub new_step : (p : PoolState) (heads : List (Option ℕ)) (cap chains : ℕ) → cap ≤ 2 ^ 30 → chains ≤ 2 ^ 30
    → p ≡ record { cells = []; free = []; fresh = 0; room = 0; cap = cap; turned = false } → heads ≡ replicate chains None
    → ArenaStep p heads None (empty_arena cap chains)
new_step p heads cap chains lc lk e eh =
    subst (λ z. ArenaStep z heads None (empty_arena cap chains)) (sym e)
    (subst (λ h. ArenaStep (record { cells = []; free = []; fresh = 0; room = 0; cap = cap; turned = false }) h None (empty_arena cap chains))
    (sym eh) (record {
      chained = empty_chains [] chains;
      grayed = tt;
      state_is = (let none : min cap 0 - 0 ≡ 0 = omega arith in λ i. record { cells = []; chains = replicate chains []; gray = []; spare = none i; cap = cap });
      law = empty_law cap chains lc lk;
    }))

truncated : (ls : Links) (n : ℕ) (hs : List (Option ℕ)) (css : List (List ℕ)) → AreChains ls hs css → AreChains ls (take n hs) (take n css)
truncated ls zero hs css a = tt
truncated ls (suc n) [] [] a = tt
truncated ls (suc n) [] (c ∷ cs) a = absurd a
truncated ls (suc n) (h ∷ hs) [] a = absurd a
truncated ls (suc n) (h ∷ hs) (c ∷ cs) a = (a.0, truncated ls n hs cs a.1)

-- the first chain goes after n empty ones
pub behind_step : (x : Inside) (law : IsArena (opened x)) (new : List (Option ℕ)) (n : ℕ) (head : Option ℕ) → head ≡ get_or x.heads 0 None → n ≤ 2 ^ 30
    → new ≡ set (replicate (n + 1) None) n head → ArenaStep x.pool new x.gray_first
    (record (opened x) { chains = set (replicate (n + 1) []) n (get_or x.chained.0 0 []) })
behind_step x law new n head first le e =
    let chain = subst (λ z. IsChain (chain_links x.pool.cells) z (get_or x.chained.0 0 [])) (sym first)
    (chains.chain_at (chain_links x.pool.cells) x.heads x.chained.0 0 x.chained.1) in
    record {
      chained = subst (λ z. AreChains (chain_links x.pool.cells) z (set (replicate (n + 1) []) n (get_or x.chained.0 0 []))) (sym e)
          (chains-set (chain_links x.pool.cells) (replicate (n + 1) None) (replicate (n + 1) []) n head (get_or x.chained.0 0 [])
          (empty_chains (chain_links x.pool.cells) (n + 1)) chain);
      grayed = x.grayed.1;
      state_is = refl;
      law = behind_law (opened x) law n le;
    }

-- the first n chains alone stay
pub truncate_step : (x : Inside) (law : IsArena (opened x)) (new : List (Option ℕ)) (n : ℕ)
    → new ≡ take n x.heads → ArenaStep x.pool new x.gray_first (record (opened x) { chains = take n x.chained.0 })
truncate_step x law new n e = record {
  chained = subst (λ z. AreChains (chain_links x.pool.cells) z (take n x.chained.0)) (sym e)
      (truncated (chain_links x.pool.cells) n x.heads x.chained.0 x.chained.1);
  grayed = x.grayed.1;
  state_is = refl;
  law = truncate_law (opened x) law n;
}

-- n empty chains in place of the chains
pub cleared_step : (x : Inside) (law : IsArena (opened x)) (new : List (Option ℕ)) (n : ℕ)
    → new ≡ replicate n None → n ≤ 2 ^ 30 → ArenaStep x.pool new x.gray_first (record (opened x) { chains = replicate n [] })
cleared_step x law new n e le = record {
  chained = subst (λ z. AreChains (chain_links x.pool.cells) z (replicate n [])) (sym e) (empty_chains (chain_links x.pool.cells) n);
  grayed = x.grayed.1;
  state_is = refl;
  law = cleared_law (opened x) law n le;
}
