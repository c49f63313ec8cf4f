-- Slot by slot, from the last one down, what is not marked leaves the chain that its hash names, and goes back.
use Rattle.std.proofs.Common.{◌≡◌, ◌≢◌, ℕ, ◌+◌, ◌%◌, ◌<◌, ◌≤◌, inl, inr, List, [], ◌∷◌, length}
use Rattle.std.proofs.Common.{get_or, set, map, Some, None, refl, sym, ap, subst, ◌∙◌, arith}
use Rattle.std.specs.Prelude.{Option, Bool, true, false, not, cond, filter, nat_eq, nat_lt}
use Rattle.std.proofs.lemmas.List.{length-set, get_or-set_same, get_or-set_other}
use Rattle.std.proofs.lemmas.Bool.{cases_lt, lt-ltb, le-ltb}
use Rattle.std.proofs.lemmas.Bool.Decides.{eqb_tells}
use Rattle.rx_arena.specs.Put.{times, times_in, put}
use Rattle.rx_arena.specs.Arena.{Taken, ArenaState, taken_at, IsTaken, chain_at, InChain, IsLoose, hash_at}
use Rattle.rx_arena.specs.Arena.{stored_hash, is_marked, is_unmarked, marked_at, besides, IsArena}
use Rattle.rx_arena.proofs.PutLemmas.{one_if-same, times_in-set}
use Rattle.rx_arena.proofs.ChainLemmas.{some_chain}
use Rattle.rx_sweep.specs.Reach.{unmarked, home, IsHomed}
use Rattle.rx_sweep.specs.Inner.Marking.{SameButMarks}
use Rattle.rx_sweep.proofs.BareLemmas.{same_at, same_chain, same_chains}
use Rattle.rx_sweep.proofs.SweepLemmas.{lists_same, get_or-map_nil, length-map_lists, times-filter_true, times-filter_false, true_or_false}
use Rattle.rx_sweep.proofs.UnlinkingLemmas.{GivingBack, giving_taken, was_unmarked, giving_on, giving_past}
use Rattle.rx_arena.proofs.WalkLemmas.{chain_in}

hash-unmarked : (c : Option Taken) → stored_hash (unmarked c) ≡ stored_hash c
hash-unmarked None = refl
hash-unmarked (Some t) = refl

-- marks move no slot
pub same_homed : (a b : ArenaState) → SameButMarks a b → IsHomed a → IsHomed b
same_homed a b p homed s c h =
    homed s c (subst (λ z. 0 < times s z) (same_chain a b p c) h)
    ∙ sym (ap (λ h. h % length b.chains) hash ∙ ap (λ (cs : List (List ℕ)). hash_at a s % length cs) (same_chains a b p)) where
      hash : hash_at b s ≡ hash_at a s
      hash = sym (hash-unmarked (taken_at b s)) ∙ ap stored_hash (same_at a b p s) ∙ hash-unmarked (taken_at a s)

-- tests that agree on what a list names filter it alike
filter-agree : (p q : ℕ → Bool) (ts : List ℕ) → ((s : ℕ) → 0 < times s ts → p s ≡ q s) → filter p ts ≡ filter q ts
filter-agree p q [] same = refl
filter-agree p q (t ∷ ts) same = λ i. cond (same t (omega (arith, one_if-same t)) i) (t ∷ filter-agree p q ts (λ s h. same s (omega (arith, h))) i)
    (filter-agree p q ts (λ s h. same s (omega (arith, h))) i)

-- what passes both tests
filter-both : (p q : ℕ → Bool) (ts : List ℕ) → filter p (filter q ts) ≡ filter (λ s. cond (q s) (p s) false) ts
filter-both p q [] = refl
filter-both p q (t ∷ ts) = by_first (q t) (filter q ts) (filter (λ s. cond (q s) (p s) false) ts) (filter-both p q ts) where
  by_first : (y : Bool) (us vs : List ℕ) → filter p us ≡ vs → filter p (cond y (t ∷ us) us) ≡ cond (cond y (p t) false) (t ∷ vs) vs
  by_first true us vs e = ap (λ z. cond (p t) (t ∷ z) z) e
  by_first false us vs e = e

-- a list whose slots all pass the test stays
filter-all : (p : ℕ → Bool) (ts : List ℕ) → ((s : ℕ) → 0 < times s ts → p s ≡ true) → filter p ts ≡ ts
filter-all p [] all = refl
filter-all p (t ∷ ts) all = ap (λ y. cond y (t ∷ filter p ts) (filter p ts)) (all t (omega (arith, one_if-same t)))
    ∙ ap (λ z. t ∷ z) (filter-all p ts (λ s h. all s (omega (arith, h))))

-- a taken slot that is not unmarked is marked
pub not_white : (o : Option Taken) (t : Taken) → is_unmarked o ≡ false → is_marked o ≡ false → o ≡ Some t → ⊥
not_white o t white m e = neither t.marked (sym (ap is_marked e) ∙ m) (sym (ap is_unmarked e) ∙ white) where
  neither : (b : Bool) → b ≡ false → not b ≡ false → ⊥
  neither true p q = cc
  neither false p q = cc

-- whether a slot stays in its chain, where the slots from k on were looked at
abbrev stays : ArenaState → ℕ → ℕ → Bool
stays a k s = cond (marked_at a s) true (nat_lt s k)

stays-marked : (a : ArenaState) (k s : ℕ) → marked_at a s ≡ true → stays a k s ≡ true
stays-marked a k s e = ap (λ y. cond y true (nat_lt s k)) e

stays-below : (a : ArenaState) (k s : ℕ) → s < k → stays a k s ≡ true
stays-below a k s lt = elim (true_or_false (marked_at a s)) [
  | inl e ↦ stays-marked a k s e
  | inr e ↦ ap (λ y. cond y true (nat_lt s k)) e ∙ lt-ltb s k lt
]

-- the slot that is looked at next is the only one of which that changes
stays-next : (a : ArenaState) (k s : ℕ) → s ≢ k → stays a (k + 1) s ≡ stays a k s
stays-next a k s ne = ap (cond (marked_at a s) true) (elim (cases_lt s k) [
  | inl lt ↦ lt-ltb s (k + 1) (omega (arith, lt)) ∙ sym (lt-ltb s k lt)
  | inr le ↦ le-ltb s (k + 1) (omega (arith, le, ne)) ∙ sym (le-ltb s k le)
])

-- without the slot, if it is not marked
stays-besides : (a : ArenaState) (k : ℕ) → marked_at a k ≡ false → (s : ℕ) → cond (stays a (k + 1) s) (not (nat_eq s k)) false ≡ stays a k s
stays-besides a k white s = elim (eqb_tells s k) [
  | inl e ↦ (
      let off : marked_at a s ≡ false = ap (marked_at a) e.1 ∙ white in
      let past : stays a k s ≡ false = ap (λ y. cond y true (nat_lt s k)) off ∙ le-ltb s k (omega (arith, e.1)) in
      ap (λ y. cond (stays a (k + 1) s) (not y) false) e.0 ∙ never (stays a (k + 1) s) ∙ sym past)
  | inr e ↦ ap (λ y. cond (stays a (k + 1) s) (not y) false) e.0 ∙ itself (stays a (k + 1) s) ∙ stays-next a k s e.1
] where
  never : (y : Bool) → cond y false false ≡ false
  never true = refl
  never false = refl

  itself : (y : Bool) → cond y true false ≡ y
  itself true = refl
  itself false = refl

-- a slot that is in the chain that its hash names
module _ (a : ArenaState) (k : ℕ) (there : 0 < times k (chain_at a (home a k))) where
  some_chains : (css : List (List ℕ)) (c : ℕ) → 0 < times k (get_or css c []) → 0 < length css
  some_chains [] c h = absurd (omega (arith, h))
  some_chains (x ∷ xs) c h = omega arith

  pub home_some : 0 < length a.chains
  home_some = some_chains a.chains (home a k) there

  pub home_below : home a k < length a.chains
  home_below = omega (arith, home_some)

  -- it leaves that chain
  module _ (b : ArenaState) (chains : b.chains ≡ set a.chains (home a k) (besides k (chain_at a (home a k)))) where
    left_here : chain_at b (home a k) ≡ besides k (chain_at a (home a k))
    left_here = ap (λ (z : List (List ℕ)). get_or z (home a k) []) chains
        ∙ get_or-set_same a.chains (home a k) (besides k (chain_at a (home a k))) [] home_below

    left_else : (c : ℕ) → c ≢ home a k → chain_at b c ≡ chain_at a c
    left_else c ne = ap (λ (z : List (List ℕ)). get_or z c []) chains ∙ get_or-set_other a.chains (home a k) c (besides k (chain_at a (home a k))) [] ne

    not_itself : not (nat_eq k k) ≡ false
    not_itself = elim (eqb_tells k k) [ inl e ↦ ap not e.0 | inr e ↦ absurd (e.1 refl) ]

    -- it was there alone, so it is in no chain any more
    pub left_loose : IsArena a → IsLoose b k
    left_loose law =
        let count = times_in-set k a.chains (home a k) (besides k (chain_at a (home a k))) home_below in
        let gone = times-filter_false (λ t. not (nat_eq t k)) k (chain_at a (home a k)) not_itself in
        let same = ap (times_in k) chains in
        omega (arith, count, gone, same, law.alone k, there)

-- the slots from k on are freed if they are not marked, and have left the chains
pub record Sweeping (init : ArenaState) (k : ℕ) (self : ArenaState) : Type 0 where
  pub cells : GivingBack init k self
  pub count : length self.chains ≡ length init.chains
  pub left : (c : ℕ) → chain_at self c ≡ filter (stays init k) (chain_at init c)

-- no slot was looked at so far
pub sweeping_begins : (init : ArenaState) (k : ℕ) → IsArena init → init.gray ≡ [] → ((s : ℕ) → k ≤ s → taken_at init s ≡ None) → Sweeping init k init
sweeping_begins init k law gray past = record {
  cells = record {
    law = law;
    gray = gray;
    cap = refl;
    spare = refl;
    done = λ s le. past s le ∙ sym (ap (λ (o : Option Taken). cond (is_marked o) o None) (past s le));
    left = λ s lt. refl;
  };
  count = refl;
  left = λ c. sym (filter-all (stays init k) (chain_at init c) (λ s h. stays-below init k s (elim (cases_lt s k) [
    | inl lt ↦ lt
    | inr le ↦ (let some = (law.chained_taken s (chain_in init c s h)).1 in let none = past s le in cc)
  ])));
}

module _ (init : ArenaState) (k : ℕ) (self : ArenaState) (inv : Sweeping init (k + 1) self) where
  here : taken_at self k ≡ taken_at init k
  here = inv.cells.left k (omega arith)

  same_home : home self k ≡ home init k
  same_home = λ i. stored_hash (here i) % inv.count i

  pub sweeping_past : IsArena init → is_unmarked (taken_at self k) ≡ false → Sweeping init k self
  sweeping_past law white = record {
    cells = giving_past init k self inv.cells white;
    count = inv.count;
    left = λ c. inv.left c ∙ filter-agree (stays init (k + 1)) (stays init k) (chain_at init c) (λ s h. elim (eqb_tells s k) [
      | inl e ↦ elim (true_or_false (marked_at init s)) [
        | inl on ↦ stays-marked init (k + 1) s on ∙ sym (stays-marked init k s on)
        | inr off ↦ (
            let t = law.chained_taken s (chain_in init c s h) in
            absurd (not_white (taken_at init s) t.0 (ap (λ z. is_unmarked (taken_at init z)) e.1 ∙ sym (ap is_unmarked here) ∙ white) off t.1))
      ]
      | inr e ↦ stays-next init k s e.1
    ]);
  }

  module _ (yes : is_unmarked (taken_at self k) ≡ true) where
    white : marked_at init k ≡ false
    white = was_unmarked init k self inv.cells yes

    -- the slot is in the chain that its hash names
    pub sweeping_there : ((s : ℕ) → IsTaken init s → InChain init s) → IsHomed init → 0 < times k (chain_at self (home self k))
    sweeping_there chained homed =
        let t = giving_taken init k self inv.cells yes in
        let c = some_chain k init.chains (chained k (t.0, sym here ∙ t.1)) in
        let was : 0 < times k (chain_at init (home self k)) = subst (λ z. 0 < times k (chain_at init z)) (homed k c.0 c.2 ∙ sym same_home) c.2 in
        let kept = ap (times k) (inv.left (home self k)) ∙ times-filter_true (stays init (k + 1)) k (chain_at init (home self k))
        (stays-below init (k + 1) k (omega arith)) in
        omega (arith, was, kept)

    module _ (there : 0 < times k (chain_at self (home self k))) (two : ArenaState)
        (after : two ≡ record self {
          cells = put self.cells k None;
          chains = set self.chains (home self k) (besides k (chain_at self (home self k)));
          spare = self.spare + 1;
        }) where
      chains : two.chains ≡ set self.chains (home self k) (besides k (chain_at self (home self k)))
      chains = ap (λ (v : ArenaState). v.chains) after

      at_home : chain_at two (home self k) ≡ filter (stays init k) (chain_at init (home self k))
      at_home = left_here self k there two chains ∙ ap (besides k) (inv.left (home self k))
          ∙ filter-both (λ t. not (nat_eq t k)) (stays init (k + 1)) (chain_at init (home self k))
          ∙ filter-agree (λ s. cond (stays init (k + 1) s) (not (nat_eq s k)) false) (stays init k) (chain_at init (home self k)) (λ s h.
          stays-besides init k white s)

      -- the slot is in no other chain
      other : IsHomed init → (c : ℕ) → c ≢ home self k → chain_at two c ≡ filter (stays init k) (chain_at init c)
      other homed c ne = left_else self k there two chains c ne ∙ inv.left c
          ∙ filter-agree (stays init (k + 1)) (stays init k) (chain_at init c) (λ s h. elim (eqb_tells s k) [
            | inl e ↦ absurd (ne (homed k c (subst (λ z. 0 < times z (chain_at init c)) e.1 h) ∙ sym same_home))
            | inr e ↦ stays-next init k s e.1
          ])

      pub sweeping_on : IsHomed init → IsArena two → Sweeping init k two
      sweeping_on homed law = record {
        cells = giving_on init k self inv.cells yes two (set self.chains (home self k) (besides k (chain_at self (home self k)))) after law;
        count = ap length chains ∙ length-set self.chains (home self k) (besides k (chain_at self (home self k))) ∙ inv.count;
        left = λ c. elim (eqb_tells c (home self k)) [
          | inl e ↦ subst (λ z. chain_at two z ≡ filter (stays init k) (chain_at init z)) (sym e.1) at_home
          | inr e ↦ other homed c e.1
        ];
      }

-- all slots were looked at
pub sweeping_end : (init : ArenaState) (k : ℕ) (self : ArenaState) → Sweeping init k self → k ≤ 0
    → self.chains ≡ map (filter (λ s. marked_at init s)) init.chains
sweeping_end init k self inv zero = lists_same self.chains (map (filter (λ s. marked_at init s)) init.chains)
    (inv.count ∙ sym (length-map_lists (filter (λ s. marked_at init s)) init.chains))
    (λ c h. inv.left c ∙ filter-agree (stays init k) (λ s. marked_at init s) (chain_at init c) (λ s h.
    ap (cond (marked_at init s) true) (le-ltb s k (omega (arith, zero))) ∙ itself (marked_at init s))
    ∙ sym (get_or-map_nil (filter (λ s. marked_at init s)) refl init.chains c)) where
      itself : (y : Bool) → cond y true false ≡ y
      itself true = refl
      itself false = refl
