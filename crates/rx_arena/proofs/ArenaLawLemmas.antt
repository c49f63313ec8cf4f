-- What is true of every arena stays true: of what users see alone.
use Rattle.std.proofs.Common.{◌≡◌, ◌≢◌, ℕ, zero, suc, ◌+◌, ◌<◌, ◌≤◌, inl, inr, List, [], ◌∷◌, ◌++◌}
use Rattle.std.proofs.Common.{length, get_or, set, map, Some, None, refl, sym, ap, subst, ◌∙◌, arith}
use Rattle.std.specs.Prelude.{Option, true, false, replicate, take, ◌^◌}
use Rattle.std.specs.Option.{option_map}
use Rattle.std.proofs.lemmas.List.{length-set, length-replicate, length-take}
use Rattle.rx_arena.specs.Put.{one_if, times, times_in, put, one_some, filled, altered}
use Rattle.rx_arena.specs.Arena.{Taken, ArenaState, taken_at, IsTaken, taken_count, chain_at, IsLoose}
use Rattle.rx_arena.specs.Arena.{marked_at, is_marked, IsMarked, IsArena, empty_arena, with_marking}
use Rattle.rx_arena.proofs.PutLemmas.{one_or_two, one_if-same, get_or-put_same, get_or-put_other, filled-put}
use Rattle.rx_arena.proofs.PutLemmas.{filled-map, get_or-map_option, times_in-set, times_in-at}
use Rattle.rx_arena.proofs.ChainLemmas.{one_or_more}

pub times_in-replicate : (s n : ℕ) → times_in s (replicate n []) ≡ 0
times_in-replicate s zero = refl
times_in-replicate s (suc n) = omega (arith, times_in-replicate s n)

pub empty_law : (cap chains : ℕ) → cap ≤ 2 ^ 30 → chains ≤ 2 ^ 30 → IsArena (empty_arena cap chains)
empty_law cap chains lc lk = record {
  alone = λ s. omega (arith, times_in-replicate s chains);
  chained_taken = λ s h. absurd (omega (arith, h, times_in-replicate s chains));
  gray_once = λ s. omega arith;
  gray_marked = λ s h. absurd (omega (arith, h));
  fits = omega arith;
  below = λ s h. (let e = h.1 in absurd (cc));
  few_chains = omega (arith, length-replicate chains (let n : List ℕ = [] in n), lk);
  small_cap = lc;
}

-- what lies at a slot that is marked
some_of : (c : Option Taken) → is_marked c ≡ true → (t : Taken) × (c ≡ Some t) × (t.marked ≡ true)
some_of None e = cc
some_of (Some t) e = (t, refl, e)

pub taken_marked : (a : ArenaState) (s : ℕ) → IsMarked a s → (t : Taken) × (taken_at a s ≡ Some t) × (t.marked ≡ true)
taken_marked a s e = some_of (taken_at a s) e

-- other chains with the same slots, or some of them
chains_law : (a : ArenaState) → IsArena a → (css : List (List ℕ)) → ((s : ℕ) → times_in s css ≤ times_in s a.chains) → length css < 2 ^ 32
    → IsArena (record a { chains = css })
chains_law a law css fewer few = record {
  alone = λ s. omega (arith, fewer s, law.alone s);
  chained_taken = λ s h. law.chained_taken s (omega (arith, h, fewer s));
  gray_once = law.gray_once;
  gray_marked = law.gray_marked;
  fits = law.fits;
  below = law.below;
  few_chains = few;
  small_cap = law.small_cap;
}

module _ (a : ArenaState) (law : IsArena a) where
  pub push_law : (c s : ℕ) → c < length a.chains → IsTaken a s → IsLoose a s → IsArena (record a { chains = set a.chains c (s ∷ chain_at a c) })
  push_law c s lt taken loose =
      let added : (t : ℕ) → times_in t (set a.chains c (s ∷ chain_at a c)) ≡ times_in t a.chains + one_if s t = λ t.
      omega (arith, times_in-set t a.chains c (s ∷ chain_at a c) lt) in
      record {
        alone = λ t. elim (one_or_two s t) [
          | inl h ↦ (let none = subst (λ z. times_in z a.chains ≡ 0) h.1 loose in omega (arith, added t, h.0, none))
          | inr h ↦ omega (arith, added t, h.0, law.alone t)
        ];
        chained_taken = λ t i. elim (one_or_two s t) [
          | inl h ↦ subst (IsTaken a) h.1 taken
          | inr h ↦ law.chained_taken t (omega (arith, i, added t, h.0))
        ];
        gray_once = law.gray_once;
        gray_marked = law.gray_marked;
        fits = law.fits;
        below = law.below;
        few_chains = omega (arith, length-set a.chains c (s ∷ chain_at a c), law.few_chains);
        small_cap = law.small_cap;
      }

  -- a chain that loses some of its slots
  pub shrink_law : (c : ℕ) (d : List ℕ) → c < length a.chains → ((t : ℕ) → times t d ≤ times t (chain_at a c))
      → IsArena (record a { chains = set a.chains c d })
  shrink_law c d lt fewer = chains_law a law (set a.chains c d) (λ t. omega (arith, times_in-set t a.chains c d lt, fewer t))
      (omega (arith, length-set a.chains c d, law.few_chains))

  pub pop_law : (c s : ℕ) (rest : List ℕ) → c < length a.chains → chain_at a c ≡ s ∷ rest → IsArena (record a { chains = set a.chains c rest })
  pop_law c s rest lt e = shrink_law c rest lt (λ t. subst (λ z. times t rest ≤ times t z) (sym e) (omega arith))

  -- the first slot of a chain stands nowhere else
  pub pop_loose : (c s : ℕ) (rest : List ℕ) → c < length a.chains → chain_at a c ≡ s ∷ rest → IsLoose (record a { chains = set a.chains c rest }) s
  pop_loose c s rest lt e =
      let count = subst (λ z. times_in s (set a.chains c rest) + times s z ≡ times_in s a.chains + times s rest) e (times_in-set s a.chains c rest lt) in
      omega (arith, count, one_if-same s, law.alone s)

  pub pop_taken : (c s : ℕ) (rest : List ℕ) → chain_at a c ≡ s ∷ rest → IsTaken a s
  pop_taken c s rest e =
      let here : 0 < times s (chain_at a c) = subst (λ z. 0 < times s z) (sym e) (omega (arith, one_if-same s)) in
      law.chained_taken s (omega (arith, here, times_in-at s a.chains c))

  pub gray_first_marked : (s : ℕ) (rest : List ℕ) → a.gray ≡ s ∷ rest → IsMarked a s
  gray_first_marked s rest e = law.gray_marked s (subst (λ z. 0 < times s z) (sym e) (omega (arith, one_if-same s)))

  -- a change of what lies at one taken slot
  changed_law : (s : ℕ) (t u : Taken) → taken_at a s ≡ Some t → (0 < times s a.gray → u.marked ≡ true) → IsArena (record a { cells = put a.cells s (Some u) })
  changed_law s t u e marked =
      let was : one_some (taken_at a s) ≡ 1 = ap one_some e in
      let count : filled (put a.cells s (Some u)) ≡ filled a.cells = omega (arith, filled-put a.cells s (Some u), was) in
      record {
        alone = law.alone;
        chained_taken = λ k i. elim (one_or_two k s) [
          | inl h ↦ (u, subst (λ z. get_or (put a.cells s (Some u)) z None ≡ Some u) (sym h.1) (get_or-put_same a.cells s (Some u)))
          | inr h ↦ (let old = law.chained_taken k i in (old.0, get_or-put_other a.cells s k (Some u) h.1 ∙ old.1))
        ];
        gray_once = law.gray_once;
        gray_marked = λ k i. elim (one_or_two k s) [
          | inl h ↦ subst (λ z. is_marked (get_or (put a.cells s (Some u)) z None) ≡ true) (sym h.1)
              (ap is_marked (get_or-put_same a.cells s (Some u)) ∙ marked (subst (λ z. 0 < times z a.gray) h.1 i))
          | inr h ↦ ap is_marked (get_or-put_other a.cells s k (Some u) h.1) ∙ law.gray_marked k i
        ];
        fits = omega (arith, law.fits, count);
        below = λ k i. elim (one_or_two k s) [
          | inl h ↦ law.below k (t, subst (λ z. taken_at a z ≡ Some t) (sym h.1) e)
          | inr h ↦ law.below k (i.0, sym (get_or-put_other a.cells s k (Some u) h.1) ∙ i.1)
        ];
        few_chains = law.few_chains;
        small_cap = law.small_cap;
      }

  pub altered_law : (s : ℕ) (f : Taken → Taken) (t : Taken) → taken_at a s ≡ Some t → (0 < times s a.gray → (f t).marked ≡ true)
      → IsArena (record a { cells = altered s f a.cells })
  altered_law s f t e marked = subst (λ z. IsArena (record a { cells = put a.cells s z })) (sym (ap (option_map f) e)) (changed_law s t (f t) e marked)

  -- a slot that is gray is marked, and so one that is not marked is not gray
  pub unmarked_away : (s : ℕ) → marked_at a s ≡ false → times s a.gray ≡ 0
  unmarked_away s e = elim (one_or_more (times s a.gray)) [ inl z ↦ z | inr h ↦ (let m = law.gray_marked s h in absurd (cc)) ]

  pub gray_law : (s : ℕ) → IsMarked a s → times s a.gray ≡ 0 → IsArena (record a { gray = s ∷ a.gray })
  gray_law s marked away = record {
    alone = law.alone;
    chained_taken = law.chained_taken;
    gray_once = λ t. elim (one_or_two s t) [
      | inl h ↦ (let none = subst (λ z. times z a.gray ≡ 0) h.1 away in omega (arith, h.0, none))
      | inr h ↦ omega (arith, h.0, law.gray_once t)
    ];
    gray_marked = λ t i. elim (one_or_two s t) [
      | inl h ↦ subst (IsMarked a) h.1 marked
      | inr h ↦ law.gray_marked t (omega (arith, i, h.0))
    ];
    fits = law.fits;
    below = law.below;
    few_chains = law.few_chains;
    small_cap = law.small_cap;
  }

  pub gray_pop_law : (s : ℕ) (rest : List ℕ) → a.gray ≡ s ∷ rest → IsArena (record a { gray = rest })
  gray_pop_law s rest e =
      let fewer : (t : ℕ) → times t rest ≤ times t a.gray = λ t. subst (λ z. times t rest ≤ times t z) (sym e) (omega arith) in
      record {
        alone = law.alone;
        chained_taken = law.chained_taken;
        gray_once = λ t. omega (arith, fewer t, law.gray_once t);
        gray_marked = λ t i. law.gray_marked t (omega (arith, i, fewer t));
        fits = law.fits;
        below = law.below;
        few_chains = law.few_chains;
        small_cap = law.small_cap;
      }

  -- the first of the gray slots is there alone
  pub gray_first_away : (s : ℕ) (rest : List ℕ) → a.gray ≡ s ∷ rest → times s rest ≡ 0
  gray_first_away s rest e = let one = subst (λ z. times s z ≤ 1) e (law.gray_once s) in omega (arith, one, one_if-same s)

  pub loose_free : (s : ℕ) → taken_at a s ≡ None → IsLoose a s
  loose_free s none = elim (one_or_more (times_in s a.chains)) [ inl z ↦ z | inr h ↦ (let t = law.chained_taken s h in let e = t.1 in absurd (cc)) ]

  pub take_law : (s : ℕ) (u : Taken) (spare : ℕ) → taken_at a s ≡ None → s < a.cap → spare + filled (put a.cells s (Some u)) ≤ a.cap
      → IsArena (record a { cells = put a.cells s (Some u); spare = spare })
  take_law s u spare none lt fit = record {
    alone = law.alone;
    chained_taken = λ k i. (let old = law.chained_taken k i in
        let ne : k ≢ s = λ e. (let n = subst (λ z. taken_at a z ≡ None) (sym e) none in let o = old.1 in absurd (cc)) in
        (old.0, get_or-put_other a.cells s k (Some u) ne ∙ old.1));
    gray_once = law.gray_once;
    gray_marked = λ k i. (let old = law.gray_marked k i in
        let ne : k ≢ s = λ e. (let n = ap is_marked (subst (λ z. taken_at a z ≡ None) (sym e) none) in absurd (cc)) in
        ap is_marked (get_or-put_other a.cells s k (Some u) ne) ∙ old);
    fits = fit;
    below = λ k i. elim (one_or_two k s) [
      | inl h ↦ subst (λ z. z < a.cap) (sym h.1) lt
      | inr h ↦ law.below k (i.0, sym (get_or-put_other a.cells s k (Some u) h.1) ∙ i.1)
    ];
    few_chains = law.few_chains;
    small_cap = law.small_cap;
  }

  pub give_back_law : (s : ℕ) → IsTaken a s → IsLoose a s → times s a.gray ≡ 0 → IsArena (record a { cells = put a.cells s None; spare = a.spare + 1 })
  give_back_law s taken loose away =
      let was : one_some (taken_at a s) ≡ 1 = ap one_some taken.1 in
      let count : filled (put a.cells s None) + 1 ≡ filled a.cells = omega (arith, filled-put a.cells s None, was) in
      record {
        alone = law.alone;
        chained_taken = λ k i. (let old = law.chained_taken k i in
            let ne : k ≢ s = λ e. (let l = subst (λ z. times_in z a.chains ≡ 0) (sym e) loose in absurd (omega (arith, l, i))) in
            (old.0, get_or-put_other a.cells s k None ne ∙ old.1));
        gray_once = law.gray_once;
        gray_marked = λ k i. (let ne : k ≢ s = λ e. (let l = subst (λ z. times z a.gray ≡ 0) (sym e) away in absurd (omega (arith, l, i))) in
            ap is_marked (get_or-put_other a.cells s k None ne) ∙ law.gray_marked k i);
        fits = omega (arith, law.fits, count);
        below = λ k i. elim (one_or_two k s) [
          | inl h ↦ law.below k (taken.0, subst (λ z. taken_at a z ≡ Some taken.0) (sym h.1) taken.1)
          | inr h ↦ law.below k (i.0, sym (get_or-put_other a.cells s k None h.1) ∙ i.1)
        ];
        few_chains = law.few_chains;
        small_cap = law.small_cap;
      }

  pub reserve_law : (spare : ℕ) → spare + taken_count a ≤ a.cap → IsArena (record a { spare = spare })
  reserve_law spare fit = record {
    alone = law.alone;
    chained_taken = law.chained_taken;
    gray_once = law.gray_once;
    gray_marked = law.gray_marked;
    fits = fit;
    below = law.below;
    few_chains = law.few_chains;
    small_cap = law.small_cap;
  }

  pub gray_mark : (s : ℕ) (t : Taken) → taken_at a s ≡ Some t → 0 < times s a.gray → t.marked ≡ true
  gray_mark s t e g = sym (ap is_marked e) ∙ law.gray_marked s g

pub times_in-append : (s : ℕ) (xs ys : List (List ℕ)) → times_in s (xs ++ ys) ≡ times_in s xs + times_in s ys
times_in-append s [] ys = omega arith
times_in-append s (x ∷ xs) ys = omega (arith, times_in-append s xs ys)

pub times_in-take : (s n : ℕ) (xs : List (List ℕ)) → times_in s (take n xs) ≤ times_in s xs
times_in-take s zero xs = omega arith
times_in-take s (suc n) [] = omega arith
times_in-take s (suc n) (x ∷ xs) = omega (arith, times_in-take s n xs)

-- a chain of the arena after n empty ones
pub behind_law : (a : ArenaState) → IsArena a → (n : ℕ) → n ≤ 2 ^ 30 → IsArena (record a { chains = set (replicate (n + 1) []) n (chain_at a 0) })
behind_law a law n le =
    let none : List ℕ = [] in
    let len = length-replicate (n + 1) none in
    chains_law a law (set (replicate (n + 1) []) n (chain_at a 0))
    (λ s. (let count = times_in-set s (replicate (n + 1) []) n (chain_at a 0) (omega (arith, len)) in
    omega (arith, count, times_in-replicate s (n + 1), times_in-at s a.chains 0)))
    (omega (arith, le, len, length-set (replicate (n + 1) none) n (chain_at a 0)))

pub truncate_law : (a : ArenaState) → IsArena a → (n : ℕ) → IsArena (record a { chains = take n a.chains })
truncate_law a law n = chains_law a law (take n a.chains) (λ s. times_in-take s n a.chains) (omega (arith, length-take n a.chains, law.few_chains))

pub cleared_law : (a : ArenaState) → IsArena a → (n : ℕ) → n ≤ 2 ^ 30 → IsArena (record a { chains = replicate n [] })
cleared_law a law n le = chains_law a law (replicate n []) (λ s. omega (arith, times_in-replicate s n)) (let none : List ℕ = [] in
    omega (arith, le, length-replicate n none))

-- all marks are forgotten, if no slot is gray
unmarked_some : (o : Option Taken) (t : Taken) → o ≡ Some t → option_map (with_marking false) o ≡ Some (with_marking false t)
unmarked_some o t e = ap (option_map (with_marking false)) e

some_unmarked : (o : Option Taken) (t : Taken) → option_map (with_marking false) o ≡ Some t → (u : Taken) × (o ≡ Some u)
some_unmarked None t e = absurd (cc)
some_unmarked (Some u) t e = (u, refl)

pub turn_law : (a : ArenaState) → IsArena a → a.gray ≡ [] → IsArena (record a { cells = map (option_map (with_marking false)) a.cells })
turn_law a law none = record {
  alone = law.alone;
  chained_taken = λ s h. (let t = law.chained_taken s h in (
    with_marking false t.0,
    get_or-map_option (with_marking false) a.cells s ∙ unmarked_some (taken_at a s) t.0 t.1,
  ));
  gray_once = law.gray_once;
  gray_marked = λ s h. absurd (let no : times s a.gray ≡ 0 = ap (times s) none in omega (arith, h, no));
  fits = (let same = filled-map (with_marking false) a.cells in let fit = law.fits in omega (arith, same, fit));
  below = λ s h. law.below s (some_unmarked (taken_at a s) h.0 (sym (get_or-map_option (with_marking false) a.cells s) ∙ h.1));
  few_chains = law.few_chains;
  small_cap = law.small_cap;
}
