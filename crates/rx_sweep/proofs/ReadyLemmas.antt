-- What keeps an arena ready for a collection: a new one, a cell with parts that are there, a root, a gray slot.
use Rattle.std.proofs.Common.{◌≡◌, ◌≢◌, ℕ, ◌+◌, ◌<◌, inl, inr, List, [], ◌∷◌, length, get_or, set, Some, None, refl, sym, ap, subst, ◌∙◌, arith}
use Rattle.std.specs.Prelude.{Option, Bool, true, false, IfSome, cond, nat_eq}
use Rattle.std.specs.Option.{option_map}
use Rattle.rx_arena.specs.declared.CellBody.{CellBody}
use Rattle.rx_arena.specs.declared.Slot.{Slot}
use Rattle.rx_arena.specs.Put.{one_if, times, times_in, put, altered}
use Rattle.rx_arena.specs.Arena.{Taken, ArenaState, taken_at, IsTaken, chain_at, IsLoose, is_marked, marked_at, new_cell, with_count, with_marking}
use Rattle.rx_arena.proofs.PutLemmas.{one_or_two, get_or-put_same, get_or-put_other, times_in-set, times-append}
use Rattle.rx_arena.proofs.ChainLemmas.{one_or_more}
use Rattle.rx_arena.proofs.ArenaCallLemmas.{two_slots, just_taken, taken_else}
use Rattle.rx_sweep.specs.Reach.{annotations, words, names, cell_names, named_at, CanCollect}

part_in : (a s : ℕ) (ts : List ℕ) (P : ℕ → Type 0) → P a → (0 < times s ts → P s) → 0 < times s (a ∷ ts) → P s
part_in a s ts P here there h = elim (one_or_two a s) [ inl e ↦ subst P e.1 here | inr e ↦ there (omega (arith, h, e.0)) ]

either_in : (x : Bool) (s : ℕ) (us vs : List ℕ) (X : Type 0) → (0 < times s us → X) → (0 < times s vs → X) → 0 < times s (cond x us vs) → X
either_in true s us vs X u v h = u h
either_in false s us vs X u v h = v h

noted_in : (anns : Option Slot) (s : ℕ) (P : ℕ → Type 0) → IfSome anns (λ t. P t.0) → 0 < times s (annotations anns) → P s
noted_in None s P notes h = absurd (omega (arith, h))
noted_in (Some t) s P notes h = part_in t.0 s [] P notes (λ z. absurd (omega (arith, z))) h

-- what a body names is one of its words or its annotations
pub named_in : (b : CellBody) (P : ℕ → Type 0) → P b.a → P b.b → IfSome b.anns (λ t. P t.0) → (s : ℕ) → 0 < times s (names b) → P s
named_in b P first second notes s h =
    let none : 0 < times s [] → P s = λ z. absurd (omega (arith, z)) in
    let only_second = part_in b.b s [] P second none in
    let only_first = part_in b.a s [] P first none in
    let in_words = either_in (nat_eq b.kind 2) s (b.a ∷ b.b ∷ []) (cond (nat_eq b.kind 3) (b.b ∷ []) (cond (nat_eq b.kind 4) (b.a ∷ []) [])) (P s)
    (part_in b.a s (b.b ∷ []) P first only_second)
    (either_in (nat_eq b.kind 3) s (b.b ∷ []) (cond (nat_eq b.kind 4) (b.a ∷ []) []) (P s) only_second
    (either_in (nat_eq b.kind 4) s (b.a ∷ []) [] (P s) only_first none)) in
    let count = times-append s (annotations b.anns) (words b.kind b.a b.b) in
    elim (one_or_more (times s (annotations b.anns))) [
      | inl z ↦ in_words (omega (arith, count, z, h))
      | inr n ↦ noted_in b.anns s P notes n
    ]

-- a slot is taken, and goes in front of a chain
module _ (old taken linked : ArenaState) (k c : ℕ) (b : CellBody) (free : taken_at old k ≡ None)
    (cells : taken.cells ≡ put old.cells k (Some (new_cell b))) (rest : taken ≡ record old { cells = taken.cells; spare = taken.spare })
    (loose : IsLoose taken k) (lt : c < length taken.chains) (after : linked ≡ record taken { chains = set taken.chains c (k ∷ chain_at taken c) }) where
  linked_here : taken_at linked k ≡ Some (new_cell b)
  linked_here = ap (λ (v : ArenaState). taken_at v k) after ∙ just_taken old taken k (new_cell b) cells

  linked_else : (s : ℕ) → s ≢ k → taken_at linked s ≡ taken_at old s
  linked_else s ne = ap (λ (v : ArenaState). taken_at v s) after ∙ taken_else old taken k (new_cell b) cells s ne

  pub linked_taken : IsTaken linked k
  linked_taken = (new_cell b, linked_here)

  pub linked_still : (s : ℕ) → IsTaken old s → IsTaken linked s
  linked_still s h = (h.0, linked_else s (two_slots old s k h free) ∙ h.1)

  linked_count : (s : ℕ) → times_in s linked.chains ≡ times_in s old.chains + one_if k s
  linked_count s =
      let is : times_in s linked.chains ≡ times_in s (set taken.chains c (k ∷ chain_at taken c)) = ap (λ (v : ArenaState). times_in s v.chains) after in
      let same : times_in s taken.chains ≡ times_in s old.chains = ap (λ (v : ArenaState). times_in s v.chains) rest in
      omega (arith, is, same, times_in-set s taken.chains c (k ∷ chain_at taken c) lt)

  was_loose : IsLoose old k
  was_loose = sym (ap (λ (v : ArenaState). times_in k v.chains) rest) ∙ loose

  same_gray : linked.gray ≡ old.gray
  same_gray = ap (λ (v : ArenaState). v.gray) after ∙ ap (λ (v : ArenaState). v.gray) rest

  pub linked_ready : CanCollect old → ((s : ℕ) → 0 < times s (names b) → IsTaken old s) → CanCollect linked
  linked_ready can parts = record {
    chained = λ s h. elim (one_or_two k s) [
      | inl e ↦ (let none : times_in s old.chains ≡ 0 = subst (IsLoose old) e.1 was_loose in omega (arith, linked_count s, e.0, none))
      | inr e ↦ (let one = can.chained s (h.0, sym (linked_else s (λ p. e.1 (sym p))) ∙ h.1) in omega (arith, linked_count s, e.0, one))
    ];
    closed = λ s t h. elim (one_or_two k s) [
      | inl e ↦ linked_still t (parts t (subst (λ z. 0 < times t z) (ap (named_at linked) (sym e.1) ∙ ap cell_names linked_here) h))
      | inr e ↦ linked_still t (can.closed s t (subst (λ z. 0 < times t z) (ap cell_names (linked_else s (λ p. e.1 (sym p)))) h))
    ];
    marked_gray = λ s h. elim (one_or_two k s) [
      | inl e ↦ absurd (let clear : marked_at linked s ≡ false = ap (marked_at linked) (sym e.1) ∙ ap is_marked linked_here in cc)
      | inr e ↦ subst (λ z. 0 < times s z) (sym same_gray) (can.marked_gray s (sym (ap is_marked (linked_else s (λ p. e.1 (sym p)))) ∙ h))
    ];
  }

-- a taken slot is changed, but not its body
module _ (f : Taken → Taken) (same : (t : Taken) → (f t).body ≡ t.body) (old new : ArenaState) (k : ℕ) (cells : new.cells ≡ altered k f old.cells) where
  changed_at : (s : ℕ) → taken_at new s ≡ get_or (altered k f old.cells) s None
  changed_at s = ap (λ (z : List (Option Taken)). get_or z s None) cells

  changed_else : (s : ℕ) → s ≢ k → taken_at new s ≡ taken_at old s
  changed_else s ne = changed_at s ∙ get_or-put_other old.cells k s (option_map f (get_or old.cells k None)) ne

  changed_here : taken_at new k ≡ option_map f (taken_at old k)
  changed_here = changed_at k ∙ get_or-put_same old.cells k (option_map f (get_or old.cells k None))

  names_changed : (c : Option Taken) → cell_names (option_map f c) ≡ cell_names c
  names_changed None = refl
  names_changed (Some t) = ap names (same t)

  some_changed : (c : Option Taken) (t : Taken) → option_map f c ≡ Some t → (u : Taken) × (c ≡ Some u)
  some_changed None t e = absurd (cc)
  some_changed (Some u) t e = (u, refl)

  pub changed_names : (s : ℕ) → named_at new s ≡ named_at old s
  changed_names s = elim (one_or_two s k) [
    | inl e ↦ ap (named_at new) e.1 ∙ ap cell_names changed_here ∙ names_changed (taken_at old k) ∙ ap (named_at old) (sym e.1)
    | inr e ↦ ap cell_names (changed_else s e.1)
  ]

  pub changed_still : (s : ℕ) → IsTaken old s → IsTaken new s
  changed_still s h = elim (one_or_two s k) [
    | inl e ↦ subst (IsTaken new) (sym e.1) (f h.0, changed_here ∙ ap (option_map f) (ap (taken_at old) (sym e.1) ∙ h.1))
    | inr e ↦ (h.0, changed_else s e.1 ∙ h.1)
  ]

  pub changed_was : (s : ℕ) → IsTaken new s → IsTaken old s
  changed_was s h = elim (one_or_two s k) [
    | inl e ↦ subst (IsTaken old) (sym e.1) (some_changed (taken_at old k) h.0 (sym changed_here ∙ ap (taken_at new) (sym e.1) ∙ h.1))
    | inr e ↦ (h.0, sym (changed_else s e.1) ∙ h.1)
  ]

  changed_closed : CanCollect old → (s t : ℕ) → 0 < times t (named_at new s) → IsTaken new t
  changed_closed can s t h = changed_still t (can.closed s t (subst (λ z. 0 < times t z) (changed_names s) h))

mark-counted : (n : ℕ) (c : Option Taken) → is_marked (option_map (with_count n) c) ≡ is_marked c
mark-counted n None = refl
mark-counted n (Some t) = refl

pub rooted_ready : (old new : ArenaState) (k n : ℕ) → new ≡ record old { cells = altered k (with_count n) old.cells } → CanCollect old → CanCollect new
rooted_ready old new k n e can =
    let cells = ap (λ (v : ArenaState). v.cells) e in
    record {
      chained = λ s h. ap (λ (v : ArenaState). times_in s v.chains) e ∙ can.chained s (changed_was (with_count n) (λ t. refl) old new k cells s h);
      closed = changed_closed (with_count n) (λ t. refl) old new k cells can;
      marked_gray = λ s h. subst (λ z. 0 < times s z) (sym (ap (λ (v : ArenaState). v.gray) e)) (can.marked_gray s (elim (one_or_two s k) [
        | inl i ↦ ap (marked_at old) i.1 ∙ sym (mark-counted n (taken_at old k))
            ∙ sym (ap is_marked (changed_here (with_count n) (λ t. refl) old new k cells)) ∙ ap (marked_at new) (sym i.1) ∙ h
        | inr i ↦ sym (ap is_marked (changed_else (with_count n) (λ t. refl) old new k cells s i.1)) ∙ h
      ]));
    }

pub grayed_ready : (old new : ArenaState) (k : ℕ) → new ≡ record old { cells = altered k (with_marking true) old.cells; gray = k ∷ old.gray }
    → CanCollect old → CanCollect new
grayed_ready old new k e can =
    let cells = ap (λ (v : ArenaState). v.cells) e in
    record {
      chained = λ s h. ap (λ (v : ArenaState). times_in s v.chains) e ∙ can.chained s (changed_was (with_marking true) (λ t. refl) old new k cells s h);
      closed = changed_closed (with_marking true) (λ t. refl) old new k cells can;
      marked_gray = λ s h. subst (λ z. 0 < times s z) (sym (ap (λ (v : ArenaState). v.gray) e)) (elim (one_or_two k s) [
        | inl i ↦ omega (arith, i.0)
        | inr i ↦ (let in_old = can.marked_gray s
            (sym (ap is_marked (changed_else (with_marking true) (λ t. refl) old new k cells s (λ p. i.1 (sym p)))) ∙ h) in omega (arith, in_old))
      ]);
    }
