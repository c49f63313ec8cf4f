-- The slots that are not marked leave the chains, and are then freed from the last one on.
use Rattle.std.proofs.Common.{◌≡◌, ◌≢◌, ℕ, ◌+◌, ◌<◌, ◌≤◌, inl, inr, List, [], ◌∷◌, length, get_or, set, map, Some, None, refl, sym, ap, subst, ◌∙◌, arith}
use Rattle.std.specs.Prelude.{Option, Bool, true, false, cond, not, filter}
use Rattle.std.proofs.lemmas.List.{length-set, get_or-set_same, get_or-set_other}
use Rattle.std.proofs.lemmas.Bool.Decides.{eqb_tells}
use Rattle.rx_arena.specs.Put.{times_in, put, one_some, filled}
use Rattle.rx_arena.specs.Arena.{Taken, ArenaState, taken_at, IsTaken, taken_count, chain_at, IsLoose, is_marked}
use Rattle.rx_arena.specs.Arena.{is_unmarked, marked_at, IsMarked, root_count, roots_at, kept_in, IsArena}
use Rattle.rx_arena.proofs.PutLemmas.{get_or-put_same, get_or-put_other, filled-put}
use Rattle.rx_arena.proofs.ChainLemmas.{one_or_more}
use Rattle.rx_sweep.proofs.RootStepLemmas.{below_next}
use Rattle.rx_sweep.proofs.SweepLemmas.{lists_same, get_or-map_nil, length-map_lists, times-filter_false}

-- the first i chains have their marked slots alone
pub record Unlinking (init : ArenaState) (i : ℕ) (self : ArenaState) : Type 0 where
  pub law : IsArena self
  pub rest : self ≡ record init { chains = self.chains }
  pub count : length self.chains ≡ length init.chains
  pub done : (c : ℕ) → c < i → chain_at self c ≡ kept_in init c
  pub left : (c : ℕ) → i ≤ c → chain_at self c ≡ chain_at init c

pub unlinking_begins : (init : ArenaState) → IsArena init → Unlinking init 0 init
unlinking_begins init law = record { law = law; rest = refl; count = refl; done = λ c lt. absurd (omega (arith, lt)); left = λ c le. refl }

module _ (init : ArenaState) (i : ℕ) (self : ArenaState) (inv : Unlinking init i self) where
  pub unlinking_within : i < length init.chains → i < length self.chains
  unlinking_within lt = omega (arith, lt, inv.count)

  pub unlinking_gray : init.gray ≡ [] → self.gray ≡ []
  unlinking_gray e = ap (λ (v : ArenaState). v.gray) inv.rest ∙ e

  pub unlinking_on : (two : ArenaState) → i < length init.chains → two ≡ record self { chains = set self.chains i (kept_in self i) } → IsArena two
      → Unlinking init (i + 1) two
  unlinking_on two lt after law =
      let chains : two.chains ≡ set self.chains i (kept_in self i) = ap (λ (v : ArenaState). v.chains) after in
      let other : (c : ℕ) → c ≢ i → chain_at two c ≡ chain_at self c = λ c ne.
      ap (λ (z : List (List ℕ)). get_or z c []) chains ∙ get_or-set_other self.chains i c (kept_in self i) [] ne in
      let marks : (s : ℕ) → marked_at self s ≡ marked_at init s = λ s. ap (λ (v : ArenaState). marked_at v s) inv.rest in
      let here : chain_at two i ≡ kept_in init i = ap (λ (z : List (List ℕ)). get_or z i []) chains
      ∙ get_or-set_same self.chains i (kept_in self i) [] (unlinking_within lt) ∙ (λ k. filter (λ s. marks s k) (inv.left i (omega arith) k)) in
      record {
        law = law;
        rest = after ∙ ap (λ (v : ArenaState). record v { chains = set self.chains i (kept_in self i) }) inv.rest
            ∙ ap (λ z. record init { chains = z }) (sym chains);
        count = ap length chains ∙ length-set self.chains i (kept_in self i) ∙ inv.count;
        done = λ c h. elim (below_next c i h) [
          | inl e ↦ (let ne : c ≢ i = omega (arith, e) in other c ne ∙ inv.done c e)
          | inr e ↦ subst (λ z. chain_at two z ≡ kept_in init z) (sym e) here
        ];
        left = λ c h. (let ne : c ≢ i = omega (arith, h) in other c ne ∙ inv.left c (omega (arith, h)));
      }

  pub unlinked_chains : length init.chains ≤ i → self.chains ≡ map (filter (λ s. marked_at init s)) init.chains
  unlinked_chains end = lists_same self.chains (map (filter (λ s. marked_at init s)) init.chains)
      (inv.count ∙ sym (length-map_lists (filter (λ s. marked_at init s)) init.chains))
      (λ c h. inv.done c (omega (arith, h, end, length-map_lists (filter (λ s. marked_at init s)) init.chains))
      ∙ sym (get_or-map_nil (filter (λ s. marked_at init s)) refl init.chains c))

times_in-filter_false : (p : ℕ → Bool) (s : ℕ) (css : List (List ℕ)) → p s ≡ false → times_in s (map (filter p) css) ≡ 0
times_in-filter_false p s [] e = refl
times_in-filter_false p s (c ∷ cs) e = let a = times-filter_false p s c e in let b = times_in-filter_false p s cs e in omega (arith, a, b)

-- what is not marked is in no chain any more
pub unlinked_loose : (old mid : ArenaState) → mid ≡ record old { chains = mid.chains } → mid.chains ≡ map (filter (λ s. marked_at old s)) old.chains
    → (s : ℕ) → marked_at mid s ≡ false → IsLoose mid s
unlinked_loose old mid rest chains s m = ap (times_in s) chains
    ∙ times_in-filter_false (λ s. marked_at old s) s old.chains (sym (ap (λ (v : ArenaState). marked_at v s) rest) ∙ m)

-- the slots from k on are freed if they are not marked
pub record GivingBack (init : ArenaState) (k : ℕ) (self : ArenaState) : Type 0 where
  pub law : IsArena self
  pub gray : self.gray ≡ []
  pub cap : self.cap ≡ init.cap
  pub spare : self.spare + taken_count self ≡ init.spare + taken_count init
  pub done : (s : ℕ) → k ≤ s → taken_at self s ≡ cond (marked_at init s) (taken_at init s) None
  pub left : (s : ℕ) → s < k → taken_at self s ≡ taken_at init s

unmarked_some : (o : Option Taken) → is_unmarked o ≡ true → (t : Taken) × (o ≡ Some t) × (is_marked o ≡ false)
unmarked_some None e = absurd (cc)
unmarked_some (Some t) e = (t, refl, unmark t.marked e) where
  unmark : (b : Bool) → not b ≡ true → b ≡ false
  unmark true e = absurd (cc)
  unmark false e = refl

kept_else : (o : Option Taken) → is_unmarked o ≡ false → o ≡ cond (is_marked o) o None
kept_else None e = refl
kept_else (Some t) e = by_mark t.marked e where
  by_mark : (b : Bool) → not b ≡ false → Some t ≡ cond b (Some t) None
  by_mark true e = refl
  by_mark false e = absurd (cc)

module _ (init : ArenaState) (k : ℕ) (self : ArenaState) (inv : GivingBack init (k + 1) self) where
  here : taken_at self k ≡ taken_at init k
  here = inv.left k (omega arith)

  split : (s : ℕ) → k ≤ s → s ≢ k → k + 1 ≤ s
  split s le ne = omega (arith, le, ne)

  module _ (yes : is_unmarked (taken_at self k) ≡ true) where
    pub giving_taken : IsTaken self k
    giving_taken = let t = unmarked_some (taken_at self k) yes in (t.0, t.1)

    pub giving_unmarked : marked_at self k ≡ false
    giving_unmarked = (unmarked_some (taken_at self k) yes).2

    pub was_unmarked : marked_at init k ≡ false
    was_unmarked = sym (ap is_marked here) ∙ giving_unmarked

    pub giving_loose : self.chains ≡ init.chains → ((s : ℕ) → marked_at init s ≡ false → IsLoose init s) → IsLoose self k
    giving_loose same loose = ap (times_in k) same ∙ loose k was_unmarked

    pub giving_unrooted : ((s : ℕ) → 0 < roots_at init s → IsMarked init s) → roots_at self k ≡ 0
    giving_unrooted roots = ap root_count here ∙ elim (one_or_more (roots_at init k))
        [ inl z ↦ z | inr p ↦ absurd (let on = roots k p in let off = was_unmarked in cc) ]

    pub giving_on : (two : ArenaState) (cs : List (List ℕ)) → two ≡ record self { cells = put self.cells k None; chains = cs; spare = self.spare + 1 }
        → IsArena two → GivingBack init k two
    giving_on two cs after law = record {
      law = law;
      gray = ap (λ (v : ArenaState). v.gray) after ∙ inv.gray;
      cap = ap (λ (v : ArenaState). v.cap) after ∙ inv.cap;
      spare = (
          let one : one_some (get_or self.cells k None) ≡ 1 = ap one_some giving_taken.1 in
          let fill = filled-put self.cells k None in
          let more : two.spare ≡ self.spare + 1 = ap (λ (v : ArenaState). v.spare) after in
          let count : taken_count two ≡ filled (put self.cells k None) = ap (λ (v : ArenaState). taken_count v) after in
          let was = inv.spare in
          omega (arith, one, fill, more, count, was));
      done = λ s le. elim (eqb_tells s k) [
        | inl e ↦ ap (taken_at two) e.1 ∙ ap (λ (v : ArenaState). taken_at v k) after ∙ get_or-put_same self.cells k None
            ∙ sym (ap (λ b. cond b (taken_at init s) None) (ap (marked_at init) e.1 ∙ was_unmarked))
        | inr e ↦ ap (λ (v : ArenaState). taken_at v s) after ∙ get_or-put_other self.cells k s None e.1 ∙ inv.done s (split s le e.1)
      ];
      left = λ s lt. (let ne : s ≢ k = omega (arith, lt) in ap (λ (v : ArenaState). taken_at v s) after ∙ get_or-put_other self.cells k s None ne
          ∙ inv.left s (omega (arith, lt)));
    }

  pub giving_past : is_unmarked (taken_at self k) ≡ false → GivingBack init k self
  giving_past white = record {
    law = inv.law;
    gray = inv.gray;
    cap = inv.cap;
    spare = inv.spare;
    done = λ s le. elim (eqb_tells s k) [
      | inl e ↦ subst (λ z. taken_at self z ≡ cond (marked_at init z) (taken_at init z) None) (sym e.1)
          (here ∙ kept_else (taken_at init k) (sym (ap is_unmarked here) ∙ white))
      | inr e ↦ inv.done s (split s le e.1)
    ];
    left = λ s lt. inv.left s (omega (arith, lt));
  }
