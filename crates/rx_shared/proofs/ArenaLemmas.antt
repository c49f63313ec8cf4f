-- What stays tidy: an arena that is new, whose chains are dealt out anew, or in which a slot is taken and linked.
use Rattle.std.proofs.Common.{◌≡◌, ◌≢◌, ℕ, ◌%◌, ◌<◌, ◌≤◌, inl, inr, false, List, [], ◌∷◌, length, get_or, set, Some, None, refl, sym, ap, subst, ◌∙◌, arith}
use Rattle.std.specs.Prelude.{Option, cond, nat_eq, slice_set, if◌then◌else◌, ◌==◌}
use Rattle.std.specs.Option.{option_map}
use Rattle.std.proofs.lemmas.Bool.Decides.{eqb_tells}
use Rattle.std.proofs.lemmas.List.{length-set, get_or-set_same, get_or-set_other}
use Rattle.std.proofs.lemmas.Nat.{mod_below}
use Rattle.rx_arena.specs.declared.CellBody.{CellBody}
use Rattle.rx_arena.specs.Put.{times, times_in, put, altered}
use Rattle.rx_arena.specs.Arena.{Taken, ArenaState, taken_at, chain_at, IsLoose, is_marked, marked_at, root_count, roots_at}
use Rattle.rx_arena.specs.Arena.{stored_hash, hash_at, new_cell, with_count, times_hashed, IsArena, empty_arena}
use Rattle.rx_arena.proofs.PutLemmas.{one_if-same, one_if-other, get_or-put_same, get_or-put_other, times_in-at}
use Rattle.rx_arena.proofs.ChainLemmas.{one_or_more}
use Rattle.rx_shared.specs.Bodies.{IsWritten}
use Rattle.rx_shared.specs.Tidy.{IsTidy, heap_of, cell_in}

-- what the arena's law says of a tidy one
pub tidy-from : (a : ArenaState) → IsArena a
    → ((s : ℕ) (t : Taken) → taken_at a s ≡ Some t → IsWritten t.body)
    → ((s : ℕ) (t : Taken) → taken_at a s ≡ Some t → times s (chain_at a (t.body.hash % length a.chains)) ≡ 1)
    → ((s : ℕ) → marked_at a s ≡ false) → a.gray ≡ [] → ((s : ℕ) → roots_at a s ≤ 65535) → IsTidy a
tidy-from a law written homed unmarked no_gray counted = record {
  bounded = λ s le. none_past s le (taken_at a s) refl;
  room = law.fits;
  small = law.small_cap;
  written = written;
  homed = homed;
  alone = law.alone;
  chained = λ s e. elim (one_or_more (times_in s a.chains)) [
    | inl z ↦ z
    | inr p ↦ absurd (let t = law.chained_taken s p in let q = t.1 in cc)
  ];
  unmarked = unmarked;
  no_gray = no_gray;
  counted = counted;
} where
  none_past : (s : ℕ) → a.cap ≤ s → (o : Option Taken) → taken_at a s ≡ o → taken_at a s ≡ None
  none_past s le None e = e
  none_past s le (Some t) e = absurd (let lt = law.below s (t, e) in omega (arith, lt))

-- a taken slot is in the chains once
pub chained-once : (a : ArenaState) → IsTidy a → (s : ℕ) (t : Taken) → taken_at a s ≡ Some t → times_in s a.chains ≡ 1
chained-once a tidy s t e =
    let one = tidy.homed s t e in
    let most = tidy.alone s in
    let within = times_in-at s a.chains (t.body.hash % length a.chains) in
    omega (arith, one, most, within)

-- an arena without cells
pub tidy-empty : (cap chains : ℕ) (a : ArenaState) → a ≡ empty_arena cap chains → IsArena a → IsTidy a
tidy-empty cap chains a e law =
    let none : (s : ℕ) → taken_at a s ≡ None = λ s. ap (λ (v : ArenaState). taken_at v s) e in
    tidy-from a law (λ s t q. absurd (let n = none s in cc)) (λ s t q. absurd (let n = none s in cc))
    (λ s. ap is_marked (none s)) (ap (λ (v : ArenaState). v.gray) e) (λ s. let z : roots_at a s ≡ 0 = ap root_count (none s) in omega (arith, z))

-- the chains are dealt out anew
pub tidy-dealt : (a z : ArenaState) (n : ℕ) → IsTidy a → IsArena z → z ≡ record a { chains = z.chains } → 0 < n → length z.chains ≡ n
    → ((c : ℕ) → c < n → (s : ℕ) → times s (chain_at z c) ≡ times_hashed a n c s) → IsTidy z
tidy-dealt a z n tidy law rest pos len dealt =
    let at : (s : ℕ) → taken_at z s ≡ taken_at a s = λ s. ap (λ (v : ArenaState). taken_at v s) rest in
    tidy-from z law (λ s t e. tidy.written s t (sym (at s) ∙ e)) (λ s t e. by_hash s t (sym (at s) ∙ e))
    (λ s. ap is_marked (at s) ∙ tidy.unmarked s) (ap (λ (v : ArenaState). v.gray) rest ∙ tidy.no_gray)
    (λ s. subst (λ k. k ≤ 65535) (sym (ap root_count (at s))) (tidy.counted s))
  where
    by_hash : (s : ℕ) (t : Taken) → taken_at a s ≡ Some t → times s (chain_at z (t.body.hash % length z.chains)) ≡ 1
    by_hash s t e =
        let hash : hash_at a s ≡ t.body.hash = ap stored_hash e in
        let c = t.body.hash % n in
        let same : nat_eq (hash_at a s % n) c ≡ nat_eq c c = ap (λ h. nat_eq (h % n) c) hash in
        let yes : times_hashed a n c s ≡ times_in s a.chains = elim (eqb_tells c c) [
          | inl p ↦ ap (λ y. cond y (times_in s a.chains) 0) (same ∙ p.0)
          | inr p ↦ absurd (p.1 refl)
        ] in
        ap (λ k. times s (chain_at z (t.body.hash % k))) len ∙ dealt c (mod_below t.body.hash n pos) s ∙ yes ∙ chained-once a tidy s t e

-- the same cells in the same chains
pub tidy-same : (a z : ArenaState) → IsTidy a → IsArena z → z.cells ≡ a.cells → z.chains ≡ a.chains → z.gray ≡ a.gray → IsTidy z
tidy-same a z tidy law cells chains gray =
    let at : (s : ℕ) → taken_at z s ≡ taken_at a s = λ s. ap (λ (xs : List (Option Taken)). get_or xs s None) cells in
    tidy-from z law (λ s t e. tidy.written s t (sym (at s) ∙ e))
    (λ s t e. ap (λ (css : List (List ℕ)). times s (get_or css (t.body.hash % length css) [])) chains ∙ tidy.homed s t (sym (at s) ∙ e))
    (λ s. ap is_marked (at s) ∙ tidy.unmarked s) (gray ∙ tidy.no_gray)
    (λ s. subst (λ k. k ≤ 65535) (sym (ap root_count (at s))) (tidy.counted s))

-- another count at one slot
module _ (a z : ArenaState) (k n : ℕ) (t : Taken) (here : taken_at a k ≡ Some t) (tidy : IsTidy a) (law : IsArena z)
    (after : z ≡ record a { cells = altered k (with_count n) a.cells }) where
  counted-here : taken_at z k ≡ Some (with_count n t)
  counted-here = ap (λ (v : ArenaState). taken_at v k) after ∙ get_or-put_same a.cells k (option_map (with_count n) (get_or a.cells k None))
      ∙ ap (option_map (with_count n)) here

  counted-else : (s : ℕ) → s ≢ k → taken_at z s ≡ taken_at a s
  counted-else s ne = ap (λ (v : ArenaState). taken_at v s) after ∙ get_or-put_other a.cells k s (option_map (with_count n) (get_or a.cells k None)) ne

  same_css : z.chains ≡ a.chains
  same_css = ap (λ (v : ArenaState). v.chains) after

  pub counted-heap : (s : ℕ) → heap_of z s ≡ heap_of a s
  counted-heap s = elim (eqb_tells s k) [
    | inl p ↦ ap (heap_of z) p.1 ∙ ap cell_in counted-here ∙ sym (ap cell_in here) ∙ ap (heap_of a) (sym p.1)
    | inr p ↦ ap cell_in (counted-else s p.1)
  ]

  pub counted-roots : (s : ℕ) → roots_at z s ≡ (if s == k then n else roots_at a s)
  counted-roots s = elim (eqb_tells s k) [
    | inl p ↦ rw p.0 (ap (roots_at z) p.1 ∙ ap root_count counted-here)
    | inr p ↦ rw p.0 (ap root_count (counted-else s p.1))
  ]

  pub counted-was : (s : ℕ) (u : Taken) → taken_at z s ≡ Some u → (v : Taken) × (taken_at a s ≡ Some v) × (v.body ≡ u.body)
  counted-was s u e = elim (eqb_tells s k) [
    | inl p ↦ (let same : with_count n t ≡ u = (let q : taken_at z s ≡ Some (with_count n t) = ap (taken_at z) p.1 ∙ counted-here in cc) in
        (t, ap (taken_at a) p.1 ∙ here, ap (λ (v : Taken). v.body) same))
    | inr p ↦ (u, sym (counted-else s p.1) ∙ e, refl)
  ]

  pub tidy-counted : n ≤ 65535 → IsTidy z
  tidy-counted fits = tidy-from z law
      (λ s u e. let v = counted-was s u e in subst IsWritten v.2 (tidy.written s v.0 v.1))
      (λ s u e. let v = counted-was s u e in ap (λ (css : List (List ℕ)). times s (get_or css (u.body.hash % length css) [])) same_css
      ∙ ap (λ (b : CellBody). times s (chain_at a (b.hash % length a.chains))) (sym v.2) ∙ tidy.homed s v.0 v.1)
      (λ s. elim (eqb_tells s k) [
        | inl p ↦ ap (marked_at z) p.1 ∙ ap is_marked counted-here ∙ sym (ap is_marked here) ∙ tidy.unmarked k
        | inr p ↦ ap is_marked (counted-else s p.1) ∙ tidy.unmarked s
      ])
      (ap (λ (v : ArenaState). v.gray) after ∙ tidy.no_gray)
      (λ s. elim (eqb_tells s k) [
        | inl p ↦ subst (λ c. c ≤ 65535) (sym (ap (roots_at z) p.1 ∙ ap root_count counted-here)) fits
        | inr p ↦ subst (λ c. c ≤ 65535) (sym (ap root_count (counted-else s p.1))) (tidy.counted s)
      ])

-- a slot is taken for a body, and linked into the chain of its hash
module _ (old mid new : ArenaState) (k c : ℕ) (b : CellBody) (tidy : IsTidy old) (law : IsArena new)
    (free : taken_at old k ≡ None) (cells : mid.cells ≡ put old.cells k (Some (new_cell b)))
    (rest : mid ≡ record old { cells = mid.cells; spare = mid.spare }) (loose : IsLoose mid k)
    (lt : c < length old.chains) (chain : c ≡ b.hash % length old.chains)
    (after : new ≡ record mid { chains = slice_set mid.chains c (k ∷ chain_at mid c) }) where
  same_chains : mid.chains ≡ old.chains
  same_chains = ap (λ (v : ArenaState). v.chains) rest

  new_chains : new.chains ≡ set mid.chains c (k ∷ chain_at mid c)
  new_chains = ap (λ (v : ArenaState). v.chains) after

  lt_mid : c < length mid.chains
  lt_mid = subst (λ css. c < length css) (sym same_chains) lt

  pub added-chains : length new.chains ≡ length old.chains
  added-chains = ap length new_chains ∙ length-set mid.chains c (k ∷ chain_at mid c) ∙ ap length same_chains

  pub added-cap : new.cap ≡ old.cap
  added-cap = ap (λ (v : ArenaState). v.cap) after ∙ ap (λ (v : ArenaState). v.cap) rest

  pub added-spare : new.spare ≡ mid.spare
  added-spare = ap (λ (v : ArenaState). v.spare) after

  pub added-here : taken_at new k ≡ Some (new_cell b)
  added-here = ap (λ (v : ArenaState). taken_at v k) after ∙ ap (λ (z : List (Option Taken)). get_or z k None) cells
      ∙ get_or-put_same old.cells k (Some (new_cell b))

  pub added-else : (s : ℕ) → s ≢ k → taken_at new s ≡ taken_at old s
  added-else s ne = ap (λ (v : ArenaState). taken_at v s) after ∙ ap (λ (z : List (Option Taken)). get_or z s None) cells
      ∙ get_or-put_other old.cells k s (Some (new_cell b)) ne

  chain_here : chain_at new c ≡ k ∷ chain_at mid c
  chain_here = ap (λ (z : List (List ℕ)). get_or z c []) new_chains ∙ get_or-set_same mid.chains c (k ∷ chain_at mid c) [] lt_mid

  chain_else : (d : ℕ) → d ≢ c → chain_at new d ≡ chain_at old d
  chain_else d ne = ap (λ (z : List (List ℕ)). get_or z d []) new_chains ∙ get_or-set_other mid.chains c d (k ∷ chain_at mid c) [] ne
      ∙ ap (λ (z : List (List ℕ)). get_or z d []) same_chains

  home_here : times k (chain_at new c) ≡ 1
  home_here =
      let none = times_in-at k mid.chains c in
      ap (times k) chain_here ∙ omega (arith, none, loose, one_if-same k)

  home_else : (s d : ℕ) → s ≢ k → times s (chain_at old d) ≡ 1 → times s (chain_at new d) ≡ 1
  home_else s d ne one = elim (eqb_tells d c) [
    | inl p ↦ (
        let same : times s (chain_at mid c) ≡ times s (chain_at old d) =
        ap (λ (z : List (List ℕ)). times s (get_or z c [])) same_chains ∙ ap (λ e. times s (chain_at old e)) (sym p.1) in
        ap (λ e. times s (chain_at new e)) p.1 ∙ ap (times s) chain_here ∙ omega (arith, one, same, one_if-other k s (λ e. ne (sym e))))
    | inr p ↦ ap (times s) (chain_else d p.1) ∙ one
  ]

  of_new : (t : Taken) (s : ℕ) → s ≡ k → taken_at new s ≡ Some t → new_cell b ≡ t
  of_new t s e q = let p : taken_at new s ≡ Some (new_cell b) = ap (taken_at new) e ∙ added-here in cc

  pub tidy-added : IsWritten b → IsTidy new
  tidy-added written = tidy-from new law
      (λ s t e. elim (eqb_tells s k) [
        | inl p ↦ subst (λ v. IsWritten v.body) (of_new t s p.1 e) written
        | inr p ↦ tidy.written s t (sym (added-else s p.1) ∙ e)
      ])
      (λ s t e. elim (eqb_tells s k) [
        | inl p ↦ (
            let home : t.body.hash % length new.chains ≡ c = ap (λ v. v.body.hash % length new.chains) (sym (of_new t s p.1 e))
            ∙ ap (λ n. b.hash % n) added-chains ∙ sym chain in
            ap (λ d. times s (chain_at new d)) home ∙ ap (λ r. times r (chain_at new c)) p.1 ∙ home_here)
        | inr p ↦ ap (λ n. times s (chain_at new (t.body.hash % n))) added-chains
            ∙ home_else s (t.body.hash % length old.chains) p.1 (tidy.homed s t (sym (added-else s p.1) ∙ e))
      ])
      (λ s. elim (eqb_tells s k) [
        | inl p ↦ ap (marked_at new) p.1 ∙ ap is_marked added-here
        | inr p ↦ ap is_marked (added-else s p.1) ∙ tidy.unmarked s
      ])
      (ap (λ (v : ArenaState). v.gray) after ∙ ap (λ (v : ArenaState). v.gray) rest ∙ tidy.no_gray)
      (λ s. elim (eqb_tells s k) [
        | inl p ↦ (let z : roots_at new s ≡ 0 = ap (roots_at new) p.1 ∙ ap root_count added-here in omega (arith, z))
        | inr p ↦ subst (λ n. n ≤ 65535) (sym (ap root_count (added-else s p.1))) (tidy.counted s)
      ])

  pub added-roots : (s : ℕ) → roots_at new s ≡ roots_at old s
  added-roots s = elim (eqb_tells s k) [
    | inl p ↦ ap (roots_at new) p.1 ∙ ap root_count added-here ∙ sym (ap root_count free) ∙ ap (roots_at old) (sym p.1)
    | inr p ↦ ap root_count (added-else s p.1)
  ]
