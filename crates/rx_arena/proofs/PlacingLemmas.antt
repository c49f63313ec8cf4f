-- The slots below a bound go to the chains that their hashes name, one after the other.
use Rattle.std.proofs.Common.{◌≡◌, ◌≢◌, ℕ, ◌+◌, ◌%◌, ◌<◌, ◌≤◌, inl, inr, List, [], ◌∷◌, length, get_or, set, refl, sym, ap, subst, ◌∙◌, arith}
use Rattle.std.specs.Prelude.{Bool, true, false, cond, nat_eq, replicate}
use Rattle.std.proofs.lemmas.List.{length-set, get_or-set_same, get_or-set_other}
use Rattle.std.proofs.lemmas.Bool.{eq-eqb, ne_eqb}
use Rattle.rx_arena.specs.Put.{one_if, times, times_in}
use Rattle.rx_arena.specs.Arena.{ArenaState, IsTaken, IsLoose, chain_at, hash_at, times_hashed, IsArena}
use Rattle.rx_arena.proofs.PutLemmas.{one_or_two, one_if-other, times_in-set, times_in-at}
use Rattle.rx_arena.proofs.ArenaLawLemmas.{times_in-replicate}
use Rattle.rx_arena.proofs.TotalLemmas.{less_or_not}

cond_zero : (b : Bool) → ◌≡◌ {A = ℕ} (cond b 0 0) 0
cond_zero true = refl
cond_zero false = refl

-- the slots below k are placed in the n chains
pub record Placing (init : ArenaState) (n k : ℕ) (self : ArenaState) : Type 0 where
  pub law : IsArena self
  pub lens : length self.chains ≡ n
  pub same : self ≡ record init { chains = self.chains }
  pub done : (c : ℕ) → c < n → (s : ℕ) → s < k → times s (chain_at self c) ≡ cond (nat_eq (hash_at init s % n) c) 1 0
  pub left : (s : ℕ) → k ≤ s → times_in s self.chains ≡ 0

pub placing_begins : (init : ArenaState) (n : ℕ) → n ≡ length init.chains → ((s : ℕ) → IsLoose init s) → IsArena init → Placing init n 0 init
placing_begins init n e loose law = record { law = law; lens = sym e; same = refl; done = λ c lc s lt. absurd (omega (arith, lt)); left = λ s le. loose s }

module _ (init : ArenaState) (n k : ℕ) (self : ArenaState) (inv : Placing init n k self) where
  pub placing_taken : IsTaken init k → IsTaken self k
  placing_taken t = subst (λ (v : ArenaState). IsTaken v k) (sym inv.same) t

  pub placing_hash : hash_at self k ≡ hash_at init k
  placing_hash = ap (λ (v : ArenaState). hash_at v k) inv.same

  pub placing_loose : IsLoose self k
  placing_loose = inv.left k (omega arith)

  module _ (to : ℕ) (two : ArenaState) (below : to < n) (to_is : to ≡ hash_at init k % n)
      (put_there : two ≡ record self { chains = set self.chains to (k ∷ chain_at self to) }) where
    two_chains : two.chains ≡ set self.chains to (k ∷ chain_at self to)
    two_chains = ap (λ (v : ArenaState). v.chains) put_there

    two_other : (c : ℕ) → c ≢ to → chain_at two c ≡ chain_at self c
    two_other c ne = ap (λ (z : List (List ℕ)). get_or z c []) two_chains ∙ get_or-set_other self.chains to c (k ∷ chain_at self to) [] ne

    two_to : chain_at two to ≡ k ∷ chain_at self to
    two_to = ap (λ (z : List (List ℕ)). get_or z to []) two_chains ∙ get_or-set_same self.chains to (k ∷ chain_at self to) [] (omega (arith, below, inv.lens))

    -- how often slot s is in chain c now
    gained : (c s : ℕ) → times s (chain_at two c) ≡ times s (chain_at self c) + cond (nat_eq to c) (one_if k s) 0
    gained c s = elim (one_or_two c to) [
      | inl h ↦ (let hit : cond (nat_eq to c) (one_if k s) 0 ≡ one_if k s = ap (λ b. cond b (one_if k s) 0) (eq-eqb to c (sym h.1)) in
          let there : times s (chain_at two c) ≡ one_if k s + times s (chain_at self c) =
          subst (λ z. times s (chain_at two z) ≡ one_if k s + times s (chain_at self z)) (sym h.1) (ap (times s) two_to) in
          omega (arith, hit, there))
      | inr h ↦ (let miss : cond (nat_eq to c) (one_if k s) 0 ≡ 0 = ap (λ b. cond b (one_if k s) 0) (ne_eqb to c (λ e. h.1 (sym e))) in
          let there = ap (times s) (two_other c h.1) in
          omega (arith, miss, there))
    ]

    pub placed_on : IsArena two → Placing init n (k + 1) two
    placed_on law = record {
      law = law;
      lens = ap length two_chains ∙ length-set self.chains to (k ∷ chain_at self to) ∙ inv.lens;
      same = put_there ∙ ap (λ (v : ArenaState). record v { chains = set self.chains to (k ∷ chain_at self to) }) inv.same
          ∙ ap (λ z. record init { chains = z }) (sym two_chains);
      done = λ c lc s lt. elim (one_or_two k s) [
        | inl h ↦ (let free : times s (chain_at self c) ≡ 0 = (let at = times_in-at s self.chains c in let none = inv.left s (omega (arith, h.1)) in
            omega (arith, at, none)) in
            let gain : cond (nat_eq to c) (one_if k s) 0 ≡ cond (nat_eq (hash_at init s % n) c) 1 0 = λ i.
            cond (nat_eq ((to_is ∙ ap (λ z. hash_at init z % n) h.1) i) c) (h.0 i) 0 in
            let all = gained c s in
            omega (arith, free, gain, all))
        | inr h ↦ (let none : cond (nat_eq to c) (one_if k s) 0 ≡ 0 = ap (λ z. cond (nat_eq to c) z 0) h.0 ∙ cond_zero (nat_eq to c) in
            let all = gained c s in
            let ne = h.1 in
            let old = inv.done c lc s (omega (arith, lt, ne)) in
            omega (arith, none, all, old))
      ];
      left = λ s le.
          (let count = times_in-set s self.chains to (k ∷ chain_at self to) (omega (arith, below, inv.lens)) in
          let is : times_in s two.chains ≡ times_in s (set self.chains to (k ∷ chain_at self to)) = ap (times_in s) two_chains in
          let ne : one_if k s ≡ 0 = one_if-other k s (λ e. absurd (omega (arith, e, le))) in
          let none = inv.left s (omega (arith, le)) in
          omega (arith, count, is, ne, none));
    }

-- all slots of the chains are placed
module _ (init mid new : ArenaState) (n end : ℕ) (cleared : mid ≡ record init { chains = replicate n [] }) where
  pub cleared_loose : (s : ℕ) → IsLoose mid s
  cleared_loose s = ap (λ (v : ArenaState). times_in s v.chains) cleared ∙ times_in-replicate s n

  pub cleared_taken : IsArena init → (s : ℕ) → times_in s init.chains ≡ 1 → IsTaken mid s
  cleared_taken law s one = subst (λ (v : ArenaState). IsTaken v s) (sym cleared) (law.chained_taken s (omega (arith, one)))

  pub placed_all : ((s : ℕ) → s < end → times_in s init.chains ≡ 1) → ((s : ℕ) → end ≤ s → IsLoose init s)
      → ((c : ℕ) → c < n → (s : ℕ) → s < end → times s (chain_at new c) ≡ cond (nat_eq (hash_at mid s % n) c) 1 0)
      → ((s : ℕ) → end ≤ s → IsLoose new s) → (c : ℕ) → c < n → (s : ℕ) → times s (chain_at new c) ≡ times_hashed init n c s
  placed_all inside outside dealt past c lc s = elim (less_or_not s end) [
    | inl lt ↦ dealt c lc s lt ∙ (λ i. cond (nat_eq (hash_at (cleared i) s % n) c) 1 0) ∙ sym (ap (λ z. cond (nat_eq (hash_at init s % n) c) z 0) (inside s lt))
    | inr le ↦ (let at = times_in-at s new.chains c in let none = past s le in
        let here : times s (chain_at new c) ≡ 0 = omega (arith, at, none) in
        here ∙ sym (ap (λ z. cond (nat_eq (hash_at init s % n) c) z 0) (outside s le) ∙ cond_zero (nat_eq (hash_at init s % n) c)))
  ]
