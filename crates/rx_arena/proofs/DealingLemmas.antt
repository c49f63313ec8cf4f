-- The slots of the chains are dealt out to new chains, by their hashes.
use Rattle.std.proofs.Common.{◌≡◌, ◌≢◌, ℕ, ◌+◌, ◌%◌, ◌<◌, ◌≤◌, inl, inr, List, [], ◌∷◌}
use Rattle.std.proofs.Common.{length, get_or, set, take, IfSome, refl, sym, ap, subst, ◌∙◌, arith}
use Rattle.std.specs.Prelude.{Bool, true, false, cond, nat_eq, replicate}
use Rattle.std.proofs.Math.Nat.{mod-one}
use Rattle.std.proofs.lemmas.List.{length-set, length-take-le, length-replicate, get_or-set_same, get_or-set_other}
use Rattle.std.proofs.lemmas.List.{get_or-take, get_or-replicate, get_or_past, take_all, take_more}
use Rattle.std.proofs.lemmas.Bool.{eq-eqb, ne_eqb}
use Rattle.rx_arena.specs.declared.CellBody.{CellBody}
use Rattle.rx_arena.specs.Put.{one_if, times, times_in}
use Rattle.rx_arena.specs.Arena.{ArenaState, taken_at, IsTaken, chain_at, hash_at, stored_hash, times_hashed}
use Rattle.rx_arena.proofs.PutLemmas.{one_or_two}
use Rattle.rx_arena.proofs.ArenaLawLemmas.{times_in-append}
use Rattle.rx_arena.proofs.TotalLemmas.{less_or_not}

cond-zero : (b : Bool) → ◌≡◌ {A = ℕ} (cond b 0 0) 0
cond-zero true = refl
cond-zero false = refl

cond-plus : (b : Bool) (x y : ℕ) → cond b (x + y) 0 ≡ cond b x 0 + cond b y 0
cond-plus true x y = refl
cond-plus false x y = omega arith

-- what a read of a taken slot says of its hash
pub hash_of : (a : ArenaState) (s : ℕ) (b : CellBody) → IsTaken a s → IfSome (taken_at a s) (λ t. b ≡ t.body) → b.hash ≡ hash_at a s
hash_of a s b h e = ap (λ (z : CellBody). z.hash) (subst (λ z. IfSome z (λ t. b ≡ t.body)) h.1 e) ∙ sym (ap stored_hash h.1)

-- a chain is moved down to what is left of it
pub record Moving (init : ArenaState) (from n : ℕ) (self : ArenaState) : Type 0 where
  pub within : from < length self.chains
  pub lens : length self.chains ≡ length init.chains
  pub same : self ≡ record init { chains = self.chains }
  pub others : (k : ℕ) → n ≤ k → k ≢ from → chain_at self k ≡ chain_at init k
  pub moved : (k : ℕ) → k < n → (t : ℕ) → times t (chain_at self k) + cond (nat_eq (hash_at init t % n) k) (times t (chain_at self from)) 0 ≡ times t
      (chain_at init k) + cond (nat_eq (hash_at init t % n) k) (times t (chain_at init from)) 0

pub moving_begins : (init : ArenaState) (from n : ℕ) → from < length init.chains → Moving init from n init
moving_begins init from n lt = record { within = lt; lens = refl; same = refl; others = λ k le ne. refl; moved = λ k l t. refl }

module _ (init : ArenaState) (from n : ℕ) (self : ArenaState) (inv : Moving init from n self) (le : n ≤ from) (s : ℕ) (one : ArenaState)
    (split : chain_at self from ≡ s ∷ chain_at one from) (rest : one ≡ record self { chains = set self.chains from (chain_at one from) }) where
  one_chains : one.chains ≡ set self.chains from (chain_at one from)
  one_chains = ap (λ (v : ArenaState). v.chains) rest

  one_at : (k : ℕ) → k ≢ from → chain_at one k ≡ chain_at self k
  one_at k ne = ap (λ (z : List (List ℕ)). get_or z k []) one_chains ∙ get_or-set_other self.chains from k (chain_at one from) [] ne

  one_length : length one.chains ≡ length self.chains
  one_length = ap length one_chains ∙ length-set self.chains from (chain_at one from)

  pub one_hash : hash_at one s ≡ hash_at init s
  one_hash = ap (λ (v : ArenaState). hash_at v s) rest ∙ ap (λ (v : ArenaState). hash_at v s) inv.same

  pub move_within : (k : ℕ) → k < n → k < length one.chains
  move_within k lt = omega (arith, lt, le, inv.within, one_length)

  module _ (to : ℕ) (two : ArenaState) (below : to < n) (to_is : to ≡ hash_at init s % n)
      (put_there : two ≡ record one { chains = set one.chains to (s ∷ chain_at one to) }) where
    two_chains : two.chains ≡ set one.chains to (s ∷ chain_at one to)
    two_chains = ap (λ (v : ArenaState). v.chains) put_there

    two_other : (k : ℕ) → k ≢ to → chain_at two k ≡ chain_at one k
    two_other k ne = ap (λ (z : List (List ℕ)). get_or z k []) two_chains ∙ get_or-set_other one.chains to k (s ∷ chain_at one to) [] ne

    two_to : chain_at two to ≡ s ∷ chain_at one to
    two_to = ap (λ (z : List (List ℕ)). get_or z to []) two_chains ∙ get_or-set_same one.chains to (s ∷ chain_at one to) [] (move_within to below)

    from_left : chain_at two from ≡ chain_at one from
    from_left = two_other from (λ e. absurd (omega (arith, e, below, le)))

    pub move_smaller : length (chain_at two from) < length (chain_at self from)
    move_smaller = let a = ap length from_left in let b = ap length split in omega (arith, a, b)

    -- what slot t gains in chain k
    gains : (k : ℕ) → k < n → (t : ℕ) → times t (chain_at two k) ≡ times t (chain_at self k) + cond (nat_eq (hash_at init t % n) k) (one_if s t) 0
    gains k lt t =
        let ne_from : k ≢ from = λ e. absurd (omega (arith, e, lt, le)) in
        elim (one_or_two s t) [
          | inl st ↦ elim (one_or_two k to) [
            | inl kt ↦ (let hit : nat_eq (hash_at init t % n) k ≡ true =
                eq-eqb (hash_at init t % n) k (ap (λ z. hash_at init z % n) (sym st.1) ∙ sym to_is ∙ sym kt.1) in
                let there : times t (chain_at two k) ≡ one_if s t + times t (chain_at one k) =
                subst (λ z. times t (chain_at two z) ≡ one_if s t + times t (chain_at one z)) (sym kt.1) (ap (times t) two_to) in
                let old = ap (times t) (one_at k ne_from) in
                let gain : cond (nat_eq (hash_at init t % n) k) (one_if s t) 0 ≡ one_if s t = ap (λ b. cond b (one_if s t) 0) hit in
                omega (arith, there, old, gain))
            | inr kt ↦ (let miss : nat_eq (hash_at init t % n) k ≡ false =
                ne_eqb (hash_at init t % n) k (λ e. kt.1 (sym e ∙ ap (λ z. hash_at init z % n) (sym st.1) ∙ sym to_is)) in
                let there = ap (times t) (two_other k kt.1 ∙ one_at k ne_from) in
                let gain : cond (nat_eq (hash_at init t % n) k) (one_if s t) 0 ≡ 0 = ap (λ b. cond b (one_if s t) 0) miss in
                omega (arith, there, gain))
          ]
          | inr st ↦ (let gain : cond (nat_eq (hash_at init t % n) k) (one_if s t) 0 ≡ 0 =
              ap (λ z. cond (nat_eq (hash_at init t % n) k) z 0) st.0 ∙ cond-zero (nat_eq (hash_at init t % n) k) in
              elim (one_or_two k to) [
                | inl kt ↦ (let there : times t (chain_at two k) ≡ one_if s t + times t (chain_at one k) =
                    subst (λ z. times t (chain_at two z) ≡ one_if s t + times t (chain_at one z)) (sym kt.1) (ap (times t) two_to) in
                    let old = ap (times t) (one_at k ne_from) in
                    omega (arith, there, old, gain, st.0))
                | inr kt ↦ (let there = ap (times t) (two_other k kt.1 ∙ one_at k ne_from) in omega (arith, there, gain))
              ])
        ]

    pub moved_on : Moving init from n two
    moved_on = record {
      within = omega (arith, inv.within, one_length, ap length two_chains, length-set one.chains to (s ∷ chain_at one to));
      lens = ap length two_chains ∙ length-set one.chains to (s ∷ chain_at one to) ∙ one_length ∙ inv.lens;
      same = put_there ∙ ap (λ (v : ArenaState). record v { chains = set one.chains to (s ∷ chain_at one to) })
          (rest ∙ ap (λ (v : ArenaState). record v { chains = set self.chains from (chain_at one from) }) inv.same)
          ∙ ap (λ z. record init { chains = z }) (sym two_chains);
      others = λ k l ne. two_other k (λ e. absurd (omega (arith, e, below, l))) ∙ one_at k ne ∙ inv.others k l ne;
      moved = λ k l t.
          (let b = nat_eq (hash_at init t % n) k in
          let left : cond (nat_eq (hash_at init t % n) k) (times t (chain_at two from)) 0 ≡ cond (nat_eq (hash_at init t % n) k)
          (times t (chain_at one from)) 0 = ap (λ z. cond (nat_eq (hash_at init t % n) k) (times t z) 0) from_left in
          let was : cond (nat_eq (hash_at init t % n) k) (times t (chain_at self from)) 0 ≡ cond (nat_eq (hash_at init t % n) k) (one_if s t) 0 + cond
          (nat_eq (hash_at init t % n) k) (times t (chain_at one from)) 0 =
          ap (λ z. cond (nat_eq (hash_at init t % n) k) (times t z) 0) split
          ∙ cond-plus (nat_eq (hash_at init t % n) k) (one_if s t) (times t (chain_at one from)) in
          let old = inv.moved k l t in
          let gain = gains k l t in
          omega (arith, left, was, old, gain));
    }

pub moved_all : (init : ArenaState) (from n : ℕ) (self : ArenaState) → Moving init from n self → chain_at self from ≡ [] → (k : ℕ) → k < n → (t : ℕ)
    → times t (chain_at self k) ≡ times t (chain_at init k) + cond (nat_eq (hash_at init t % n) k) (times t (chain_at init from)) 0
moved_all init from n self inv none k lt t =
    let nothing : cond (nat_eq (hash_at init t % n) k) (times t (chain_at self from)) 0 ≡ 0 =
    ap (λ z. cond (nat_eq (hash_at init t % n) k) (times t z) 0) none ∙ cond-zero (nat_eq (hash_at init t % n) k) in
    let is = inv.moved k lt t in
    omega (arith, nothing, is)

times_in-take_more : (t j : ℕ) (css : List (List ℕ)) → j < length css → times_in t (take (j + 1) css) ≡ times_in t (take j css) + times t (get_or css j [])
times_in-take_more t j css lt = ap (times_in t) (take_more css j [] lt) ∙ times_in-append t (take j css) (get_or css j [] ∷ []) ∙ (omega arith)

-- the chains before the i-th are gathered in the first one
pub record Gathering (init : ArenaState) (i : ℕ) (self : ArenaState) : Type 0 where
  pub lens : length self.chains ≡ length init.chains
  pub same : self ≡ record init { chains = self.chains }
  pub left : (k : ℕ) → i ≤ k → chain_at self k ≡ chain_at init k
  pub gone : (k : ℕ) → 1 ≤ k → k < i → chain_at self k ≡ []
  pub first : (t : ℕ) → times t (chain_at self 0) ≡ times_in t (take i init.chains)

pub gathering_begins : (init : ArenaState) → 0 < length init.chains → Gathering init 1 init
gathering_begins init some = record {
  lens = refl;
  same = refl;
  left = λ k le. refl;
  gone = λ k le lt. absurd (omega (arith, le, lt));
  first = λ t. (let more = times_in-take_more t 0 init.chains some in omega (arith, more));
}

module _ (init : ArenaState) (i : ℕ) (self : ArenaState) (inv : Gathering init i self) (low : 1 ≤ i) (high : i < length init.chains) where
  pub gather_within : i < length self.chains
  gather_within = omega (arith, high, inv.lens)

  pub gathered_on : (two : ArenaState) → length two.chains ≡ length self.chains → two ≡ record self { chains = two.chains }
      → ((k : ℕ) → 1 ≤ k → k ≢ i → chain_at two k ≡ chain_at self k)
      → ((k : ℕ) → k < 1 → (t : ℕ) → times t (chain_at two k) ≡ times t (chain_at self k) + cond (nat_eq (hash_at self t % 1) k) (times t (chain_at self i)) 0)
      → chain_at two i ≡ [] → Gathering init (i + 1) two
  gathered_on two lens same others moved empty = record {
    lens = lens ∙ inv.lens;
    same = same ∙ ap (λ (v : ArenaState). record v { chains = two.chains }) inv.same;
    left = λ k le. others k (omega (arith, le, low)) (λ e. absurd (omega (arith, e, le))) ∙ inv.left k (omega (arith, le));
    gone = λ k le lt. elim (one_or_two k i) [
      | inl h ↦ subst (λ z. chain_at two z ≡ []) (sym h.1) empty
      | inr h ↦ (let ne = h.1 in others k le h.1 ∙ inv.gone k le (omega (arith, lt, ne)))
    ];
    first = λ t.
        (let all : cond (nat_eq (hash_at self t % 1) 0) (times t (chain_at self i)) 0 ≡ times t (chain_at self i) =
        ap (λ b. cond b (times t (chain_at self i)) 0) (eq-eqb (hash_at self t % 1) 0 (mod-one (hash_at self t))) in
        let more = times_in-take_more t i init.chains high in
        let was = inv.first t in
        let chain = ap (times t) (inv.left i (omega arith)) in
        let now = moved 0 (omega arith) t in
        omega (arith, all, more, was, chain, now));
  }

-- all chains are gathered, and so the others are empty
pub gathered_gone : (init : ArenaState) (i : ℕ) (self : ArenaState) → Gathering init i self → length init.chains ≤ i → (k : ℕ) → 1 ≤ k → chain_at self k ≡ []
gathered_gone init i self inv all k le = elim (less_or_not k i) [
  | inl lt ↦ inv.gone k le lt
  | inr past ↦ inv.left k past ∙ get_or_past init.chains k [] (omega (arith, all, past))
]

-- all chains are gathered, and the first one alone stays
module _ (init : ArenaState) (i : ℕ) (self : ArenaState) (inv : Gathering init i self) (all : length init.chains ≤ i) (some : 0 < length init.chains)
    (kept : ArenaState) (e : kept ≡ record self { chains = take 1 self.chains }) where
  first_chains : kept.chains ≡ take 1 self.chains
  first_chains = ap (λ (v : ArenaState). v.chains) e

  pub gathered_one : length kept.chains ≡ 1
  gathered_one = ap length first_chains ∙ length-take-le 1 self.chains (omega (arith, inv.lens, some))

  pub gathered_same : kept ≡ record init { chains = kept.chains }
  gathered_same = e ∙ ap (λ (v : ArenaState). record v { chains = take 1 self.chains }) inv.same ∙ ap (λ z. record init { chains = z }) (sym first_chains)

  pub gathered_all : (t : ℕ) → times t (chain_at kept 0) ≡ times_in t init.chains
  gathered_all t = ap (times t) (ap (λ (z : List (List ℕ)). get_or z 0 []) first_chains ∙ get_or-take 1 self.chains 0 [] (omega arith)) ∙ inv.first t
      ∙ ap (times_in t) (take_all i init.chains all)

-- one chain is after n empty ones
module _ (one put : ArenaState) (n : ℕ) (behind : put ≡ record one { chains = set (replicate (n + 1) []) n (chain_at one 0) }) where
  put_chains : put.chains ≡ set (replicate (n + 1) []) n (chain_at one 0)
  put_chains = ap (λ (v : ArenaState). v.chains) behind

  put_length : length put.chains ≡ n + 1
  put_length = let none : List ℕ = [] in ap length put_chains ∙ length-set (replicate (n + 1) none) n (chain_at one 0) ∙ length-replicate (n + 1) none

  pub behind_within : n < length put.chains
  behind_within = omega (arith, put_length)

  put_last : chain_at put n ≡ chain_at one 0
  put_last = let none : List ℕ = [] in ap (λ (z : List (List ℕ)). get_or z n []) put_chains
      ∙ get_or-set_same (replicate (n + 1) none) n (chain_at one 0) [] (omega (arith, length-replicate (n + 1) none))

  put_before : (c : ℕ) → c < n → chain_at put c ≡ []
  put_before c lt =
      let none : List ℕ = [] in
      ap (λ (z : List (List ℕ)). get_or z c []) put_chains ∙ get_or-set_other (replicate (n + 1) none) n c (chain_at one 0) [] (λ e.
      absurd (omega (arith, e, lt)))
      ∙ get_or-replicate (n + 1) c none none (omega (arith, lt))

  -- it is dealt out to them, and they stay
  module _ (init new : ArenaState) (all : (t : ℕ) → times t (chain_at one 0) ≡ times_in t init.chains) (same : one ≡ record init { chains = one.chains })
      (moved : (c : ℕ) → c < n → (t : ℕ) → times t (chain_at new c) ≡ times t (chain_at put c) + cond (nat_eq (hash_at put t % n) c)
      (times t (chain_at put n)) 0)
      (empty : chain_at new n ≡ []) (others : (c : ℕ) → n ≤ c → c ≢ n → chain_at new c ≡ chain_at put c)
      (lens : length new.chains ≡ length put.chains) (rest : new ≡ record put { chains = new.chains }) where
    pub behind_gone : (c : ℕ) → n ≤ c → chain_at new c ≡ []
    behind_gone c le = elim (one_or_two c n) [
      | inl h ↦ subst (λ z. chain_at new z ≡ []) (sym h.1) empty
      | inr h ↦ (let ne = h.1 in others c le h.1 ∙ get_or_past put.chains c [] (omega (arith, put_length, le, ne)))
    ]

    module _ (kept : ArenaState) (e : kept ≡ record new { chains = take n new.chains }) where
      kept_chains : kept.chains ≡ take n new.chains
      kept_chains = ap (λ (v : ArenaState). v.chains) e

      pub dealt_length : length kept.chains ≡ n
      dealt_length = ap length kept_chains ∙ length-take-le n new.chains (omega (arith, lens, put_length))

      pub dealt_same : kept ≡ record init { chains = kept.chains }
      dealt_same =
          e ∙ ap (λ (v : ArenaState). record v { chains = take n new.chains })
          (rest ∙ ap (λ (v : ArenaState). record v { chains = new.chains }) behind ∙ ap (λ (v : ArenaState). record v { chains = new.chains }) same)
          ∙ ap (λ z. record init { chains = z }) (sym kept_chains)

      pub dealt_hashed : (c : ℕ) → c < n → (t : ℕ) → times t (chain_at kept c) ≡ times_hashed init n c t
      dealt_hashed c lt t =
          let hash : hash_at put t ≡ hash_at init t = ap (λ (v : ArenaState). hash_at v t) behind ∙ ap (λ (v : ArenaState). hash_at v t) same in
          let count : times t (chain_at put n) ≡ times_in t init.chains = ap (times t) put_last ∙ all t in
          let here = ap (times t) (ap (λ (z : List (List ℕ)). get_or z c []) kept_chains ∙ get_or-take n new.chains c [] lt) in
          let gain = moved c lt t in
          let before = ap (times t) (put_before c lt) in
          let is : cond (nat_eq (hash_at put t % n) c) (times t (chain_at put n)) 0 ≡ cond (nat_eq (hash_at init t % n) c) (times_in t init.chains) 0
          = λ i. cond (nat_eq (hash i % n) c) (count i) 0 in
          omega (arith, here, gain, before, is)

-- no slot is in none of the chains
pub nothing_inside : (css : List (List ℕ)) → length css ≡ 0 → (t : ℕ) → times_in t css ≡ 0
nothing_inside [] e t = refl
nothing_inside (c ∷ cs) e t = absurd (omega (arith, e))
