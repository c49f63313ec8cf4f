-- The store under a pool: what its slots hold as they are taken, freed and changed.
use Rattle.std.proofs.Common.{◌≡◌, ◌≢◌, ℕ, zero, suc, ◌+◌, ◌-◌, ◌<◌, ◌≤◌, ◌⊎◌, inl, inr, List, [], ◌∷◌, ◌++◌}
use Rattle.std.proofs.Common.{length, get_or, set, take, true, Some, None, refl, sym, ap, subst, ◌∙◌, arith}
use Rattle.std.specs.Prelude.{Option, replicate, nat_eq, true}
use Rattle.std.specs.Option.{option_map}
use Rattle.std.proofs.lemmas.List.{length-append, length-set, length-take, length-take-le, get_or-set_same}
use Rattle.std.proofs.lemmas.List.{get_or-set_other, get_or-take, get_or_past, take-append-le}
use Rattle.rx_arena.specs.Inner.Node.{Node}
use Rattle.rx_arena.specs.Inner.Held.{IsHeld}
use Rattle.rx_arena.specs.Put.{times, put, one_some, filled, without}
use Rattle.rx_arena.specs.Inner.Links.{links, IsChain}
use Rattle.rx_arena.specs.Inner.Pool.{IsPool, cells_of, is_given_back}
use Rattle.rx_arena.proofs.PutLemmas.{one_or_two, one_if-same, put-put, put-set, put_end, within_some, without-put, get_or-without_other}
use Rattle.rx_arena.proofs.PutLemmas.{get_or-without_same, some-without, filled-put, filled_some, get_or-map_option, get_or-put_same, get_or-put_other}
use Rattle.rx_arena.proofs.ChainLemmas.{chain_agrees, chain_stays, member_some, one_or_more}

pub lt_or_le : (a b : ℕ) → (a < b) ⊎ (b ≤ a)
lt_or_le a zero = inr (omega arith)
lt_or_le zero (suc b) = inl (omega arith)
lt_or_le (suc a) (suc b) = elim (lt_or_le a b) [ inl h ↦ inl (omega (arith, h)) | inr h ↦ inr (omega (arith, h)) ]

pub take-set : {X : Type 0} (n : ℕ) (xs : List X) (i : ℕ) (x : X) → take n (set xs i x) ≡ set (take n xs) i x
take-set zero xs i x = refl
take-set (suc n) [] i x = refl
take-set (suc n) (y ∷ ys) zero x = refl
take-set (suc n) (y ∷ ys) (suc i) x = ap (λ zs. y ∷ zs) (take-set n ys i x)

pub take-set_next : {X : Type 0} (xs : List X) (n : ℕ) (x : X) → n < length xs → take (n + 1) (set xs n x) ≡ take n xs ++ x ∷ []
take-set_next [] n x lt = absurd (omega (arith, lt))
take-set_next (y ∷ ys) zero x lt = refl
take-set_next (y ∷ ys) (suc n) x lt = rw (let e : suc n + 1 ≡ suc (n + 1) = omega arith in e) (ap (λ zs. y ∷ zs) (take-set_next ys n x (omega (arith, lt))))

-- a new block holds nothing
pub get_or-grown : {X : Type 0} (xs : List (Option X)) (k t : ℕ) → get_or (xs ++ replicate k None) t None ≡ get_or xs t None
get_or-grown [] zero t = refl
get_or-grown [] (suc k) zero = refl
get_or-grown [] (suc k) (suc t) = get_or-grown [] k t
get_or-grown (x ∷ xs) k zero = refl
get_or-grown (x ∷ xs) k (suc t) = get_or-grown xs k t

-- the links after a write to one slot
pub links-set_other : (f : Node → Option ℕ) (slots : List (Option Node)) (s t : ℕ) (v : Option Node) → t ≢ s
    → get_or (links f (set slots s v)) t None ≡ get_or (links f slots) t None
links-set_other f slots s t v ne = get_or-map_option f (set slots s v) t ∙ ap (option_map f) (get_or-set_other slots s t v None ne)
    ∙ sym (get_or-map_option f slots t)

pub links-set_same : (f : Node → Option ℕ) (slots : List (Option Node)) (s : ℕ) (v : Option Node) → s < length slots
    → get_or (links f (set slots s v)) s None ≡ option_map f v
links-set_same f slots s v lt = get_or-map_option f (set slots s v) s ∙ ap (option_map f) (get_or-set_same slots s v None lt)

some-mapped : (f : Node → Option ℕ) (c : Option Node) (next : Option ℕ) → option_map f c ≡ Some next → (n : Node) × (c ≡ Some n) × (f n ≡ next)
some-mapped f None next e = cc
some-mapped f (Some n) next e = (n, refl, cc)

length-without : {X : Type 0} (xs : List (Option X)) (ss : List ℕ) → ((s : ℕ) → 0 < times s ss → s < length xs) → length (without xs ss) ≡ length xs
length-without xs [] below = refl
length-without xs (s ∷ ss) below =
    let rest = length-without xs ss (λ t h. below t (omega (arith, h))) in
    let lt : s < length (without xs ss) = (let at = below s (omega (arith, one_if-same s)) in omega (arith, at, rest)) in
    ap length (put-set (without xs ss) s None lt) ∙ length-set (without xs ss) s None ∙ rest

-- what the links say of a slot that holds a node
pub links_some : (f : Node → Option ℕ) (slots : List (Option Node)) (s : ℕ) (next : Option ℕ) → get_or (links f slots) s None ≡ Some next
    → (n : Node) × (get_or slots s None ≡ Some n) × (f n ≡ next)
links_some f slots s next e = some-mapped f (get_or slots s None) next (sym (get_or-map_option f slots s) ∙ e)

-- what a taken slot holds lies in the store
pub record IsTakenAt (slots : List (Option Node)) (free : List ℕ) (fresh s : ℕ) (n : Node) : Type 0 where
  pub away : times s free ≡ 0
  pub below : s < fresh
  pub within : s < length slots
  pub at_store : get_or slots s None ≡ Some n

pub taken_at : (slots : List (Option Node)) (free : List ℕ) (fresh s : ℕ) (n : Node) → get_or (cells_of slots free fresh) s None ≡ Some n
    → IsTakenAt slots free fresh s n
taken_at slots free fresh s n e =
    let w = some-without (take fresh slots) free s n e in
    let l : s < length (take fresh slots) = within_some (take fresh slots) s n w.1 in
    let lt : s < fresh = omega (arith, l, length-take fresh slots) in
    record { away = w.0; below = lt; within = omega (arith, l, length-take fresh slots); at_store = sym (get_or-take fresh slots s None lt) ∙ w.1 }

-- the store's cells after a write to a taken slot, or to one that is free
pub cells-set : (slots : List (Option Node)) (free : List ℕ) (fresh s : ℕ) (v : Option Node) → times s free ≡ 0 → s < fresh → fresh ≤ length slots
    → cells_of (set slots s v) free fresh ≡ put (cells_of slots free fresh) s v
cells-set slots free fresh s v away lt le =
    let within : s < length (take fresh slots) = omega (arith, lt, le, length-take-le fresh slots le) in
    ap (λ xs. without xs free) (take-set fresh slots s v ∙ sym (put-set (take fresh slots) s v within)) ∙ without-put (take fresh slots) free s v away

-- a slot of a list is another than one that the list lacks
free_apart : (ss : List ℕ) (s t : ℕ) → times s ss ≡ 0 → 0 < times t ss → t ≢ s
free_apart ss s t away h e = (let here : 0 < times s ss = subst (λ z. 0 < times z ss) e h in omega (arith, here, away))

-- no cell of these was freed
abbrev AreTaken : List (Option Node) → Type 0
AreTaken xs = (t : ℕ) (n : Node) → get_or xs t None ≡ Some n → n.mark ≤ 1

AreTaken-put : (xs : List (Option Node)) (s : ℕ) (v : Option Node) → AreTaken xs → ((n : Node) → v ≡ Some n → n.mark ≤ 1) → AreTaken (put xs s v)
AreTaken-put xs s v known here t n e = elim (one_or_two t s) [
  | inl h ↦ here n (sym (get_or-put_same xs s v) ∙ ap (λ (z : ℕ). get_or (put xs s v) z None) (sym h.1) ∙ e)
  | inr h ↦ known t n (sym (get_or-put_other xs s t v h.1) ∙ e)
]

-- these are the cells before, with another at slot s
taken_after : (ys xs : List (Option Node)) (s : ℕ) (v : Option Node) → ys ≡ put xs s v → AreTaken xs → ((n : Node) → v ≡ Some n → n.mark ≤ 1) → AreTaken ys
taken_after ys xs s v e known here = subst AreTaken (sym e) (AreTaken-put xs s v known here)

small_mark : (m : Node) → m.mark ≤ 1 → (n : Node) → Some m ≡ Some n → n.mark ≤ 1
small_mark m le n e = subst (λ (z : Node). z.mark ≤ 1) (let same : m ≡ n = cc in same) le

module _ (slots : List (Option Node)) (free : List ℕ) (fresh taken room cap : ℕ) (p : IsPool slots free fresh taken room cap) where
  in_store : fresh ≤ length slots
  in_store = omega (arith, p.room_is, p.fresh_in_room)

  -- a slot that was freed is one that was taken
  free_below : (s : ℕ) → 0 < times s free → s < fresh
  free_below s h = elim (lt_or_le s fresh) [
    | inl lt ↦ lt
    | inr le ↦ absurd (let known = sym (ap is_given_back (p.empty s le)) ∙ p.free_known s h in cc)
  ]

  -- there is a place for each slot that was ever taken
  pub cells-length : length (cells_of slots free fresh) ≡ fresh
  cells-length =
      let long = length-take-le fresh slots in_store in
      length-without (take fresh slots) free (λ s h. omega (arith, free_below s h, long)) ∙ long

  -- a write of a node to a slot that is held
  pub held-set : (s : ℕ) (m : Node) → s < fresh → (t : ℕ) → t < fresh → IsHeld (set slots s (Some m)) t
  held-set s m ls t lt =
      let within : s < length slots = omega (arith, ls, in_store) in
      elim (one_or_two t s) [
        | inl h ↦ (m, subst (λ z. get_or (set slots s (Some m)) z None ≡ Some m) (sym h.1) (get_or-set_same slots s (Some m) None within))
        | inr h ↦ (let was = p.held t lt in (was.0, get_or-set_other slots s t (Some m) None h.1 ∙ was.1))
      ]

  pub empty-set : (s : ℕ) (m : Node) → s < fresh → (t : ℕ) → fresh ≤ t → get_or (set slots s (Some m)) t None ≡ None
  empty-set s m ls t le = get_or-set_other slots s t (Some m) None (λ e. absurd (omega (arith, ls, le, e))) ∙ p.empty t le

  -- a taken slot gets another node
  pub pool-set : (s : ℕ) (n m : Node) → m.mark ≤ 1 → get_or (cells_of slots free fresh) s None ≡ Some n
      → IsPool (set slots s (Some m)) free fresh taken room cap
  pool-set s n m small e =
      let at = taken_at slots free fresh s n e in
      let put_is = cells-set slots free fresh s (Some m) at.away at.below in_store in
      let count = filled-put (cells_of slots free fresh) s (Some m) in
      let was : one_some (get_or (cells_of slots free fresh) s None) ≡ 1 = ap one_some e in
      let now : filled (cells_of (set slots s (Some m)) free fresh) ≡ filled (put (cells_of slots free fresh) s (Some m)) = ap filled put_is in
      record {
        once = p.once;
        held = held-set s m at.below;
        empty = empty-set s m at.below;
        free_known = λ t h. ap is_given_back (get_or-set_other slots s t (Some m) None (free_apart free s t at.away h)) ∙ p.free_known t h;
        taken_known = taken_after _ _ s (Some m) put_is p.taken_known (small_mark m small);
        free_counted = p.free_counted;
        taken_counted = omega (arith, now, was, count, p.taken_counted);
        room_is = length-set slots s (Some m) ∙ p.room_is;
        fresh_in_room = p.fresh_in_room;
        fresh_in_cap = p.fresh_in_cap;
        room_in_cap = p.room_in_cap;
        cap_small = p.cap_small;
      }

  -- the slot that was freed last is taken again
  module _ (s : ℕ) (rest : List ℕ) (split : free ≡ s ∷ rest) (held_s : IsHeld slots s) where
    pub reused-away : times s rest ≡ 0
    reused-away = let o = subst (λ (z : List ℕ). times s z ≤ 1) split (p.once s) in omega (arith, o, one_if-same s)

    pub reused-below : s < fresh
    reused-below = elim (lt_or_le s fresh) [ inl h ↦ h | inr h ↦ (let none = p.empty s h in let at = held_s.1 in absurd (cc)) ]

    pub reused-was_free : get_or (cells_of slots free fresh) s None ≡ None
    reused-was_free = get_or-without_same (take fresh slots) free s (subst (λ (z : List ℕ). 0 < times s z) (sym split) (omega (arith, one_if-same s)))

    pub reused-cells : (m : Node) → cells_of (set slots s (Some m)) rest fresh ≡ put (cells_of slots free fresh) s (Some m)
    reused-cells m =
        cells-set slots rest fresh s (Some m) reused-away reused-below in_store
        ∙ sym (put-put (cells_of slots rest fresh) s None (Some m))
        ∙ ap (λ (z : List ℕ). put (cells_of slots z fresh) s (Some m)) (sym split)

    pub reused-pool : (m : Node) → m.mark ≤ 1 → IsPool (set slots s (Some m)) rest fresh (taken + 1) room cap
    reused-pool m small =
        let count = filled-put (cells_of slots free fresh) s (Some m) in
        let was : one_some (get_or (cells_of slots free fresh) s None) ≡ 0 = ap one_some reused-was_free in
        let now : filled (cells_of (set slots s (Some m)) rest fresh) ≡ filled (put (cells_of slots free fresh) s (Some m)) = ap filled (reused-cells m) in
        let len : length free ≡ length rest + 1 = ap length split ∙ (omega arith) in
        record {
          once = λ t. (let o = subst (λ (z : List ℕ). times t z ≤ 1) split (p.once t) in omega (arith, o));
          held = held-set s m reused-below;
          empty = empty-set s m reused-below;
          free_known = λ t h. ap is_given_back (get_or-set_other slots s t (Some m) None (free_apart rest s t reused-away h))
              ∙ p.free_known t (subst (λ (z : List ℕ). 0 < times t z) (sym split) (omega (arith, h)));
          taken_known = taken_after _ _ s (Some m) (reused-cells m) p.taken_known (small_mark m small);
          free_counted = omega (arith, len, p.free_counted);
          taken_counted = omega (arith, now, was, count, p.taken_counted);
          room_is = length-set slots s (Some m) ∙ p.room_is;
          fresh_in_room = p.fresh_in_room;
          fresh_in_cap = p.fresh_in_cap;
          room_in_cap = p.room_in_cap;
          cap_small = p.cap_small;
        }

  -- a slot that was never taken is taken
  module _ (lr : fresh < room) (lc : fresh < cap) where
    pub extended-within : fresh < length slots
    extended-within = omega (arith, lr, p.room_is)

    pub extended-unheld : get_or slots fresh None ≡ None
    extended-unheld = p.empty fresh (omega arith)

    module _ (first : Option ℕ) (c : IsChain (links (λ n. n.next) slots) first free) where
      pub extended-away : times fresh free ≡ 0
      extended-away =
          elim (one_or_more (times fresh free)) [
            | inl z ↦ z
            | inr h ↦ (let m = member_some (links (λ n. n.next) slots) first free fresh c h in
                let l = links_some (λ n. n.next) slots fresh m.0 m.1 in
                let none = extended-unheld in let some = l.1 in absurd (cc))
          ]

      pub extended-chain : (m : Node) → IsChain (links (λ n. n.next) (set slots fresh (Some m))) first free
      extended-chain m = chain_stays (links (λ n. n.next) slots) (links (λ n. n.next) (set slots fresh (Some m))) fresh first free extended-away
          (λ t ne. links-set_other (λ n. n.next) slots fresh t (Some m) ne) c

      pub extended-was_free : get_or (cells_of slots free fresh) fresh None ≡ None
      extended-was_free = get_or-without_other (take fresh slots) free fresh extended-away
          ∙ get_or_past (take fresh slots) fresh None (omega (arith, length-take-le fresh slots in_store))

      pub extended-cells : (m : Node) → cells_of (set slots fresh (Some m)) free (fresh + 1) ≡ put (cells_of slots free fresh) fresh (Some m)
      extended-cells m =
          ap (λ xs. without xs free) (take-set_next slots fresh (Some m) extended-within
          ∙ sym (put_end (take fresh slots) fresh (Some m) (length-take-le fresh slots in_store)))
          ∙ without-put (take fresh slots) free fresh (Some m) extended-away

      pub extended-pool : (m : Node) → m.mark ≤ 1 → IsPool (set slots fresh (Some m)) free (fresh + 1) (taken + 1) room cap
      extended-pool m small =
          let count = filled-put (cells_of slots free fresh) fresh (Some m) in
          let was : one_some (get_or (cells_of slots free fresh) fresh None) ≡ 0 = ap one_some extended-was_free in
          let now : filled (cells_of (set slots fresh (Some m)) free (fresh + 1)) ≡ filled (put (cells_of slots free fresh) fresh (Some m)) =
          ap filled (extended-cells m) in
          record {
            once = p.once;
            held = λ t lt. elim (one_or_two t fresh) [
              | inl h ↦ (
                m,
                subst (λ z. get_or (set slots fresh (Some m)) z None ≡ Some m) (sym h.1)
                    (get_or-set_same slots fresh (Some m) None extended-within),
              )
              | inr h ↦ (let was_held = p.held t (let ne = h.1 in omega (arith, lt, ne)) in
                  (was_held.0, get_or-set_other slots fresh t (Some m) None h.1 ∙ was_held.1))
            ];
            empty = λ t le. get_or-set_other slots fresh t (Some m) None (λ e. absurd (omega (arith, le, e))) ∙ p.empty t (omega (arith, le));
            free_known = λ t h. ap is_given_back (get_or-set_other slots fresh t (Some m) None (free_apart free fresh t extended-away h)) ∙ p.free_known t h;
            taken_known = taken_after _ _ fresh (Some m) (extended-cells m) p.taken_known (small_mark m small);
            free_counted = omega (arith, p.free_counted);
            taken_counted = omega (arith, now, was, count, p.taken_counted);
            room_is = length-set slots fresh (Some m) ∙ p.room_is;
            fresh_in_room = omega (arith, lr);
            fresh_in_cap = omega (arith, lc);
            room_in_cap = p.room_in_cap;
            cap_small = p.cap_small;
          }

  -- a taken slot is freed
  module _ (s : ℕ) (n : Node) (e : get_or (cells_of slots free fresh) s None ≡ Some n) (m : Node) where
    pub given_back-at : IsTakenAt slots free fresh s n
    given_back-at = taken_at slots free fresh s n e

    pub given_back-cells : cells_of (set slots s (Some m)) (s ∷ free) fresh ≡ put (cells_of slots free fresh) s None
    given_back-cells = ap (λ xs. put xs s None) (cells-set slots free fresh s (Some m) given_back-at.away given_back-at.below in_store)
        ∙ put-put (cells_of slots free fresh) s (Some m) None

    pub given_back-some_taken : 0 < taken
    given_back-some_taken = omega (arith, p.taken_counted, filled_some (cells_of slots free fresh) s n e)

    pub given_back-pool : nat_eq m.mark 2 ≡ true → IsPool (set slots s (Some m)) (s ∷ free) fresh (taken - 1) room cap
    given_back-pool mark =
        let count = filled-put (cells_of slots free fresh) s None in
        let was : one_some (get_or (cells_of slots free fresh) s None) ≡ 1 = ap one_some e in
        let now : filled (cells_of (set slots s (Some m)) (s ∷ free) fresh) ≡ filled (put (cells_of slots free fresh) s None) = ap filled given_back-cells in
        let some = given_back-some_taken in
        record {
          once = λ t. elim (one_or_two s t) [
            | inl h ↦ (let none : times t free ≡ 0 = subst (λ z. times z free ≡ 0) h.1 given_back-at.away in omega (arith, h.0, none))
            | inr h ↦ omega (arith, h.0, p.once t)
          ];
          held = held-set s m given_back-at.below;
          empty = empty-set s m given_back-at.below;
          free_known = λ t h. elim (one_or_two s t) [
            | inl q ↦ ap (λ z. is_given_back (get_or (set slots s (Some m)) z None)) (sym q.1)
                ∙ ap is_given_back (get_or-set_same slots s (Some m) None given_back-at.within) ∙ mark
            | inr q ↦ ap is_given_back (get_or-set_other slots s t (Some m) None (λ e. q.1 (sym e))) ∙ p.free_known t (omega (arith, h, q.0))
          ];
          taken_known = taken_after _ _ s None given_back-cells p.taken_known (λ n q. absurd (cc));
          free_counted = omega (arith, some, p.free_counted);
          taken_counted = omega (arith, now, was, count, p.taken_counted);
          room_is = length-set slots s (Some m) ∙ p.room_is;
          fresh_in_room = p.fresh_in_room;
          fresh_in_cap = p.fresh_in_cap;
          room_in_cap = p.room_in_cap;
          cap_small = p.cap_small;
        }

  -- a block is added
  module _ (lt : room < cap) where
    pub grown-chain : (first : Option ℕ) → IsChain (links (λ n. n.next) slots) first free
        → IsChain (links (λ n. n.next) (slots ++ replicate 1024 None)) first free
    grown-chain first c =
        chain_agrees (links (λ n. n.next) slots) (links (λ n. n.next) (slots ++ replicate 1024 None)) first free
        (λ t h. get_or-map_option (λ n. n.next) (slots ++ replicate 1024 None) t ∙ ap (option_map (λ (n : Node). n.next)) (get_or-grown slots 1024 t)
        ∙ sym (get_or-map_option (λ n. n.next) slots t)) c

    pub grown-cells : cells_of (slots ++ replicate 1024 None) free fresh ≡ cells_of slots free fresh
    grown-cells = ap (λ xs. without xs free) (take-append-le fresh slots (replicate 1024 None) in_store)

    pub grown-pool : IsPool (slots ++ replicate 1024 None) free fresh taken (room + 1024) cap
    grown-pool = record {
      once = p.once;
      held = λ t l. (let was = p.held t l in (was.0, get_or-grown slots 1024 t ∙ was.1));
      empty = λ t le. get_or-grown slots 1024 t ∙ p.empty t le;
      free_known = λ t h. ap is_given_back (get_or-grown slots 1024 t) ∙ p.free_known t h;
      taken_known = subst AreTaken (sym grown-cells) p.taken_known;
      free_counted = p.free_counted;
      taken_counted = ap filled grown-cells ∙ p.taken_counted;
      room_is = length-append slots (replicate 1024 None) ∙ ap (λ k. k + 1024) p.room_is;
      fresh_in_room = omega (arith, p.fresh_in_room);
      fresh_in_cap = p.fresh_in_cap;
      room_in_cap = omega (arith, lt);
      cap_small = p.cap_small;
    }
