-- What each call of a pool makes of the store, the free list and the cells.
use Rattle.std.proofs.Common.{◌≡◌, ◌≢◌, ◌⊎◌, ℕ, ◌+◌, ◌-◌, ◌<◌, ◌≤◌, List, [], ◌∷◌, ◌++◌, length, get_or}
use Rattle.std.proofs.Common.{set, Some, None, IfSome, inl, inr, refl, sym, ap, subst, ◌∙◌, arith}
use Rattle.std.specs.Prelude.{Option, Bool, true, false, not, nat_eq, nat_lt, replicate, take, ◌^◌, min}
use Rattle.std.proofs.lemmas.Bool.{eqb-true, ne_eqb}
use Rattle.std.proofs.lemmas.Bool.Decides.{nat_tests}
use Rattle.std.specs.Option.{option_map}
use Rattle.std.proofs.lemmas.List.{get_or-take}
use Rattle.rx_arena.specs.Inner.Node.{Node, mark_of, has_mark, given_back, changed, is_protected_node}
use Rattle.rx_arena.specs.declared.pool.Pool.TheInside.{Inside}
use Rattle.rx_arena.specs.Inner.Held.{IsHeld}
use Rattle.rx_arena.specs.Faces.{ask, word_of, word_beside}
use Rattle.rx_arena.proofs.FaceLemmas.{word-taken, word-node}
use Rattle.rx_arena.specs.Put.{times, put, filled, one_some, altered}
use Rattle.rx_arena.specs.Inner.Links.{Links, links, IsChain, Listed}
use Rattle.rx_arena.specs.Inner.Pool.{PoolState, IsPool, cells_of, is_given_back, is_unmarked_node}
use Rattle.rx_arena.proofs.PutLemmas.{within_some, filled-put, get_or-without_other, get_or-without_same}
use Rattle.rx_arena.proofs.ChainLemmas.{one_or_more, chain_stays, popped, pushed, listed_is, first_some}
use Rattle.rx_arena.proofs.PoolLemmas.{lt_or_le, cells-length, links-set_other, links-set_same, links_some, taken_at, cells-set, pool-set, reused-away}
use Rattle.rx_arena.proofs.PoolLemmas.{reused-below, reused-was_free, reused-cells, reused-pool, extended-chain, extended-was_free, extended-cells}
use Rattle.rx_arena.proofs.PoolLemmas.{extended-pool, given_back-cells, given_back-some_taken, given_back-pool, grown-chain, grown-cells, grown-pool}

-- the two marks of taken cells
pub mark_of_small : (turned marked : Bool) → mark_of turned marked ≤ 1
mark_of_small false false = omega arith
mark_of_small false true = omega arith
mark_of_small true false = omega arith
mark_of_small true true = omega arith

-- neither is that of a cell that was freed
two_apart : (turned : Bool) → nat_eq 2 (mark_of turned false) ≡ false
two_apart false = refl
two_apart true = refl

pub mark_shown : (turned : Bool) (o : Option Node) (k w : ℕ) → w ≡ mark_of turned false → IfSome o (λ n. k ≡ n.mark)
    → IfSome o (λ n. not (nat_eq k w) ≡ has_mark turned n)
mark_shown turned None k w e h = tt
mark_shown turned (Some n) k w e h = λ i. not (nat_eq (h i) (e i))

-- two states that differ in no part
pub same_pool : (cells cells' : List (Option Node)) (free free' : List ℕ) (fresh room cap : ℕ) (turned : Bool) → cells ≡ cells' → free ≡ free'
    → ◌≡◌ {A = PoolState} (record { cells = cells; free = free; fresh = fresh; room = room; cap = cap; turned = turned })
    (record { cells = cells'; free = free'; fresh = fresh; room = room; cap = cap; turned = turned })
same_pool cells cells' free free' fresh room cap turned e f = λ i. record { cells = e i; free = f i; fresh = fresh; room = room; cap = cap; turned = turned }

-- the nodes' links in their lists
abbrev pub frees : List (Option Node) → Links
frees slots = links (λ n. n.next) slots

-- the store, with its free list and counts, holds these cells
pub record Step (slots : List (Option Node)) (first : Option ℕ) (free : List ℕ) (fresh taken room cap : ℕ) (cells : List (Option Node)) : Type 0 where
  pub chain : IsChain (frees slots) first free
  pub pool : IsPool slots free fresh taken room cap
  pub cells_is : cells_of slots free fresh ≡ cells

module _ {slots : List (Option Node)} {first : Option ℕ} {free : List ℕ} {fresh taken room cap : ℕ} {cells : List (Option Node)}
    (st : Step slots first free fresh taken room cap cells) (l : Listed (frees slots) first) where
  pub step_pool : IsPool slots l.0 fresh taken room cap
  step_pool = subst (λ z. IsPool slots z fresh taken room cap) (sym (listed_is (frees slots) first l free st.chain)) st.pool

  pub step_free : l.0 ≡ free
  step_free = listed_is (frees slots) first l free st.chain

  pub step_cells : cells_of slots l.0 fresh ≡ cells
  step_cells = ap (λ (z : List ℕ). cells_of slots z fresh) (listed_is (frees slots) first l free st.chain) ∙ st.cells_is

  pub step_state : (turned : Bool)
      → ◌≡◌ {A = PoolState} (record { cells = cells_of slots l.0 fresh; free = l.0; fresh = fresh; room = room; cap = cap; turned = turned })
      (record { cells = cells; free = free; fresh = fresh; room = room; cap = cap; turned = turned })
  step_state turned = same_pool _ _ _ _ fresh room cap turned step_cells step_free

-- what is taken and what is spare fit
pub pool_fits : {slots : List (Option Node)} {free : List ℕ} {fresh taken room cap : ℕ} → IsPool slots free fresh taken room cap
    → (min cap room - filled (cells_of slots free fresh)) + filled (cells_of slots free fresh) ≤ cap
pool_fits p = omega (arith, p.taken_counted, p.free_counted, p.fresh_in_cap)

-- the taken slots are below the room and the limit
pub pool_room : {slots : List (Option Node)} {free : List ℕ} {fresh taken room cap : ℕ} → IsPool slots free fresh taken room cap
    → (filled (cells_of slots free fresh) ≡ taken) × (taken ≤ room) × (taken ≤ cap)
pool_room p = (p.taken_counted, omega (arith, p.free_counted, p.fresh_in_room), omega (arith, p.free_counted, p.fresh_in_cap))

-- one more is taken
pub filled-taken : (cells : List (Option Node)) (s : ℕ) (b : Node) → get_or cells s None ≡ None → filled (put cells s (Some b)) ≡ filled cells + 1
filled-taken cells s b e = let none = ap one_some e in omega (arith, filled-put cells s (Some b), none)

-- a step over an equal store
step_at : (slots new : List (Option Node)) (first : Option ℕ) (free : List ℕ) (fresh taken room cap : ℕ) (cells : List (Option Node)) → new ≡ slots
    → Step slots first free fresh taken room cap cells → Step new first free fresh taken room cap cells
step_at slots new first free fresh taken room cap cells e st = subst (λ z. Step z first free fresh taken room cap cells) (sym e) st

pub new-step : (cap : ℕ) → cap ≤ 2 ^ 30 → Step [] None [] 0 0 0 cap []
new-step cap le = record {
  chain = tt;
  pool = record {
    once = λ s. omega arith;
    held = λ s lt. absurd (omega (arith, lt));
    empty = λ s h. refl;
    free_known = λ s h. absurd (omega (arith, h));
    taken_known = λ s n e. absurd (cc);
    free_counted = refl;
    taken_counted = refl;
    room_is = refl;
    fresh_in_room = omega arith;
    fresh_in_cap = omega arith;
    room_in_cap = omega arith;
    cap_small = le;
  };
  cells_is = refl;
}

-- what a pool shows of its cells
abbrev pub cells_in : Inside → List (Option Node)
cells_in x = cells_of x.store x.listed.0 x.fresh

-- the store holds these cells, with the pool's free list and counts
abbrev pub Keeps : Inside → List (Option Node) → List (Option Node) → Type 0
Keeps x new cells = Step new x.free x.listed.0 x.fresh x.taken x.room x.cap cells

module _ (x : Inside) (p : IsPool x.store x.listed.0 x.fresh x.taken x.room x.cap) where
  abbrev slots : List (Option Node)
  slots = x.store

  abbrev first : Option ℕ
  first = x.free

  abbrev l : Listed (frees x.store) x.free
  l = x.listed

  abbrev fresh : ℕ
  fresh = x.fresh

  abbrev taken : ℕ
  taken = x.taken

  abbrev room : ℕ
  room = x.room

  abbrev cap : ℕ
  cap = x.cap

  abbrev cells : List (Option Node)
  cells = cells_in x

  pub extended-step : (new : List (Option Node)) (b : Node) → b.mark ≤ 1 → fresh < room → fresh < cap → new ≡ set slots fresh (Some b)
      → Step new first l.0 (fresh + 1) (taken + 1) room cap (put cells fresh (Some b))
  extended-step new b small lr lc e = step_at (set slots fresh (Some b)) new first l.0 (fresh + 1) (taken + 1) room cap (put cells fresh (Some b)) e (record {
    chain = extended-chain slots l.0 fresh taken room cap p lr lc first l.1 b;
    pool = extended-pool slots l.0 fresh taken room cap p lr lc first l.1 b small;
    cells_is = extended-cells slots l.0 fresh taken room cap p lr lc first l.1 b;
  })

  pub extended_free : fresh < room → fresh < cap → get_or cells fresh None ≡ None
  extended_free lr lc = extended-was_free slots l.0 fresh taken room cap p lr lc first l.1

  pub grown-step : (new : List (Option Node)) → room < cap → new ≡ slots ++ replicate 1024 None → Step new first l.0 fresh taken (room + 1024) cap cells
  grown-step new lt e = step_at (slots ++ replicate 1024 None) new first l.0 fresh taken (room + 1024) cap cells e (record {
    chain = grown-chain slots l.0 fresh taken room cap p lt first l.1;
    pool = grown-pool slots l.0 fresh taken room cap p lt;
    cells_is = grown-cells slots l.0 fresh taken room cap p lt;
  })

  pub same-step : (new : List (Option Node)) → new ≡ slots → Keeps x new cells
  same-step new e = step_at slots new first l.0 fresh taken room cap cells e (record { chain = l.1; pool = p; cells_is = refl })

  -- a taken slot is held in the store, and is not free
  pub held_in_store : (s : ℕ) → IsHeld cells s → IsHeld slots s
  held_in_store s h = (h.0, (taken_at slots l.0 fresh s h.0 h.1).at_store)

  pub within_store : (s : ℕ) → IsHeld cells s → s < length slots
  within_store s h = (taken_at slots l.0 fresh s h.0 h.1).within

  -- a fact of the node in the store is one of the node that is shown
  pub shown : (P : Node → Type 0) (s : ℕ) → IsHeld cells s → IfSome (get_or slots s None) P → IfSome (get_or cells s None) P
  shown P s h f = subst (λ z. IfSome z P) (sym h.1) (subst (λ z. IfSome z P) (taken_at slots l.0 fresh s h.0 h.1).at_store f)

  pub unshown : (P : Node → Type 0) (s : ℕ) → IsHeld cells s → IfSome (get_or cells s None) P → IfSome (get_or slots s None) P
  unshown P s h f = subst (λ z. IfSome z P) (sym (taken_at slots l.0 fresh s h.0 h.1).at_store) (subst (λ z. IfSome z P) h.1 f)

  pub held_links : (next : Option ℕ) → IfSome next (IsHeld cells) → IfSome next (IsHeld slots)
  held_links None h = tt
  held_links (Some t) h = held_in_store t h

  pub within_links : (next : Option ℕ) → IfSome next (IsHeld cells) → IfSome next (λ t. t < length slots)
  within_links None h = tt
  within_links (Some t) h = within_store t h

  pub link_held : (s : ℕ) → IsHeld cells s → IfSome (get_or cells s None) (λ n. IfSome n.chain (IsHeld cells))
      → IfSome (get_or slots s None) (λ n. IfSome n.chain (IsHeld slots))
  link_held s h k =
      let at = (taken_at slots l.0 fresh s h.0 h.1).at_store in
      subst (λ z. IfSome z (λ n. IfSome n.chain (IsHeld slots))) (sym at) (held_links h.0.chain
      (subst (λ z. IfSome z (λ n. IfSome n.chain (IsHeld cells))) h.1 k))

  -- a change of a taken slot's node: the slot is not in the free list, which stays
  pub kept-step : (new : List (Option Node)) (s : ℕ) (f : Node → Node) → ((n : Node) → n.mark ≤ 1 → (f n).mark ≤ 1) → IsHeld cells s
      → new ≡ changed s f slots → Keeps x new (altered s f cells)
  kept-step new s f small h e =
      let at = taken_at slots l.0 fresh s h.0 h.1 in
      let is : changed s f slots ≡ set slots s (Some (f h.0)) = ap (λ z. set slots s (option_map f z)) at.at_store in
      let shows : altered s f cells ≡ put cells s (Some (f h.0)) = ap (λ z. put cells s (option_map f z)) h.1 in
      step_at (set slots s (Some (f h.0))) new first l.0 fresh taken room cap (altered s f cells) (e ∙ is) (record {
        chain = chain_stays (frees slots) (frees (set slots s (Some (f h.0)))) s first l.0 at.away (λ t ne.
            links-set_other (λ n. n.next) slots s t (Some (f h.0)) ne) l.1;
        pool = pool-set slots l.0 fresh taken room cap p s h.0 (f h.0) (small h.0 (p.taken_known s h.0 h.1)) h.1;
        cells_is = cells-set slots l.0 fresh s (Some (f h.0)) at.away at.below (omega (arith, p.room_is, p.fresh_in_room)) ∙ sym shows;
      })

  small_of : (next : Option ℕ) → IfSome next (λ s. (0 < times s l.0) × ((k : Option ℕ) × (get_or (frees slots) s None ≡ Some k)))
      → IfSome next (λ t. t < 4294967295)
  small_of None h = tt
  small_of (Some t) h =
      let n = links_some (λ n. n.next) slots t h.1.0 h.1.1 in
      let lt = within_some slots t n.0 n.1 in
      let small = p.cap_small in
      omega (arith, lt, p.room_is, p.room_in_cap, small)

  -- the free list's first slot is below what represents none
  pub first_small : IfSome first (λ t. t < 4294967295)
  first_small = small_of first (first_some (frees slots) first l.0 l.1)

  pub given_back-step : (new : List (Option Node)) (s : ℕ) → IsHeld cells s → new ≡ changed s (given_back first) slots
      → Step new (Some s) (s ∷ l.0) fresh (taken - 1) room cap (put cells s None)
  given_back-step new s h e =
      let at = taken_at slots l.0 fresh s h.0 h.1 in
      let m : Node = given_back first h.0 in
      let is : new ≡ set slots s (Some m) = e ∙ ap (λ z. set slots s (option_map (given_back first) z)) at.at_store in
      step_at (set slots s (Some m)) new (Some s) (s ∷ l.0) fresh (taken - 1) room cap (put cells s None) is (record {
        chain = pushed (frees slots) (frees (set slots s (Some m))) s first l.0 at.away (λ t ne. links-set_other (λ n. n.next) slots s t (Some m) ne)
            (links-set_same (λ n. n.next) slots s (Some m) at.within) l.1;
        pool = given_back-pool slots l.0 fresh taken room cap p s h.0 h.1 m refl;
        cells_is = given_back-cells slots l.0 fresh taken room cap p s h.0 h.1 m;
      })

  -- there is a place for each slot that was ever taken
  pub fresh_is : fresh ≡ length cells
  fresh_is = sym (cells-length slots l.0 fresh taken room cap p)

  -- past the slots that were ever taken none is taken
  pub past_fresh : (s : ℕ) → fresh ≤ s → get_or cells s None ≡ None
  past_fresh s le = by_cell (get_or cells s None) refl where
    by_cell : (o : Option Node) → get_or cells s None ≡ o → get_or cells s None ≡ None
    by_cell None e = e
    by_cell (Some n) e = absurd (let lt = (taken_at slots l.0 fresh s n e).below in omega (arith, lt, le))

  -- what lies at a slot that was ever taken: a taken cell, or one that was freed
  known_at : (s k : ℕ) → s < fresh → IfSome (get_or slots s None) (λ n. k ≡ n.mark)
      → ((k ≤ 1) × ((n : Node) × (get_or cells s None ≡ Some n) × (k ≡ n.mark))) ⊎ ((k ≡ 2) × (get_or cells s None ≡ None))
  known_at s k lt read = elim (one_or_more (times s l.0)) [
    | inl away ↦ (let here : get_or cells s None ≡ Some node.0 =
        get_or-without_other (take fresh slots) l.0 s away ∙ get_or-take fresh slots s None lt ∙ node.1 in
        inl (subst (λ z. z ≤ 1) (sym mark) (p.taken_known s node.0 here), (node.0, here, mark)))
    | inr h ↦ inr (mark ∙ eqb-true node.0.mark 2 (sym (ap is_given_back node.1) ∙ p.free_known s h), get_or-without_same (take fresh slots) l.0 s h)
  ] where
    node : (n : Node) × (get_or slots s None ≡ Some n)
    node = p.held s lt

    mark : k ≡ node.0.mark
    mark = subst (λ z. IfSome z (λ n. k ≡ n.mark)) node.1 read

  -- a slot is taken and not marked, as its mark says
  pub unmarked_held : (turned : Bool) (s k : ℕ) → s < fresh → IfSome (get_or slots s None) (λ n. k ≡ n.mark)
      → nat_eq k (mark_of turned false) ≡ is_unmarked_node turned (get_or cells s None)
  unmarked_held turned s k lt read = elim (known_at s k lt read) [
    | inl h ↦ ap (λ (z : ℕ). nat_eq z (mark_of turned false)) h.1.2 ∙ sym (ap (is_unmarked_node turned) h.1.1)
    | inr h ↦ ap (λ (z : ℕ). nat_eq z (mark_of turned false)) h.0 ∙ two_apart turned ∙ sym (ap (is_unmarked_node turned) h.1)
  ]

  -- a taken slot's mark in the store
  pub small_there : (s : ℕ) → IsHeld cells s → IfSome (get_or slots s None) (λ n. n.mark ≤ 1)
  small_there s h = subst (λ z. IfSome z (λ n. n.mark ≤ 1)) (sym (taken_at slots l.0 fresh s h.0 h.1).at_store) (p.taken_known s h.0 h.1)

  -- a taken slot's word
  pub word_there : (s : ℕ) → IsHeld cells s → (w : ℕ) → w ≡ word_beside (get_or slots s None) → IfSome (get_or cells s None) (λ n. w ≡ word_of n.body)
  word_there s h w e = subst (λ z. IfSome z (λ n. w ≡ word_of n.body)) (sym h.1)
      (e ∙ ap word_beside (taken_at slots l.0 fresh s h.0 h.1).at_store ∙ word-taken h.0 (p.taken_known s h.0 h.1))

  -- a slot with a word is taken
  pub worded_held : (s w : ℕ) → w ≢ ask → w ≡ word_beside (get_or slots s None) → (n : Node) × (get_or cells s None ≡ Some n) × (w ≡ word_of n.body)
  worded_held s w ne e = elim (lt_or_le s fresh) [
    | inl lt ↦ elim (known_at s node.0.mark lt (subst (λ o. IfSome o (λ n. node.0.mark ≡ n.mark)) (sym node.1) refl)) [
      | inl h ↦ (let here = h.1.1 in (h.1.0, here, subst (λ o. IfSome o (λ n. w ≡ word_of n.body)) here (word_there s (h.1.0, here) w e)))
      | inr h ↦ absurd (node.2 h.0)
    ]
    | inr le ↦ absurd (ne (e ∙ ap word_beside (p.empty s le)))
  ] where
    node : (n : Node) × (get_or slots s None ≡ Some n) × (n.mark ≢ 2) × (w ≡ word_of n.body)
    node = word-node (get_or slots s None) w ne e

  -- so is a slot taken and protected: by its mark, where its node is protected
  pub protected_held : (s k : ℕ) → s < fresh → IfSome (get_or slots s None) (λ n. k ≡ n.mark) → is_protected_node (get_or slots s None) ≡ true
      → not (nat_eq k 2) ≡ is_protected_node (get_or cells s None)
  protected_held s k lt read is = elim (known_at s k lt read) [
    | inl h ↦ ap not (ne_eqb k 2 (λ e. (let small = h.0 in absurd (omega (arith, small, e)))))
        ∙ sym (ap is_protected_node (h.1.1 ∙ sym (taken_at slots l.0 fresh s h.1.0 h.1.1).at_store) ∙ is)
    | inr h ↦ ap (λ (z : ℕ). not (nat_eq z 2)) h.0 ∙ sym (ap is_protected_node h.1)
  ]

  -- and not where its node is not
  pub unprotected_held : (s : ℕ) → is_protected_node (get_or slots s None) ≡ false → is_protected_node (get_or cells s None) ≡ false
  unprotected_held s is = by_cell (get_or cells s None) refl where
    by_cell : (o : Option Node) → get_or cells s None ≡ o → is_protected_node (get_or cells s None) ≡ false
    by_cell None e = ap is_protected_node e
    by_cell (Some n) e = ap is_protected_node (e ∙ sym (taken_at slots l.0 fresh s n e).at_store) ∙ is

  pub given_back_some : (s : ℕ) → IsHeld cells s → 0 < taken
  given_back_some s h = given_back-some_taken slots l.0 fresh taken room cap p s h.0 h.1 h.0

  -- the first free slot, if there is one
  module _ (s : ℕ) (is : first ≡ Some s) where
    abbrev pub front : (rest : List ℕ) × (l.0 ≡ s ∷ rest) × (next : Option ℕ) × (get_or (frees slots) s None ≡ Some next) × IsChain (frees slots) next rest
    front = popped (frees slots) first s l.0 l.1 is

    abbrev pub front_node : (n : Node) × (get_or slots s None ≡ Some n) × (n.next ≡ front.2)
    front_node = links_some (λ n. n.next) slots s front.2 front.3

    pub front_held : IsHeld slots s
    front_held = (front_node.0, front_node.1)

    pub front_split : l.0 ≡ s ∷ front.0
    front_split = front.1

    pub front_free : get_or cells s None ≡ None
    front_free = reused-was_free slots l.0 fresh taken room cap p s front.0 front.1 front_held

    pub front_below : s < cap
    front_below = omega (arith, reused-below slots l.0 fresh taken room cap p s front.0 front.1 front_held, p.fresh_in_cap)

    pub reused-step : (new : List (Option Node)) (b : Node) (next : Option ℕ) → b.mark ≤ 1 → IfSome (get_or slots s None) (λ n. next ≡ n.next)
        → new ≡ set slots s (Some b) → Step new next front.0 fresh (taken + 1) room cap (put cells s (Some b))
    reused-step new b next small led e =
        let n_is : next ≡ front.2 = subst (λ z. IfSome z (λ n. next ≡ n.next)) front_node.1 led ∙ front_node.2 in
        let away = reused-away slots l.0 fresh taken room cap p s front.0 front.1 front_held in
        step_at (set slots s (Some b)) new next front.0 fresh (taken + 1) room cap (put cells s (Some b)) e (record {
          chain = chain_stays (frees slots) (frees (set slots s (Some b))) s next front.0 away (λ t ne.
              links-set_other (λ n. n.next) slots s t (Some b) ne) (subst (λ z. IsChain (frees slots) z front.0) (sym n_is) front.4);
          pool = reused-pool slots l.0 fresh taken room cap p s front.0 front.1 front_held b small;
          cells_is = reused-cells slots l.0 fresh taken room cap p s front.0 front.1 front_held b;
        })

pub not_below : (a b : ℕ) → (a < b → ⊥) → nat_lt a b ≡ false
not_below a b h = grind (arith, nat_tests, h)
