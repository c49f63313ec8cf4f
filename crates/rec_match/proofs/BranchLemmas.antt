-- Switches of matching trees.
use Rattle.std.proofs.Common.{refl, sym, ap, subst, arith, ◌∙◌, inl, inr}
use Rattle.std.proofs.lemmas.Bool.{cases_eq, eqb-true, eq-eqb, ltb-true, leb-true, le-leb}
use Rattle.std.proofs.lemmas.List.{append-nil, length-append, length-set, get_or-set_same, get_or-set_other, get_or-append-add, get_or-map}
use Rattle.std.proofs.lemmas.Option.{get_or_from_slice_get}
use Rattle.rx_term.specs.declared.Symbol as bank
use Rattle.std.specs.Prelude.{ℕ, zero, suc, ◌+◌, ◌-◌, ◌<◌, ◌≤◌, ◌≡◌, ◌≢◌, ◌⊎◌, Bool, true, false, ◌&&◌, ◌||◌, List, [], ◌∷◌, ◌++◌}
use Rattle.std.specs.Prelude.{All, length, map, take, get_or, set, nat_eq, nat_le, nat_lt, bytes_eq, if◌then◌else◌, slice_get, Some}
use Rattle.rec_syntax.specs.Syntax.{Spec}
use Rattle.rec_sorts.specs.Lookup.{symbols}
use Rattle.rec_sorts.specs.Numbering.{name_of, arity_of}
use Rattle.rec_sorts.specs.declared.letters.Meaning.TheVariants.{Symbol}
use Rattle.rec_sorts.proofs.KeptLemmas.{bytes_eq-eq}
use Rattle.rec_sorts.proofs.BindingLemmas.{bytes_eq-refl}
use Rattle.rec_match.specs.Rows.{Row, opened_cells, kept_cells, changed}
use Rattle.rec_match.specs.Forests.{Cases, case_at, child_at, no_child, number_at}
use Rattle.rec_match.specs.Inner.Growing.{State, AllWithin, GrowsSwitch, Extends}
use Rattle.rec_match.specs.Inner.Marking.{AreListed}
use Rattle.rec_match.specs.Parts.{Coded, coded_of, AreDistinct, AreMarks, opened_codes, kept_codes, changed_codes}
use Rattle.rec_match.specs.Inner.Shares.{symbols_of, IsShare, AreShares}
use Rattle.rec_match.specs.Inner.Tasks.{Task, IsGround, Growing, Steps, IsBranch, Covers, Adds, WritesSwitch, Branched, BranchesOut}
use Rattle.rec_match.specs.Matching.{numbers_of}
use Rattle.rec_match.specs.declared.forest.Child.{Child}
use Rattle.rec_match.specs.declared.forest.Forest.{Forest}
use Rattle.rec_match.specs.declared.forest.Node.TheVariants.{Switch}
use Rattle.rec_match.specs.declared.parts.Parts.{Parts}
use Rattle.rec_match.specs.declared.shares.Share.{Share}
use Rattle.rec_match.proofs.GrowthLemmas.{fits_switch}
use Rattle.rec_match.proofs.LeftLemmas.{left_opened, left_kept}
use Rattle.rec_match.proofs.ShareLemmas.{symbol_at, symbols_long, Popped, popped_front}
use Rattle.rec_match.proofs.TaskLemmas.{Added, added, goes_more, goes_written, steps_none}

-- a name with a number of arguments is that of a marked symbol before one
abbrev marked : Spec → List Bool → ℕ → List ℕ → ℕ → Bool
marked y marks zero name k = false
marked y marks (suc n) name k = (get_or marks n false && (bytes_eq (name_of y (Symbol n)) name && nat_eq (arity_of y n) k)) || marked y marks n name k

record IsMarked (y : Spec) (marks : List Bool) (n : ℕ) (name : List ℕ) (k : ℕ) : Type 0 where
  pub symbol : ℕ
  pub below : symbol < n
  pub marked : get_or marks symbol false ≡ true
  pub named : name ≡ name_of y (Symbol symbol)
  pub counted : k ≡ arity_of y symbol

is_marked : (y : Spec) (marks : List Bool) (n : ℕ) (name : List ℕ) (k : ℕ) → marked y marks n name k ≡ true → IsMarked y marks n name k
is_marked y marks zero name k e = absurd (cc e)
is_marked y marks (suc n) name k e = by (get_or marks n false) (bytes_eq (name_of y (Symbol n)) name) (nat_eq (arity_of y n) k) refl refl refl
    (is_marked y marks n name k) e
  where
    before : IsMarked y marks n name k → IsMarked y marks (suc n) name k
    before h = record { symbol = h.symbol; below = (let lt = h.below in omega (arith, lt)); marked = h.marked; named = h.named; counted = h.counted }

    by : (a b c : Bool) → get_or marks n false ≡ a → bytes_eq (name_of y (Symbol n)) name ≡ b → nat_eq (arity_of y n) k ≡ c
        → (marked y marks n name k ≡ true → IsMarked y marks n name k) → ((a && (b && c)) || marked y marks n name k) ≡ true → IsMarked y marks (suc n) name k
    by true true true ea eb ec later e =
        record {
          symbol = n;
          below = omega arith;
          marked = ea;
          named = sym (bytes_eq-eq (name_of y (Symbol n)) name eb);
          counted =
              sym (eqb-true (arity_of y n) k ec);
        }
    by true true false ea eb ec later e = before (later e)
    by true false c ea eb ec later e = before (later e)
    by false b c ea eb ec later e = before (later e)

marked_there : (y : Spec) (marks : List Bool) (n j : ℕ) → j < n → get_or marks j false ≡ true → marked y marks n (name_of y (Symbol j)) (arity_of y j) ≡ true
marked_there y marks zero j lt e = absurd (let bad : ⊥ = omega (arith, lt) in bad)
marked_there y marks (suc n) j lt e = by (cases_eq j n) (λ l. marked_there y marks n j l e)
  where
    here : (a b c : Bool) (later : Bool) → a ≡ true → b ≡ true → c ≡ true → ((a && (b && c)) || later) ≡ true
    here true true true later ea eb ec = refl
    here false b c later ea eb ec = absurd (cc ea)
    here true false c later ea eb ec = absurd (cc eb)
    here true true false later ea eb ec = absurd (cc ec)

    or_true : (a b : Bool) → b ≡ true → (a || b) ≡ true
    or_true true b e = refl
    or_true false b e = e

    by : (j ≡ n) ⊎ (j ≢ n) → (j < n → marked y marks n (name_of y (Symbol j)) (arity_of y j) ≡ true)
        → marked y marks (suc n) (name_of y (Symbol j)) (arity_of y j) ≡ true
    by (inl is) later =
        here (get_or marks n false) (bytes_eq (name_of y (Symbol n)) (name_of y (Symbol j))) (nat_eq (arity_of y n) (arity_of y j))
        (marked y marks n (name_of y (Symbol j)) (arity_of y j))
        (ap (λ i. get_or marks i false) (sym is) ∙ e)
        (ap (λ i. bytes_eq (name_of y (Symbol n)) (name_of y (Symbol i))) is ∙ bytes_eq-refl (name_of y (Symbol n)))
        (eq-eqb (arity_of y n) (arity_of y j) (ap (arity_of y) (sym is)))
    by (inr ne) later =
        or_true (get_or marks n false && (bytes_eq (name_of y (Symbol n)) (name_of y (Symbol j)) && nat_eq (arity_of y n) (arity_of y j)))
        (marked y marks n (name_of y (Symbol j)) (arity_of y j))
        (later (omega (arith, lt, ne)))

are_marks : (y : Spec) (marks : List Bool) → AreDistinct y → AreMarks y marks (marked y marks (length (symbols y)))
are_marks y marks distinct k lt = by (get_or marks k false) refl
  where
    of : Bool
    of = marked y marks (length (symbols y)) (name_of y (Symbol k)) (arity_of y k)

    unmarked : get_or marks k false ≡ false → (b : Bool) → of ≡ b → b ≡ false
    unmarked e false g = refl
    unmarked e true g =
        let h = is_marked y marks (length (symbols y)) (name_of y (Symbol k)) (arity_of y k) g in
        let same : k ≡ h.symbol = distinct k h.symbol lt h.below h.named in
        let other : get_or marks k false ≡ true = ap (λ i. get_or marks i false) same ∙ h.marked in
        absurd (cc (other, e))

    by : (b : Bool) → get_or marks k false ≡ b → of ≡ get_or marks k false
    by true e = marked_there y marks (length (symbols y)) k lt e ∙ sym e
    by false e = unmarked e of refl ∙ sym e

-- the state of a symbol's child
abbrev opened_state : Spec → ℕ → ℕ → State → State
opened_state y register k z = record {
  width = z.width + arity_of y k;
  rows =
      changed (opened_cells y register (name_of y (Symbol k)) (arity_of y k) z.width) z.rows;
}

-- a window after children
pub window_in : (cs window : List Child) (low q : ℕ) → low ≤ q → q - low < length window
    → child_at (cs ++ window) low (length cs) (length window) q ≡ get_or window (q - low) no_child
window_in cs window low q le lt = by (nat_le low q) (nat_lt (q - low) (length window)) (le-leb low q le) (le-leb (suc (q - low)) (length window) lt)
  where
    by : (a b : Bool) → a ≡ true → b ≡ true → ◌≡◌ {A = Child} (if a && b then get_or (cs ++ window) (length cs + (q - low)) no_child else no_child)
        (get_or window (q - low) no_child)
    by true true ea eb = get_or-append-add cs window (q - low) no_child
    by false b ea eb = absurd (cc ea)
    by true false ea eb = absurd (cc eb)

pub record InWindow (cs window : List Child) (low q : ℕ) : Type 0 where
  pub from_low : low ≤ q
  pub within : q - low < length window
  pub is : child_at (cs ++ window) low (length cs) (length window) q ≡ get_or window (q - low) no_child

pub in_window : (cs window : List Child) (low q : ℕ) → (child_at (cs ++ window) low (length cs) (length window) q).node ≢ 0 → InWindow cs window low q
in_window cs window low q some = by (nat_le low q) (nat_lt (q - low) (length window)) refl refl some
  where
    by : (a b : Bool) → nat_le low q ≡ a → nat_lt (q - low) (length window) ≡ b
        → (let c : Child = if a && b then get_or (cs ++ window) (length cs + (q - low)) no_child else no_child in c.node) ≢ 0 → InWindow cs window low q
    by true true ea eb some = let le = leb-true low q ea in let lt = ltb-true (q - low) (length window) eb in
        record { from_low = le; within = lt; is = window_in cs window low q le lt }
    by true false ea eb some = absurd (some refl)
    by false b ea eb some = absurd (some refl)

module _ (y : Spec) (ns : List ℕ) (ps : Parts) where
  branch_later : (f g : Forest) (s t : ℕ → State) → Extends f s g t → (n register number : ℕ) (child : Child) → n < length f.nodes.items
      → IsBranch y ns f s n register number child → IsBranch y ns g t n register number child
  branch_later f g s t x n register number child lt h = record {
    symbol = h.symbol;
    declared = h.declared;
    numbered = h.numbered;
    counted = h.counted;
    later = h.later;
    there = (let a = h.there in let b = x.nodes in omega (arith, a, b));
    state = x.states child.node h.there ∙ h.state ∙ ap (opened_state y register h.symbol) (sym (x.states n lt));
  }

  -- no child so far
  pub branched_none : (f : Forest) (ts : List Task) (s : ℕ → State) (t : Task) (register low : ℕ) (ks : List ℕ) (window : List Child)
      → ((q : ℕ) → (get_or window q no_child).node ≡ 0) → Growing y ns ps f (t ∷ ts) s
      → Branched y ns ps f ts s t f ts register low ks window (length ks)
  branched_none f ts s t register low ks window none grow = record {
    goes = steps_none y ns ps f (t ∷ ts) s grow;
    branches = record { each = λ q lt some. absurd (some (none q)); all = λ i le lt. absurd (let bad : ⊥ = omega (arith, le, lt) in bad) };
  }

  -- one symbol more
  pub branched_more : (ground : IsGround y ns ps) (f : Forest) (ts : List Task) (s : ℕ → State) (n width : ℕ) (coded : List Coded) (g h : Forest)
      (us vs : List Task) (register low : ℕ) (ks : List ℕ) (window window' : List Child) (m next k node : ℕ)
      → next ≡ m + 1 → k < length (symbols y) → get_or ks m 0 ≡ k → low ≤ number_at ns k → number_at ns k - low < length window
      → Branched y ns ps f ts s (record { node = n; width = width; rows = coded }) g us register low ks window next
      → Adds g us h vs (width + arity_of y k) (changed_codes (opened_codes ps register k width) coded) node
      → window' ≡ set window (number_at ns k - low) (record { node = node; count = arity_of y k })
      → Branched y ns ps f ts s (record { node = n; width = width; rows = coded }) h vs register low ks window' m
  branched_more ground f ts s n width coded g h us vs register low ks window window' m next k node one lt is_next le within x a e = record {
    goes = goes_more y ns ps f g h (t ∷ ts) (t ∷ us) (t ∷ vs) s x.goes ad.goes;
    branches = record {
      each = λ q l some. each q l some (cases_eq q at);
      all = λ i from l.
          all i from l (cases_eq i m) (cases_eq (number_at ns (get_or ks i 0) - low) at);
    };
  }
    where
      t : Task
      t = record { node = n; width = width; rows = coded }

      at : ℕ
      at = number_at ns k - low

      child : Child
      child = record { node = node; count = arity_of y k }

      u : ℕ → State
      u = x.goes.states

      rows : List Row
      rows = changed (opened_cells y register (name_of y (Symbol k)) (arity_of y k) width) (u n).rows

      ad : Added y ns ps g (t ∷ us) u h (t ∷ vs) node (record { width = width + arity_of y k; rows = rows })
      ad = added y ns ps g h (t ∷ us) (t ∷ vs) (width + arity_of y k) (changed_codes (opened_codes ps register k width) coded) node a.one
          (ap (λ xs. t ∷ xs) a.tasks) u x.goes.growing rows
          (left_opened y ps register k width coded (u n).rows ground.whole ground.symbols_differ lt x.goes.growing.tasks.0.rows)

      there : n < length g.nodes.items
      there = x.goes.growing.tasks.0.there

      own : IsBranch y ns h ad.goes.states n register (number_at ns k) child
      own = record {
        symbol = k;
        declared = lt;
        numbered = refl;
        counted = refl;
        later = (let is = a.one.node_is in let l = there in omega (arith, is, l));
        there = ad.there;
        state = ad.here
            ∙ ap (λ m. (let z : State = record {
              width = m + arity_of y k;
              rows =
                  changed (opened_cells y register (name_of y (Symbol k)) (arity_of y k) m) (u n).rows;
            } in z)) (sym x.goes.growing.tasks.0.width)
            ∙ ap (opened_state y register k) (sym (ad.goes.extends.states n there));
      }

      some_node : node ≢ 0
      some_node z = let is = a.one.node_is in let l = there in let bad : ⊥ = omega (arith, z, is, l) in bad

      same : get_or window' at no_child ≡ child
      same = ap (λ xs. get_or xs at no_child) e ∙ get_or-set_same window at child no_child within

      other : (q : ℕ) → q ≢ at → get_or window' q no_child ≡ get_or window q no_child
      other q ne = ap (λ xs. get_or xs q no_child) e ∙ get_or-set_other window at q child no_child ne

      long : length window' ≡ length window
      long = ap length e ∙ length-set window at child

      each : (q : ℕ) → q < length window' → (get_or window' q no_child).node ≢ 0 → (q ≡ at) ⊎ (q ≢ at)
          → IsBranch y ns h ad.goes.states n register (low + q) (get_or window' q no_child)
      each q l some (inl is) =
          let number : number_at ns k ≡ low + q = omega (arith, is, le) in
          subst (λ c. IsBranch y ns h ad.goes.states n register (low + q) c) (sym (ap (λ i. get_or window' i no_child) is ∙ same))
          (subst (λ i. IsBranch y ns h ad.goes.states n register i child) number own)
      each q l some (inr ne) =
          let is = other q ne in
          let lw = long in
          subst (λ c. IsBranch y ns h ad.goes.states n register (low + q) c) (sym is)
          (branch_later g h u ad.goes.states ad.goes.extends n register (low + q) (get_or window q no_child) there
          (x.branches.each q (omega (arith, l, lw)) (λ z. some (ap (λ (c : Child). c.node) is ∙ z))))

      all : (i : ℕ) → m ≤ i → i < length ks → (i ≡ m) ⊎ (i ≢ m) → (number_at ns (get_or ks i 0) - low ≡ at)
          ⊎ (number_at ns (get_or ks i 0) - low ≢ at) → (get_or window' (number_at ns (get_or ks i 0) - low) no_child).node ≢ 0
      all i from l o (inl is) = λ z. some_node (sym (ap (λ (c : Child). c.node) (ap (λ j. get_or window' j no_child) is ∙ same)) ∙ z)
      all i from l (inl im) (inr ne) = absurd (ne (ap (λ j. number_at ns (get_or ks j 0) - low) im ∙ ap (λ j. number_at ns j - low) is_next))
      all i from l (inr ine) (inr ne) = λ z. x.branches.all i (omega (arith, from, ine, one)) l
          (sym (ap (λ (c : Child). c.node) (other (number_at ns (get_or ks i 0) - low) ne)) ∙ z)

  -- a switch was written, and its children wait
  pub switch_steps : (ground : IsGround y ns ps) (f g h e : Forest) (ts us vs : List Task) (n width register low : ℕ) (coded : List Coded) (other : ℕ)
      (marks : List Bool) (ks : List ℕ) (window : List Child)
      → AreListed marks ks → Covers ns ks low (length window) → register < width
      → Adds f ts g us width (changed_codes (kept_codes ps register marks) coded) other
      → BranchesOut y ns ps g us width coded h vs register low ks window 0
      → WritesSwitch h e n register low window other
      → Steps y ns ps f ((record { node = n; width = width; rows = coded }) ∷ ts) e vs
  switch_steps ground f g h e ts us vs n width register low coded other marks ks window listed covers there a out w s grow =
      goes_more y ns ps f g e (t ∷ ts) (t ∷ us) vs s ad.goes
      (goes_more y ns ps g h e (t ∷ us) (t ∷ vs) vs u b.goes
      (goes_written y ns ps h e v t vs (Switch register low (length h.children.items) (length window) other) b.goes.growing
      (record {
        nodes = (let m : length h.nodes.items ≤ length e.nodes.items = (let l = long in omega (arith, l)) in m);
        new_places = [];
        places =
            w.places ∙ sym (append-nil h.places.items);
        new_children = window;
        children = w.children;
        states = λ m lt. refl;
      })
      w.nodes (fits_switch y ns e v n register other cases switched)))
    where
      t : Task
      t = record { node = n; width = width; rows = coded }

      of : List ℕ → ℕ → Bool
      of = marked y marks (length (symbols y))

      rows : List Row
      rows = changed (kept_cells y register of) (s n).rows

      ad : Added y ns ps f (t ∷ ts) s g (t ∷ us) other (record { width = width; rows = rows })
      ad = added y ns ps f g (t ∷ ts) (t ∷ us) width (changed_codes (kept_codes ps register marks) coded) other a.one (ap (λ xs. t ∷ xs) a.tasks) s grow rows
          (left_kept y ps register width marks of coded (s n).rows ground.whole (are_marks y marks ground.symbols_differ) grow.tasks.0.rows)

      u : ℕ → State
      u = ad.goes.states

      b : Branched y ns ps g us u t h vs register low ks window 0
      b = out n u ad.goes.growing

      v : ℕ → State
      v = b.goes.states

      long : length e.nodes.items ≡ length h.nodes.items
      long = ap length w.nodes ∙ length-set h.nodes.items n (Switch register low (length h.children.items) (length window) other)

      there_now : n < length g.nodes.items
      there_now = ad.goes.growing.tasks.0.there

      here : v n ≡ s n
      here = b.goes.extends.states n there_now ∙ ad.goes.extends.states n grow.tasks.0.there

      wide : (s n).width ≡ width
      wide = grow.tasks.0.width

      cases : Cases
      cases = record { children = e.children.items; low = low; from = length h.children.items; span = length window }

      case_is : (q : ℕ) → case_at cases q ≡ child_at (h.children.items ++ window) low (length h.children.items) (length window) q
      case_is q = ap (λ cs. child_at cs low (length h.children.items) (length window) q) w.children

      branch_of : (q : ℕ) → (case_at cases q).node ≢ 0 → IsBranch y ns h v n register q (case_at cases q)
      branch_of q some =
          let i = in_window h.children.items window low q (λ z. some (ap (λ (c : Child). c.node) (case_is q) ∙ z)) in
          let is : case_at cases q ≡ get_or window (q - low) no_child = case_is q ∙ i.is in
          let number : low + (q - low) ≡ q = (let le = i.from_low in omega (arith, le)) in
          subst (λ k. IsBranch y ns h v n register k (case_at cases q)) number
          (subst (λ c. IsBranch y ns h v n register (low + (q - low)) c) (sym is)
          (b.branches.each (q - low) i.within (λ z. some (ap (λ (c : Child). c.node) is ∙ z))))

      switched : GrowsSwitch y ns e v n register other cases
      switched = record {
        registers = subst (λ (z : State). AllWithin z.width z.rows) (sym here) (subst (λ k. AllWithin k (s n).rows) (sym wide) grow.tasks.0.rows.registers);
        register_there = subst (λ (z : State). register < z.width) (sym here) (subst (λ k. register < k) (sym wide) there);
        within = (let l : length e.children.items ≡ length h.children.items + length window =
            ap length w.children ∙ length-append h.children.items window in omega (arith, l));
        cases_are = λ q some. (let c = branch_of q some in record { symbol = c.symbol; declared = c.declared; numbered = c.numbered; counted = c.counted });
        follows = record {
          later = (let is = a.one.node_is in let l = grow.tasks.0.there in omega (arith, is, l));
          there = (let l = long in let x = ad.there in let m = b.goes.extends.nodes in omega (arith, l, x, m));
        };
        refused = of;
        refuses = λ name k r.
            (let m = is_marked y marks (length (symbols y)) name k r in
            let o = listed m.symbol m.marked in
            let c = covers o.0 o.1 in
            let c0 : low ≤ number_at ns m.symbol = subst (λ j. low ≤ number_at ns j) o.2 c.0 in
            let c1 : number_at ns m.symbol < low + length window = subst (λ j. number_at ns j < low + length window) o.2 c.1 in
            record {
              symbol = m.symbol;
              declared = m.below;
              child = λ z. subst (λ j. (get_or window (number_at ns j - low) no_child).node ≢ 0) o.2
                  (b.branches.all o.0 (let le : 0 ≤ o.0 = omega arith in le) o.1)
                  (sym (ap (λ (d : Child). d.node) (case_is (number_at ns m.symbol)
                  ∙ window_in h.children.items window low (number_at ns m.symbol) c0 (omega (arith, c0, c1)))) ∙ z);
              named = m.named;
              counted = m.counted;
            });
        away = b.goes.extends.states other ad.there
            ∙ ad.here
            ∙ ap (λ k. (let z : State = record { width = k; rows = rows } in z)) (sym wide)
            ∙ ap (λ (z : State). (let x : State = record { width = z.width; rows = changed (kept_cells y register of) z.rows } in x)) (sym here);
        follow = λ k lt some. (let c = branch_of (number_at ns k) some in let x = c.there in let l = long in
            record { later = c.later; there = omega (arith, x, l) });
        inside = λ k lt some.
            (let c = branch_of (number_at ns k) some in
            let is : c.symbol ≡ k = ground.numbers_differ c.symbol k c.declared lt c.numbered in
            c.state ∙ ap (λ i. opened_state y register i (v n)) is);
      }

-- the last share that is left has a symbol with a place in the window
pub record IsNextShare (n : ℕ) (ns : List ℕ) (shares rest : List Share) (s : Share) (low span : ℕ) : Type 0 where
  pub at : get_or (symbols_of shares) (length rest) 0 ≡ s.symbol
  pub declared : s.symbol < n
  pub from_low : low ≤ number_at ns s.symbol
  pub below : number_at ns s.symbol < low + span

pub next_share : (n : ℕ) (ns : List ℕ) (shares old rest : List Share) (s : Share) (low span : ℕ) → take (length old) shares ≡ old
    → old ≡ rest ++ s ∷ [] → All (λ (k : ℕ). k < n) (symbols_of shares) → Covers ns (symbols_of shares) low span
    → IsNextShare n ns shares rest s low span
next_share n ns shares old rest s low span front e declared covers = record {
  at = at;
  declared = subst (λ (k : ℕ). k < n) at (declared (length rest) 0 lt);
  from_low = subst (λ (k : ℕ). low ≤ number_at ns k) at (covers (length rest) lt).0;
  below = subst (λ (k : ℕ). number_at ns k < low + span) at (covers (length rest) lt).1;
}
  where
    p : Popped shares rest s
    p = popped_front shares old rest s front e

    lt : length rest < length (symbols_of shares)
    lt = let l = symbols_long shares in let there = p.there in omega (arith, l, there)

    at : get_or (symbols_of shares) (length rest) 0 ≡ s.symbol
    at = symbol_at shares (length rest) s p.there ∙ ap (λ (x : Share). x.symbol) (p.last s)

-- what is left for the symbol of a share
pub share_rows : (ps : Parts) (r base : ℕ) (coded : List Coded) (shares rest : List Share) (s : Share)
    → AreShares ps r base (symbols_of shares) coded shares → Popped shares rest s
    → map coded_of s.rows.items ≡ changed_codes (opened_codes ps r s.symbol base) coded
share_rows ps r base coded shares rest s a p = subst (IsShare ps r base coded) (p.last s) (a.each (length rest) s p.there)

-- the number of a symbol in the store
pub number_is : (ss : List bank.Symbol) (k : ℕ) (s : bank.Symbol) → k < length ss → slice_get ss k ≡ Some s → number_at (numbers_of ss) k ≡ s.0
number_is ss k s lt e = get_or-map (λ (s : bank.Symbol). s.0) ss k s 0 lt ∙ ap (λ (s : bank.Symbol). s.0) (get_or_from_slice_get ss k s s e)
