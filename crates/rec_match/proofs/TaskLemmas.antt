-- Steps of the building of matching trees.
use Rattle.std.proofs.Common.{refl, sym, ap, subst, arith, ◌∙◌, inl, inr}
use Rattle.std.proofs.lemmas.Bool.{cases_eq, eqb-true, eq-eqb}
use Rattle.std.proofs.lemmas.List.{append-nil, append_assoc, length-append, length-set, get_or-set_same, get_or-set_other, take_all}
use Rattle.std.specs.Prelude.{ℕ, suc, ◌+◌, ◌-◌, ◌<◌, ◌≤◌, ◌≡◌, ◌≢◌, ◌⊎◌, Bool, true, false, List, [], ◌∷◌}
use Rattle.std.specs.Prelude.{◌++◌, Some, All, length, get_or, set, nat_eq, slice_range, take, drop}
use Rattle.rec_syntax.specs.Syntax.{Spec}
use Rattle.rec_sorts.specs.Laws.{Every}
use Rattle.rec_match.specs.Rows.{Row}
use Rattle.rec_match.specs.Forests.{IsNew}
use Rattle.rec_match.specs.Inner.Growing.{State, Within, GrowsTry, Grows, Extends}
use Rattle.rec_match.specs.Leaves.{code_places}
use Rattle.rec_match.specs.Parts.{Coded, AreRows}
use Rattle.rec_match.specs.Inner.Tasks.{Task, IsGround, AreLeft, IsTask, Waits, Growing, GoesOn, Steps, AddsNode, Adds, WritesTry}
use Rattle.rec_match.specs.declared.forest.Place.{Place}
use Rattle.rec_match.specs.declared.forest.Forest.{Forest}
use Rattle.rec_match.specs.declared.forest.Node.{Node}
use Rattle.rec_match.specs.declared.forest.Node.TheVariants.{Fail, Try}
use Rattle.rec_match.specs.declared.parts.Code.{Code}
use Rattle.rec_match.specs.declared.parts.Parts.{Parts}
use Rattle.rec_match.proofs.ExtensionLemmas.{extends_same, grows_later}
use Rattle.rec_match.proofs.FactLemmas.{every_append, every_joined, every_map}
use Rattle.rec_match.proofs.ItemLemmas.{get-front}
use Rattle.rec_match.proofs.LeafLemmas.{code_places_are}

-- states with one more
abbrev pub with_state : (ℕ → State) → ℕ → State → ℕ → State
with_state s n z m = elim (nat_eq m n) [ true ↦ z | false ↦ s m ]

pub with_same : (s : ℕ → State) (n : ℕ) (z : State) → with_state s n z n ≡ z
with_same s n z = ap (λ b. at b) (eq-eqb n n refl)
  where
    at : Bool → State
    at b = elim b [ true ↦ z | false ↦ s n ]

pub with_other : (s : ℕ → State) (n : ℕ) (z : State) (m : ℕ) → m ≢ n → with_state s n z m ≡ s m
with_other s n z m ne = by (nat_eq m n) refl
  where
    by : (b : Bool) → nat_eq m n ≡ b → ◌≡◌ {A = State} (elim b [ true ↦ z | false ↦ s m ]) (s m)
    by true e = absurd (ne (eqb-true m n e))
    by false e = refl

waits_front : (ts us : List Task) (n : ℕ) → Waits ts n → Waits (ts ++ us) n
waits_front [] us n w = absurd w
waits_front (t ∷ ts) us n (inl e) = inl e
waits_front (t ∷ ts) us n (inr w) = inr (waits_front ts us n w)

waits_back : (ts us : List Task) (n : ℕ) → Waits us n → Waits (ts ++ us) n
waits_back [] us n w = w
waits_back (t ∷ ts) us n w = inr (waits_back ts us n w)

waits_either : (ts us : List Task) (n : ℕ) → Waits (ts ++ us) n → Waits ts n ⊎ Waits us n
waits_either [] us n w = inr w
waits_either (t ∷ ts) us n (inl e) = inl (inl e)
waits_either (t ∷ ts) us n (inr w) = by (waits_either ts us n w)
  where
    by : Waits ts n ⊎ Waits us n → Waits (t ∷ ts) n ⊎ Waits us n
    by (inl a) = inl (inr a)
    by (inr b) = inr b

pub extends_more : (f g h : Forest) (s t u : ℕ → State) → Extends f s g t → Extends g t h u → Extends f s h u
extends_more f g h s t u x z = record {
  nodes = (let a = x.nodes in let b = z.nodes in omega (arith, a, b));
  new_places = x.new_places ++ z.new_places;
  places = z.places ∙ ap (λ ps. ps ++ z.new_places) x.places ∙ append_assoc f.places.items x.new_places z.new_places;
  new_children = x.new_children ++ z.new_children;
  children = z.children ∙ ap (λ cs. cs ++ z.new_children) x.children ∙ append_assoc f.children.items x.new_children z.new_children;
  states = λ n lt. (let a = x.nodes in z.states n (omega (arith, lt, a)) ∙ x.states n lt);
}

-- what is after a list
pub slice_seam : {X : Type 0} (xs ys : List X) → slice_range (xs ++ ys) (length xs) (length xs + length ys) ≡ ys
slice_seam [] ys = ap (λ n. take n ys) (let e : (0 + length ys) - 0 ≡ length ys = omega arith in e) ∙ take_all (length ys) ys (omega arith)
slice_seam (x ∷ xs) ys = ap (λ n. take n (drop (length xs) (xs ++ ys)))
    (let e : (suc (length xs) + length ys) - suc (length xs) ≡ (length xs + length ys) - length xs = omega arith in e) ∙ slice_seam xs ys

module _ (y : Spec) (ns : List ℕ) (ps : Parts) where
  task_later : (f g : Forest) (s t : ℕ → State) → Extends f s g t → (a : Task) → IsTask y ps f s a → IsTask y ps g t a
  task_later f g s t x a h =
      let same = x.states a.node h.there in
      let lt = h.there in
      let le = x.nodes in
      record {
        there = omega (arith, lt, le);
        width = ap (λ (z : State). z.width) same ∙ h.width;
        rows = subst (λ (z : State). AreLeft y ps a.width a.rows z.rows) (sym same) h.rows;
      }

  tasks_later : (f g : Forest) (s t : ℕ → State) → Extends f s g t → (ts : List Task) → Every (IsTask y ps f s) ts → Every (IsTask y ps g t) ts
  tasks_later f g s t x ts h = every_map (IsTask y ps f s) (IsTask y ps g t) (task_later f g s t x) ts h

  -- the last task is taken
  pub last_first : (f : Forest) (s : ℕ → State) (ts : List Task) (t : Task) → Growing y ns ps f (ts ++ t ∷ []) s → Growing y ns ps f (t ∷ ts) s
  last_first f s ts t h =
      let both = every_append (IsTask y ps f s) ts (t ∷ []) h.tasks in
      record { tasks = (both.1.0, both.0); nodes = λ n lt. by n (h.nodes n lt) }
    where
      turned : (n : ℕ) → Waits ts n ⊎ Waits (t ∷ []) n → Waits (t ∷ ts) n
      turned n (inl w) = inr w
      turned n (inr (inl e)) = inl e
      turned n (inr (inr w)) = absurd w

      by : (n : ℕ) → Waits (ts ++ t ∷ []) n ⊎ Grows y ns f s n (get_or f.nodes.items n Fail) → Waits (t ∷ ts) n ⊎ Grows y ns f s n (get_or f.nodes.items n Fail)
      by n (inl w) = inl (turned n (waits_either ts (t ∷ []) n w))
      by n (inr g) = inr g

  -- one node more, which waits
  module _ (f g : Forest) (s : ℕ → State) (z : State) (nodes : g.nodes.items ≡ f.nodes.items ++ Fail ∷ []) (places : g.places.items ≡ f.places.items)
      (children : g.children.items ≡ f.children.items) where
    long : length g.nodes.items ≡ length f.nodes.items + 1
    long = ap length nodes ∙ length-append f.nodes.items (Fail ∷ [])

    pub extends_one : Extends f s g (with_state s (length f.nodes.items) z)
    extends_one = record {
      nodes = (let l = long in omega (arith, l));
      new_places = [];
      places = places ∙ sym (append-nil f.places.items);
      new_children = [];
      children = children ∙ sym (append-nil f.children.items);
      states = λ n lt. with_other s (length f.nodes.items) z n (λ e. (let no : ⊥ = omega (arith, lt, e) in no));
    }

    pub growing_one : (ts : List Task) (coded : List Coded) → Growing y ns ps f ts s → AreLeft y ps z.width coded z.rows
        → Growing y ns ps g (ts ++ (record { node = length f.nodes.items; width = z.width; rows = coded }) ∷ []) (with_state s (length f.nodes.items) z)
    growing_one ts coded h left = record {
      tasks = every_joined (IsTask y ps g t) ts (own ∷ []) (tasks_later f g s t extends_one ts h.tasks) (own_is, tt);
      nodes = λ n lt. by n lt (cases_eq n (length f.nodes.items));
    }
      where
        t : ℕ → State
        t = with_state s (length f.nodes.items) z

        own : Task
        own = record { node = length f.nodes.items; width = z.width; rows = coded }

        is : t (length f.nodes.items) ≡ z
        is = with_same s (length f.nodes.items) z

        own_is : IsTask y ps g t own
        own_is = record {
          there = (let l = long in omega (arith, l));
          width = ap (λ (z : State). z.width) is;
          rows = subst (λ (x : State). AreLeft y ps z.width coded x.rows) (sym is) left;
        }

        old : (n : ℕ) → n < length f.nodes.items → Waits ts n ⊎ Grows y ns f s n (get_or f.nodes.items n Fail)
            → Waits (ts ++ own ∷ []) n ⊎ Grows y ns g t n (get_or g.nodes.items n Fail)
        old n lt (inl w) = inl (waits_front ts (own ∷ []) n w)
        old n lt (inr r) =
            inr (subst (Grows y ns g t n) (sym (ap (λ xs. get_or xs n Fail) nodes ∙ get-front f.nodes.items Fail n Fail lt))
            (grows_later y ns f g s t extends_one n (get_or f.nodes.items n Fail) lt r))

        by : (n : ℕ) → n < length g.nodes.items → (n ≡ length f.nodes.items) ⊎ (n ≢ length f.nodes.items)
            → Waits (ts ++ own ∷ []) n ⊎ Grows y ns g t n (get_or g.nodes.items n Fail)
        by n lt (inl e) = inl (waits_back ts (own ∷ []) n (inl (sym e)))
        by n lt (inr ne) = let l = long in let below : n < length f.nodes.items = omega (arith, l, lt, ne) in old n below (h.nodes n below)

  -- a node that waits is written
  pub growing_written : (f g : Forest) (s : ℕ → State) (a : Task) (ts : List Task) (node : Node) → Growing y ns ps f (a ∷ ts) s → Extends f s g s
      → g.nodes.items ≡ set f.nodes.items a.node node → Grows y ns g s a.node node
      → Growing y ns ps g ts s
  growing_written f g s a ts node h x e grown = record {
    tasks = tasks_later f g s s x ts h.tasks.1;
    nodes = λ n lt. by n lt (cases_eq n a.node);
  }
    where
      same_long : length g.nodes.items ≡ length f.nodes.items
      same_long = ap length e ∙ length-set f.nodes.items a.node node

      old : (n : ℕ) → n < length f.nodes.items → n ≢ a.node → Waits (a ∷ ts) n ⊎ Grows y ns f s n (get_or f.nodes.items n Fail)
          → Waits ts n ⊎ Grows y ns g s n (get_or g.nodes.items n Fail)
      old n lt ne (inl (inl is)) = absurd (ne (sym is))
      old n lt ne (inl (inr w)) = inl w
      old n lt ne (inr r) =
          inr (subst (Grows y ns g s n) (sym (ap (λ xs. get_or xs n Fail) e ∙ get_or-set_other f.nodes.items a.node n node Fail ne))
          (grows_later y ns f g s s x n (get_or f.nodes.items n Fail) lt r))

      by : (n : ℕ) → n < length g.nodes.items → (n ≡ a.node) ⊎ (n ≢ a.node) → Waits ts n ⊎ Grows y ns g s n (get_or g.nodes.items n Fail)
      by n lt (inl is) =
          let here : get_or g.nodes.items a.node Fail ≡ node = ap (λ xs. get_or xs a.node Fail) e
          ∙ get_or-set_same f.nodes.items a.node node Fail h.tasks.0.there in
          inr (subst (λ m. Grows y ns g s m (get_or g.nodes.items m Fail)) (sym is) (subst (Grows y ns g s a.node) (sym here) grown))
      by n lt (inr ne) = let l = same_long in let below : n < length f.nodes.items = omega (arith, l, lt) in old n below ne (h.nodes n below)

  kept_one : (f g : Forest) (ts us : List Task) (width : ℕ) (coded : List Coded) (node : ℕ) → AddsNode f g node
      → us ≡ ts ++ (record { node = node; width = width; rows = coded }) ∷ [] → (n : ℕ) → n < length f.nodes.items → (Waits ts n → ⊥)
      → (Waits us n → ⊥) × (get_or g.nodes.items n Fail ≡ get_or f.nodes.items n Fail)
  kept_one f g ts us width coded node a same n lt away = (
    (λ w. out (waits_either ts (own ∷ []) n (subst (λ xs. Waits xs n) same w))),
    ap (λ xs. get_or xs n Fail) a.nodes ∙ get-front f.nodes.items Fail n Fail lt,
  )
    where
      own : Task
      own = record { node = node; width = width; rows = coded }

      out : Waits ts n ⊎ Waits (own ∷ []) n → ⊥
      out (inl w) = away w
      out (inr (inl e)) = let is = a.node_is in let bad : ⊥ = omega (arith, e, is, lt) in bad
      out (inr (inr w)) = w

  -- a node that waits was added
  pub record Added (f : Forest) (ts : List Task) (s : ℕ → State) (g : Forest) (us : List Task) (node : ℕ) (z : State) : Type 0 where
    pub goes : GoesOn y ns ps f ts s g us
    pub here : goes.states node ≡ z
    pub there : node < length g.nodes.items

  pub added : (f g : Forest) (ts us : List Task) (width : ℕ) (coded : List Coded) (node : ℕ) → AddsNode f g node
      → us ≡ ts ++ (record { node = node; width = width; rows = coded }) ∷ [] → (s : ℕ → State) → Growing y ns ps f ts s → (rows : List Row)
      → AreLeft y ps width coded rows
      → Added f ts s g us node (record { width = width; rows = rows })
  added f g ts us width coded node a tasks s h rows left =
      let z : State = record { width = width; rows = rows } in
      let same : us ≡ ts ++ (record { node = length f.nodes.items; width = width; rows = coded }) ∷ [] =
      tasks ∙ ap (λ k. ts ++ (let t : Task = record { node = k; width = width; rows = coded } in t) ∷ []) a.node_is in
      record {
        goes = record {
          states = with_state s (length f.nodes.items) z;
          extends = extends_one f g s z a.nodes a.places a.children;
          growing = subst (λ xs. Growing y ns ps g xs (with_state s (length f.nodes.items) z)) (sym same)
              (growing_one f g s z a.nodes a.places a.children ts coded h left);
          kept = kept_one f g ts us width coded node a tasks;
        };
        here = ap (with_state s (length f.nodes.items) z) a.node_is ∙ with_same s (length f.nodes.items) z;
        there = (let l : length g.nodes.items ≡ length f.nodes.items + 1 = ap length a.nodes ∙ length-append f.nodes.items (Fail ∷ []) in let is =
            a.node_is in omega (arith, l, is));
      }

  -- the one after the other
  abbrev pub goes_more : (f g h : Forest) (ts us vs : List Task) (s : ℕ → State) (x : GoesOn y ns ps f ts s g us) → GoesOn y ns ps g us x.states h vs
      → GoesOn y ns ps f ts s h vs
  goes_more f g h ts us vs s x z = record {
    states = z.states;
    extends = extends_more f g h s x.states z.states x.extends z.extends;
    growing = z.growing;
    kept = λ n lt away. (let k = x.kept n lt away in let le = x.extends.nodes in let m = z.kept n (omega (arith, lt, le)) k.0 in (m.0, m.1 ∙ k.1));
  }

  -- a node that waited was written
  pub goes_written : (f g : Forest) (s : ℕ → State) (a : Task) (ts : List Task) (node : Node) → Growing y ns ps f (a ∷ ts) s → Extends f s g s
      → g.nodes.items ≡ set f.nodes.items a.node node → Grows y ns g s a.node node
      → GoesOn y ns ps f (a ∷ ts) s g ts
  goes_written f g s a ts node h x e grown = record {
    states = s;
    extends = x;
    growing = growing_written f g s a ts node h x e grown;
    kept = λ n lt away. ((λ w. away (inr w)), ap (λ xs. get_or xs n Fail) e ∙ get_or-set_other f.nodes.items a.node n node Fail (λ q. away (inl (sym q))));
  }

  -- the first row was written, and the others wait
  pub leaf_steps : (f g h : Forest) (ts us : List Task) (n width rule : ℕ) (pl : List Place) (cs : List Code) (rest : List Coded) (next : ℕ)
      → Adds f ts g us width rest next → WritesTry g h n rule pl next → IsGround y ns ps → code_places ps [] cs ≡ Some pl
      → Steps y ns ps f ((record { node = n; width = width; rows = (record { number = rule; codes = cs }) ∷ rest }) ∷ ts) h us
  leaf_steps f g h ts us n width rule pl cs rest next a w ground places s grow = by_rows (s n).rows refl grow.tasks.0.rows
    where
      t : Task
      t = record { node = n; width = width; rows = (record { number = rule; codes = cs }) ∷ rest }

      by_rows : (rows : List Row) → (s n).rows ≡ rows → AreLeft y ps width ((record { number = rule; codes = cs }) ∷ rest) rows
          → GoesOn y ns ps f (t ∷ ts) s h us
      by_rows [] e left = absurd left.are
      by_rows (b ∷ bs) e left =
          let x = added f g (t ∷ ts) (t ∷ us) width rest next a.one (ap (λ xs. t ∷ xs) a.tasks) s grow bs
          (record { are = left.are.1; there = left.there.1; registers = left.registers.1 }) in
          let u = x.goes.states in
          let z : State = record { width = width; rows = bs } in
          let is = code_places_are y ground.variables_differ ps cs b.cells [] pl left.are.0.1 tt places in
          let old : u n ≡ s n = x.goes.extends.states n grow.tasks.0.there in
          let next_is : u next ≡ z = x.here in
          let longer : length h.places.items ≡ length g.places.items + length pl = ap length w.places ∙ length-append g.places.items pl in
          let long : length h.nodes.items ≡ length g.nodes.items = ap length w.nodes
          ∙ length-set g.nodes.items n (Try rule (length g.places.items) (length g.places.items + length pl) next w.linear) in
          let sliced : slice_range h.places.items (length g.places.items) (length g.places.items + length pl) ≡ pl =
          ap (λ qs. slice_range qs (length g.places.items) (length g.places.items + length pl)) w.places ∙ slice_seam g.places.items pl in
          let tried : GrowsTry y h u n rule (length g.places.items) (length g.places.items + length pl) next w.linear = record {
            follows = record {
              later = (let q = a.one.node_is in let lt = grow.tasks.0.there in omega (arith, q, lt));
              there =
                  (let q = x.there in omega (arith, q, long));
            };
            cells = b.cells;
            here = old ∙ whole b bs e left ∙ ap (λ (v : State). with_row b v) (sym next_is);
            ordered = omega arith;
            within = omega (arith, longer);
            variables = is.0;
            registers = subst (λ (v : State). Within v.width b.cells) (sym next_is) left.registers.0;
            places = sliced ∙ sym is.1;
            are_new = λ e. subst (All IsNew) (sym sliced) (w.are_new e);
          } in
          goes_more f g h (t ∷ ts) (t ∷ us) us s x.goes
          (goes_written g h u t us (Try rule (length g.places.items) (length g.places.items + length pl) next w.linear) x.goes.growing
          (record {
            nodes = (let m : length g.nodes.items ≤ length h.nodes.items = omega (arith, long) in m);
            new_places = pl;
            places = w.places;
            new_children = [];
            children = w.children ∙ sym (append-nil g.children.items);
            states = λ m lt. refl;
          })
          w.nodes tried)
        where
          with_row : Row → State → State
          with_row b v = record { width = v.width; rows = (record { number = rule; cells = b.cells }) ∷ v.rows }

          whole : (b : Row) (bs : List Row) → (s n).rows ≡ b ∷ bs → AreLeft y ps width ((record { number = rule; codes = cs }) ∷ rest) (b ∷ bs)
              → s n ≡ with_row b (record { width = width; rows = bs })
          whole b bs e left =
              ap (λ rows. (let v : State = record { width = (s n).width; rows = rows } in v)) e
              ∙ ap (λ k. (let v : State = record { width = k; rows = b ∷ bs } in v)) grow.tasks.0.width
              ∙ ap (λ k. (let v : State = record { width = width; rows = (record { number = k; cells = b.cells }) ∷ bs } in v)) (sym left.are.0.0)

  -- a node that waits if no row is left
  pub empty_steps : (f g : Forest) (ts : List Task) (n width : ℕ) (coded : List Coded) → coded ≡ [] → g.nodes.items ≡ set f.nodes.items n Fail
      → g.places.items ≡ f.places.items → g.children.items ≡ f.children.items
      → Steps y ns ps f ((record { node = n; width = width; rows = coded }) ∷ ts) g ts
  empty_steps f g ts n width coded none e p ch s grow =
      goes_written f g s (record { node = n; width = width; rows = coded }) ts Fail grow
      (extends_same f g s (sym (ap length e ∙ length-set f.nodes.items n Fail)) p ch)
      e (no_rows coded (s n).rows none grow.tasks.0.rows.are)
    where
      no_rows : (cs : List Coded) (rows : List Row) → cs ≡ [] → AreRows y ps cs rows → rows ≡ []
      no_rows [] [] e r = refl
      no_rows [] (b ∷ bs) e r = absurd r
      no_rows (c ∷ cs) rows e r = absurd (cc e)

  -- no step
  pub steps_none : (f : Forest) (ts : List Task) → Steps y ns ps f ts f ts
  steps_none f ts s grow = record {
    states = s;
    extends = extends_same f f s refl refl refl;
    growing = grow;
    kept = λ n lt away. (away, refl);
  }

  -- the last task comes first
  pub steps_last : (f : Forest) (ts : List Task) (t : Task) → Steps y ns ps f (ts ++ t ∷ []) f (t ∷ ts)
  steps_last f ts t s grow = record {
    states = s;
    extends = extends_same f f s refl refl refl;
    growing = last_first f s ts t grow;
    kept = λ n lt away. ((λ w. away (turned n w)), refl);
  }
    where
      turned : (n : ℕ) → Waits (t ∷ ts) n → Waits (ts ++ t ∷ []) n
      turned n (inl e) = waits_back ts (t ∷ []) n (inl e)
      turned n (inr w) = waits_front ts (t ∷ []) n w

  -- steps after one another
  pub steps_more : (f g h : Forest) (ts us vs : List Task) → Steps y ns ps f ts g us → Steps y ns ps g us h vs → Steps y ns ps f ts h vs
  steps_more f g h ts us vs a b s grow = let x = a s grow in goes_more f g h ts us vs s x (b x.states x.growing)
