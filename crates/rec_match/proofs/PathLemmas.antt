-- Straight paths: what the row at a node finds, the row at the node after it finds.
use Rattle.std.proofs.Common.{refl, sym, ap, subst, arith, ◌∙◌, drop-cons}
use Rattle.std.proofs.lemmas.List.{append-nil, append_assoc, length-append, length-set, get_or-set_other, reverse-append, reverse-reverse, set-get_or}
use Rattle.std.proofs.Math.Seq.{take-suc}
use Rattle.std.specs.Prelude.{ℕ, zero, suc, ◌+◌, ◌-◌, ◌<◌, ◌≤◌, ◌≡◌, ◌≢◌, Bool, true, false, List, []}
use Rattle.std.specs.Prelude.{◌∷◌, ◌++◌, Option, Some, None, length, take, drop, get_or, set, reverse}
use Rattle.std.specs.Option.{option_map}
use Rattle.rx_term.specs.Tree.{Tree, Trees, count_of, to_list}
use Rattle.rec_syntax.specs.Tokens.{Word}
use Rattle.rec_syntax.specs.Syntax.{Term, Terms, Apply, Spec}
use Rattle.rec_sorts.specs.Lookup.{symbols, is_variable, count}
use Rattle.rec_sorts.specs.Binding.{Substitution, application}
use Rattle.rec_sorts.specs.Numbering.{name_of, arity_of, variable_count}
use Rattle.rec_sorts.specs.declared.letters.Meaning.TheVariants.{Symbol, Variable}
use Rattle.rec_match.specs.Bound.{opened, bound, goes_on}
use Rattle.rec_match.specs.Forests.{Cases, no_child, case_at, number_at, FitsSwitch}
use Rattle.rec_match.specs.Inner.Growing.{State, Within, reading_of, StandFor}
use Rattle.rec_match.specs.Leaves.{code_places}
use Rattle.rec_match.specs.Parts.{part_at, arguments_at, numbered_from, Coded, IsHead, IsPart, AreParts, AreCells}
use Rattle.rec_match.specs.Inner.Paths.{TreesGoOn, AreTrees}
use Rattle.rec_match.specs.Rows.{Cell, Row, Found, tree_in, asked, values_of, or_else, found_at, first_row, cells_from}
use Rattle.rec_match.specs.Inner.Tasks.{Task, IsGround, AreThere, AreLeft, Growing, GoesOn, Steps, AddsNode, WritesTry, WritesSwitch}
use Rattle.rec_match.specs.Inner.Walking.{walk, walk_all}
use Rattle.rec_match.specs.declared.forest.Child.{Child}
use Rattle.rec_match.specs.declared.forest.Forest.{Forest}
use Rattle.rec_match.specs.declared.forest.Node.TheVariants.{Fail, Switch}
use Rattle.rec_match.specs.declared.forest.Place.{Place}
use Rattle.rec_match.specs.declared.parts.Code.{Code}
use Rattle.rec_match.specs.declared.parts.Parts.{Parts}
use Rattle.rec_match.proofs.BoundLemmas.{opened_same}
use Rattle.rec_match.proofs.BranchLemmas.{in_window, window_in}
use Rattle.rec_match.proofs.ExtensionLemmas.{stand_later}
use Rattle.rec_match.proofs.FactLemmas.{every_append, every_joined, every_map}
use Rattle.rec_match.proofs.ItemLemmas.{get-front, get-last}
use Rattle.rec_match.proofs.LeftLemmas.{every_take, every_drop, numbered_there, cells_from_within}
use Rattle.rec_match.proofs.PartLemmas.{numbered_cells, cells_append}
use Rattle.rec_match.proofs.RowLemmas.{goes_none, goes_agree, asked_append, tree_in_append, asked_from, found_none}
use Rattle.rec_match.proofs.TaskLemmas.{added, goes_more, goes_written, leaf_steps, empty_steps, steps_more}

-- items after others, the last first
pub reversed-next : {X : Type 0} (xs old mid new : List X) (i j : ℕ) (d : X) → j ≡ suc i → i < length xs → mid ≡ old ++ reverse (drop j xs)
    → new ≡ mid ++ get_or xs i d ∷ [] → new ≡ old ++ reverse (drop i xs)
reversed-next xs old mid new i j d ej lt em en =
    let x = get_or xs i d in
    let rest : reverse (drop i xs) ≡ reverse (drop j xs) ++ x ∷ [] =
    ap reverse (drop-cons xs i d lt) ∙ reverse-append (x ∷ []) (drop (suc i) xs) ∙ ap (λ k. reverse (drop k xs) ++ x ∷ []) (sym ej) in
    en ∙ ap (λ ys. ys ++ x ∷ []) em ∙ append_assoc old (reverse (drop j xs)) (x ∷ []) ∙ ap (λ ys. old ++ ys) (sym rest)

pub reversed-twice : {X : Type 0} (xs ys : List X) → reverse (xs ++ reverse ys) ≡ ys ++ reverse xs
reversed-twice xs ys = reverse-append xs (reverse ys) ∙ ap (λ zs. zs ++ reverse xs) (reverse-reverse ys)

-- cells below more registers
asked_below : (y : Spec) (us vs : List Tree) (cs : List Cell) (s : Substitution) → Within (length us) cs → asked y cs us s ≡ asked y cs (us ++ vs) s
asked_below y us vs [] s h = refl
asked_below y us vs (c ∷ cs) s h =
    ap (λ u. goes_on (walk y c.pattern u s) (λ r. asked y cs us r)) (sym (tree_in_append us vs c.register h.0))
    ∙ goes_agree (walk y c.pattern (tree_in (us ++ vs) c.register) s) (λ r. asked y cs us r) (λ r. asked y cs (us ++ vs) r) (λ r. asked_below y us vs cs r h.1)

-- a cell that asks for a symbol between others
module _ (y : Spec) (us : List Tree) (front back : List Cell) (d : Cell) (w : Word) (ts : Terms) (is : d.pattern ≡ Apply w ts)
    (symbol : is_variable y w.bytes ≡ false) where
  pattern_walk : (u : Tree) (s : Substitution) → walk y d.pattern u s ≡ goes_on (opened w.bytes (count ts) u) (λ xs. walk_all y ts xs s)
  pattern_walk u s = ap (λ t. walk y t u s) is ∙ ap at symbol
    where
      at : Bool → Option Substitution
      at b = elim b [ true ↦ bound s w.bytes u | false ↦ goes_on (opened w.bytes (count ts) u) (λ xs. walk_all y ts xs s) ]

  asked_in_vain : opened w.bytes (count ts) (tree_in us d.register) ≡ None → asked y (front ++ d ∷ back) us [] ≡ None
  asked_in_vain closed =
      asked_append y front (d ∷ back) us []
      ∙ goes_agree (asked y front us []) (λ r. asked y (d ∷ back) us r) (λ r. None)
      (λ r. ap (λ o. goes_on o (λ q. asked y back us q)) (pattern_walk (tree_in us d.register) r ∙ ap (λ o. goes_on o (λ xs. walk_all y ts xs r)) closed))
      ∙ goes_none (asked y front us [])

  asked_opened : (args : Trees) → tree_in us d.register ≡ application w.bytes args → count_of args ≡ count ts → Within (length us) front
      → Within (length us) back
      → asked y (front ++ d ∷ back) us [] ≡ asked y (front ++ (cells_from (length us) ts ++ back)) (us ++ to_list args) []
  asked_opened args here counted wf wb =
      asked_append y front (d ∷ back) us []
      ∙ ap (λ o. goes_on o (λ r. asked y (d ∷ back) us r)) (asked_below y us (to_list args) front [] wf)
      ∙ goes_agree (asked y front more []) (λ r. asked y (d ∷ back) us r) (λ r. asked y (cells ++ back) more r) one
      ∙ sym (asked_append y front (cells ++ back) more [])
    where
      more : List Tree
      more = us ++ to_list args

      cells : List Cell
      cells = cells_from (length us) ts

      one : (r : Substitution) → asked y (d ∷ back) us r ≡ asked y (cells ++ back) more r
      one r =
          ap (λ o. goes_on o (λ q. asked y back us q))
          (pattern_walk (tree_in us d.register) r ∙ ap (λ u. goes_on (opened w.bytes (count ts) u) (λ xs. walk_all y ts xs r)) here
          ∙ ap (λ o. goes_on o (λ xs. walk_all y ts xs r)) (opened_same w.bytes (count ts) args counted)
          ∙ sym (asked_from y ts args us (length us) r refl counted))
          ∙ goes_agree (asked y cells more r) (λ q. asked y back us q) (λ q. asked y back more q) (λ q. asked_below y us (to_list args) back q wb)
          ∙ sym (asked_append y cells back more r)

-- codes that are cells, in two pieces
record Split (y : Spec) (ps : Parts) (cs cs' : List Code) (ds : List Cell) : Type 0 where
  pub front : List Cell
  pub back : List Cell
  pub is : ds ≡ front ++ back
  pub fronts : AreCells y ps cs front
  pub backs : AreCells y ps cs' back

cells_split : (y : Spec) (ps : Parts) (cs cs' : List Code) (ds : List Cell) → AreCells y ps (cs ++ cs') ds → Split y ps cs cs' ds
cells_split y ps [] cs' ds h = record { front = []; back = ds; is = refl; fronts = tt; backs = h }
cells_split y ps (c ∷ cs) cs' [] h = absurd h
cells_split y ps (c ∷ cs) cs' (d ∷ ds) h =
    let s = cells_split y ps cs cs' ds h.1 in
    record { front = d ∷ s.front; back = s.back; is = ap (λ xs. d ∷ xs) s.is; fronts = (h.0, s.fronts); backs = s.backs }

abbrev pub row_task : ℕ → ℕ → ℕ → List Code → Task
row_task n width rule cs = record { node = n; width = width; rows = (record { number = rule; codes = cs }) ∷ [] }

-- a row that asks for a symbol between others
record Asks (y : Spec) (ps : Parts) (width : ℕ) (cs cs' : List Code) (c : Code) (k : ℕ) (ds : List Cell) : Type 0 where
  pub front : List Cell
  pub back : List Cell
  pub here : Cell
  pub word : Word
  pub terms : Terms
  pub is : ds ≡ front ++ here ∷ back
  pub pattern : here.pattern ≡ Apply word terms
  pub head : IsHead y (Symbol k) word.bytes (count terms)
  pub register : c.register ≡ here.register
  pub below : here.register < width
  pub parts : AreParts y ps (arguments_at ps c.part) terms
  pub fronts : AreCells y ps cs front
  pub backs : AreCells y ps cs' back
  pub front_within : Within width front
  pub back_within : Within width back

asks_here : (y : Spec) (ps : Parts) (width : ℕ) (cs cs' : List Code) (c : Code) (k : ℕ) (ds : List Cell) → (part_at ps c.part).meaning ≡ Symbol k
    → AreCells y ps (cs ++ c ∷ cs') ds → Within width ds → Asks y ps width cs cs' c k ds
asks_here y ps width cs cs' c k ds meant cells within = by s.back s.is s.backs
  where
    s : Split y ps cs (c ∷ cs') ds
    s = cells_split y ps cs (c ∷ cs') ds cells

    by_pattern : (d : Cell) (back : List Cell) (t : Term) → d.pattern ≡ t → IsPart y ps c.part t → c.register ≡ d.register → ds ≡ s.front ++ d ∷ back
        → AreCells y ps cs' back → Asks y ps width cs cs' c k ds
    by_pattern d back (Apply w ts) e part register is backs =
        let both = every_append (λ (x : Cell). x.register < width) s.front (d ∷ back) (subst (Within width) is within) in
        record {
          front = s.front;
          back = back;
          here = d;
          word = w;
          terms = ts;
          is = is;
          pattern = e;
          head = subst (λ m. IsHead y m w.bytes (count ts)) meant part.0;
          register = register;
          below = both.1.0;
          parts = part.1;
          fronts = s.fronts;
          backs = backs;
          front_within = both.0;
          back_within = both.1.1;
        }

    by : (back : List Cell) → ds ≡ s.front ++ back → AreCells y ps (c ∷ cs') back → Asks y ps width cs cs' c k ds
    by [] is backs = absurd backs
    by (d ∷ back) is backs = by_pattern d back d.pattern refl backs.0.1 backs.0.0 is backs.1

-- a symbol that a waiting row asks for is declared
pub asked_declared : (y : Spec) (ps : Parts) (width rule : ℕ) (cs cs' : List Code) (c : Code) (k : ℕ) (rows : List Row)
    → (part_at ps c.part).meaning ≡ Symbol k → AreLeft y ps width ((record { number = rule; codes = cs ++ c ∷ cs' }) ∷ []) rows → k < length (symbols y)
asked_declared y ps width rule cs cs' c k [] meant left = absurd left.are
asked_declared y ps width rule cs cs' c k (b ∷ bs) meant left = (asks_here y ps width cs cs' c k b.cells meant left.are.0.1 left.registers.0).head.0

-- the part of a code that waits is there
pub asked_there : (n : ℕ) (cs cs' : List Code) (c : Code) → AreThere n (cs ++ c ∷ cs') → c.part < n
asked_there n cs cs' c h = (every_append (λ (x : Code). x.part < n) cs (c ∷ cs') h).1.0

-- a variable that a waiting row asks for is declared
pub asked_variable : (y : Spec) (ps : Parts) (width rule : ℕ) (cs cs' : List Code) (c : Code) (v : ℕ) (rows : List Row)
    → (part_at ps c.part).meaning ≡ Variable v → AreLeft y ps width ((record { number = rule; codes = cs ++ c ∷ cs' }) ∷ []) rows → v < variable_count y
asked_variable y ps width rule cs cs' c v [] meant left = absurd left.are
asked_variable y ps width rule cs cs' c v (b ∷ bs) meant left =
    by (cells_split y ps cs (c ∷ cs') b.cells left.are.0.1).back (cells_split y ps cs (c ∷ cs') b.cells left.are.0.1).backs
  where
    by_pattern : (t : Term) → IsPart y ps c.part t → v < variable_count y
    by_pattern (Apply w ts) part = let h : IsHead y (Variable v) w.bytes (count ts) = subst (λ m. IsHead y m w.bytes (count ts)) meant part.0 in h.0

    by : (back : List Cell) → AreCells y ps (c ∷ cs') back → v < variable_count y
    by [] backs = absurd backs
    by (d ∷ back) backs = by_pattern d.pattern backs.0.1

-- a code is taken from those that are left, the first of which comes last
taken_first : (old left : List Code) (c : Code) → old ≡ left ++ c ∷ [] → reverse old ≡ c ∷ reverse left
taken_first old left c e = ap reverse e ∙ reverse-append left (c ∷ [])

pub value_taken : (values values' left : List Code) (c : Code) → values' ≡ values ++ c ∷ [] → values ++ c ∷ left ≡ values' ++ left
value_taken values values' left c e = sym (append_assoc values (c ∷ []) left) ∙ ap (λ cs. cs ++ left) (sym e)

module _ (y : Spec) (ns : List ℕ) (ps : Parts) where
  -- a node at which no rule is left waits no more
  pub fail_done : (f : Forest) (ts : List Task) (n width : ℕ) → get_or f.nodes.items n Fail ≡ Fail
      → Steps y ns ps f ((record { node = n; width = width; rows = [] }) ∷ ts) f ts
  fail_done f ts n width e = empty_steps y ns ps f f ts n width [] refl (sym (ap (set f.nodes.items n) (sym e) ∙ set-get_or f.nodes.items n Fail)) refl refl

  -- the rule is at its node, and no rule after it
  pub end_steps : (ground : IsGround y ns ps) (f g h : Forest) (n width rule : ℕ) (pl : List Place) (cs : List Code) (next : ℕ) → AddsNode f g next
      → WritesTry g h n rule pl next → n < length f.nodes.items → code_places ps [] cs ≡ Some pl → Steps y ns ps f (row_task n width rule cs ∷ []) h []
  end_steps ground f g h n width rule pl cs next a w lt places =
      steps_more y ns ps f h h (row_task n width rule cs ∷ []) (behind ∷ []) []
      (leaf_steps y ns ps f g h [] (behind ∷ []) n width rule pl cs [] next (record { one = a; tasks = refl }) w ground places)
      (fail_done h [] next width
      (ap (λ xs. get_or xs next Fail) w.nodes ∙ get_or-set_other g.nodes.items n next _ Fail (λ e.
      (let is = a.node_is in let no : ⊥ = omega (arith, e, is, lt) in no)) ∙ ap (λ xs. get_or xs next Fail) a.nodes
      ∙ get-last f.nodes.items Fail next Fail a.node_is))
    where
      behind : Task
      behind = record { node = next; width = width; rows = [] }

  module _ (ground : IsGround y ns ps) (f g h e : Forest) (n width rule : ℕ) (cs cs' : List Code) (c : Code) (k other inside : ℕ)
      (meant : (part_at ps c.part).meaning ≡ Symbol k) (a : AddsNode f g other) (b : AddsNode g h inside)
      (wr : WritesSwitch h e n c.register (number_at ns k) ((record { node = inside; count = arity_of y k }) ∷ []) other) where
    abbrev pub child : Child
    child = record { node = inside; count = arity_of y k }

    abbrev pub task : Task
    task = row_task n width rule (cs ++ c ∷ cs')

    abbrev pub behind : Task
    behind = record { node = other; width = width; rows = [] }

    abbrev pub opened_codes : List Code
    opened_codes = cs ++ (numbered_from width (arguments_at ps c.part) ++ cs')

    abbrev pub next : Task
    next = row_task inside (width + arity_of y k) rule opened_codes

    abbrev pub cases : Cases
    cases = record { children = e.children.items; low = number_at ns k; from = length h.children.items; span = 1 }

    case_is : (q : ℕ) → case_at cases q ≡ case_at (record {
      children = h.children.items ++ child ∷ [];
      low = number_at ns k;
      from =
          length h.children.items;
      span = 1;
    }) q
    case_is q = ap (λ xs. case_at (record { children = xs; low = number_at ns k; from = length h.children.items; span = 1 }) q) wr.children

    -- the one child
    one_child : (q : ℕ) → (case_at cases q).node ≢ 0 → (q ≡ number_at ns k) × (case_at cases q ≡ child)
    one_child q some =
        let i = in_window h.children.items (child ∷ []) (number_at ns k) q (λ z. some (ap (λ (d : Child). d.node) (case_is q) ∙ z)) in
        let lt = i.within in
        let le = i.from_low in
        let first : q - number_at ns k ≡ 0 = omega (arith, lt) in
        ((let same : q ≡ number_at ns k = omega (arith, first, le) in same), case_is q ∙ i.is ∙ ap (λ j. get_or (child ∷ []) j no_child) first)

    child_there : case_at cases (number_at ns k) ≡ child
    child_there = case_is (number_at ns k) ∙ window_in h.children.items (child ∷ []) (number_at ns k) (number_at ns k) (omega arith) (omega arith)
        ∙ ap (λ j. get_or (child ∷ []) j no_child) (let none : number_at ns k - number_at ns k ≡ 0 = omega arith in none)

    long_h : length h.nodes.items ≡ length f.nodes.items + 2
    long_h = let l = ap length b.nodes ∙ length-append g.nodes.items (Fail ∷ []) in let m =
        ap length a.nodes ∙ length-append f.nodes.items (Fail ∷ []) in omega (arith, l, m)

    long_e : length e.nodes.items ≡ length f.nodes.items + 2
    long_e = ap length wr.nodes ∙ length-set h.nodes.items n _ ∙ long_h

    other_is : other ≡ length f.nodes.items
    other_is = a.node_is

    inside_is : inside ≡ length f.nodes.items + 1
    inside_is = let m = ap length a.nodes ∙ length-append f.nodes.items (Fail ∷ []) in let i = b.node_is in omega (arith, m, i)

    -- what the row finds, the row after finds
    module _ (v : ℕ → State) (ds : List Cell) (q : Asks y ps width cs cs' c k ds) (lt : n < length f.nodes.items)
        (here : v n ≡ record { width = width; rows = (record { number = rule; cells = ds }) ∷ [] })
        (away : v other ≡ record { width = width; rows = [] })
        (inner : v inside ≡ record {
          width = width + arity_of y k;
          rows =
              (record { number = rule; cells = q.front ++ (cells_from width q.terms ++ q.back) }) ∷ [];
        }) where
      symbol_is : is_variable y q.word.bytes ≡ false
      symbol_is = q.head.3

      abbrev found : ℕ → Option Substitution → Option Found
      found least o = or_else (found_at least rule (option_map values_of o)) None

      row_finds : (least : ℕ) (us : List Tree) → first_row y least (v n).rows us ≡ found least (asked y (q.front ++ q.here ∷ q.back) us [])
      row_finds least us = ap (λ (z : State). first_row y least z.rows us) here ∙ ap (λ xs. found least (asked y xs us [])) q.is

      fits : FitsSwitch y ns e (reading_of y v) n c.register other cases
      fits = record {
        register_there = subst (λ (z : State). c.register < z.width) (sym here) (let l = q.below in let r = q.register in omega (arith, l, r));
        within = (let l : length e.children.items ≡ length h.children.items + 1 =
            ap length wr.children ∙ length-append h.children.items (child ∷ []) in omega (arith, l));
        cases = λ j some. (let o = one_child j some in record {
          symbol = k;
          declared = q.head.0;
          numbered = sym o.0;
          counted =
              ap (λ (d : Child). d.count) o.1;
        });
        follows = record { later = (let is = other_is in omega (arith, is, lt)); there = (let is = other_is in let l = long_e in omega (arith, is, l)) };
        width = ap (λ (z : State). z.width) away ∙ ap (λ (z : State). z.width) (sym here);
        otherwise = λ least us wide opens.
            (let closed = opens k q.head.0 (λ z. (let is = inside_is in let no = sym (ap (λ (d : Child). d.node) child_there) ∙ z in let bad : ⊥ =
            omega (arith, is, no) in bad)) in
            row_finds least us
            ∙ ap (found least) (asked_in_vain y us q.front q.back q.here q.word q.terms q.pattern symbol_is
            (ap (λ x. opened x (count q.terms) (tree_in us q.here.register)) q.head.1
            ∙ ap (λ j. opened (name_of y (Symbol k)) j (tree_in us q.here.register)) q.head.2
            ∙ ap (λ r. opened (name_of y (Symbol k)) (arity_of y k) (tree_in us r)) (sym q.register) ∙ closed))
            ∙ ap (λ o. or_else o None) (found_none least rule)
            ∙ ap (λ (z : State). first_row y least z.rows us) (sym away));
        follow = λ j declared some.
            (let o = one_child (number_at ns j) some in
            let at : (case_at cases (number_at ns j)).node ≡ inside = ap (λ (d : Child). d.node) o.1 in
            let is = inside_is in let l = long_e in record { later = omega (arith, at, is, lt); there = omega (arith, at, is, l) });
        widths = λ j declared some.
            (let o = one_child (number_at ns j) some in
            let same : k ≡ j = sym (ground.numbers_differ j k declared q.head.0 o.0) in
            ap (λ (d : Child). (v d.node).width) o.1 ∙ ap (λ (z : State). z.width) inner ∙ ap (λ i. width + arity_of y i) same
            ∙ ap (λ (z : State). z.width + arity_of y j) (sym here));
        opened = λ least us args to wide o.
            (let one = one_child (number_at ns o.symbol) (λ z. o.there (sym o.child ∙ z)) in
            let same : o.symbol ≡ k = ground.numbers_differ o.symbol k o.declared q.head.0 one.0 in
            let to_is : inside ≡ to = sym (ap (λ (d : Child). d.node) one.1) ∙ o.child in
            let wide_is : length us ≡ width = wide ∙ ap (λ (z : State). z.width) here in
            let tree : tree_in us q.here.register ≡ application q.word.bytes args =
            ap (tree_in us) (sym q.register) ∙ o.is ∙ ap (λ j. application (name_of y (Symbol j)) args) same
            ∙ ap (λ x. application x args) (sym q.head.1) in
            let counted : count_of args ≡ count q.terms = o.counted ∙ ap (arity_of y) same ∙ sym q.head.2 in
            row_finds least us
            ∙ ap (found least) (asked_opened y us q.front q.back q.here q.word q.terms q.pattern symbol_is args tree counted
            (subst (λ j. Within j q.front) (sym wide_is) q.front_within) (subst (λ j. Within j q.back) (sym wide_is) q.back_within)
            ∙ ap (λ j. asked y (q.front ++ (cells_from j q.terms ++ q.back)) (us ++ to_list args) []) wide_is)
            ∙ ap (λ (z : State). first_row y least z.rows (us ++ to_list args)) (sym inner)
            ∙ ap (λ j. first_row y least (v j).rows (us ++ to_list args)) to_is);
      }

    -- what is left after the node
    left_behind : (ds : List Cell) (q : Asks y ps width cs cs' c k ds) → AreThere (length ps.parts.items) (cs ++ c ∷ cs')
        → AreLeft y ps (width + arity_of y k) ((record { number = rule; codes = opened_codes }) ∷ [])
        ((record { number = rule; cells = q.front ++ (cells_from width q.terms ++ q.back) }) ∷ [])
    left_behind ds q there =
        let P : Code → Type 0 = λ x. x.part < length ps.parts.items in
        let both = every_append P cs (c ∷ cs') there in
        let more : (xs : List Cell) → Within width xs → Within (width + arity_of y k) xs = λ xs within.
        every_map (λ (x : Cell). x.register < width) (λ (x : Cell). x.register < width + arity_of y k) (λ x l.
        (let o : x.register < width + arity_of y k = omega (arith, l) in o)) xs within in
        let own = part_at ps c.part in
        record {
          are = (
            (
              refl,
              cells_append y ps cs (numbered_from width (arguments_at ps c.part) ++ cs') q.front (cells_from width q.terms ++ q.back)
                  q.fronts (cells_append y ps (numbered_from width (arguments_at ps c.part)) cs' (cells_from width q.terms) q.back
                  (numbered_cells y ps width (arguments_at ps c.part) q.terms q.parts) q.backs),
            ),
            tt,
          );
          there = (
            every_joined P cs (numbered_from width (arguments_at ps c.part) ++ cs') both.0
                (every_joined P (numbered_from width (arguments_at ps c.part)) cs'
                (numbered_there ps ground.whole (length ps.parts.items) width (arguments_at ps c.part)
                (every_take (λ (x : ℕ). x < length ps.parts.items) (own.to - own.from) (drop own.from ps.arguments.items)
                (every_drop (λ (x : ℕ). x < length ps.parts.items) own.from ps.arguments.items ground.whole.arguments))) both.1.1),
            tt,
          );
          registers = (
            every_joined (λ (x : Cell). x.register < width + arity_of y k) q.front (cells_from width q.terms ++ q.back) (more q.front q.front_within)
                (every_joined (λ (x : Cell). x.register < width + arity_of y k) (cells_from width q.terms) q.back
                (cells_from_within width (width + arity_of y k) q.terms (let counted = q.head.2 in omega (arith, counted))) (more q.back q.back_within)),
            tt,
          );
        }

    -- a switch with one child was written, and the child waits
    pub pass_steps : Steps y ns ps f (task ∷ []) e (next ∷ [])
    pass_steps s grow = by_rows (s n).rows refl grow.tasks.0.rows
      where
        by_row : (r : Row) → s n ≡ record { width = width; rows = (record { number = rule; cells = r.cells }) ∷ [] }
            → AreLeft y ps width task.rows (r ∷ []) → GoesOn y ns ps f (task ∷ []) s e (next ∷ [])
        by_row r is left =
            let q = asks_here y ps width cs cs' c k r.cells meant left.are.0.1 left.registers.0 in
            let x = added y ns ps f g (task ∷ []) (task ∷ behind ∷ []) width [] other a refl s grow [] (record { are = tt; there = tt; registers = tt }) in
            let z = added y ns ps g h (task ∷ behind ∷ []) (task ∷ behind ∷ next ∷ []) (width + arity_of y k) next.rows inside b refl x.goes.states
            x.goes.growing _ (left_behind r.cells q left.there.0) in
            let v = z.goes.states in
            let lt = grow.tasks.0.there in
            let more = x.goes.extends.nodes in
            let here = z.goes.extends.states n (let l : n < length g.nodes.items = omega (arith, lt, more) in l) ∙ x.goes.extends.states n lt ∙ is in
            let written = goes_written y ns ps h e v task (behind ∷ next ∷ []) (Switch c.register (number_at ns k) (length h.children.items) 1 other)
            z.goes.growing
            (record {
              nodes = (let l = long_h in let m = long_e in let o : length h.nodes.items ≤ length e.nodes.items = omega (arith, l, m) in o);
              new_places = [];
              places = wr.places ∙ sym (append-nil h.places.items);
              new_children = child ∷ [];
              children = wr.children;
              states =
                  λ m l. refl;
            })
            wr.nodes (fits v r.cells q lt here (z.goes.extends.states other x.there ∙ x.here) z.here) in
            let empty : get_or e.nodes.items other Fail ≡ Fail =
            ap (λ xs. get_or xs other Fail) wr.nodes ∙ get_or-set_other h.nodes.items n other _ Fail (λ o.
            (let at = other_is in let no : ⊥ = omega (arith, o, at, lt) in no))
            ∙ ap (λ xs. get_or xs other Fail) b.nodes ∙ get-front g.nodes.items Fail other Fail x.there ∙ ap (λ xs. get_or xs other Fail) a.nodes
            ∙ get-last f.nodes.items Fail other Fail a.node_is in
            goes_more y ns ps f g e (task ∷ []) (task ∷ behind ∷ []) (next ∷ []) s x.goes
            (goes_more y ns ps g h e (task ∷ behind ∷ []) (task ∷ behind ∷ next ∷ []) (next ∷ []) x.goes.states z.goes
            (goes_more y ns ps h e e (task ∷ behind ∷ next ∷ []) (behind ∷ next ∷ []) (next ∷ []) v written
            (fail_done e (next ∷ []) other width empty written.states written.growing)))

        by_rows : (rows : List Row) → (s n).rows ≡ rows → AreLeft y ps width task.rows rows → GoesOn y ns ps f (task ∷ []) s e (next ∷ [])
        by_rows [] is left = absurd left.are
        by_rows (r ∷ t ∷ rs) is left = absurd left.are.1
        by_rows (r ∷ []) is left =
            by_row r
            (ap (λ rows. (let z : State = record { width = (s n).width; rows = rows } in z)) is
            ∙ ap (λ j. (let z : State = record { width = j; rows = r ∷ [] } in z)) grow.tasks.0.width
            ∙ ap (λ j. (let z : State = record { width = width; rows = (record { number = j; cells = r.cells }) ∷ [] } in z)) (sym left.are.0.0))
            left

  -- a code is asked next where a path has come to
  pub record AsksNext (c : Code) : Type 0 where
    pub there : c.part < length ps.parts.items
    pub symbol : (k : ℕ) → (part_at ps c.part).meaning ≡ Symbol k → k < length (symbols y)
    pub variable : (v : ℕ) → (part_at ps c.part).meaning ≡ Variable v → v < variable_count y

  pub asks_next : (f : Forest) (n width rule : ℕ) (values left : List Code) (c : Code)
      → (s : ℕ → State) × Growing y ns ps f (row_task n width rule (values ++ c ∷ left) ∷ []) s → AsksNext c
  asks_next f n width rule values left c can =
      let rows = can.1.tasks.0.rows in
      record {
        there = asked_there (length ps.parts.items) values left c rows.there.0;
        symbol = λ k meant. asked_declared y ps width rule values left c k (can.0 n).rows meant rows;
        variable = λ v meant. asked_variable y ps width rule values left c v (can.0 n).rows meant rows;
      }

  pub steps_taken : (f g : Forest) (ts : List Task) (n width rule : ℕ) (values old left : List Code) (c : Code) → old ≡ left ++ c ∷ []
      → Steps y ns ps f ts g (row_task n width rule (values ++ reverse old) ∷ [])
      → Steps y ns ps f ts g (row_task n width rule (values ++ c ∷ reverse left) ∷ [])
  steps_taken f g ts n width rule values old left c e steps = subst (λ xs. Steps y ns ps f ts g (row_task n width rule (values ++ xs) ∷ []))
      (taken_first old left c e) steps

  -- a node for a row, from which a path has grown
  pub path_tree : (f g h : Forest) (width : ℕ) (coded : Coded) (root : ℕ) → AddsNode f g root
      → Steps y ns ps g ((record { node = root; width = width; rows = coded ∷ [] }) ∷ []) h [] → AreTrees y ns ps f width (coded ∷ []) h (root ∷ [])
  path_tree f g h width coded root a steps s rows grow left =
      let x = added y ns ps f g [] (own ∷ []) width (coded ∷ []) root a refl s grow rows left in
      let z = steps x.goes.states x.goes.growing in
      record {
        goes = goes_more y ns ps f g h [] (own ∷ []) [] s x.goes z;
        stand = (
          rows,
          [],
          sym (append-nil rows),
          (let lt = x.there in let le = z.extends.nodes in let l : root < length h.nodes.items =
              omega (arith, lt, le) in l),
          z.extends.states root x.there ∙ x.here,
          refl,
        );
      }
    where
      own : Task
      own = record { node = root; width = width; rows = coded ∷ [] }

  -- such a node waits
  pub can_path : (f g : Forest) (width : ℕ) (coded : Coded) (root : ℕ) (s : ℕ → State) (rows : List Row) → AddsNode f g root → Growing y ns ps f [] s
      → AreLeft y ps width (coded ∷ []) rows
      → (t : ℕ → State) × Growing y ns ps g ((record { node = root; width = width; rows = coded ∷ [] }) ∷ []) t
  can_path f g width coded root s rows a grow left =
      let x = added y ns ps f g [] ((record { node = root; width = width; rows = coded ∷ [] }) ∷ []) width (coded ∷ []) root a refl s grow rows left in
      (x.goes.states, x.goes.growing)

  -- one of what is left
  pub left_at : (width : ℕ) (xs : List Coded) (bs : List Row) (i : ℕ) (c : Coded) (b : Row) → AreLeft y ps width xs bs → i < length xs
      → AreLeft y ps width (get_or xs i c ∷ []) (get_or bs i b ∷ [])
  left_at width [] bs i c b h lt = absurd (let bad : ⊥ = omega (arith, lt) in bad)
  left_at width (x ∷ xs) [] i c b h lt = absurd h.are
  left_at width (x ∷ xs) (d ∷ bs) zero c b h lt = record { are = (h.are.0, tt); there = (h.there.0, tt); registers = (h.registers.0, tt) }
  left_at width (x ∷ xs) (d ∷ bs) (suc i) c b h lt = left_at width xs bs i c b
      (record { are = h.are.1; there = h.there.1; registers = h.registers.1 }) (omega (arith, lt))

  pub left_long : (width : ℕ) (xs : List Coded) (bs : List Row) → AreLeft y ps width xs bs → length bs ≡ length xs
  left_long width [] [] h = refl
  left_long width [] (b ∷ bs) h = absurd h.are
  left_long width (x ∷ xs) [] h = absurd h.are
  left_long width (x ∷ xs) (b ∷ bs) h = let l = left_long width xs bs (record { are = h.are.1; there = h.there.1; registers = h.registers.1 }) in
      omega (arith, l)

  stand_joined : (g : Forest) (t : ℕ → State) (width : ℕ) (rs qs : List ℕ) (front back : List Row) → StandFor g t width rs front
      → StandFor g t width qs back → StandFor g t width (rs ++ qs) (front ++ back)
  stand_joined g t width [] qs front back h k = subst (λ xs. StandFor g t width qs (xs ++ back)) (sym h) k
  stand_joined g t width (r ∷ rs) qs front back h k = (
    h.0,
    h.1 ++ back,
    ap (λ xs. xs ++ back) h.2 ∙ append_assoc h.0 h.1 back,
    h.3,
    h.4,
    stand_joined g t width rs qs h.1 back h.5 k,
  )

  -- a tree more
  pub trees_on : (f g h : Forest) (s : ℕ → State) (width : ℕ) (xs : List Coded) (rows : List Row) (i : ℕ) (c : Coded) (b : Row)
      (roots roots' : List ℕ) (root : ℕ) → i < length xs → AreLeft y ps width xs rows → TreesGoOn y ns ps f s width (take i rows) g roots
      → AreTrees y ns ps g width (get_or xs i c ∷ []) h (root ∷ []) → roots' ≡ roots ++ root ∷ [] → TreesGoOn y ns ps f s width (take (i + 1) rows) h roots'
  trees_on f g h s width xs rows i c b roots roots' root lt left x tree e =
      let z = tree x.goes.states (get_or rows i b ∷ []) x.goes.growing (left_at width xs rows i c b left lt) in
      let more : take (i + 1) rows ≡ take i rows ++ get_or rows i b ∷ [] =
      ap (λ j. take j rows) (let q : i + 1 ≡ suc i = omega arith in q) ∙ take-suc rows i b (let l = left_long width xs rows left in omega (arith, l, lt)) in
      record {
        goes = goes_more y ns ps f g h [] [] [] s x.goes z.goes;
        stand = subst (λ rs. StandFor h z.goes.states width rs (take (i + 1) rows)) (sym e)
            (subst (StandFor h z.goes.states width (roots ++ root ∷ [])) (sym more)
            (stand_joined h z.goes.states width roots (root ∷ []) (take i rows) (get_or rows i b ∷ [])
            (stand_later y ns g h x.goes.states z.goes.states z.goes.extends width roots (take i rows) x.stand) z.stand));
      }
