-- Reading the text of a table with a stack of opened trees.
use Rattle.std.proofs.Common.{◌≡◌, ◌⊎◌, inl, inr, ℕ, zero, suc, ◌+◌, ◌≤◌, ◌<◌, ℤ, pos, negsuc, Bool, true, false}
use Rattle.std.proofs.Common.{List, [], ◌∷◌, ◌++◌, Option, Some, None, IsSome, length, map, take, drop, reverse, slice_get, get_or}
use Rattle.std.proofs.Common.{w32, to_z, of_z, refl, sym, ap, subst, ◌∙◌, append_assoc, append-nil, length-append, arith, add-one}
use Rattle.std.proofs.lemmas.List.{drop-drop, length-drop, length-reverse, map-append, reverse-append, reverse-reverse, take-append-drop}
use Rattle.std.specs.List.{AllByRecursion}
use Rattle.std.proofs.lemmas.Bool.{cases_lt}
use Rattle.std.proofs.Math.Seq.{drop-cons, length-take-le}
use Rattle.std.specs.Prelude.{max, if◌then◌else◌}
use Rattle.std.specs.Option.{option_map}
use Rattle.rx_term.specs.Tree.{Tree, Trees, Int, Appl, Items, Hole, none, more, annotated, from_list, list_of, to_list, count_of}
use Rattle.rx_term.specs.Store.{Store, tree_at}
use Rattle.rx_term.specs.Steps.{Grows}
use Rattle.rx_term.specs.Walks.{HaveTrees}
use Rattle.rx_term.specs.declared.Term.{Term}
use Rattle.rx_text.specs.Lexemes.{name_of}
use Rattle.rx_text.specs.Machine.{onto}
use Rattle.rx_text.specs.Nodes.{taken, newest, top, rest, assembled, needed, trees_of, Enough, IsProper, AreProper}
use Rattle.rx_text.specs.Nodes as nodes
use Rattle.rx_text.specs.Reader.{node_of, made_of, IsNode}
use Rattle.rx_text.specs.declared.nodes.Node.{Node}
use Rattle.rx_text.specs.declared.nodes.Node.TheVariants as node
use Rattle.rx_text.specs.Answer.{AreNodesOf, AreProperNodes}
use Rattle.rx_text.specs.Held.{Holds}
use Rattle.rx_text.proofs.MakingLemmas.{count-newest, held_length, pop_tree, push_tree, still_holds}
use Rattle.rx_text.proofs.SteppingLemmas.{All-front, in_word, trees-push}
use Rattle.rx_table.specs.Opened.{both, broken_by_table, broken_element, broken_from, element, opened, opened_all, tree_of_table}
use Rattle.rx_table.specs.Inner.Reading.{AreOpened, EndsIn, Fit, HasItems, IsBroken, IsInside, IsOpened, IsReading, IsShut, IsStack, StartsHole}
use Rattle.rx_table.specs.Inner.Reading.{after_number, all_opened, elements_of, is_number, most, needed_by, never, noted, taken_by}
use Rattle.rx_table.proofs.OpenedLemmas.{broken-table, broken-then, opened-then, table-of-last}
use Rattle.rx_table.specs.declared.reading.Need.{Need}
use Rattle.rx_table.specs.declared.reading.Stack.{Stack}

-- ---- the stack

-- what is at the bottom of a part of the stack is at its bottom
below-still : (k : ℕ) (us es others : List Tree) → reverse (drop k us) ≡ es ++ others → (more_of : List Tree) × (reverse us ≡ es ++ more_of)
below-still k us es others e = (
  others ++ reverse (take k us),
  ap reverse (sym (take-append-drop k us)) ∙ reverse-append (take k us) (drop k us) ∙ ap (λ (xs : List Tree). xs ++ reverse (take k us)) e
      ∙ append_assoc es others (reverse (take k us)),
)

pub as-many : (ts us : List Tree) (needs : List Need) → AreOpened ts us needs → (length ts ≡ length us) × (length ts ≡ length needs)
as-many [] [] [] h = (refl, refl)
as-many (t ∷ ts) (u ∷ us) (n ∷ needs) h = let k = as-many ts us needs h.1 in (ap suc k.0, ap suc k.1)
as-many [] [] (n ∷ needs) h = absurd h
as-many [] (u ∷ us) needs h = absurd h
as-many (t ∷ ts) [] needs h = absurd h
as-many (t ∷ ts) (u ∷ us) [] h = absurd h

pub opened-drop : (k : ℕ) (ts us : List Tree) (needs : List Need) → AreOpened ts us needs → AreOpened (drop k ts) (drop k us) (drop k needs)
opened-drop zero ts us needs h = h
opened-drop (suc k) [] [] [] h = tt
opened-drop (suc k) (t ∷ ts) (u ∷ us) (n ∷ needs) h = opened-drop k ts us needs h.1
opened-drop (suc k) [] [] (n ∷ needs) h = absurd h
opened-drop (suc k) [] (u ∷ us) needs h = absurd h
opened-drop (suc k) (t ∷ ts) [] needs h = absurd h
opened-drop (suc k) (t ∷ ts) (u ∷ us) [] h = absurd h

-- no list has as many elements as are never there
too-many : (below es others : List Tree) → length below < never → reverse below ≡ es ++ others → never ≤ length es → ⊥
too-many below es others few e h =
    let a = length-reverse below in
    let b = ap length e in
    let c = length-append es others in
    omega (arith, few, h, a, b, c)

some-first : (ts : List Tree) → 0 < length ts → ts ≡ top ts ∷ rest ts
some-first [] h = absurd (omega arith)
some-first (t ∷ ts) h = refl

-- ---- values that are both there

both-none : {A B C : Type 0} (f : A → B → C) (a : Option A) → both f a None ≡ None
both-none f None = refl
both-none f (Some x) = refl

-- ---- the newest trees

module _ (es : List Tree) where
  newest-open : (k : ℕ) (ts us : List Tree) (needs : List Need) (others : List Tree) (xs ys : Trees) → AreOpened ts us needs → k ≤ length ts
      → reverse (drop k us) ≡ es ++ others → most k needs ≤ length es → opened_all es xs ≡ Some ys
      → opened_all es (onto (taken k ts) xs) ≡ Some (onto (taken k us) ys)
  newest-open zero ts us needs others xs ys h le e fits all = all
  newest-open (suc k) [] us needs others xs ys h le e fits all = absurd (omega arith)
  newest-open (suc k) (t ∷ ts) [] needs others xs ys h le e fits all = absurd h
  newest-open (suc k) (t ∷ ts) (u ∷ us) [] others xs ys h le e fits all = absurd h
  newest-open (suc k) (t ∷ ts) (u ∷ us) (n ∷ needs) others xs ys h le e fits all =
      let below = below-still k us es others e in
      let here : opened es t ≡ Some u = h.0.opens es below.0 below.1 (omega arith) in
      let both : opened_all es (more t xs) ≡ Some (more u ys) = rw (here, all) refl in
      newest-open k ts us needs others (more t xs) (more u ys) h.1 (omega arith) e (omega arith) both

  newest-none : (k : ℕ) (ts : List Tree) (xs : Trees) → opened_all es xs ≡ None → k ≤ length ts → opened_all es (onto (taken k ts) xs) ≡ None
  newest-none zero ts xs e le = e
  newest-none (suc k) [] xs e le = absurd (omega arith)
  newest-none (suc k) (t ∷ ts) xs e le = newest-none k ts (more t xs) (rw e (both-none more (opened es t))) (omega arith)

  newest-shut : (k : ℕ) (ts us : List Tree) (needs : List Need) (xs : Trees) → AreOpened ts us needs → k ≤ length ts → length es < most k needs
      → opened_all es (onto (taken k ts) xs) ≡ None
  newest-shut zero ts us needs xs h le lt = absurd (omega arith)
  newest-shut (suc k) [] us needs xs h le lt = absurd (omega arith)
  newest-shut (suc k) (t ∷ ts) [] needs xs h le lt = absurd h
  newest-shut (suc k) (t ∷ ts) (u ∷ us) [] xs h le lt = absurd h
  newest-shut (suc k) (t ∷ ts) (u ∷ us) (n ∷ needs) xs h le lt = elim (cases_lt (length es) n.elements) [
    | inl a ↦ let here : opened es t ≡ None = h.0.fewer es a in newest-none k ts (more t xs) (rw here refl) (omega arith)
    | inr a ↦ newest-shut k ts us needs (more t xs) h.1 (omega arith) (omega arith)
  ]

-- ---- annotations

-- a number with annotations does not open
number-shut : (es : List Tree) (t a : Tree) (as' : Trees) → is_number t ≡ true → opened es (annotated t (more a as')) ≡ None
number-shut es (Hole (Int z none) none) a as' e = refl
number-shut es (Hole (Int z none) (more b bs)) a as' e = absurd (cc e)
number-shut es (Hole (Int z (more b bs)) anns) a as' e = absurd (cc e)
number-shut es (Hole (Appl name quoted args bnns) anns) a as' e = absurd (cc e)
number-shut es (Hole (Items items bnns) anns) a as' e = absurd (cc e)
number-shut es (Hole (Hole inner bnns) anns) a as' e = absurd (cc e)
number-shut es (Int z anns) a as' e = absurd (cc e)
number-shut es (Appl name quoted args anns) a as' e = absurd (cc e)
number-shut es (Items items anns) a as' e = absurd (cc e)

noted-number : (t a : Tree) (as' : Trees) → is_number (annotated t (more a as')) ≡ false
noted-number (Hole (Int z none) anns) a as' = refl
noted-number (Hole (Int z (more b bs)) anns) a as' = refl
noted-number (Hole (Appl name quoted args bnns) anns) a as' = refl
noted-number (Hole (Items items bnns) anns) a as' = refl
noted-number (Hole (Hole inner bnns) anns) a as' = refl
noted-number (Int z anns) a as' = refl
noted-number (Appl name quoted args anns) a as' = refl
noted-number (Items items anns) a as' = refl

module _ (es : List Tree) (anns : Trees) where
  number-both : (z : ℤ) (o : Option Trees) → option_map (Int z) o ≡ both annotated (Some (Int z none)) o
  number-both z None = refl
  number-both z (Some xs) = refl

  call-both : (name : List ℕ) (quoted : Bool) (p o : Option Trees)
      → both (Appl name quoted) p o ≡ both annotated (both (Appl name quoted) p (Some none)) o
  call-both name quoted None o = refl
  call-both name quoted (Some xs) None = refl
  call-both name quoted (Some xs) (Some ys) = refl

  list-both : (p o : Option Trees) → both Items p o ≡ both annotated (both Items p (Some none)) o
  list-both None o = refl
  list-both (Some xs) None = refl
  list-both (Some xs) (Some ys) = refl

  hole-both : (p : Option Tree) (o : Option Trees) → both Hole p o ≡ both annotated (both Hole p (Some none)) o
  hole-both None o = refl
  hole-both (Some x) None = refl
  hole-both (Some x) (Some ys) = refl

  -- a tree that has no annotations, with some
  note-both : (t : Tree) → annotated t none ≡ t → is_number t ≡ false → opened es (annotated t anns) ≡ both annotated (opened es t) (opened_all es anns)
  note-both (Int z none) bare n = number-both z (opened_all es anns)
  note-both (Int z (more b bs)) bare n = absurd (cc bare)
  note-both (Appl name quoted args none) bare n = call-both name quoted (opened_all es args) (opened_all es anns)
  note-both (Appl name quoted args (more b bs)) bare n = absurd (cc bare)
  note-both (Items items none) bare n = list-both (opened_all es items) (opened_all es anns)
  note-both (Items items (more b bs)) bare n = absurd (cc bare)
  note-both (Hole inner (more b bs)) bare n = absurd (cc bare)
  note-both (Hole (Int z none) none) bare n = absurd (cc n)
  note-both (Hole (Int z (more b bs)) none) bare n = refl
  note-both (Hole (Appl name quoted args bnns) none) bare n = refl
  note-both (Hole (Items none bnns) none) bare n = refl
  note-both (Hole (Items (more t none) none) none) bare n = hole-both (opened es t) (opened_all es anns)
  note-both (Hole (Items (more t none) (more b bs)) none) bare n = refl
  note-both (Hole (Items (more t (more v vs)) bnns) none) bare n = refl
  note-both (Hole (Hole inner bnns) none) bare n = refl

-- a tree that gets annotations
module _ (below : List Tree) (few : length below < never) (t u : Tree) (need : Need) (o : IsOpened below t u need) (bare : annotated t none ≡ t)
    (a : Tree) (as' bnns : Trees) (m : ℕ)
    (opens : (es others : List Tree) → reverse below ≡ es ++ others → m ≤ length es → opened_all es (more a as') ≡ Some bnns)
    (fewer : (es : List Tree) → length es < m → opened_all es (more a as') ≡ None) where
  note-opened : IsOpened below (annotated t (more a as')) (annotated u bnns)
      (record { elements = if need.is_number then never else max m need.elements; is_number = false })
  note-opened = by need.is_number refl
    where
      by : (b : Bool) → need.is_number ≡ b → IsOpened below (annotated t (more a as')) (annotated u bnns)
          (record { elements = if b then never else max m need.elements; is_number = false })
      by true e = record {
        opens = λ es others cut le. absurd (too-many below es others few cut le);
        fewer = λ es lt. number-shut es t a as' (sym o.number ∙ e);
        number = sym (noted-number t a as');
      }
      by false e =
          let plain : is_number t ≡ false = sym o.number ∙ e in
          record {
            opens = λ es others cut le.
                let here : opened es t ≡ Some u = o.opens es others cut (omega arith) in
                let all : opened_all es (more a as') ≡ Some bnns = opens es others cut (omega arith) in
                note-both es (more a as') t bare plain ∙ ap (λ p. both annotated p (opened_all es (more a as'))) here
                ∙ ap (λ q. both annotated (Some u) q) all;
            fewer = λ es lt.
                elim (cases_lt (length es) m) [
                  | inl x ↦ note-both es (more a as') t bare plain ∙ ap (λ q. both annotated (opened es t) q) (fewer es x)
                      ∙ both-none annotated (opened es t)
                  | inr x ↦ note-both es (more a as') t bare plain
                      ∙ ap (λ p. both annotated p (opened_all es (more a as'))) (o.fewer es (omega arith))
                ];
            number = sym (noted-number t a as');
          }

-- the stack whose newest tree gets annotations
note-newest : (ts us : List Tree) (needs : List Need) (anns bnns : Trees) (m : ℕ) → AreOpened ts us needs → 0 < length ts → length us < never
    → annotated (top ts) none ≡ top ts → 0 < count_of anns
    → ((es others : List Tree) → reverse us ≡ es ++ others → m ≤ length es → opened_all es anns ≡ Some bnns)
    → ((es : List Tree) → length es < m → opened_all es anns ≡ None)
    → AreOpened (annotated (top ts) anns ∷ rest ts) (annotated (top us) bnns ∷ rest us) (record { elements = noted m needs; is_number = false } ∷ drop 1 needs)
note-newest [] us needs anns bnns m h some few bare notes opens fewer = absurd (omega arith)
note-newest (t ∷ ts) [] needs anns bnns m h some few bare notes opens fewer = absurd h
note-newest (t ∷ ts) (u ∷ us) [] anns bnns m h some few bare notes opens fewer = absurd h
note-newest (t ∷ ts) (u ∷ us) (n ∷ needs) none bnns m h some few bare notes opens fewer = absurd (omega arith)
note-newest (t ∷ ts) (u ∷ us) (n ∷ needs) (more a as') bnns m h some few bare notes opens fewer = (
  note-opened us (omega (arith, few)) t u n h.0 bare a as' bnns m
      (λ es others cut le. let b = below-still 1 (u ∷ us) es others cut in opens es b.0 b.1 le) fewer,
  h.1,
)

-- ---- a node

abbrev plain : ℕ → Need
plain n = record { elements = n; is_number = false }

list-opened : (k : ℕ) (ts us : List Tree) (needs : List Need) (of : Trees → Tree) → AreOpened ts us needs → k ≤ length ts
    → ((es : List Tree) (xs : Trees) → opened es (of xs) ≡ option_map of (opened_all es xs)) → ((xs : Trees) → is_number (of xs) ≡ false)
    → AreOpened (of (newest k ts) ∷ drop k ts) (of (newest k us) ∷ drop k us) (plain (most k needs) ∷ drop k needs)
list-opened k ts us needs of h le inside number = (
  record {
    opens = λ es others cut fits. inside es (newest k ts) ∙ ap (option_map of) (newest-open es k ts us needs others none none h le cut fits refl);
    fewer = λ es lt. inside es (newest k ts) ∙ ap (option_map of) (newest-shut es k ts us needs none h le lt);
    number = sym (number (newest k ts));
  },
  opened-drop k ts us needs h,
)

call-inside : (name : List ℕ) (quoted : Bool) (o : Option Trees) → both (Appl name quoted) o (Some none) ≡ option_map (λ xs. Appl name quoted xs none) o
call-inside name quoted None = refl
call-inside name quoted (Some xs) = refl

list-inside : (o : Option Trees) → both Items o (Some none) ≡ option_map (λ xs. Items xs none) o
list-inside None = refl
list-inside (Some xs) = refl

hole-shut : (ts us : List Tree) (needs : List Need) → AreOpened ts us needs → length us < never → 1 ≤ length ts → IsShut (top ts)
    → AreOpened (Hole (top ts) none ∷ rest ts) (Hole (top us) none ∷ rest us) (plain never ∷ drop 1 needs)
hole-shut [] us needs h few le shut = absurd (omega arith)
hole-shut (t ∷ ts) [] needs h few le shut = absurd h
hole-shut (t ∷ ts) (u ∷ us) [] h few le shut = absurd h
hole-shut (t ∷ ts) (u ∷ us) (n ∷ needs) h few le shut = (
  record {
    opens = λ es others cut fits. absurd (too-many us es others (omega arith) cut fits);
    fewer = λ es lt. shut.1 es;
    number = sym shut.0;
  },
  h.1,
)

module _ (bytes : List ℕ) (ts us : List Tree) (needs : List Need) (h : AreOpened ts us needs) where
  pub node-opened : (n : Node) → length us < never → needed (node_of bytes n) ≤ length ts → IsProper (node_of bytes n) ts
      → (StartsHole (n ∷ []) → IsShut (top ts))
      → AreOpened (assembled (node_of bytes n) ts) (assembled (node_of bytes n) us) (plain (needed_by n needs) ∷ drop (taken_by n) needs)
  node-opened (node.Integer z) few le proper shut =
      (record { opens = λ es others cut fits. refl; fewer = λ es lt. absurd (omega arith); number = refl }, h)
  node-opened (node.Application w k) few le proper shut =
      list-opened k ts us needs (λ xs. Appl (name_of bytes w) w.quoted xs none) h le (λ es xs. call-inside (name_of bytes w) w.quoted (opened_all es xs)) (λ xs. refl)
  node-opened (node.List k) few le proper shut =
      list-opened k ts us needs (λ xs. Items xs none) h le (λ es xs. list-inside (opened_all es xs)) (λ xs. refl)
  node-opened node.Placeholder few le proper shut = hole-shut ts us needs h few le (shut tt)
  node-opened (node.Annotations k) few le proper shut =
      let fits : k ≤ length ts = omega arith in
      let many = as-many ts us needs h in
      let counted = count-newest k ts fits in
      let below : drop 1 (drop k needs) ≡ drop (k + 1) needs = drop-drop 1 k needs in
      let noted-there = note-newest (drop k ts) (drop k us) (drop k needs) (newest k ts) (newest k us) (most k needs) (opened-drop k ts us needs h)
      (omega (arith, length-drop k ts)) (omega (arith, length-drop k us)) proper.1 (omega (arith, counted, proper.0))
      (λ es others cut le. newest-open es k ts us needs others none none h fits cut le refl) (λ es lt. newest-shut es k ts us needs none h fits lt) in
      rw (← below) noted-there

taken-is : (bytes : List ℕ) (n : Node) → needed (node_of bytes n) ≡ taken_by n
taken-is bytes (node.Integer z) = refl
taken-is bytes (node.Application w k) = refl
taken-is bytes (node.List k) = refl
taken-is bytes node.Placeholder = refl
taken-is bytes (node.Annotations k) = refl

pub needs-fit : (w : Store) (bytes : List ℕ) (ts : List Tree) (stack : Stack) (n : Node) → IsStack w ts stack → needed (node_of bytes n) ≤ length ts
    → taken_by n ≤ length stack.needs.items
needs-fit w bytes ts stack n s le =
    let many = as-many ts s.trees (reverse stack.needs.items) s.opened in
    let long = length-reverse stack.needs.items in
    omega (arith, many.1, long, taken-is bytes n, le)

pub trees-fit : (w : Store) (ts : List Tree) (stack : Stack) (k : ℕ) → IsStack w ts stack → k ≤ length ts
    → (trees : List Tree) × Holds w stack.terms.items trees × (k ≤ length trees)
trees-fit w ts stack k s le =
    let many = as-many ts s.trees (reverse stack.needs.items) s.opened in
    (s.trees, s.held, omega (arith, many.0, le))

needs-push : (needs : List Need) (n : Need) → reverse (needs ++ n ∷ []) ≡ n ∷ reverse needs
needs-push needs n = reverse-append needs (n ∷ [])

-- a tree in place of those that were taken
module _ (w : Store) (made opens_to : List Tree) (need : Need) (left : List Need) (terms : List Term) (needs : List Need) (after : Stack)
    (o : AreOpened made opens_to (need ∷ left)) (held : Holds w terms opens_to) (below : reverse needs ≡ left) (e : after.terms.items ≡ terms)
    (f : after.needs.items ≡ needs ++ need ∷ []) where
  taken-pushed : IsStack w made after
  taken-pushed = record {
    trees = opens_to;
    held = rw e held;
    opened = subst (AreOpened made opens_to)
        (sym (ap reverse f ∙ needs-push needs need ∙ ap (λ (ns : List Need). need ∷ ns) below)) o;
  }

pub node-pushed : (w v : Store) (bytes : List ℕ) (ts : List Tree) (before after : Stack) (n : Node) (s : IsStack w ts before) (terms : List Term)
    (needs : List Need) (term : Term) (elements : ℕ) → length before.terms.items < never → needed (node_of bytes n) ≤ length ts
    → IsProper (node_of bytes n) ts → (StartsHole (n ∷ []) → IsShut (top ts))
    → ((trees : List Tree) → Holds w before.terms.items trees → Holds v (terms ++ term ∷ []) (assembled (node_of bytes n) trees))
    → elements ≡ needed_by n (reverse before.needs.items) → reverse needs ≡ drop (taken_by n) (reverse before.needs.items)
    → after.terms.items ≡ terms ++ term ∷ [] → after.needs.items ≡ needs ++ plain elements ∷ [] → IsStack v (assembled (node_of bytes n) ts) after
node-pushed w v bytes ts before after n s terms needs term elements few le proper shut made is left e f =
    let old = reverse before.needs.items in
    let many = held_length w before.terms.items s.trees s.held in
    let o = node-opened bytes ts s.trees old s.opened n (omega (arith, many, few)) le proper shut in
    taken-pushed v (assembled (node_of bytes n) ts) (assembled (node_of bytes n) s.trees) (plain elements) (drop (taken_by n) old)
    (terms ++ term ∷ []) needs after (rw is o) (made s.trees s.held) left e f

item-opened : (t : Tree) (ts us : List Tree) (needs : List Need) → AreOpened (t ∷ ts) us needs
    → AreOpened (Hole (Items (more t none) none) none ∷ ts) (Hole (top us) none ∷ rest us) (plain (most 1 needs) ∷ drop 1 needs)
item-opened t ts [] needs h = absurd h
item-opened t ts (u ∷ us) [] h = absurd h
item-opened t ts (u ∷ us) (n ∷ needs) h = (
  record {
    opens = λ es others cut fits. let here : opened es t ≡ Some u = h.0.opens es others cut (omega arith) in rw here refl;
    fewer = λ es lt. let here : opened es t ≡ None = h.0.fewer es (omega arith) in rw here refl;
    number = refl;
  },
  h.1,
)

pub item-pushed : (w v : Store) (t : Tree) (ts : List Tree) (before after : Stack) (s : IsStack w (t ∷ ts) before) (terms : List Term)
    (needs : List Need) (term : Term) (elements : ℕ)
    → ((trees : List Tree) → Holds w before.terms.items trees → Holds v (terms ++ term ∷ []) (assembled nodes.Holding trees))
    → elements ≡ most 1 (reverse before.needs.items) → reverse needs ≡ drop 1 (reverse before.needs.items)
    → after.terms.items ≡ terms ++ term ∷ [] → after.needs.items ≡ needs ++ plain elements ∷ []
    → IsStack v (Hole (Items (more t none) none) none ∷ ts) after
item-pushed w v t ts before after s terms needs term elements made is left e f =
    let old = reverse before.needs.items in
    taken-pushed v (Hole (Items (more t none) none) none ∷ ts) (assembled nodes.Holding s.trees) (plain elements) (drop 1 old) (terms ++ term ∷ []) needs
    after (rw is (item-opened t ts s.trees old s.opened)) (made s.trees s.held) left e f

-- ---- needs

drop-next : (k : ℕ) (needs left : List Need) (n : Need) → drop k needs ≡ n ∷ left → drop (k + 1) needs ≡ left
drop-next k needs left n e = rw add-one (go k needs e)
  where
    go : (k : ℕ) (needs : List Need) → drop k needs ≡ n ∷ left → drop (suc k) needs ≡ left
    go zero [] e = absurd (cc e)
    go zero (m ∷ needs) e = cc e
    go (suc k) [] e = absurd (cc e)
    go (suc k) (m ∷ needs) e = go k needs e

most-next : (k : ℕ) (needs left : List Need) (n : Need) → drop k needs ≡ n ∷ left → most (k + 1) needs ≡ max n.elements (most k needs)
most-next k needs left n e = rw add-one (go k needs e)
  where
    go : (k : ℕ) (needs : List Need) → drop k needs ≡ n ∷ left → most (suc k) needs ≡ max n.elements (most k needs)
    go zero [] e = absurd (cc e)
    go zero (m ∷ needs) e = let same : m ≡ n = cc e in ap (λ (x : Need). max x.elements 0) same
    go (suc k) [] e = absurd (cc e)
    go (suc k) (m ∷ needs) e = let later = go k needs e in omega (arith, later)

pub need-popped : (old now after : List Need) (n : Need) (k : ℕ) → now ≡ after ++ n ∷ [] → reverse now ≡ drop k old
    → (most (k + 1) old ≡ max n.elements (most k old)) × (reverse after ≡ drop (k + 1) old)
need-popped old now after n k e left =
    let cut : drop k old ≡ n ∷ reverse after = sym left ∙ ap reverse e ∙ needs-push after n in
    (most-next k old (reverse after) n cut, sym (drop-next k old (reverse after) n cut))

-- ---- what is in a placeholder that does not open

list-shut : (xs : Trees) → (count_of xs ≡ 1 → ⊥) → IsShut (Items xs none)
list-shut none h = (refl, λ es. refl)
list-shut (more t none) h = absurd (h refl)
list-shut (more t (more u us)) h = (refl, λ es. refl)

noted-shut : (t : Tree) (anns : Trees) → 0 < count_of anns → IsShut (annotated t anns)
noted-shut t none h = absurd (omega arith)
noted-shut (Int z anns) (more a as') h = (refl, λ es. refl)
noted-shut (Appl name quoted args anns) (more a as') h = (refl, λ es. refl)
noted-shut (Items none anns) (more a as') h = (refl, λ es. refl)
noted-shut (Items (more t none) anns) (more a as') h = (refl, λ es. refl)
noted-shut (Items (more t (more u us)) anns) (more a as') h = (refl, λ es. refl)
noted-shut (Hole inner anns) (more a as') h = (refl, λ es. refl)

node-shut : (bytes : List ℕ) (ts : List Tree) (n : Node) → (IsInside n → ⊥) → needed (node_of bytes n) ≤ length ts → IsProper (node_of bytes n) ts
    → IsShut (top (assembled (node_of bytes n) ts))
node-shut bytes ts (node.Integer z) h le proper = absurd (h tt)
node-shut bytes ts (node.Application w k) h le proper = (refl, λ es. refl)
node-shut bytes ts (node.List k) h le proper = list-shut (newest k ts) (λ e. h (sym (count-newest k ts le) ∙ e))
node-shut bytes ts node.Placeholder h le proper = (refl, λ es. refl)
node-shut bytes ts (node.Annotations k) h le proper =
    let counted = count-newest k ts (omega arith) in
    noted-shut (top (drop k ts)) (newest k ts) (omega (arith, counted, proper.0))

-- ---- a step

starts : (n : Node) (others : List Node) → StartsHole (n ∷ []) → StartsHole (n ∷ others)
starts (node.Integer z) others h = absurd h
starts (node.Application w k) others h = absurd h
starts (node.List k) others h = absurd h
starts node.Placeholder others h = tt
starts (node.Annotations k) others h = absurd h

module _ (w v : Store) (bytes : List ℕ) (all left others : List Node) (before after : Stack) where
  pub read-node : (n : Node) → left ≡ n ∷ others → (IsInside n → StartsHole others → ⊥)
      → ((ts : List Tree) → IsStack w ts before → needed (node_of bytes n) ≤ length ts → IsProper (node_of bytes n) ts
      → (StartsHole (n ∷ []) → IsShut (top ts)) → IsStack v (assembled (node_of bytes n) ts) after)
      → IsReading w bytes all left before → IsReading v bytes all others after
  read-node n e apart made r =
      let enough = rw e at r.enough in
      let proper = rw e at r.proper in
      let names = rw e at r.names in
      record {
        trees = assembled (node_of bytes n) r.trees;
        stack_is = made r.trees r.stack_is enough.0 proper.0 (λ s. r.shut (subst StartsHole (sym e) (starts n others s)));
        same = rw e at r.same;
        enough = enough.1;
        proper = proper.1;
        names = names.1;
        shut = λ s. node-shut bytes r.trees n (λ i. apart i s) enough.0 proper.0;
      }

-- a tree more on the stack
pub stack-push : (w : Store) (t u : Tree) (ts us : List Tree) (terms : List Term) (needs : List Need) (term : Term) (need : Need) (after : Stack)
    → Holds w terms us → tree_at w term ≡ Some u → AreOpened (t ∷ ts) (u ∷ us) (need ∷ reverse needs) → after.terms.items ≡ terms ++ term ∷ []
    → after.needs.items ≡ needs ++ need ∷ [] → IsStack w (t ∷ ts) after
stack-push w t u ts us terms needs term need after held at opened e f = record {
  trees = u ∷ us;
  held = rw e (push_tree w terms term u us held at);
  opened = rw (f, reverse-append) opened;
}

-- ---- a reference

get-front : (es others : List Tree) (n : ℕ) → n < length es → slice_get (es ++ others) n ≡ slice_get es n
get-front [] others n h = absurd (omega arith)
get-front (e ∷ es) others zero h = refl
get-front (e ∷ es) others (suc n) h = get-front es others n (omega arith)

get-past : {X : Type 0} (es : List X) (n : ℕ) → length es ≤ n → slice_get es n ≡ None
get-past [] n h = refl
get-past (e ∷ es) zero h = absurd (omega arith)
get-past (e ∷ es) (suc n) h = get-past es n (omega arith)

get-within : {X : Type 0} (es : List X) (n : ℕ) → slice_get es n ≡ None → length es ≤ n
get-within [] n h = omega arith
get-within (e ∷ es) zero h = absurd (cc h)
get-within (e ∷ es) (suc n) h = omega (arith, get-within es n h)

get-held : (w : Store) (rs : List Term) (us : List Tree) (n : ℕ) (r : Term) → HaveTrees w rs us → slice_get rs n ≡ Some r
    → (u : Tree) × (tree_at w r ≡ Some u) × (slice_get us n ≡ Some u)
get-held w [] us n r h e = absurd (cc e)
get-held w (x ∷ rs) [] n r h e = absurd h
get-held w (x ∷ rs) (u ∷ us) zero r h e = let same : x ≡ r = cc e in (u, subst (λ (y : Term). tree_at w y ≡ Some u) same h.0, refl)
get-held w (x ∷ rs) (u ∷ us) (suc n) r h e = get-held w rs us n r h.1 e

have-push : (w : Store) (rs : List Term) (us : List Tree) (r : Term) (u : Tree) → HaveTrees w rs us → tree_at w r ≡ Some u
    → HaveTrees w (rs ++ r ∷ []) (us ++ u ∷ [])
have-push w [] [] r u h e = (e, tt)
have-push w (x ∷ rs) (v ∷ us) r u h e = (h.0, have-push w rs us r u h.1 e)
have-push w [] (v ∷ us) r u h e = absurd h
have-push w (x ∷ rs) [] r u h e = absurd h

have-reverse : (w : Store) (rs : List Term) (us : List Tree) → HaveTrees w rs us → HaveTrees w (reverse rs) (reverse us)
have-reverse w [] [] h = tt
have-reverse w (r ∷ rs) (u ∷ us) h =
    let e : reverse (r ∷ rs) ≡ reverse rs ++ r ∷ [] = reverse-append (r ∷ []) rs in
    let f : reverse (u ∷ us) ≡ reverse us ++ u ∷ [] = reverse-append (u ∷ []) us in
    rw (e, f) (have-push w (reverse rs) (reverse us) r u (have-reverse w rs us h.1) h.0)
have-reverse w [] (u ∷ us) h = absurd h
have-reverse w (r ∷ rs) [] h = absurd h

-- terms, the oldest first
in-order : (w : Store) (rs : List Term) (us : List Tree) → Holds w rs us → HaveTrees w rs (reverse us)
in-order w rs us h = let k = have-reverse w (reverse rs) us h in rw (reverse-reverse rs) at k

number-opened : (ts us : List Tree) (needs : List Need) → AreOpened ts us needs → length us < never → (z : ℤ) (u : Tree)
    → ((n : ℕ) → z ≡ pos n → n < length us → slice_get (reverse us) n ≡ Some u)
    → AreOpened (Hole (Int z none) none ∷ ts) (u ∷ us) (record { elements = after_number z; is_number = true } ∷ needs)
number-opened ts us needs h few (pos n) u there = (
  record {
    opens = λ es others cut le.
        let a = length-reverse us in
        let b = ap length cut in
        let c = length-append es others in
        let within : n < length us = omega (arith, a, b, c, le) in
        sym (get-front es others n (omega arith)) ∙ ap (λ (xs : List Tree). slice_get xs n) (sym cut) ∙ there n refl within;
    fewer = λ es lt. get-past es n (omega arith);
    number = refl;
  },
  h,
)
number-opened ts us needs h few (negsuc n) u there =
    (record { opens = λ es others cut le. absurd (too-many us es others few cut le); fewer = λ es lt. refl; number = refl }, h)

module _ (w v : Store) (g : Grows w v) (ts : List Tree) (before after : Stack) (s : IsStack w ts before) (few : length before.terms.items < never) (z : ℤ)
    (term : Term) (elements : ℕ) (is : elements ≡ after_number z) (e : after.terms.items ≡ before.terms.items ++ term ∷ [])
    (f : after.needs.items ≡ before.needs.items ++ (record { elements = elements; is_number = true }) ∷ []) where
  number-pushed : (u : Tree) → tree_at v term ≡ Some u → ((n : ℕ) → z ≡ pos n → n < length s.trees → slice_get (reverse s.trees) n ≡ Some u)
      → IsStack v (Hole (Int z none) none ∷ ts) after
  number-pushed u at there =
      let many = held_length w before.terms.items s.trees s.held in
      stack-push v (Hole (Int z none) none) u ts s.trees before.terms.items before.needs.items term
      (record { elements = elements; is_number = true }) after (still_holds w v g before.terms.items s.trees s.held) at
      (rw is (number-opened ts s.trees (reverse before.needs.items) s.opened (omega (arith, many, few)) z u there)) e f

  -- of an element that is there
  pub found-pushed : element before.terms.items z ≡ Some term → IsStack v (Hole (Int z none) none ∷ ts) after
  found-pushed got = by z refl
    where
      by : (y : ℤ) → z ≡ y → IsStack v (Hole (Int z none) none ∷ ts) after
      by (negsuc n) q = absurd (let k : None ≡ Some term = rw q at got in cc k)
      by (pos n) q =
          let k : slice_get before.terms.items n ≡ Some term = rw q at got in
          let there = get-held w before.terms.items (reverse s.trees) n term (in-order w before.terms.items s.trees s.held) k in
          number-pushed there.0 (g.trees term there.0 there.1)
          (λ m p lt. let same : m ≡ n = cc (p, q) in ap (slice_get (reverse s.trees)) same ∙ there.2)

  -- of an element that is not there
  pub lost-pushed : (u : Tree) → tree_at v term ≡ Some u → element before.terms.items z ≡ None → IsStack v (Hole (Int z none) none ∷ ts) after
  lost-pushed u at none_there = number-pushed u at (λ n p lt.
      let k : slice_get before.terms.items n ≡ None = rw p at none_there in
      let past = get-within before.terms.items n k in
      let many = held_length w before.terms.items s.trees s.held in
      absurd (omega (arith, past, many, lt)))

-- ---- the end

reverse-cons : {X : Type 0} (x : X) (xs : List X) → reverse (x ∷ xs) ≡ reverse xs ++ x ∷ []
reverse-cons x xs = reverse-append (x ∷ []) xs

all-fit : (ts us : List Tree) (needs : List Need) → AreOpened ts us needs → Fit needs → all_opened [] (reverse ts) ≡ Some (reverse us)
all-fit [] [] [] h fit = refl
all-fit (t ∷ ts) (u ∷ us) (n ∷ needs) h fit =
    let many = as-many ts us needs h.1 in
    let long = length-reverse us in
    let here : opened (reverse us) t ≡ Some u = h.0.opens (reverse us) [] (sym (append-nil (reverse us))) (omega (arith, fit.0, many.0, many.1, long)) in
    ap (all_opened []) (reverse-cons t ts) ∙ opened-then [] (reverse ts) t u (reverse us) (all-fit ts us needs h.1 fit.1) here
    ∙ ap (λ (zs : List Tree). let o : Option (List Tree) = Some zs in o) (sym (reverse-cons u us))
all-fit [] [] (n ∷ needs) h fit = absurd h
all-fit [] (u ∷ us) needs h fit = absurd h
all-fit (t ∷ ts) [] needs h fit = absurd h
all-fit (t ∷ ts) (u ∷ us) [] h fit = absurd h

-- the stack up to a tree
record Cut (ts : List Tree) (need : Need) (needs : List Need) : Type 0 where
  tree : Tree
  opens_to : Tree
  above : List Tree
  below : List Tree
  opened_below : List Tree
  whole : ts ≡ above ++ tree ∷ below
  here : IsOpened opened_below tree opens_to need
  rest_opened : AreOpened below opened_below needs

cut : (ts us : List Tree) (above needs : List Need) (need : Need) → AreOpened ts us (above ++ need ∷ needs) → Cut ts need needs
cut (t ∷ ts) (u ∷ us) [] needs need h = record {
  tree = t;
  opens_to = u;
  above = [];
  below = ts;
  opened_below = us;
  whole = refl;
  here = h.0;
  rest_opened = h.1;
}
cut (t ∷ ts) (u ∷ us) (n ∷ above) needs need h =
    let k = cut ts us above needs need h.1 in
    record {
      tree = k.tree;
      opens_to = k.opens_to;
      above = t ∷ k.above;
      below = k.below;
      opened_below = k.opened_below;
      whole = ap (λ (xs : List Tree). t ∷ xs) k.whole;
      here = k.here;
      rest_opened = k.rest_opened;
    }
cut [] [] [] needs need h = absurd h
cut [] [] (n ∷ above) needs need h = absurd h
cut [] (u ∷ us) above needs need h = absurd h
cut (t ∷ ts) [] above needs need h = absurd h

pub broken-at : (ts us : List Tree) (needs : List Need) (n : ℕ) → AreOpened ts us (reverse needs) → IsBroken needs n
    → broken_from [] (from_list (reverse ts)) ≡ Some n
broken-at ts us needs n h b =
    let split : reverse needs ≡ reverse b.after ++ b.need ∷ reverse b.before =
    ap reverse b.whole ∙ reverse-append b.before (b.need ∷ b.after)
    ∙ ap (λ (xs : List Need). xs ++ reverse b.before) (reverse-cons b.need b.after) ∙ append_assoc (reverse b.after) (b.need ∷ []) (reverse b.before) in
    let k = cut ts us (reverse b.after) (reverse b.before) b.need (subst (AreOpened ts us) split h) in
    let whole : reverse ts ≡ reverse k.below ++ k.tree ∷ reverse k.above =
    ap reverse k.whole ∙ reverse-append k.above (k.tree ∷ k.below)
    ∙ ap (λ (xs : List Tree). xs ++ reverse k.above) (reverse-cons k.tree k.below) ∙ append_assoc (reverse k.below) (k.tree ∷ []) (reverse k.above) in
    let many = as-many k.below k.opened_below (reverse b.before) k.rest_opened in
    let long = length-reverse k.opened_below in
    let count = length-reverse b.before in
    let height : length (reverse k.opened_below) ≡ n = omega (arith, many.0, many.1, long, count, b.count) in
    let shut : opened (reverse k.opened_below) k.tree ≡ None = k.here.fewer (reverse k.opened_below) (omega (arith, height, b.broken)) in
    ap (λ (xs : List Tree). broken_from [] (from_list xs)) whole
    ∙ broken-then [] (reverse k.below) k.tree (reverse k.above) (reverse k.opened_below)
    (all-fit k.below k.opened_below (reverse b.before) k.rest_opened b.fit) shut
    ∙ ap (λ (m : ℕ). let o : Option ℕ = Some m in o) height

-- the trees from the bottom that fit
need-at : (needs : List Need) (i : ℕ) (d : Need) → i < length needs → drop i needs ≡ get_or needs i d ∷ drop (i + 1) needs
need-at needs i d h = rw add-one (drop-cons needs i d h)

pub fit-broken : (needs : List Need) (i : ℕ) (d : Need) → i < length needs → i < (get_or needs i d).elements → Fit (reverse (take i needs))
    → IsBroken needs i
fit-broken needs i d h lt fit = record {
  before = take i needs;
  after = drop (i + 1) needs;
  need = get_or needs i d;
  whole = sym (take-append-drop i needs) ∙ ap (λ (ns : List Need). take i needs ++ ns) (need-at needs i d h);
  count = length-take-le i needs (omega arith);
  fit = fit;
  broken = lt;
}

-- ---- the nodes that start a step

first-node : (ns : List Node) (d : Node) → 0 < length ns → ns ≡ get_or ns 0 d ∷ drop 1 ns
first-node [] d h = absurd (omega arith)
first-node (x ∷ ns) d h = refl

hole-next : (ns : List Node) → StartsHole ns → ns ≡ node.Placeholder ∷ drop 1 ns
hole-next [] h = absurd h
hole-next (node.Placeholder ∷ ns) h = refl
hole-next (node.Integer z ∷ ns) h = absurd h
hole-next (node.Application w k ∷ ns) h = absurd h
hole-next (node.List k ∷ ns) h = absurd h
hole-next (node.Annotations k ∷ ns) h = absurd h

pub number-step : (bytes : List ℕ) (ns : List Node) (d : Node) (z : ℤ) → 0 < length ns → AllByRecursion (IsNode bytes) ns → get_or ns 0 d ≡ node.Integer z
    → StartsHole (drop 1 ns) → (others : List Node) × (ns ≡ node.Integer (to_z w32 (of_z w32 z)) ∷ node.Placeholder ∷ others)
number-step bytes ns d z some names is hole =
    let whole : ns ≡ node.Integer z ∷ drop 1 ns = first-node ns d some ∙ ap (λ (n : Node). n ∷ drop 1 ns) is in
    let fits = (rw whole at names).0 in
    let next = hole-next (drop 1 ns) hole in (
      drop 1 (drop 1 ns),
      whole ∙ ap (λ (ms : List Node). node.Integer z ∷ ms) next
          ∙ ap (λ (y : ℤ). node.Integer y ∷ node.Placeholder ∷ drop 1 (drop 1 ns)) (sym (in_word z fits)),
    )

-- a stack without trees
pub reading-begins : (w : Store) (bytes : List ℕ) (all : List Node) (stack : Stack) → stack.terms.items ≡ [] → stack.needs.items ≡ []
    → Enough [] (map (node_of bytes) all) → AreProperNodes bytes all → AllByRecursion (IsNode bytes) all → IsReading w bytes all all stack
reading-begins w bytes all stack e f enough proper names = record {
  trees = [];
  stack_is = record { trees = []; held = rw e tt; opened = rw f tt };
  same = refl;
  enough = enough;
  proper = proper;
  names = names;
  shut = λ s. (refl, λ es. refl);
}

-- ---- the nodes of the elements

Enough-front : (made : List Tree) (ns : List nodes.Node) (n : nodes.Node) → Enough made (ns ++ n ∷ [])
    → Enough made ns × (needed n ≤ length (trees_of made ns))
Enough-front made [] n h = (tt, h.0)
Enough-front made (m ∷ ns) n h = let k = Enough-front (assembled m made) ns n h.1 in ((h.0, k.0), k.1)

Proper-front : (made : List Tree) (ns : List nodes.Node) (n : nodes.Node) → AreProper made (ns ++ n ∷ []) → AreProper made ns × IsProper n (trees_of made ns)
Proper-front made [] n h = (tt, h.0)
Proper-front made (m ∷ ns) n h = let k = Proper-front (assembled m made) ns n h.1 in ((h.0, k.0), k.1)

module _ (bytes : List ℕ) (ns front : List Node) (n : Node) (e : ns ≡ front ++ n ∷ []) where
  split : map (node_of bytes) ns ≡ map (node_of bytes) front ++ node_of bytes n ∷ []
  split = ap (map (node_of bytes)) e ∙ map-append (node_of bytes) front (n ∷ [])

  made-last : (t : Tree) → AreNodesOf bytes ns t → assembled (node_of bytes n) (made_of bytes front) ≡ t ∷ []
  made-last t a = sym (trees-push [] (map (node_of bytes) front) (node_of bytes n)) ∙ sym (ap (trees_of []) split) ∙ a.alone

  enough-last : (t : Tree) → AreNodesOf bytes ns t → Enough [] (map (node_of bytes) front) × (needed (node_of bytes n) ≤ length (made_of bytes front))
  enough-last t a = Enough-front [] (map (node_of bytes) front) (node_of bytes n) (subst (Enough []) split a.enough)

  proper-last : AreProperNodes bytes ns → AreProperNodes bytes front × IsProper (node_of bytes n) (made_of bytes front)
  proper-last p = Proper-front [] (map (node_of bytes) front) (node_of bytes n) (subst (AreProper []) split p)

-- a list of all trees
to-list-onto : (k : ℕ) (ts : List Tree) (xs : Trees) → k ≡ length ts → to_list (onto (taken k ts) xs) ≡ reverse ts ++ to_list xs
to-list-onto zero [] xs e = refl
to-list-onto zero (t ∷ ts) xs e = absurd (omega arith)
to-list-onto (suc k) [] xs e = absurd (omega arith)
to-list-onto (suc k) (t ∷ ts) xs e =
    to-list-onto k ts (more t xs) (omega arith) ∙ sym (append_assoc (reverse ts) (t ∷ []) (to_list xs))
    ∙ ap (λ (ys : List Tree). ys ++ to_list xs) (sym (reverse-cons t ts))

list-elements : (k : ℕ) (ts : List Tree) (t : Tree) → k ≤ length ts → Items (newest k ts) none ∷ drop k ts ≡ t ∷ [] → elements_of t ≡ reverse ts
list-elements k ts t le e =
    let whole : Items (newest k ts) none ≡ t = cc e in
    let over : drop k ts ≡ [] = cc e in
    let long = length-drop k ts in
    let nothing = ap length over in
    ap elements_of (sym whole) ∙ to-list-onto k ts none (omega (arith, long, nothing, le)) ∙ append-nil (reverse ts)

pub elements-are : (bytes : List ℕ) (ns front : List Node) (t : Tree) → AreNodesOf bytes ns t → EndsIn HasItems ns front
    → (elements_of t ≡ reverse (made_of bytes front)) × (0 < length (made_of bytes front))
elements-are bytes ns front t a (n, e, items) = by n (made-last bytes ns front n e t a) (enough-last bytes ns front n e t a).1 items
  where
    by : (m : Node) → assembled (node_of bytes m) (made_of bytes front) ≡ t ∷ [] → needed (node_of bytes m) ≤ length (made_of bytes front) → HasItems m
        → (elements_of t ≡ reverse (made_of bytes front)) × (0 < length (made_of bytes front))
    by (node.List k) made le some = (list-elements k (made_of bytes front) t le made, omega (arith, some))
    by (node.Integer z) made le some = absurd some
    by (node.Application w k) made le some = absurd some
    by node.Placeholder made le some = absurd some
    by (node.Annotations k) made le some = absurd some

noted-rule : (t : Tree) (anns : Trees) → 0 < count_of anns → broken_by_table (annotated t anns) ≡ Some 1
noted-rule t none h = absurd (omega arith)
noted-rule (Int z anns) (more a as') h = refl
noted-rule (Appl name quoted args anns) (more a as') h = refl
noted-rule (Items none anns) (more a as') h = refl
noted-rule (Items (more t ts) anns) (more a as') h = refl
noted-rule (Hole inner anns) (more a as') h = refl

pub no-elements : (bytes : List ℕ) (ns front : List Node) (t : Tree) → AreNodesOf bytes ns t → AreProperNodes bytes ns
    → EndsIn (λ n. HasItems n → ⊥) ns front → broken_by_table t ≡ Some 1
no-elements bytes ns front t a p (n, e, empty) =
    by n (made-last bytes ns front n e t a) (enough-last bytes ns front n e t a).1 (proper-last bytes ns front n e p).1 empty
  where
    first : (u : Tree) (us : List Tree) → u ∷ us ≡ t ∷ [] → broken_by_table u ≡ Some 1 → broken_by_table t ≡ Some 1
    first u us q h = let same : u ≡ t = cc q in subst (λ (x : Tree). broken_by_table x ≡ Some 1) same h

    by : (m : Node) → assembled (node_of bytes m) (made_of bytes front) ≡ t ∷ [] → needed (node_of bytes m) ≤ length (made_of bytes front)
        → IsProper (node_of bytes m) (made_of bytes front) → (HasItems m → ⊥) → broken_by_table t ≡ Some 1
    by (node.Integer z) made le proper h = first _ _ made refl
    by (node.Application w k) made le proper h = first _ _ made refl
    by (node.List zero) made le proper h = first _ _ made refl
    by (node.List (suc k)) made le proper h = absurd (h (omega arith))
    by node.Placeholder made le proper h = first _ _ made refl
    by (node.Annotations k) made le proper h =
        let counted = count-newest k (made_of bytes front) (omega arith) in
        first _ _ made (noted-rule (top (drop k (made_of bytes front))) (newest k (made_of bytes front)) (omega (arith, counted, proper.0)))

pub elements-need : (bytes : List ℕ) (ns front : List Node) (t : Tree) → AreNodesOf bytes ns t → AreProperNodes bytes ns → EndsIn HasItems ns front
    → Enough [] (map (node_of bytes) front) × AreProperNodes bytes front × AllByRecursion (IsNode bytes) front
elements-need bytes ns front t a p (n, e, items) =
    let names = All-front (IsNode bytes) front n (rw e at a.names) in
    ((enough-last bytes ns front n e t a).0, (proper-last bytes ns front n e p).0, names.0)

-- the answers
module _ (w : Store) (bytes : List ℕ) (ns front : List Node) (t : Tree) (a : AreNodesOf bytes ns t) (last : EndsIn HasItems ns front) (stack : Stack)
    (s : IsStack w (made_of bytes front) stack) where
  pub some-terms : 0 < length stack.terms.items
  some-terms =
      let some = (elements-are bytes ns front t a last).1 in
      let many = as-many (made_of bytes front) s.trees (reverse stack.needs.items) s.opened in
      let terms = held_length w stack.terms.items s.trees s.held in
      omega (arith, some, many.0, terms)

  pub table-opened : (others : List Term) (term : Term) → stack.terms.items ≡ others ++ term ∷ [] → Fit (reverse stack.needs.items)
      → tree_at w term ≡ tree_of_table t
  table-opened others term e fit =
      let top_is = pop_tree w stack.terms.items others term s.trees e s.held in
      let all = all-fit (made_of bytes front) s.trees (reverse stack.needs.items) s.opened fit in
      let is = elements-are bytes ns front t a last in
      let many = as-many (made_of bytes front) s.trees (reverse stack.needs.items) s.opened in
      let whole : s.trees ≡ top s.trees ∷ rest s.trees = some-first s.trees (omega (arith, is.1, many.0)) in
      let opened_is : all_opened [] (elements_of t) ≡ Some (reverse (rest s.trees) ++ top s.trees ∷ []) =
      ap (all_opened []) is.0 ∙ all
      ∙ ap (λ (xs : List Tree). let o : Option (List Tree) = Some xs in o) (ap reverse whole ∙ reverse-cons (top s.trees) (rest s.trees)) in
      top_is.0 ∙ sym (table-of-last t (reverse (rest s.trees)) (top s.trees) opened_is)

  pub table-broken : (n : ℕ) → IsBroken stack.needs.items n → (broken_by_table t ≡ Some 2) × (broken_element t ≡ Some n)
  table-broken n b =
      let is = elements-are bytes ns front t a last in
      broken-table t n
      (ap (λ (xs : List Tree). broken_from [] (from_list xs)) is.0 ∙ broken-at (made_of bytes front) s.trees stack.needs.items n s.opened b)
