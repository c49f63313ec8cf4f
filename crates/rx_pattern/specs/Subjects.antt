-- Stacks of references, and the pieces that they represent. `AreEach` relates two lists item by
-- item; `OnStack` does so for a stack, whose last item goes with the first piece; `meets` gives the
-- bindings of one step and what remains of its subject.
use Rattle.std.specs.Prelude.{◌≡◌, ◌&&◌, Bool, true, false, List, [], ◌∷◌, ◌++◌, reverse, bytes_eq}
use Rattle.std.specs.Prelude.{Option, Some, None}
use Rattle.std.specs.Bool.{beq}
use Rattle.std.specs.Ordering.{int_eq}
use Rattle.rx_term.specs.Tree.{Tree, Trees, Int, Appl, Items, none, more, list_of}
use Rattle.rx_term.specs.Store.{Store, tree_at}
use Rattle.rx_term.specs.declared.Term.{Term}
use Rattle.rx_term.specs.Walks.{HaveTrees}
use Rattle.rx_pattern.specs.Pattern.{fits}
use Rattle.rx_pattern.specs.Code.{Step, Number, Named, Listing, Holding, End, Item, Rest, Piece}
use Rattle.rx_pattern.specs.Code.{One, Several}

-- AreEach R xs ys: the lists have the same length, and `R` relates them item by item
abbrev pub AreEach : {A B : Type 0} → (A → B → Type 0) → List A → List B → Type 0
AreEach R [] [] = Unit {0}
AreEach R (x ∷ xs) (y ∷ ys) = R x y × AreEach R xs ys
AreEach R xs ys = ⊥

-- OnStack R xs ys: this holds for `ys` and the reverse of `xs`
abbrev pub OnStack : {A B : Type 0} → (A → B → Type 0) → List A → List B → Type 0
OnStack R xs ys = AreEach R (reverse xs) ys

-- IsListed w r ts: the trees are the items of a list, with any annotations; without a reference
-- there are none
abbrev pub IsListed : Store → Option Term → Trees → Type 0
IsListed w None ts = ts ≡ none
IsListed w (Some r) ts = (anns : Trees) × (tree_at w r ≡ Some (Items ts anns))

-- Stands w r v: the reference is that of a tree, or of a list with these items
abbrev pub Stands : Store → Option Term → Piece → Type 0
Stands w None (One u) = ⊥
Stands w (Some r) (One u) = tree_at w r ≡ Some u
Stands w l (Several ts) = IsListed w l ts

-- Pushes old new left before after: references of these pieces were pushed, that of the last one
-- first
abbrev pub Pushes : Store → Store → List Piece → List (Option Term) → List (Option Term) → Type 0
Pushes old new left before after = (vs : List Piece) → OnStack (Stands old) before vs
    → OnStack (Stands new) after (left ++ vs)

-- Suits s v: the step is one for a tree, or one for a list
abbrev pub Suits : Step → Piece → Type 0
Suits End (One u) = ⊥
Suits Item (One u) = ⊥
Suits Rest (One u) = ⊥
Suits s (One u) = Unit {0}
Suits End (Several ts) = Unit {0}
Suits Item (Several ts) = Unit {0}
Suits Rest (Several ts) = Unit {0}
Suits s (Several ts) = ⊥

-- bindings, and the pieces that remain to be matched
abbrev pub Front : Type 0
Front = List Tree × List Piece

-- front_if b front: the result, if the test is true
abbrev pub front_if : Bool → Front → Option Front
front_if true front = Some front
front_if false front = None

-- meets s v: the result of matching one step with the start of a piece
abbrev pub meets : Step → Piece → Option Front
meets (Number z) (One (Int y bnns)) = front_if (int_eq z y) ([], Several bnns ∷ [])
meets (Named name quoted) (One (Appl other flag brgs bnns)) = front_if
    (bytes_eq name other && beq quoted flag) ([], Several brgs ∷ Several bnns ∷ [])
meets Listing (One (Items jtems bnns)) = Some ([], Several jtems ∷ Several bnns ∷ [])
meets (Holding (Some kind)) (One u) = front_if (fits kind u) (u ∷ [], [])
meets End (Several none) = Some ([], [])
meets Item (Several (more t ts)) = Some ([], One t ∷ Several ts ∷ [])
meets Rest (Several ts) = Some (list_of ts ∷ [], [])
meets s v = None

-- Met w front before after matched: the result of a step that binds nothing; remaining pieces were
-- pushed
abbrev pub Met : Store → Option Front → List (Option Term) → List (Option Term) → Bool → Type 0
Met w (Some front) before after true = (front.0 ≡ []) × Pushes w w front.1 before after
Met w None before after false = Unit {0}
Met w front before after matched = ⊥

-- Adds old new bs before after: references of these bindings were appended
abbrev pub Adds : Store → Store → List Tree → List Term → List Term → Type 0
Adds old new bs before after = (cs : List Tree) → HaveTrees old before cs
    → HaveTrees new after (cs ++ bs)

-- MetOrNot: the result of any step: remaining pieces were pushed, and bindings appended
abbrev pub MetOrNot : Store → Store → Option Front → List (Option Term) → List (Option Term)
    → List Term → List Term → Bool → Type 0
MetOrNot old new (Some front) before after out more_out true = Pushes old new front.1 before after
    × Adds old new front.0 out more_out
MetOrNot old new None before after out more_out false = Unit {0}
MetOrNot old new front before after out more_out matched = ⊥

-- Answers w bs out matched: the bindings, if the pattern matches
abbrev pub Answers : Store → Option (List Tree) → List Term → Bool → Type 0
Answers w (Some bs) out true = HaveTrees w out bs
Answers w None out false = Unit {0}
Answers w bs out matched = ⊥
