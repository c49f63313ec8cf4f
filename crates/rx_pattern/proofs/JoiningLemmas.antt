-- What a node makes of the newest of what was made.
use Rattle.std.proofs.Common.{◌≡◌, List, [], ◌∷◌, ◌++◌, Option, Some, Result, Ok, Err, ap, ◌∙◌}
use Rattle.std.specs.Prelude.{OnOk}
use Rattle.rx_term.specs.Tree.{Tree, Trees, none, more, Items, annotated, list_of}
use Rattle.rx_term.specs.Store.{Store, tree_at, longer}
use Rattle.rx_term.specs.Steps.{Grows, Makes}
use Rattle.rx_term.specs.declared.Term.{Term}
use Rattle.rx_term.proofs.StoreLemmas.{Grows-Makes, Grows-trans}
use Rattle.rx_pattern.specs.Code.{Piece, One, Several}
use Rattle.rx_pattern.specs.Subjects.{OnStack, IsListed, Stands}
use Rattle.rx_pattern.proofs.StackLemmas.{push, pop, still_on, listed}

pub on_ok : {A E : Type 0} (P Q : Type 0) (r : Result A E) → OnOk r P → (P → Q) → OnOk r Q
on_ok P Q (Ok x) h f = f h
on_ok P Q (Err e) h f = tt

-- a tree takes its annotations
pub noted_on : (w new : Store) (t whole : Term) (x : Option Term) (before rest after : List (Option Term)) → Grows w new → before ≡ rest ++ x ∷ []
    → after ≡ rest ++ Some whole ∷ []
    → ((u : Tree) (as' : Trees) → tree_at w t ≡ Some u → IsListed w x as' → tree_at new whole ≡ Some (annotated u as'))
    → (u : Tree) (anns : Trees) (ps : List Piece) → tree_at w t ≡ Some u → OnStack (Stands w) before (Several anns ∷ ps)
    → OnStack (Stands new) after (One (annotated u anns) ∷ ps)
noted_on w new t whole x before rest after g popped grown noted u anns ps there on =
    let p = pop (Stands w) before rest x (Several anns) ps popped on in
    push (Stands new) rest after (Some whole) (One (annotated u anns)) ps grown (noted u anns there (listed w x anns p.0)) (still_on w new g rest ps p.1)

-- an application or a list, of the newest list
pub newest_below : (w mid : Store) (x : Option Term) (before rest : List (Option Term)) → Grows w mid → before ≡ rest ++ x ∷ []
    → (ts anns : Trees) (ps : List Piece) → OnStack (Stands w) before (Several ts ∷ Several anns ∷ ps)
    → IsListed w x ts × OnStack (Stands mid) rest (Several anns ∷ ps)
newest_below w mid x before rest g popped ts anns ps on =
    let p = pop (Stands w) before rest x (Several ts) (Several anns ∷ ps) popped on in
    (listed w x ts p.0, still_on w mid g rest (Several anns ∷ ps) p.1)

-- an item in front of a list
pub item_on : (w mid new : Store) (head tail list : Term) (x y : Option Term) (before between rest after : List (Option Term)) → Grows w mid
    → before ≡ between ++ x ∷ [] → x ≡ Some head → between ≡ rest ++ y ∷ []
    → ((ts : Trees) → IsListed w y ts → tree_at mid tail ≡ Some (list_of ts)) → Makes mid new (longer (tree_at mid head) (tree_at mid tail)) list
    → after ≡ rest ++ Some list ∷ []
    → (t : Tree) (ts : Trees) (ps : List Piece) → OnStack (Stands w) before (One t ∷ Several ts ∷ ps) → OnStack (Stands new) after (Several (more t ts) ∷ ps)
item_on w mid new head tail list x y before between rest after g popped is popped_next plain m grown t ts ps on =
    let p = pop (Stands w) before between x (One t) (Several ts ∷ ps) popped on in
    let q = pop (Stands w) between rest y (Several ts) ps popped_next p.1 in
    let first : tree_at w head ≡ Some t = rw is at p.0 in
    let h : tree_at mid head ≡ Some t = g.trees head t first in
    let l : tree_at mid tail ≡ Some (list_of ts) = plain ts (listed w y ts q.0) in
    let made : tree_at new list ≡ Some (Items (more t ts) none) =
    m.made ∙ ap (λ (a : Option Tree). longer a (tree_at mid tail)) h ∙ ap (λ (a : Option Tree). longer (Some t) a) l in
    push (Stands new) rest after (Some list) (Several (more t ts)) ps grown (none, made) (still_on w new (Grows-trans g (Grows-Makes m)) rest ps q.1)
