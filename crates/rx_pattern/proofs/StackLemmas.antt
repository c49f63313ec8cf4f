-- Stacks of references, and what they represent.
use Rattle.std.proofs.Common.{◌≡◌, List, [], ◌∷◌, ◌++◌, reverse, Option, Some, None, IsSome, refl, ◌∙◌}
use Rattle.std.specs.Prelude.{unwrap_or}
use Rattle.std.proofs.lemmas.List.{reverse-append}
use Rattle.rx_term.specs.Tree.{Tree, Trees, none, more, Items, annotations, list_of}
use Rattle.rx_term.specs.Store.{Store, tree_at, list_unless_empty}
use Rattle.rx_term.specs.Steps.{Grows}
use Rattle.rx_term.specs.Kinds.{HasAnns}
use Rattle.rx_term.specs.declared.Term.{Term}
use Rattle.rx_term.specs.Walks.{HaveTrees}
use Rattle.rx_pattern.specs.Code.{Piece, One, Several}
use Rattle.rx_pattern.specs.Subjects.{AreEach, OnStack, IsListed, Stands, Adds}

-- what is held has a tree
pub held_tree : (o : Option Tree) (d : Tree) → IsSome o → o ≡ Some (unwrap_or o d)
held_tree None d h = absurd (let z : ⊥ = cc in z)
held_tree (Some u) d h = refl

pub held_at : (P : Tree → Type 0) (o : Option Tree) (d u : Tree) → o ≡ Some u → P u → (o ≡ Some (unwrap_or o d)) × P (unwrap_or o d)
held_at P o d u e h = rw e (refl, h)

-- one tree at a place
pub same : {o : Option Tree} {x y : Tree} → o ≡ Some x → o ≡ Some y → x ≡ y
same p q = cc

pub push-reverse : {A : Type 0} (xs : List A) (x : A) → reverse (xs ++ x ∷ []) ≡ x ∷ reverse xs
push-reverse xs x = reverse-append xs (x ∷ [])

pub push : {A B : Type 0} (R : A → B → Type 0) (before after : List A) (x : A) (v : B) (vs : List B) → after ≡ before ++ x ∷ [] → R x v
    → OnStack R before vs → OnStack R after (v ∷ vs)
push R before after x v vs e r h = rw (e, push-reverse before x) (r, h)

first_on : {A B : Type 0} (R : A → B → Type 0) (x : A) (xs : List A) (v : B) (vs : List B) → AreEach R (x ∷ xs) (v ∷ vs) → R x v × AreEach R xs vs
first_on R x xs v vs h = h

pub pop : {A B : Type 0} (R : A → B → Type 0) (before after : List A) (x : A) (v : B) (vs : List B) → before ≡ after ++ x ∷ []
    → OnStack R before (v ∷ vs) → R x v × OnStack R after vs
pop R before after x v vs e h = first_on R x (reverse after) v vs (rw (e, push-reverse after x) at h)

pub still_stands : (old new : Store) → Grows old new → (x : Option Term) (v : Piece) → Stands old x v → Stands new x v
still_stands old new g None (One u) h = absurd h
still_stands old new g (Some r) (One u) h = g.trees r u h
still_stands old new g None (Several ts) h = h
still_stands old new g (Some r) (Several ts) h = (h.0, g.trees r (Items ts h.0) h.1)

still_each : (old new : Store) → Grows old new → (xs : List (Option Term)) (vs : List Piece) → AreEach (Stands old) xs vs → AreEach (Stands new) xs vs
still_each old new g [] [] h = tt
still_each old new g (x ∷ xs) (v ∷ vs) h = (still_stands old new g x v h.0, still_each old new g xs vs h.1)
still_each old new g [] (v ∷ vs) h = absurd h
still_each old new g (x ∷ xs) [] h = absurd h

pub still_on : (old new : Store) → Grows old new → (xs : List (Option Term)) (vs : List Piece) → OnStack (Stands old) xs vs → OnStack (Stands new) xs vs
still_on old new g xs vs h = still_each old new g (reverse xs) vs h

pub still_have : (old new : Store) → Grows old new → (rs : List Term) (ts : List Tree) → HaveTrees old rs ts → HaveTrees new rs ts
still_have old new g [] [] h = tt
still_have old new g (r ∷ rs) (t ∷ ts) h = (g.trees r t h.0, still_have old new g rs ts h.1)
still_have old new g [] (t ∷ ts) h = absurd h
still_have old new g (r ∷ rs) [] h = absurd h

HaveTrees-push : (w : Store) (rs : List Term) (r : Term) (ts : List Tree) (t : Tree) → HaveTrees w rs ts → tree_at w r ≡ Some t
    → HaveTrees w (rs ++ r ∷ []) (ts ++ t ∷ [])
HaveTrees-push w [] r [] t h e = (e, tt)
HaveTrees-push w (x ∷ xs) r (y ∷ ys) t h e = (h.0, HaveTrees-push w xs r ys t h.1 e)
HaveTrees-push w [] r (y ∷ ys) t h e = absurd h
HaveTrees-push w (x ∷ xs) r [] t h e = absurd h

-- one binding more
pub adds_one : (old new : Store) → Grows old new → (before after : List Term) (r : Term) (t : Tree) → after ≡ before ++ r ∷ []
    → tree_at new r ≡ Some t → Adds old new (t ∷ []) before after
adds_one old new g before after r t e there = λ cs h. rw e (HaveTrees-push new before r cs t (still_have old new g before cs h) there)

-- the annotations of a tree, as a list
no_notes : (ts : Trees) → list_unless_empty ts ≡ None → ts ≡ none
no_notes none e = refl
no_notes (more t ts) e = absurd (let z : ⊥ = cc in z)

some_notes : (ts : Trees) → IsSome (list_unless_empty ts) → list_unless_empty ts ≡ Some (list_of ts)
some_notes none e = absurd (let z : ⊥ = cc in z)
some_notes (more t ts) e = refl

pub listed_notes : (w : Store) (t : Term) (u : Tree) (a : Option Term) → tree_at w t ≡ Some u → HasAnns w t a → IsListed w a (annotations u)
listed_notes w t u None e h = no_notes (annotations u) (rw e at h)
listed_notes w t u (Some r) e h =
    let k : IsSome (list_unless_empty (annotations u)) × (tree_at w r ≡ list_unless_empty (annotations u)) = rw e at h in
    (none, k.1 ∙ some_notes (annotations u) k.0)

pub listed : (w : Store) (l : Option Term) (ts : Trees) → Stands w l (Several ts) → IsListed w l ts
listed w None ts h = h
listed w (Some r) ts h = h
