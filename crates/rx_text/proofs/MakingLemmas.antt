-- A turn of the loop that makes a tree from its nodes.
use Rattle.std.proofs.Common.{◌≡◌, ℕ, zero, suc, ◌+◌, ◌≤◌, ◌<◌, ◌==◌, Bool, true, List, [], ◌∷◌, ◌++◌, length, map, drop, reverse}
use Rattle.std.proofs.Common.{get_or, Option, Some, ℤ, pos, w32, to_z, of_z, refl, sym, ap, ◌∙◌, arith, add-one, eq-eqb}
use Rattle.std.proofs.lemmas.List.{reverse-append, length-reverse}
use Rattle.rx_term.specs.Name.{Signature}
use Rattle.rx_term.specs.Tree.{Tree, Trees, none, more, Int, Appl, Hole, annotated, count_of, list_of, is_i32}
use Rattle.rx_term.specs.Store.{Store, tree_at, signature_of, longer, applied, held_open, noted}
use Rattle.rx_term.specs.Steps.{Grows, Makes}
use Rattle.rx_term.proofs.StoreLemmas.{Grows-Makes}
use Rattle.rx_term.specs.declared.Term.{Term}
use Rattle.rx_term.specs.declared.Symbol.{Symbol}
use Rattle.std.proofs.Math.Seq.{drop-cons}
use Rattle.std.specs.List.{AllByRecursion}
use Rattle.rx_term.specs.Walks.{HaveTrees}
use Rattle.rx_text.specs.Machine.{onto}
use Rattle.rx_text.specs.Nodes.{taken, newest, top, rest, needed, assembled, trees_of, Enough}
use Rattle.rx_text.specs.Reader.{node_of, made_of, IsNode}
use Rattle.rx_text.specs.Answer.{AreNodesOf}
use Rattle.rx_text.specs.declared.nodes.Node.{Node}
use Rattle.rx_text.specs.declared.nodes.Node.TheVariants as node
use Rattle.rx_text.specs.Held.{Holds}
use Rattle.rx_text.proofs.SteppingLemmas.{in_word, rest-drop}

-- ---- trees of references

refs-push : (rs : List Term) (r : Term) → reverse (rs ++ r ∷ []) ≡ r ∷ reverse rs
refs-push rs r = reverse-append rs (r ∷ [])

pub push_tree : (w : Store) (rs : List Term) (r : Term) (t : Tree) (ts : List Tree) → Holds w rs ts → tree_at w r ≡ Some t → Holds w (rs ++ r ∷ []) (t ∷ ts)
push_tree w rs r t ts h e = rw refs-push (e, h)

first_tree : (w : Store) (r : Term) (rs : List Term) (ts : List Tree) → HaveTrees w (r ∷ rs) ts → (tree_at w r ≡ Some (top ts)) × HaveTrees w rs (rest ts)
first_tree w r rs [] h = absurd h
first_tree w r rs (t ∷ ts) h = h

pub pop_tree : (w : Store) (before after : List Term) (r : Term) (ts : List Tree) → before ≡ after ++ r ∷ [] → Holds w before ts
    → (tree_at w r ≡ Some (top ts)) × Holds w after (rest ts)
pop_tree w before after r ts e h = first_tree w r (reverse after) ts (rw (e, refs-push) at h)

still_have : (old new : Store) → Grows old new → (rs : List Term) (ts : List Tree) → HaveTrees old rs ts → HaveTrees new rs ts
still_have old new g [] [] h = tt
still_have old new g (r ∷ rs) (t ∷ ts) h = (g.trees r t h.0, still_have old new g rs ts h.1)
still_have old new g [] (t ∷ ts) h = absurd h
still_have old new g (r ∷ rs) [] h = absurd h

pub still_holds : (old new : Store) → Grows old new → (rs : List Term) (ts : List Tree) → Holds old rs ts → Holds new rs ts
still_holds old new g rs ts h = still_have old new g (reverse rs) ts h

have_as_many : (w : Store) (rs : List Term) (ts : List Tree) → HaveTrees w rs ts → length rs ≡ length ts
have_as_many w [] [] h = refl
have_as_many w (r ∷ rs) (t ∷ ts) h = ap suc (have_as_many w rs ts h.1)
have_as_many w [] (t ∷ ts) h = absurd h
have_as_many w (r ∷ rs) [] h = absurd h

-- ---- the newest trees

onto-newest : (k : ℕ) (ts : List Tree) (others : Trees) → k < length ts → onto (taken (suc k) ts) others ≡ more (top (drop k ts)) (onto (taken k ts) others)
onto-newest k [] others h = absurd (omega arith)
onto-newest zero (t ∷ ts) others h = refl
onto-newest (suc k) (t ∷ ts) others h = onto-newest k ts (more t others) (omega arith)

pub newest-more : (k : ℕ) (ts : List Tree) → k < length ts → newest (k + 1) ts ≡ more (top (drop k ts)) (newest k ts)
newest-more k ts h = rw add-one (onto-newest k ts none h)

pub as_many : (w : Store) (rs : List Term) (ts us : List Tree) → Holds w rs ts → Holds w rs us → length ts ≡ length us
as_many w rs ts us h k = sym (have_as_many w (reverse rs) ts h) ∙ have_as_many w (reverse rs) us k

-- one more item of a list
pub item_on : (w v : Store) (before after : List Term) (item list r : Term) (i : ℕ) (ts : List Tree) → i < length ts → before ≡ after ++ item ∷ []
    → Holds w before (drop i ts) → tree_at w list ≡ Some (list_of (newest i ts))
    → Makes w v (longer (tree_at w item) (tree_at w list)) r → (tree_at v r ≡ Some (list_of (newest (i + 1) ts))) × Holds v after (drop (i + 1) ts)
item_on w v before after item list r i ts lt e h listed m =
    let p = pop_tree w before after item (drop i ts) e h in
    let made : tree_at v r ≡ longer (Some (top (drop i ts))) (Some (list_of (newest i ts))) =
    m.made ∙ ap (λ x. longer x (tree_at w list)) p.0 ∙ ap (λ y. longer (Some (top (drop i ts))) y) listed in (
      made ∙ ap (λ xs. let o : Option Tree = Some (list_of xs) in o) (sym (newest-more i ts lt)),
      rw (← rest-drop i ts) (still_holds w v (Grows-Makes m) after (rest (drop i ts)) p.1),
    )

pub held_length : (w : Store) (rs : List Term) (ts : List Tree) → Holds w rs ts → length rs ≡ length ts
held_length w rs ts h = sym (length-reverse rs) ∙ have_as_many w (reverse rs) ts h

-- ---- nodes

count-onto : (ts us : Trees) → count_of (onto ts us) ≡ count_of ts + count_of us
count-onto none us = omega arith
count-onto (more t ts) us = omega (arith, count-onto ts (more t us))

count-taken : (k : ℕ) (ts : List Tree) → k ≤ length ts → count_of (taken k ts) ≡ k
count-taken zero ts h = refl
count-taken (suc k) [] h = absurd (omega arith)
count-taken (suc k) (t ∷ ts) h = omega (arith, count-taken k ts (omega arith))

pub count-newest : (k : ℕ) (ts : List Tree) → k ≤ length ts → count_of (newest k ts) ≡ k
count-newest k ts h = omega (arith, count-onto (taken k ts) none, count-taken k ts h)

-- a tree that is made is held, with those that were
made_held : (w v : Store) (tree : Option Tree) (r : Term) (rs : List Term) (t : Tree) (ts : List Tree) → Makes w v tree r → tree ≡ Some t
    → Holds w rs ts → Holds v (rs ++ r ∷ []) (t ∷ ts)
made_held w v tree r rs t ts m e h = push_tree v rs r t ts (still_holds w v (Grows-Makes m) rs ts h) (m.made ∙ e)

pub integer_made : (w v : Store) (z : ℤ) (r : Term) (rs : List Term) (ts : List Tree) → is_i32 z ≡ true
    → Makes w v (Some (Int (to_z w32 (of_z w32 z)) none)) r → Holds w rs ts → Holds v (rs ++ r ∷ []) (Int z none ∷ ts)
integer_made w v z r rs ts fits m h = made_held w v _ r rs (Int z none) ts m (ap (λ y. let o : Option Tree = Some (Int y none) in o) (in_word z fits)) h

abbrev signature : List ℕ → Bool → ℕ → Signature
signature name quoted k = record { name = name; quoted = quoted; arity = k }

applied_is : (w : Store) (args : Term) (s : Symbol) (name : List ℕ) (quoted : Bool) (k : ℕ) (ts : List Tree) → k ≤ length ts
    → signature_of w s ≡ Some (signature name quoted k) → tree_at w args ≡ Some (list_of (newest k ts))
    → applied (signature_of w s) (tree_at w args) ≡ Some (Appl name quoted (newest k ts) none)
applied_is w args s name quoted k ts le sig tree =
    let same : (count_of (newest k ts) == k) ≡ true = eq-eqb (count_of (newest k ts)) k (count-newest k ts le) in
    rw (sig, tree, same) refl

-- with the list of its arguments, made before its symbol
pub applied_there : (u w : Store) (args : Term) (s : Symbol) (name : List ℕ) (quoted : Bool) (k : ℕ) (ts : List Tree) → Grows u w → k ≤ length ts
    → signature_of w s ≡ Some (signature name quoted k) → tree_at u args ≡ Some (list_of (newest k ts))
    → applied (signature_of w s) (tree_at w args) ≡ Some (Appl name quoted (newest k ts) none)
applied_there u w args s name quoted k ts g le sig tree = applied_is w args s name quoted k ts le sig (g.trees args (list_of (newest k ts)) tree)

pub application_made : (u w v : Store) (args r : Term) (s : Symbol) (name : List ℕ) (quoted : Bool) (k : ℕ) (rs : List Term) (ts : List Tree)
    → Grows u w → k ≤ length ts → signature_of w s ≡ Some (signature name quoted k) → tree_at u args ≡ Some (list_of (newest k ts))
    → Makes w v (applied (signature_of w s) (tree_at w args)) r → Holds u rs (drop k ts)
    → Holds v (rs ++ r ∷ []) (Appl name quoted (newest k ts) none ∷ drop k ts)
application_made u w v args r s name quoted k rs ts g le sig tree m h =
    made_held w v _ r rs (Appl name quoted (newest k ts) none) (drop k ts) m (applied_there u w args s name quoted k ts g le sig tree)
    (still_holds u w g rs (drop k ts) h)

pub placeholder_made : (w v : Store) (before after : List Term) (inner r : Term) (ts : List Tree) → before ≡ after ++ inner ∷ []
    → Makes w v (held_open (tree_at w inner)) r → Holds w before ts → Holds v (after ++ r ∷ []) (Hole (top ts) none ∷ rest ts)
placeholder_made w v before after inner r ts e m h =
    let p = pop_tree w before after inner ts e h in
    made_held w v _ r after (Hole (top ts) none) (rest ts) m (ap held_open p.0) p.1

pub annotations_made : (w v : Store) (before after : List Term) (term anns r : Term) (k : ℕ) (ts : List Tree) → before ≡ after ++ term ∷ []
    → tree_at w anns ≡ Some (list_of (newest k ts)) → Makes w v (noted (tree_at w term) (tree_at w anns)) r
    → Holds w before (drop k ts) → Holds v (after ++ r ∷ []) (annotated (top (drop k ts)) (newest k ts) ∷ rest (drop k ts))
annotations_made w v before after term anns r k ts e tree m h =
    let p = pop_tree w before after term (drop k ts) e h in
    made_held w v _ r after (annotated (top (drop k ts)) (newest k ts)) (rest (drop k ts)) m (rw (p.0, tree) refl) p.1

-- ---- all nodes

-- the trees of the references and the nodes that are left make what all nodes make
pub record UnderWay (w : Store) (bytes : List ℕ) (rs : List Term) (all left : List Node) : Type 0 where
  pub trees : List Tree
  pub held : Holds w rs trees
  pub same : trees_of trees (map (node_of bytes) left) ≡ made_of bytes all
  pub enough : Enough trees (map (node_of bytes) left)
  pub names : AllByRecursion (IsNode bytes) left

pub begun : (w : Store) (bytes : List ℕ) (rs : List Term) (all : List Node) (t : Tree) → rs ≡ [] → AreNodesOf bytes all t → UnderWay w bytes rs all all
begun w bytes rs all t e a = record { trees = []; held = rw e tt; same = refl; enough = a.enough; names = a.names }

-- one node more
pub turn : (w v : Store) (bytes : List ℕ) (rs after : List Term) (all left others : List Node) (n : Node) → left ≡ n ∷ others
    → UnderWay w bytes rs all left → ((trees : List Tree) → Holds w rs trees → Holds v after (assembled (node_of bytes n) trees))
    → UnderWay v bytes after all others
turn w v bytes rs after all left others n e u made =
    let enough = rw e at u.enough in
    let names = rw e at u.names in
    record { trees = assembled (node_of bytes n) u.trees; held = made u.trees u.held; same = rw e at u.same; enough = enough.1; names = names.1 }

pub turn_needs : (w : Store) (bytes : List ℕ) (rs : List Term) (all left others : List Node) (n : Node) → left ≡ n ∷ others
    → UnderWay w bytes rs all left → ((trees : List Tree) × Holds w rs trees × (needed (node_of bytes n) ≤ length trees)) × IsNode bytes n
turn_needs w bytes rs all left others n e u =
    let enough = rw e at u.enough in
    let names = rw e at u.names in
    ((u.trees, u.held, enough.0), names.0)

-- the one tree of all nodes
pub ended : (w : Store) (bytes : List ℕ) (rs : List Term) (all left : List Node) (t : Tree) → left ≡ [] → UnderWay w bytes rs all left
    → AreNodesOf bytes all t → Holds w rs (t ∷ [])
ended w bytes rs all left t e u a =
    let same = rw e at u.same in
    let one : u.trees ≡ t ∷ [] = same ∙ a.alone in
    rw one at u.held

pub only_one : (w : Store) (rs : List Term) (r : Term) (t : Tree) → Holds w rs (t ∷ []) → r ≡ get_or rs 0 r → tree_at w r ≡ Some t
only_one w [] r t h e = absurd h
only_one w (x ∷ []) r t h e = rw e h.0
only_one w (x ∷ y ∷ rs) r t h e = let long = held_length w (x ∷ y ∷ rs) (t ∷ []) h in absurd (omega (arith, long))

pub drop-past : {X : Type 0} (xs : List X) (i : ℕ) → length xs ≤ i → drop i xs ≡ []
drop-past [] zero h = refl
drop-past (x ∷ xs) zero h = absurd (omega arith)
drop-past [] (suc i) h = refl
drop-past (x ∷ xs) (suc i) h = drop-past xs i (omega arith)

abbrev pub no_node : Node
no_node = node.Integer (pos 0)

pub next_node : (ns : List Node) (i : ℕ) → i < length ns → drop i ns ≡ get_or ns i no_node ∷ drop (i + 1) ns
next_node ns i h = rw (add-one, drop-cons ns i no_node h) refl
