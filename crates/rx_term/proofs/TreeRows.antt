-- Small trees: which are equal, which are trees at all, and what annotating leaves.
use Rattle.std.proofs.Common.{◌≡◌, true, false, refl, pos, negsuc}
use Rattle.std.specs.Prelude.{codes}
use Rattle.rx_term.specs.Tree.{Tree, none, more, Int, Appl, Items, Hole, tree_eq, annotated, annotations, joined, count_of, list_of, is_tree}

abbrev a : Tree
a = Appl (codes "a") false none none

abbrev b : Tree
b = Appl (codes "b") false none none

-- `a{a,b}` and `a{b,a}`
order_counts : tree_eq (Appl (codes "a") false none (more a (more b none))) (Appl (codes "a") false none (more b (more a none))) ≡ false
order_counts = refl

-- `a` and `"a"`
quotes_count : tree_eq a (Appl (codes "a") true none none) ≡ false
quotes_count = refl

-- `[a]` and `[a]{b}`
annotations_count : tree_eq (Items (more a none) none) (Items (more a none) (more b none)) ≡ false
annotations_count = refl

-- `<7>{a}` with itself
same_placeholder : tree_eq (Hole (Int (pos 7) none) (more a none)) (Hole (Int (pos 7) none) (more a none)) ≡ true
same_placeholder = refl

-- `7` and `-7`
sign_counts : tree_eq (Int (pos 7) none) (Int (negsuc 6) none) ≡ false
sign_counts = refl

-- `f(a){b}` with the annotation `a`
replaced : annotated (Appl (codes "f") false (more a none) (more b none)) (more a none) ≡ Appl (codes "f") false (more a none) (more a none)
replaced = refl

own : annotations (Items (more a none) (more b none)) ≡ more b none
own = refl

behind : joined (more a none) (more b none) ≡ more a (more b none)
behind = refl

two : count_of (more a (more b none)) ≡ 2
two = refl

unannotated : list_of (more a none) ≡ Items (more a none) none
unannotated = refl

-- the ends of the range
greatest : is_tree (Int (pos 2147483647) none) ≡ true
greatest = refl

too_great : is_tree (Int (pos 2147483648) none) ≡ false
too_great = refl

least : is_tree (Int (negsuc 2147483647) none) ≡ true
least = refl

too_small : is_tree (Int (negsuc 2147483648) none) ≡ false
too_small = refl

-- a bad name inside an annotation
bad_inside : is_tree (Items (more a none) (more (Appl (codes "0") false none none) none)) ≡ false
bad_inside = refl
