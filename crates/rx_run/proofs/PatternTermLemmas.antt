-- References of the elements of a list that a bank holds.
use Rattle.std.proofs.Common.{◌≡◌, ◌⊎◌, inl, inr, ℕ, ◌+◌, ◌<◌, List, [], ◌∷◌, ◌++◌, Option, Some, None}
use Rattle.std.proofs.Common.{Result, Ok, is_some, false, refl, sym, ap, ◌∙◌, arith, append_assoc, subst}
use Rattle.std.specs.Option.{option_and_then, option_map_or}
use Rattle.rx_term.specs.Tree.{Tree, Trees, none, more, Items, list_of, to_list, count_of}
use Rattle.rx_term.specs.Store.{Store, tree_at, part_at, head_of, tail_of, anns_of}
use Rattle.rx_term.specs.Kinds.{HasAnns, HasCons, HasKind, HasNil}
use Rattle.rx_term.specs.declared.Term.{Term}
use Rattle.rx_term.specs.declared.Kind.{Kind}
use Rattle.rx_term.specs.declared.Kind.TheVariants as kind
use Rattle.rx_term.specs.Walks.{AllHeld, HaveTrees}
use Rattle.rx_term.proofs.WalkLemmas.{AllHeld-from_trees}
use Rattle.rx_pattern.specs.Filling.{Fault}
use Rattle.rx_run.specs.PatternRuns.{elements}
use Rattle.rx_run.specs.Due.{done}
use Rattle.rx_run.specs.PatternRuns.{made_due}
use Rattle.rx_run.specs.Inner.PatternAnswers.{HasElements}
use Rattle.rx_run.specs.TermRuns.{line_at}

have-more : (w : Store) (rs : List Term) (ts : List Tree) (r : Term) (t : Tree) → HaveTrees w rs ts → tree_at w r ≡ Some t
    → HaveTrees w (rs ++ r ∷ []) (ts ++ t ∷ [])
have-more w [] [] r t h e = (e, tt)
have-more w [] (u ∷ us) r t h e = absurd h
have-more w (s ∷ ss) [] r t h e = absurd h
have-more w (s ∷ ss) (u ∷ us) r t (i, h) e = (i, have-more w ss us r t h e)

-- what is due of a tree that is made
pub made_here : (w : Store) (t : Term) (u : Tree) (r : Result Tree Fault) → r ≡ Ok u → tree_at w t ≡ Some u → done (line_at w t) ≡ made_due r
made_here w t u r e f = rw (e, f) refl

-- elements are held
pub elements_held : (w : Store) (ts : Option (List Tree)) (rs : List Term) → HasElements w ts (Some rs) → AllHeld w rs
elements_held w None rs h = absurd h
elements_held w (Some ts) rs h = AllHeld-from_trees w rs ts h

-- the items of a list were found up to what is left of it
pub record IsPartWay (w : Store) (list : Term) (found : List Term) (rest : Term) : Type 0 where
  pub all : Trees
  pub done : List Tree
  pub left : Trees
  pub whole : tree_at w list ≡ Some (list_of all)
  pub here : tree_at w rest ≡ Some (list_of left)
  pub had : HaveTrees w found done
  pub split : to_list all ≡ done ++ to_list left

pub part_way_first : (w : Store) (list : Term) → (ts : Trees) × (tree_at w list ≡ Some (list_of ts)) → IsPartWay w list [] list
part_way_first w list (ts, e) = record { all = ts; done = []; left = ts; whole = e; here = e; had = tt; split = refl }

-- how many items are left
abbrev items_count : Tree → ℕ
items_count (Items items anns) = count_of items
items_count t = 0

abbrev pub left_at : Store → Term → ℕ
left_at w t = option_map_or items_count (tree_at w t) 0

pub record TakesOne (w : Store) (list : Term) (found : List Term) (rest head tail : Term) : Type 0 where
  pub part_way : IsPartWay w list (found ++ head ∷ []) tail
  pub smaller : left_at w tail < left_at w rest

-- one item more
pub takes_one : (w : Store) (list : Term) (found : List Term) (rest head tail : Term) → IsPartWay w list found rest → HasCons w rest
    → tree_at w head ≡ part_at head_of w rest → tree_at w tail ≡ part_at tail_of w rest → TakesOne w list found rest head tail
takes_one w list found rest head tail p h e f = by p.left p.here p.split
  where
    by : (left : Trees) → tree_at w rest ≡ Some (list_of left) → to_list p.all ≡ p.done ++ to_list left → TakesOne w list found rest head tail
    by none here split = absurd (cc (here, h.here))
    by (more x xs) here split =
        let at_head : tree_at w head ≡ Some x = e ∙ ap (option_and_then head_of) here in
        let at_tail : tree_at w tail ≡ Some (list_of xs) = f ∙ ap (option_and_then tail_of) here in
        record {
          part_way = record {
            all = p.all;
            done = p.done ++ x ∷ [];
            left = xs;
            whole = p.whole;
            here = at_tail;
            had = have-more w found p.done head x p.had at_head;
            split = split ∙ sym (append_assoc p.done (x ∷ []) (to_list xs));
          };
          smaller =
              let few : left_at w tail ≡ count_of xs = ap (λ (o : Option Tree). option_map_or items_count o 0) at_tail in
              let many : left_at w rest ≡ 1 + count_of xs = ap (λ (o : Option Tree). option_map_or items_count o 0) here in
              omega (arith, few, many);
        }

-- a list that has no annotations
plain_list : (items anns : Trees) → anns_of (Items items anns) ≡ None → Items items anns ≡ list_of items
plain_list items none e = refl
plain_list items (more t ts) e = absurd (cc e)

pub list_here : (w : Store) (t : Term) (items anns : Trees) → tree_at w t ≡ Some (Items items anns) → part_at anns_of w t ≡ None
    → tree_at w t ≡ Some (list_of items)
list_here w t items anns e n =
    let no : anns_of (Items items anns) ≡ None = sym (ap (option_and_then anns_of) e) ∙ n in
    e ∙ ap (λ (u : Tree). Some u) (plain_list items anns no)

-- a list without annotations
pub listed : (w : Store) (t : Term) (k : Kind) (anns : Option Term) → HasKind w t k → (k ≡ kind.Nil) ⊎ (k ≡ kind.Cons) → HasAnns w t anns
    → is_some anns ≡ false → (ts : Trees) × (tree_at w t ≡ Some (list_of ts))
listed w t k (Some a) h e n bare = absurd (cc bare)
listed w t k None h (inl e) n bare = let nil : HasNil w t = subst (HasKind w t) e h in (none, list_here w t none nil.anns nil.here n)
listed w t k None h (inr e) n bare = let cons : HasCons w t = subst (HasKind w t) e h in
    (more cons.first cons.rest, list_here w t (more cons.first cons.rest) cons.anns cons.here n)

-- its elements were found
pub found_elements : (w : Store) (t : Term) (rs : List Term) → (ts : Trees) × (tree_at w t ≡ Some (list_of ts))
    → ((ts : Trees) → tree_at w t ≡ Some (list_of ts) → HaveTrees w rs (to_list ts)) → HasElements w (option_and_then elements (tree_at w t)) (Some rs)
found_elements w t rs (ts, e) h = subst (λ (o : Option Tree). HasElements w (option_and_then elements o) (Some rs)) (sym e) (h ts e)
