-- A walk that visits each different node once.
use Rattle.std.proofs.Common.{refl, sym, ap, subst, ◌∙◌, arith, append-nil, length-append}
use Rattle.std.proofs.lemmas.Bool.{eqb-true}
use Rattle.std.proofs.lemmas.Cmp.{nat_eq_equiv}
use Rattle.std.proofs.lemmas.Grind.{flat_map-append}
use Rattle.std.proofs.lemmas.List.{map-append}
use Rattle.std.proofs.lemmas.List.Folds.{list_any-append}
use Rattle.std.proofs.lemmas.Map.Keys.{IsDistinct-push}
use Rattle.std.specs.Prelude.{ℕ, ◌≡◌, ◌<◌, ◌||◌, Bool, true, false, cond, not, List, [], ◌∷◌, ◌++◌, length, flat_map, nat_eq}
use Rattle.std.specs.List.{IsDistinct, list_any}
use Rattle.rx_term.specs.Tree.{Tree, Trees, Int, Appl, Items, Hole, none, more, to_list}
use Rattle.rx_term.specs.Store.{Store}
use Rattle.rx_term.specs.declared.Term.{Term}
use Rattle.rx_term.specs.Walks.{held_tree, held_trees}
use Rattle.rec_sorts.specs.TermRules.{arguments}
use Rattle.rec_sorts.specs.Walking.{AreDifferent, SameTrees, backwards, backwards_all, numbers, unstacked}
use Rattle.rec_sorts.proofs.WalkedLemmas.{backwards-node, found_turn, node_turn, unstacked-append, unstacked-to_list}

-- ---- tests

either : (a b c : Bool) → (a ≡ true → c ≡ true) → (b ≡ true → c ≡ true) → a || b ≡ true → c ≡ true
either true b c h k e = h refl
either false b c h k e = k e

or_left : (a b : Bool) → a ≡ true → a || b ≡ true
or_left true b e = refl
or_left false b e = absurd (cc e)

or_right : (a b : Bool) → b ≡ true → a || b ≡ true
or_right true b e = refl
or_right false b e = e

or_none : (a : Bool) → a || false ≡ true → a ≡ true
or_none true e = refl
or_none false e = absurd (cc e)

same_test : (a b : Bool) → (a ≡ true → b ≡ true) → (b ≡ true → a ≡ true) → a ≡ b
same_test true b h k = sym (h refl)
same_test false true h k = k refl
same_test false false h k = refl

-- ---- trees among others

-- each of the trees `ts` is one of `us`: a test that passes at one of `ts` passes at one of `us`
abbrev pub AreAmong : List Tree → List Tree → Type 0
AreAmong ts us = (p : Tree → Bool) → list_any p ts ≡ true → list_any p us ≡ true

then_among : (ts us vs : List Tree) → AreAmong ts us → AreAmong us vs → AreAmong ts vs
then_among ts us vs h k p e = k p (h p e)

among_first : (ts us : List Tree) → AreAmong ts (ts ++ us)
among_first ts us p e = list_any-append p ts us ∙ or_left (list_any p ts) (list_any p us) e

among_last : (ts us : List Tree) → AreAmong us (ts ++ us)
among_last ts us p e = list_any-append p ts us ∙ or_right (list_any p ts) (list_any p us) e

among_both : (ts us vs : List Tree) → AreAmong ts vs → AreAmong us vs → AreAmong (ts ++ us) vs
among_both ts us vs h k p e = either (list_any p ts) (list_any p us) (list_any p vs) (h p) (k p) (sym (list_any-append p ts us) ∙ e)

among_same : (ts us : List Tree) → ts ≡ us → AreAmong ts us
among_same ts us same p e = sym (ap (list_any p) same) ∙ e

-- ---- the arguments of trees

abbrev pub arguments_all : List Tree → List Tree
arguments_all ts = flat_map (λ t. to_list (arguments t)) ts

any-arguments : (p : Tree → Bool) (ts : List Tree) → list_any p (arguments_all ts) ≡ list_any (λ t. list_any p (to_list (arguments t))) ts
any-arguments p [] = refl
any-arguments p (t ∷ ts) =
    list_any-append p (to_list (arguments t)) (arguments_all ts)
    ∙ ap (λ b. list_any p (to_list (arguments t)) || b) (any-arguments p ts)

-- with each tree, `fs` has its arguments, and so its subterms
module _ (fs : List Tree) (closed : AreAmong (arguments_all fs) fs) where
  arguments-among : (t : Tree) → AreAmong (t ∷ []) fs → AreAmong (to_list (arguments t)) fs
  arguments-among t h p e =
      closed p (any-arguments p fs ∙ h (λ u. list_any p (to_list (arguments u))) (or_left (list_any p (to_list (arguments t))) false e))

  mutual
    subterms-among : (t : Tree) → AreAmong (t ∷ []) fs → AreAmong (backwards t) fs
    subterms-among (Int z anns) h = h
    subterms-among (Appl name quoted args anns) h =
        among_both (Appl name quoted args anns ∷ []) (backwards_all args) fs h (below-among args (arguments-among (Appl name quoted args anns) h))
    subterms-among (Items items anns) h = h
    subterms-among (Hole inner anns) h = h

    below-among : (ts : Trees) → AreAmong (to_list ts) fs → AreAmong (backwards_all ts) fs
    below-among none h = h
    below-among (more t ts) h =
        among_both (backwards_all ts) (backwards t) fs
        (below-among ts (λ p e. h p (or_right (p t) (list_any p (to_list ts)) e)))
        (subterms-among t (λ p e. h p (or_left (p t) (list_any p (to_list ts)) (or_none (p t) e))))

  unstacked-among : (ts : List Tree) → AreAmong ts fs → AreAmong (unstacked ts) fs
  unstacked-among [] h = h
  unstacked-among (t ∷ ts) h =
      among_both (unstacked ts) (backwards t) fs
      (unstacked-among ts (λ p e. h p (or_right (p t) (list_any p ts) e)))
      (subterms-among t (λ p e. h p (or_left (p t) (list_any p ts) (or_none (p t) e))))

-- ---- references

-- a reference that was found has one of the trees that were found
among-found : (w : Store) (r : Term) (rs : List Term) → list_any (nat_eq r.0) (numbers rs) ≡ true → AreAmong (held_tree w r ∷ []) (held_trees w rs)
among-found w r [] e p q = absurd (cc e)
among-found w r (s ∷ rs) e p q =
    either (nat_eq r.0 s.0) (list_any (nat_eq r.0) (numbers rs)) (p (held_tree w s) || list_any p (held_trees w rs))
    (λ same. or_left (p (held_tree w s)) (list_any p (held_trees w rs))
    (sym (ap (λ (n : ℕ). p (held_tree w (record { 0 = n }))) (eqb-true r.0 s.0 same)) ∙ or_none (p (held_tree w r)) q))
    (λ other. or_right (p (held_tree w s)) (list_any p (held_trees w rs)) (among-found w r rs other p q))
    e

-- a reference is new exactly if its number is not among those of what was found
pub unseen : (new old found : Bool) → new ≡ not old → old ≡ found → new ≡ true → found ≡ false
unseen new true found e same n = absurd (let no : false ≡ true = sym e ∙ n in cc no)
unseen new false found e same n = sym same

pub seen : (new old found : Bool) → new ≡ not old → old ≡ found → new ≡ false → found ≡ true
seen new true found e same n = sym same
seen new false found e same n = absurd (let no : true ≡ false = sym e ∙ n in cc no)

cond_or : (b c : Bool) → cond b true c ≡ c || (b || false)
cond_or true true = refl
cond_or true false = refl
cond_or false true = refl
cond_or false false = refl

-- one reference more was found
module _ (r : Term) (found more_found : List Term) (e : more_found ≡ found ++ r ∷ []) where
  more-numbers : numbers more_found ≡ numbers found ++ r.0 ∷ []
  more-numbers = ap numbers e ∙ map-append (λ (s : Term). s.0) found (r ∷ [])

  pub seen-more : (q : ℕ) (old new : Bool) → old ≡ list_any (nat_eq q) (numbers found) → new ≡ cond (nat_eq r.0 q) true old
      → new ≡ list_any (nat_eq q) (numbers more_found)
  seen-more q old new before now =
      now
      ∙ cond_or (nat_eq r.0 q) old
      ∙ (λ i. before i || (nat_eq_equiv.symm r.0 q i || false))
      ∙ sym (ap (list_any (nat_eq q)) more-numbers ∙ list_any-append (nat_eq q) (numbers found) (r.0 ∷ []))

  pub different-more : AreDifferent found → list_any (nat_eq r.0) (numbers found) ≡ false → AreDifferent more_found
  different-more d n = subst (IsDistinct nat_eq) (sym more-numbers) (IsDistinct-push nat_eq_equiv (numbers found) r.0 d n)

-- ---- a turn of the walk

-- what was found, and the stack, are subterms of the first stack; its trees and the arguments of
-- what was found are found or on the stack
pub record Visits (w : Store) (start found stack : List Term) : Type 0 where
  pub sound : AreAmong (held_trees w found ++ unstacked (held_trees w stack)) (unstacked (held_trees w start))
  pub complete : AreAmong (held_trees w start ++ arguments_all (held_trees w found)) (held_trees w found ++ held_trees w stack)

pub visits-begin : (w : Store) (start : List Term) → Visits w start [] start
visits-begin w start = record {
  sound = λ p e. e;
  complete = among_same (held_trees w start ++ []) (held_trees w start) (append-nil (held_trees w start));
}

module _ (w : Store) (start found stack rest : List Term) (r : Term) (popped : stack ≡ rest ++ r ∷ []) where
  stack-trees : held_trees w stack ≡ held_trees w rest ++ held_tree w r ∷ []
  stack-trees = ap (held_trees w) popped ∙ map-append (held_tree w) rest (r ∷ [])

  stack-subterms : unstacked (held_trees w stack) ≡ backwards (held_tree w r) ++ unstacked (held_trees w rest)
  stack-subterms = ap unstacked stack-trees ∙ unstacked-append (held_trees w rest) (held_tree w r ∷ [])

  -- without its top, which has a subterm, the stack has fewer
  pub skipped-less : length (unstacked (held_trees w rest)) < length (unstacked (held_trees w stack))
  skipped-less =
      let e : unstacked (held_trees w stack) ≡ (held_tree w r ∷ backwards_all (arguments (held_tree w r))) ++ unstacked (held_trees w rest) =
      stack-subterms ∙ ap (λ ts. ts ++ unstacked (held_trees w rest)) (backwards-node (held_tree w r)) in
      let n = ap length e in
      let m = length-append (backwards_all (arguments (held_tree w r))) (unstacked (held_trees w rest)) in
      omega (arith, n, m)

  -- a node that was found is skipped
  pub visits-skip : list_any (nat_eq r.0) (numbers found) ≡ true → Visits w start found stack → Visits w start found rest
  visits-skip seen v =
      let fs : List Tree = held_trees w found in
      let before : List Tree = held_trees w rest in
      record {
        sound = λ p e. v.sound p (among_both fs (unstacked before) (fs ++ unstacked (held_trees w stack))
            (among_first fs (unstacked (held_trees w stack)))
            (λ q d. among_last fs (unstacked (held_trees w stack)) q
            (ap (list_any q) stack-subterms ∙ among_last (backwards (held_tree w r)) (unstacked before) q d))
            p e);
        complete = λ p e. among_both fs (before ++ held_tree w r ∷ []) (fs ++ before)
            (among_first fs before)
            (among_both before (held_tree w r ∷ []) (fs ++ before) (among_last fs before)
            (then_among (held_tree w r ∷ []) fs (fs ++ before) (among-found w r found seen) (among_first fs before)))
            p (sym (ap (λ ts. list_any p (fs ++ ts)) stack-trees) ∙ v.complete p e);
      }

  -- another node is found, and its arguments take its place
  pub visits-find : (more_found grown : List Term) → more_found ≡ found ++ r ∷ []
      → held_trees w grown ≡ held_trees w rest ++ to_list (arguments (held_tree w r)) → Visits w start found stack → Visits w start more_found grown
  visits-find more_found grown e pushed v =
      let fs : List Tree = held_trees w found in
      let t : Tree = held_tree w r in
      let before : List Tree = held_trees w rest in
      let new : List Tree = held_trees w more_found ++ held_trees w grown in
      let found-trees : held_trees w more_found ≡ fs ++ t ∷ [] = ap (held_trees w) e ∙ map-append (held_tree w) found (r ∷ []) in
      let new-trees : new ≡ (fs ++ t ∷ []) ++ (before ++ to_list (arguments t)) = (λ i. found-trees i ++ pushed i) in
      let found-arguments : arguments_all (held_trees w more_found) ≡ arguments_all fs ++ (to_list (arguments t) ++ []) =
      ap arguments_all found-trees ∙ flat_map-append (λ u. to_list (arguments u)) fs (t ∷ []) in
      let is-new : AreAmong ((fs ++ t ∷ []) ++ (before ++ to_list (arguments t))) new = among_same ((fs ++ t ∷ []) ++ (before ++ to_list (arguments t))) new (sym new-trees) in
      let first : AreAmong (fs ++ t ∷ []) new = (λ p d. is-new p (among_first (fs ++ t ∷ []) (before ++ to_list (arguments t)) p d)) in
      let last : AreAmong (before ++ to_list (arguments t)) new = (λ p d. is-new p (among_last (fs ++ t ∷ []) (before ++ to_list (arguments t)) p d)) in
      let kept : AreAmong (fs ++ (before ++ t ∷ [])) new = among_both fs (before ++ t ∷ []) new
      (λ p d. first p (among_first fs (t ∷ []) p d))
      (among_both before (t ∷ []) new
      (λ p d. last p (among_first before (to_list (arguments t)) p d))
      (λ p d. first p (among_last fs (t ∷ []) p d))) in
      let old : AreAmong (held_trees w start ++ arguments_all fs) new =
      (λ p d. kept p (sym (ap (λ ts. list_any p (fs ++ ts)) stack-trees) ∙ v.complete p d)) in
      let added : AreAmong (to_list (arguments t) ++ []) new =
      (λ p d. last p (among_last before (to_list (arguments t)) p (sym (ap (list_any p) (append-nil (to_list (arguments t)))) ∙ d))) in
      let same : held_trees w more_found ++ unstacked (held_trees w grown) ≡ fs ++ unstacked (held_trees w stack) =
      found_turn w found more_found stack grown r (fs ++ unstacked (held_trees w stack)) e (node_turn w stack rest grown r popped pushed) refl in
      record {
        sound = λ p d. v.sound p (sym (ap (list_any p) same) ∙ d);
        complete = λ p d. among_both (held_trees w start) (arguments_all fs ++ (to_list (arguments t) ++ [])) new
            (λ q a. old q (among_first (held_trees w start) (arguments_all fs) q a))
            (among_both (arguments_all fs) (to_list (arguments t) ++ []) new
            (λ q a. old q (among_last (held_trees w start) (arguments_all fs) q a)) added)
            p (sym (ap (λ ts. list_any p (held_trees w start ++ ts)) found-arguments) ∙ d);
      }

-- with nothing on the stack, all is found
pub visits-end : (w : Store) (start found stack : List Term) → stack ≡ [] → Visits w start found stack
    → SameTrees (held_trees w found) (unstacked (held_trees w start))
visits-end w start found stack none-left v p =
    let fs : List Tree = held_trees w found in
    let us : List Tree = held_trees w start in
    let all : AreAmong (us ++ arguments_all fs) fs =
    (λ q e. sym (ap (list_any q) (append-nil fs)) ∙ (sym (ap (λ rs. list_any q (fs ++ held_trees w rs)) none-left) ∙ v.complete q e)) in
    same_test (list_any p fs) (list_any p (unstacked us))
    (λ e. v.sound p (among_first fs (unstacked (held_trees w stack)) p e))
    (unstacked-among fs (λ q e. all q (among_last us (arguments_all fs) q e)) us (λ q e. all q (among_first us (arguments_all fs) q e)) p)

-- ---- terms and their arguments

turned : (a b c d : Bool) → (a || b) || (c || d) ≡ (c || a) || (b || d)
turned a b true d = or_right (a || b) true refl
turned true b false d = refl
turned false true false d = refl
turned false false false d = refl

-- the subterms of terms are these terms and the subterms of their arguments
any-terms : (p : Tree → Bool) (ts : List Tree) → list_any p (unstacked ts) ≡ list_any p ts || list_any p (unstacked (arguments_all ts))
any-terms p [] = refl
any-terms p (t ∷ ts) =
    let above = any-terms p ts in
    let node = ap (list_any p) (backwards-node t ∙ ap (λ us. t ∷ us) (sym (unstacked-to_list (arguments t)))) in
    let below = ap (list_any p) (unstacked-append (to_list (arguments t)) (arguments_all ts))
    ∙ list_any-append p (unstacked (arguments_all ts)) (unstacked (to_list (arguments t))) in
    list_any-append p (unstacked ts) (backwards t)
    ∙ (λ i. above i || node i)
    ∙ turned (list_any p ts) (list_any p (unstacked (arguments_all ts))) (p t) (list_any p (unstacked (to_list (arguments t))))
    ∙ ap (λ b. (p t || list_any p ts) || b) (sym below)

pub all-nodes : (w : Store) (terms inner all : List Term) → all ≡ terms ++ inner
    → SameTrees (held_trees w inner) (unstacked (arguments_all (held_trees w terms)))
    → SameTrees (held_trees w all) (unstacked (held_trees w terms))
all-nodes w terms inner all e same p =
    ap (λ rs. list_any p (held_trees w rs)) e
    ∙ ap (list_any p) (map-append (held_tree w) terms inner)
    ∙ list_any-append p (held_trees w terms) (held_trees w inner)
    ∙ ap (λ b. list_any p (held_trees w terms) || b) (same p)
    ∙ sym (any-terms p (held_trees w terms))
