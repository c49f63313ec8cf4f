-- The trees of symbols, one symbol after the other.
use Rattle.std.proofs.Common.{refl, sym, ap, subst, arith, ◌∙◌, inl, inr}
use Rattle.std.proofs.lemmas.Bool.{cases_eq}
use Rattle.std.proofs.lemmas.List.{length-append, length-map}
use Rattle.std.specs.Prelude.{ℕ, zero, suc, ◌+◌, ◌<◌, ◌≡◌, ◌≢◌, ◌⊎◌, List, [], ◌∷◌, ◌++◌, None, length, map, get_or}
use Rattle.rx_term.specs.declared.Symbol as bank
use Rattle.rec_syntax.specs.Syntax.{Spec}
use Rattle.rec_sorts.specs.Laws.{Every}
use Rattle.rec_sorts.specs.Linked.{AllDiffer}
use Rattle.rec_sorts.specs.Lookup.{symbols, is_variable}
use Rattle.rec_sorts.specs.Numbering.{name_of, arity_of}
use Rattle.rec_sorts.specs.SpecRules.{fault}
use Rattle.rec_sorts.specs.declared.letters.Meaning.TheVariants.{Symbol}
use Rattle.rec_match.specs.Inner.Built.{AreHeads}
use Rattle.rec_match.specs.Forests.{IsForest}
use Rattle.rec_match.specs.Inner.Growing.{State, Grows, StandFor, Extends}
use Rattle.rec_match.specs.Inner.Paths.{TreesGoOn}
use Rattle.rec_match.specs.Rows.{Row}
use Rattle.rec_match.specs.Inner.Running.{root_rows, IsHeaded}
use Rattle.rec_match.specs.Inner.Tasks.{AreApart, Growing, Waits}
use Rattle.rec_match.specs.Matching.{numbers_of}
use Rattle.rec_match.specs.declared.forest.Forest.{Forest}
use Rattle.rec_match.specs.declared.forest.Node.{Node}
use Rattle.rec_match.specs.declared.forest.Node.TheVariants.{Fail}
use Rattle.rec_match.specs.declared.parts.Parts.{Parts}
use Rattle.rec_match.proofs.ExtensionLemmas.{extends_same, grows_later, stand_later}
use Rattle.rec_match.proofs.FactLemmas.{facts}
use Rattle.rec_match.proofs.GrowthLemmas.{grown_forest}
use Rattle.rec_match.proofs.ItemLemmas.{get-front, get-last}
use Rattle.rec_match.proofs.RootRowLemmas.{no_rule}

-- the rows of all rules of a symbol
abbrev pub whole_rows : Spec → ℕ → List Row
whole_rows y k = root_rows (name_of y (Symbol k)) (arity_of y k) 0 y.rules

-- the first symbols have trees
pub record HaveTrees (y : Spec) (ns : List ℕ) (ps : Parts) (f : Forest) (roots : List (List ℕ)) (n : ℕ) : Type 0 where
  pub states : ℕ → State
  pub growing : Growing y ns ps f [] states
  pub some : 0 < length f.nodes.items
  pub counted : length roots ≡ n
  pub stand : (k : ℕ) → k < n → StandFor f states (arity_of y k) (get_or roots k []) (whole_rows y k)

-- one node, to which nothing leads
pub trees_none : (y : Spec) (ns : List ℕ) (ps : Parts) (f : Forest) (roots : List (List ℕ)) → f.nodes.items ≡ Fail ∷ [] → roots ≡ []
    → HaveTrees y ns ps f roots 0
trees_none y ns ps f roots e none = record {
  states = λ n. record { width = 0; rows = [] };
  growing = record { tasks = tt; nodes = λ n lt. inr (by n (get_or f.nodes.items n Fail) (ap (λ xs. get_or xs n Fail) e ∙ fail n)) };
  some = (let l = ap length e in omega (arith, l));
  counted = ap length none;
  stand = λ k lt. absurd (let bad : ⊥ = omega (arith, lt) in bad);
}
  where
    fail : (n : ℕ) → get_or (Fail ∷ []) n Fail ≡ Fail
    fail zero = refl
    fail (suc n) = refl

    by : (n : ℕ) (node : Node) → node ≡ Fail → Grows y ns f (λ n. record { width = 0; rows = [] }) n node
    by n node q = subst (Grows y ns f (λ n. record { width = 0; rows = [] }) n) (sym q) refl

-- one symbol more
pub trees_more : (y : Spec) (ns : List ℕ) (ps : Parts) (f g : Forest) (roots roots' : List (List ℕ)) (n : ℕ) (own : List ℕ)
    → (h : HaveTrees y ns ps f roots n) → TreesGoOn y ns ps f h.states (arity_of y n) (whole_rows y n) g own → roots' ≡ roots ++ own ∷ []
    → HaveTrees y ns ps g roots' (n + 1)
trees_more y ns ps f g roots roots' n own h t e = record {
  states = t.goes.states;
  growing = t.goes.growing;
  some = (let a = h.some in let b = t.goes.extends.nodes in omega (arith, a, b));
  counted = (let l = ap length e ∙ length-append roots (own ∷ []) in let c = h.counted in omega (arith, l, c));
  stand = λ k lt. by k lt (cases_eq k n);
}
  where
    by : (k : ℕ) → k < n + 1 → (k ≡ n) ⊎ (k ≢ n) → StandFor g t.goes.states (arity_of y k) (get_or roots' k []) (whole_rows y k)
    by k lt (inl is) =
        let at : get_or roots' k [] ≡ own = ap (λ xs. get_or xs k []) e ∙ get-last roots own k [] (is ∙ sym h.counted) in
        subst (λ rs. StandFor g t.goes.states (arity_of y k) rs (whole_rows y k)) (sym at)
        (subst (λ j. StandFor g t.goes.states (arity_of y j) own (whole_rows y j)) (sym is) t.stand)
    by k lt (inr ne) =
        let below : k < n = omega (arith, lt, ne) in
        let c = h.counted in
        let at : get_or roots' k [] ≡ get_or roots k [] = ap (λ xs. get_or xs k []) e ∙ get-front roots own k [] (omega (arith, below, c)) in
        subst (λ rs. StandFor g t.goes.states (arity_of y k) rs (whole_rows y k)) (sym at)
        (stand_later y ns f g h.states t.goes.states t.goes.extends (arity_of y k) (get_or roots k []) (whole_rows y k) (h.stand k below))

-- what holds at each place holds of each element
every_from : {X : Type 0} (P : X → Type 0) (d : X) (xs : List X) → ((i : ℕ) → i < length xs → P (get_or xs i d)) → Every P xs
every_from P d [] h = tt
every_from P d (x ∷ xs) h = (h 0 (omega arith), every_from P d xs (λ i lt. h (suc i) (omega (arith, lt))))

headed : (y : Spec) → fault y ≡ None → (hs : List ℕ) → AreHeads y hs → Every (IsHeaded y) y.rules
headed y kept hs heads =
    every_from (IsHeaded y) no_rule y.rules (λ i lt. (let h = heads.each i no_rule lt in
    ap (is_variable y) h.head ∙ (facts y kept).symbol_is_none (get_or hs i 0) h.declared))

-- all symbols have trees
pub trees_done : (y : Spec) → fault y ≡ None → (ns : List ℕ) (ps : Parts) (f g : Forest) (roots : List (List ℕ)) (hs : List ℕ) (n : ℕ) → AreHeads y hs
    → HaveTrees y ns ps f roots n → n ≡ length (symbols y)
    → g.nodes.items ≡ f.nodes.items → g.places.items ≡ f.places.items → g.children.items ≡ f.children.items → map (λ v. v.items) g.roots.items ≡ roots
    → IsForest y ns g
trees_done y kept ns ps f g roots hs n heads h e nodes places children is = grown_forest y ns g (record {
  headed = headed y kept hs heads;
  states = h.states;
  nodes = λ m lt. (let l = ap length nodes in let below : m < length f.nodes.items = omega (arith, lt, l) in
      subst (Grows y ns g h.states m) (sym (ap (λ xs. get_or xs m Fail) nodes))
      (grows_later y ns f g h.states h.states same m (get_or f.nodes.items m Fail) below (grown m (h.growing.nodes m below))));
  counted = sym (length-map g.roots.items (λ v. v.items)) ∙ ap length is ∙ h.counted ∙ e;
  roots = λ k lt. subst (λ xs. StandFor g h.states (arity_of y k) (get_or xs k []) (whole_rows y k)) (sym is)
      (stand_later y ns f g h.states h.states same (arity_of y k) (get_or roots k []) (whole_rows y k) (h.stand k (omega (arith, lt, e))));
})
  where
    same : Extends f h.states g h.states
    same = extends_same f g h.states (sym (ap length nodes)) places children

    grown : (m : ℕ) → Waits [] m ⊎ Grows y ns f h.states m (get_or f.nodes.items m Fail) → Grows y ns f h.states m (get_or f.nodes.items m Fail)
    grown m (inl w) = absurd w
    grown m (inr r) = r

abbrev no_symbol : bank.Symbol
no_symbol = record { 0 = 0 }

number_of : (ss : List bank.Symbol) (i : ℕ) → get_or (numbers_of ss) i 0 ≡ (get_or ss i no_symbol).0
number_of [] i = refl
number_of (s ∷ ss) zero = refl
number_of (s ∷ ss) (suc i) = number_of ss i

-- symbols that differ have numbers that do
pub numbers_apart : (y : Spec) (ss : List bank.Symbol) → AllDiffer ss → length ss ≡ length (symbols y) → AreApart y (numbers_of ss)
numbers_apart y ss differ e i j lti ltj same = differ i j no_symbol (omega (arith, lti, e)) (omega (arith, ltj, e))
    (ap (λ (n : ℕ). (let s : bank.Symbol = record { 0 = n } in s)) (sym (number_of ss i) ∙ same ∙ number_of ss j))
