-- The values of a rule's variables in the order in which these first occur.
use Rattle.std.proofs.Common.{refl, sym, ap, subst, ◌∙◌, length, reverse}
use Rattle.std.specs.Prelude.{ℕ, ◌≡◌, ◌<◌, false, List, [], ◌∷◌, Some, None, All, map}
use Rattle.std.proofs.lemmas.List.{length-map, reverse-reverse}
use Rattle.rx_term.specs.Tree.{Tree}
use Rattle.rx_term.specs.Store.{Store}
use Rattle.rx_term.specs.declared.Term.{Term}
use Rattle.rx_term.specs.declared.Symbol as bank
use Rattle.rx_term.specs.Walks.{held_tree, held_trees}
use Rattle.rec_syntax.specs.Syntax.{Spec, Rule, Apply}
use Rattle.rec_syntax.specs.Syntax as X
use Rattle.rec_sorts.specs.Lookup.{symbols, count, is_variable}
use Rattle.rec_sorts.specs.SpecRules.{fault}
use Rattle.rec_sorts.specs.Binding.{Substitution, Bound, value_of, binds}
use Rattle.rec_sorts.specs.Numbering.{named, named_all, named_by, name_of, IsMeaning}
use Rattle.rec_sorts.specs.declared.letters.Letter.{Letter}
use Rattle.rec_sorts.specs.declared.letters.Meaning.TheVariants.{Symbol, Variable}
use Rattle.rec_match.specs.Matching.{IsSide, SameValues, paired, symbol_at, variables_at}
use Rattle.rec_match.specs.Ordered.{keys, names_in, numbers_in}
use Rattle.rec_match.specs.Rows.{values_of}
use Rattle.rec_match.specs.declared.matcher.Matcher.{Matcher}
use Rattle.rec_match.proofs.FactLemmas.{AreBare, facts}
use Rattle.rec_match.proofs.KeyLemmas.{IsKeyed, binds-keys, names_in-append, last-name, numbers-names}
use Rattle.rec_match.proofs.LetterLemmas.{all-reverse}

-- a left-hand side binds the variables of its items in the order in which they first occur
pub left-keys : (y : Spec) → fault y ≡ None → (letters : List Letter) → All (λ l. IsMeaning y l.meaning) letters → (l : X.Term) (k : ℕ)
    → k < length (symbols y) → (X.head l).bytes ≡ name_of y (Symbol k) → map (named_by y) letters ≡ named_all (X.arguments l) → AreBare y (named l)
    → (u : Tree) (s : Substitution) → binds y l u ≡ Some s → IsKeyed s × (keys s ≡ map (λ v. name_of y (Variable v)) (numbers_in [] letters))
left-keys y kept letters meant (Apply x ts) k lt e front bare u s binding =
    let keyed = binds-keys y (Apply x ts) u s bare binding in
    let own : is_variable y x.bytes ≡ false = ap (is_variable y) e ∙ (facts y kept).symbol_is_none k lt in (
      keyed.0,
      keyed.1 ∙ names_in-append y [] (named_all ts) (record { name = x.bytes; arguments = count ts } ∷ [])
          ∙ last-name y (names_in y [] (named_all ts)) (record { name = x.bytes; arguments = count ts }) false own
          ∙ ap (names_in y []) (sym front) ∙ sym (numbers-names y kept [] letters tt meant),
    )

-- variables with the values of a substitution that names them in this order are the substitution
paired-values : (y : Spec) (vs : List ℕ) (s : Substitution) → keys s ≡ map (λ v. name_of y (Variable v)) vs → paired y vs (values_of s) ≡ s
paired-values y [] [] e = refl
paired-values y [] (b ∷ s) e = absurd (cc e)
paired-values y (v ∷ vs) [] e = absurd (cc e)
paired-values y (v ∷ vs) (b ∷ s) e =
    ap (λ n. let c : Bound = record { name = n; value = b.value } in c ∷ paired y vs (values_of s))
    (first-is b.name (name_of y (Variable v)) (keys s) (map (λ v. name_of y (Variable v)) vs) e)
    ∙ ap (λ r. b ∷ r) (paired-values y vs s (rest-is b.name (name_of y (Variable v)) (keys s) (map (λ v. name_of y (Variable v)) vs) e))
  where
    first-is : (a b : List ℕ) (xs ys : List (List ℕ)) → a ∷ xs ≡ b ∷ ys → b ≡ a
    first-is a b xs ys e = cc e

    rest-is : (a b : List ℕ) (xs ys : List (List ℕ)) → a ∷ xs ≡ b ∷ ys → xs ≡ ys
    rest-is a b xs ys e = cc e

-- the items of a left-hand side
pub side-meant : (y : Spec) (ss : List bank.Symbol) (m : Matcher) (i : ℕ) (r : Rule) (side : IsSide y ss m i r) → All (λ l. IsMeaning y l.meaning) side.letters
side-meant y ss m i r side = subst (λ ls. All (λ l. IsMeaning y l.meaning) ls) (reverse-reverse side.letters)
    (all-reverse (λ (l : Letter). IsMeaning y l.meaning) (reverse side.letters) side.meant)

-- what a left-hand side binds, with values in the order in which its variables first occur
pub record Paired (y : Spec) (w : Store) (m : Matcher) (i : ℕ) (bind : List Term) (s : Substitution) : Type 0 where
  pub same : SameValues (paired y (variables_at m i) (held_trees w bind)) s
  pub counted : length bind ≡ length (variables_at m i)

pub side-paired : (y : Spec) → fault y ≡ None → (ss : List bank.Symbol) (w : Store) (m : Matcher) (i : ℕ) (r : Rule) → IsSide y ss m i r
    → AreBare y (named r.left) → (u : Tree) (s : Substitution) → binds y r.left u ≡ Some s → (bind : List Term) → held_trees w bind ≡ values_of s
    → Paired y w m i bind s
side-paired y kept ss w m i r side bare u s binding bind bound =
    let names : keys s ≡ map (λ v. name_of y (Variable v)) (variables_at m i) =
    (left-keys y kept side.letters (side-meant y ss m i r side) r.left (symbol_at m i) side.declared side.head side.named bare u s binding).1
    ∙ ap (map (λ v. name_of y (Variable v))) (sym side.variables) in
    record {
      same = λ name. ap (λ r. value_of r name) (ap (paired y (variables_at m i)) bound ∙ paired-values y (variables_at m i) s names);
      counted = sym (length-map bind (held_tree w)) ∙ ap length bound ∙ length-map s (λ b. b.value) ∙ sym (length-map s (λ b. b.name))
          ∙ ap length names ∙ length-map (variables_at m i) (λ v. name_of y (Variable v));
    }
