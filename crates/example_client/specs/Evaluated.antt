-- The results of reading a specification and of evaluating a term.
use Rattle.std.specs.Prelude.{ℕ, ◌≡◌, List, [], Option, Some, None, option_map}
use Rattle.rx_term.specs.Tree.{Tree, annotations, annotated}
use Rattle.rx_term.specs.Store.{Store, tree_at}
use Rattle.rx_term.specs.declared.Term.{Term}
use Rattle.rx_text.specs.Canon.{canon}
use Rattle.rec_syntax.specs.Syntax.{Spec}
use Rattle.rec_syntax.specs.declared.fault.SyntaxFault.TheVariants as syntax
use Rattle.rec_sorts.specs.SpecRules as verdict
use Rattle.rec_sorts.specs.SpecRules.{SpecVerdict}
use Rattle.rec_sorts.specs.Evaluation.{Done, Over, Eval, term_of}
use Rattle.rec_sorts.specs.declared.fault.SortFault.TheVariants as sort
use Rattle.example_client.specs.declared.faults.WorkFault.{WorkFault}
use Rattle.example_client.specs.declared.faults.WorkFault.TheVariants.{Syntax, Rules}

-- IsRefused bytes fault: the error is the verdict on the text, or out of memory
abbrev pub IsRefused : List ℕ → WorkFault → Type 0
IsRefused bytes (Syntax syntax.Long) = SpecVerdict bytes verdict.Long
IsRefused bytes (Syntax (syntax.Grammar at)) = SpecVerdict bytes (verdict.Grammar at)
IsRefused bytes (Syntax syntax.Memory) = Unit {0}
IsRefused bytes (Rules (sort.Rule number at)) = SpecVerdict bytes
    (verdict.Breaks (record { number = number; at = at }))
IsRefused bytes (Rules sort.Memory) = Unit {0}
IsRefused bytes fault = ⊥

-- value_within y n u: the normal form of a tree, with the tree's annotations; none if the
-- evaluation takes more than `n` steps
abbrev pub value_within : Spec → ℕ → Tree → Option Tree
value_within y n u = elim (Eval y n [] (term_of u)) [
  | Done v left ↦ Some (annotated v (annotations u))
  | Over ↦ None
]

-- value_text y n u: the printed text of this normal form
abbrev pub value_text : Spec → ℕ → Tree → Option (List ℕ)
value_text y n u = option_map canon (value_within y n u)

-- IsHeld w r v: a reference of the tree, or no reference if there is no tree
abbrev pub IsHeld : Store → Option Term → Option Tree → Type 0
IsHeld w (Some r) (Some v) = tree_at w r ≡ Some v
IsHeld w None None = Unit {0}
IsHeld w _ _ = ⊥
