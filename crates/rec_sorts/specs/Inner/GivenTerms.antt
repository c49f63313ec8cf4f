-- Input terms, seen by the numbers of the declarations.
use Rattle.std.specs.Prelude.{ℕ, Bool, true, false, not, ◌&&◌, ◌||◌, List, [], ◌∷◌, Option, Some}
use Rattle.std.specs.Prelude.{None, flat_map, length, nat_eq, is_some, is_none, unwrap_or}
use Rattle.std.specs.Bool.{beq}
use Rattle.std.specs.List.{list_any}
use Rattle.std.specs.Option.{option_eq}
use Rattle.rx_term.specs.Tree.{Tree, Trees, Appl, more, count_of, to_list}
use Rattle.rx_term.specs.Name.{plain_name}
use Rattle.rec_sorts.specs.TermRules.{arguments, is_no_application, is_annotated, first_passed}
use Rattle.rec_sorts.specs.Scope.{meaning_of, sort_at, arguments_at}
use Rattle.rec_sorts.specs.Walking.{unstacked}
use Rattle.rec_sorts.specs.declared.letters.Letter.{Letter}
use Rattle.rec_sorts.specs.declared.letters.Meaning.{Meaning}
use Rattle.rec_sorts.specs.declared.letters.Meaning.TheVariants.{Symbol}
use Rattle.rec_sorts.specs.declared.scope.Scope.{Scope}

-- symbol_alone m: the symbol; none for a variable
abbrev pub symbol_alone : Option Meaning → Option Meaning
symbol_alone (Some (Symbol k)) = Some (Symbol k)
symbol_alone m = None

-- symbol_at s t: the declared symbol with the name and quoted flag of a tree
abbrev pub symbol_at : Scope → Tree → Option Meaning
symbol_at s (Appl name quoted args anns) = elim (beq quoted (not (plain_name name))) [
  | true ↦ symbol_alone (meaning_of s name)
  | false ↦ None
]
symbol_at s t = None

-- is_nameless s t: a tree has no declared symbol
abbrev pub is_nameless : Scope → Tree → Bool
is_nameless s t = is_none (symbol_at s t)

-- is_misfilled s t: a tree with a declared symbol has the wrong number of arguments
abbrev pub is_misfilled : Scope → Tree → Bool
is_misfilled s t = is_some (symbol_at s t)
    && not (nat_eq (count_of (arguments t)) (length (arguments_at s (symbol_at s t))))

-- are_misfits s sorts ts: one of the trees has another sort than the one for its position
abbrev pub are_misfits : Scope → List (Option ℕ) → Trees → Bool
are_misfits s (sort ∷ sorts) (more t ts) = not (option_eq nat_eq (sort_at s (symbol_at s t)) sort)
    || are_misfits s sorts ts
are_misfits s _ _ = false

-- has_misfit s t: an argument of a tree has another sort than the one for its position
abbrev pub has_misfit : Scope → Tree → Bool
has_misfit s t = are_misfits s (arguments_at s (symbol_at s t)) (arguments t)

-- node_letter s t: the postfix item of a tree
abbrev pub node_letter : Scope → Tree → Letter
node_letter s t =
    record { meaning = unwrap_or (symbol_at s t) (Symbol 0); count = count_of (arguments t) }

-- broken_by_nodes s all inner: the lowest-numbered of the rules T2 to T6 that these trees violate;
-- those in `inner` must not have annotations
abbrev pub broken_by_nodes : Scope → List Tree → List Tree → Option ℕ
broken_by_nodes s all inner =
    first_passed 2
    (list_any is_no_application all
    ∷ list_any is_annotated inner
    ∷ list_any (is_nameless s) all
    ∷ list_any (is_misfilled s) all
    ∷ list_any (has_misfit s) all
    ∷ [])

-- broken_by_all s ts: the lowest-numbered of the rules T2 to T6 that input terms violate
abbrev pub broken_by_all : Scope → List Tree → Option ℕ
broken_by_all s ts = broken_by_nodes s (unstacked ts)
    (unstacked (flat_map (λ u. to_list (arguments u)) ts))

-- broken_alone s t: the lowest-numbered of the rules T2 to T6 that an input term violates on its
-- own
abbrev pub broken_alone : Scope → Tree → Option ℕ
broken_alone s t = broken_by_all s (t ∷ [])

-- is_broken_alone s number t: `number` is the lowest-numbered rule that `t` violates on its own
abbrev pub is_broken_alone : Scope → ℕ → Tree → Bool
is_broken_alone s number t = option_eq nat_eq (broken_alone s t) (Some number)
