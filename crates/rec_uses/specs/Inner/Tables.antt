-- The texts of declarations by their words.
use Rattle.std.specs.Prelude.{ℕ, ◌≡◌, true, false, List, Option, Some, None, bytes_eq, cond}
use Rattle.std.specs.Prelude.{option_map}
use Rattle.std.specs.HashMap.{get_by}
use Rattle.rec_syntax.specs.Syntax.{Declaration, Spec}
use Rattle.rec_uses.specs.Lines.{declared_text}
use Rattle.rec_uses.specs.Uses.{Declared, Constructor, Operator, declared_in, first_named}
use Rattle.rec_uses.specs.declared.tables.Section.{Section}
use Rattle.rec_uses.specs.declared.tables.Section.TheVariants as section
use Rattle.rec_uses.specs.declared.tables.Texts.{Texts}
use Rattle.rec_uses.specs.declared.tables.Tables.{Tables}
use Rattle.rec_uses.specs.declared.uses.Role.TheVariants as role

-- text_in texts name: the text of a name
abbrev pub text_in : Texts → List ℕ → Option (List ℕ)
text_in texts name =
    option_map (λ v. v.items) (get_by (λ k. bytes_eq name k.bytes.now) texts.by_name)

-- given_first texts name text: a name gets this text, unless it has one
abbrev pub given_first : (List ℕ → Option (List ℕ)) → List ℕ → List ℕ → List ℕ → Option (List ℕ)
given_first texts name text other = elim (texts other) [
  | Some t ↦ Some t
  | None ↦ elim (bytes_eq name other) [ true ↦ Some text | false ↦ None ]
]

-- IsGiven old new name text: sets the text of one name
abbrev pub IsGiven : Texts → Texts → List ℕ → List ℕ → Type 0
IsGiven old new name text = (other : List ℕ)
    → text_in new other ≡ cond (bytes_eq name other) (Some text) (text_in old other)

-- Holds text texts ds: each name has the text of the first of these declarations
abbrev pub Holds : List ℕ → Texts → List Declared → Type 0
Holds text texts ds = (name : List ℕ)
    → text_in texts name ≡ option_map (declared_text text) (first_named ds name)

-- as_declared section d: a symbol of this section
abbrev pub as_declared : Section → Declaration → Declared
as_declared section.Constructors d = Constructor d
as_declared section.Operators d = Operator d

-- AreTables text y t: the texts of all declarations
pub record AreTables (text : List ℕ) (y : Spec) (t : Tables) : Type 0 where
  pub sorts : Holds text t.sorts (declared_in y role.Sort)
  pub names : Holds text t.names (declared_in y role.Name)
