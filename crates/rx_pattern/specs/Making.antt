-- Making the tree of nodes from trees for the placeholders.
use Rattle.std.specs.Prelude.{◌≡◌, Bool, true, false, List, [], ◌∷◌, ◌++◌, length, Option, Some}
use Rattle.std.specs.Prelude.{None}
use Rattle.rx_term.specs.Name.{IsAllowed}
use Rattle.rx_term.specs.Tree.{Tree}
use Rattle.rx_pattern.specs.Pattern.{fits}
use Rattle.rx_pattern.specs.Filling as filling
use Rattle.rx_pattern.specs.Filling.{Blank, misfit, takes}
use Rattle.rx_pattern.specs.Code.{Step, Number, Named, Listing, Holding, End, Item, Rest, Piece}
use Rattle.rx_pattern.specs.Code.{One, Several}
use Rattle.rx_pattern.specs.declared.faults.MakeFault.{MakeFault}
use Rattle.rx_pattern.specs.declared.faults.MakeFault.TheVariants.{Count, Kind, Memory, Full}

-- is_blank s: the step takes a tree
abbrev pub is_blank : Step → Bool
is_blank (Holding (Some kind)) = true
is_blank Rest = true
is_blank s = false

-- takes_as s t: the tree fits the step, if it takes one
abbrev pub takes_as : Step → Tree → Bool
takes_as (Holding (Some kind)) t = fits kind t
takes_as Rest t = takes filling.Rest t
takes_as s t = true

-- blanks_of_step s: the blank of a step, if it has one
abbrev pub blanks_of_step : Step → List Blank
blanks_of_step (Holding (Some kind)) = filling.One kind ∷ []
blanks_of_step Rest = filling.Rest ∷ []
blanks_of_step s = []

-- blanks_of_steps steps: the blanks of steps, in order
abbrev pub blanks_of_steps : List Step → List Blank
blanks_of_steps [] = []
blanks_of_steps (s ∷ steps) = blanks_of_step s ++ blanks_of_steps steps

-- IsMisfit r blanks bs: `r` is the reason why the trees do not fit the blanks; none if they fit
abbrev pub IsMisfit : Option MakeFault → List Blank → List Tree → Type 0
IsMisfit None blanks bs = (length bs ≡ length blanks) × (misfit blanks bs ≡ None)
IsMisfit (Some Count) blanks bs = length bs ≡ length blanks → ⊥
IsMisfit (Some (Kind at)) blanks bs = (length bs ≡ length blanks) × (misfit blanks bs ≡ Some at)
IsMisfit (Some Memory) blanks bs = ⊥
IsMisfit (Some Full) blanks bs = ⊥

-- HasParts s ps: the step is not a blank, and the pieces that it needs are there
abbrev pub HasParts : Step → List Piece → Type 0
HasParts (Number z) (Several anns ∷ ps) = Unit {0}
HasParts (Named name quoted) (Several args ∷ Several anns ∷ ps) = Unit {0}
HasParts Listing (Several items ∷ Several anns ∷ ps) = Unit {0}
HasParts End ps = Unit {0}
HasParts Item (One t ∷ Several ts ∷ ps) = Unit {0}
HasParts s ps = ⊥

-- IsValid s: the name of the step may be a symbol's
abbrev pub IsValid : Step → Type 0
IsValid (Named name quoted) = IsAllowed name quoted
IsValid s = Unit {0}
