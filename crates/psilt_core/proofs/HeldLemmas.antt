-- What the field of a held box owns, as the machine has it: nothing but its value. Assumes `Logic`.
use Rattle.std.proofs.Common.{◌≡◌, List, [], ◌∷◌, refl}
use seplogic.Ra.Ura.{Ura}
use mir.Val.{Val, vstruct, vcons, vnil}
use base.Logic.{ent, emp}
use base.Fml.{Fml}
use types.Logic.{Logic, sem}
use denote.Laws.{Is}
use denote.RawPtr.{Ptr, ptr_val}
use denote.Struct.Laws.{makes}
use Rattle.psilt_core.specs.contracts.held.Held.TheFields as held
use Rattle.psilt_core.proofs.held.Held.TheFields.TheLaws as held_laws

-- a held box, as the machine has it
abbrev pub held_val : Ptr → Val
held_val p = vstruct (vcons (ptr_val p) vnil)

-- what its field owns
abbrev pub held_field : Ptr → Fml
held_field p = held.the_row.own_val (record { at = p }) (held_val p ∷ [])

pub held_known : (p : Ptr) (vs : List Val) → Is held.the_row (record { at = p }) vs → vs ≡ held_val p ∷ []
held_known p = held_laws.lowers.val_is (record { at = p })

module _ {M : Type 1} {𝓤 : Ura M} (𝓛 : Logic 𝓤) where
  pub held_filled : (p : Ptr) → ent 𝓤 (emp 𝓤) (sem 𝓛 (held_field p))
  held_filled p = makes held.the_type held_laws.the_plain 𝓛 (record { at = p }) (held_val p ∷ []) ((ptr_val p ∷ [], tt), (refl, (refl, tt)))
