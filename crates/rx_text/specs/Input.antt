-- A reader that is not used again after it has failed.
use Rattle.std.specs.Prelude.{◌≡◌, ◌||◌, ℕ, true, false, List, Option, Result, is_err}
use Rattle.rx_text.specs.declared.input.Input.{Input}

module _ {R : Type 0} where
  -- remaining_in remaining i: the bytes that the reader has left, if they are known
  abbrev pub remaining_in : (R → Option (List ℕ)) → Input R → Option (List ℕ)
  remaining_in remaining i = remaining i.reader.now

  -- IsReadable i: the reader has not failed
  abbrev pub IsReadable : Input R → Type 0
  IsReadable i = i.refused ≡ false

  -- HasRefusedRead i: the reader has returned an error
  abbrev pub HasRefusedRead : Input R → Type 0
  HasRefusedRead i = i.refused ≡ true

  -- IsSameInput old new: both wrap the same reader
  abbrev pub IsSameInput : Input R → Input R → Type 0
  IsSameInput old new = new.reader.ghost_name ≡ old.reader.ghost_name

  -- ReportsRefusedRead old new r: the reader is the same, and it has failed if it had failed before
  -- or an error is returned
  abbrev pub ReportsRefusedRead : {T E : Type 0} → Input R → Input R → Result T E → Type 0
  ReportsRefusedRead old new r = IsSameInput old new × (new.refused ≡ (is_err r || old.refused))
