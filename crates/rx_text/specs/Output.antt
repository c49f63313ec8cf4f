-- A writer that is not used again after it has failed.
use Rattle.std.specs.Prelude.{◌≡◌, ◌||◌, ℕ, Bool, true, false, List, Option, Result, Ok, Err}
use Rattle.std.specs.Prelude.{is_err}
use Rattle.std.specs.Io.KnownBytes.{Appends}
use Rattle.rx_text.specs.Written.{AppendsFront}
use Rattle.rx_text.specs.declared.output.Output.{Output}
use Rattle.rx_text.specs.declared.faults.WriteFault.{WriteFault}
use Rattle.rx_text.specs.declared.faults.WriteFault.TheVariants.{Memory, Write}

-- is_refusal r: whether the error of the writer is returned
abbrev pub is_refusal : {T : Type 0} → Result T WriteFault → Bool
is_refusal (Ok x) = false
is_refusal (Err Memory) = false
is_refusal (Err Write) = true

module _ {W : Type 0} where
  -- contents_of contents o: the bytes that the writer holds, if they are known
  abbrev pub contents_of : (W → Option (List ℕ)) → Output W → Option (List ℕ)
  contents_of contents o = contents o.writer.now

  -- Writes: this text was appended
  abbrev pub Writes : (W → Option (List ℕ)) → Output W → Output W → List ℕ → Type 0
  Writes contents old new text = Appends (contents_of contents old) (contents_of contents new) text

  -- WritesFront: a prefix of this text was appended
  abbrev pub WritesFront : (W → Option (List ℕ)) → Output W → Output W → List ℕ → Type 0
  WritesFront contents old new text =
      AppendsFront text (contents_of contents old) (contents_of contents new)

  -- IsWritable o: the writer has not failed
  abbrev pub IsWritable : Output W → Type 0
  IsWritable o = o.refused ≡ false

  -- HasRefusedWrite o: the writer has returned an error, or accepted no byte of a text that was not
  -- empty
  abbrev pub HasRefusedWrite : Output W → Type 0
  HasRefusedWrite o = o.refused ≡ true

  -- IsSameOutput old new: both wrap the same writer
  abbrev pub IsSameOutput : Output W → Output W → Type 0
  IsSameOutput old new = new.writer.ghost_name ≡ old.writer.ghost_name

  -- ReportsRefusal old new r: the writer is the same, and it has failed if it had failed before or
  -- an error is returned
  abbrev pub ReportsRefusal : {T E : Type 0} → Output W → Output W → Result T E → Type 0
  ReportsRefusal old new r = IsSameOutput old new × (new.refused ≡ (is_err r || old.refused))

  -- ReportsFault old new r: the writer is the same, and it has failed if it had failed before or
  -- its error is returned; running out of memory leaves the writer as it was
  abbrev pub ReportsFault : {T : Type 0} → Output W → Output W → Result T WriteFault → Type 0
  ReportsFault old new r = IsSameOutput old new × (new.refused ≡ (is_refusal r || old.refused))
