-- The text of input terms, if any.
use Rattle.std.specs.Prelude.{◌≡◌, ℕ, List, Option, option_map, take}
use Rattle.std.specs.declared.vec.Vec.{Vec}

-- IsFrontOf read given: `read` is the text `given`, or its first 16,777,217 bytes if it is longer
abbrev pub IsFrontOf : {Z : Type 0} → Option (Vec ℕ Z) → Option (List ℕ) → Type 0
IsFrontOf read given = option_map (λ v. v.items) read ≡ option_map (take 16777217) given
