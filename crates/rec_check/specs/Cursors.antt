-- A cursor over a text, as a value: its offset and its location.
use Rattle.std.specs.Prelude.{ℕ, ◌≡◌, ◌≤◌, ◌+◌, List, length}
use Rattle.rec_check.specs.Spots.{spot_of}
use Rattle.rec_check.specs.declared.spots.Cursor.{Cursor}

pub record IsCursor (text : List ℕ) (c : Cursor) : Type 0 where
  pub text_is : c.text.now ≡ text
  pub within : c.at ≤ length text
  pub spot_is : c.spot ≡ spot_of text c.at
  pub line_small : c.spot.line ≤ c.at + 1
  pub column_small : c.spot.column ≤ c.at + 1
