-- Names that may stand without quotes, and names that may not.
use Rattle.std.proofs.Common.{◌≡◌, true, false, [], ◌∷◌, refl}
use Rattle.std.specs.Prelude.{codes}
use Rattle.rx_term.specs.Name.{plain_name, is_name}

letter : plain_name (codes "a") ≡ true
letter = refl

underscore : plain_name (codes "_9") ≡ true
underscore = refl

every_kind_of_byte : plain_name (codes "zZ_-+*$.0") ≡ true
every_kind_of_byte = refl

empty : plain_name [] ≡ false
empty = refl

digit_first : plain_name (codes "1a") ≡ false
digit_first = refl

dash_first : plain_name (codes "-a") ≡ false
dash_first = refl

quote : plain_name (codes "x'") ≡ false
quote = refl

blank : plain_name (codes "a b") ≡ false
blank = refl

-- the empty name stands without quotes in `()`; every list of bytes may be in quotes
empty_name : is_name [] false ≡ true
empty_name = refl

zero_unquoted : is_name (codes "0") false ≡ false
zero_unquoted = refl

zero_quoted : is_name (codes "0") true ≡ true
zero_quoted = refl

no_byte : is_name (256 ∷ []) true ≡ false
no_byte = refl
