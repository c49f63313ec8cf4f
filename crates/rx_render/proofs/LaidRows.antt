-- Small texts over several lines.
use Rattle.std.proofs.Common.{◌≡◌, ℕ, true, false, [], Some, None, refl, pos, negsuc}
use Rattle.std.specs.Prelude.{codes}
use Rattle.std.specs.Fmt.{digits}
use Rattle.rx_term.specs.Tree.{Tree, none, more, Int, Appl, Items, Hole}
use Rattle.rx_render.specs.Laid.{laid}
use Rattle.rx_render.specs.declared.layout.Indentation.{Indentation}

-- this number of blanks for each level
abbrev by : ℕ → Indentation
by n = record { indent = n; width = None }

-- the same, with a width
abbrev within : ℕ → ℕ → Indentation
within n w = record { indent = n; width = Some w }

abbrev a : Tree
a = Appl (codes "a") false none none

-- `f(a,[1,-7]){b}`
abbrev spaced : Tree
spaced =
    Appl (codes "f") false (more a (more (Items (more (Int (pos 1) none) (more (Int (negsuc 6) none) none)) none) none))
    (more (Appl (codes "b") false none none) none)

by_two : laid (by 2) spaced ≡ codes "f(\n  a,\n  [\n    1,\n    -7\n  ]\n){\n  b\n}"
unfolding digits
by_two = refl

-- line feeds alone
by_none : laid (by 0) spaced ≡ codes "f(\na,\n[\n1,\n-7\n]\n){\nb\n}"
unfolding digits
by_none = refl

-- `<int>`, `[]`, `()` and `""()` stay in their lines but for what has a part
by_one : laid (by 1) (Items (more (Hole (Appl (codes "int") false none none) none)
    (more (Items none none) (more (Appl [] false none none) (more (Appl [] true none none) none)))) none) ≡ codes "[\n <\n  int\n >,\n [],\n (),\n \"\"\n]"
by_one = refl

-- its 14 bytes fit
in_one_line : laid (within 2 14) spaced ≡ codes "f(a,[1,-7]){b}"
unfolding digits
in_one_line = refl

-- one byte less: its parts fit
one_byte_more : laid (within 2 13) spaced ≡ codes "f(\n  a,\n  [1,-7]\n){\n  b\n}"
unfolding digits
one_byte_more = refl

-- nothing fits
in_no_line : laid (within 2 0) spaced ≡ laid (by 2) spaced
unfolding digits
in_no_line = refl
