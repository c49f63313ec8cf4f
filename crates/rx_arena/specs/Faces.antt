-- The contents of a cell without the hash, and the word that has them if they fit.
use Rattle.std.specs.Prelude.{ℕ, ◌+◌, ◌*◌, Bool, false, cond, nat_eq, nat_lt, Option, Some, None}
use Rattle.rx_arena.specs.declared.CellBody.{CellBody}
use Rattle.rx_arena.specs.declared.Face.{Face}
use Rattle.rx_arena.specs.declared.Slot.{Slot}
use Rattle.rx_arena.specs.Inner.Node.{Node}

-- face_of b: the body without its hash
abbrev pub face_of : CellBody → Face
face_of b = record { kind = b.kind; a = b.a; b = b.b; anns = b.anns }

-- ask: the word that means that the cell has to be read
abbrev pub ask : ℕ
ask = 18446744073709551615

-- packed kind a b: a kind below 4, a word below 2^30 and one below 2^32 in one number
abbrev pub packed : ℕ → ℕ → ℕ → ℕ
packed kind a b = (kind * 1073741824 + b) * 4294967296 + a

-- fits kind a b anns: they are that small, and there are no annotations
abbrev pub fits : ℕ → ℕ → ℕ → Option Slot → Bool
fits kind a b (Some s) = false
fits kind a b None =
    cond (nat_lt kind 4) (cond (nat_lt a 4294967296) (nat_lt b 1073741824) false) false

-- word_of b: the word of a body
unfoldable pub word_of : CellBody → ℕ
word_of b = cond (fits b.kind b.a b.b b.anns) (packed b.kind b.a b.b) ask

-- word_beside n: the word of a slot; a freed cell has none
abbrev pub word_beside : Option Node → ℕ
word_beside None = ask
word_beside (Some n) = cond (nat_eq n.mark 2) ask (word_of n.body)
