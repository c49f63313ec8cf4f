-- The parts of a term whose nodes are still to be made.
use Rattle.std.specs.Prelude.{◌≡◌, true, Some, List, [], ◌∷◌, ◌++◌, if◌then◌else◌}
use Rattle.rx_term.specs.Tree.{none, more, Int, Appl, Items, Hole}
use Rattle.rx_term.specs.Store.{Store, tree_at}
use Rattle.rx_pattern.specs.Pattern.{kind_of, is_rest, knows_placeholders, has_plain_placeholders}
use Rattle.rx_pattern.specs.Pattern.{all_known, all_plain}
use Rattle.rx_pattern.specs.Code.{Step, Number, Named, Listing, Holding, End, Item, Rest, Piece}
use Rattle.rx_pattern.specs.Code.{One, Several}
use Rattle.rx_pattern.specs.Subjects.{OnStack, IsListed}
use Rattle.rx_pattern.specs.declared.flatten.Job.{Job}
use Rattle.rx_pattern.specs.declared.flatten.Job.TheVariants as job

-- IsFor w j v: the job is to make the nodes of piece `v`
abbrev pub IsFor : Store → Job → Piece → Type 0
IsFor w (job.Tree t) (One u) = tree_at w t ≡ Some u
IsFor w (job.Items l) (Several ts) = IsListed w l ts
IsFor w j v = ⊥

-- IsOfPattern v: each placeholder of the piece is one of the six, without annotations
abbrev pub IsOfPattern : Piece → Type 0
IsOfPattern (One u) = (knows_placeholders u ≡ true) × (has_plain_placeholders u ≡ true)
IsOfPattern (Several ts) = (all_known ts ≡ true) × (all_plain ts ≡ true)

-- opens v: the first step of a piece, and the pieces that follow it
abbrev pub opens : Piece → Step × List Piece
opens (One (Int z anns)) = (Number z, Several anns ∷ [])
opens (One (Appl name quoted args anns)) = (Named name quoted, Several args ∷ Several anns ∷ [])
opens (One (Items items anns)) = (Listing, Several items ∷ Several anns ∷ [])
opens (One (Hole inner anns)) = (Holding (kind_of inner), [])
opens (Several none) = (End, [])
opens (Several (more p ps)) = if is_rest p ps then (Rest, []) else (Item, One p ∷ Several ps ∷ [])

-- PushesJobs w left before after: jobs for these pieces were pushed, that of the last one first
abbrev pub PushesJobs : Store → List Piece → List Job → List Job → Type 0
PushesJobs w left before after = (vs : List Piece) → OnStack (IsFor w) before vs
    → OnStack (IsFor w) after (left ++ vs)

-- Opens w v s before after: `s` is the first step of the piece, and jobs for the rest were pushed
abbrev pub Opens : Store → Piece → Step → List Job → List Job → Type 0
Opens w v s before after = (s ≡ (opens v).0) × PushesJobs w (opens v).1 before after
