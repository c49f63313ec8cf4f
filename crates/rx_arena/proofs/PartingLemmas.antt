-- A chain is parted: its slots are popped one by one, and the marked ones go to the gray list.
use Rattle.std.proofs.Common.{◌≡◌, ℕ, ◌<◌, [], ◌∷◌, length, set, refl, ap, ◌∙◌}
use Rattle.std.specs.Prelude.{true, false, reverse}
use Rattle.rx_arena.specs.Arena.{ArenaState, chain_at, IsLoose, marked_at, kept_in}
use Rattle.rx_arena.proofs.PoppingLemmas.{Popping, popping_begins, popped_marked, popped_unmarked, popped}

-- the chain is parted down to what is left of it
pub record Parting (init : ArenaState) (c : ℕ) (self : ArenaState) : Type 0 where
  pub popping : Popping init c self
  pub cells : self.cells ≡ init.cells
  pub spare : self.spare ≡ init.spare

pub parting_begins : (init : ArenaState) (c : ℕ) → c < length init.chains → init.gray ≡ []
    → Parting init c init
parting_begins init c lt none = record { popping = popping_begins init c lt none; cells = refl; spare = refl }

-- a slot is popped
module _ (init : ArenaState) (c : ℕ) (self : ArenaState) (inv : Parting init c self) (s : ℕ) (one : ArenaState)
    (split : chain_at self c ≡ s ∷ chain_at one c) (rest : one ≡ record self { chains = set self.chains c (chain_at one c) }) (free : IsLoose one s) where
  cells_stay : one.cells ≡ init.cells
  cells_stay = ap (λ (v : ArenaState). v.cells) rest ∙ inv.cells

  spare_stays : one.spare ≡ init.spare
  spare_stays = ap (λ (v : ArenaState). v.spare) rest ∙ inv.spare

  -- a marked slot goes to the gray list
  pub parted_marked : (two : ArenaState) → marked_at one s ≡ true
      → two ≡ record one { gray = s ∷ one.gray } → Parting init c two
  parted_marked two m e = record {
    popping = popped_marked init c self inv.popping s one split rest free two m e;
    cells = ap (λ (v : ArenaState). v.cells) e ∙ cells_stay;
    spare = ap (λ (v : ArenaState). v.spare) e ∙ spare_stays;
  }

  -- a slot that is not marked is let go
  pub parted_unmarked : marked_at one s ≡ false → Parting init c one
  parted_unmarked m = record {
    popping = popped_unmarked init c self inv.popping s one split rest free one one.cells one.spare m refl (λ t ne. refl);
    cells = cells_stay;
    spare = spare_stays;
  }

-- nothing is left of the chain
pub parted : (init : ArenaState) (c : ℕ) (self : ArenaState) → Parting init c self
    → chain_at self c ≡ []
    → (self ≡ record init { chains = set init.chains c []; gray = self.gray }) × (reverse self.gray ≡ kept_in init c)
parted init c self inv none =
    let r = popped init c self inv.popping none in (
      (λ i. record { cells = inv.cells i; chains = r.1 i; gray = self.gray; spare = inv.spare i; cap = inv.popping.cap i }),
      r.0,
    )
