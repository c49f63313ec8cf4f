use Rattle.std.proofs.Common.{ℕ, List, Option, Some, Bool, true, false, Vec, Global, ◌≡◌, ap, refl, ◌∙◌, cond}
use Rattle.std.specs.Prelude.{option_map}
use Rattle.rec_uses.specs.declared.tables.Key.{Key}
use Rattle.rec_uses.proofs.tables.Texts.give.Goals as goal

-- a key of these bytes
abbrev key : List ℕ → Key
key name = record { bytes = record { ref_ptr = (0, 0); now = name } }

-- the texts of values
items_of : (b : Bool) (v : Vec ℕ Global) (o : Option (Vec ℕ Global))
    → option_map (λ t. t.items) (cond b (Some v) o) ≡ cond b (Some v.items) (option_map (λ (t : Vec ℕ Global). t.items) o)
items_of true v o = refl
items_of false v o = refl

pub returns : goal.returns
returns c = λ other. ap (option_map (λ (t : Vec ℕ Global). t.items)) (c.in_ok-insert.ensures.updates.0 (key other)) ∙ items_of _ _ _
