-- Along a list to the item at a place.
use Rattle.std.proofs.Common.{◌≡◌, ℕ, zero, suc, ◌<◌, Bool, List, Option, Some, IsSome, refl, sym, subst, ◌∙◌, arith}
use Rattle.std.specs.Option.{option_and_then}
use Rattle.rx_term.specs.Tree.{Tree, Trees, Appl, none, more, count_of}
use Rattle.rx_term.specs.Store.{head_of, tail_of, args_of}
use Rattle.psilt_core.specs.Answers.{item_at, item_in, arg_of, IsPlaceIn}

pub has_tail : (o : Option Tree) (i : ℕ) → IsPlaceIn i o → IsSome (option_and_then tail_of o)
has_tail o i (none, e, lt) = absurd (omega (arith, lt))
has_tail o i (more t ts, e, lt) = rw e refl

pub has_head : (o : Option Tree) (i : ℕ) → IsPlaceIn i o → IsSome (option_and_then head_of o)
has_head o i (none, e, lt) = absurd (omega (arith, lt))
has_head o i (more t ts, e, lt) = rw e refl

pub head_is : (o : Option Tree) → IsPlaceIn 0 o → option_and_then head_of o ≡ item_in 0 o
head_is o (none, e, lt) = absurd (omega (arith, lt))
head_is o (more t ts, e, lt) = rw e refl

-- the item at a place is that of the tail at the place before
pub tail_is : (o p : Option Tree) (i : ℕ) → IsPlaceIn (suc i) o → p ≡ option_and_then tail_of o → IsPlaceIn i p × (item_in i p ≡ item_in (suc i) o)
tail_is o p i (none, e, lt) q = absurd (omega (arith, lt))
tail_is o p i (more t ts, e, lt) q = ((ts, q ∙ rw e refl, omega (arith, lt)), rw (q, e) refl)

item_some : (ts : Trees) (i : ℕ) → i < count_of ts → IsSome (item_at i ts)
item_some none i lt = absurd (omega (arith, lt))
item_some (more t ts) zero lt = refl
item_some (more t ts) (suc i) lt = item_some ts i (omega (arith, lt))

-- the item of the arguments is the argument
pub arg_is : (o p q : Option Tree) (i : ℕ) (name : List ℕ) (quoted : Bool) (args anns : Trees) → o ≡ Some (Appl name quoted args anns)
    → p ≡ option_and_then args_of o
    → q ≡ item_in i p → i < count_of args → IsSome q × (q ≡ option_and_then (arg_of i) o)
arg_is o p q i name quoted args anns e f g lt =
    let s : q ≡ item_at i args = g ∙ rw (f, e) refl in (subst (λ x. IsSome x) (sym s) (item_some args i lt), s ∙ rw e refl)

-- the list of the arguments has a place for each
pub place_is : (o p : Option Tree) (i : ℕ) (name : List ℕ) (quoted : Bool) (args anns : Trees) → o ≡ Some (Appl name quoted args anns)
    → p ≡ option_and_then args_of o → i < count_of args → IsPlaceIn i p
place_is o p i name quoted args anns e f lt = (args, f ∙ rw e refl, lt)
