-- What parts, makes and steps are, on small trees and stores.
use Rattle.std.proofs.Common.{◌≡◌, ℕ, ◌+◌, ◌<◌, ap, ◌∙◌, false, [], ◌∷◌, Option, Some, None, Ok, Err, IsSome, is_some, ◌≢◌, inr, refl, sym, arith, pos}
use Rattle.std.specs.Prelude.{codes}
use Rattle.std.specs.Option.{option_and_then}
use Rattle.std.specs.Ordering.{nat_cmp}
use Rattle.std.specs.FinMap as map
use Rattle.rx_term.specs.Name.{Signature}
use Rattle.rx_term.specs.Tree.{Tree, none, more, Int, Appl, Items, Hole, count_of}
use Rattle.rx_term.specs.Store.{Store, tree_at, signature_of, cells, head_of, tail_of, args_of, inner_of, anns_of, longer, applied, held_open, noted}
use Rattle.rx_term.specs.Steps.{FaultFits, ReserveFits, ProtectsOrRefuses, with_count, Reserves, Makes, Refuses, Adds, Reclaims, IsReached, IsSound}
use Rattle.rx_term.specs.Kinds.{HasKind, HasAnns}
use Rattle.rx_term.specs.declared.Term.{Term}
use Rattle.rx_term.specs.declared.Symbol.{Symbol}
use Rattle.rx_term.specs.declared.Kind.TheVariants as kind
use Rattle.rx_term.specs.declared.faults.RootsFull.{RootsFull}
use Rattle.rx_term.specs.declared.faults.BankFault.{BankFault}
use Rattle.rx_term.specs.declared.faults.BankFault.TheVariants.{Memory, Full}
use Rattle.rx_term.proofs.PartsLemmas.{cons_head}
use Rattle.rx_term.proofs.StoreLemmas.{len-insert-new}

abbrev a : Tree
a = Appl (codes "a") false none none

abbrev b : Tree
b = Appl (codes "b") false none none

-- `[a,b]{a}`: its head and its tail, which has no annotations
abbrev noted_list : Tree
noted_list = Items (more a (more b none)) (more a none)

head_of-noted : head_of noted_list ≡ Some a
head_of-noted = refl

tail_of-noted : tail_of noted_list ≡ Some (Items (more b none) none)
tail_of-noted = refl

head_of-nothing : head_of (Items none (more a none)) ≡ None
head_of-nothing = refl

tail_of-nothing : tail_of (Items none (more a none)) ≡ None
tail_of-nothing = refl

-- `f(a){b}`: its arguments as a list, without its annotations
args_of-noted : args_of (Appl (codes "f") false (more a none) (more b none)) ≡ Some (Items (more a none) none)
args_of-noted = refl

-- also if there are none
args_of-constant : args_of a ≡ Some (Items none none)
args_of-constant = refl

inner_of-noted : inner_of (Hole (Int (pos 7) none) (more a none)) ≡ Some (Int (pos 7) none)
inner_of-noted = refl

anns_of-noted : anns_of noted_list ≡ Some (Items (more a none) none)
anns_of-noted = refl

-- if there are none, there is no list of them
anns_of-bare : anns_of a ≡ None
anns_of-bare = refl

longer-list : longer (Some a) (Some (Items (more b none) none)) ≡ Some (Items (more a (more b none)) none)
longer-list = refl

longer-noted : longer (Some a) (Some (Items (more b none) (more b none))) ≡ None
longer-noted = refl

longer-no_list : longer (Some a) (Some b) ≡ None
longer-no_list = refl

-- `f` with two arguments
abbrev f : Signature
f = record { name = codes "f"; quoted = false; arity = 2 }

applied-filled : applied (Some f) (Some (Items (more a (more b none)) none)) ≡ Some (Appl (codes "f") false (more a (more b none)) none)
applied-filled = refl

applied-too_few : applied (Some f) (Some (Items (more a none) none)) ≡ None
applied-too_few = refl

applied-noted : applied (Some f) (Some noted_list) ≡ None
applied-noted = refl

held_open-noted : held_open (Some noted_list) ≡ Some (Hole noted_list none)
held_open-noted = refl

-- other annotations take the place of those that are there; none, of an empty list
noted-anew : noted (Some noted_list) (Some (Items (more b none) none)) ≡ Some (Items (more a (more b none)) (more b none))
noted-anew = refl

noted-bare : noted (Some noted_list) (Some (Items none none)) ≡ Some (Items (more a (more b none)) none)
noted-bare = refl

noted-by_noted : noted (Some a) (Some noted_list) ≡ None
noted-by_noted = refl

-- a store of one tree, with this count for each reference
abbrev one : ℕ → Store
one count = record { content = map.insert map.empty 3 a; symbols = map.empty; roots = λ k. count; cap = 5; spare = 0 }

one_cell : cells (one 0) ≡ 1
one_cell = len-insert-new map.empty 3 a (map.get-empty nat_cmp 3) ∙ ap (λ k. k + 1) (map.len-empty nat_cmp Tree)

-- memory runs out below the limit, and cells at it
full_at_the_limit : (w : Store) → cells w ≡ 4 → w.cap ≡ 4 → FaultFits w Full
full_at_the_limit w e k = omega (arith, e, k)

no_memory_at_the_limit : (w : Store) → cells w ≡ 4 → w.cap ≡ 4 → FaultFits w Memory → ⊥
no_memory_at_the_limit w e k h = omega (arith, e, k, h)

not_full_below : (w : Store) → cells w ≡ 3 → w.cap ≡ 4 → FaultFits w Full → ⊥
not_full_below w e k h = omega (arith, e, k, h)

memory_below : (w : Store) → cells w ≡ 3 → w.cap ≡ 4 → FaultFits w Memory
memory_below w e k = omega (arith, e, k)

-- beside one cell four more fit within 5, and five don't
four_fit : (w : Store) → cells w ≡ 1 → w.cap ≡ 5 → ReserveFits w 4 Memory
four_fit w e k = omega (arith, e, k)

four_are_not_refused : (w : Store) → cells w ≡ 1 → w.cap ≡ 5 → ReserveFits w 4 Full → ⊥
four_are_not_refused w e k h = omega (arith, e, k, h)

five_are_refused : (w : Store) → cells w ≡ 1 → w.cap ≡ 5 → ReserveFits w 5 Full
five_are_refused w e k = omega (arith, e, k)

five_do_not_fit : (w : Store) → cells w ≡ 1 → w.cap ≡ 5 → ReserveFits w 5 Memory → ⊥
five_do_not_fit w e k h = omega (arith, e, k, h)

-- what is ready already is no room for more
reserved_are_spare : Reserves (one 0) (one 0) 1 → ⊥
reserved_are_spare h = let few : 1 < 1 = omega (arith, h.reserved) in omega (arith, few)

abbrev third : Term
third = record { 0 = 3 }

counted : (with_count (one 0) third 2).roots 3 ≡ 2
counted = refl

uncounted : (with_count (one 0) third 2).roots 4 ≡ 0
uncounted = refl

-- the count goes up to 65535, and no further
counted_fully : (w : Store) → ProtectsOrRefuses (one 65535) w third (Ok tt) → ⊥
counted_fully w h = omega (arith, h.0)

not_yet_fully : (w : Store) (e : RootsFull) → ProtectsOrRefuses (one 65534) w third (Err e) → ⊥
not_yet_fully w e h = omega (arith, h.0)

-- a make that finds its tree changes nothing
found_is_the_same : (old new : Store) (tree : Tree) (r : Term) → Makes old new (Some tree) r → tree_at old r ≡ Some tree → new ≡ old
found_is_the_same old new tree r m e = m.there (ap is_some e)

-- so does a symbol that is there
symbol_is_the_same : (old new : Store) (g : Signature) (t : Symbol) → Adds old new g t → signature_of old t ≡ Some g → new ≡ old
symbol_is_the_same old new g t m e = m.there (ap is_some e)

-- a make is refused for want of a ready cell alone, and where its tree is not there
refused_unready : (old new : Store) (tree : Tree) (e : BankFault) (t : Term) → Refuses old new (Some tree) e → (old.spare ≡ 0) × (tree_at old t ≢ Some tree)
refused_unready old new tree e t h = (h.none_spare, h.absent t)

-- a collection gives up what is not reached
unreached_goes : (old new : Store) (t : Term) (tree : Tree) → Reclaims old new [] → (IsReached old [] tree → ⊥) → tree_at new t ≡ Some tree → ⊥
unreached_goes old new t tree h unreached e = unreached (h.only t tree e).1

-- and keeps what is passed in, with its parts
handed_in_stays : (old new : Store) (t r : Term) → Reclaims old new (r ∷ []) → tree_at old r ≡ Some (Items (more b none) none)
    → tree_at old t ≡ Some b → tree_at new t ≡ Some b
handed_in_stays old new t r h e k = h.kept t b k (r, (Items (more b none) none, inr (cons_head r []), e, (1, omega arith, refl)))

-- a rooted one is there, and no tree has two references
rooted_is_held : (w : Store) (t : Term) → IsSound w → w.roots t.0 ≡ 1 → IsSome (tree_at w t)
rooted_is_held w t h e = h.rooted_held t (omega (arith, e))

one_reference : (w : Store) (t r : Term) → IsSound w → tree_at w t ≡ Some a → tree_at w r ≡ Some a → t ≡ r
one_reference w t r h e k = h.one_to_one t r a e k

-- ready and taken cells together are within the limit
within_the_limit : (w : Store) → IsSound w → cells w ≡ 4 → w.cap ≡ 4 → w.spare ≡ 0
within_the_limit w h e k = let r = h.room in omega (arith, e, k, r)

-- whatever its annotations are
int_kind : (w : Store) (t : Term) → tree_at w t ≡ Some (Int (pos 7) (more a none)) → HasKind w t (kind.Int (pos 7))
int_kind w t e = record { anns = more a none; here = e }

not_int_kind : (w : Store) (t : Term) → tree_at w t ≡ Some (Int (pos 7) none) → HasKind w t (kind.Int (pos 8)) → ⊥
not_int_kind w t e h = absurd (cc (e, h.here))

nil_kind : (w : Store) (t : Term) → tree_at w t ≡ Some (Items none (more a none)) → HasKind w t kind.Nil
nil_kind w t e = record { anns = more a none; here = e }

not_nil_kind : (w : Store) (t : Term) → tree_at w t ≡ Some noted_list → HasKind w t kind.Nil → ⊥
not_nil_kind w t e h = absurd (cc (e, h.here))

cons_kind : (w : Store) (t : Term) → tree_at w t ≡ Some noted_list → HasKind w t kind.Cons
cons_kind w t e = record { first = a; rest = more b none; anns = more a none; here = e }

not_cons_kind : (w : Store) (t : Term) → tree_at w t ≡ Some (Items none none) → HasKind w t kind.Cons → ⊥
not_cons_kind w t e h = absurd (cc (e, h.here))

-- `f(a,b){a}` is an application of the symbol that takes two arguments
appl_kind : (w : Store) (t : Term) (s : Symbol) → signature_of w s ≡ Some f
    → tree_at w t ≡ Some (Appl (codes "f") false (more a (more b none)) (more a none)) → HasKind w t (kind.Appl s)
appl_kind w t s k e = record { name = codes "f"; quoted = false; args = more a (more b none); anns = more a none; symbol = k; here = e }

-- and not of another one
not_appl_kind : (w : Store) (t : Term) (s : Symbol) → signature_of w s ≡ Some f → tree_at w t ≡ Some a → HasKind w t (kind.Appl s) → ⊥
not_appl_kind w t s k e h =
    let taken : 2 ≡ count_of h.args = ap taken_by (sym k ∙ h.symbol) in
    let there : count_of h.args ≡ 0 = ap arguments_of (sym h.here ∙ e) in
    omega (arith, taken, there)
  where
    taken_by : Option Signature → ℕ
    taken_by (Some g) = g.arity
    taken_by None = 0

    arguments_of : Option Tree → ℕ
    arguments_of (Some (Appl name quoted args anns)) = count_of args
    arguments_of o = 0

hole_kind : (w : Store) (t : Term) → tree_at w t ≡ Some (Hole b (more a none)) → HasKind w t kind.Hole
hole_kind w t e = record { inside = b; anns = more a none; here = e }

not_hole_kind : (w : Store) (t : Term) → tree_at w t ≡ Some b → HasKind w t kind.Hole → ⊥
not_hole_kind w t e h = absurd (cc (e, h.here))

-- annotations are answered if there are any, and else none
no_anns : (w : Store) (t : Term) → tree_at w t ≡ Some a → HasAnns w t None
no_anns w t e = ap (λ o. option_and_then anns_of o) e

anns_forgotten : (w : Store) (t : Term) → tree_at w t ≡ Some noted_list → HasAnns w t None → ⊥
anns_forgotten w t e h = let some : Some (Items (more a none) none) ≡ None = sym (ap (λ o. option_and_then anns_of o) e) ∙ h in absurd (cc some)

anns_of_the_tree : (w : Store) (t r : Term) → tree_at w t ≡ Some noted_list → HasAnns w t (Some r) → tree_at w r ≡ Some (Items (more a none) none)
anns_of_the_tree w t r e h = h.1 ∙ ap (λ o. option_and_then anns_of o) e
