-- What a pattern of a handle answers, as the calls on it answer it.
use Rattle.std.proofs.Common.{◌≡◌, ◌≢◌, ℕ, Bool, true, false, List, [], ◌∷◌, length, Option, Some, None, refl, sym, ap, ◌∙◌, subst, eq-eqb, arith}
use Rattle.std.specs.Prelude.{◌==◌, Result, Ok, Err, IsSome, IfErr, if◌then◌else◌}
use Rattle.rx_term.specs.Tree.{Tree}
use Rattle.rx_term.specs.Store.{Store, tree_at}
use Rattle.rx_term.specs.Walks.{HaveTrees, AllHeld}
use Rattle.rx_term.specs.declared.Term.{Term}
use Rattle.rx_term.proofs.StoreLemmas.{some-value}
use Rattle.rx_term.proofs.WalkLemmas.{trees_from-AllHeld}
use Rattle.rx_pattern.specs.Filling as filling
use Rattle.rx_pattern.specs.Filling.{filling, blanks, made, misfit, filled, Count}
use Rattle.rx_pattern.specs.Matching.{matching}
use Rattle.rx_pattern.specs.Held as held
use Rattle.rx_text.specs.Verdict.{IsVerdict, Spelt}
use Rattle.psilt_core.specs.Answers.{Has, terms_of}
use Rattle.psilt_core.specs.Patterns.{Binds, BindsNothing, OnFilling, Takes, FillsTerms, Fills, IsNoPattern, IsUnfit}
use Rattle.psilt_core.specs.declared.fault.Fault.{Fault}
use Rattle.psilt_core.specs.declared.fault.Fault.TheVariants as fault
use Rattle.psilt_core.specs.declared.spelling.NoPattern.{NoPattern}
use Rattle.psilt_core.specs.declared.spelling.NoPattern.TheVariants as none

-- of the trees of references that are held, and of what a pattern makes of them
pub on_filling : (pattern : Option Tree) (p : Tree) (w : Store) (terms : List Term) (P : Result Tree filling.Fault → Type 0)
    → pattern ≡ Some p → AllHeld w terms → ((bs : List Tree) → HaveTrees w terms bs → P (filling p bs)) → OnFilling pattern w terms P
on_filling pattern p w terms P e all f = let bs = trees_from-AllHeld w terms all in (p, e, (bs.0, bs.1, f bs.0 bs.1))

-- as many trees as a pattern takes are not too many or too few
same-value : {X : Type 0} (x y : X) → Some x ≡ Some y → x ≡ y
same-value x y e = cc

have-count : (w : Store) (ts : List Term) (bs : List Tree) → HaveTrees w ts bs → length ts ≡ length bs
have-count w [] [] h = refl
have-count w (t ∷ ts) (b ∷ bs) h = omega (arith, have-count w ts bs h.1)
have-count w [] (b ∷ bs) h = absurd h
have-count w (t ∷ ts) [] h = absurd h

not_count : (b : Bool) (m : Option ℕ) (t : Tree) → b ≡ true → (if b then made m t else Err Count) ≢ Err Count
not_count true None t h = λ e. cc e
not_count true (Some k) t h = λ e. cc e
not_count false m t h = cc

pub right_count : (pattern : Option Tree) (p : Tree) (w : Store) (terms : List Term) → pattern ≡ Some p → Takes pattern (length terms) → AllHeld w terms
    → ((bs : List Tree) → HaveTrees w terms bs → filling p bs ≡ Err Count) → ⊥
right_count pattern p w terms e takes all wrong =
    let bs = trees_from-AllHeld w terms all in
    let same : p ≡ takes.0 = same-value p takes.0 (sym e ∙ takes.1) in
    let count : length bs.0 ≡ length (blanks p) = sym (have-count w terms bs.0 bs.1) ∙ takes.2 ∙ ap (λ q. length (blanks q)) (sym same) in
    not_count (length bs.0 == length (blanks p)) (misfit (blanks p) bs.0) (filled p bs.0).0 (eq-eqb (length bs.0) (length (blanks p)) count)
    (wrong bs.0 bs.1)

-- what is told of a make of the references of some numbers
pub fills : (pattern : Option Tree) (most : ℕ) (old new : Store) (args : List ℕ) (terms : List Term) (r : Result Term Fault) → terms ≡ terms_of args
    → FillsTerms pattern most old new terms r → Fills pattern most old new args r
fills pattern most old new args terms (Ok t) e h = subst (λ ts. FillsTerms pattern most old new ts (Ok t)) e h
fills pattern most old new args terms (Err fault.Kind) e h = subst (λ ts. FillsTerms pattern most old new ts (Err fault.Kind)) e h
fills pattern most old new args terms (Err fault.Memory) e h = h
fills pattern most old new args terms (Err fault.Full) e h = h
fills pattern most old new args terms (Err fault.Closed) e h = absurd h
fills pattern most old new args terms (Err fault.Stale) e h = absurd h
fills pattern most old new args terms (Err fault.Syntax) e h = absurd h
fills pattern most old new args terms (Err fault.Range) e h = absurd h
fills pattern most old new args terms (Err fault.Name) e h = absurd h
fills pattern most old new args terms (Err fault.Roots) e h = absurd h
fills pattern most old new args terms (Err fault.Unprotected) e h = absurd h
fills pattern most old new args terms (Err fault.Open) e h = absurd h
fills pattern most old new args terms (Err fault.Rule) e h = absurd h
fills pattern most old new args terms (Err fault.Limit) e h = absurd h
fills pattern most old new args terms (Err fault.Unspecified) e h = absurd h
fills pattern most old new args terms (Err fault.Unmatched) e h = absurd h
fills pattern most old new args terms (Err fault.Unknown) e h = absurd h
fills pattern most old new args terms (Err fault.Interrupted) e h = absurd h

-- an error that is known
pub is_err : {T E : Type 0} (r : Result T E) (e f : E) → r ≡ Err e → e ≡ f → r ≡ Err f
is_err r e f p q = subst (λ x. r ≡ Err x) q p

binds_by : (o : Option (List Tree)) (w : Store) (found : List Term) → held.Binds w o found true → Has o (HaveTrees w found)
binds_by (Some bs) w found h = (bs, refl, h)
binds_by None w found h = absurd h

-- a pattern that matches, and one that does not
pub binds : (pattern : Option Tree) (p : Tree) (old new : Store) (t : Term) (found : List Term) (b : Bool) → pattern ≡ Some p → IsSome (tree_at old t)
    → b ≡ true
    → ((u : Tree) → tree_at old t ≡ Some u → held.Binds new (matching p u) found b) → Binds pattern old new t found
binds pattern p old new t found b e there is h =
    let u = some-value (tree_at old t) there in
    (p, e, (u.0, u.1, binds_by (matching p u.0) new found (subst (λ x. held.Binds new (matching p u.0) found x) is (h u.0 u.1))))

nothing_by : (o : Option (List Tree)) (w : Store) (found : List Term) → held.Binds w o found false → o ≡ None
nothing_by (Some bs) w found h = absurd h
nothing_by None w found h = refl

pub binds_nothing : (pattern : Option Tree) (p : Tree) (old new : Store) (t : Term) (found : List Term) (b : Bool) → pattern ≡ Some p
    → IsSome (tree_at old t) → b ≡ false
    → ((u : Tree) → tree_at old t ≡ Some u → held.Binds new (matching p u) found b) → BindsNothing pattern old t
binds_nothing pattern p old new t found b e there is h =
    let u = some-value (tree_at old t) there in
    (p, e, (u.0, u.1, nothing_by (matching p u.0) new found (subst (λ x. held.Binds new (matching p u.0) found x) is (h u.0 u.1))))

-- why a text spells no pattern, where the tree that it spells is none
pub no_pattern : (text : List ℕ) (o : Option Tree) (u : Tree) (r : Result Tree NoPattern) → o ≡ Some u → IsVerdict text (Spelt u)
    → IfErr r (λ why. (v : Tree) → o ≡ Some v → IsUnfit v why) → IfErr r (IsNoPattern text)
no_pattern text o u (Ok p) e v h = tt
no_pattern text o u (Err none.Long) e v h = absurd (h u e)
no_pattern text o u (Err (none.Grammar at)) e v h = absurd (h u e)
no_pattern text o u (Err (none.Rule rule)) e v h = (u, v, h u e)
no_pattern text o u (Err none.Memory) e v h = tt
