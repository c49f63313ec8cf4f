-- The line of a value whose text was printed within a bound.
use Rattle.std.proofs.Common.{◌≡◌, ℕ, ◌≤◌, ◌++◌, List, IfSome, IsSome, true, cond, ap, arith, length, subst, sym, ◌∙◌}
use Rattle.std.proofs.Common.{[], false, Option, Result, Ok, Err, OnErr, append-nil, append_assoc}
use Rattle.std.specs.Prelude.{Bool, codes, decimal, nat_le}
use Rattle.std.specs.Io.KnownBytes.{Appends}
use Rattle.std.proofs.lemmas.Bool.Decides.{nat_tests}
use Rattle.rx_term.specs.Store.{Store, tree_at}
use Rattle.rx_term.specs.Parts.{part_count}
use Rattle.rx_term.specs.Tree.{Tree}
use Rattle.rx_term.specs.declared.Term.{Term as Reference}
use Rattle.rx_text.specs.Canon.{canon}
use Rattle.rx_text.specs.Written.{AppendsFront}
use Rattle.rx_text.proofs.AppendingLemmas.{front_after, front_before}
use Rattle.rec_run.specs.EvaluatedLines.{unsaid, value_of}
use Rattle.rec_run.specs.GivenTerms.{item_at}
use Rattle.rec_run.specs.Output.{Whole, Longer, printed, sized}
use Rattle.rec_run.specs.declared.options.ValueForm.TheVariants.{Within}
use Rattle.rec_run.proofs.EvaluatedLemmas.{of_held}

short-true : (a b : ℕ) → a ≤ b → nat_le a b ≡ true
short-true a b h = grind (arith, nat_tests, h)

pub printed-whole : (most : ℕ) (u : Tree) → length (canon u) ≤ most → printed (Within most) u ≡ Whole (canon u)
printed-whole most u h = ap (λ (b : Bool). cond b (Whole (canon u)) (Longer most)) (short-true (length (canon u)) most h)

pub whole-line : (w : Store) (r : Reference) (most : ℕ) (numbers text : List ℕ) → IsSome (tree_at w r) → IfSome (tree_at w r) (λ u. text ≡ canon u)
    → length text ≤ most → text ++ numbers ≡ unsaid numbers (value_of (Within most) w r)
whole-line w r most numbers text held is short =
    let same : text ≡ canon (item_at w r) = of_held (tree_at w r) (λ u. text ≡ canon u) held is in
    ap (λ t. t ++ numbers) same
    ∙ ap (unsaid numbers) (sym (printed-whole most (item_at w r) (subst (λ t. length t ≤ most) same short)))

-- a number of cells may follow
pub sized-front : (sizes : Bool) (u : Tree) (text : List ℕ) (old new : Option (List ℕ)) → AppendsFront text old new → AppendsFront (sized sizes u text) old new
sized-front false u text old new h = h
sized-front true u text old new h =
    front_before old new (text ++ codes "\t") (decimal (part_count u)) (front_before old new text (codes "\t") h)

pub sized-before : (sizes : Bool) (u : Tree) (text : List ℕ) (old new : Option (List ℕ)) → Appends old new text → AppendsFront (sized sizes u text) old new
sized-before sizes u text old new h = sized-front sizes u text old new (text, h, ([], sym (append-nil text)))

pub sized-after : (sizes : Bool) (u : Tree) (text : List ℕ) (n : ℕ) (old between new : Option (List ℕ)) → sizes ≡ true → n ≡ part_count u
    → Appends old between text → AppendsFront (codes "\t" ++ decimal n) between new → AppendsFront (sized sizes u text) old new
sized-after false u text n old between new e same h k = absurd (cc e)
sized-after true u text n old between new e same h k =
    subst (λ t. AppendsFront t old new) (sym (append_assoc text (codes "\t") (decimal n)) ∙ ap (λ m. text ++ codes "\t" ++ decimal m) same)
    (front_after old between new text (codes "\t" ++ decimal n) h k)

-- what follows from what holds at an error holds there too
pub on_err_of : {X E : Type 0} {P Q : Type 0} (r : Result X E) → (P → Q) → OnErr r P → OnErr r Q
on_err_of (Ok x) f h = tt
on_err_of (Err e) f h = f h
