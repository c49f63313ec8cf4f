-- The lines of calls, one application after the other.
use Rattle.std.proofs.Common.{◌≡◌, ℕ, ◌<◌, zero, suc, Bool, true, false, List, [], ◌∷◌, ◌++◌, IsSome, Some}
use Rattle.std.proofs.Common.{append_assoc, arith, get_or, length, refl, slice_get, ap, subst, ◌∙◌}
use Rattle.std.specs.Prelude.{codes, filter, flat_map}
use Rattle.rx_term.specs.Store.{Store, tree_at}
use Rattle.rx_term.specs.Tree.{Tree}
use Rattle.rx_term.specs.Walks.{held_tree}
use Rattle.rec_syntax.specs.Syntax.{Spec}
use Rattle.rx_text.specs.Canon.{canon}
use Rattle.rec_trace.specs.Lines.{cut}
use Rattle.rec_trace.specs.declared.lines.Spot.{Spot}
use Rattle.rec_stuck.specs.Inner.Calls.{line_if}
use Rattle.rec_stuck.specs.Stuck.{applications, bare_of, different, fitting_spots, is_call, reason, stuck_line, stuck_text}
use Rattle.rec_stuck.specs.Inner.Visits.{AreThere, reference, trees_of}

pub line-of-call : (source : List ℕ) (y : Spec) (u : Tree) → is_call y u ≡ true → line_if source y u ≡ stuck_line source y u
line-of-call source y u e = rw e refl

pub no-line : (source : List ℕ) (y : Spec) (u : Tree) → is_call y u ≡ false → line_if source y u ≡ []
no-line source y u e = rw e refl

lines-of : (source : List ℕ) (y : Spec) (us : List Tree) → flat_map (line_if source y) us ≡ flat_map (stuck_line source y) (filter (is_call y) us)
lines-of source y [] = refl
lines-of source y (u ∷ us) = by (is_call y u) refl (lines-of source y us)
  where
    by : (b : Bool) → is_call y u ≡ b → flat_map (line_if source y) us ≡ flat_map (stuck_line source y) (filter (is_call y) us)
        → flat_map (line_if source y) (u ∷ us) ≡ flat_map (stuck_line source y) (filter (is_call y) (u ∷ us))
    by true e later = rw e (ap (λ z. stuck_line source y u ++ z) later)
    by false e later = rw e later

of-references : (source : List ℕ) (y : Spec) (w : Store) (ns : List ℕ)
    → flat_map (λ n. line_if source y (held_tree w (reference n))) ns ≡ flat_map (line_if source y) (trees_of w ns)
of-references source y w [] = refl
of-references source y w (n ∷ ns) = ap (λ z. line_if source y (held_tree w (reference n)) ++ z) (of-references source y w ns)

-- the lines of all applications that were found are those of the value
pub all-lines : (source : List ℕ) (y : Spec) (w : Store) (ns : List ℕ) (v : Tree) → trees_of w ns ≡ different (applications v)
    → flat_map (λ n. line_if source y (held_tree w (reference n))) ns ≡ stuck_text source y v
all-lines source y w ns v e = of-references source y w ns ∙ ap (flat_map (line_if source y)) e ∙ lines-of source y (different (applications v))

-- the line of a call, piece by piece
pub line-made : (a b c d e f text : List ℕ) (spots : List Spot) → b ≡ a ++ codes "stuck: " → c ≡ b ++ text → d ≡ c ++ codes ": "
    → e ≡ d ++ reason spots → f ≡ e ++ codes "\n"
    → f ≡ a ++ (codes "stuck: " ++ text ++ codes ": " ++ reason spots ++ codes "\n")
line-made a b c d e f text spots one two three four five =
    let first : c ≡ a ++ (codes "stuck: " ++ text) = two ∙ ap (λ z. z ++ text) one ∙ append_assoc a (codes "stuck: ") text in
    let second : d ≡ a ++ ((codes "stuck: " ++ text) ++ codes ": ") =
    three ∙ ap (λ z. z ++ codes ": ") first ∙ append_assoc a (codes "stuck: " ++ text) (codes ": ") in
    let third : e ≡ a ++ (((codes "stuck: " ++ text) ++ codes ": ") ++ reason spots) =
    four ∙ ap (λ z. z ++ reason spots) second ∙ append_assoc a ((codes "stuck: " ++ text) ++ codes ": ") (reason spots) in
    five ∙ ap (λ z. z ++ codes "\n") third ∙ append_assoc a (((codes "stuck: " ++ text) ++ codes ": ") ++ reason spots) (codes "\n")

-- and by its tree
pub line-told : (source : List ℕ) (y : Spec) (u : Tree) (a f text : List ℕ) (spots : List Spot) → text ≡ cut (Some 60) (canon (bare_of u))
    → spots ≡ fitting_spots source y (bare_of u)
    → f ≡ a ++ (codes "stuck: " ++ text ++ codes ": " ++ reason spots ++ codes "\n") → f ≡ a ++ stuck_line source y u
line-told source y u a f text spots is are made =
    made ∙ ap (λ t. a ++ (codes "stuck: " ++ t ++ codes ": " ++ reason spots ++ codes "\n")) is
    ∙ ap (λ ps. a ++ (codes "stuck: " ++ cut (Some 60) (canon (bare_of u)) ++ codes ": " ++ reason ps ++ codes "\n")) are

-- what is found is there
pub there-at : (w : Store) (ns : List ℕ) (i n : ℕ) → AreThere w ns → slice_get ns i ≡ Some n → IsSome (tree_at w (reference n))
there-at w [] i n h e = absurd (cc e)
there-at w (m ∷ ns) zero n h e = let same : m ≡ n = cc e in subst (λ k. IsSome (tree_at w (reference k))) same h.0
there-at w (m ∷ ns) (suc i) n h e = there-at w ns i n h.1 e

pub got-at : (ns : List ℕ) (i n d : ℕ) → slice_get ns i ≡ Some n → (i < length ns) × (get_or ns i d ≡ n)
got-at [] i n d e = absurd (cc e)
got-at (m ∷ ns) zero n d e = (omega arith, cc e)
got-at (m ∷ ns) (suc i) n d e = let r = got-at ns i n d e in let lt = r.0 in (omega (arith, lt), r.1)
