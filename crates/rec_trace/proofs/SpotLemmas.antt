-- Where the rules of a text begin, as a cursor goes on.
use Rattle.std.proofs.Common.{refl, sym, ap, ◌∙◌, arith, length-append}
use Rattle.std.proofs.lemmas.List.{length-map}
use Rattle.std.proofs.Math.Seq.{take-add}
use Rattle.std.specs.List.{slice_range}
use Rattle.std.specs.Prelude.{ℕ, zero, suc, ◌≡◌, ◌-◌, ◌+◌, ◌≤◌, Bool, true, false, List, [], ◌∷◌}
use Rattle.std.specs.Prelude.{◌++◌, Option, Some, option_map, length, map, take, nat_eq, slice_get}
use Rattle.rec_syntax.specs.Tokens as syntax
use Rattle.rec_syntax.specs.Syntax.{Apply, head, arguments}
use Rattle.rec_syntax.specs.Syntax as tree
use Rattle.rec_syntax.specs.Nodes as nodes
use Rattle.rec_syntax.specs.Nodes.{flat, flat_all, term_count}
use Rattle.rec_syntax.specs.Parts.{IsTerm, node_of, term_of}
use Rattle.rec_syntax.specs.declared.parts.Node.{Node}
use Rattle.rec_syntax.specs.declared.parts.Term.{Term}
use Rattle.rec_trace.specs.Lines.{ends_in, behind_end}
use Rattle.rec_trace.specs.declared.lines.Spot.{Spot}
use Rattle.rec_trace.specs.Lines.{spot_at}

-- ---- lines and columns of a text that goes on

ends_in-append : (xs ys : List ℕ) → ends_in (xs ++ ys) ≡ ends_in xs + ends_in ys
ends_in-append [] ys = omega arith
ends_in-append (x ∷ xs) ys = by (nat_eq x 10) (ends_in-append xs ys)
  where
    by : (b : Bool) → ends_in (xs ++ ys) ≡ ends_in xs + ends_in ys
        → ◌≡◌ {A = ℕ} (elim b [ true ↦ suc (ends_in (xs ++ ys)) | false ↦ ends_in (xs ++ ys) ])
        ((elim b [ true ↦ suc (ends_in xs) | false ↦ ends_in xs ]) + ends_in ys)
    by true h = omega (arith, h)
    by false h = h

behind_end-append : (k : ℕ) (xs ys : List ℕ) → behind_end k (xs ++ ys) ≡ behind_end (behind_end k xs) ys
behind_end-append k [] ys = refl
behind_end-append k (x ∷ xs) ys = by (nat_eq x 10) (behind_end-append 0 xs ys) (behind_end-append (suc k) xs ys)
  where
    by : (b : Bool) → behind_end 0 (xs ++ ys) ≡ behind_end (behind_end 0 xs) ys
        → behind_end (suc k) (xs ++ ys) ≡ behind_end (behind_end (suc k) xs) ys
        → ◌≡◌ {A = ℕ} (elim b [ true ↦ behind_end 0 (xs ++ ys) | false ↦ behind_end (suc k) (xs ++ ys) ])
        (behind_end (elim b [ true ↦ behind_end 0 xs | false ↦ behind_end (suc k) xs ]) ys)
    by true h e = h
    by false h e = e

ends_in-few : (xs : List ℕ) → ends_in xs ≤ length xs
ends_in-few [] = omega arith
ends_in-few (x ∷ xs) = by (nat_eq x 10) (ends_in-few xs)
  where
    by : (b : Bool) → ends_in xs ≤ length xs → (elim b [ true ↦ suc (ends_in xs) | false ↦ ends_in xs ]) ≤ suc (length xs)
    by true h = omega (arith, h)
    by false h = omega (arith, h)

behind_end-few : (k : ℕ) (xs : List ℕ) → behind_end k xs ≤ k + length xs
behind_end-few k [] = omega arith
behind_end-few k (x ∷ xs) = by (nat_eq x 10) (behind_end-few 0 xs) (behind_end-few (suc k) xs)
  where
    by : (b : Bool) → behind_end 0 xs ≤ 0 + length xs → behind_end (suc k) xs ≤ suc k + length xs
        → (elim b [ true ↦ behind_end 0 xs | false ↦ behind_end (suc k) xs ]) ≤ k + suc (length xs)
    by true h e = omega (arith, h)
    by false h e = omega (arith, e)

take-few : (n : ℕ) (xs : List ℕ) → length (take n xs) ≤ n
take-few zero xs = by xs
  where
    by : (ys : List ℕ) → length (take zero ys) ≤ zero
    by [] = omega arith
    by (y ∷ ys) = omega arith
take-few (suc n) [] = omega arith
take-few (suc n) (x ∷ xs) = let h = take-few n xs in omega (arith, h)

-- a line and a column are as few as the bytes before them
pub line-few : (source : List ℕ) (at : ℕ) → (spot_at source at).line ≤ at + 1
line-few source at = let a = ends_in-few (take at source) in let b = take-few at source in omega (arith, a, b)

pub column-few : (source : List ℕ) (at : ℕ) → (spot_at source at).column ≤ at + 1
column-few source at = let a = behind_end-few 0 (take at source) in let b = take-few at source in omega (arith, a, b)

pub column-some : (source : List ℕ) (at : ℕ) → 1 ≤ (spot_at source at).column
column-some source at = omega arith

-- a text up to a byte, and what stands between two
taken-on : (source : List ℕ) (from at : ℕ) → from ≤ at → take at source ≡ take from source ++ slice_range source from at
taken-on source from at le = let whole : at ≡ from + (at - from) = omega arith in ap (λ n. take n source) whole ∙ take-add from (at - from) source

-- the spot of a later byte
pub spot-behind : (source piece : List ℕ) (from at line column : ℕ) (known : Spot) → from ≤ at → piece ≡ slice_range source from at
    → known ≡ spot_at source from
    → line ≡ known.line + ends_in piece → behind_end (column - 1) [] ≡ behind_end (known.column - 1) piece → 1 ≤ column
    → ◌≡◌ {A = Spot} (record { line = line; column = column }) (spot_at source at)
spot-behind source piece from at line column known le is e first behind some = λ i. record { line = lines i; column = columns i }
  where
    all : take at source ≡ take from source ++ piece
    all = taken-on source from at le ∙ ap (λ p. take from source ++ p) (sym is)

    lines : line ≡ (spot_at source at).line
    lines =
        let a = ap ends_in all ∙ ends_in-append (take from source) piece in
        let b = ap (λ (s : Spot). s.line) e in
        omega (arith, first, a, b)

    columns : column ≡ (spot_at source at).column
    columns =
        let a = ap (behind_end 0) all ∙ behind_end-append 0 (take from source) piece in
        let b : known.column - 1 ≡ behind_end 0 (take from source) = ap (λ (s : Spot). s.column - 1) e ∙ omega arith in
        let c : column - 1 ≡ behind_end 0 (take at source) = behind ∙ ap (λ k. behind_end k piece) b ∙ sym a in
        omega (arith, c, some)

-- ---- the word that a term begins with is that of its last node

slice_get-map : {X Y : Type 0} (f : X → Y) (xs : List X) (i : ℕ) → slice_get (map f xs) i ≡ option_map f (slice_get xs i)
slice_get-map f [] i = refl
slice_get-map f (x ∷ xs) zero = refl
slice_get-map f (x ∷ xs) (suc i) = slice_get-map f xs i

slice_get-last : (ns : List nodes.Node) (n : nodes.Node) → slice_get (ns ++ n ∷ []) (length ns) ≡ Some n
slice_get-last [] n = refl
slice_get-last (m ∷ ns) n = slice_get-last ns n

flat-last : (t : tree.Term) → slice_get (flat t) (length (flat t) - 1) ≡ Some (record { word = head t; count = term_count (arguments t) })
flat-last (Apply w ts) =
    let own : nodes.Node = record { word = w; count = term_count ts } in
    let last : length (flat_all ts ++ own ∷ []) - 1 ≡ length (flat_all ts) = omega (arith, length-append (flat_all ts) (own ∷ [])) in
    ap (slice_get (flat_all ts ++ own ∷ [])) last ∙ slice_get-last (flat_all ts) own

some_word : (a b : nodes.Node) → ◌≡◌ {A = Option nodes.Node} (Some a) (Some b) → a.word ≡ b.word
some_word a b e = cc e

pub beginning : (source : List ℕ) (t : Term) → IsTerm source t → (ns : List Node) → ns ≡ t.nodes.items → (n : Node)
    → slice_get ns (length ns - 1) ≡ Some n → n.word.from ≡ (head (term_of source t)).at
beginning source t is ns all n last =
    let u : tree.Term = term_of source t in
    let spelled : map (node_of source) ns ≡ flat u = ap (map (node_of source)) all ∙ is.flat in
    let long : length (map (node_of source) ns) ≡ length ns = length-map ns (node_of source) in
    let found : slice_get (map (node_of source) ns) (length ns - 1) ≡ Some (node_of source n) =
    slice_get-map (node_of source) ns (length ns - 1) ∙ ap (option_map (node_of source)) last in
    let same : ◌≡◌ {A = Option nodes.Node} (Some (node_of source n)) (Some (record { word = head u; count = term_count (arguments u) })) =
    sym found ∙ ap (λ (k : ℕ). slice_get (map (node_of source) ns) (k - 1)) (sym long) ∙ ap (λ ms. slice_get ms (length ms - 1)) spelled ∙ flat-last u in
    ap (λ (w : syntax.Word). w.at) (some_word (node_of source n) (record { word = head u; count = term_count (arguments u) }) same)
