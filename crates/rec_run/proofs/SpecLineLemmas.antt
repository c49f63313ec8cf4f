-- The lines of a specification's terms and of given ones.
use Rattle.std.proofs.Common.{get_or, length, ap₂, append_assoc, ◌≡◌, ℕ, ◌-◌, ◌<◌, ◌^◌, Bool, true}
use Rattle.std.proofs.Common.{cond, false, List, [], ◌∷◌, ◌++◌, refl, sym, ap, ◌∙◌, append-nil, arith}
use Rattle.std.specs.Prelude.{flat_map, map, codes, decimal, nat_le}
use Rattle.std.specs.Fmt.{signed_decimal}
use Rattle.rx_term.specs.Parts.{part_count}
use Rattle.rx_term.specs.Tree.{Tree, Trees, Int, Appl, Items, Hole, annotated, annotations, none}
use Rattle.rx_text.specs.Canon.{canon, canon_all, enclosed, name_text, no_arguments}
use Rattle.rx_table.specs.Table.{table}
use Rattle.rec_syntax.specs.Syntax.{Term, Spec}
use Rattle.rec_sorts.specs.Evaluation.{Outcome, Done, Over, Eval, term_of}
use Rattle.rx_run.specs.Bytes.{newlines}
use Rattle.rec_run.specs.Choice.{given_chosen, own_chosen}
use Rattle.rec_run.specs.GivenTerms.{given_lines, given_text}
use Rattle.rx_run.specs.Due.{steps_text}
use Rattle.rec_run.specs.Output.{limit_text, own_shown, Shown, notes_text, Task, lines, line}
use Rattle.rec_run.specs.Output.{Printed, Whole, Longer, bytes_text, figures, printed, sized, value_line, value_text}
use Rattle.rec_run.specs.declared.options.LimitLines.{LimitLines}
use Rattle.rec_run.specs.declared.options.LimitLines.TheVariants.{Bare, Annotated}
use Rattle.rec_run.specs.declared.options.ValueForm.{ValueForm}
use Rattle.rec_run.specs.declared.options.ValueForm.TheVariants.{Plain, Within, Table}
use Rattle.rec_run.specs.Reading.{evaluation_text, line_text}
use Rattle.rec_engine.proofs.ValueTreeLemmas.{value_is_applied}
use Rattle.rx_run.proofs.NewlineLemmas.{no_ends}
use Rattle.rec_run.proofs.ChoiceLemmas.{chosen-alone, chosen-parts}
use Rattle.rec_run.proofs.LineEndLemmas.{AreInLine, IsInLine, annotated-in_line, applied-in_line, canon-newlines, decimal-newlines, notes-newlines, table-newlines}
use Rattle.rx_run.proofs.LineFrontLemmas.{lines_of, newlines-lines_of, NoEnds}

-- a line is its text and a line end
abbrev own : Term → Task
own t = record { term = t; notes = none }

abbrev given : Tree → Task
given u = record { term = term_of u; notes = annotations u }

line-evaluation_text : (notes : Trees) (shown : Shown) (n : ℕ) (o : Outcome Tree) → ◌≡◌ {A = List ℕ} (elim o [
  | Done v left ↦ value_line shown notes (n - left) (annotated v notes) ++ codes "\n"
  | Over ↦ limit_text shown.limits n notes ++ codes "\n"
]) (evaluation_text notes shown n o ++ codes "\n")
line-evaluation_text notes shown n (Done v left) = refl
line-evaluation_text notes shown n Over = refl

own_lines : (y : Spec) (shown : Shown) (n : ℕ) (ts : List Term) (more : List Task)
    → flat_map (λ l. l) (map (line y shown n) (map own ts ++ more)) ≡ lines_of (line_text y shown n) ts ++ flat_map (λ l. l) (map (line y shown n) more)
own_lines y shown n [] more = refl
own_lines y shown n (t ∷ ts) more =
    ap₂ (λ l ls. l ++ ls) (line-evaluation_text none shown n (Eval y n [] t)) (own_lines y shown n ts more)
    ∙ sym (append_assoc (line_text y shown n t ++ codes "\n") (lines_of (line_text y shown n) ts) (flat_map (λ l. l) (map (line y shown n) more)))

given_lines_of : (y : Spec) (shown : Shown) (n : ℕ) (us : List Tree)
    → flat_map (λ l. l) (map (line y shown n) (map given us)) ≡ lines_of (given_text y shown n) us
given_lines_of y shown n [] = refl
given_lines_of y shown n (u ∷ us) = ap₂ (λ l ls. l ++ ls) (line-evaluation_text (annotations u) shown n (Eval y n [] (term_of u))) (given_lines_of y shown n us)

-- the lines of a specification without given terms
pub lines-own : (y : Spec) (shown : Shown) (n : ℕ) → lines y [] shown n ≡ lines_of (line_text y shown n) (own_chosen shown.terms y.terms)
lines-own y shown n =
    let ts = own_chosen shown.terms y.terms in
    ap (λ tasks. flat_map (λ l. l) (map (line y shown n) tasks)) (chosen-alone shown.terms y)
    ∙ own_lines y shown n ts [] ∙ append-nil (lines_of (line_text y shown n) ts)

-- they have no annotations, so limit lines have none
value_text-any : (limits : LimitLines) (numbers : List ℕ) (p : Printed) → value_text limits none numbers p ≡ value_text Bare none numbers p
value_text-any limits numbers (Whole text) = refl
value_text-any Bare numbers (Longer most) = refl
value_text-any Annotated numbers (Longer most) = append-nil (codes "!bytes " ++ decimal most)

limit_text-any : (limits : LimitLines) (n : ℕ) → limit_text limits n none ≡ limit_text Bare n none
limit_text-any Bare n = refl
limit_text-any Annotated n = append-nil (codes "!limit " ++ decimal n)

own_text-any : (shown : Shown) (n : ℕ) (o : Outcome Tree)
    → evaluation_text none shown n o ≡ evaluation_text none (own_shown shown) n o
own_text-any shown n (Done v left) = value_text-any shown.limits (figures shown (n - left) (annotated v none)) (printed shown.form (annotated v none))
own_text-any shown n Over = limit_text-any shown.limits n

own_lines-any : (y : Spec) (shown : Shown) (n : ℕ) (ts : List Term)
    → lines_of (line_text y shown n) ts ≡ lines_of (line_text y (own_shown shown) n) ts
own_lines-any y shown n [] = refl
own_lines-any y shown n (t ∷ ts) = ap₂ (λ text more. text ++ codes "\n" ++ more) (own_text-any shown n (Eval y n [] t)) (own_lines-any y shown n ts)

pub lines-bare : (y : Spec) (shown : Shown) (n : ℕ)
    → lines y [] shown n ≡ lines_of (line_text y (own_shown shown) n) (own_chosen shown.terms y.terms)
lines-bare y shown n = lines-own y shown n ∙ own_lines-any y shown n (own_chosen shown.terms y.terms)

-- those of given terms stand behind them
pub lines-both : (y : Spec) (us : List Tree) (shown : Shown) (n : ℕ)
    → lines y us shown n ≡ lines y [] shown n ++ given_lines y shown n (given_chosen shown.terms (length y.terms) us)
lines-both y us shown n =
    let vs = given_chosen shown.terms (length y.terms) us in
    ap (λ tasks. flat_map (λ l. l) (map (line y shown n) tasks)) (chosen-parts shown.terms y us)
    ∙ own_lines y shown n (own_chosen shown.terms y.terms) (map given vs)
    ∙ ap₂ (λ l ls. l ++ ls) (sym (lines-own y shown n)) (given_lines_of y shown n vs)

steps-newlines : (counted : Bool) (steps : ℕ) → steps < 2 ^ 64 → newlines (steps_text counted steps) ≡ 0
steps-newlines false steps h = refl
steps-newlines true steps h = no_ends (codes "\t") (decimal steps) refl (decimal-newlines steps)

sized-newlines : (sizes : Bool) (u : Tree) (text : List ℕ) → newlines text ≡ 0 → newlines (sized sizes u text) ≡ 0
sized-newlines false u text h = h
sized-newlines true u text h =
    no_ends (text ++ codes "\t") (decimal (part_count u)) (no_ends text (codes "\t") h refl) (decimal-newlines (part_count u))

figures-newlines : (shown : Shown) (steps : ℕ) (u : Tree) → steps < 2 ^ 64 → newlines (figures shown steps u) ≡ 0
figures-newlines shown steps u h = sized-newlines shown.sizes u (steps_text shown.count steps) (steps-newlines shown.count steps h)

-- annotations stand behind a text without annotations
pub canon_annotated : (v : Tree) (notes : Trees) → annotations v ≡ none → canon (annotated v notes) ≡ canon v ++ notes_text notes
canon_annotated (Int z anns) notes e = sym (ap (λ a. canon (Int z a) ++ notes_text notes) e ∙ ap (λ x. x ++ notes_text notes) (append-nil (signed_decimal z)))
canon_annotated (Appl name quoted args anns) notes e =
    let text = name_text name quoted ++ enclosed 40 args (canon_all args) 41 (no_arguments name quoted) in
    sym (ap (λ a. canon (Appl name quoted args a) ++ notes_text notes) e ∙ ap (λ x. x ++ notes_text notes) (append-nil text))
canon_annotated (Items items anns) notes e = sym (ap (λ a. canon (Items items a) ++ notes_text notes) e
    ∙ append_assoc (91 ∷ canon_all items) (93 ∷ []) (notes_text notes))
canon_annotated (Hole inner anns) notes e = sym (ap (λ a. canon (Hole inner a) ++ notes_text notes) e
    ∙ append_assoc (60 ∷ canon inner) (62 ∷ []) (notes_text notes))

bare-newlines : (n : ℕ) → n < 2 ^ 64 → newlines (codes "!limit " ++ decimal n) ≡ 0
bare-newlines n h = no_ends (codes "!limit ") (decimal n) refl (decimal-newlines n)

limit-newlines : (limits : LimitLines) (n : ℕ) (notes : Trees) → newlines (notes_text notes) ≡ 0 → n < 2 ^ 64 → newlines (limit_text limits n notes) ≡ 0
limit-newlines Bare n notes k h = bare-newlines n h
limit-newlines Annotated n notes k h = no_ends (codes "!limit " ++ decimal n) (notes_text notes) (bare-newlines n h) k

bare_bytes-newlines : (most : ℕ) → newlines (codes "!bytes " ++ decimal most) ≡ 0
bare_bytes-newlines most = no_ends (codes "!bytes ") (decimal most) refl (decimal-newlines most)

bytes-newlines : (limits : LimitLines) (most : ℕ) (notes : Trees) → newlines (notes_text notes) ≡ 0 → newlines (bytes_text limits most notes) ≡ 0
bytes-newlines Bare most notes k = bare_bytes-newlines most
bytes-newlines Annotated most notes k = no_ends (codes "!bytes " ++ decimal most) (notes_text notes) (bare_bytes-newlines most) k

-- the line of a value without line ends, in each form
within-newlines : (limits : LimitLines) (notes : Trees) (numbers text : List ℕ) (most : ℕ) (b : Bool) → newlines (notes_text notes) ≡ 0
    → newlines numbers ≡ 0 → newlines text ≡ 0 → newlines (value_text limits notes numbers (cond b (Whole text) (Longer most))) ≡ 0
within-newlines limits notes numbers text most true k h e = no_ends text numbers e h
within-newlines limits notes numbers text most false k h e = bytes-newlines limits most notes k

value_text-newlines : (limits : LimitLines) (notes : Trees) (numbers : List ℕ) (u : Tree) (form : ValueForm) → AreInLine notes
    → newlines numbers ≡ 0 → IsInLine u → newlines (value_text limits notes numbers (printed form u)) ≡ 0
value_text-newlines limits notes numbers u Plain k h e = no_ends (canon u) numbers (canon-newlines u e) h
value_text-newlines limits notes numbers u (Within most) k h e =
    within-newlines limits notes numbers (canon u) most (nat_le (length (canon u)) most) (notes-newlines notes k) h (canon-newlines u e)
value_text-newlines limits notes numbers u Table k h e = no_ends (canon (table u)) numbers (table-newlines u e) h

evaluation_text-newlines : (y : Spec) (notes : Trees) (shown : Shown) (n : ℕ) (t : Term) (o : Outcome Tree) → AreInLine notes
    → n < 2 ^ 64 → Eval y n [] t ≡ o → newlines (evaluation_text notes shown n o) ≡ 0
evaluation_text-newlines y notes shown n t (Done v left) k h e =
    let u = annotated v notes in
    value_text-newlines shown.limits notes (figures shown (n - left) u) u shown.form k
    (figures-newlines shown (n - left) u (omega (arith, h)))
    (annotated-in_line v notes (applied-in_line v (value_is_applied y n t v left e)) k)
evaluation_text-newlines y notes shown n t Over k h e = limit-newlines shown.limits n notes (notes-newlines notes k) h

-- a line's text has no line end
pub line_text-newlines : (y : Spec) (shown : Shown) (n : ℕ) → n < 2 ^ 64 → (ts : List Term) → NoEnds (line_text y shown n) ts
line_text-newlines y shown n h ts k d low = evaluation_text-newlines y none shown n (get_or ts k d) (Eval y n [] (get_or ts k d)) tt h refl

-- so the lines of a specification without given terms are as many as its chosen terms
pub newlines-own : (y : Spec) (shown : Shown) (n : ℕ) → n < 2 ^ 64 → newlines (lines y [] shown n) ≡ length (own_chosen shown.terms y.terms)
newlines-own y shown n h =
    let ts = own_chosen shown.terms y.terms in
    ap newlines (lines-own y shown n) ∙ newlines-lines_of (line_text y shown n) ts (line_text-newlines y shown n h ts)

-- nor has that of a given term whose annotations have none
pub given_text-newlines : (y : Spec) (shown : Shown) (n : ℕ) → n < 2 ^ 64 → (u : Tree) → AreInLine (annotations u)
    → newlines (given_text y shown n u) ≡ 0
given_text-newlines y shown n h u k = evaluation_text-newlines y (annotations u) shown n (term_of u) (Eval y n [] (term_of u)) k h refl
