-- Comments that silence warnings.
use Rattle.std.proofs.Common.{refl, sym, ap, ◌∙◌}
use Rattle.std.proofs.lemmas.Bool.Decides.{Decides-eqb}
use Rattle.std.proofs.lemmas.List.{append-nil, map-append}
use Rattle.std.proofs.lemmas.List.Elements.{filter-append}
use Rattle.std.proofs.lemmas.Slice.Eq.{starts_is}
use Rattle.std.specs.Prelude.{ℕ, zero, suc, ◌≡◌, ◌||◌, Bool, true, false, not, cond, List, [], ◌∷◌, ◌++◌, codes, drop, is_some, nat_eq, take}
use Rattle.std.specs.List.{list_any, slice_range, starts_with}
use Rattle.std.specs.Str.{bytes_eq}
use Rattle.rec_syntax.specs.Tokens.{line_length}
use Rattle.rec_sorts.proofs.KeptLemmas.{bytes_eq-eq}
use Rattle.rec_check.specs.Findings.{Found, as_diagnostic, as_diagnostics}
use Rattle.rec_check.specs.Inner.Allowances.{allowed, allowing, has_allowance, is_allowance}
use Rattle.rec_check.specs.Lines.{code_of}
use Rattle.rec_check.specs.Lookups.{number_in}
use Rattle.rec_check.specs.Silenced.{allowance, comments, is_silenced, trimmed, unsilenced}
use Rattle.rec_check.specs.declared.finding.Diagnostic.{Diagnostic}
use Rattle.rec_check.specs.declared.names.Names.{Names}

-- ---- comments

pub comments-covered : (n : ℕ) (bytes : List ℕ) → comments n bytes ≡ comments 0 (drop n bytes)
comments-covered zero [] = refl
comments-covered zero (b ∷ bytes) = refl
comments-covered (suc n) [] = refl
comments-covered (suc n) (b ∷ bytes) = comments-covered n bytes

-- a byte that begins a comment
pub has-comment : (after phrase : List ℕ)
    → has_allowance (37 ∷ after) phrase
    ≡ is_allowance (trimmed (take (line_length after) after)) phrase || has_allowance (drop (line_length after) after) phrase
has-comment after phrase =
    ap (λ cs. is_allowance (trimmed (take (line_length after) after)) phrase || list_any (λ c. bytes_eq (trimmed c) (allowing phrase)) cs)
    (comments-covered (line_length after) after)

-- a comment that does not begin like an allowance
pub no_allowance : (bytes phrase : List ℕ) (r : Bool) → r ≡ starts_with nat_eq bytes (codes " recw: allow ") → r ≡ false
    → is_allowance bytes phrase ≡ false
no_allowance bytes phrase r e denied = by_test (is_allowance bytes phrase) refl
  where
    by_test : (t : Bool) → is_allowance bytes phrase ≡ t → is_allowance bytes phrase ≡ false
    by_test false is = is
    by_test true is =
        let there : r ≡ true = (starts_is Decides-eqb bytes (codes " recw: allow ") r e).1 phrase (bytes_eq-eq bytes (allowing phrase) is) in
        absurd (cc (sym there ∙ denied))

-- ---- tests

pub or-false : (b : Bool) → b || false ≡ b
or-false true = refl
or-false false = refl

-- one comment more is known
pub known-more : (old new own rest whole : Bool) → new ≡ own || old → whole ≡ own || rest → new || rest ≡ old || whole
known-more old new own rest whole e f = ap (λ b. b || rest) e ∙ swap own old rest ∙ ap (λ b. old || b) (sym f)
  where
    swap : (a b c : Bool) → (a || b) || c ≡ b || (a || c)
    swap true true c = refl
    swap true false c = refl
    swap false b c = refl

-- one warning more
pub kept_more : (text : List ℕ) (old : List Found) (ds : List Diagnostic) (d : Diagnostic) (new : List Found) → old ≡ unsilenced text (as_diagnostics ds)
    → new ≡ old ++ unsilenced text (as_diagnostic d ∷ []) → new ≡ unsilenced text (as_diagnostics (ds ++ d ∷ []))
kept_more text old ds d new e f =
    f
    ∙ ap (λ fs. fs ++ unsilenced text (as_diagnostic d ∷ [])) e
    ∙ sym (filter-append (λ g. not (is_silenced text g)) (as_diagnostics ds) (as_diagnostic d ∷ []))
    ∙ ap (unsilenced text) (sym (map-append as_diagnostic ds (d ∷ [])))

-- what a lookup says of a warning
pub silenced-known : (names : Names) (text : List ℕ) (f : Found) (bytes : List ℕ) (b : Bool) → ((phrase : List ℕ) → allowed names phrase ≡ has_allowance text phrase)
    → b ≡ is_some (number_in names bytes) → bytes ≡ allowance text f → b ≡ is_silenced text f
silenced-known names text f bytes b h e is =
    e ∙ ap (λ xs. is_some (number_in names xs)) is ∙ h (code_of f.kind ++ codes " " ++ slice_range text f.at f.end)

-- a warning is kept, or left out
pub kept_own : (text : List ℕ) (old new : List Diagnostic) (d : Diagnostic) (b : Bool) → b ≡ is_silenced text (as_diagnostic d) → b ≡ false
    → new ≡ old ++ d ∷ [] → as_diagnostics new ≡ as_diagnostics old ++ unsilenced text (as_diagnostic d ∷ [])
kept_own text old new d true is e push = absurd (cc e)
kept_own text old new d false is e push =
    ap as_diagnostics push
    ∙ map-append as_diagnostic old (d ∷ [])
    ∙ ap (λ (t : Bool). as_diagnostics old ++ cond (not t) (as_diagnostic d ∷ []) []) is

pub left_out : (text : List ℕ) (old : List Diagnostic) (d : Diagnostic) (b : Bool) → b ≡ is_silenced text (as_diagnostic d) → b ≡ true
    → as_diagnostics old ≡ as_diagnostics old ++ unsilenced text (as_diagnostic d ∷ [])
left_out text old d false is e = absurd (cc e)
left_out text old d true is e =
    sym (append-nil (as_diagnostics old)) ∙ ap (λ (t : Bool). as_diagnostics old ++ cond (not t) (as_diagnostic d ∷ []) []) is
