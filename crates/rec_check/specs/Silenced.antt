-- Comments that silence warnings.
--     allowance text f       the comment that silences a warning
--     is_silenced text f     whether the text has this comment
--     unsilenced text fs     the warnings that no comment silences
use Rattle.std.specs.Prelude.{ℕ, zero, suc, ◌-◌, ◌==◌, Bool, not, if◌then◌else◌, List, [], ◌∷◌, ◌++◌}
use Rattle.std.specs.Prelude.{codes, filter, length, take}
use Rattle.std.specs.Char.{is_ascii_whitespace}
use Rattle.std.specs.List.{list_any, slice_range, suffix_len}
use Rattle.std.specs.Str.{bytes_eq}
use Rattle.rec_syntax.specs.Tokens.{line_length}
use Rattle.rec_check.specs.Findings.{Found}
use Rattle.rec_check.specs.Lines.{code_of}

-- comments covered bytes: the comments, each from after its % to the end of its line; the first
-- `covered` bytes belong to the comment before
abbrev pub comments : ℕ → List ℕ → List (List ℕ)
comments covered [] = []
comments (suc covered) (b ∷ bytes) = comments covered bytes
comments zero (b ∷ bytes) = if b == 37
    then take (line_length bytes) bytes ∷ comments (line_length bytes) bytes
    else comments zero bytes

-- trimmed bytes: without the white space at the end
abbrev pub trimmed : List ℕ → List ℕ
trimmed bytes = take (length bytes - suffix_len is_ascii_whitespace bytes) bytes

-- has_comment text phrase: a comment of the text is this phrase, and then white space only
abbrev pub has_comment : List ℕ → List ℕ → Bool
has_comment text phrase = list_any (λ c. bytes_eq (trimmed c) phrase) (comments 0 text)

-- allowance text f: the comment after % that silences a warning: its code and its word
abbrev pub allowance : List ℕ → Found → List ℕ
allowance text f =
    codes " recw: allow " ++ code_of f.kind ++ codes " " ++ slice_range text f.at f.end

-- is_silenced text f: a comment of the text silences the warning
abbrev pub is_silenced : List ℕ → Found → Bool
is_silenced text f = has_comment text (allowance text f)

-- unsilenced text fs: the warnings that no comment silences
abbrev pub unsilenced : List ℕ → List Found → List Found
unsilenced text fs = filter (λ f. not (is_silenced text f)) fs
