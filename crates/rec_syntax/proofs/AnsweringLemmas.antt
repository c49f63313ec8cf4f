-- A turn of the reader's loop, and its end.
use Rattle.std.proofs.Common.{◌≡◌, ◌≤◌, ℕ, List, [], ◌∷◌, length, Option, Some, None, Ok, Vec, Global, refl, sym, ap, subst, ◌∙◌}
use Rattle.rec_syntax.specs.Tokens as token
use Rattle.rec_syntax.specs.Tokens.{Token, Placed}
use Rattle.rec_syntax.specs.Grammar.{SpecText}
use Rattle.rec_syntax.specs.Place.{IsFaultPlace}
use Rattle.rec_syntax.specs.Inner.Machine as machine
use Rattle.rec_syntax.specs.Inner.Machine.{State, step, stopped, outcome}
use Rattle.rec_syntax.specs.Lexemes.{tokens_from, token_of, behind}
use Rattle.rec_syntax.specs.Inner.Reader.{state_of, IsState, Steps}
use Rattle.rec_syntax.specs.declared.lexer.LexemeKind.{LexemeKind}
use Rattle.rec_syntax.specs.declared.lexer.LexemeKind.TheVariants.{End}
use Rattle.rec_syntax.specs.declared.lexer.Lexeme.{Lexeme}
use Rattle.rec_syntax.specs.declared.reader.Due.{Due}
use Rattle.rec_syntax.specs.declared.reader.Reader.{Reader}
use Rattle.rec_syntax.proofs.VerdictLemmas.{comes_of, read_spells, stops_at_place}
use Rattle.rec_syntax.proofs.DecidingLemmas.{Over, step_over}
use Rattle.rec_syntax.proofs.ReadingLemmas.{moved}

outcome-last : (c : State) (a b : ℕ) (ps : List Placed) → outcome (Some c) a ps ≡ outcome (Some c) b ps
outcome-last c a b [] = refl
outcome-last c a b (p ∷ ps) = refl

abbrev pub placed : Token → ℕ → Placed
placed t at = record { at = at; token = t }

-- what is left of the text decides what comes of it
abbrev pub Decides : List ℕ → State → List Placed → Type 0
Decides bytes c ps = outcome (Some c) 0 ps ≡ comes_of bytes

first_step : (c : State) (ps rest : List Placed) (t : Token) (at : ℕ) (o : Option State) → ps ≡ placed t at ∷ rest → step c.due c.read t ≡ o
    → outcome (Some c) 0 ps ≡ outcome o at rest
first_step c ps rest t at o cut e = ap (λ (qs : List Placed). outcome (Some c) 0 qs) cut ∙ ap (λ (x : Option State). outcome x at rest) e

-- the state after a token decides as the state before it did
pub turn : (bytes : List ℕ) (c after : State) (ps rest : List Placed) (t : Token) (at : ℕ) → Decides bytes c ps → ps ≡ placed t at ∷ rest
    → step c.due c.read t ≡ Some after → Decides bytes after rest
turn bytes c after ps rest t at h cut e = outcome-last after 0 at rest ∙ sym (first_step c ps rest t at (Some after) cut e) ∙ h

-- a token that is refused is at the fault's place
pub refused_at : (bytes : List ℕ) (c : State) (ps rest : List Placed) (t : Token) (at : ℕ) → Decides bytes c ps → ps ≡ placed t at ∷ rest
    → step c.due c.read t ≡ None → IsFaultPlace bytes at
refused_at bytes c ps rest t at h cut e = stops_at_place bytes at (sym h ∙ first_step c ps rest t at None cut e)

-- where the end is taken, the specification is spelled
pub spelled : (bytes : List ℕ) (c after : State) (ps : List Placed) (at : ℕ) → Decides bytes c ps → ps ≡ placed token.End at ∷ []
    → step c.due c.read token.End ≡ Some after → SpecText bytes after.read
spelled bytes c after ps at h cut e =
    let over : after.due ≡ machine.Done = subst Over e (step_over c.due c.read) in
    read_spells bytes after.read (sym h ∙ first_step c ps [] token.End at (Some after) cut e ∙ ap (λ (d : machine.Due). stopped d after.read) over)

-- after a token that is not the end, more follows
pub behind_is : (bytes : List ℕ) (k : LexemeKind) (to : ℕ) → (k ≡ End → ⊥) → behind bytes k to ≡ tokens_from bytes to
behind_is bytes End to h = absurd (h refl)
behind_is bytes k to h = refl

-- the reader is at an offset, in a state of which P holds with the tokens that are left
pub record Reads (source : Vec ℕ Global) (P : State → List Placed → Type 0) (from : ℕ) (d : Due) (r : Reader) : Type 0 where
  pub within : from ≤ length source.items
  pub same : r.source ≡ source
  pub state : IsState source.items d r
  pub follows : P (state_of source.items d r) (tokens_from source.items from)

-- after a token that is not the end it stands so too
pub reads_on : (source : Vec ℕ Global) (P : State → List Placed → Type 0)
    → ((c after : State) (ps rest : List Placed) (t : Token) (at : ℕ) → P c ps → ps ≡ placed t at ∷ rest → step c.due c.read t ≡ Some after → P after rest)
    → (from : ℕ) (d e : Due) (r after : Reader) (x : Lexeme) (text : List ℕ) → Reads source P from d r → (x.kind ≡ End → ⊥)
    → text ≡ r.source.items → x.to ≤ length text → tokens_from text from ≡ placed (token_of text x.kind) x.at ∷ behind text x.kind x.to
    → Steps d r x.kind (Ok e) after → after.source ≡ r.source → Reads source P x.to e after
reads_on source P goes from d e r after x text h more is within first moves same =
    let bytes = source.items in
    let first_cut = rw (is, h.same) at first in
    let cut : tokens_from bytes from ≡ placed (token_of bytes x.kind) x.at ∷ tokens_from bytes x.to =
    first_cut ∙ ap (λ (ps : List Placed). placed (token_of bytes x.kind) x.at ∷ ps) (behind_is bytes x.kind x.to more) in
    let m = moved r.source.items bytes d r after x.kind (Ok e) (ap (λ (v : Vec ℕ Global). v.items) h.same) moves in
    record {
      within = rw (is, h.same) at within;
      same = same ∙ h.same;
      state = m.1;
      follows = goes (state_of bytes d r) (state_of bytes e after) (tokens_from bytes from) (tokens_from bytes x.to) (token_of bytes x.kind) x.at
          h.follows cut m.0;
    }
