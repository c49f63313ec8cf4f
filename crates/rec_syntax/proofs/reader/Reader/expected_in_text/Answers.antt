use Rattle.std.proofs.Common.{◌≡◌, ◌↔◌, ℕ, true, List, Contains, IfOk, Result, Ok, Err, Vec, Global, subst, ap}
use Rattle.rec_syntax.specs.Tokens.{bare}
use Rattle.rec_syntax.specs.Inner.Machine.{step}
use Rattle.rec_syntax.specs.Parts.{spec_of}
use Rattle.rec_syntax.specs.Inner.Reader.{due_of, state_of}
use Rattle.rec_syntax.specs.Expected.{is_taken, AreExpected, IsAtFault}
use Rattle.rec_syntax.specs.declared.token_kind.TokenKind.{TokenKind}
use Rattle.rec_syntax.specs.declared.reader.Due.{Due}
use Rattle.rec_syntax.specs.declared.reader.Reader.{Reader}
use Rattle.rec_syntax.proofs.ExpectingLemmas.{may_stand}
use Rattle.rec_syntax.proofs.reader.Reader.expected_in_text.Goals as goal

-- just the kinds that the state takes
abbrev AreTaken : List ℕ → Due → Reader → List TokenKind → Type 0
AreTaken bytes d r ks = (k : TokenKind) → Contains ks k ↔ (is_taken (step (due_of bytes d r) (spec_of bytes r.sections)) k ≡ true)

exact : {E : Type 0} → (bytes : List ℕ) (d : Due) (r : Reader) (result : Result (Vec TokenKind Global) E) → IsAtFault bytes d r
    → IfOk result (λ ks. AreTaken bytes d r ks.items) → IfOk result (λ ks. AreExpected bytes ks.items)
exact bytes d r (Err e) h t = tt
exact bytes d r (Ok ks) h t = λ at fault k.
    let stand = may_stand (bare fault.before) (state_of bytes d r) k (h at fault) in
    (λ x. stand.0 ((t k).0 x), λ m. (t k).1 (stand.1 m))

pub returns : goal.returns
returns c =
    let bytes = c.args.self.now.source.items in
    let d = c.in_ok-due.due in
    let r = c.read_to_fault.new.self in
    let same : r.source.items ≡ bytes = ap (λ (v : Vec ℕ Global). v.items) c.read_to_fault.ensures.same in
    let taken : IfOk c.expected_kinds.result (λ ks. AreTaken bytes d r ks.items) =
    subst (λ (bs : List ℕ). IfOk c.expected_kinds.result (λ ks. (k : TokenKind) → Contains ks.items k
    ↔ (is_taken (step (due_of bs d r) (spec_of bytes r.sections)) k ≡ true))) same (c.expected_kinds.ensures (spec_of bytes r.sections)) in
    exact bytes d r c.expected_kinds.result c.in_ok-due.ensures.reached taken
