-- A turn of the reader's loop, and its end.
use Rattle.std.proofs.Common.{◌≡◌, ℕ, ◌+◌, ◌<◌, ◌≤◌, List, [], ◌∷◌, length, map, reverse, Option, Some, None, Ok, refl, sym, ap, ◌∙◌, arith}
use Rattle.rx_term.specs.Tree.{Tree, none, Appl, annotated}
use Rattle.rx_text.specs.Token as token
use Rattle.rx_text.specs.Token.{Token, tokens, kinds}
use Rattle.rx_text.specs.Place.{IsFaultPlace}
use Rattle.rx_text.specs.Machine as machine
use Rattle.rx_text.specs.Machine.{State, step, run, read, tree_of, next_state, fault_at}
use Rattle.rx_text.specs.Nodes.{top}
use Rattle.rx_text.specs.Lexemes.{tokens_after, token_of, behind, Advances}
use Rattle.rx_text.specs.Reader.{made_of, frames_of, due_of, state_of, total, node_count, IsState, Steps}
use Rattle.rx_text.specs.Answer.{AreRead}
use Rattle.rx_text.specs.declared.lexer.LexemeKind.{LexemeKind}
use Rattle.rx_text.specs.declared.lexer.LexemeKind.TheVariants.{End}
use Rattle.rx_text.specs.declared.lexer.Lexeme.{Lexeme}
use Rattle.rx_text.specs.declared.nodes.Node.{Node}
use Rattle.rx_text.specs.declared.reader.Frame.{Frame}
use Rattle.rx_text.specs.declared.reader.Reader.{Reader}
use Rattle.rx_text.specs.declared.reader.Due.{Due}
use Rattle.rx_text.specs.declared.reader.Due.TheVariants as due
use Rattle.rx_text.proofs.MachineLemmas.{read_spelled}
use Rattle.rx_text.proofs.FaultLemmas.{is_fault_place}

-- what is left of the text decides what is answered
pub record Decides (bytes : List ℕ) (s : State) (ps : List (ℕ × Token)) : Type 0 where
  pub fault : fault_at ps s.0 s.1 ≡ fault_at (tokens bytes) machine.AtTerm []
  pub tree : tree_of (run (map (λ t. t.1) ps) s.0 s.1) ≡ read (kinds bytes)

pub goes_on : (bytes : List ℕ) (s r : State) (ps rest : List (ℕ × Token)) (t : Token) (at : ℕ) → Decides bytes s ps → ps ≡ (at, t) ∷ rest
    → step s.0 s.1 t ≡ Some r → Decides bytes r rest
goes_on bytes s r ps rest t at d cut e =
    let f : fault_at ps s.0 s.1 ≡ fault_at rest r.0 r.1 = ap (λ qs. fault_at qs s.0 s.1) cut
    ∙ ap (λ o. next_state (Some at) (λ n gs. fault_at rest n gs) o) e in
    let k : tree_of (run (map (λ t. t.1) ps) s.0 s.1) ≡ tree_of (run (map (λ t. t.1) rest) r.0 r.1) =
    ap (λ qs. tree_of (run (map (λ t. t.1) qs) s.0 s.1)) cut ∙ ap (λ o. tree_of (next_state None (λ n gs. run (map (λ t. t.1) rest) n gs) o)) e in
    record { fault = sym f ∙ d.fault; tree = sym k ∙ d.tree }

pub refused_at : (bytes : List ℕ) (s : State) (ps rest : List (ℕ × Token)) (t : Token) (at : ℕ) → Decides bytes s ps → ps ≡ (at, t) ∷ rest
    → step s.0 s.1 t ≡ None → IsFaultPlace bytes at
refused_at bytes s ps rest t at d cut e =
    let f : fault_at ps s.0 s.1 ≡ Some at = ap (λ qs. fault_at qs s.0 s.1) cut ∙ ap (λ o. next_state (Some at) (λ n gs. fault_at rest n gs) o) e in
    is_fault_place bytes at (sym d.fault ∙ f)

pub behind_is : (bytes : List ℕ) (k : LexemeKind) (to : ℕ) → (k ≡ End → ⊥) → behind bytes k to ≡ tokens_after bytes to
behind_is bytes End to h = absurd (h refl)
behind_is bytes k to h = refl

pub takes_byte : (k : LexemeKind) (from to : ℕ) → (k ≡ End → ⊥) → Advances k from to → from < to
takes_byte End from to h a = absurd (h refl)
takes_byte k from to h a = a

-- the reader stands at an offset, in a state of which P holds with the tokens that are left
pub record Reads (bytes : List ℕ) (P : State → List (ℕ × Token) → Type 0) (from : ℕ) (d : Due) (r : Reader) : Type 0 where
  pub within : from ≤ length bytes
  pub same : r.bytes.now ≡ bytes
  pub state : IsState bytes d r.frames.items r.nodes.items
  pub few : node_count d r ≤ from
  pub follows : P (state_of bytes d r.frames.items r.nodes.items) (tokens_after bytes from)

-- behind a token that is not the end it stands so too
pub reads_on : (bytes : List ℕ) (P : State → List (ℕ × Token) → Type 0)
    → ((s r : State) (ps rest : List (ℕ × Token)) (t : Token) (at : ℕ) → P s ps → ps ≡ (at, t) ∷ rest → step s.0 s.1 t ≡ Some r → P r rest)
    → (from : ℕ) (d e : Due) (r after : Reader) (x : Lexeme) → Reads bytes P from d r → (x.kind ≡ End → ⊥)
    → x.to ≤ length r.bytes.now → Advances x.kind from x.to → tokens_after r.bytes.now from ≡ (x.at, token_of r.bytes.now x.kind) ∷ behind r.bytes.now
    x.kind x.to
    → Steps d r x.kind (Ok e) after → after.bytes.now ≡ r.bytes.now → node_count e after ≤ node_count d r + 1 → Reads bytes P x.to e after
reads_on bytes P goes from d e r after x h more within advances first moves same few =
    let m = rw (h.same) at moves in
    let first_cut = rw (h.same) at first in
    let cut : tokens_after bytes from ≡ (x.at, token_of bytes x.kind) ∷ tokens_after bytes x.to =
    first_cut ∙ ap (λ (ps : List (ℕ × Token)). (x.at, token_of bytes x.kind) ∷ ps) (behind_is bytes x.kind x.to more) in
    let far : from < x.to = takes_byte x.kind from x.to more advances in
    record {
      within = rw (h.same) at within;
      same = same ∙ h.same;
      state = m.1;
      few = omega (arith, few, h.few);
      follows = goes (state_of bytes d r.frames.items r.nodes.items) (state_of bytes e after.frames.items after.nodes.items) (tokens_after bytes from)
          (tokens_after bytes x.to) (token_of bytes x.kind) x.at h.follows cut m.0;
    }

-- the end is read behind a whole term alone
abbrev pub IsEnded : State → Type 0
IsEnded s = (t : Tree) × (s ≡ (machine.Done t, []))

pub some_same : {s r : State} → ◌≡◌ {A = Option State} (Some s) (Some r) → s ≡ r
some_same e = cc e

text_ended : (t : Tree) (fs : List machine.Frame) (s : State) → machine.end_text t fs ≡ Some s → IsEnded s
text_ended t [] s e = (t, sym (some_same e))
text_ended t (f ∷ fs) s e = absurd (cc e)

pub step_ended : (m : machine.Due) (fs : List machine.Frame) (s : State) → step m fs token.End ≡ Some s → IsEnded s
step_ended machine.AtTerm fs s e = absurd (cc e)
step_ended (machine.First f) fs s e = absurd (cc e)
step_ended (machine.Named n q) fs s e = text_ended (Appl n q none none) fs s e
step_ended (machine.Body u) fs s e = text_ended (annotated u none) fs s e
step_ended (machine.Whole u) fs s e = text_ended u fs s e
step_ended (machine.Done u) fs s e = absurd (cc e)

done_due : (bytes : List ℕ) (d : Due) (made : List Tree) (t : Tree) → due_of bytes d made ≡ machine.Done t → (d ≡ due.Done) × (top made ≡ t)
done_due bytes due.AtTerm made t e = absurd (cc e)
done_due bytes (due.First o) made t e = absurd (cc e)
done_due bytes (due.Named w) made t e = absurd (cc e)
done_due bytes due.Body made t e = absurd (cc e)
done_due bytes due.Whole made t e = absurd (cc e)
done_due bytes due.Done made t e = let same : top made ≡ t = cc e in (refl, same)

none_open : (bytes : List ℕ) (fs : List Frame) (made : List Tree) → frames_of bytes fs made ≡ [] → fs ≡ []
none_open bytes [] made e = refl
none_open bytes (f ∷ fs) made e = absurd (cc e)

one_left : (made : List Tree) (t : Tree) → length made ≡ 1 → top made ≡ t → made ≡ t ∷ []
one_left [] t e h = absurd (omega arith)
one_left (u ∷ []) t e h = ap (λ x. x ∷ []) h
one_left (u ∷ v ∷ made) t e h = absurd (omega arith)

pub is_read : (bytes : List ℕ) (s : State) (ps : List (ℕ × Token)) (at : ℕ) (d : Due) (frames : List Frame) (ns : List Node) → Decides bytes s ps
    → ps ≡ (at, token.End) ∷ []
    → step s.0 s.1 token.End ≡ Some (state_of bytes d frames ns) → IsState bytes d frames ns → AreRead bytes ns
is_read bytes s ps at d frames ns decides cut e state =
    let made : List Tree = made_of bytes ns in
    let ended = step_ended s.0 s.1 (state_of bytes d frames ns) e in
    let t : Tree = ended.0 in
    let is_done : due_of bytes d made ≡ machine.Done t = ap (λ (x : State). x.0) ended.1 in
    let due_is = done_due bytes d made t is_done in
    let closed : reverse frames ≡ [] = none_open bytes (reverse frames) _ (ap (λ (x : State). x.1) ended.1) in
    let count : total (reverse frames) + 1 ≡ length made = rw (due_is.0) at state.stack.counted in
    let one : length made ≡ 1 = sym count ∙ ap (λ fs. total fs + 1) closed in
    let read_is : read (kinds bytes) ≡ Some t
    = sym decides.tree ∙ ap (λ qs. tree_of (run (map (λ t. t.1) qs) s.0 s.1)) cut
    ∙ ap (λ o. tree_of (next_state None (λ n gs. run [] n gs) o)) (e ∙ ap (λ (x : State). Some x) ended.1) in (
      t,
      read_spelled (kinds bytes) t read_is,
      record { alone = one_left made t one due_is.1; enough = state.stack.enough; names = state.stack.names },
      state.stack.proper,
    )
