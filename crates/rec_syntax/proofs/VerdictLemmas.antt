-- What the machine answers: the specification that is spelled, or the place of the fault.
use Rattle.std.proofs.Common.{◌≡◌, ℕ, List, [], ◌∷◌, ◌++◌, Option, Some, None, refl, sym, ap, ◌∙◌}
use Rattle.rec_syntax.specs.Tokens.{Token, Placed, placed_tokens, tokens, bare}
use Rattle.rec_syntax.specs.Syntax.{Spec}
use Rattle.rec_syntax.specs.Grammar.{specification, SpecText}
use Rattle.rec_syntax.specs.Place.{CanGoOn, IsFaultPlace}
use Rattle.rec_syntax.specs.Laws.{OnlyA, FinishByA}
use Rattle.rec_syntax.specs.Inner.Machine.{Due, Done, State, to, step, then_step, run, start, Outcome, Read, Fault, stopped, outcome, outcome_of}
use Rattle.rec_syntax.proofs.FinishLemmas.{finish, finished, only_a}
use Rattle.rec_syntax.proofs.SoundLemmas.{read_is_text}
use Rattle.rec_syntax.proofs.CompleteLemmas.{text_taken}

pub run-append : (o : Option State) (us vs : List Token) → run o (us ++ vs) ≡ run (run o us) vs
run-append o [] vs = refl
run-append o (u ∷ us) vs = run-append (then_step o u) us vs

run-none : (us : List Token) → run None us ≡ None
run-none [] = refl
run-none (u ∷ us) = run-none us

-- tokens that the machine takes begin a text
pub taken_begins : (us : List Token) (c : State) → run (Some start) us ≡ Some c → CanGoOn us
taken_begins us c e =
    let f = finished c.due c.read in
    let whole : run (Some start) (us ++ finish c.due) ≡ to Done f.0 = rw (run-append, e) f.1 in
    (f.0, finish c.due, read_is_text (us ++ finish c.due) f.0 whole)

-- tokens that lead to a state are finished as the state is
finish_from : (us rest : List Token) (y : Spec) (o : Option State) → run (Some start) us ≡ o → run o rest ≡ to Done y
    → (z : Spec) × (vs : List Token) × specification z (us ++ vs) [] × OnlyA vs
finish_from us rest y None e f = absurd (cc (f, run-none rest))
finish_from us rest y (Some c) e f =
    let g = finished c.due c.read in
    let whole : run (Some start) (us ++ finish c.due) ≡ to Done g.0 = rw (run-append, e) g.1 in
    (g.0, finish c.due, read_is_text (us ++ finish c.due) g.0 whole, only_a c.due)

pub finish_by_a : FinishByA
finish_by_a us (y, rest, k) = finish_from us rest y (run (Some start) us) refl (sym (run-append (Some start) us rest) ∙ text_taken (us ++ rest) y k)

-- tokens that it refuses begin none
pub refused_begins_none : (us : List Token) (c : State) (u : Token) → run (Some start) us ≡ Some c → step c.due c.read u ≡ None → ¬ CanGoOn (us ++ u ∷ [])
refused_begins_none us c u e r (y, rest, k) =
    let taken = text_taken ((us ++ u ∷ []) ++ rest) y k in
    let stuck : run (Some start) ((us ++ u ∷ []) ++ rest) ≡ None = rw (run-append, run-append, e, r) (run-none rest) in
    absurd (cc (taken, stuck))

stopped-read : (d : Due) (y z : Spec) → stopped d y ≡ Read z → to d y ≡ to Done z
stopped-read Done y z e = let same : y ≡ z = cc in ap (to Done) same
stopped-read d y z e = absurd cc

stopped-fault : (d : Due) (y : Spec) (at : ℕ) → stopped d y ≡ Fault at → ⊥
stopped-fault Done y at e = cc
stopped-fault d y at e = cc

outcome-read : (o : Option State) (last : ℕ) (ps : List Placed) (y : Spec) → outcome o last ps ≡ Read y → run o (bare ps) ≡ to Done y
outcome-read None last ps y e = absurd cc
outcome-read (Some c) last [] y e = stopped-read c.due c.read y e
outcome-read (Some c) last (p ∷ ps) y e = outcome-read (step c.due c.read p.token) p.at ps y e

read-outcome : (o : Option State) (last : ℕ) (ps : List Placed) (y : Spec) → run o (bare ps) ≡ to Done y → outcome o last ps ≡ Read y
read-outcome None last ps y e = absurd (cc (e, run-none (bare ps)))
read-outcome (Some c) last [] y e = ap (λ (o : Option State). outcome o last []) e
read-outcome (Some c) last (p ∷ ps) y e = read-outcome (step c.due c.read p.token) p.at ps y e

-- the first token that the machine refuses
record Refusal (c : State) (ps : List Placed) (place : ℕ) : Type 0 where
  before : List Placed
  token : Token
  after : List Placed
  cut : ps ≡ before ++ record { at = place; token = token } ∷ after
  state : State
  led : run (Some c) (bare before) ≡ Some state
  refuses : step state.due state.read token ≡ None

refusal_here : (c : State) (p : Placed) (ps : List Placed) (place : ℕ) (o : Option State) → step c.due c.read p.token ≡ o → outcome o p.at ps ≡ Fault place
    → ((c' : State) → outcome (Some c') p.at ps ≡ Fault place → Refusal c' ps place) → Refusal c (p ∷ ps) place
refusal_here c p ps place None e f later =
    let here : p.at ≡ place = cc in
    record { before = []; token = p.token; after = ps; cut = rw (← here) refl; state = c; led = refl; refuses = e }
refusal_here c p ps place (Some c') e f later =
    let r = later c' f in
    let led : run (step c.due c.read p.token) (bare r.before) ≡ Some r.state = rw e r.led in
    record {
      before = p ∷ r.before;
      token = r.token;
      after = r.after;
      cut = ap (λ (qs : List Placed). p ∷ qs) r.cut;
      state = r.state;
      led = led;
      refuses = r.refuses;
    }

outcome-fault : (c : State) (last : ℕ) (ps : List Placed) (place : ℕ) → outcome (Some c) last ps ≡ Fault place → Refusal c ps place
outcome-fault c last [] place e = absurd (stopped-fault c.due c.read place e)
outcome-fault c last (p ∷ ps) place e = refusal_here c p ps place (step c.due c.read p.token) refl e (λ c' h. outcome-fault c' p.at ps place h)

-- what comes of a text
abbrev pub comes_of : List ℕ → Outcome
comes_of bytes = outcome_of (placed_tokens bytes)

-- what the machine reads is spelled
pub read_spells : (bytes : List ℕ) (y : Spec) → comes_of bytes ≡ Read y → SpecText bytes y
read_spells bytes y e = read_is_text (tokens bytes) y (outcome-read (Some start) 0 (placed_tokens bytes) y e)

-- what is spelled, the machine reads
pub spelled_is_read : (bytes : List ℕ) (y : Spec) → SpecText bytes y → comes_of bytes ≡ Read y
spelled_is_read bytes y k = read-outcome (Some start) 0 (placed_tokens bytes) y (text_taken (tokens bytes) y k)

-- the place of the fault is where it stops
pub stops_at_place : (bytes : List ℕ) (at : ℕ) → comes_of bytes ≡ Fault at → IsFaultPlace bytes at
stops_at_place bytes at e =
    let r = outcome-fault start 0 (placed_tokens bytes) at e in
    record {
      before = r.before;
      token = r.token;
      after = r.after;
      cut = r.cut;
      viable = taken_begins (bare r.before) r.state r.led;
      refused = refused_begins_none (bare r.before) r.state r.token r.led r.refuses;
    }
