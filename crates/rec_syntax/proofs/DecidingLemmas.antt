-- Each text is read, or has a fault.
use Rattle.std.proofs.Common.{◌≡◌, ◌⊎◌, ℕ, zero, suc, ◌+◌, List, [], ◌∷◌, Option, Some, None, refl, sym, ◌∙◌, inl, inr}
use Rattle.rec_syntax.specs.Tokens.{Token, End, Placed, extra, token_at, in_front, scan, placed_tokens}
use Rattle.rec_syntax.specs.Syntax.{Spec, Term, Apply, none}
use Rattle.rec_syntax.specs.Inner.Machine.{Frame, Role, Left, Right, CondLeft, CondRight, InEval, Due, Called, After, Ended}
use Rattle.rec_syntax.specs.Inner.Machine.{Done, State, start, complete, after, step, Outcome, Read, Fault, outcome}
use Rattle.rec_syntax.specs.Grammar.{SpecText}
use Rattle.rec_syntax.specs.Place.{IsFaultPlace}
use Rattle.rec_syntax.specs.Laws.{OneReading, ReadOrFault}
use Rattle.rec_syntax.proofs.VerdictLemmas.{comes_of, read_spells, spelled_is_read, stops_at_place}

-- the last token is the end
abbrev Closed : List Placed → Type 0
Closed [] = ⊥
Closed (p ∷ []) = p.token ≡ End
Closed (p ∷ q ∷ ps) = Closed (q ∷ ps)

longer : (p : Placed) (ps : List Placed) → Closed ps → Closed (p ∷ ps)
longer p [] h = absurd h
longer p (q ∷ ps) h = h

in_front_closed : (o : Option Token) (at : ℕ) (ps : List Placed) → Closed ps → Closed (in_front o at ps)
in_front_closed None at ps h = h
in_front_closed (Some t) at ps h = longer (record { at = at; token = t }) ps h

scan_closed : (at covered : ℕ) (bytes : List ℕ) → Closed (scan at covered bytes)
scan_closed at covered [] = refl
scan_closed at (suc covered) (b ∷ bytes) = scan_closed (at + 1) covered bytes
scan_closed at zero (b ∷ bytes) = in_front_closed (token_at at b bytes) at (scan (at + 1) (extra b bytes) bytes) (scan_closed (at + 1) (extra b bytes) bytes)

-- nothing is due after the end
abbrev pub Over : Option State → Type 0
Over None = Unit {0}
Over (Some c) = c.due ≡ Done

complete_over : (p : Role) (t : Term) (y : Spec) → Over (complete p t y End)
complete_over Left t y = tt
complete_over (Right l) t y = tt
complete_over (CondLeft l r cs) t y = tt
complete_over (CondRight l r cs x e) t y = tt
complete_over InEval t y = tt

after_over : (p : Role) (t : Term) (fs : List Frame) (y : Spec) → Over (after p t fs y End)
after_over p t [] y = complete_over p t y
after_over p t (f ∷ fs) y = tt

pub step_over : (d : Due) (y : Spec) → Over (step d y End)
step_over (Called p w fs) y = after_over p (Apply w none) fs y
step_over (After p t fs) y = after_over p t fs y
step_over Ended y = refl
step_over d y = tt

-- read, or a fault
abbrev Decided : Outcome → Type 0
Decided o = ((y : Spec) × (o ≡ Read y)) ⊎ ((at : ℕ) × (o ≡ Fault at))

over_decided : (o : Option State) (last : ℕ) → Over o → Decided (outcome o last [])
over_decided None last h = inr (last, refl)
over_decided (Some c) last h = rw h (inl (c.read, refl))

end_decided : (c : State) (t : Token) (at : ℕ) → t ≡ End → Decided (outcome (step c.due c.read t) at [])
end_decided c t at e = rw e (over_decided (step c.due c.read End) at (step_over c.due c.read))

decided : (o : Option State) (last : ℕ) (ps : List Placed) → Closed ps → Decided (outcome o last ps)
decided None last ps h = inr (last, refl)
decided (Some c) last [] h = absurd h
decided (Some c) last (p ∷ []) h = end_decided c p.token p.at h
decided (Some c) last (p ∷ q ∷ ps) h = decided (step c.due c.read p.token) p.at (q ∷ ps) h

read_or_fault_by : (bytes : List ℕ) → Decided (comes_of bytes) → ((y : Spec) × SpecText bytes y) ⊎ ((at : ℕ) × IsFaultPlace bytes at)
read_or_fault_by bytes (inl (y, e)) = inl (y, read_spells bytes y e)
read_or_fault_by bytes (inr (at, e)) = inr (at, stops_at_place bytes at e)

pub read_or_fault : ReadOrFault
read_or_fault bytes = read_or_fault_by bytes (decided (Some start) 0 (placed_tokens bytes) (scan_closed 0 0 bytes))

same_read : (y z : Spec) → Read y ≡ Read z → y ≡ z
same_read y z e = cc

pub one_reading : OneReading
one_reading bytes y z k h = same_read y z (sym (spelled_is_read bytes y k) ∙ spelled_is_read bytes z h)
