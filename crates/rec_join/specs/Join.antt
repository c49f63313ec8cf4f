-- The specification of several texts.
use Rattle.std.specs.Prelude.{◌≡◌, ◌+◌, ◌-◌, ◌^◌, ◌<◌, ◌≤◌, ℕ, List, [], ◌∷◌, Contains, flat_map}
use Rattle.std.specs.Prelude.{length, map, slice_index_or, slice_range, take}
use Rattle.rec_syntax.specs.Tokens.{Word}
use Rattle.rec_syntax.specs.Syntax.{Condition, Declaration, Rule, Spec, Term, Terms, Variables}
use Rattle.rec_syntax.specs.Syntax.{Apply, more, nameless, none}
use Rattle.rec_syntax.specs.Grammar.{SpecText}
use Rattle.rec_syntax.specs.Length.{longest}
use Rattle.rec_syntax.specs.Place.{IsFaultPlace}
use Rattle.rec_join.specs.declared.fault.JoinFault.{JoinFault}
use Rattle.rec_join.specs.declared.fault.JoinFault.TheVariants.{Empty, Grammar, Long, Memory}
use Rattle.rec_join.specs.declared.fault.JoinFault.TheVariants.{Mismatch, TooLong}
use Rattle.rec_join.specs.declared.layout.Piece.{Piece}
use Rattle.rec_join.specs.declared.join.Origin.{Origin}
use Rattle.rec_join.specs.declared.join.Part.{Part}

-- unplaced w: the name without its offset
abbrev pub unplaced : Word → Word
unplaced w = record { at = 0; bytes = w.bytes }

-- a term without the offsets of its names
abbrev mutual
  pub unplaced_term : Term → Term
  unplaced_term (Apply w ts) = Apply (unplaced w) (unplaced_terms ts)

  pub unplaced_terms : Terms → Terms
  unplaced_terms none = none
  unplaced_terms (more t ts) = more (unplaced_term t) (unplaced_terms ts)

-- a declaration without the offsets of its names
abbrev pub unplaced_declaration : Declaration → Declaration
unplaced_declaration d = record {
  name = unplaced d.name;
  arguments = map unplaced d.arguments;
  sort = unplaced d.sort;
}

-- a group of variables without the offsets of its names
abbrev pub unplaced_variables : Variables → Variables
unplaced_variables v = record {
  first = unplaced v.first;
  others = map unplaced v.others;
  sort = unplaced v.sort;
}

-- a condition without the offsets of its names
abbrev pub unplaced_condition : Condition → Condition
unplaced_condition c = record {
  left = unplaced_term c.left;
  right = unplaced_term c.right;
  equal = c.equal;
}

-- a rule without the offsets of its names
abbrev pub unplaced_rule : Rule → Rule
unplaced_rule r = record {
  left = unplaced_term r.left;
  right = unplaced_term r.right;
  conditions = map unplaced_condition r.conditions;
}

-- a specification without the offsets of its names
abbrev pub unplaced_spec : Spec → Spec
unplaced_spec y = record {
  name = unplaced y.name;
  sorts = map unplaced y.sorts;
  constructors = map unplaced_declaration y.constructors;
  operators = map unplaced_declaration y.operators;
  variables = map unplaced_variables y.variables;
  rules = map unplaced_rule y.rules;
  terms = map unplaced_term y.terms;
}

-- IsSameButPlaces y z: the specifications differ at most in the offsets of names
abbrev pub IsSameButPlaces : Spec → Spec → Type 0
IsSameButPlaces y z = unplaced_spec y ≡ unplaced_spec z

-- last_name ys: the name of the last specification
abbrev pub last_name : List Spec → Word
last_name [] = nameless
last_name (y ∷ []) = y.name
last_name (y ∷ z ∷ ys) = last_name (z ∷ ys)

-- together ys: the sections of the specifications, one after another, under the name of the last
abbrev pub together : List Spec → Spec
together ys = record {
  name = last_name ys;
  sorts = flat_map (λ y. y.sorts) ys;
  constructors = flat_map (λ y. y.constructors) ys;
  operators = flat_map (λ y. y.operators) ys;
  variables = flat_map (λ y. y.variables) ys;
  rules = flat_map (λ y. y.rules) ys;
  terms = flat_map (λ y. y.terms) ys;
}

-- texts_of parts: the texts of the parts
abbrev pub texts_of : List Part → List (List ℕ)
texts_of parts = map (λ (p : Part). p.text.now) parts

-- AreSpelled texts ys: each text spells its specification
abbrev pub AreSpelled : List (List ℕ) → List Spec → Type 0
AreSpelled [] [] = Unit {0}
AreSpelled (text ∷ texts) (y ∷ ys) = SpecText text y × AreSpelled texts ys
AreSpelled _ _ = ⊥

-- IsJoined texts z: `z` is the specification of the texts together, up to the offsets of names
pub record IsJoined (texts : List (List ℕ)) (z : Spec) : Type 0 where
  pub specs : List Spec
  pub spelled : AreSpelled texts specs
  pub same : IsSameButPlaces z (together specs)

-- IsFirst texts k P: text `k` has property `P`, and each text before it spells a specification
pub record IsFirst (texts : List (List ℕ)) (k : ℕ) (P : List ℕ → Type 0) : Type 0 where
  pub known : k < length texts
  pub before : (specs : List Spec) × AreSpelled (take k texts) specs
  pub here : P (slice_index_or texts k [])

-- IsJoinFault texts fault: the error names the first text that is too long or not in the grammar
abbrev pub IsJoinFault : List (List ℕ) → JoinFault → Type 0
IsJoinFault texts Empty = texts ≡ []
IsJoinFault texts (Long part) = IsFirst texts part (λ text. longest < length text)
IsJoinFault texts (Grammar part at) = IsFirst texts part (λ text. IsFaultPlace text at)
IsJoinFault texts TooLong = Unit {0}
IsJoinFault texts Mismatch = Unit {0}
IsJoinFault texts Memory = Unit {0}

-- IsCopied texts whole p: the bytes of the piece in `whole` are those of its text
pub record IsCopied (texts : List (List ℕ)) (whole : List ℕ) (p : Piece) : Type 0 where
  pub known : p.part < length texts
  pub within : p.at + p.length ≤ length whole
  pub inside : p.from + p.length ≤ length (slice_index_or texts p.part [])
  pub same : slice_range whole p.at (p.at + p.length)
      ≡ slice_range (slice_index_or texts p.part []) p.from (p.from + p.length)

-- Covers at p: the piece has the byte at this offset, and offsets in its part fit 64 bits
abbrev pub Covers : ℕ → Piece → Type 0
Covers at p = (p.at ≤ at) × (at < p.at + p.length) × (p.from + p.length < 2 ^ 64)

-- IsOrigin ps at o: a piece has the byte at this offset, and `o` is where it was copied from
pub record IsOrigin (ps : List Piece) (at : ℕ) (o : Origin) : Type 0 where
  pub piece : Piece
  pub listed : Contains ps piece
  pub covers : Covers at piece
  pub part : o.part ≡ piece.part
  pub place : o.at ≡ piece.from + (at - piece.at)
