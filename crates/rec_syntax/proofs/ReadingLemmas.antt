-- The reader's fields after a step are those of the machine's state.
use Rattle.std.proofs.Common.{◌≡◌, ℕ, Bool, List, [], ◌∷◌, ◌++◌, map, reverse, Some, Result, Vec, Global, refl, sym, ap, subst, ◌∙◌}
use Rattle.std.proofs.lemmas.List.{map-append}
use Rattle.std.proofs.lemmas.List.Elements.{All-push, All-nil}
use Rattle.smallvec.specs.SmallVec.{SmallVec}
use Rattle.rec_syntax.specs.Tokens.{Word, Rules}
use Rattle.rec_syntax.specs.Syntax as syntax
use Rattle.rec_syntax.specs.Syntax.{Apply, none}
use Rattle.rec_syntax.specs.Nodes.{newest_term}
use Rattle.rec_syntax.specs.Inner.Machine as machine
use Rattle.rec_syntax.specs.Inner.Machine.{Frame, In, complete, between, with_rule, to}
use Rattle.rec_syntax.specs.Lexemes.{word_of, token_of}
use Rattle.rec_syntax.specs.Parts.{term_of, condition_of, rule_of, spec_of, Within, IsTerm, IsCondition, IsRule, AreSections}
use Rattle.rec_syntax.specs.Inner.Reader.{role_of, made_of, frames_of, rest, state_of, advance, IsRole, IsState, Moves}
use Rattle.rec_syntax.specs.declared.lexer.Span.{Span}
use Rattle.rec_syntax.specs.declared.lexer.LexemeKind.{LexemeKind}
use Rattle.rec_syntax.specs.declared.lexer.LexemeKind.TheVariants.{Open, AndIf}
use Rattle.rec_syntax.specs.declared.parts.Node.{Node}
use Rattle.rec_syntax.specs.declared.parts.Term.{Term}
use Rattle.rec_syntax.specs.declared.parts.Condition.{Condition}
use Rattle.rec_syntax.specs.declared.parts.Rule.{Rule}
use Rattle.rec_syntax.specs.declared.parts.Sections.{Sections}
use Rattle.rec_syntax.specs.declared.reader.Role.{Role}
use Rattle.rec_syntax.specs.declared.reader.Role.TheVariants.{ConditionRight}
use Rattle.rec_syntax.specs.declared.reader.Due.{Due}
use Rattle.rec_syntax.specs.declared.reader.Due.TheVariants.{AtTerm}
use Rattle.rec_syntax.specs.declared.reader.Call.{Call}
use Rattle.rec_syntax.specs.declared.reader.Reader.{Reader}
use Rattle.rec_syntax.specs.declared.reader.Stop.{Stop}

-- one more rule
pub rule_pushed : (bytes : List ℕ) (s : Sections) (v : Vec Rule Global) (r : Rule) → v.items ≡ s.rules.items ++ r ∷ [] → AreSections bytes s
    → IsRule bytes r → AreSections bytes (record s { rules = v })
rule_pushed bytes s v r e h k = record {
  name = h.name;
  sorts = h.sorts;
  constructors = h.constructors;
  operators = h.operators;
  groups = h.groups;
  rules = rw e (All-push (IsRule bytes) s.rules.items r h.rules k);
  terms = h.terms;
}

-- one more term to evaluate
pub term_pushed : (bytes : List ℕ) (s : Sections) (v : Vec Term Global) (t : Term) → v.items ≡ s.terms.items ++ t ∷ [] → AreSections bytes s
    → IsTerm bytes t → AreSections bytes (record s { terms = v })
term_pushed bytes s v t e h k = record {
  name = h.name;
  sorts = h.sorts;
  constructors = h.constructors;
  operators = h.operators;
  groups = h.groups;
  rules = h.rules;
  terms = rw e (All-push (IsTerm bytes) s.terms.items t h.terms k);
}

-- one more condition
pub condition_pushed : (bytes : List ℕ) (r : Rule) (v : SmallVec Condition) (c : Condition) → v.items ≡ r.conditions.items ++ c ∷ [] → IsRule bytes r
    → IsCondition bytes c → IsRule bytes (record r { conditions = v })
condition_pushed bytes r v c e h k = record {
  left = h.left;
  right = h.right;
  conditions = rw e (All-push (IsCondition bytes) r.conditions.items c h.conditions k);
}

-- nothing is read of the next term
pub begun : (bytes : List ℕ) (s : Sections) (r : Reader) (p : Role) → r.role ≡ p → r.calls.items ≡ [] → r.nodes.items ≡ [] → r.sections ≡ s
    → AreSections bytes s → IsRole bytes p
    → (to (machine.AtTerm (role_of bytes p) []) (spec_of bytes s) ≡ Some (state_of bytes AtTerm r)) × IsState bytes AtTerm r
begun bytes s r p role calls nodes sections h k = (
  rw (role, calls, sections) refl,
  record {
    sections = rw sections h;
    due = record {
      role = rw role k;
      stack = record {
        calls = rw calls (All-nil (λ (c : Call). Within bytes c.word));
        nodes = rw nodes (All-nil (λ (n : Node). Within bytes n.word));
        enough = rw nodes tt;
        counted = rw (calls, nodes) refl;
      };
    };
  },
)

-- a word that is not called is a term
called_is_term : (bytes : List ℕ) (p : machine.Role) (w : Word) (fs : List Frame) (y : syntax.Spec) (k : LexemeKind) → (k ≡ Open → ⊥)
    → machine.step (machine.Called p w fs) y (token_of bytes k) ≡ machine.after p (Apply w none) fs y (token_of bytes k)
called_is_term bytes p w fs y Open h = absurd (h refl)
called_is_term bytes p w fs y k h = refl

pub called_moves : (bytes : List ℕ) (p : machine.Role) (y : syntax.Spec) (w : Span) (k : LexemeKind) (calls : List Call) (ns after : List Node)
    (result : Result Due Stop) (r : Reader) → (k ≡ Open → ⊥)
    → made_of bytes after ≡ Apply (word_of bytes w) none ∷ made_of bytes ns
    → Moves bytes (machine.after p (newest_term (made_of bytes after)) (frames_of bytes (reverse calls) (rest (made_of bytes after))) y
    (token_of bytes k)) result r
    → Moves bytes (machine.step (machine.Called p (word_of bytes w) (frames_of bytes (reverse calls) (made_of bytes ns))) y (token_of bytes k)) result r
called_moves bytes p y w k calls ns after result r h e m =
    let made = ap (λ (ts : List syntax.Term). machine.after p (newest_term ts) (frames_of bytes (reverse calls) (rest ts)) y (token_of bytes k)) e in
    let same = made ∙ sym (called_is_term bytes p (word_of bytes w) (frames_of bytes (reverse calls) (made_of bytes ns)) y k h) in
    subst (λ o. Moves bytes o result r) same m

-- the conditions with one more, as the machine has them
pub conditions_are : (bytes : List ℕ) (cs : List Condition) (c : Condition) (after : List Condition) → after ≡ cs ++ c ∷ []
    → map (condition_of bytes) after ≡ map (condition_of bytes) cs ++ condition_of bytes c ∷ []
conditions_are bytes cs c after e = rw e (map-append (condition_of bytes) cs (c ∷ []))

-- a rule ends with its last condition
rule_ends : (bytes : List ℕ) (l r : syntax.Term) (cs : List syntax.Condition) (x : syntax.Term) (e : Bool) (t : syntax.Term) (y : syntax.Spec)
    (k : LexemeKind) → (k ≡ AndIf → ⊥)
    → complete (machine.CondRight l r cs x e) t y (token_of bytes k) ≡ between (In Rules)
    (with_rule y (record { left = l; right = r; conditions = cs ++ record { left = x; right = t; equal = e } ∷ [] })) (token_of bytes k)
rule_ends bytes l r cs x e t y AndIf h = absurd (h refl)
rule_ends bytes l r cs x e t y k h = refl

pub condition_ends : (bytes : List ℕ) (s : Sections) (rules : Vec Rule Global) (rule : Rule) (v : SmallVec Condition) (c : Condition) (k : LexemeKind)
    (result : Result Due Stop) (r : Reader) → (k ≡ AndIf → ⊥) → v.items ≡ rule.conditions.items ++ c ∷ []
    → rules.items ≡ s.rules.items ++ record rule { conditions = v } ∷ []
    → Moves bytes (between (In Rules) (spec_of bytes (record s { rules = rules })) (token_of bytes k)) result r
    → Moves bytes (complete (role_of bytes (ConditionRight rule c.left c.equal)) (term_of bytes c.right) (spec_of bytes s) (token_of bytes k)) result r
condition_ends bytes s rules rule v c k result r h e f m =
    let l = term_of bytes rule.left in
    let t = term_of bytes rule.right in
    let cs = map (condition_of bytes) rule.conditions.items in
    let y = spec_of bytes s in
    let all : map (rule_of bytes) rules.items ≡ map (rule_of bytes) s.rules.items ++ record {
      left = l;
      right = t;
      conditions =
          cs ++ condition_of bytes c ∷ [];
    } ∷ [] =
    rw f (map-append (rule_of bytes) s.rules.items (record rule { conditions = v } ∷ [])
    ∙ ap (λ (ds : List syntax.Condition). map (rule_of bytes) s.rules.items ++ record { left = l; right = t; conditions = ds } ∷ [])
    (conditions_are bytes rule.conditions.items c v.items e)) in
    let same = ap (λ (rs : List syntax.Rule). between (In Rules) (record y { rules = rs }) (token_of bytes k)) all
    ∙ sym (rule_ends bytes l t cs (term_of bytes c.left) c.equal (term_of bytes c.right) y k h) in
    subst (λ o. Moves bytes o result r) same m

-- a step on a text is one on an equal text
pub moved : (bytes text : List ℕ) (d : Due) (r after : Reader) (k : LexemeKind) (result : Result Due Stop) → bytes ≡ text
    → Moves bytes (advance bytes d r k) result after → Moves text (advance text d r k) result after
moved bytes text d r after k result e m = subst (λ (bs : List ℕ). Moves bs (advance bs d r k) result after) e m
