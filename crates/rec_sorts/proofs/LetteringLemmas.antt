-- Where all rules are kept, the items that were read are those of the specification.
use Rattle.std.proofs.Common.{refl, sym, ap, subst, ◌∙◌, arith}
use Rattle.std.proofs.lemmas.Bool.{false≢true}
use Rattle.std.proofs.lemmas.List.{length-map, get_or_append_left}
use Rattle.std.specs.Prelude.{ℕ, ◌≡◌, Bool, true, false, List, [], ◌∷◌, ◌++◌, Option, Some, None, zero, suc, length, map, get_or, All, is_none, unwrap_or}
use Rattle.std.specs.Option.{option_map}
use Rattle.rec_syntax.specs.Tokens.{Word}
use Rattle.rec_syntax.specs.Syntax.{Term, Terms, Apply, none, more, Declaration, Condition, Rule, Spec}
use Rattle.rec_syntax.specs.Nodes.{Node, flat, flat_all, term_count}
use Rattle.rec_sorts.specs.Lookup.{symbols, names, variable_words, symbol}
use Rattle.rec_sorts.specs.SpecRules.{fault, all_rules}
use Rattle.rec_sorts.specs.Laws.{Every}
use Rattle.rec_sorts.specs.Least.{earlier, least_of, least_place, place_where}
use Rattle.rec_sorts.specs.Names.{first_at}
use Rattle.rec_sorts.specs.Scope.{meaning_of}
use Rattle.rec_sorts.specs.Letters.{placed_by, letter_of, bare, unknown_among}
use Rattle.rec_sorts.specs.Reading.{letters_of, binds_variable, condition_places, conditions_places, rule_places, rules_places}
use Rattle.rec_sorts.specs.Reading.{open_term_places, open_terms_places, SpellsTerm, SpellsCondition, SpellsRule}
use Rattle.rec_sorts.specs.Numbering.{IsMeaning, name_of, Named, named, named_all, named_by, AreLetters, Pairwise, IsLetterCondition, IsLetterRule}
use Rattle.rec_sorts.specs.Agreeing.{IsScope}
use Rattle.rec_sorts.specs.declared.letters.Letter.{Letter}
use Rattle.rec_sorts.specs.declared.letters.LetterCondition.{LetterCondition}
use Rattle.rec_sorts.specs.declared.letters.LetterRule.{LetterRule}
use Rattle.rec_sorts.specs.declared.letters.Meaning.{Meaning}
use Rattle.rec_sorts.specs.declared.letters.Meaning.TheVariants.{Symbol, Variable}
use Rattle.rec_sorts.specs.declared.scope.Scope.{Scope}
use Rattle.rec_sorts.proofs.KeptLemmas.{all_kept}
use Rattle.rec_sorts.proofs.SubtermLemmas.{term_count-count}
use Rattle.rec_sorts.proofs.StackLemmas.{map-append}
use Rattle.rec_sorts.proofs.MeaningLemmas.{first_at-number, meaning-symbol, meaning-variable}
use Rattle.rec_sorts.proofs.ConclusionLemmas.{field-over, unknown-found}

abbrev named_node : Node → Named
named_node n = record { name = n.word.bytes; arguments = n.count }

mutual
  named-flat : (t : Term) → map named_node (flat t) ≡ named t
  named-flat (Apply w ts) =
      map-append named_node (flat_all ts) (record { word = w; count = term_count ts } ∷ [])
      ∙ ap (λ (ns : List Named). ns ++ record { name = w.bytes; arguments = term_count ts } ∷ []) (named-flat_all ts)
      ∙ ap (λ (n : ℕ). named_all ts ++ record { name = w.bytes; arguments = n } ∷ []) (term_count-count ts)

  named-flat_all : (ts : Terms) → map named_node (flat_all ts) ≡ named_all ts
  named-flat_all none = refl
  named-flat_all (more t ts) =
      map-append named_node (flat t) (flat_all ts)
      ∙ ap (λ (ns : List Named). ns ++ map named_node (flat_all ts)) (named-flat t)
      ∙ ap (λ (ns : List Named). named t ++ ns) (named-flat_all ts)

all_cons : {X : Type 0} (P : X → Type 0) (x : X) (xs : List X) → P x → All P xs → All P (x ∷ xs)
all_cons P x xs p h zero d l = p
all_cons P x xs p h (suc k) d l = h k d (omega arith)

both_none : (p q : Option ℕ) → earlier p q ≡ None → (p ≡ None) × (q ≡ None)
both_none None q e = (refl, e)
both_none (Some p) None e = absurd (cc e)
both_none (Some p) (Some q) e = absurd (cc e)

not_there : (b : Bool) (at : ℕ) → place_where b at ≡ None → b ≡ false
not_there true at e = absurd (cc e)
not_there false at e = refl

none_each : {X : Type 0} (f : X → Option ℕ) (xs : List X) → least_of f xs ≡ None → Every (λ x. f x ≡ None) xs
none_each f [] e = tt
none_each f (x ∷ xs) e = let b = both_none (f x) (least_of f xs) e in (b.0, none_each f xs b.1)

pair_each : {X Y : Type 0} (P R : X → Y → Type 0) (Q : Y → Type 0) → ((x : X) (y : Y) → P x y → Q y → R x y) → (xs : List X) (ys : List Y)
    → Pairwise P xs ys → Every Q ys → Pairwise R xs ys
pair_each P R Q f [] [] h k = tt
pair_each P R Q f (x ∷ xs) (y ∷ ys) h k = (f x y h.0 k.0, pair_each P R Q f xs ys h.1 k.1)
pair_each P R Q f [] (y ∷ ys) h k = absurd h
pair_each P R Q f (x ∷ xs) [] h k = absurd h

module _ (y : Spec) (s : Scope) (h : IsScope y s) where
  -- what a name represents, if it is declared
  pub record StandsFor (name : List ℕ) : Type 0 where
    pub meaning : Meaning
    pub stands : meaning_of s name ≡ Some meaning
    pub there : IsMeaning y meaning
    pub named_so : name_of y meaning ≡ name

  pub stands_for : (name : List ℕ) → is_none (meaning_of s name) ≡ false → StandsFor name
  stands_for name known = by_symbol (symbol y name) refl
    where
      by_number : (o : Option ℕ) → first_at (variable_words y.variables) name ≡ o → meaning_of s name ≡ option_map (λ k. Variable k) o → StandsFor name
      by_number None at m = absurd (false≢true (sym known ∙ ap is_none m))
      by_number (Some k) at m =
          let n = first_at-number (variable_words y.variables) name k at in
          record { meaning = Variable k; stands = m; there = n.within; named_so = n.there }

      by_symbol : (o : Option Declaration) → symbol y name ≡ o → StandsFor name
      by_symbol (Some d) e =
          let f = meaning-symbol y s h name d e in
          let n = first_at-number (names (symbols y) ++ variable_words y.variables) name f.0 f.2 in
          let long : length (map (λ (w : Word). w.bytes) (names (symbols y))) ≡ length (symbols y) =
          length-map (names (symbols y)) (λ (w : Word). w.bytes) ∙ length-map (symbols y) (λ d. d.name) in
          record {
            meaning = Symbol f.0;
            stands = f.4;
            there = f.1;
            named_so =
                sym (get_or_append_left (map (λ (w : Word). w.bytes) (names (symbols y))) (map (λ (w : Word). w.bytes) (variable_words y.variables))
                [] f.0 (omega (arith, f.1, long)))
                ∙ ap (λ (ns : List (List ℕ)). get_or ns f.0 []) (sym (map-append (λ (w : Word). w.bytes) (names (symbols y)) (variable_words y.variables)))
                ∙ n.there;
          }
      by_symbol None e = by_number (first_at (variable_words y.variables) name) refl (meaning-variable y s h name e)

  known_each : (ns : List Node) → unknown_among (map (placed_by s) ns) ≡ None → Every (λ n. is_none (meaning_of s n.word.bytes) ≡ false) ns
  known_each [] e = tt
  known_each (n ∷ ns) e =
      let b = both_none (place_where (is_none (meaning_of s n.word.bytes)) n.word.at) (unknown_among (map (placed_by s) ns)) e in
      (not_there (is_none (meaning_of s n.word.bytes)) n.word.at b.0, known_each ns b.1)

  letters_each : (ns : List Node) → Every (λ n. is_none (meaning_of s n.word.bytes) ≡ false) ns
      → All (λ l. IsMeaning y l.meaning) (bare (map (placed_by s) ns)) × (map (named_by y) (bare (map (placed_by s) ns)) ≡ map named_node ns)
  letters_each [] k = (λ j d l. absurd (omega arith), refl)
  letters_each (n ∷ ns) k =
      let m = stands_for n.word.bytes k.0 in
      let e : unwrap_or (meaning_of s n.word.bytes) (Symbol 0) ≡ m.meaning = ap (λ (o : Option Meaning). unwrap_or o (Symbol 0)) m.stands in
      let rest = letters_each ns k.1 in (
        all_cons (λ (l : Letter). IsMeaning y l.meaning) (letter_of (placed_by s n)) (bare (map (placed_by s) ns)) (subst (IsMeaning y) (sym e) m.there) rest.0,
        ap (λ (b : List ℕ). record { name = b; arguments = n.count } ∷ map (named_by y) (bare (map (placed_by s) ns))) (ap (name_of y) e ∙ m.named_so)
            ∙ ap (λ (zs : List Named). named_node n ∷ zs) rest.1,
      )

  -- the items of a term whose words are declared
  are_letters : (ls : List Letter) (t : Term) → SpellsTerm s ls t → unknown_among (letters_of s t) ≡ None → AreLetters y ls t
  are_letters ls t e known =
      let all = letters_each (flat t) (known_each (flat t) known) in
      subst (λ (xs : List Letter). AreLetters y xs t) (sym e) (all.0, all.1 ∙ named-flat t)

  is_letter_condition : (bound : ℕ → Bool) (l : LetterCondition) (c : Condition) → SpellsCondition s l c → (condition_places s bound c).unknown ≡ None
      → IsLetterCondition y l c
  is_letter_condition bound l c e known =
      let both = both_none (earlier (unknown_among (letters_of s c.left)) (unknown_among (letters_of s c.right))) None known in
      let b = both_none (unknown_among (letters_of s c.left)) (unknown_among (letters_of s c.right)) both.0 in
      (are_letters l.left.items c.left e.0 b.0, are_letters l.right.items c.right e.1 b.1, e.2)

  is_letter_rule : (l : LetterRule) (r : Rule) → SpellsRule s l r → (rule_places s r).unknown ≡ None → IsLetterRule y l r
  is_letter_rule l r e known =
      let bound = binds_variable (letters_of s r.left) in
      let a = both_none (earlier (earlier (unknown_among (letters_of s r.left)) (unknown_among (letters_of s r.right))) None)
      (conditions_places s bound r.conditions).unknown known in
      let both = both_none (earlier (unknown_among (letters_of s r.left)) (unknown_among (letters_of s r.right))) None a.0 in
      let b = both_none (unknown_among (letters_of s r.left)) (unknown_among (letters_of s r.right)) both.0 in
      let c = none_each (λ (c : Condition). (condition_places s bound c).unknown) r.conditions
      (sym (field-over (λ p. p.unknown) (λ p q. refl) refl (condition_places s bound) r.conditions) ∙ a.1) in (
        are_letters l.left.items r.left e.0 b.0,
        are_letters l.right.items r.right e.1 b.1,
        pair_each (SpellsCondition s) (IsLetterCondition y) (λ c. (condition_places s bound c).unknown ≡ None) (is_letter_condition bound)
            l.conditions.items r.conditions e.2 c,
      )

  module _ (kept : fault y ≡ None) where
    all_known : ((rules_places s y.rules).unknown ≡ None) × ((open_terms_places s y.terms).unknown ≡ None)
    all_known =
        let every : Every (λ b. b.words ≡ []) (all_rules y) = all_kept (all_rules y) kept in
        both_none (rules_places s y.rules).unknown (open_terms_places s y.terms).unknown (unknown-found y s h ∙ ap least_place every.1.1.1.1.0)

    -- the items of the rules
    pub rules-lettered : (ls : List LetterRule) → Pairwise (SpellsRule s) ls y.rules → Pairwise (IsLetterRule y) ls y.rules
    rules-lettered ls spelled =
        pair_each (SpellsRule s) (IsLetterRule y) (λ r. (rule_places s r).unknown ≡ None) is_letter_rule ls y.rules spelled
        (none_each (λ (r : Rule). (rule_places s r).unknown) y.rules
        (sym (field-over (λ p. p.unknown) (λ p q. refl) refl (rule_places s) y.rules) ∙ all_known.0))

    -- the items of the terms to evaluate
    pub terms-lettered : {V : Type 0} (items : V → List Letter) (ls : List V) → Pairwise (λ v t. SpellsTerm s (items v) t) ls y.terms
        → Pairwise (λ v t. AreLetters y (items v) t) ls y.terms
    terms-lettered items ls spelled =
        pair_each (λ v t. SpellsTerm s (items v) t) (λ v t. AreLetters y (items v) t) (λ t. (open_term_places s t).unknown ≡ None)
        (λ v t e known. are_letters (items v) t e (both_none (unknown_among (letters_of s t)) None known).0) ls y.terms spelled
        (none_each (λ (t : Term). (open_term_places s t).unknown) y.terms
        (sym (field-over (λ p. p.unknown) (λ p q. refl) refl (open_term_places s) y.terms) ∙ all_known.1))
