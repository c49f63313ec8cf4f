-- The words that phrases of the grammar have.
use Rattle.std.proofs.Common.{◌≡◌, List, [], ◌∷◌, ◌++◌, refl, sym, ap, subst, ◌∙◌, inl, inr, append_assoc}
use Rattle.std.proofs.lemmas.List.{append-nil}
use Rattle.std.proofs.lemmas.List.Concat.{flat_map-append}
use Rattle.std.specs.Prelude.{Bool, true, false, map, flat_map}
use Rattle.rec_syntax.specs.Tokens.{Word, Section, Token, Head, RecSpec, EndSpec, If, AndIf, Colon, Open, Close, Comma, Arrow, End}
use Rattle.rec_syntax.specs.Tokens.{Sorts, Cons, Opns, Vars, Rules, Eval, tokens}
use Rattle.rec_syntax.specs.Syntax.{Term, Terms, Apply, none, more, Declaration, Variables, Condition, Rule, Spec, subterms, subterms_all}
use Rattle.rec_syntax.specs.Grammar.{Phrase, ◌then◌, either, nothing, token, word, each, section, term, term_arguments, further_arguments}
use Rattle.rec_syntax.specs.Grammar.{declaration, variables, comparison, condition, conditions, rule, specification}
use Rattle.rec_sorts.specs.Lookup.{condition_terms, rule_terms, symbols}
use Rattle.rec_sorts.specs.SpecRules.{everywhere, heads, sorts_of}
use Rattle.rec_sorts.proofs.StackLemmas.{map-append}
use Rattle.rec_uses.specs.Laws.{UsesAreWords, plain_words}
use Rattle.rec_uses.specs.Uses.{Use, declaration_uses, group_uses, name_use, sort_use, uses}

-- a phrase has these words
abbrev Has : Phrase → List Word → Type 0
Has P ws = (ts l : List Token) → P ts l → plain_words ts ≡ ws ++ plain_words l

-- a token that is not a word
abbrev IsBare : Token → Type 0
IsBare t = (l : List Token) → plain_words (t ∷ l) ≡ plain_words l

has_token : (t : Token) → IsBare t → Has (token t) []
has_token t bare ts l e = ap plain_words e ∙ bare l

has_word : (w : Word) → Has (word w) (w ∷ [])
has_word w ts l e = ap plain_words e

has_nothing : Has nothing []
has_nothing ts l e = ap plain_words e

has_then : (P Q : Phrase) (us vs : List Word) → Has P us → Has Q vs → Has (P then Q) (us ++ vs)
has_then P Q us vs h k ts l (m, p, q) =
    h ts m p ∙ ap (λ ws. us ++ ws) (k m l q) ∙ sym (append_assoc us vs (plain_words l))

-- a token before a phrase
has_behind : (t : Token) (Q : Phrase) (vs : List Word) → IsBare t → Has Q vs → Has (token t then Q) vs
has_behind t Q vs bare k = has_then (token t) Q [] vs (has_token t bare) k

has_either : (P Q : Phrase) (us : List Word) → Has P us → Has Q us → Has (either P Q) us
has_either P Q us h k ts l (inl p) = h ts l p
has_either P Q us h k ts l (inr q) = k ts l q

has_each : {X : Type 0} (P : X → Phrase) (f : X → List Word) → ((x : X) → Has (P x) (f x)) → (xs : List X) → Has (each P xs) (flat_map f xs)
has_each P f h [] = has_nothing
has_each P f h (x ∷ xs) = has_then (P x) (each P xs) (f x) (flat_map f xs) (h x) (has_each P f h xs)

has_section : {X : Type 0} (s : Section) (P : X → Phrase) (f : X → List Word) → ((x : X) → Has (P x) (f x)) → (xs : List X)
    → Has (section s P xs) (flat_map f xs)
has_section s P f h [] = has_either nothing (token (Head s)) [] has_nothing (has_token (Head s) (λ _. refl))
has_section s P f h (x ∷ xs) =
    has_behind (Head s) (P x then each P xs) (f x ++ flat_map f xs) (λ _. refl)
    (has_then (P x) (each P xs) (f x) (flat_map f xs) (h x) (has_each P f h xs))

-- the words of a term
abbrev words : Term → List Word
words t = heads (subterms t)

abbrev words_all : Terms → List Word
words_all ts = heads (subterms_all ts)

words-more : (t : Term) (ts : Terms) → words_all (more t ts) ≡ words t ++ words_all ts
words-more t ts = map-append _ (subterms t) (subterms_all ts)

mutual
  has_term : (t : Term) → Has (term t) (words t)
  has_term (Apply w ts) = has_then (word w) (term_arguments ts) (w ∷ []) (words_all ts) (has_word w) (has_arguments ts)

  has_arguments : (ts : Terms) → Has (term_arguments ts) (words_all ts)
  has_arguments none = has_either nothing (token Open then token Close) [] has_nothing
      (has_behind Open (token Close) [] (λ _. refl) (has_token Close (λ _. refl)))
  has_arguments (more t ts) = rw (words-more t ts)
      (has_behind Open (term t then further_arguments ts) (words t ++ words_all ts) (λ _. refl)
      (has_then (term t) (further_arguments ts) (words t) (words_all ts) (has_term t) (has_further ts)))

  has_further : (ts : Terms) → Has (further_arguments ts) (words_all ts)
  has_further none = has_token Close (λ _. refl)
  has_further (more t ts) = rw (words-more t ts)
      (has_behind Comma (term t then further_arguments ts) (words t ++ words_all ts) (λ _. refl)
      (has_then (term t) (further_arguments ts) (words t) (words_all ts) (has_term t) (has_further ts)))

one_each : (ws : List Word) → flat_map (λ w. w ∷ []) ws ≡ ws
one_each [] = refl
one_each (w ∷ ws) = ap (λ us. w ∷ us) (one_each ws)

has_words : (ws : List Word) → Has (each word ws) ws
has_words ws = subst (λ us. Has (each word ws) us) (one_each ws) (has_each word (λ w. w ∷ []) has_word ws)

has_declaration : (d : Declaration) → Has (declaration d) (d.name ∷ sorts_of d)
has_declaration d =
    has_then (word d.name) (token Colon then each word d.arguments then token Arrow then word d.sort) (d.name ∷ []) (sorts_of d) (has_word d.name)
    (has_behind Colon (each word d.arguments then token Arrow then word d.sort) (sorts_of d) (λ _. refl)
    (has_then (each word d.arguments) (token Arrow then word d.sort) d.arguments (d.sort ∷ []) (has_words d.arguments)
    (has_behind Arrow (word d.sort) (d.sort ∷ []) (λ _. refl) (has_word d.sort))))

has_variables : (v : Variables) → Has (variables v) (v.first ∷ v.others ++ v.sort ∷ [])
has_variables v =
    has_then (word v.first) (each word v.others then token Colon then word v.sort) (v.first ∷ []) (v.others ++ v.sort ∷ []) (has_word v.first)
    (has_then (each word v.others) (token Colon then word v.sort) v.others (v.sort ∷ []) (has_words v.others)
    (has_behind Colon (word v.sort) (v.sort ∷ []) (λ _. refl) (has_word v.sort)))

bare_comparison : (b : Bool) → IsBare (comparison b)
bare_comparison true = λ _. refl
bare_comparison false = λ _. refl

-- the words of conditions
abbrev condition_words : Condition → List Word
condition_words c = words c.left ++ words c.right

abbrev rule_words : Rule → List Word
rule_words r = words r.left ++ (words r.right ++ flat_map condition_words r.conditions)

has_condition : (c : Condition) → Has (condition c) (condition_words c)
has_condition c =
    has_then (term c.left) (token (comparison c.equal) then term c.right) (words c.left) (words c.right) (has_term c.left)
    (has_behind (comparison c.equal) (term c.right) (words c.right) (bare_comparison c.equal) (has_term c.right))

has_conditions : (cs : List Condition) → Has (conditions cs) (flat_map condition_words cs)
has_conditions [] = has_nothing
has_conditions (c ∷ cs) =
    has_behind If (condition c then each (λ d. token AndIf then condition d) cs) (condition_words c ++ flat_map condition_words cs) (λ _. refl)
    (has_then (condition c) (each (λ d. token AndIf then condition d) cs) (condition_words c) (flat_map condition_words cs) (has_condition c)
    (has_each (λ d. token AndIf then condition d) condition_words
    (λ d. has_behind AndIf (condition d) (condition_words d) (λ _. refl) (has_condition d)) cs))

has_rule : (r : Rule) → Has (rule r) (rule_words r)
has_rule r =
    has_then (term r.left) (token Arrow then term r.right then conditions r.conditions) (words r.left) (words r.right ++ flat_map condition_words r.conditions)
    (has_term r.left)
    (has_behind Arrow (term r.right then conditions r.conditions) (words r.right ++ flat_map condition_words r.conditions) (λ _. refl)
    (has_then (term r.right) (conditions r.conditions) (words r.right) (flat_map condition_words r.conditions) (has_term r.right)
    (has_conditions r.conditions)))

-- ---- the words of a specification are its uses

abbrev use_words : List Use → List Word
use_words us = map (λ u. u.word) us

sort_words : (ws : List Word) → use_words (map sort_use ws) ≡ ws
sort_words [] = refl
sort_words (w ∷ ws) = ap (λ us. w ∷ us) (sort_words ws)

name_words : (ws : List Word) → use_words (map name_use ws) ≡ ws
name_words [] = refl
name_words (w ∷ ws) = ap (λ us. w ∷ us) (name_words ws)

use_words-append : (us vs : List Use) → use_words (us ++ vs) ≡ use_words us ++ use_words vs
use_words-append us vs = map-append (λ u. u.word) us vs

-- the words of items, each of which has its own
item_words : {X : Type 0} (f : X → List Use) (g : X → List Word) → ((x : X) → use_words (f x) ≡ g x) → (xs : List X)
    → use_words (flat_map f xs) ≡ flat_map g xs
item_words f g h [] = refl
item_words f g h (x ∷ xs) = use_words-append (f x) (flat_map f xs) ∙ ap (λ ws. ws ++ use_words (flat_map f xs)) (h x)
    ∙ ap (λ ws. g x ++ ws) (item_words f g h xs)

abbrev declaration_words : Declaration → List Word
declaration_words d = d.name ∷ sorts_of d

declaration_used : (d : Declaration) → use_words (declaration_uses d) ≡ declaration_words d
declaration_used d = ap (λ ws. d.name ∷ ws) (sort_words (sorts_of d))

abbrev group_words : Variables → List Word
group_words v = v.first ∷ v.others ++ v.sort ∷ []

group_used : (v : Variables) → use_words (group_uses v) ≡ group_words v
group_used v = use_words-append (map name_use (v.first ∷ v.others)) (sort_use v.sort ∷ [])
    ∙ ap (λ ws. ws ++ v.sort ∷ []) (name_words (v.first ∷ v.others))

-- the words of terms
words_everywhere : (ts : List Term) → heads (everywhere ts) ≡ flat_map words ts
words_everywhere [] = refl
words_everywhere (t ∷ ts) = map-append _ (subterms t) (everywhere ts) ∙ ap (λ ws. words t ++ ws) (words_everywhere ts)

everywhere-append : (ts us : List Term) → heads (everywhere (ts ++ us)) ≡ heads (everywhere ts) ++ heads (everywhere us)
everywhere-append ts us = ap heads (flat_map-append subterms ts us) ∙ map-append _ (everywhere ts) (everywhere us)

words_conditions : (cs : List Condition) → flat_map words (condition_terms cs) ≡ flat_map condition_words cs
words_conditions [] = refl
words_conditions (c ∷ cs) = ap (λ ws. words c.left ++ (words c.right ++ ws)) (words_conditions cs)
    ∙ sym (append_assoc (words c.left) (words c.right) (flat_map condition_words cs))

words_rules : (rs : List Rule) → flat_map words (rule_terms rs) ≡ flat_map rule_words rs
words_rules [] = refl
words_rules (r ∷ rs) =
    let later = rule_terms rs in
    let own = flat_map condition_words r.conditions in
    ap (λ ws. words r.left ++ (words r.right ++ ws)) (flat_map-append words (condition_terms r.conditions) later
    ∙ ap (λ ws. ws ++ flat_map words later) (words_conditions r.conditions)
    ∙ ap (λ ws. own ++ ws) (words_rules rs))
    ∙ ap (λ ws. words r.left ++ ws) (sym (append_assoc (words r.right) own (flat_map rule_words rs)))
    ∙ sym (append_assoc (words r.left) (words r.right ++ own) (flat_map rule_words rs))

-- the words of the sections from one on
abbrev rules_words : Spec → List Word
rules_words y = flat_map rule_words y.rules ++ flat_map words y.terms

abbrev vars_words : Spec → List Word
vars_words y = flat_map group_words y.variables ++ rules_words y

abbrev opns_words : Spec → List Word
opns_words y = flat_map declaration_words y.operators ++ vars_words y

abbrev cons_words : Spec → List Word
cons_words y = flat_map declaration_words y.constructors ++ opns_words y

abbrev spec_words : Spec → List Word
spec_words y = y.sorts ++ cons_words y

joined : (a b c d : List Use) (A B C D : List Word) → use_words a ≡ A → use_words b ≡ B → use_words c ≡ C → use_words d ≡ D
    → use_words (a ++ b ++ c ++ d) ≡ A ++ (B ++ (C ++ D))
joined a b c d A B C D ea eb ec ed =
    use_words-append (a ++ b ++ c) d
    ∙ ap (λ ws. ws ++ use_words d) (use_words-append (a ++ b) c ∙ ap (λ ws. ws ++ use_words c) (use_words-append a b))
    ∙ ap (λ ws. ws ++ use_words b ++ use_words c ++ use_words d) ea
    ∙ ap (λ ws. A ++ ws ++ use_words c ++ use_words d) eb
    ∙ ap (λ ws. A ++ B ++ ws ++ use_words d) ec
    ∙ ap (λ ws. A ++ B ++ C ++ ws) ed
    ∙ append_assoc (A ++ B) C D
    ∙ append_assoc A B (C ++ D)

spec_used : (y : Spec) → use_words (uses y) ≡ spec_words y
spec_used y =
    let all = rule_terms y.rules ++ y.terms in
    let constructors = flat_map declaration_words y.constructors in
    let operators = flat_map declaration_words y.operators in
    joined (map sort_use y.sorts) (flat_map declaration_uses (symbols y)) (flat_map group_uses y.variables) (map name_use (heads (everywhere all)))
    y.sorts (constructors ++ operators) (flat_map group_words y.variables) (rules_words y)
    (sort_words y.sorts)
    (item_words declaration_uses declaration_words declaration_used (symbols y) ∙ flat_map-append declaration_words y.constructors y.operators)
    (item_words group_uses group_words group_used y.variables)
    (name_words (heads (everywhere all)) ∙ words_everywhere all ∙ flat_map-append words (rule_terms y.rules) y.terms
    ∙ ap (λ ws. ws ++ flat_map words y.terms) (words_rules y.rules))
    ∙ ap (λ ws. y.sorts ++ ws) (append_assoc constructors operators (vars_words y))

has_sorts : (y : Spec) → Has (section Sorts word y.sorts) y.sorts
has_sorts y = subst (λ ws. Has (section Sorts word y.sorts) ws) (one_each y.sorts) (has_section Sorts word (λ w. w ∷ []) has_word y.sorts)

-- the phrases from a section on, and their words
abbrev end_on : Phrase
end_on = token EndSpec then token End

abbrev eval_on : Spec → Phrase
eval_on y = section Eval term y.terms then end_on

abbrev rules_on : Spec → Phrase
rules_on y = section Rules rule y.rules then eval_on y

abbrev vars_on : Spec → Phrase
vars_on y = section Vars variables y.variables then rules_on y

abbrev opns_on : Spec → Phrase
opns_on y = section Opns declaration y.operators then vars_on y

abbrev cons_on : Spec → Phrase
cons_on y = section Cons declaration y.constructors then opns_on y

abbrev sorts_on : Spec → Phrase
sorts_on y = section Sorts word y.sorts then cons_on y

has_eval : (y : Spec) → Has (eval_on y) (flat_map words y.terms)
has_eval y = subst (λ ws. Has (eval_on y) ws) (append-nil (flat_map words y.terms))
    (has_then (section Eval term y.terms) end_on (flat_map words y.terms) [] (has_section Eval term words has_term y.terms)
    (has_behind EndSpec (token End) [] (λ _. refl) (has_token End (λ _. refl))))

has_rules : (y : Spec) → Has (rules_on y) (rules_words y)
has_rules y = has_then (section Rules rule y.rules) (eval_on y) (flat_map rule_words y.rules) (flat_map words y.terms)
    (has_section Rules rule rule_words has_rule y.rules) (has_eval y)

has_vars : (y : Spec) → Has (vars_on y) (vars_words y)
has_vars y = has_then (section Vars variables y.variables) (rules_on y) (flat_map group_words y.variables)
    (rules_words y) (has_section Vars variables group_words has_variables y.variables) (has_rules y)

has_opns : (y : Spec) → Has (opns_on y) (opns_words y)
has_opns y = has_then (section Opns declaration y.operators) (vars_on y) (flat_map declaration_words y.operators)
    (vars_words y)
    (has_section Opns declaration declaration_words has_declaration y.operators) (has_vars y)

has_cons : (y : Spec) → Has (cons_on y) (cons_words y)
has_cons y = has_then (section Cons declaration y.constructors) (opns_on y) (flat_map declaration_words y.constructors)
    (opns_words y)
    (has_section Cons declaration declaration_words has_declaration y.constructors) (has_opns y)

has_specification : (y : Spec) → Has (specification y) (y.name ∷ spec_words y)
has_specification y =
    has_behind RecSpec (word y.name then sorts_on y) (y.name ∷ spec_words y) (λ _. refl)
    (has_then (word y.name) (sorts_on y) (y.name ∷ []) (spec_words y) (has_word y.name)
    (has_then (section Sorts word y.sorts) (cons_on y) y.sorts (cons_words y) (has_sorts y) (has_cons y)))

-- the words of a text are those of its specification
pub uses_are_words : UsesAreWords
uses_are_words bytes y spelled =
    has_specification y (tokens bytes) [] spelled
    ∙ append-nil (y.name ∷ spec_words y)
    ∙ ap (λ ws. y.name ∷ ws) (sym (spec_used y))
