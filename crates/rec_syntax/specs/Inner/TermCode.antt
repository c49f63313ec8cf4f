-- A term is determined by its nodes. The storage form of a contract's value uses this.
use Rattle.std.specs.Prelude.{◌≡◌, ℕ, suc, ◌+◌, Bool, List, [], ◌∷◌, ◌++◌, drop, refl}
use Rattle.std.proofs.Common.{ap, sym, ◌∙◌, add-zero, zero-add, append_assoc, arith}
use Rattle.std.proofs.lemmas.List.{append-nil}
use Rattle.std.specs.Coded.{Coded, code_by, coded×, coded_ℕ, coded_bool, coded_list}
use Rattle.rec_syntax.specs.Tokens.{Word}
use Rattle.rec_syntax.specs.Syntax.{Term, Terms, Apply, none, more, Declaration, Variables}
use Rattle.rec_syntax.specs.Syntax.{Condition, Rule, Spec, Sourced}
use Rattle.rec_syntax.specs.Nodes.{Node, term_count, flat, flat_all, newest, assembled, made_by}
use Rattle.rec_syntax.specs.Nodes.{newest_term, spelled_by}

-- onto ts made: the terms `ts` are added to `made`, whose newest term is first
abbrev pub onto : Terms → List Term → List Term
onto none made = made
onto (more t ts) made = onto ts (t ∷ made)

-- joins xs ts: the terms `xs` followed by the terms `ts`
abbrev pub joins : Terms → Terms → Terms
joins none ts = ts
joins (more x xs) ts = more x (joins xs ts)

-- the newest terms of `made` with `ts` on top are `ts` and the newest of `made`
pub newest-onto : (ts : Terms) (made : List Term) (n : ℕ) (xs : Terms)
    → newest (term_count ts + n) (onto ts made) xs ≡ newest n made (joins ts xs)
newest-onto none made n xs = rw zero-add refl
newest-onto (more t ts) made n xs =
    let e : term_count ts + 1 + n ≡ term_count ts + suc n = omega arith in
    rw e (newest-onto ts (t ∷ made) (suc n) xs)

-- without the terms of `ts` on top, `made` remains
pub drop-onto : (ts : Terms) (made : List Term) (n : ℕ)
    → drop (term_count ts + n) (onto ts made) ≡ drop n made
drop-onto none made n = rw zero-add refl
drop-onto (more t ts) made n =
    let e : term_count ts + 1 + n ≡ term_count ts + suc n = omega arith in
    rw e (drop-onto ts (t ∷ made) (suc n))

-- appending no terms changes nothing
pub joins-none : (xs : Terms) → joins xs none ≡ xs
joins-none none = refl
joins-none (more x xs) = ap (λ (ys : Terms). more x ys) (joins-none xs)

-- node w k: the node of a name with `k` arguments
abbrev node : Word → ℕ → Node
node w k = record { word = w; count = k }

-- a node takes its arguments, if they are the newest terms
pub assembled-onto : (w : Word) (ts : Terms) (made : List Term)
    → assembled (record { word = w; count = term_count ts }) (onto ts made) ≡ Apply w ts ∷ made
assembled-onto w ts made =
    let all = sym (add-zero (term_count ts)) in
    let args : newest (term_count ts) (onto ts made) none ≡ ts =
    ap (λ (k : ℕ). newest k (onto ts made) none) all ∙ newest-onto ts made 0 none ∙ joins-none ts
    in
    let others : drop (term_count ts) (onto ts made) ≡ made =
    ap (λ (k : ℕ). drop k (onto ts made)) all ∙ drop-onto ts made 0
    in
    rw (args, others) refl

mutual
  -- the nodes of a term make this term
  pub made_by-flat : (t : Term) (made : List Term) (rest : List Node)
      → made_by made (flat t ++ rest) ≡ made_by (t ∷ made) rest
  made_by-flat (Apply w ts) made rest =
      rw (append_assoc (flat_all ts) (node w (term_count ts) ∷ []) rest)
      (made_by-flat_all ts made (node w (term_count ts) ∷ rest)
      ∙ ap (λ (ms : List Term). made_by ms rest) (assembled-onto w ts made))

  pub made_by-flat_all : (ts : Terms) (made : List Term) (rest : List Node)
      → made_by made (flat_all ts ++ rest) ≡ made_by (onto ts made) rest
  made_by-flat_all none made rest = refl
  made_by-flat_all (more t ts) made rest = rw (append_assoc (flat t) (flat_all ts) rest)
      (made_by-flat t made (flat_all ts ++ rest) ∙ made_by-flat_all ts (t ∷ made) rest)

-- the nodes of a term spell this term
pub spelled_by-flat : (t : Term) → spelled_by (flat t) ≡ t
spelled_by-flat t = ap newest_term
    (ap (made_by []) (sym (append-nil (flat t))) ∙ made_by-flat t [] [])

-- the storage form of a name
abbrev pub word_code : Coded Word
word_code = code_by (ℕ × List ℕ) (coded× coded_ℕ (coded_list coded_ℕ)) (λ w. (w.at, w.bytes))
    (λ p. record { at = p.0; bytes = p.1 }) (λ _. refl)

-- the storage form of a node
abbrev pub node_code : Coded Node
node_code = code_by (Word × ℕ) (coded× word_code coded_ℕ) (λ n. (n.word, n.count))
    (λ p. record { word = p.0; count = p.1 }) (λ _. refl)

-- the storage form of a term: its nodes
abbrev pub term_code : Coded Term
term_code = code_by (List Node) (coded_list node_code) flat spelled_by spelled_by-flat

-- the storage form of a declaration
abbrev pub declaration_code : Coded Declaration
declaration_code =
    code_by (Word × (List Word × Word)) (coded× word_code (coded× (coded_list word_code) word_code))
    (λ d. (d.name, (d.arguments, d.sort)))
    (λ p. record { name = p.0; arguments = p.1.0; sort = p.1.1 }) (λ _. refl)

-- the storage form of a group of variables
abbrev pub variables_code : Coded Variables
variables_code =
    code_by (Word × (List Word × Word)) (coded× word_code (coded× (coded_list word_code) word_code))
    (λ v. (v.first, (v.others, v.sort)))
    (λ p. record { first = p.0; others = p.1.0; sort = p.1.1 }) (λ _. refl)

-- the storage form of a condition
abbrev pub condition_code : Coded Condition
condition_code =
    code_by (Term × (Term × Bool)) (coded× term_code (coded× term_code coded_bool))
    (λ c. (c.left, (c.right, c.equal)))
    (λ p. record { left = p.0; right = p.1.0; equal = p.1.1 }) (λ _. refl)

-- the storage form of a rewrite rule
abbrev pub rule_code : Coded Rule
rule_code =
    code_by (Term × (Term × List Condition))
    (coded× term_code (coded× term_code (coded_list condition_code)))
    (λ r. (r.left, (r.right, r.conditions)))
    (λ p. record { left = p.0; right = p.1.0; conditions = p.1.1 }) (λ _. refl)

-- the sections before the rules, in the form in which they are stored
abbrev Symbols : Type 0
Symbols = List Word × (List Declaration × (List Declaration × List Variables))

-- the storage form of the sections before the rules
abbrev symbols_code : Coded Symbols
symbols_code = coded× (coded_list word_code)
    (coded× (coded_list declaration_code)
    (coded× (coded_list declaration_code) (coded_list variables_code)))

-- the storage form of a specification
abbrev pub spec_code : Coded Spec
spec_code =
    code_by (Word × (Symbols × (List Rule × List Term)))
    (coded× word_code
    (coded× symbols_code (coded× (coded_list rule_code) (coded_list term_code))))
    (λ y. (y.name, ((y.sorts, (y.constructors, (y.operators, y.variables))), (y.rules, y.terms))))
    (λ p. record {
      name = p.0;
      sorts = p.1.0.0;
      constructors = p.1.0.1.0;
      operators = p.1.0.1.1.0;
      variables = p.1.0.1.1.1;
      rules = p.1.1.0;
      terms = p.1.1.1;
    })
    (λ _. refl)

-- the storage form of a specification with its text
abbrev pub sourced_code : Coded Sourced
sourced_code =
    code_by (List ℕ × Spec) (coded× (coded_list coded_ℕ) spec_code) (λ s. (s.source, s.spec))
    (λ p. record { source = p.0; spec = p.1 }) (λ _. refl)
