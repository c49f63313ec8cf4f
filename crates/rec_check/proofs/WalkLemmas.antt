-- What is found over the nodes of terms is what their subterms have.
use Rattle.std.proofs.Common.{refl, sym, ap, ◌∙◌, arith, cond, append_assoc}
use Rattle.std.proofs.lemmas.List.{append-nil, length-append}
use Rattle.std.proofs.lemmas.List.Concat.{flat_map-append}
use lib.Dec.{eqb-suc-zero}
use Rattle.std.proofs.Math.Seq.{take-append_seam, drop-append_seam}
use Rattle.std.specs.Prelude.{ℕ, suc, ◌≡◌, ◌+◌, ◌-◌, Bool, true, false, ◌||◌, not, List, [], ◌∷◌, ◌++◌, Option, Some}
use Rattle.std.specs.Prelude.{None, count_by, length, map, flat_map, filter, take, drop, slice_get, nat_eq, bytes_eq}
use Rattle.rec_syntax.specs.Tokens.{Word}
use Rattle.rec_syntax.specs.Syntax.{Term, Terms, Apply, none, more, Declaration, Condition, Rule, Spec, head, arguments, subterms, subterms_all}
use Rattle.rec_syntax.specs.Nodes.{Node, flat, flat_all, term_count}
use Rattle.rec_sorts.specs.Lookup.{count, mentions, symbol, sort_of, condition_terms, is_variable}
use Rattle.rec_sorts.specs.SpecRules.{heads, everywhere, is_filled, missing, variables_among}
use Rattle.rec_sorts.proofs.StackLemmas.{map-append}
use Rattle.rec_sorts.proofs.TableLemmas.{same_function}
use Rattle.rec_check.specs.Errors.{clash, clashing, clashing_in, clashing_sides}
use Rattle.rec_check.specs.Findings.{HasSame}
use Rattle.rec_check.specs.Lookups.{argument_sorts, ill_filled_among, present}
use Rattle.rec_check.specs.Named.{node_words}
use Rattle.rec_check.specs.Walks.{flat_terms, misfits, misfits_of, ill_sorted_among, unlike_heads, unlike_in_conditions, unlike_in, unbound_in}
use Rattle.rec_check.proofs.CountLemmas.{count-cons, count-append, same-filter, same-map, same-trans}
use Rattle.rec_check.proofs.CountLemmas.{same-of, same-flat_map, same-flat_terms, same-flat, node_at}

-- the last node of a term is its own
slice_get-last : {X : Type 0} (xs : List X) (x : X) → slice_get (xs ++ x ∷ []) (length xs) ≡ Some x
slice_get-last [] x = refl
slice_get-last (y ∷ xs) x = slice_get-last xs x

pub flat-last : (t : Term) → slice_get (flat t) (length (flat t) - 1) ≡ Some (record { word = head t; count = term_count (arguments t) })
flat-last (Apply w ts) =
    let own : Node = record { word = w; count = term_count ts } in
    let last : length (flat_all ts ++ own ∷ []) - 1 ≡ length (flat_all ts) = omega (arith, length-append (flat_all ts) (own ∷ [])) in
    ap (slice_get (flat_all ts ++ own ∷ [])) last ∙ slice_get-last (flat_all ts) own

-- the words of nodes
node_words-heads : (us : List Term) → heads us ≡ node_words (map node_at us)
node_words-heads [] = refl
node_words-heads (u ∷ us) = ap (λ ws. head u ∷ ws) (node_words-heads us)

pub same-words : (ts : List Term) → HasSame (heads (everywhere ts)) (node_words (flat_terms ts))
same-words ts = same-trans (heads (everywhere ts)) (node_words (map node_at (everywhere ts))) (node_words (flat_terms ts))
    (same-of (heads (everywhere ts)) (node_words (map node_at (everywhere ts))) (node_words-heads (everywhere ts)))
    (same-map (λ n. n.word) (map node_at (everywhere ts)) (flat_terms ts) (same-flat_terms ts))

pub same-words-of : (t : Term) → HasSame (heads (subterms t)) (node_words (flat t))
same-words-of t = same-trans (heads (subterms t)) (node_words (map node_at (subterms t))) (node_words (flat t))
    (same-of (heads (subterms t)) (node_words (map node_at (subterms t))) (node_words-heads (subterms t)))
    (same-map (λ n. n.word) (map node_at (subterms t)) (flat t) (same-flat t))

-- words that are missing, or not
pub same-missing : (ks : List Word) (ts : List Term) → HasSame (missing ks (heads (everywhere ts))) (missing ks (node_words (flat_terms ts)))
same-missing ks ts = same-filter (λ w. not (mentions ks w.bytes)) (heads (everywhere ts)) (node_words (flat_terms ts)) (same-words ts)

pub same-present : (ks : List Word) (ts : List Term) → HasSame (present ks (heads (everywhere ts))) (present ks (node_words (flat_terms ts)))
same-present ks ts = same-filter (λ w. mentions ks w.bytes) (heads (everywhere ts)) (node_words (flat_terms ts)) (same-words ts)

-- a name is mentioned where some word has it
mentions-count : (ws : List Word) (name : List ℕ) → mentions ws name ≡ not (nat_eq (count_by (λ w. bytes_eq w.bytes name) ws) 0)
mentions-count [] name = refl
mentions-count (w ∷ ws) name = by_test (bytes_eq w.bytes name) (mentions-count ws name)
    ∙ ap (λ (n : ℕ). not (nat_eq n 0)) (sym (count-cons (λ v. bytes_eq v.bytes name) w ws))
  where
    positive : (n : ℕ) → true ≡ not (nat_eq (1 + n) 0)
    positive n = sym (ap not (eqb-suc-zero n)) ∙ ap (λ (k : ℕ). not (nat_eq k 0)) (let e : suc n ≡ 1 + n = omega arith in e)

    nothing : (n : ℕ) → n ≡ 0 + n
    nothing n = omega arith

    by_test : (b : Bool) → mentions ws name ≡ not (nat_eq (count_by (λ v. bytes_eq v.bytes name) ws) 0)
        → b || mentions ws name ≡ not (nat_eq (cond b 1 0 + count_by (λ v. bytes_eq v.bytes name) ws) 0)
    by_test true h = positive (count_by (λ v. bytes_eq v.bytes name) ws)
    by_test false h = h ∙ ap (λ (n : ℕ). not (nat_eq n 0)) (nothing (count_by (λ v. bytes_eq v.bytes name) ws))

pub mentions-same : (xs ys : List Word) (name : List ℕ) → HasSame xs ys → mentions xs name ≡ mentions ys name
mentions-same xs ys name h = mentions-count xs name ∙ ap (λ (n : ℕ). not (nat_eq n 0)) (h (λ w. bytes_eq w.bytes name)) ∙ sym (mentions-count ys name)

-- words that are missing among the same words
pub missing-same : (ks js ws : List Word) → HasSame ks js → missing ks ws ≡ missing js ws
missing-same ks js ws h = ap (λ (f : Word → Bool). filter f ws) (same_function (λ w. ap not (mentions-same ks js w.bytes h)))

module _ (y : Spec) where
  -- another number of arguments than declared
  is_filled-node : (u : Term) → is_filled y u ≡ nat_eq (count (arguments u)) (length (argument_sorts y (head u).bytes))
  is_filled-node (Apply w ts) = by_symbol (symbol y w.bytes)
    where
      by_symbol : (o : Option Declaration) → (elim o [ Some d ↦ nat_eq (count ts) (length d.arguments) | None ↦ nat_eq (count ts) 0 ]) ≡ nat_eq
          (count ts) (length (elim o as (λ _. List Word) [ Some d ↦ d.arguments | None ↦ [] ]))
      by_symbol None = refl
      by_symbol (Some d) = refl

  ill_filled-nodes : (us : List Term) → heads (filter (λ t. not (is_filled y t)) us) ≡ ill_filled_among y (map node_at us)
  ill_filled-nodes [] = refl
  ill_filled-nodes (u ∷ us) =
      ap (λ (b : Bool). heads (cond (not b) (u ∷ filter (λ t. not (is_filled y t)) us) (filter (λ t. not (is_filled y t)) us))) (is_filled-node u)
      ∙ by_test (nat_eq (count (arguments u)) (length (argument_sorts y (head u).bytes))) (ill_filled-nodes us)
    where
      words : List Node → List Word
      words ns = map (λ n. n.word) ns

      rest : List Node
      rest = filter (λ n. not (nat_eq n.count (length (argument_sorts y n.word.bytes)))) (map node_at us)

      by_test : (b : Bool) → heads (filter (λ t. not (is_filled y t)) us) ≡ map (λ n. n.word) rest
          → heads (cond (not b) (u ∷ filter (λ t. not (is_filled y t)) us) (filter (λ t. not (is_filled y t)) us)) ≡ map (λ n. n.word)
          (cond (not b) (node_at u ∷ rest) rest)
      by_test true h = h
      by_test false h = ap (λ ws. head u ∷ ws) h

  pub same-ill_filled : (ts : List Term) → HasSame (heads (filter (λ t. not (is_filled y t)) (everywhere ts))) (ill_filled_among y (flat_terms ts))
  same-ill_filled ts = same-trans (heads (filter (λ t. not (is_filled y t)) (everywhere ts))) (ill_filled_among y (map node_at (everywhere ts)))
      (ill_filled_among y (flat_terms ts))
      (same-of (heads (filter (λ t. not (is_filled y t)) (everywhere ts))) (ill_filled_among y (map node_at (everywhere ts)))
      (ill_filled-nodes (everywhere ts)))
      (same-map (λ n. n.word) (filter (λ n. not (nat_eq n.count (length (argument_sorts y n.word.bytes)))) (map node_at (everywhere ts)))
      (filter (λ n. not (nat_eq n.count (length (argument_sorts y n.word.bytes)))) (flat_terms ts))
      (same-filter (λ n. not (nat_eq n.count (length (argument_sorts y n.word.bytes)))) (map node_at (everywhere ts)) (flat_terms ts) (same-flat_terms ts)))

  -- arguments whose sort clashes with the declared one
  abbrev heads_of : Terms → List Word
  heads_of none = []
  heads_of (more t ts) = head t ∷ heads_of ts

  length-heads_of : (ts : Terms) → length (heads_of ts) ≡ term_count ts
  length-heads_of none = refl
  length-heads_of (more t ts) = omega (arith, length-heads_of ts)

  pub misfits-nothing : (hs : List Word) → misfits y hs [] ≡ []
  misfits-nothing [] = refl
  misfits-nothing (h ∷ hs) = refl

  misfits-placed : (ss : List Word) (ts : Terms) → misfits y (heads_of ts) ss ≡ heads (clashing y ss ts)
  misfits-placed [] ts = misfits-nothing (heads_of ts)
  misfits-placed (s ∷ ss) none = refl
  misfits-placed (s ∷ ss) (more t ts) = by_test (clash y (sort_of y t) (Some s.bytes)) (misfits-placed ss ts)
    where
      by_test : (b : Bool) → misfits y (heads_of ts) ss ≡ heads (clashing y ss ts)
          → (elim b as (λ _. List Word) [ true ↦ head t ∷ misfits y (heads_of ts) ss | false ↦ misfits y (heads_of ts) ss ]) ≡ heads
          (elim b as (λ _. List Term) [ true ↦ t ∷ clashing y ss ts | false ↦ clashing y ss ts ])
      by_test true h = ap (λ ws. head t ∷ ws) h
      by_test false h = h

  count-heads_of : (ts : Terms) → length (heads_of ts) ≡ count ts
  count-heads_of none = refl
  count-heads_of (more t ts) = omega (arith, count-heads_of ts)

  misfits_of-nothing : (hs : List Word) → misfits_of y hs [] ≡ []
  misfits_of-nothing hs = by (nat_eq (length hs) 0) (misfits-nothing hs)
    where
      by : (b : Bool) → misfits y hs [] ≡ [] → (elim b as (λ _. List Word) [ true ↦ misfits y hs [] | false ↦ [] ]) ≡ []
      by true e = e
      by false e = refl

  misfits-own : (w : Word) (ts : Terms) → misfits_of y (heads_of ts) (argument_sorts y w.bytes) ≡ heads (clashing_in y (Apply w ts))
  misfits-own w ts = by_symbol (symbol y w.bytes)
    where
      by_count : (b : Bool) (ss : List Word) → (elim b as (λ _. List Word) [ true ↦ misfits y (heads_of ts) ss | false ↦ [] ]) ≡ heads
          (elim b as (λ _. List Term) [ true ↦ clashing y ss ts | false ↦ [] ])
      by_count true ss = misfits-placed ss ts
      by_count false ss = refl

      by_symbol : (o : Option Declaration) → misfits_of y (heads_of ts) (elim o as (λ _. List Word) [ Some d ↦ d.arguments | None ↦ [] ]) ≡ heads
          (elim o as (λ _. List Term) [
            | Some d ↦ elim (nat_eq (count ts) (length d.arguments)) as (λ _. List Term) [ true ↦ clashing y d.arguments ts | false ↦ [] ]
            | None ↦ []
          ])
      by_symbol None = misfits_of-nothing (heads_of ts)
      by_symbol (Some d) =
          ap (λ (n : ℕ). elim (nat_eq n (length d.arguments)) as (λ _. List Word) [ true ↦ misfits y (heads_of ts) d.arguments | false ↦ [] ])
          (count-heads_of ts)
          ∙ by_count (nat_eq (count ts) (length d.arguments)) d.arguments

  split_off : (hs : List Word) (ts : Terms) (w : Word) (ns : List Node)
      → ill_sorted_among y (hs ++ heads_of ts) (record { word = w; count = term_count ts } ∷ ns) ≡ misfits_of y (heads_of ts)
      (argument_sorts y w.bytes) ++ ill_sorted_among y (hs ++ w ∷ []) ns
  split_off hs ts w ns =
      let base : length (hs ++ heads_of ts) - term_count ts ≡ length hs = omega (arith, length-append hs (heads_of ts), length-heads_of ts) in
      ap (λ (b : ℕ). misfits_of y (drop b (hs ++ heads_of ts)) (argument_sorts y w.bytes) ++ ill_sorted_among y (take b (hs ++ heads_of ts) ++ w ∷ []) ns) base
      ∙ ap (λ zs. misfits_of y zs (argument_sorts y w.bytes) ++ ill_sorted_among y (take (length hs) (hs ++ heads_of ts) ++ w ∷ []) ns)
      (drop-append_seam hs (heads_of ts))
      ∙ ap (λ zs. misfits_of y (heads_of ts) (argument_sorts y w.bytes) ++ ill_sorted_among y (zs ++ w ∷ []) ns) (take-append_seam hs (heads_of ts))

  abbrev found_in : List Term → List Word
  found_in us = heads (flat_map (clashing_in y) us)

  found_in-append : (p : Word → Bool) (us vs : List Term) → count_by p (found_in (us ++ vs)) ≡ count_by p (found_in us) + count_by p (found_in vs)
  found_in-append p us vs =
      ap (λ zs. count_by p (heads zs)) (flat_map-append (clashing_in y) us vs)
      ∙ ap (count_by p) (map-append head (flat_map (clashing_in y) us) (flat_map (clashing_in y) vs))
      ∙ count-append p (found_in us) (found_in vs)

  mutual
    walk-term : (p : Word → Bool) (hs : List Word) (t : Term) (ns : List Node)
        → count_by p (ill_sorted_among y hs (flat t ++ ns)) ≡ count_by p (found_in (subterms t)) + count_by p (ill_sorted_among y (hs ++ head t ∷ []) ns)
    walk-term p hs (Apply w ts) ns =
        let own : Node = record { word = w; count = term_count ts } in
        let later = ill_sorted_among y (hs ++ w ∷ []) ns in
        let apart : count_by p (ill_sorted_among y hs ((flat_all ts ++ own ∷ []) ++ ns)) ≡ count_by p (ill_sorted_among y hs (flat_all ts ++ own ∷ ns)) =
        ap (λ zs. count_by p (ill_sorted_among y hs zs)) (append_assoc (flat_all ts) (own ∷ []) ns) in
        let inner : count_by p (ill_sorted_among y hs (flat_all ts ++ own ∷ ns)) ≡ count_by p (found_in (subterms_all ts)) + count_by p
        (ill_sorted_among y (hs ++ heads_of ts) (own ∷ ns)) = walk-terms p hs ts (own ∷ ns) in
        let split : count_by p (ill_sorted_among y (hs ++ heads_of ts) (own ∷ ns)) ≡ count_by p (heads (clashing_in y (Apply w ts))) + count_by p later =
        ap (count_by p) (split_off hs ts w ns ∙ ap (λ zs. zs ++ later) (misfits-own w ts)) ∙ count-append p (heads (clashing_in y (Apply w ts))) later in
        let all : count_by p (found_in (subterms (Apply w ts))) ≡ count_by p (heads (clashing_in y (Apply w ts))) + count_by p (found_in (subterms_all ts)) =
        ap (count_by p) (map-append head (clashing_in y (Apply w ts)) (flat_map (clashing_in y) (subterms_all ts)))
        ∙ count-append p (heads (clashing_in y (Apply w ts))) (found_in (subterms_all ts)) in
        omega (arith, apart, inner, split, all)

    walk-terms : (p : Word → Bool) (hs : List Word) (ts : Terms) (ns : List Node)
        → count_by p (ill_sorted_among y hs (flat_all ts ++ ns)) ≡ count_by p (found_in (subterms_all ts)) + count_by p
        (ill_sorted_among y (hs ++ heads_of ts) ns)
    walk-terms p hs none ns =
        let nothing : count_by p (found_in (subterms_all none)) ≡ 0 = refl in
        let same : count_by p (ill_sorted_among y (hs ++ []) ns) ≡ count_by p (ill_sorted_among y hs ns) =
        ap (λ zs. count_by p (ill_sorted_among y zs ns)) (append-nil hs) in
        omega (arith, nothing, same)
    walk-terms p hs (more t ts) ns =
        let apart : count_by p (ill_sorted_among y hs ((flat t ++ flat_all ts) ++ ns)) ≡ count_by p (ill_sorted_among y hs (flat t ++ (flat_all ts ++ ns))) =
        ap (λ zs. count_by p (ill_sorted_among y hs zs)) (append_assoc (flat t) (flat_all ts) ns) in
        let first : count_by p (ill_sorted_among y hs (flat t ++ (flat_all ts ++ ns))) ≡ count_by p (found_in (subterms t)) + count_by p
        (ill_sorted_among y (hs ++ head t ∷ []) (flat_all ts ++ ns)) = walk-term p hs t (flat_all ts ++ ns) in
        let rest : count_by p (ill_sorted_among y (hs ++ head t ∷ []) (flat_all ts ++ ns)) ≡ count_by p (found_in (subterms_all ts)) + count_by p
        (ill_sorted_among y ((hs ++ head t ∷ []) ++ heads_of ts) ns) = walk-terms p (hs ++ head t ∷ []) ts ns in
        let stack : count_by p (ill_sorted_among y ((hs ++ head t ∷ []) ++ heads_of ts) ns) ≡ count_by p
        (ill_sorted_among y (hs ++ (head t ∷ heads_of ts)) ns) = ap (λ zs. count_by p (ill_sorted_among y zs ns))
        (append_assoc hs (head t ∷ []) (heads_of ts)) in
        let all : count_by p (found_in (subterms t ++ subterms_all ts)) ≡ count_by p (found_in (subterms t)) + count_by p (found_in (subterms_all ts))
        = found_in-append p (subterms t) (subterms_all ts) in
        omega (arith, apart, first, rest, stack, all)

  pub same-ill_sorted : (hs : List Word) (ts : List Term) → HasSame (heads (flat_map (clashing_in y) (everywhere ts))) (ill_sorted_among y hs (flat_terms ts))
  same-ill_sorted hs [] p = refl
  same-ill_sorted hs (t ∷ ts) p =
      let first : count_by p (ill_sorted_among y hs (flat t ++ flat_terms ts)) ≡ count_by p (found_in (subterms t)) + count_by p
      (ill_sorted_among y (hs ++ head t ∷ []) (flat_terms ts)) = walk-term p hs t (flat_terms ts) in
      let rest : count_by p (found_in (everywhere ts)) ≡ count_by p (ill_sorted_among y (hs ++ head t ∷ []) (flat_terms ts)) =
      same-ill_sorted (hs ++ head t ∷ []) ts p in
      let all : count_by p (found_in (subterms t ++ everywhere ts)) ≡ count_by p (found_in (subterms t)) + count_by p (found_in (everywhere ts)) =
      found_in-append p (subterms t) (everywhere ts) in
      omega (arith, first, rest, all)

  -- sides whose sorts clash
  heads-unlike : (l r : Term) → heads (clashing_sides y l r) ≡ unlike_heads y (head l) (head r)
  heads-unlike l r = by_test (clash y (sort_of y l) (sort_of y r))
    where
      by_test : (b : Bool) → heads (elim b as (λ _. List Term) [ true ↦ l ∷ [] | false ↦ [] ])
          ≡ (elim b as (λ _. List Word) [ true ↦ head l ∷ [] | false ↦ [] ])
      by_test true = refl
      by_test false = refl

  heads-unlike_conditions : (cs : List Condition) → heads (flat_map (λ c. clashing_sides y c.left c.right) cs) ≡ unlike_in_conditions y cs
  heads-unlike_conditions [] = refl
  heads-unlike_conditions (c ∷ cs) =
      map-append head (clashing_sides y c.left c.right) (flat_map (λ c. clashing_sides y c.left c.right) cs)
      ∙ ap (λ ws. ws ++ heads (flat_map (λ c. clashing_sides y c.left c.right) cs)) (heads-unlike c.left c.right)
      ∙ ap (λ ws. unlike_heads y (head c.left) (head c.right) ++ ws) (heads-unlike_conditions cs)

  heads-unlike_rule : (r : Rule) → heads (clashing_sides y r.left r.right ++ flat_map (λ c. clashing_sides y c.left c.right) r.conditions) ≡ unlike_in y r
  heads-unlike_rule r =
      map-append head (clashing_sides y r.left r.right) (flat_map (λ c. clashing_sides y c.left c.right) r.conditions)
      ∙ ap (λ ws. ws ++ heads (flat_map (λ c. clashing_sides y c.left c.right) r.conditions)) (heads-unlike r.left r.right)
      ∙ ap (λ ws. unlike_heads y (head r.left) (head r.right) ++ ws) (heads-unlike_conditions r.conditions)

  pub heads-unlike_rules : (rs : List Rule)
      → heads (flat_map (λ r. clashing_sides y r.left r.right ++ flat_map (λ c. clashing_sides y c.left c.right) r.conditions) rs) ≡ flat_map (unlike_in y) rs
  heads-unlike_rules [] = refl
  heads-unlike_rules (r ∷ rs) =
      let f : Rule → List Term = λ r. clashing_sides y r.left r.right ++ flat_map (λ c. clashing_sides y c.left c.right) r.conditions in
      map-append head (f r) (flat_map f rs)
      ∙ ap (λ ws. ws ++ heads (flat_map f rs)) (heads-unlike_rule r)
      ∙ ap (λ ws. unlike_in y r ++ ws) (heads-unlike_rules rs)

  -- variables that are not in the left side
  same-unbound_in : (r : Rule) → HasSame (missing (heads (subterms r.left))
      (variables_among y (heads (everywhere (r.right ∷ condition_terms r.conditions))))) (unbound_in y r)
  same-unbound_in r =
      let ts : List Term = r.right ∷ condition_terms r.conditions in
      let ks : List Word = heads (subterms r.left) in
      let js : List Word = node_words (flat r.left) in
      let us : List Word = variables_among y (heads (everywhere ts)) in
      let vs : List Word = variables_among y (node_words (flat_terms ts)) in
      same-trans (missing ks us) (missing js us) (missing js vs)
      (same-of (missing ks us) (missing js us) (missing-same ks js us (same-words-of r.left)))
      (same-filter (λ w. not (mentions js w.bytes)) us vs (same-filter (λ w. is_variable y w.bytes) (heads (everywhere ts))
      (node_words (flat_terms ts)) (same-words ts)))

  pub same-unbound : (rs : List Rule)
      → HasSame (flat_map (λ r. missing (heads (subterms r.left)) (variables_among y (heads (everywhere (r.right ∷ condition_terms r.conditions)))))
      rs) (flat_map (unbound_in y) rs)
  same-unbound rs = same-flat_map (λ r. missing (heads (subterms r.left))
      (variables_among y (heads (everywhere (r.right ∷ condition_terms r.conditions))))) (unbound_in y) rs same-unbound_in
