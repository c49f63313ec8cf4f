-- Pushing to the nodes and the open applications of a term that is being read.
use Rattle.std.proofs.Common.{Some, ◌≡◌, ℕ, zero, suc, ◌+◌, ◌-◌, ◌≤◌, ◌<◌, List, [], ◌∷◌, ◌++◌, length, map}
use Rattle.std.proofs.Common.{reverse, drop, refl, sym, ap, ◌∙◌, append_assoc, arith, add-one, length-drop}
use Rattle.std.specs.List.{All}
use Rattle.std.proofs.lemmas.List.{append-nil, reverse-append}
use Rattle.std.proofs.lemmas.List.Elements.{All-push, All-pop}
use Rattle.rec_syntax.specs.Tokens as token
use Rattle.rec_syntax.specs.Syntax as syntax
use Rattle.rec_syntax.specs.Syntax.{Terms, Apply, none, more}
use Rattle.rec_syntax.specs.Nodes as nodes
use Rattle.rec_syntax.specs.Nodes.{term_count, flat, flat_all, newest, assembled, made_by, newest_term}
use Rattle.rec_syntax.specs.Inner.Machine as machine
use Rattle.rec_syntax.specs.Inner.Machine.{Role, snoc, to}
use Rattle.rec_syntax.specs.Lexemes.{word_of}
use Rattle.rec_syntax.specs.Parts.{node_of, Within, IsTerm}
use Rattle.rec_syntax.specs.Inner.Reader.{made_of, frames_of, rest, total, Enough, IsStack}
use Rattle.rec_syntax.specs.declared.lexer.Span.{Span}
use Rattle.rec_syntax.specs.declared.parts.Node.{Node}
use Rattle.rec_syntax.specs.declared.parts.Term.{Term}
use Rattle.rec_syntax.specs.declared.reader.Call.{Call}

newest-snoc : (k : ℕ) (made : List syntax.Term) (ts : Terms) (t : syntax.Term) → newest k made (snoc ts t) ≡ snoc (newest k made ts) t
newest-snoc zero made ts t = refl
newest-snoc (suc k) [] ts t = refl
newest-snoc (suc k) (x ∷ made) ts t = newest-snoc k made (more x ts) t

made_by-push : (made : List syntax.Term) (ns : List nodes.Node) (n : nodes.Node) → made_by made (ns ++ n ∷ []) ≡ assembled n (made_by made ns)
made_by-push made [] n = refl
made_by-push made (m ∷ ns) n = made_by-push (assembled m made) ns n

Enough-push : (made : List syntax.Term) (ns : List nodes.Node) (n : nodes.Node) → Enough made ns → n.count ≤ length (made_by made ns)
    → Enough made (ns ++ n ∷ [])
Enough-push made [] n h le = (le, tt)
Enough-push made (m ∷ ns) n h le = (h.0, Enough-push (assembled m made) ns n h.1 le)

length-joined : (n : nodes.Node) (made : List syntax.Term) → length (assembled n made) ≡ length made - n.count + 1
length-joined n made = omega (arith, length-drop n.count made)

length-made_by : (made : List syntax.Term) (ns : List nodes.Node) → length (made_by made ns) ≤ length made + length ns
length-made_by made [] = omega arith
length-made_by made (n ∷ ns) = omega (arith, length-made_by (assembled n made) ns, length-joined n made)

nodes-push : (bytes : List ℕ) (ns : List Node) (n : Node) → map (node_of bytes) (ns ++ n ∷ []) ≡ map (node_of bytes) ns ++ node_of bytes n ∷ []
nodes-push bytes [] n = refl
nodes-push bytes (m ∷ ns) n = ap (λ (ms : List nodes.Node). node_of bytes m ∷ ms) (nodes-push bytes ns n)

length-nodes : (bytes : List ℕ) (ns : List Node) → length (map (node_of bytes) ns) ≡ length ns
length-nodes bytes [] = refl
length-nodes bytes (n ∷ ns) = ap suc (length-nodes bytes ns)

-- one more node joins the newest terms
pub made-push : (bytes : List ℕ) (ns : List Node) (n : Node) → made_of bytes (ns ++ n ∷ []) ≡ assembled (node_of bytes n) (made_of bytes ns)
made-push bytes ns n = rw nodes-push (made_by-push [] (map (node_of bytes) ns) (node_of bytes n))

enough-push : (bytes : List ℕ) (ns : List Node) (n : Node) → Enough [] (map (node_of bytes) ns) → n.count ≤ length (made_of bytes ns)
    → Enough [] (map (node_of bytes) (ns ++ n ∷ []))
enough-push bytes ns n h le = rw nodes-push (Enough-push [] (map (node_of bytes) ns) (node_of bytes n) h le)

pub calls-push : (calls : List Call) (c : Call) → reverse (calls ++ c ∷ []) ≡ c ∷ reverse calls
calls-push calls c = reverse-append calls (c ∷ [])

-- a node with its arguments before it makes them one term
node_stack : (bytes : List ℕ) (loose : ℕ) (before calls : List Call) (n : Node) (ns : List Node) → All (λ c. Within bytes c.word) calls → Within bytes n.word
    → IsStack bytes loose before ns → total (reverse calls) + n.count ≡ length (made_of bytes ns) → IsStack bytes 1 calls (ns ++ n ∷ [])
node_stack bytes loose before calls n ns words word s counted = record {
  calls = words;
  nodes = All-push (λ (m : Node). Within bytes m.word) ns n s.nodes word;
  enough = enough-push bytes ns n s.enough (omega arith);
  counted = rw (made-push bytes ns n) (omega (arith, length-joined (node_of bytes n) (made_of bytes ns)));
}

-- a word without arguments is one more term
pub leaf : (bytes : List ℕ) (w : Span) (calls : List Call) (ns after : List Node) → after ≡ ns ++ record { word = w; count = 0 } ∷ [] → Within bytes w
    → IsStack bytes 0 calls ns
    → (made_of bytes after ≡ Apply (word_of bytes w) none ∷ made_of bytes ns) × IsStack bytes 1 calls after
leaf bytes w calls ns after e word s =
    let n : Node = record { word = w; count = 0 } in
    (rw (e, made-push bytes ns n) refl, rw e (node_stack bytes 0 calls calls n ns s.calls word s (omega (arith, s.counted))))

close_core : (bytes : List ℕ) (p : Role) (y : syntax.Spec) (cs : List Call) (c : Call) (made : List syntax.Term) (n : nodes.Node) → 0 < length made
    → n ≡ record { word = word_of bytes c.word; count = c.count + 1 }
    → machine.after p (newest_term made) (frames_of bytes (c ∷ cs) (rest made)) y token.Close ≡ to
    (machine.After p (newest_term (assembled n made)) (frames_of bytes cs (rest (assembled n made)))) y
close_core bytes p y cs c [] n h e = absurd (omega arith)
close_core bytes p y cs c (t ∷ made) n h e = rw (e, add-one, newest-snoc c.count made none t) refl

comma_core : (bytes : List ℕ) (p : Role) (y : syntax.Spec) (cs : List Call) (c d : Call) (made : List syntax.Term) → 0 < length made
    → d ≡ record { word = c.word; count = c.count + 1 }
    → machine.after p (newest_term made) (frames_of bytes (c ∷ cs) (rest made)) y token.Comma ≡ to (machine.AtTerm p (frames_of bytes (d ∷ cs) made)) y
comma_core bytes p y cs c d [] h e = absurd (omega arith)
comma_core bytes p y cs c d (t ∷ made) h e = rw (e, add-one, newest-snoc c.count made none t) refl

-- what is left of the open applications, and the innermost
words_of_calls : (bytes : List ℕ) (before calls : List Call) (c : Call) → before ≡ calls ++ c ∷ [] → All (λ x. Within bytes x.word) before
    → All (λ x. Within bytes x.word) calls × Within bytes c.word
words_of_calls bytes before calls c e h = All-pop (λ (x : Call). Within bytes x.word) before calls (Some c) e h

-- a closing parenthesis makes the innermost application a term
pub closes : (bytes : List ℕ) (p : Role) (y : syntax.Spec) (before calls : List Call) (c : Call) (ns after : List Node) → before ≡ calls ++ c ∷ []
    → after ≡ ns ++ record { word = c.word; count = c.count + 1 } ∷ [] → IsStack bytes 1 before ns
    → (machine.after p (newest_term (made_of bytes ns)) (frames_of bytes (reverse before) (rest (made_of bytes ns))) y token.Close ≡ to
    (machine.After p (newest_term (made_of bytes after)) (frames_of bytes (reverse calls) (rest (made_of bytes after)))) y) × IsStack bytes 1 calls after
closes bytes p y before calls c ns after e f s =
    let made : List syntax.Term = made_of bytes ns in
    let n : Node = record { word = c.word; count = c.count + 1 } in
    let words = words_of_calls bytes before calls c e s.calls in
    let count : c.count + total (reverse calls) + 1 ≡ length made = rw (e, calls-push) at s.counted in (
      rw (e, calls-push, f, made-push bytes ns n) (close_core bytes p y (reverse calls) c made (node_of bytes n) (omega arith) refl),
      rw f (node_stack bytes 1 before calls n ns words.0 words.1 s (omega arith)),
    )

-- a comma makes the term an argument of the innermost application
pub goes_on : (bytes : List ℕ) (p : Role) (y : syntax.Spec) (before calls after : List Call) (c d : Call) (ns : List Node) → before ≡ calls ++ c ∷ []
    → after ≡ calls ++ d ∷ [] → d ≡ record { word = c.word; count = c.count + 1 } → IsStack bytes 1 before ns
    → (machine.after p (newest_term (made_of bytes ns)) (frames_of bytes (reverse before) (rest (made_of bytes ns))) y token.Comma ≡ to
    (machine.AtTerm p (frames_of bytes (reverse after) (made_of bytes ns))) y) × IsStack bytes 0 after ns
goes_on bytes p y before calls after c d ns e f g s =
    let made : List syntax.Term = made_of bytes ns in
    let words = words_of_calls bytes before calls c e s.calls in
    let count : c.count + total (reverse calls) + 1 ≡ length made = rw (e, calls-push) at s.counted in
    let more : d.count ≡ c.count + 1 = ap (λ (x : Call). x.count) g in
    let word : Within bytes d.word = rw g words.1 in (
      rw (e, f, calls-push, calls-push) (comma_core bytes p y (reverse calls) c d made (omega arith) g),
      record {
        calls = rw f (All-push (λ (x : Call). Within bytes x.word) calls d words.0 word);
        nodes = s.nodes;
        enough = s.enough;
        counted = rw (f, calls-push) (omega arith);
      },
    )

-- an open application has no more arguments than there are nodes
pub count_fits : (bytes : List ℕ) (before calls : List Call) (c : Call) (ns : List Node) → before ≡ calls ++ c ∷ [] → IsStack bytes 1 before ns
    → c.count + 1 ≤ length ns
count_fits bytes before calls c ns e s =
    let count : c.count + total (reverse calls) + 1 ≡ length (made_of bytes ns) = rw (e, calls-push) at s.counted in
    omega (arith, length-made_by [] (map (node_of bytes) ns), length-nodes bytes ns)

-- the nodes of the terms made, the newest first
abbrev flat_made : List syntax.Term → List nodes.Node
flat_made [] = []
flat_made (t ∷ made) = flat_made made ++ flat t

count-newest : (k : ℕ) (made : List syntax.Term) (ts : Terms) → k ≤ length made → term_count (newest k made ts) ≡ term_count ts + k
count-newest zero made ts h = omega arith
count-newest (suc k) [] ts h = absurd (omega arith)
count-newest (suc k) (t ∷ made) ts h = omega (arith, count-newest k made (more t ts) (omega arith))

flat-newest : (k : ℕ) (made : List syntax.Term) (ts : Terms) → k ≤ length made
    → flat_made (drop k made) ++ flat_all (newest k made ts) ≡ flat_made made ++ flat_all ts
flat-newest zero made ts h = refl
flat-newest (suc k) [] ts h = absurd (omega arith)
flat-newest (suc k) (t ∷ made) ts h = flat-newest k made (more t ts) (omega arith) ∙ sym (append_assoc (flat_made made) (flat t) (flat_all ts))

flat-joined : (n : nodes.Node) (made : List syntax.Term) → n.count ≤ length made → flat_made (assembled n made) ≡ flat_made made ++ n ∷ []
flat-joined n made h =
    let args : term_count (newest n.count made none) ≡ n.count = omega (arith, count-newest n.count made none h) in
    let front : flat_made (drop n.count made) ++ flat_all (newest n.count made none) ≡ flat_made made =
    flat-newest n.count made none h ∙ append-nil (flat_made made) in
    rw args (sym (append_assoc (flat_made (drop n.count made)) (flat_all (newest n.count made none)) (n ∷ []))
    ∙ ap (λ (ms : List nodes.Node). ms ++ n ∷ []) front)

flat-made_by : (made : List syntax.Term) (ns : List nodes.Node) → Enough made ns → flat_made (made_by made ns) ≡ flat_made made ++ ns
flat-made_by made [] h = sym (append-nil (flat_made made))
flat-made_by made (n ∷ ns) h =
    flat-made_by (assembled n made) ns h.1 ∙ ap (λ (ms : List nodes.Node). ms ++ ns) (flat-joined n made h.0) ∙ append_assoc (flat_made made) (n ∷ []) ns

alone : (made : List syntax.Term) → length made ≡ 1 → made ≡ newest_term made ∷ []
alone [] h = absurd (omega arith)
alone (x ∷ []) h = refl
alone (x ∷ y ∷ made) h = absurd (omega arith)

-- if no application is open, the nodes are those of one term
pub whole_term : (bytes : List ℕ) (calls : List Call) (ns : List Node) (t : Term) → calls ≡ [] → IsStack bytes 1 calls ns → t.nodes.items ≡ ns → IsTerm bytes t
whole_term bytes calls ns t e s same =
    let made : List syntax.Term = made_of bytes ns in
    let count : 1 ≡ length made = rw e at s.counted in
    let one : made ≡ newest_term made ∷ [] = alone made (omega arith) in
    let nodes : map (node_of bytes) ns ≡ flat (newest_term made) = sym (flat-made_by [] (map (node_of bytes) ns) s.enough) ∙ ap flat_made one in
    record { flat = rw same nodes; within = rw same s.nodes }
