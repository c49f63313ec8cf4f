-- Each step of the reader on its stack and nodes is a step of the machine.
use Rattle.std.proofs.Common.{◌≡◌, ℕ, zero, suc, ◌+◌, ◌-◌, ◌≤◌, ◌<◌, List, [], ◌∷◌, ◌++◌, length, map, drop, reverse, Some, None}
use Rattle.std.proofs.Common.{true, ℤ, pos, negsuc, w32, to_z, of_z, refl, sym, subst, ap, ◌∙◌, arith, add-one, length-drop}
use Rattle.std.proofs.lemmas.List.{drop-drop, reverse-append, length-reverse}
use Rattle.std.specs.List.{AllByRecursion}
use Rattle.std.proofs.lemmas.Int.{to_z-of_z}
use Rattle.std.proofs.lemmas.Bool.Decides.{nat_tests}
use Rattle.rx_term.specs.Tree.{Tree, none, Int, Appl, Items, Hole, annotated, is_i32}
use Rattle.rx_text.specs.Nodes as nodes
use Rattle.rx_text.specs.Nodes.{Number, Application, Listing, Holding, Annotating, newest, top, rest, needed, assembled, trees_of, Enough, IsProper, AreProper}
use Rattle.rx_text.specs.Machine as machine
use Rattle.rx_text.specs.Token as token
use Rattle.rx_text.specs.Token.{Token}
use Rattle.rx_text.specs.Lexemes.{name_of, IsWord, token_of}
use Rattle.rx_text.specs.Reader.{node_of, IsNode, made_of, frame_of, held, under, IsOpening, IsUnannotated, AreUnannotated, frames_of, state_of, total, IsStack, IsState}
use Rattle.rx_text.specs.declared.lexer.LexemeKind.{LexemeKind}
use Rattle.rx_text.specs.declared.lexer.LexemeKind.TheVariants as kind
use Rattle.rx_text.specs.declared.nodes.Word.{Word}
use Rattle.rx_text.specs.declared.nodes.Node.{Node}
use Rattle.rx_text.specs.declared.nodes.Node.TheVariants as node
use Rattle.rx_text.specs.declared.reader.Opening.{Opening}
use Rattle.rx_text.specs.declared.reader.Opening.TheVariants as opening
use Rattle.rx_text.specs.declared.reader.Frame.{Frame}
use Rattle.rx_text.specs.declared.reader.Due.TheVariants.{AtTerm, Named, Body, Whole}

-- ---- nodes

pub trees-push : (made : List Tree) (ns : List nodes.Node) (n : nodes.Node) → trees_of made (ns ++ n ∷ []) ≡ assembled n (trees_of made ns)
trees-push made [] n = refl
trees-push made (m ∷ ns) n = trees-push (assembled m made) ns n

Enough-push : (made : List Tree) (ns : List nodes.Node) (n : nodes.Node) → Enough made ns → needed n ≤ length (trees_of made ns) → Enough made (ns ++ n ∷ [])
Enough-push made [] n h le = (le, tt)
Enough-push made (m ∷ ns) n h le = (h.0, Enough-push (assembled m made) ns n h.1 le)

Proper-push : (made : List Tree) (ns : List nodes.Node) (n : nodes.Node) → AreProper made ns → IsProper n (trees_of made ns) → AreProper made (ns ++ n ∷ [])
Proper-push made [] n h p = (p, tt)
Proper-push made (m ∷ ns) n h p = (h.0, Proper-push (assembled m made) ns n h.1 p)

nodes-push : (bytes : List ℕ) (ns : List Node) (n : Node) → map (node_of bytes) (ns ++ n ∷ []) ≡ map (node_of bytes) ns ++ node_of bytes n ∷ []
nodes-push bytes [] n = refl
nodes-push bytes (m ∷ ns) n = ap (λ (ms : List nodes.Node). node_of bytes m ∷ ms) (nodes-push bytes ns n)

length-nodes : (bytes : List ℕ) (ns : List Node) → length (map (node_of bytes) ns) ≡ length ns
length-nodes bytes [] = refl
length-nodes bytes (n ∷ ns) = ap suc (length-nodes bytes ns)

length-rest : (made : List Tree) → length (rest made) ≡ length made - 1
length-rest [] = refl
length-rest (t ∷ made) = omega arith

pub length-joined : (n : nodes.Node) (made : List Tree) → needed n ≤ length made → length (assembled n made) + needed n ≡ length made + 1
length-joined (Number z) made h = omega arith
length-joined (Application name quoted k) made h = omega (arith, length-drop k made)
length-joined (Listing k) made h = omega (arith, length-drop k made)
length-joined Holding made h = omega (arith, length-rest made)
length-joined (Annotating k) made h = omega (arith, length-drop k made, length-rest (drop k made))

-- each node makes one tree at most
length-one : (n : nodes.Node) (made : List Tree) → length (assembled n made) ≤ length made + 1
length-one (Number z) made = omega arith
length-one (Application name quoted k) made = omega (arith, length-drop k made)
length-one (Listing k) made = omega (arith, length-drop k made)
length-one Holding made = omega (arith, length-rest made)
length-one (Annotating k) made = omega (arith, length-drop k made, length-rest (drop k made))

length-trees : (made : List Tree) (ns : List nodes.Node) → length (trees_of made ns) ≤ length made + length ns
length-trees made [] = omega arith
length-trees made (n ∷ ns) = omega (arith, length-trees (assembled n made) ns, length-one n made)

pub All-push : {X : Type 0} (P : X → Type 0) (xs : List X) (x : X) → AllByRecursion P xs → P x → AllByRecursion P (xs ++ x ∷ [])
All-push P [] x h p = (p, tt)
All-push P (y ∷ ys) x h p = (h.0, All-push P ys x h.1 p)

pub All-front : {X : Type 0} (P : X → Type 0) (xs : List X) (x : X) → AllByRecursion P (xs ++ x ∷ []) → AllByRecursion P xs × P x
All-front P [] x h = (tt, h.0)
All-front P (y ∷ ys) x h = let k = All-front P ys x h.1 in ((h.0, k.0), k.1)

made-push : (bytes : List ℕ) (ns : List Node) (n : Node) → made_of bytes (ns ++ n ∷ []) ≡ assembled (node_of bytes n) (made_of bytes ns)
made-push bytes ns n = rw nodes-push (trees-push [] (map (node_of bytes) ns) (node_of bytes n))

pub rest-drop : (k : ℕ) (ts : List Tree) → rest (drop k ts) ≡ drop (k + 1) ts
rest-drop k ts = rw add-one (go k ts)
  where
    go : (k : ℕ) (ts : List Tree) → rest (drop k ts) ≡ drop (suc k) ts
    go zero [] = refl
    go zero (t ∷ ts) = refl
    go (suc k) [] = refl
    go (suc k) (t ∷ ts) = go k ts

drop-both : (j k l : ℕ) (ts : List Tree) → j + k ≡ l → drop j (drop k ts) ≡ drop l ts
drop-both j k l ts e = drop-drop j k ts ∙ ap (λ n. drop n ts) (omega (arith, e))

-- the trees that a node does not take stay below the one that it makes
under-made : (n : nodes.Node) (made : List Tree) → (t : Tree) × (assembled n made ≡ t ∷ drop (needed n) made)
under-made (Number z) made = (Int z none, refl)
under-made (Application name quoted k) made = (Appl name quoted (newest k made) none, refl)
under-made (Listing k) made = (Items (newest k made) none, refl)
under-made Holding made = (Hole (top made) none, ap (λ (ts : List Tree). Hole (top made) none ∷ ts) (rest-drop 0 made))
under-made (Annotating k) made = let t = annotated (top (drop k made)) (newest k made) in (t, ap (λ (ts : List Tree). t ∷ ts) (rest-drop k made))

drop-made : (n : nodes.Node) (made : List Tree) (k l : ℕ) → needed n ≤ k → l + needed n ≡ k + 1 → drop l (assembled n made) ≡ drop k made
drop-made n made k zero takes left = absurd (omega arith)
drop-made n made k (suc l) takes left = let u = under-made n made in rw (u.1) (drop-both l (needed n) k made (omega arith))

-- a node more, with the trees that it takes before it
pub add_node : (bytes : List ℕ) (k l : ℕ) (frames : List Frame) (ns after : List Node) (n : Node) → after ≡ ns ++ n ∷ [] → IsStack bytes k frames ns
    → IsNode bytes n → IsProper (node_of bytes n) (made_of bytes ns) → needed (node_of bytes n) ≤ k → l + needed (node_of bytes n) ≡ k + 1
    → (made_of bytes after ≡ assembled (node_of bytes n) (made_of bytes ns)) × IsStack bytes l frames after
add_node bytes k l frames ns after n e s name proper takes left =
    let count = s.counted in
    let fits : needed (node_of bytes n) ≤ length (made_of bytes ns) = omega (arith, count) in
    let made : made_of bytes after ≡ assembled (node_of bytes n) (made_of bytes ns) = rw e (made-push bytes ns n) in
    let same : drop l (made_of bytes after) ≡ drop k (made_of bytes ns) =
    ap (λ (ts : List Tree). drop l ts) made ∙ drop-made (node_of bytes n) (made_of bytes ns) k l takes left in (
      made,
      record {
        enough = rw (e, nodes-push) (Enough-push [] (map (node_of bytes) ns) (node_of bytes n) s.enough fits);
        counted = omega (arith, count, length-joined (node_of bytes n) (made_of bytes ns) fits, ap length made);
        openings = s.openings;
        names = rw e (All-push (IsNode bytes) ns n s.names name);
        proper = rw (e, nodes-push) (Proper-push [] (map (node_of bytes) ns) (node_of bytes n) s.proper proper);
        unannotated = subst (λ (ts : List Tree). AreUnannotated (reverse frames) ts) (sym same) s.unannotated;
      },
    )

-- ---- frames

frames-push : (fs : List Frame) (f : Frame) → reverse (fs ++ f ∷ []) ≡ f ∷ reverse fs
frames-push fs f = reverse-append fs (f ∷ [])

under-loose : (o : Opening) (n k l : ℕ) (made : List Tree) → held o n + k ≡ l → under o n (drop k made) ≡ drop l made
under-loose (opening.Arguments w) n k l made e = drop-both n k l made e
under-loose opening.List n k l made e = drop-both n k l made e
under-loose opening.Placeholder n k l made e = ap (λ i. drop i made) (omega (arith, e))
under-loose opening.Annotations n k l made e = rest-drop n (drop k made) ∙ drop-both (n + 1) k l made e

-- what is no longer open has its trees
pub pop_frame : (bytes : List ℕ) (k : ℕ) (before frames : List Frame) (f : Frame) (ns : List Node) → before ≡ frames ++ f ∷ []
    → IsStack bytes k before ns
    → IsStack bytes (held f.opening f.count + k) frames ns × IsOpening bytes f.opening × IsUnannotated f.opening f.count (drop k (made_of bytes ns))
pop_frame bytes k before frames f ns e s =
    let count : held f.opening f.count + total (reverse frames) + k ≡ length (made_of bytes ns) = rw (e, frames-push) at s.counted in
    let names = All-front (λ (g : Frame). IsOpening bytes g.opening) frames f (rw e at s.openings) in
    let bare : AreUnannotated (f ∷ reverse frames) (drop k (made_of bytes ns)) = rw (e, frames-push) at s.unannotated in
    let below = under-loose f.opening f.count k (held f.opening f.count + k) (made_of bytes ns) refl in (
      record {
        enough = s.enough;
        counted = omega (arith, count);
        openings = names.0;
        names = s.names;
        proper = s.proper;
        unannotated = subst (λ (ts : List Tree). AreUnannotated (reverse frames) ts) below bare.1;
      },
      names.1,
      bare.0,
    )

pub push_frame : (bytes : List ℕ) (k l : ℕ) (frames after : List Frame) (f : Frame) (ns : List Node) → after ≡ frames ++ f ∷ []
    → IsStack bytes l frames ns → l ≡ held f.opening f.count + k → IsOpening bytes f.opening → IsUnannotated f.opening f.count (drop k (made_of bytes ns))
    → IsStack bytes k after ns
push_frame bytes k l frames after f ns e s left name bare =
    let count = s.counted in
    let below = under-loose f.opening f.count k l (made_of bytes ns) (sym left) in
    let all : AreUnannotated (f ∷ reverse frames) (drop k (made_of bytes ns)) =
    (bare, subst (λ (ts : List Tree). AreUnannotated (reverse frames) ts) (sym below) s.unannotated) in
    record {
      enough = s.enough;
      counted = rw (e, frames-push) (omega (arith, count));
      openings = rw e (All-push (λ (g : Frame). IsOpening bytes g.opening) frames f s.openings name);
      names = s.names;
      proper = s.proper;
      unannotated = rw (e, frames-push) all;
    }

held-longer : (o : Opening) (k : ℕ) → (o ≡ opening.Placeholder → ⊥) → held o (k + 1) ≡ held o k + 1
held-longer (opening.Arguments w) k h = refl
held-longer opening.List k h = refl
held-longer opening.Placeholder k h = absurd (h refl)
held-longer opening.Annotations k h = omega arith

held-above : (o : Opening) (k : ℕ) → (o ≡ opening.Placeholder → ⊥) → k ≤ held o k
held-above (opening.Arguments w) k h = omega arith
held-above opening.List k h = omega arith
held-above opening.Placeholder k h = absurd (h refl)
held-above opening.Annotations k h = omega arith

-- what is open has no more items than there are nodes
pub count_fits : (bytes : List ℕ) (before frames : List Frame) (f : Frame) (ns : List Node) → before ≡ frames ++ f ∷ []
    → (f.opening ≡ opening.Placeholder → ⊥) → IsState bytes Whole before ns → f.count + 1 ≤ length ns
count_fits bytes before frames f ns e h s =
    let p = pop_frame bytes 1 before frames f ns e s.stack in
    let count = p.0.counted in
    omega (arith, count, held-above f.opening f.count h, length-trees [] (map (node_of bytes) ns), length-nodes bytes ns)

-- ---- steps

-- a body was made
body_made : (bytes : List ℕ) (frames : List Frame) (after : List Node) (t : Tree) (made : List Tree) → made_of bytes after ≡ t ∷ made
    → annotated t none ≡ t → IsStack bytes 1 frames after
    → (Some (machine.Body t, frames_of bytes (reverse frames) made) ≡ Some (state_of bytes Body frames after)) × IsState bytes Body frames after
body_made bytes frames after t made e bare s = (rw e refl, record { stack = s; bare = rw e bare; word = tt })

pub in_word : (z : ℤ) → is_i32 z ≡ true → to_z w32 (of_z w32 z) ≡ z
in_word (pos n) h = let lt : n < 2147483648 = grind (arith, nat_tests, h) in to_z-of_z w32 (pos n) (omega arith)
in_word (negsuc n) h = let lt : n < 2147483648 = grind (arith, nat_tests, h) in to_z-of_z w32 (negsuc n) (omega arith)

pub integer_moves : (bytes : List ℕ) (z : ℤ) (frames : List Frame) (ns after : List Node) → is_i32 z ≡ true
    → after ≡ ns ++ node.Integer (to_z w32 (of_z w32 z)) ∷ [] → IsStack bytes 0 frames ns
    → (Some (machine.Body (Int z none), frames_of bytes (reverse frames) (made_of bytes ns)) ≡ Some (state_of bytes Body frames after))
    × IsState bytes Body frames after
integer_moves bytes z frames ns after h e s =
    let f : after ≡ ns ++ node.Integer z ∷ [] = e ∙ ap (λ (x : ℤ). ns ++ node.Integer x ∷ []) (in_word z h) in
    let a = add_node bytes 0 1 frames ns after (node.Integer z) f s h tt (omega arith) (omega arith) in
    body_made bytes frames after (Int z none) (made_of bytes ns) a.0 refl a.1

pub arguments_move : (bytes : List ℕ) (w : Word) (k : ℕ) (frames : List Frame) (ns after : List Node) → after ≡ ns ++ node.Application w k ∷ []
    → IsStack bytes k frames ns → IsWord bytes w
    → (machine.close (frame_of bytes (opening.Arguments w) k (made_of bytes ns)) (frames_of bytes (reverse frames) (drop k (made_of bytes ns)))
    token.Close ≡ Some (state_of bytes Body frames after)) × IsState bytes Body frames after
arguments_move bytes w k frames ns after e s name =
    let a = add_node bytes k 1 frames ns after (node.Application w k) e s name tt (omega arith) (omega arith) in
    body_made bytes frames after (Appl (name_of bytes w) w.quoted (newest k (made_of bytes ns)) none) (drop k (made_of bytes ns)) a.0 refl a.1

pub list_moves : (bytes : List ℕ) (k : ℕ) (frames : List Frame) (ns after : List Node) → after ≡ ns ++ node.List k ∷ [] → IsStack bytes k frames ns
    → (machine.close (frame_of bytes opening.List k (made_of bytes ns)) (frames_of bytes (reverse frames) (drop k (made_of bytes ns)))
    token.CloseBracket ≡ Some (state_of bytes Body frames after)) × IsState bytes Body frames after
list_moves bytes k frames ns after e s =
    let a = add_node bytes k 1 frames ns after (node.List k) e s tt tt (omega arith) (omega arith) in
    body_made bytes frames after _ (drop k (made_of bytes ns)) a.0 refl a.1

pub annotations_move : (bytes : List ℕ) (k : ℕ) (frames : List Frame) (ns after : List Node) → after ≡ ns ++ node.Annotations k ∷ []
    → IsStack bytes (k + 1) frames ns → 0 < k → IsUnannotated opening.Annotations k (made_of bytes ns)
    → (machine.close (frame_of bytes opening.Annotations k (made_of bytes ns)) (frames_of bytes (reverse frames) (rest (drop k (made_of bytes ns))))
    token.CloseBrace ≡ Some (state_of bytes Whole frames after)) × IsState bytes Whole frames after
annotations_move bytes k frames ns after e s some bare =
    let a = add_node bytes (k + 1) 1 frames ns after (node.Annotations k) e s tt (some, bare) (omega arith) (omega arith) in
    (rw (a.0) refl, record { stack = a.1; bare = tt; word = tt })

-- the trees of what is open, and those below it
top_first : (made : List Tree) → 0 < length made → made ≡ top made ∷ rest made
top_first [] h = absurd (omega arith)
top_first (t ∷ made) h = refl

next_core : (bytes : List ℕ) (o : Opening) (k : ℕ) (fs : List Frame) (t : Tree) (made : List Tree) → (o ≡ opening.Placeholder → ⊥)
    → machine.next_item t (frame_of bytes o k made ∷ frames_of bytes fs (under o k made)) ≡ Some (
      machine.AtTerm,
      frame_of bytes o (suc k) (t ∷ made) ∷ frames_of bytes fs (under o (suc k) (t ∷ made)),
    )
next_core bytes (opening.Arguments w) k fs t made h = refl
next_core bytes opening.List k fs t made h = refl
next_core bytes opening.Placeholder k fs t made h = absurd (h refl)
next_core bytes opening.Annotations k fs t made h = refl

end_core : (bytes : List ℕ) (o : Opening) (k : ℕ) (fs : List Frame) (t : Tree) (made : List Tree) (tok : Token) → (o ≡ opening.Placeholder → ⊥)
    → machine.end_item t (frame_of bytes o k made ∷ frames_of bytes fs (under o k made)) tok ≡ machine.close (frame_of bytes o (suc k) (t ∷ made))
    (frames_of bytes fs (under o (suc k) (t ∷ made))) tok
end_core bytes (opening.Arguments w) k fs t made tok h = refl
end_core bytes opening.List k fs t made tok h = refl
end_core bytes opening.Placeholder k fs t made tok h = absurd (h refl)
end_core bytes opening.Annotations k fs t made tok h = refl

abbrev pub longer : Frame → Frame
longer f = record { opening = f.opening; count = f.count + 1 }

some_made : (bytes : List ℕ) (before : List Frame) (ns : List Node) → IsState bytes Whole before ns → 0 < length (made_of bytes ns)
some_made bytes before ns s = let count = s.stack.counted in omega (arith, count)

-- an item more of a group
one-item : (o : Opening) (k : ℕ) (made : List Tree) → IsUnannotated o k (drop 1 made) → IsUnannotated o (k + 1) made
one-item (opening.Arguments w) k made h = tt
one-item opening.List k made h = tt
one-item opening.Placeholder k made h = tt
one-item opening.Annotations k made h =
    subst (λ (ts : List Tree). annotated (top ts) none ≡ top ts) (drop-both k 1 (k + 1) made refl) h

pub next_moves : (bytes : List ℕ) (before frames after : List Frame) (f : Frame) (ns : List Node) → before ≡ frames ++ f ∷ []
    → after ≡ frames ++ longer f ∷ [] → (f.opening ≡ opening.Placeholder → ⊥) → IsState bytes Whole before ns
    → (machine.next_item (top (made_of bytes ns)) (frames_of bytes (reverse before) (rest (made_of bytes ns))) ≡ Some (state_of bytes AtTerm after ns))
    × IsState bytes AtTerm after ns
next_moves bytes before frames after f ns e g h s =
    let made : List Tree = made_of bytes ns in
    let p = pop_frame bytes 1 before frames f ns e s.stack in
    let whole : made ≡ top made ∷ rest made = top_first made (some_made bytes before ns s) in
    let core = next_core bytes f.opening f.count (reverse frames) (top made) (rest made) h in
    let same : frames_of bytes (longer f ∷ reverse frames) (top made ∷ rest made) ≡ frames_of bytes (longer f ∷ reverse frames) made =
    ap (λ (m : List Tree). frames_of bytes (longer f ∷ reverse frames) m) (sym whole) in
    let long : frame_of bytes f.opening (suc f.count) (top made ∷ rest made) ∷ frames_of bytes (reverse frames)
    (under f.opening (suc f.count) (top made ∷ rest made)) ≡ frames_of bytes (longer f ∷ reverse frames) (top made ∷ rest made) = rw add-one refl in (
      rw (e, g, frames-push, frames-push) (core ∙ ap (λ (x : List machine.Frame). Some (machine.AtTerm, x)) (long ∙ same)),
      record {
        stack = push_frame bytes 0 _ frames after (longer f) ns g p.0 (omega (arith, held-longer f.opening f.count h)) p.1
            (one-item f.opening f.count made p.2);
        bare = tt;
        word = tt;
      },
    )

pub end_requires : (bytes : List ℕ) (before frames : List Frame) (f : Frame) (ns : List Node) → before ≡ frames ++ f ∷ []
    → (f.opening ≡ opening.Placeholder → ⊥) → IsState bytes Whole before ns
    → IsStack bytes (held f.opening (f.count + 1)) frames ns × IsOpening bytes f.opening × IsUnannotated f.opening (f.count + 1) (made_of bytes ns)
end_requires bytes before frames f ns e h s =
    let p = pop_frame bytes 1 before frames f ns e s.stack in
    (rw (held-longer f.opening f.count h) p.0, p.1, one-item f.opening f.count (made_of bytes ns) p.2)

pub end_moves : (bytes : List ℕ) (before frames : List Frame) (f : Frame) (ns : List Node) (tok : Token) → before ≡ frames ++ f ∷ []
    → (f.opening ≡ opening.Placeholder → ⊥) → IsState bytes Whole before ns
    → machine.end_item (top (made_of bytes ns)) (frames_of bytes (reverse before) (rest (made_of bytes ns))) tok
    ≡ machine.close (frame_of bytes f.opening (f.count + 1) (made_of bytes ns))
    (frames_of bytes (reverse frames) (under f.opening (f.count + 1) (made_of bytes ns))) tok
end_moves bytes before frames f ns tok e h s =
    let made : List Tree = made_of bytes ns in
    let whole : made ≡ top made ∷ rest made = top_first made (some_made bytes before ns s) in
    let core = end_core bytes f.opening f.count (reverse frames) (top made) (rest made) tok h in
    let same : machine.close (frame_of bytes f.opening (suc f.count) (top made ∷ rest made))
    (frames_of bytes (reverse frames) (under f.opening (suc f.count) (top made ∷ rest made))) tok
    ≡ machine.close (frame_of bytes f.opening (suc f.count) made) (frames_of bytes (reverse frames) (under f.opening (suc f.count) made)) tok
    = ap (λ (m : List Tree). machine.close (frame_of bytes f.opening (suc f.count) m)
    (frames_of bytes (reverse frames) (under f.opening (suc f.count) m)) tok) (sym whole) in
    rw (e, frames-push, add-one) (core ∙ same)

pub placeholder_moves : (bytes : List ℕ) (before frames : List Frame) (f : Frame) (ns after : List Node) → before ≡ frames ++ f ∷ []
    → f.opening ≡ opening.Placeholder → after ≡ ns ++ node.Placeholder ∷ [] → IsState bytes Whole before ns
    → (machine.end_hole (top (made_of bytes ns)) (frames_of bytes (reverse before) (rest (made_of bytes ns))) ≡ Some
    (state_of bytes Body frames after)) × IsState bytes Body frames after
placeholder_moves bytes before frames f ns after e o g s =
    let p = pop_frame bytes 1 before frames f ns e s.stack in
    let stack : IsStack bytes 1 frames ns = rw o at p.0 in
    let a = add_node bytes 1 1 frames ns after node.Placeholder g stack tt tt (omega arith) (omega arith) in
    let b = body_made bytes frames after _ (rest (made_of bytes ns)) a.0 refl a.1 in
    (rw (e, frames-push, o) b.0, b.1)

-- what is no end of a group that was just opened starts its first item
starts_item : (bytes : List ℕ) (f : machine.Frame) (fs : List machine.Frame) (k : LexemeKind) → (k ≡ kind.Close → ⊥) → (k ≡ kind.CloseBracket → ⊥)
    → (k ≡ kind.CloseBrace → ⊥) → machine.first f fs (token_of bytes k) ≡ machine.start (f ∷ fs) (token_of bytes k)
starts_item bytes f fs kind.Close h j l = absurd (h refl)
starts_item bytes f fs kind.CloseBracket h j l = absurd (j refl)
starts_item bytes f fs kind.CloseBrace h j l = absurd (l refl)
starts_item bytes f fs k h j l = refl

pub first_starts : (bytes : List ℕ) (o : Opening) (frames after : List Frame) (made : List Tree) (k : LexemeKind)
    → after ≡ frames ++ (record { opening = o; count = 0 }) ∷ [] → (k ≡ kind.Close → ⊥) → (k ≡ kind.CloseBracket → ⊥) → (k ≡ kind.CloseBrace → ⊥)
    → machine.first (frame_of bytes o 0 made) (frames_of bytes (reverse frames) (under o 0 made)) (token_of bytes k)
    ≡ machine.start (frames_of bytes (reverse after) made) (token_of bytes k)
first_starts bytes o frames after made k e h j l =
    let f : Frame = record { opening = o; count = 0 } in
    let same : frames_of bytes (reverse after) made ≡ frame_of bytes o 0 made ∷ frames_of bytes (reverse frames) (under o 0 made) =
    ap (λ (fs : List Frame). frames_of bytes (reverse fs) made) e ∙ ap (λ (fs : List Frame). frames_of bytes fs made) (frames-push frames f) in
    starts_item bytes (frame_of bytes o 0 made) (frames_of bytes (reverse frames) (under o 0 made)) k h j l
    ∙ ap (λ (fs : List machine.Frame). machine.start fs (token_of bytes k)) (sym same)

text_core : (bytes : List ℕ) (fs : List Frame) (t : Tree) (made : List Tree) → 0 < length fs → machine.end_text t (frames_of bytes fs made) ≡ None
text_core bytes [] t made h = absurd (omega arith)
text_core bytes (f ∷ fs) t made h = refl

-- the end, where something is open
pub text_refused : (bytes : List ℕ) (frames : List Frame) (t : Tree) (made : List Tree) → 0 < length frames
    → machine.end_text t (frames_of bytes (reverse frames) made) ≡ None
text_refused bytes frames t made h = text_core bytes (reverse frames) t made (omega (arith, length-reverse frames))

-- a name that is not called is a body
pub name_is_body : (bytes : List ℕ) (n : List ℕ) (q : _) (fs : List machine.Frame) (k : LexemeKind) → (k ≡ kind.Open → ⊥)
    → machine.after_name n q fs (token_of bytes k) ≡ machine.body (Appl n q none none) fs (token_of bytes k)
name_is_body bytes n q fs kind.Open h = absurd (h refl)
name_is_body bytes n q fs k h = refl

pub leaf : (bytes : List ℕ) (w : Word) (frames : List Frame) (ns after : List Node) → after ≡ ns ++ node.Application w 0 ∷ []
    → IsState bytes (Named w) frames ns → (made_of bytes after ≡ Appl (name_of bytes w) w.quoted none none ∷ made_of bytes ns) × IsState bytes Body frames after
leaf bytes w frames ns after e s =
    let a = add_node bytes 0 1 frames ns after (node.Application w 0) e s.stack s.word tt (omega arith) (omega arith) in
    (a.0, record { stack = a.1; bare = rw (a.0) refl; word = tt })
