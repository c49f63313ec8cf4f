-- The graph of a term under way.
use Rattle.std.proofs.Common.{◌≡◌, ℕ, ◌+◌, ◌-◌, ◌<◌, ◌≤◌, suc, Bool, true, false, List, [], ◌∷◌, ◌++◌, Option, Some, None, IsSome}
use Rattle.std.proofs.Common.{Result, Ok, Err, OnOk, refl, sym, ap, subst, ◌∙◌, append_assoc, append-nil, arith, map, slice_get}
use Rattle.std.specs.Prelude.{codes, min, nat_eq, nat_lt, if◌then◌else◌, unwrap_or}
use Rattle.std.specs.List.{AllByRecursion, list_any, position_or_len}
use Rattle.std.specs.Io.KnownBytes.{Appends}
use Rattle.std.proofs.lemmas.Bool.Decides.{Decides-eqb, Decides-ltb, same_from_decides}
use Rattle.indexmap.specs.IndexSet.{insert_key, insert_all}
use Rattle.rx_term.specs.Tree.{Tree, list_of, none, tree_eq}
use Rattle.rx_term.specs.Kinds.{HasCons}
use Rattle.rx_term.specs.Parts.{part_count}
use Rattle.rx_term.specs.Steps.{IsSound}
use Rattle.rx_term.specs.Store.{Store, head_of, part_at, tail_of, tree_at}
use Rattle.rx_term.specs.Walks.{held_tree}
use Rattle.rx_term.specs.declared.Term.{Term}
use Rattle.rx_term.proofs.TreeLemmas.{same_tree, tree_eq_same}
use Rattle.rx_text.specs.Written.{AppendsFront}
use Rattle.rx_text.proofs.AppendingLemmas.{appends_both, front_after, front_before, front_within}
use Rattle.rx_render.specs.Drawing.{AreHeld, Follows, Passes, next_found, next_lines, term_of, trees_found}
use Rattle.rx_render.specs.Graph.{Link, edge_line, first_lines, found, graph_text, inside_links, link_line}
use Rattle.rx_render.specs.Graph.{link_lines, link_to, number_in, order, part_lines, rest_line, with_own}
use Rattle.rx_render.specs.declared.graph.Graph.{Graph}
use Rattle.rx_render.proofs.GraphLemmas.{AreAmong, among_inserted, first_front, lines_append, lines_later, part_in_order}
use Rattle.rx_render.proofs.OrderLemmas.{all_append, all_begins, map_append, map_insert, place_insert, place_map}

-- ---- references

pub held_at : (w : Store) (r : Term) → IsSome (tree_at w r) → tree_at w r ≡ Some (held_tree w r)
held_at w r h = by (tree_at w r) h
  where
    by : (o : Option Tree) → IsSome o → o ≡ Some (unwrap_or o (list_of none))
    by None e = absurd (cc e)
    by (Some u) e = refl

abbrev IsHere : Store → ℕ → Type 0
IsHere w n = IsSome (tree_at w (term_of n))

abbrev tree_of : Store → ℕ → Tree
tree_of w n = held_tree w (term_of n)

module _ (w : Store) (sound : IsSound w) where
  -- two are the same where their trees are
  same_reference : (i j : ℕ) → IsHere w i → IsHere w j → nat_eq i j ≡ tree_eq (tree_of w i) (tree_of w j)
  same_reference i j h k =
      same_from_decides (nat_eq i j) (tree_eq (tree_of w i) (tree_of w j)) (Decides-eqb i j) (
        (λ e. let same : tree_of w j ≡ tree_of w i = sym (same_tree (tree_of w i) (tree_of w j) e) in
            ap (λ (t : Term). t.0) (sound.one_to_one (term_of i) (term_of j) (tree_of w i) (held_at w (term_of i) h)
            (held_at w (term_of j) k ∙ ap (λ u. let o : Option Tree = Some u in o) same))),
        (λ e. subst (λ n. tree_eq (tree_of w i) (tree_of w n) ≡ true) e (tree_eq_same (tree_of w i))),
      )

  same_references : (i : ℕ) (ns : List ℕ) → IsHere w i → AllByRecursion (IsHere w) ns
      → AllByRecursion (λ n. nat_eq i n ≡ tree_eq (tree_of w i) (tree_of w n)) ns
  same_references i [] h hs = tt
  same_references i (n ∷ ns) h hs = (same_reference i n h hs.0, same_references i ns h hs.1)

held_last : (w : Store) (ns : List ℕ) (n : ℕ) → AllByRecursion (IsHere w) ns → IsHere w n → AllByRecursion (IsHere w) (ns ++ n ∷ [])
held_last w [] n hs h = (h, tt)
held_last w (m ∷ ns) n hs h = (hs.0, held_last w ns n hs.1 h)

held_inserted : (w : Store) (ns : List ℕ) (n : ℕ) → AllByRecursion (IsHere w) ns → IsHere w n → AllByRecursion (IsHere w) (insert_key nat_eq ns n)
held_inserted w ns n hs h = by (list_any (nat_eq n) ns) refl
  where
    by : (b : Bool) → list_any (nat_eq n) ns ≡ b → AllByRecursion (IsHere w) (insert_key nat_eq ns n)
    by true e = rw e hs
    by false e = rw e (held_last w ns n hs h)

-- ---- links

-- the line of an edge, where it is to be written
abbrev pub edge_if : ℕ → ℕ → ℕ → List ℕ → List ℕ
edge_if k from number name = if nat_lt number k then edge_line from number name else []

-- a part was found, and the line of the edge to it added
pub follows_one : (w : Store) → IsSound w → (from : ℕ) (name : List ℕ) (part : Term) (number : ℕ) (old new : Graph) → AreHeld w old
    → IsSome (tree_at w part) → number ≡ position_or_len (nat_eq part.0) old.found.keys
    → new.found.keys ≡ insert_key nat_eq old.found.keys part.0 → new.nodes ≡ old.nodes
    → new.lines.items ≡ old.lines.items ++ edge_if old.nodes from number name → Follows w from (link_to name (held_tree w part) ∷ []) old new
follows_one w sound from name part number old new held here at keys nodes lines =
    let tests = same_references w sound part.0 old.found.keys here held in
    let t = held_tree w part in
    let all : trees_found w new ≡ insert_key tree_eq (trees_found w old) t =
    ap (map (tree_of w)) keys ∙ map_insert (tree_of w) nat_eq tree_eq old.found.keys part.0 tests in
    let place : number ≡ number_in (trees_found w new) t = at ∙ place_map (tree_of w) (nat_eq part.0) (tree_eq t) old.found.keys tests
    ∙ sym (place_insert tree_eq tree_eq_same (trees_found w old) t) ∙ ap (λ ts. number_in ts t) (sym all) in
    record {
      found = all;
      lines = lines ∙ ap (λ n. old.lines.items ++ edge_if old.nodes from n name) place
          ∙ ap (λ xs. old.lines.items ++ xs) (sym (append-nil (link_line old.nodes (trees_found w new) from (link_to name t))));
      nodes = nodes;
      held = subst (AllByRecursion (IsHere w)) (sym keys) (held_inserted w old.found.keys part.0 held here);
    }

-- links after links
pub follows_both : (w : Store) (from : ℕ) (ls ms : List Link) (old mid new : Graph) → Follows w from ls old mid → Follows w from ms mid new
    → Follows w from (ls ++ ms) old new
follows_both w from ls ms old mid new a b =
    let parts : List Link → List Tree = map (λ l. l.part) in
    let begins = all_begins tree_eq (trees_found w mid) (parts ms) in
    let later : trees_found w new ≡ trees_found w mid ++ begins.0 = b.found ∙ begins.1 in
    let among : AreAmong (trees_found w mid) ls = subst (λ ts. AreAmong ts ls) (sym a.found) (among_inserted (trees_found w old) ls) in
    let first = lines_later old.nodes (trees_found w mid) (trees_found w new) from ls (begins.0, later) among in
    let first_lines = link_lines old.nodes (trees_found w new) from ls in
    let second_lines = link_lines old.nodes (trees_found w new) from ms in
    record {
      found = b.found ∙ ap (λ ts. insert_all tree_eq ts (parts ms)) a.found ∙ sym (all_append tree_eq (trees_found w old) (parts ls) (parts ms))
          ∙ ap (insert_all tree_eq (trees_found w old)) (sym (map_append (λ l. l.part) ls ms));
      lines = b.lines ∙ ap (λ k. mid.lines.items ++ link_lines k (trees_found w new) from ms) a.nodes
          ∙ ap (λ xs. xs ++ second_lines) (a.lines ∙ ap (λ xs. old.lines.items ++ xs) (sym first)) ∙ append_assoc old.lines.items first_lines second_lines
          ∙ ap (λ xs. old.lines.items ++ xs) (sym (lines_append old.nodes (trees_found w new) from ls ms));
      nodes = b.nodes ∙ a.nodes;
      held = b.held;
    }

-- ---- one part after another

-- its edge is among the nodes, or past them
edge_written : (k from number : ℕ) (name : List ℕ) → number < k → edge_if k from number name ≡ edge_line from number name
edge_written k from number name h = let t = (Decides-ltb number k).1 h in rw t refl

edge_left : (k from number : ℕ) (name : List ℕ) → k ≤ number → edge_if k from number name ≡ []
edge_left k from number name h = by (nat_lt number k) refl
  where
    by : (b : Bool) → nat_lt number k ≡ b → edge_if k from number name ≡ []
    by true e = absurd (let lt = (Decides-ltb number k).0 e in omega (arith, h, lt))
    by false e = rw e refl

module _ (w : Store) (sound : IsSound w) (from : ℕ) (name : List ℕ) (part : Term) (number : ℕ) (old mid new : Graph) (held : AreHeld w old)
    (here : IsSome (tree_at w part)) (at : number ≡ position_or_len (nat_eq part.0) old.found.keys)
    (keys : mid.found.keys ≡ insert_key nat_eq old.found.keys part.0) (nodes : mid.nodes ≡ old.nodes) (lines : mid.lines ≡ old.lines) where
  pub follows_written : number < mid.nodes → new.found ≡ mid.found → new.nodes ≡ mid.nodes
      → new.lines.items ≡ mid.lines.items ++ edge_line from number name → Follows w from (link_to name (held_tree w part) ∷ []) old new
  follows_written lt found same written =
      let less : number < old.nodes = omega (arith, lt, nodes) in
      follows_one w sound from name part number old new held here at (ap (λ s. s.keys) found ∙ keys) (same ∙ nodes)
      (written ∙ ap (λ xs. xs ++ edge_line from number name) (ap (λ v. v.items) lines)
      ∙ ap (λ xs. old.lines.items ++ xs) (sym (edge_written old.nodes from number name less)))

  pub follows_left : mid.nodes ≤ number → Follows w from (link_to name (held_tree w part) ∷ []) old mid
  follows_left le =
      let past : old.nodes ≤ number = omega (arith, le, nodes) in
      follows_one w sound from name part number old mid held here at keys nodes
      (ap (λ v. v.items) lines ∙ sym (append-nil old.lines.items) ∙ ap (λ xs. old.lines.items ++ xs) (sym (edge_left old.nodes from number name past)))

-- links and then others
pub follows_on : {X E : Type 0} (r : Result X E) (w : Store) (from : ℕ) (all ls ms : List Link) (old mid new : Graph) → all ≡ ls ++ ms
    → Follows w from ls old mid → OnOk r (Follows w from ms mid new) → OnOk r (Follows w from all old new)
follows_on (Err e) w from all ls ms old mid new is a b = tt
follows_on (Ok x) w from all ls ms old mid new is a b = subst (λ ks. Follows w from ks old new) (sym is) (follows_both w from ls ms old mid new a b)

-- the links of a list that is not empty
pub items_links : (w : Store) (list head tail : Term) → HasCons w list → tree_at w head ≡ part_at head_of w list → tree_at w tail ≡ part_at tail_of w list
    → inside_links (held_tree w list) ≡ (link_to (codes "head") (held_tree w head) ∷ []) ++ (link_to (codes "tail") (held_tree w tail) ∷ [])
items_links w list head tail h p q = let here = h.here in rw (p, q, here) refl

-- ---- all parts

-- n parts were looked at, and their lines written
pub record Drawn (w : Store) (u : Tree) (k n : ℕ) (old now : Option (List ℕ)) (g : Graph) : Type 0 where
  pub found : trees_found w g ≡ found u n
  pub nodes : g.nodes ≡ k
  pub held : AreHeld w g
  pub written : Appends old now (first_lines k (order u) n)

module _ (w : Store) (u : Tree) (k n : ℕ) (old now : Option (List ℕ)) (g : Graph) (d : Drawn w u k n old now g) (lt : n < part_count u) where
  next_is : next_found w n g ≡ found u (suc n)
  next_is = ap (λ ts. with_own ts (slice_get ts n)) d.found

  lines_are : next_lines w n g ≡ part_lines k (order u) n (slice_get (order u) n)
  lines_are = ap (λ j. part_lines j (next_found w n g) n (slice_get (trees_found w g) n)) d.nodes
      ∙ ap (λ ts. part_lines k (with_own ts (slice_get ts n)) n (slice_get ts n)) d.found ∙ sym (part_in_order k u n lt)

  pub drawn_on : (after : Option (List ℕ)) (new : Graph) → Passes w n g new → Appends now after (next_lines w n g) → Drawn w u k (n + 1) old after new
  drawn_on after new p a =
      let one : suc n ≡ n + 1 = omega arith in
      subst (λ m. Drawn w u k m old after new) one (record {
        found = p.found ∙ next_is;
        nodes = p.nodes ∙ d.nodes;
        held = p.held;
        written = appends_both old now after (first_lines k (order u) n) (part_lines k (order u) n (slice_get (order u) n)) d.written
            (subst (Appends now after) lines_are a);
      })

  pub drawn_stopped : (after : Option (List ℕ)) (m : ℕ) → n < m → AppendsFront (next_lines w n g) now after → AppendsFront (first_lines k (order u) m) old after
  drawn_stopped after m less f =
      let first = first_lines k (order u) n in
      let here = part_lines k (order u) n (slice_get (order u) n) in
      let (rest, e) = first_front k (order u) (suc n) m less in
      front_within old now after (first_lines k (order u) m) first here rest (e ∙ append_assoc first here rest) d.written
      (subst (λ xs. AppendsFront xs now after) lines_are f)

-- ---- the whole text, in four pieces

module _ (a b c d : List ℕ) (old : Option (List ℕ)) where
  pub first_piece : (one : Option (List ℕ)) → AppendsFront a old one → AppendsFront (a ++ b ++ c ++ d) old one
  first_piece one f = front_before old one (a ++ b ++ c) d (front_before old one (a ++ b) c (front_before old one a b f))

  module _ (one : Option (List ℕ)) (x : Appends old one a) where
    pub second_piece : (two : Option (List ℕ)) → AppendsFront b one two → AppendsFront (a ++ b ++ c ++ d) old two
    second_piece two f = front_before old two (a ++ b ++ c) d (front_before old two (a ++ b) c (front_after old one two a b x f))

    module _ (two : Option (List ℕ)) (y : Appends one two b) where
      pub third_piece : (three : Option (List ℕ)) → AppendsFront c two three → AppendsFront (a ++ b ++ c ++ d) old three
      third_piece three f = front_before old three (a ++ b ++ c) d (front_after old two three (a ++ b) c (appends_both old one two a b x y) f)

      module _ (three : Option (List ℕ)) (z : Appends two three c) where
        three_pieces : Appends old three (a ++ b ++ c)
        three_pieces = appends_both old two three (a ++ b) c (appends_both old one two a b x y) z

        pub last_piece : (four : Option (List ℕ)) → AppendsFront d three four → AppendsFront (a ++ b ++ c ++ d) old four
        last_piece four f = front_after old three four (a ++ b ++ c) d three_pieces f

        pub all_pieces : (four : Option (List ℕ)) → Appends three four d → Appends old four (a ++ b ++ c ++ d)
        all_pieces four f = appends_both old three four (a ++ b ++ c) d three_pieces f

abbrev heading : List ℕ
heading = codes "digraph term {\n  node [shape=box, fontname=\"monospace\"];\n"

abbrev closing : List ℕ
closing = codes "}\n"

-- the pieces of a graph, where its parts were counted
module _ (k n r : ℕ) (u : Tree) (counted : n ≡ part_count u) (left : r ≡ n - k) (old : Option (List ℕ)) where
  abbrev parts_text : List ℕ
  parts_text = first_lines k (order u) (min k n)

  pieces_are : heading ++ parts_text ++ rest_line r ++ closing ≡ graph_text k u
  pieces_are = ap (λ m. heading ++ parts_text ++ rest_line m ++ closing) left
      ∙ ap (λ m. heading ++ first_lines k (order u) (min k m) ++ rest_line (m - k) ++ closing) counted

  fronts : (new : Option (List ℕ)) → AppendsFront (heading ++ parts_text ++ rest_line r ++ closing) old new → AppendsFront (graph_text k u) old new
  fronts new f = subst (λ xs. AppendsFront xs old new) pieces_are f

  pub heading_front : (one : Option (List ℕ)) → AppendsFront heading old one → AppendsFront (graph_text k u) old one
  heading_front one f = fronts one (first_piece heading parts_text (rest_line r) closing old one f)

  module _ (one : Option (List ℕ)) (x : Appends old one heading) where
    pub parts_front : (two : Option (List ℕ)) → AppendsFront parts_text one two → AppendsFront (graph_text k u) old two
    parts_front two f = fronts two (second_piece heading parts_text (rest_line r) closing old one x two f)

    module _ (two : Option (List ℕ)) (y : Appends one two parts_text) where
      pub rest_front : (three : Option (List ℕ)) → AppendsFront (rest_line r) two three → AppendsFront (graph_text k u) old three
      rest_front three f = fronts three (third_piece heading parts_text (rest_line r) closing old one x two y three f)

      module _ (three : Option (List ℕ)) (z : Appends two three (rest_line r)) where
        pub closing_front : (four : Option (List ℕ)) → AppendsFront closing three four → AppendsFront (graph_text k u) old four
        closing_front four f = fronts four (last_piece heading parts_text (rest_line r) closing old one x two y three z four f)

        pub graph_written : (four : Option (List ℕ)) → Appends three four closing → Appends old four (graph_text k u)
        graph_written four f = subst (Appends old four) pieces_are (all_pieces heading parts_text (rest_line r) closing old one x two y three z four f)
