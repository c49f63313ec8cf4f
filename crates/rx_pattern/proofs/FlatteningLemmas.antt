-- A turn of the loop that makes the nodes of a pattern.
use Rattle.std.proofs.Common.{suc, ◌-◌, ◌<◌, ◌≤◌, ◌≡◌, Bool, true, false, List, [], ◌∷◌, ◌++◌, Some, length}
use Rattle.std.proofs.Common.{map, reverse, refl, sym, ap, ◌∙◌, subst, arith, append_assoc, length-append}
use Rattle.std.specs.Prelude.{IsTrue}
use Rattle.std.proofs.lemmas.List.{append-nil}
use Rattle.rx_term.specs.Tree.{Tree, Trees, none, more, Int, Appl, Items, Hole}
use Rattle.rx_term.specs.Store.{Store, tree_at}
use Rattle.rx_term.specs.declared.Term.{Term}
use Rattle.rx_term.proofs.TreeLemmas.{both_parts}
use Rattle.rx_pattern.specs.Pattern.{is_pattern, is_rest, knows_placeholders, has_plain_placeholders, all_known, all_plain}
use Rattle.rx_pattern.specs.Code.{Step, code, Piece, One, Several}
use Rattle.rx_pattern.specs.Nodes.{step_of}
use Rattle.rx_pattern.specs.Subjects.{OnStack, AreEach}
use Rattle.rx_pattern.specs.Inner.Jobs.{IsFor, IsOfPattern, opens, Opens}
use Rattle.rx_pattern.specs.declared.nodes.Node.{Node}
use Rattle.rx_pattern.specs.declared.flatten.Job.{Job}
use Rattle.rx_pattern.specs.declared.flatten.Job.TheVariants as job
use Rattle.rx_pattern.proofs.StackLemmas.{pop, push-reverse}
use Rattle.rx_pattern.proofs.SpellingLemmas.{spell}

-- the first step, and those of what is after it
spell_items : (p : Tree) (ps : Trees) (vs : List Piece) (b : Bool) → is_rest p ps ≡ b
    → spell (Several (more p ps) ∷ vs) ≡ (opens (Several (more p ps))).0 ∷ spell ((opens (Several (more p ps))).1 ++ vs)
spell_items p ps vs true e = rw e refl
spell_items p ps vs false e = rw e refl

spell-opens : (v : Piece) (vs : List Piece) → spell (v ∷ vs) ≡ (opens v).0 ∷ spell ((opens v).1 ++ vs)
spell-opens (One (Int z anns)) vs = refl
spell-opens (One (Appl name quoted args anns)) vs = refl
spell-opens (One (Items items anns)) vs = refl
spell-opens (One (Hole inner anns)) vs = refl
spell-opens (Several none) vs = refl
spell-opens (Several (more p ps)) vs = spell_items p ps vs (is_rest p ps) refl

abbrev AllOfPattern : List Piece → Type 0
AllOfPattern [] = Unit {0}
AllOfPattern (v ∷ vs) = IsOfPattern v × AllOfPattern vs

items_of_pattern : (p : Tree) (ps : Trees) (vs : List Piece) (b : Bool) → is_rest p ps ≡ b → IsOfPattern (Several (more p ps)) → AllOfPattern vs
    → AllOfPattern ((opens (Several (more p ps))).1 ++ vs)
items_of_pattern p ps vs true e h k = rw e k
items_of_pattern p ps vs false e h k =
    let a = both_parts (knows_placeholders p) (all_known ps) h.0 in
    let b = both_parts (has_plain_placeholders p) (all_plain ps) h.1 in
    rw e ((a.0, b.0), ((a.1, b.1), k))

opened : (v : Piece) (vs : List Piece) → IsOfPattern v → AllOfPattern vs → AllOfPattern ((opens v).1 ++ vs)
opened (One (Int z anns)) vs h k = (h, k)
opened (One (Appl name quoted args anns)) vs h k =
    let a = both_parts (all_known args) (all_known anns) h.0 in
    let b = both_parts (all_plain args) (all_plain anns) h.1 in
    ((a.0, b.0), ((a.1, b.1), k))
opened (One (Items items anns)) vs h k =
    let a = both_parts (all_known items) (all_known anns) h.0 in
    let b = both_parts (all_plain items) (all_plain anns) h.1 in
    ((a.0, b.0), ((a.1, b.1), k))
opened (One (Hole inner anns)) vs h k = k
opened (Several none) vs h k = k
opened (Several (more p ps)) vs h k = items_of_pattern p ps vs (is_rest p ps) refl h k

-- the steps so far, and those of the jobs that are left
pub record Underway (w : Store) (p : Tree) (nodes : List Node) (jobs : List Job) : Type 0 where
  pub left : List Piece
  pub stands : OnStack (IsFor w) jobs left
  pub patterns : AllOfPattern left
  pub same : code p [] ≡ map step_of nodes ++ spell left

pub begun : (w : Store) (p : Tree) (t : Term) (nodes : List Node) (jobs : List Job) → tree_at w t ≡ Some p → IsTrue (is_pattern p) → nodes ≡ []
    → jobs ≡ job.Tree t ∷ [] → Underway w p nodes jobs
begun w p t nodes jobs there h e f =
    let k = both_parts (knows_placeholders p) (has_plain_placeholders p) h in
    record { left = One p ∷ []; stands = rw f (there, tt); patterns = (k, tt); same = rw e refl }

top : (w : Store) (jobs rest : List Job) (j : Job) (vs : List Piece) → jobs ≡ rest ++ j ∷ [] → OnStack (IsFor w) jobs vs
    → (v : Piece) × ((others : List Piece) × (vs ≡ v ∷ others) × IsFor w j v × OnStack (IsFor w) rest others)
top w jobs rest j (v ∷ vs) e h = let p = pop (IsFor w) jobs rest j v vs e h in (v, (vs, refl, p.0, p.1))
top w jobs rest j [] e h = absurd (empty_stack w (reverse rest) j (rw (e, push-reverse rest j) at h)) where
  empty_stack : (w : Store) (js : List Job) (i : Job) → AreEach (IsFor w) (i ∷ js) [] → ⊥
  empty_stack w js i k = k

nodes-push : (nodes : List Node) (n : Node) → map step_of (nodes ++ n ∷ []) ≡ map step_of nodes ++ step_of n ∷ []
nodes-push [] n = refl
nodes-push (m ∷ ns) n = ap (λ (ss : List Step). step_of m ∷ ss) (nodes-push ns n)

length-steps : (nodes : List Node) → length (map step_of nodes) ≡ length nodes
length-steps [] = refl
length-steps (m ∷ ns) = ap suc (length-steps ns)

-- no more nodes than steps
pub within : (w : Store) (p : Tree) (nodes : List Node) (jobs : List Job) → Underway w p nodes jobs → length nodes ≤ length (code p [])
within w p nodes jobs h = let e = ap length h.same in omega (arith, e, length-append (map step_of nodes) (spell h.left), length-steps nodes)

module _ (w : Store) (p : Tree) (nodes : List Node) (jobs rest : List Job) (j : Job) (popped : jobs ≡ rest ++ j ∷ []) (h : Underway w p nodes jobs) where
  first : (v : Piece) × ((others : List Piece) × (h.left ≡ v ∷ others) × IsFor w j v × OnStack (IsFor w) rest others)
  first = top w jobs rest j h.left popped h.stands

  patterned : AllOfPattern (first.0 ∷ first.1.0)
  patterned = subst AllOfPattern first.1.1 h.patterns

  pub turn_needs : (v : Piece) × IsFor w j v × IsOfPattern v
  turn_needs = (first.0, first.1.2, patterned.0)

  pub turn_on : (n : Node) (more_nodes : List Node) (after : List Job) → ((v : Piece) → IsFor w j v → Opens w v (step_of n) rest after)
      → more_nodes ≡ nodes ++ n ∷ [] → Underway w p more_nodes after
  turn_on n more_nodes after met e =
      let m = met first.0 first.1.2 in
      let steps : spell h.left ≡ step_of n ∷ spell ((opens first.0).1 ++ first.1.0) =
      ap spell first.1.1 ∙ spell-opens first.0 first.1.0 ∙ ap (λ (s : Step). s ∷ spell ((opens first.0).1 ++ first.1.0)) (sym m.0) in
      record {
        left = (opens first.0).1 ++ first.1.0;
        stands = m.1 first.1.0 first.1.3;
        patterns = opened first.0 first.1.0 patterned.0 patterned.1;
        same = h.same ∙ ap (λ (ss : List Step). map step_of nodes ++ ss) steps
            ∙ sym (append_assoc (map step_of nodes) (step_of n ∷ []) (spell ((opens first.0).1 ++ first.1.0)))
            ∙ ap (λ (ss : List Step). ss ++ spell ((opens first.0).1 ++ first.1.0)) (sym (ap (map step_of) e ∙ nodes-push nodes n));
      }

  pub turn_less : (n : Node) (more_nodes : List Node) (after : List Job) → Underway w p more_nodes after → more_nodes ≡ nodes ++ n ∷ []
      → length (code p []) - length more_nodes < length (code p []) - length nodes
  turn_less n more_nodes after k e = let a = within w p more_nodes after k in let b = ap length e in omega (arith, length-append nodes (n ∷ []))

no_jobs : (w : Store) (jobs : List Job) (vs : List Piece) → jobs ≡ [] → OnStack (IsFor w) jobs vs → vs ≡ []
no_jobs w jobs [] e h = refl
no_jobs w jobs (v ∷ vs) e h = absurd (rw e at h)

pub ended : (w : Store) (p : Tree) (nodes : List Node) (jobs : List Job) → jobs ≡ [] → Underway w p nodes jobs → map step_of nodes ≡ code p []
ended w p nodes jobs e h = sym (h.same ∙ ap (λ (vs : List Piece). map step_of nodes ++ spell vs) (no_jobs w jobs h.left e h.stands)
    ∙ append-nil (map step_of nodes))
