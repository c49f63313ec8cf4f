-- From what an engine answers to the lines that are due.
use Rattle.std.proofs.Common.{◌≡◌, ◌≢◌, ℕ, ◌+◌, ◌-◌, ◌<◌, ◌^◌, Bool, true, cond, List, [], ◌++◌, Option, Some, None}
use Rattle.std.proofs.Common.{IsSome, IfSome, get_or, take, length, refl, sym, ap, ap₂, subst, ◌∙◌, arith, append-nil}
use Rattle.std.specs.Prelude.{◌||◌, codes, decimal, false, is_some, unwrap_or}
use Rattle.std.specs.Option.{option_map}
use Rattle.std.specs.Io.KnownBytes.{Appends}
use Rattle.std.specs.FinMap as map
use Rattle.std.proofs.lemmas.Bool.{eq-eqb}
use Rattle.std.proofs.lemmas.Option.{slice_get-get_or}
use Rattle.rx_term.specs.Tree.{Tree, Trees, none, more, annotations, are_trees, from_list, list_of}
use Rattle.rx_term.specs.Steps.{IsSound, Keeps, with_count}
use Rattle.rx_term.proofs.KeepLemmas.{kept-root}
use Rattle.rx_term.specs.Store.{Store, tree_at}
use Rattle.rx_term.specs.declared.Term.{Term as Reference}
use Rattle.rx_text.specs.Written.{AppendsFront, IsFront}
use Rattle.rx_text.proofs.CuttingLemmas.{and_parts}
use Rattle.rec_syntax.specs.Syntax.{Term, Terms, Apply, Spec, nameless}
use Rattle.rec_syntax.specs.Syntax as syntax
use Rattle.rec_sorts.specs.Binding.{application, instances, tree_of}
use Rattle.rec_sorts.specs.Evaluation.{Caller, Done, Eval, call, evaluate, evaluate_all, evaluate_within, term_of, terms_of, ◌then◌}
use Rattle.rec_sorts.proofs.EquationLemmas.{then_agrees}
use Rattle.rec_sorts.specs.TermRules.{broken_by_elements, elements}
use Rattle.rec_sorts.specs.Linked.{HasMoreSymbols}
use Rattle.rec_engine.specs.Engine.{EngineState, IsGiven, IsOutcome, SameEngine, eval_tree}
use Rattle.rec_engine.specs.declared.engine.Outcome.{Outcome}
use Rattle.rec_engine.specs.declared.engine.Outcome.TheVariants.{Value, Limit}
use Rattle.rec_memo.specs.Pairs.{Pairs}
use Rattle.rec_run.specs.EvaluatedLines.{IsThereFor, ProtectsTerms, RunLacks, StaysFor, due_before, outcome_text, fault_after, limit_notes, said}
use Rattle.rec_run.specs.EvaluatedLines.{figures_of, is_limit_line, outcome_line, unsaid, value_of}
use Rattle.rec_run.specs.GivenTerms.{HoldsTerms, given_at, given_text, item_at}
use Rattle.rec_run.specs.Reading.{line_text, evaluation_text, term_at, text_at}
use Rattle.rx_run.specs.Run.{Reports, ReportsAfter, Stops, StopsAfter}
use Rattle.rx_text.specs.Output.{IsSameOutput}
use Rattle.rx_text.specs.declared.output.Output.{Output}
use Rattle.rx_run.specs.Streams.{is_read, is_write}
use Rattle.rx_run.specs.declared.ending.RunFault.{RunFault}
use Rattle.rx_run.specs.declared.ending.RunFault.TheVariants as run
use Rattle.rec_run.specs.Output.{Shown, limit_text, notes_text, shown_of}
use Rattle.rec_run.specs.Output.{Printed, Whole, Longer, is_longer, value_line, value_text}
use Rattle.rec_run.specs.declared.options.LimitLines.{LimitLines}
use Rattle.rec_run.specs.declared.options.LimitLines.TheVariants.{Bare, Annotated}
use Rattle.rec_run.specs.declared.options.RunSettings.{RunSettings}
use Rattle.rec_run.proofs.GivenLemmas.{all_trees, annotations_trees}
use Rattle.rec_run.proofs.LineEndLemmas.{trees-in_line}
use Rattle.rec_run.proofs.GivenListLemmas.{FrontAt}
use Rattle.rx_run.proofs.LineFrontLemmas.{NoEnds, ends_before, front_in_line, front_in_lines, lines_of}
use Rattle.rec_run.proofs.SpecLineLemmas.{given_text-newlines}
use Rattle.rx_text.proofs.AppendingLemmas.{appends_both, appends_same, front_before}

-- ---- what is shown of an outcome

-- what a limit line says stands behind the limit
line_said : (limits : LimitLines) (n : ℕ) (notes : Trees) → codes "!limit " ++ decimal n ++ limit_notes limits notes ≡ limit_text limits n notes
line_said Bare n notes = append-nil (codes "!limit " ++ decimal n)
line_said Annotated n notes = refl

-- what the line of a value says stands behind it
value_said : (limits : LimitLines) (notes : Trees) (steps : List ℕ) (p : Printed) → unsaid steps p ++ said (is_longer p) limits notes
    ≡ value_text limits notes steps p
value_said limits notes steps (Whole text) = append-nil (text ++ steps)
value_said Bare notes steps (Longer most) = append-nil (codes "!bytes " ++ decimal most)
value_said Annotated notes steps (Longer most) = refl

-- with what is said besides it is the text of the term's line
pub outcome_text-line : (y : Spec) (w : Store) (s : RunSettings) (u : Tree) (o : Outcome) → IsOutcome y w s.options.steps u o
    → outcome_text s w o ++ said (is_limit_line s.form w o) s.limits (annotations u) ≡ given_text y (shown_of s) s.options.steps u
outcome_text-line y w s u (Value r steps) h =
    let n = s.options.steps in
    let spent = h.spent in
    let back : steps ≡ n - h.left = omega (arith, spent) in
    value_said s.limits (annotations u) (figures_of s w r steps) (value_of s.form w r)
    ∙ ap₂ (λ t k. value_line (shown_of s) (annotations u) k t) (ap (λ o. unwrap_or o (list_of none)) h.there) back
    ∙ ap (evaluation_text (annotations u) (shown_of s) n) (sym h.evaluated)
outcome_text-line y w s u Limit h = line_said s.limits s.options.steps (annotations u)
    ∙ ap (evaluation_text (annotations u) (shown_of s) s.options.steps) (sym h)

-- what is said of a term that stays
said_stays : (b : Bool) (limits : LimitLines) (old new : Store) (t : Reference) → StaysFor limits old t → Keeps old new []
    → said b limits (annotations (item_at new t)) ≡ said b limits (annotations (item_at old t))
said_stays false limits old new t h keeps = refl
said_stays true Bare old new t h keeps = refl
said_stays true Annotated old new t h keeps = ap (λ u. notes_text (annotations (unwrap_or u (list_of none)))) (h new keeps)

-- a term that stays is there
pub there_for : {B : Type 0} (store : B → Store) (limits : LimitLines) (old : Store) (again new : B) (t : Reference) → again ≡ new
    → StaysFor limits old t → Keeps old (store new) [] → IsSome (tree_at old t) → IsThereFor limits (store again) t
there_for store Bare old again new t one h keeps held = tt
there_for store Annotated old again new t one h keeps held = ap is_some (ap (λ b. tree_at (store b) t) one ∙ h (store new) keeps) ∙ held

-- what holds of the tree of a reference that is held
pub of_held : (o : Option Tree) (P : Tree → Type 0) → IsSome o → IfSome o P → P (unwrap_or o (list_of none))
of_held None P held h = absurd (cc held)
of_held (Some u) P held h = h

-- the tree of a reference that is held
pub given_item : (y : Spec) (w : Store) (t : Reference) (given : IsGiven y w t) → item_at w t ≡ given.tree
given_item y w t given = ap (λ o. unwrap_or o (list_of none)) given.held

-- what is shown of an answer is the text of the line of the term that was given
pub answered-line :
    (y z : Spec) (old new : Store) (s : RunSettings) (t : Reference) (o : Outcome) → IsGiven y old t → z ≡ y
    → ((u : Tree) → tree_at old t ≡ Some u → IsOutcome z new s.options.steps u o) → StaysFor s.limits old t → Keeps old new []
    → outcome_line s new t o ≡ given_text y (shown_of s) s.options.steps (item_at old t)
answered-line y z old new s t o given same answered stays keeps =
    let n = s.options.steps in
    ap (λ more. outcome_text s new o ++ more)
    (said_stays (is_limit_line s.form new o) s.limits old new t stays keeps
    ∙ ap (λ u. said (is_limit_line s.form new o) s.limits (annotations u)) (given_item y old t given))
    ∙ outcome_text-line z new s given.tree o (answered given.tree given.held)
    ∙ ap (λ x. given_text x (shown_of s) n given.tree) same ∙ ap (given_text y (shown_of s) n) (sym (given_item y old t given))

-- the text of the line of the term at the front of a rest
pub front-line : (y z : Spec) (w : Store) (us : List Tree) (rest r : Reference) (i : ℕ) (shown : Shown) (n : ℕ) (here : FrontAt y w us rest i) → z ≡ y
    → tree_at w r ≡ Some here.tree
    → given_text z shown n (item_at w r) ≡ given_text y shown n (get_or us i (list_of none))
front-line y z w us rest r i shown n here same held =
    ap (λ x. given_text x shown n (item_at w r)) same ∙ ap (given_text y shown n) (ap (λ o. unwrap_or o (list_of none)) held ∙ sym here.got)

-- ---- a specification's own terms

mutual
  -- without values for variables the tree of a term evaluates as the term
  evaluate-tree : (c : Caller) (n : ℕ) (t : Term) → evaluate c n [] (term_of (tree_of t)) ≡ evaluate c n [] t
  evaluate-tree c n (Apply w ts) = ap (λ o. o then λ vs left. c left (application w.bytes vs)) (evaluate-trees c n ts)

  evaluate-trees : (c : Caller) (n : ℕ) (ts : Terms) → evaluate_all c n [] (terms_of (instances [] ts)) ≡ evaluate_all c n [] ts
  evaluate-trees c n Terms.none = refl
  evaluate-trees c n (Terms.more t ts) =
      then_agrees (evaluate c n [] (term_of (tree_of t))) (evaluate c n [] t)
      (λ v left. evaluate_all c left [] (terms_of (instances [] ts)) then λ vs rest. Done (more v vs) rest) (λ v left.
      evaluate_all c left [] ts then λ vs rest. Done (more v vs) rest)
      (evaluate-tree c n t) (λ v left e. ap (λ o. o then λ vs rest. Done (more v vs) rest) (evaluate-trees c left ts))

pub eval-tree : (y : Spec) (n : ℕ) (t : Term) → Eval y n [] (term_of (tree_of t)) ≡ Eval y n [] t
unfolding Eval
eval-tree y n t = evaluate-tree (call y (λ m r u. evaluate_within y n m r u)) n t

pub bare_tree : (t : Term) → annotations (tree_of t) ≡ none
bare_tree (Apply w ts) = refl

-- the line of a term is that of its tree
tree-line : (y : Spec) (shown : Shown) (n : ℕ) (t : Term) → given_text y shown n (tree_of t) ≡ line_text y shown n t
tree-line y shown n t = ap₂ (λ notes o. evaluation_text notes shown n o) (bare_tree t) (eval-tree y n t)

pub own-line : (y z : Spec) (w : Store) (shown : Shown) (n i : ℕ) (t : Reference) → z ≡ y → i < length y.terms → tree_at w t ≡ eval_tree z i
    → given_text z shown n (item_at w t) ≡ text_at y shown n i
own-line y z w shown n i t same low here =
    let own : tree_at w t ≡ Some (tree_of (term_at y i)) = here ∙ ap (λ x. eval_tree x i) same
    ∙ ap (option_map tree_of) (slice_get-get_or y.terms i (Apply nameless syntax.none) low) in
    ap (λ x. given_text x shown n (item_at w t)) same ∙ ap (λ o. given_text y shown n (unwrap_or o (list_of none))) own ∙ tree-line y shown n (term_at y i)

-- ---- faults

-- a line's want of cells is the run's
pub line_lacks : (w : Store) (work : List Reference) (m : Pairs) (f : RunFault) (lines : ℕ) (r : RunFault) → r ≡ fault_after f lines
    → RunLacks w work m f → RunLacks w work m r
line_lacks w work m f lines r e h = subst (RunLacks w work m) (sym e) (of f h)
  where
    of : (f : RunFault) → RunLacks w work m f → RunLacks w work m (fault_after f lines)
    of (run.Memory k) h = tt
    of (run.Room k) h = h
    of (run.Deep k) h = tt
    of run.Read h = tt
    of run.Write h = tt

pub fault_after-same : (f : RunFault) (m n : ℕ) (r : RunFault) → r ≡ fault_after f m → m ≡ n → r ≡ fault_after f n
fault_after-same f m n r e same = e ∙ ap (fault_after f) same

-- memory ran out before anything was written
pub stops_unwritten : (text : List ℕ) (old : Option (List ℕ)) → Stops (run.Memory 0) text old old
stops_unwritten text old = record { written = []; appended = appends_same old; front = (text, refl); reported = refl }

-- a front of a line's text is due before any fault of the line
pub front_none : (old : Option (List ℕ)) (text : List ℕ) → AppendsFront text old old
front_none old text = ([], appends_same old, (text, refl))

pub front_due : (f : RunFault) (text : List ℕ) (old new : Option (List ℕ)) → AppendsFront text old new → AppendsFront (due_before f text) old new
front_due (run.Memory k) text old new h = h
front_due (run.Room k) text old new h = h
front_due (run.Deep k) text old new h = h
front_due run.Read text old new h = h
front_due run.Write text old new h = front_before old new text (codes "\n") h

-- ---- lines

front_of : {X : Type 0} (w : RunFault) (f : X → List ℕ) (items : List X) (i : ℕ) (d : X) (front rest : List ℕ) → w ≢ run.Read → i < length items
    → due_before w (f (get_or items i d)) ≡ front ++ rest → IsFront (lines_of f (take i items) ++ front) (lines_of f items)
front_of (run.Memory k) f items i d front rest some h e = front_in_lines f items i d front (rest ++ codes "\n") h (front_in_line (f (get_or items i d)) front rest e)
front_of (run.Room k) f items i d front rest some h e = front_in_lines f items i d front (rest ++ codes "\n") h (front_in_line (f (get_or items i d)) front rest e)
front_of (run.Deep k) f items i d front rest some h e = front_in_lines f items i d front (rest ++ codes "\n") h (front_in_line (f (get_or items i d)) front rest e)
front_of run.Read f items i d front rest some h e = absurd (some refl)
front_of run.Write f items i d front rest some h e = front_in_lines f items i d front rest h e

report_of : {X : Type 0} (w : RunFault) (f : X → List ℕ) (items : List X) (i : ℕ) (d : X) (front rest : List ℕ) → w ≢ run.Read → NoEnds f items → i < length items
    → due_before w (f (get_or items i d)) ≡ front ++ rest → Reports (fault_after w i) (lines_of f (take i items) ++ front)
report_of (run.Memory k) f items i d front rest some no_ends h e = ends_before f items i d front rest no_ends h e
report_of (run.Room k) f items i d front rest some no_ends h e = ends_before f items i d front rest no_ends h e
report_of (run.Deep k) f items i d front rest some no_ends h e = ends_before f items i d front rest no_ends h e
report_of run.Read f items i d front rest some no_ends h e = absurd (some refl)
report_of run.Write f items i d front rest some no_ends h e = tt

report_after : {X : Type 0} (w : RunFault) (first : ℕ) (f : X → List ℕ) (items : List X) (i : ℕ) (d : X) (front rest : List ℕ) → w ≢ run.Read → NoEnds f items
    → i < length items → due_before w (f (get_or items i d)) ≡ front ++ rest
    → ReportsAfter first (fault_after w (first + i)) (lines_of f (take i items) ++ front)
report_after (run.Memory k) first f items i d front rest some no_ends h e = ap (λ n. first + n) (ends_before f items i d front rest no_ends h e)
report_after (run.Room k) first f items i d front rest some no_ends h e = ap (λ n. first + n) (ends_before f items i d front rest no_ends h e)
report_after (run.Deep k) first f items i d front rest some no_ends h e = ap (λ n. first + n) (ends_before f items i d front rest no_ends h e)
report_after run.Read first f items i d front rest some no_ends h e = absurd (some refl)
report_after run.Write first f items i d front rest some no_ends h e = tt

-- a line stopped: so did the lines
pub lines_stopped :
    {X : Type 0} (w : RunFault) (f : X → List ℕ) (items : List X) (i : ℕ) (d : X) (old between new : Option (List ℕ)) → w ≢ run.Read → NoEnds f items
    → i < length items → Appends old between (lines_of f (take i items))
    → AppendsFront (due_before w (f (get_or items i d))) between new
    → Stops (fault_after w i) (lines_of f items) old new
lines_stopped w f items i d old between new some no_ends h so_far (front, appended, (rest, e)) =
    record {
      written = lines_of f (take i items) ++ front;
      appended = appends_both old between new (lines_of f (take i items)) front so_far appended;
      front = front_of w f items i d front rest some h e;
      reported = report_of w f items i d front rest some no_ends h e;
    }

-- so did the lines behind others
pub lines_stopped_after :
    {X : Type 0} (w : RunFault) (first : ℕ) (f : X → List ℕ) (items : List X) (i : ℕ) (d : X) (old between new : Option (List ℕ)) → w ≢ run.Read → NoEnds f items
    → i < length items
    → Appends old between (lines_of f (take i items))
    → AppendsFront (due_before w (f (get_or items i d))) between new
    → StopsAfter first (fault_after w (first + i)) (lines_of f items) old new
lines_stopped_after w first f items i d old between new some no_ends h so_far (front, appended, (rest, e)) =
    record {
      written = lines_of f (take i items) ++ front;
      appended = appends_both old between new (lines_of f (take i items)) front so_far appended;
      front = front_of w f items i d front rest some h e;
      reported = report_after w first f items i d front rest some no_ends h e;
    }

-- the line of no term of a list has a line end before its own
pub held_no_ends : (y : Spec) (w : Store) (list : Reference) (shown : Shown) (n : ℕ) → n < 2 ^ 64 → IsSound w → HoldsTerms y w list
    → NoEnds (given_text y shown n) (given_at w list)
held_no_ends y w list shown n few sound holds k d low =
    let us = given_at w list in
    let valid = (and_parts (are_trees (from_list us)) true (sound.valid list (list_of (from_list us)) holds.held)).0 in
    given_text-newlines y shown n few (get_or us k d) (trees-in_line (annotations (get_or us k d))
    (annotations_trees (get_or us k d) (all_trees us valid k d low)))

-- ---- a protected list

-- what depends on the trees alone
given-content : (old new : Store) (list : Reference) → new.content ≡ old.content → given_at new list ≡ given_at old list
given-content old new list e = ap (λ c. unwrap_or (elements (unwrap_or (map.get c list.0) (list_of none))) []) e

holds-content : (y : Spec) (old new : Store) (list : Reference) → new.content ≡ old.content → HoldsTerms y old list → HoldsTerms y new list
holds-content y old new list e h =
    let same = sym (given-content old new list e) in
    record {
      held = ap (λ c. map.get c list.0) e ∙ h.held ∙ ap (λ us. Some (list_of (from_list us))) same;
      kept = ap (broken_by_elements y) (sym same) ∙ h.kept;
    }

-- terms that are protected once, where symbols are added
pub protects : (y : Spec) (old mid new : Store) (list : Reference) → HoldsTerms y old list → mid ≡ with_count old list 1 → HasMoreSymbols mid new
    → ProtectsTerms y new list
protects y old mid new list h counted grown =
    let content : new.content ≡ old.content = grown.content ∙ ap (λ (w : Store). w.content) counted in
    let one : new.roots list.0 ≡ 1 = ap (λ f. f list.0) (grown.roots ∙ ap (λ (w : Store). w.roots) counted)
    ∙ ap (λ b. cond b 1 (old.roots list.0)) (eq-eqb list.0 list.0 refl) in
    record { holds = holds-content y old new list content h; protected = omega (arith, one) }

-- it stays so
pub still_protects : (y : Spec) (old new : Store) (list : Reference) → Keeps old new [] → ProtectsTerms y old list → ProtectsTerms y new list
still_protects y old new list keeps h =
    let here : tree_at new list ≡ tree_at old list = kept-root keeps list h.protected (ap is_some h.holds.held) in
    let same : given_at old list ≡ given_at new list = sym (ap (λ o. unwrap_or (elements (unwrap_or o (list_of none))) []) here) in
    record {
      holds = record {
        held = here ∙ h.holds.held ∙ ap (λ us. Some (list_of (from_list us))) same;
        kept = ap (broken_by_elements y) (sym same) ∙ h.holds.kept;
      };
      protected = subst (λ roots. 0 < roots list.0) (sym keeps.beside.roots) h.protected;
    }

pub same_terms : (y : Spec) (old new : Store) (list : Reference) → Keeps old new [] → ProtectsTerms y old list → given_at new list ≡ given_at old list
same_terms y old new list keeps h = ap (λ o. unwrap_or (elements (unwrap_or o (list_of none))) []) (kept-root keeps list h.protected (ap is_some h.holds.held))

pub same_engine_both : {B : Type 0} {a b c : EngineState B} → SameEngine a b → SameEngine b c → SameEngine a c
same_engine_both p q = record { spec = q.spec ∙ p.spec; options = q.options ∙ p.options }

-- ---- whose fault it is

-- a line's fault is of the same stream as its run's
after_kind : (f : RunFault) (lines : ℕ) → (is_write (fault_after f lines) ≡ is_write f) × (is_read (fault_after f lines) ≡ is_read f)
after_kind (run.Memory k) lines = (refl, refl)
after_kind (run.Room k) lines = (refl, refl)
after_kind (run.Deep k) lines = (refl, refl)
after_kind run.Read lines = (refl, refl)
after_kind run.Write lines = (refl, refl)

-- what a line's fault reports of the output, its run's does
pub after_reports : {W : Type 0} (old mid new : Output W) (f : RunFault) (lines : ℕ) (r : RunFault) → r ≡ fault_after f lines → IsSameOutput old mid
    → mid.refused ≡ old.refused → (IsSameOutput mid new × (new.refused ≡ (is_write f || mid.refused))) × (is_read f ≡ false)
    → (IsSameOutput old new × (new.refused ≡ (is_write r || old.refused))) × (is_read r ≡ false)
after_reports old mid new f lines r e same kept h = (
  (h.0.0 ∙ same, h.0.1 ∙ ap₂ (λ a b. a || b) (sym (ap is_write e ∙ (after_kind f lines).0)) kept),
  ap is_read e ∙ (after_kind f lines).1 ∙ h.1,
)

-- a fault that is not the reader's
pub no_reader : (f : RunFault) → is_read f ≡ false → f ≢ run.Read
no_reader (run.Memory k) h is = cc is
no_reader (run.Room k) h is = cc is
no_reader (run.Deep k) h is = cc is
no_reader run.Read h is = absurd (cc h)
no_reader run.Write h is = cc is
