-- The nodes of a whole pattern.
use Rattle.std.proofs.Common.{ℕ, ◌==◌, eq-eqb, ◌≡◌, ◌≢◌, ◌&&◌, Bool, true, false, List, [], Option}
use Rattle.std.proofs.Common.{Some, None, IsSome, cond, length, map, refl, sym, ap, ◌∙◌, subst}
use Rattle.std.specs.Prelude.{IsTrue, Result, Ok, Err, IfOk, IfErr, IsErrOf}
use Rattle.std.proofs.lemmas.Bool.Decides.{Decides-eqb}
use Rattle.rx_term.specs.Tree.{Tree, is_tree}
use Rattle.rx_term.specs.Store.{Store, tree_at}
use Rattle.rx_term.specs.Steps.{IsSound}
use Rattle.rx_term.specs.Walks.{HaveTrees}
use Rattle.rx_term.specs.declared.Term.{Term}
use Rattle.rx_term.proofs.TreeLemmas.{both_parts}
use Rattle.rx_term.proofs.StoreLemmas.{some-value}
use Rattle.rx_pattern.specs.Pattern.{Unfit, is_pattern, unfit, knows_placeholders, has_plain_placeholders}
use Rattle.rx_pattern.specs.Filling as fault
use Rattle.rx_pattern.specs.Filling.{Blank, blanks, misfit, filled, filling}
use Rattle.rx_pattern.specs.Matching.{matching}
use Rattle.rx_pattern.specs.Held.{Binds}
use Rattle.rx_pattern.specs.Subjects.{Answers}
use Rattle.rx_pattern.specs.Making.{blanks_of_steps, IsMisfit}
use Rattle.rx_pattern.specs.Faults.{IsMakeRefusal}
use Rattle.rx_pattern.specs.declared.faults.MakeFault.{MakeFault}
use Rattle.rx_pattern.specs.declared.faults.MakeFault.TheVariants as make
use Rattle.rx_pattern.proofs.FillLemmas.{blanks-nodes}
use Rattle.rx_pattern.specs.Code.{code, only_tree, tree_of_steps}
use Rattle.rx_pattern.specs.Nodes.{step_of, tree_of_nodes, AreNodes}
use Rattle.rx_pattern.specs.declared.nodes.Node.{Node}
use Rattle.rx_pattern.proofs.SpellingLemmas.{pieces-code}

fit_tests : (a b : Bool) (x y : Option Unfit) → cond a (cond b None x) y ≡ None → x ≢ None → y ≢ None → (a && b) ≡ true
fit_tests true true x y e f g = refl
fit_tests true false x y e f g = absurd (f e)
fit_tests false b x y e f g = absurd (g e)

pub fit_is_pattern : (u : Tree) → unfit u ≡ None → IsTrue (is_pattern u)
fit_is_pattern u e = fit_tests (knows_placeholders u) (has_plain_placeholders u) _ _ e (λ h. cc) (λ h. cc)

tree_is : (nodes : List Node) (u : Tree) → map step_of nodes ≡ code u [] → IsTrue (is_pattern u) → tree_of_nodes nodes ≡ u
tree_is nodes u e p =
    let h = both_parts (knows_placeholders u) (has_plain_placeholders u) p in
    ap tree_of_steps e ∙ ap only_tree (pieces-code u [] h.0 h.1)

pub whole_nodes : (w : Store) (t : Term) (nodes : List Node) → IsSound w → IsSome (tree_at w t) → ((u : Tree) → tree_at w t ≡ Some u → unfit u ≡ None)
    → ((u : Tree) → tree_at w t ≡ Some u → map step_of nodes ≡ code u [])
    → AreNodes nodes × (tree_at w t ≡ Some (tree_of_nodes nodes)) × (unfit (tree_of_nodes nodes) ≡ None)
whole_nodes w t nodes s held fit flat =
    let v = some-value (tree_at w t) held in
    let f = fit v.0 v.1 in
    let p = fit_is_pattern v.0 f in
    let e = flat v.0 v.1 in
    let i = tree_is nodes v.0 e p in (
      record {
        code = e ∙ ap (λ (u : Tree). code u []) (sym i);
        pattern = subst (λ (u : Tree). IsTrue (is_pattern u)) (sym i) p;
        valid = subst (λ (u : Tree). IsTrue (is_tree u)) (sym i) (s.valid t v.0 v.1);
      },
      v.1 ∙ ap (λ (u : Tree). let o : Option Tree = Some u in o) (sym i),
      ap unfit i ∙ f,
    )

-- ---- matching

binds_none : (w : Store) (o : Option (List Tree)) (out cleared : List Term) → Answers w o out false → cleared ≡ [] → Binds w o cleared false
binds_none w None out cleared h e = e
binds_none w (Some bs) out cleared h e = absurd h

binds_all : (w : Store) (o : Option (List Tree)) (out : List Term) → Answers w o out true → Binds w o out true
binds_all w (Some bs) out h = h
binds_all w None out h = absurd h

pub bound_none : (w : Store) (nodes : List Node) (p u : Tree) (out cleared : List Term) (found : Bool) → tree_of_nodes nodes ≡ p
    → Answers w (matching (tree_of_nodes nodes) u) out found → found ≡ false → cleared ≡ [] → Binds w (matching p u) cleared found
bound_none w nodes p u out cleared found e h n c = rw n (binds_none w (matching p u) out cleared (rw (e, n) at h) c)

pub bound_all : (w : Store) (nodes : List Node) (p u : Tree) (out : List Term) (found : Bool) → tree_of_nodes nodes ≡ p
    → Answers w (matching (tree_of_nodes nodes) u) out found → found ≡ true → Binds w (matching p u) out found
bound_all w nodes p u out found e h y = rw y (binds_all w (matching p u) out (rw (e, y) at h))

-- ---- making

-- the blanks of a pattern's nodes are those of its tree
pub misfit_of : (nodes : List Node) (p : Tree) (f : Option MakeFault) (bs : List Tree) → AreNodes nodes → tree_of_nodes nodes ≡ p
    → IsMisfit f (blanks_of_steps (map step_of nodes)) bs → IsMisfit f (blanks p) bs
misfit_of nodes p f bs h e m = subst (λ (ss : List Blank). IsMisfit f ss bs) (blanks-nodes nodes h ∙ ap blanks e) m

other_length : (a b : ℕ) → (a ≡ b → ⊥) → (a == b) ≡ false
other_length a b n = by_test (a == b) refl where
  by_test : (c : Bool) → (a == b) ≡ c → (a == b) ≡ false
  by_test true e = absurd (n ((Decides-eqb a b).0 e))
  by_test false e = e

pub counted_wrong : (p : Tree) (bs : List Tree) → (length bs ≡ length (blanks p) → ⊥) → filling p bs ≡ Err fault.Count
counted_wrong p bs n = let e = other_length (length bs) (length (blanks p)) n in rw e refl

pub told_place : (p : Tree) (bs : List Tree) (at : ℕ) → length bs ≡ length (blanks p) → misfit (blanks p) bs ≡ Some at → filling p bs ≡ Err (fault.Kinds at)
told_place p bs at e m = let f = eq-eqb (length bs) (length (blanks p)) e in rw (f, m) refl

pub filled_ok : (p : Tree) (bs : List Tree) → IsMisfit None (blanks p) bs → filling p bs ≡ Ok (filled p bs).0
filled_ok p bs h = let f = eq-eqb (length bs) (length (blanks p)) h.0 in let m = h.1 in rw (f, m) refl

pub told_count : (f : MakeFault) (p : Tree) (bs : List Tree) → IsMisfit (Some f) (blanks p) bs → let r : Result Term MakeFault = Err f in
    (IsErrOf r make.Count → filling p bs ≡ Err fault.Count) × (filling p bs ≡ Err fault.Count → IsErrOf r make.Count)
told_count make.Count p bs m = (λ e. counted_wrong p bs m, λ e. refl)
told_count (make.Kind at) p bs m = (λ e. absurd (let z : ⊥ = cc in z), λ e. absurd (let k = told_place p bs at m.0 m.1 in let z : ⊥ = cc in z))
told_count make.Memory p bs m = absurd m
told_count make.Full p bs m = absurd m

pub told_kind : (f : MakeFault) (p : Tree) (bs : List Tree) (at : ℕ) → IsMisfit (Some f) (blanks p) bs → let r : Result Term MakeFault = Err f in
    (IsErrOf r (make.Kind at) → filling p bs ≡ Err (fault.Kinds at)) × (filling p bs ≡ Err (fault.Kinds at) → IsErrOf r (make.Kind at))
told_kind make.Count p bs at m = (λ e. absurd (let z : ⊥ = cc in z), λ e. absurd (let k = counted_wrong p bs m in let z : ⊥ = cc in z))
told_kind (make.Kind i) p bs at m = let k = told_place p bs i m.0 m.1 in (
  λ e. let same : i ≡ at = cc in k ∙ ap (λ (n : ℕ). let r : Result Tree fault.Fault = Err (fault.Kinds n) in r) same,
  λ e. let same : i ≡ at = cc in ap (λ (n : ℕ). let r : Result Term MakeFault = Err (make.Kind n) in r) same,
)
told_kind make.Memory p bs at m = absurd m
told_kind make.Full p bs at m = absurd m

pub not_full : (f : MakeFault) (p : Tree) (bs : List Tree) → IsMisfit (Some f) (blanks p) bs → let r : Result Term MakeFault = Err f in IsErrOf r make.Full → ⊥
not_full make.Count p bs m e = cc
not_full (make.Kind at) p bs m e = cc
not_full make.Memory p bs m e = absurd m
not_full make.Full p bs m e = absurd m

-- once the terms fit, they are no reason
pub never_count : (w : Store) (r : Result Term MakeFault) (p : Tree) (bs : List Tree) → IfErr r (IsMakeRefusal w) → IsMisfit None (blanks p) bs
    → (IsErrOf r make.Count → filling p bs ≡ Err fault.Count) × (filling p bs ≡ Err fault.Count → IsErrOf r make.Count)
never_count w r p bs h m = (λ e. absurd (no_count r h e), λ e. absurd (let k = filled_ok p bs m in let z : ⊥ = cc in z)) where
  no_count : (r : Result Term MakeFault) → IfErr r (IsMakeRefusal w) → IsErrOf r make.Count → ⊥
  no_count (Ok t) h e = cc
  no_count (Err make.Count) h e = h
  no_count (Err (make.Kind at)) h e = h
  no_count (Err make.Memory) h e = cc
  no_count (Err make.Full) h e = cc

pub never_kind : (w : Store) (r : Result Term MakeFault) (p : Tree) (bs : List Tree) (at : ℕ) → IfErr r (IsMakeRefusal w)
    → IsMisfit None (blanks p) bs → (IsErrOf r (make.Kind at) → filling p bs ≡ Err (fault.Kinds at))
    × (filling p bs ≡ Err (fault.Kinds at) → IsErrOf r (make.Kind at))
never_kind w r p bs at h m = (λ e. absurd (no_kind r h e), λ e. absurd (let k = filled_ok p bs m in let z : ⊥ = cc in z)) where
  no_kind : (r : Result Term MakeFault) → IfErr r (IsMakeRefusal w) → IsErrOf r (make.Kind at) → ⊥
  no_kind (Ok t) h e = cc
  no_kind (Err make.Count) h e = h
  no_kind (Err (make.Kind i)) h e = h
  no_kind (Err make.Memory) h e = cc
  no_kind (Err make.Full) h e = cc

pub made_ok : (old new : Store) (r : Result Term MakeFault) (nodes : List Node) (p : Tree) (args : List Term) → tree_of_nodes nodes ≡ p
    → ((bs : List Tree) → HaveTrees old args bs → IsMisfit None (blanks p) bs)
    → IfOk r (λ t. (bs : List Tree) → HaveTrees old args bs → tree_at new t ≡ Some (filled (tree_of_nodes nodes) bs).0)
    → IfOk r (λ t. (bs : List Tree) → HaveTrees old args bs → (u : Tree) × (filling p bs ≡ Ok u) × (tree_at new t ≡ Some u))
made_ok old new (Err f) nodes p args e m h = tt
made_ok old new (Ok t) nodes p args e m h = λ bs held. (
  (filled p bs).0,
  filled_ok p bs (m bs held),
  h bs held ∙ ap (λ (q : Tree). let o : Option Tree = Some (filled q bs).0 in o) e,
)
