-- The trees of requests that are read as tables, and why a request is rejected.
use Rattle.std.proofs.Common.{◌≡◌, ℕ, zero, suc, ℤ, pos, negsuc, true, List, [], ◌∷◌, ◌++◌, Option, Some, None}
use Rattle.std.proofs.Common.{IsSome, inl, refl, sym, ap, subst, ◌∙◌}
use Rattle.std.specs.Prelude.{◌==◌, Result, Ok, Err, cond, unwrap_or}
use Rattle.std.specs.Cmp.Derive.{both_true}
use Rattle.std.specs.List.{AllByRecursion}
use Rattle.std.specs.Option.{option_map, option_map_or}
use Rattle.rx_term.specs.Store.{Store, tree_at}
use Rattle.rx_term.specs.Tree.{Tree, Trees, Int, Appl, Items, Hole, none, more, is_i32, is_tree, are_trees}
use Rattle.rx_term.specs.declared.Term.{Term as Reference}
use Rattle.rx_term.proofs.TreeLemmas.{both_parts}
use Rattle.rx_text.specs.Verdict.{Verdict, TooLong, Outside, Spelt}
use Rattle.rx_table.specs.Opened.{both, broken_element, element, last_opened, opened, opened_all, tree_of_table}
use Rattle.rx_table.proofs.TableLemmas.{breaks-no-tree}
use Rattle.rx_run.specs.Readings.{IsReadingIn, IsTableReason}
use Rattle.rx_run.specs.declared.ending.RunFault.{RunFault}
use Rattle.rx_run.specs.declared.ending.RunFault.TheVariants as run
use Rattle.rx_run.specs.declared.ending.Source.TheVariants as source
use Rattle.rx_run.specs.declared.refusal.Reading.TheVariants.{Refused, Good}
use Rattle.rx_run.specs.declared.refusal.Reason.{Reason}
use Rattle.rx_run.specs.declared.refusal.Reason.TheVariants as reason
use Rattle.rx_run.specs.declared.refusal.Refusal.{Refusal as Rejection}
use Rattle.rx_run.specs.declared.term.reading.InputForm.{InputForm}
use Rattle.rx_run.specs.declared.term.reading.InputForm.TheVariants as form
use Rattle.rx_run.specs.Refusals.{refused_text}
use Rattle.rx_run.specs.Run.{RanOut}
use Rattle.rx_run.proofs.WholeRunLemmas.{same_refusal}
use Rattle.rec_syntax.specs.Syntax.{Spec}
use Rattle.rec_memo.specs.Pairs.{Pairs}
use Rattle.rec_serve.specs.Answering.{CellsOnly, DeepOnly, refusal_after, refusal_of}
use Rattle.rec_serve.specs.Conversation.{answer_after, answer_to, refusal_line, table_refusal, taken}
use Rattle.rec_serve.specs.Inner.Asked.{of_input, of_reason}
use Rattle.rec_serve.specs.declared.ending.Refusal.{Refusal}
use Rattle.rec_serve.specs.declared.ending.Refusal.TheVariants as refusal
use Rattle.rec_serve.specs.declared.settings.ServeSettings.{ServeSettings}

-- ---- the tree of a valid table is valid

abbrev IsValid : Tree → Type 0
IsValid t = is_tree t ≡ true

-- two values that are both there
record AreBoth {A B C : Type 0} (f : A → B → C) (a : Option A) (b : Option B) (c : C) : Type 0 where
  first : A
  second : B
  left : a ≡ Some first
  right : b ≡ Some second
  is : f first second ≡ c

are_both : {A B C : Type 0} (f : A → B → C) (a : Option A) (b : Option B) (c : C) → both f a b ≡ Some c → AreBoth f a b c
are_both f None b c e = absurd (cc e)
are_both f (Some x) None c e = absurd (cc e)
are_both f (Some x) (Some y) c e = record { first = x; second = y; left = refl; right = refl; is = cc e }

are_mapped : {A C : Type 0} (f : A → C) (a : Option A) (c : C) → option_map f a ≡ Some c → (x : A) × (a ≡ Some x) × (f x ≡ c)
are_mapped f None c e = absurd (cc e)
are_mapped f (Some x) c e = (x, refl, cc e)

valid_element : (es : List Tree) → AllByRecursion IsValid es → (z : ℤ) (u : Tree) → element es z ≡ Some u → IsValid u
valid_element es h (negsuc n) u e = absurd (cc e)
valid_element [] h (pos n) u e = absurd (cc e)
valid_element (x ∷ es) h (pos zero) u e = let same : x ≡ u = cc e in subst IsValid same h.0
valid_element (x ∷ es) h (pos (suc n)) u e = valid_element es h.1 (pos n) u e

module _ (es : List Tree) (h : AllByRecursion IsValid es) where
  mutual
    valid_opened : (t u : Tree) → IsValid t → opened es t ≡ Some u → IsValid u
    valid_opened (Int z anns) u v e =
        let k = both_parts (is_i32 z) (are_trees anns) v in
        let a = are_mapped (Int z) (opened_all es anns) u e in
        subst IsValid a.2 (both_true k.0 (valid_all anns a.0 k.1 a.1))
    valid_opened (Appl name quoted args anns) u v e =
        let k = both_parts _ (are_trees anns) v in
        let l = both_parts _ (are_trees args) k.0 in
        let a = are_both (Appl name quoted) (opened_all es args) (opened_all es anns) u e in
        subst IsValid a.is (both_true (both_true l.0 (valid_all args a.first l.1 a.left)) (valid_all anns a.second k.1 a.right))
    valid_opened (Items items anns) u v e =
        let k = both_parts (are_trees items) (are_trees anns) v in
        let a = are_both Items (opened_all es items) (opened_all es anns) u e in
        subst IsValid a.is (both_true (valid_all items a.first k.0 a.left) (valid_all anns a.second k.1 a.right))
    valid_opened (Hole (Int z none) none) u v e = valid_element es h z u e
    valid_opened (Hole (Int z none) (more a as')) u v e = absurd (cc e)
    valid_opened (Hole (Int z (more b bs)) anns) u v e = absurd (cc e)
    valid_opened (Hole (Appl name quoted args bnns) anns) u v e = absurd (cc e)
    valid_opened (Hole (Items none bnns) anns) u v e = absurd (cc e)
    valid_opened (Hole (Items (more t none) none) anns) u v e =
        let k = both_parts _ (are_trees anns) v in
        let l = both_parts _ true k.0 in
        let m = both_parts (is_tree t) true l.0 in
        let a = are_both Hole (opened es t) (opened_all es anns) u e in
        subst IsValid a.is (both_true (valid_opened t a.first m.0 a.left) (valid_all anns a.second k.1 a.right))
    valid_opened (Hole (Items (more t none) (more b bs)) anns) u v e = absurd (cc e)
    valid_opened (Hole (Items (more t (more w ws)) bnns) anns) u v e = absurd (cc e)
    valid_opened (Hole (Hole inner bnns) anns) u v e = absurd (cc e)

    valid_all : (ts us : Trees) → are_trees ts ≡ true → opened_all es ts ≡ Some us → are_trees us ≡ true
    valid_all none us v e = let same : none ≡ us = cc e in subst (λ z. are_trees z ≡ true) same refl
    valid_all (more t ts) us v e =
        let k = both_parts (is_tree t) (are_trees ts) v in
        let a = are_both more (opened es t) (opened_all es ts) us e in
        subst (λ z. are_trees z ≡ true) a.is (both_true (valid_opened t a.first k.0 a.left) (valid_all ts a.second k.1 a.right))

valid_more : (es : List Tree) (u : Tree) → AllByRecursion IsValid es → IsValid u → AllByRecursion IsValid (es ++ u ∷ [])
valid_more [] u h v = (v, tt)
valid_more (x ∷ es) u h v = (h.0, valid_more es u h.1 v)

valid_last : (es : List Tree) → AllByRecursion IsValid es → (t : Tree) (ts : Trees) (u : Tree) → IsValid t → are_trees ts ≡ true
    → last_opened es t ts ≡ Some u → IsValid u
valid_last es h t none u v vs e = valid_opened es h t u v e
valid_last es h t (more x xs) u v vs e = by (opened es t) refl (λ z k. valid_last (es ++ z ∷ []) (valid_more es z h k) x xs u l.0 l.1)
  where
    l : IsValid x × (are_trees xs ≡ true)
    l = both_parts (is_tree x) (are_trees xs) vs

    by : (o : Option Tree) → opened es t ≡ o → ((z : Tree) → IsValid z → last_opened (es ++ z ∷ []) x xs ≡ Some u → IsValid u) → IsValid u
    by None q later = absurd (let k : None ≡ Some u = rw q at e in cc k)
    by (Some z) q later = later z (valid_opened es h t z v q) (rw q at e)

valid_table : (t u : Tree) → IsValid t → tree_of_table t ≡ Some u → IsValid u
valid_table (Items (more t ts) none) u v e =
    let k = both_parts (are_trees (more t ts)) true v in
    let l = both_parts (is_tree t) (are_trees ts) k.0 in
    valid_last [] tt t ts u l.0 l.1 e
valid_table (Items none anns) u v e = absurd (cc e)
valid_table (Items (more t ts) (more a as')) u v e = absurd (cc e)
valid_table (Int z anns) u v e = absurd (cc e)
valid_table (Appl name quoted args anns) u v e = absurd (cc e)
valid_table (Hole inner anns) u v e = absurd (cc e)

-- ---- the tree of a request

abbrev by_table : Tree → Option Tree → Result Tree Refusal
by_table t o = option_map_or (λ u. Ok u) o (Err (table_refusal t))

pub taken_valid : (input : InputForm) (t u : Tree) → is_tree t ≡ true → taken input t ≡ Ok u → is_tree u ≡ true
taken_valid form.Term t u v e = let same : t ≡ u = cc e in subst IsValid same v
taken_valid form.Table t u v e = by (tree_of_table t) refl
  where
    by : (o : Option Tree) → tree_of_table t ≡ o → IsValid u
    by None q = absurd (let k : Err (table_refusal t) ≡ Ok u = sym (ap (by_table t) q) ∙ e in cc k)
    by (Some z) q = let k : Ok z ≡ Ok u = sym (ap (by_table t) q) ∙ e in let same : z ≡ u = cc k in valid_table t u v (q ∙ ap (λ x. Some x) same)

-- a request that was accepted by its form: the tree that its text spells, and its tree
pub record IsTaken (input : InputForm) (w : Store) (term : Reference) (v : Verdict) : Type 0 where
  pub spelt : Tree
  pub tree : Tree
  pub is : v ≡ Spelt spelt
  pub opens : taken input spelt ≡ Ok tree
  pub held : tree_at w term ≡ Some tree

pub read_taken : (input : InputForm) (w : Store) (term : Reference) (v : Verdict) → IsReadingIn source.Term input w (Good term) v
    → IsTaken input w term v
read_taken form.Term w term v (u, here, is) = record { spelt = u; tree = u; is = is; opens = refl; held = here }
read_taken form.Table w term v (x, (u, is, opens, here)) = record { spelt = x; tree = u; is = is; opens = ap (by_table x) opens; held = here }

-- ---- why a request is rejected

-- a request with this verdict is rejected by its form for this reason
abbrev pub IsWhy : InputForm → Verdict → Refusal → Type 0
IsWhy input TooLong f = f ≡ refusal.Long
IsWhy input (Outside at) f = f ≡ refusal.Outside at
IsWhy input (Spelt t) f = taken input t ≡ Err f

same_reason : (r q : Rejection) → Some r ≡ Some q → of_reason q.reason ≡ of_reason r.reason
same_reason r q e = ap (λ (x : Rejection). of_reason x.reason) (same_refusal e)

some_reason : (o p : Option Refusal) → o ≡ p → IsSome p → IsSome o
some_reason o p e h = subst (λ x. IsSome x) (sym e) h

text_reason : (q : Rejection) (v : Verdict) → refused_text source.Term v ≡ Some q → IsSome (of_reason q.reason)
text_reason q TooLong e = some_reason _ _ (same_reason _ q e) refl
text_reason q (Outside at) e = some_reason _ _ (same_reason _ q e) refl
text_reason q (Spelt t) e = absurd (cc e)

table_reason : (t : Tree) (r : Reason) → IsTableReason t r → IsSome (of_reason r)
table_reason t reason.NotTable h = refl
table_reason t (reason.Element n) h = refl
table_reason t r h = absurd h

-- an error of the text of a request is a reason to reject it
pub has_reason : (input : InputForm) (w : Store) (q : Rejection) (v : Verdict) → IsReadingIn source.Term input w (Refused q) v
    → IsSome (of_reason q.reason)
has_reason form.Term w q v h = text_reason q v h
has_reason form.Table w q TooLong h = text_reason q TooLong h
has_reason form.Table w q (Outside at) h = text_reason q (Outside at) h
has_reason form.Table w q (Spelt t) h = table_reason t q.reason h.1

this_reason : (o : Option Refusal) (f g : Refusal) → o ≡ Some f → o ≡ Some g → g ≡ f
this_reason o f g e k = let both : Some g ≡ Some f = sym k ∙ e in cc both

text_why : (input : InputForm) (q : Rejection) (v : Verdict) (f : Refusal) → refused_text source.Term v ≡ Some q → of_reason q.reason ≡ Some f
    → IsWhy input v f
text_why input q TooLong f e k = this_reason _ _ f (same_reason _ q e) k
text_why input q (Outside at) f e k = this_reason _ _ f (same_reason _ q e) k
text_why input q (Spelt t) f e k = absurd (cc e)

-- why a tree that breaks a rule of tables is rejected
abbrev by_rule : Option ℕ → Option ℕ → Refusal
by_rule rule number = cond (unwrap_or rule 1 == 1) refusal.NotTable (refusal.Element (unwrap_or number 0))

table_why : (t : Tree) (r : Reason) (f : Refusal) → IsTableReason t r → of_reason r ≡ Some f → taken form.Table t ≡ Err f
table_why t reason.NotTable f h k =
    let why : refusal.NotTable ≡ f = cc k in
    ap (by_table t) (breaks-no-tree t 1 h) ∙ ap (λ rule. Err (by_rule rule (broken_element t))) h ∙ ap (λ x. Err x) why
table_why t (reason.Element n) f h k =
    let why : refusal.Element n ≡ f = cc k in
    ap (by_table t) (breaks-no-tree t 2 h.0) ∙ ap (λ rule. Err (by_rule rule (broken_element t))) h.0
    ∙ ap (λ number. Err (by_rule (Some 2) number)) h.1 ∙ ap (λ x. Err x) why
table_why t r f h k = absurd h

-- the reason why a request is rejected is that of its text
pub read_why : (input : InputForm) (w : Store) (q : Rejection) (v : Verdict) (f : Refusal) → IsReadingIn source.Term input w (Refused q) v
    → of_reason q.reason ≡ Some f → IsWhy input v f
read_why form.Term w q v f h k = text_why form.Term q v f h k
read_why form.Table w q TooLong f h k = text_why form.Table q TooLong f h k
read_why form.Table w q (Outside at) f h k = text_why form.Table q (Outside at) f h k
read_why form.Table w q (Spelt t) f h k = table_why t q.reason f h.1 k

-- its response
pub why_line : (y : Spec) (s : ServeSettings) (v : Verdict) (f : Refusal) → IsWhy s.input v f → refusal_line f ≡ answer_after y s v
why_line y s TooLong f e = ap refusal_line e
why_line y s (Outside at) f e = ap refusal_line e
why_line y s (Spelt t) f e = ap (answer_to y s) (sym e)

pub why_refusal : (y : Spec) (s : ServeSettings) (v : Verdict) (f : Refusal) → IsWhy s.input v f → Some f ≡ refusal_after y s v
why_refusal y s TooLong f e = ap (λ x. Some x) e
why_refusal y s (Outside at) f e = ap (λ x. Some x) e
why_refusal y s (Spelt t) f e = ap (refusal_of y) (sym e)

-- ---- requests that were not read

pub input_room : (old own w : Store) (work : List Reference) (m : Pairs) (f : RunFault) → RanOut old own f → CellsOnly own w work m (of_input f)
input_room old own w work m (run.Memory lines) h = tt
input_room old own w work m (run.Room lines) h = inl h.1.full
input_room old own w work m (run.Deep lines) h = absurd h
input_room old own w work m run.Read h = absurd h
input_room old own w work m run.Write h = absurd h

pub input_deep : (waiting : ℕ) (depth : Option ℕ) (f : RunFault) → DeepOnly waiting depth (of_input f)
input_deep waiting depth (run.Memory lines) = tt
input_deep waiting depth (run.Room lines) = tt
input_deep waiting depth (run.Deep lines) = tt
input_deep waiting depth run.Read = tt
input_deep waiting depth run.Write = tt
