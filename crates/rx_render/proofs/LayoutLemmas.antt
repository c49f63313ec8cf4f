-- What is left to do of a text over several lines.
use Rattle.std.proofs.Common.{◌≡◌, ℕ, ◌+◌, ◌<◌, ◌≤◌, Bool, true, false, ◌&&◌, not, cond, List, [], ◌∷◌, ◌++◌, Option, Some, None, IsSome}
use Rattle.std.proofs.Common.{IfSome, Result, Ok, Err, OnOk, refl, sym, ap, subst, ◌∙◌, append_assoc, append-nil, arith}
use Rattle.std.specs.Prelude.{replicate, codes, vec_len}
use Rattle.std.specs.List.{AllByRecursion}
use Rattle.std.specs.Io.KnownBytes.{Appends}
use Rattle.std.proofs.lemmas.List.{replicate-append-replicate}
use Rattle.rx_term.specs.Name.{is_empty}
use Rattle.rx_term.specs.Tree.{Tree, Trees, none, more, Int, Appl, Items, Hole, annotations, list_of}
use Rattle.rx_term.specs.Store.{Store, tree_at, signature_of, part_at, args_of}
use Rattle.rx_term.specs.Kinds.{HasKind, HasAppl, HasCons}
use Rattle.rx_term.specs.declared.Term.{Term}
use Rattle.rx_term.specs.declared.Symbol.{Symbol}
use Rattle.rx_term.specs.declared.Kind.{Kind}
use Rattle.rx_term.specs.declared.Kind.TheVariants as kind
use Rattle.rx_text.specs.Canon.{canon}
use Rattle.rx_text.specs.Inner.Jobs.{seen, IsList}
use Rattle.rx_text.specs.Written.{AppendsFront}
use Rattle.rx_text.specs.declared.faults.WriteFault.{WriteFault}
use Rattle.rx_text.proofs.AppendingLemmas.{appends_both, front_within}
use Rattle.rx_render.specs.Laid.{between, fits, laid, laid_at}
use Rattle.rx_render.specs.Layout.{Adds, IsBlank, IsJob, IsPiece, Keeps, Leaves, Spreads, arguments_laid, arguments_size, atom_text, body_laid}
use Rattle.rx_render.specs.Layout.{body_size, job_text, job_at, jobs_size, jobs_text, notes_laid, piece_size, piece_text, room, size, sizes, spread_laid}
use Rattle.rx_render.specs.declared.layout.Atom.TheVariants as atom
use Rattle.rx_render.specs.declared.layout.Piece.{Piece}
use Rattle.rx_render.specs.declared.layout.Piece.TheVariants as piece
use Rattle.rx_render.specs.declared.layout.Job.{Job}
use Rattle.rx_render.specs.declared.layout.Indentation.{Indentation}
use Rattle.rx_render.specs.declared.layout.Layout.{Layout}

-- ---- in general

All-append : {X : Type 0} (P : X → Type 0) (xs ys : List X) → AllByRecursion P xs → AllByRecursion P ys → AllByRecursion P (xs ++ ys)
All-append P [] ys h k = k
All-append P (x ∷ xs) ys h k = (h.0, All-append P xs ys h.1 k)

All-split : {X : Type 0} (P : X → Type 0) (xs : List X) (x : X) → AllByRecursion P (xs ++ x ∷ []) → AllByRecursion P xs × P x
All-split P [] x h = (tt, h.0)
All-split P (y ∷ ys) x h = let k = All-split P ys x h.1 in ((h.0, k.0), k.1)

-- a list with no first item
no_items : (w : Store) (t : Term) (k : Kind) → HasKind w t k → IsList (tree_at w t) → (k ≡ kind.Cons → ⊥)
    → (anns : Trees) × (tree_at w t ≡ Some (Items none anns))
no_items w t (kind.Int z) h l n = absurd (rw h.here at l)
no_items w t kind.Nil h l n = (h.anns, h.here)
no_items w t kind.Cons h l n = absurd (n refl)
no_items w t (kind.Appl s) h l n = absurd (rw h.here at l)
no_items w t kind.Hole h l n = absurd (rw h.here at l)

-- ---- blanks

-- there are more of them
pub blanks_more : (items longer : List ℕ) (a k : ℕ) → items ≡ replicate a 32 → longer ≡ items ++ replicate k 32 → longer ≡ replicate (a + k) 32
blanks_more items longer a k e f = f ∙ ap (λ xs. xs ++ replicate k 32) e ∙ replicate-append-replicate a k 32

Keeps-trans : {a b c : Layout} → Keeps a b → Keeps b c → Keeps a c
Keeps-trans h k = let x = h.room in let y = k.room in record { indentation = k.indentation ∙ h.indentation; room = omega (arith, x, y); blank = k.blank }

-- ---- jobs

jobs_wider : (w : Store) (js : List Job) (k l : ℕ) → k ≤ l → AllByRecursion (IsJob w k) js → AllByRecursion (IsJob w l) js
jobs_wider w [] k l h all = tt
jobs_wider w (j ∷ js) k l h all = let m = all.0.1 in ((all.0.0, omega (arith, h, m)), jobs_wider w js k l h all.1)

jobs_text-append : (w : Store) (l : Indentation) (js ks : List Job) → jobs_text w l (js ++ ks) ≡ jobs_text w l ks ++ jobs_text w l js
jobs_text-append w l [] ks = sym (append-nil (jobs_text w l ks))
jobs_text-append w l (j ∷ js) ks = ap (λ xs. xs ++ job_text w l j) (jobs_text-append w l js ks)
    ∙ append_assoc (jobs_text w l ks) (jobs_text w l js) (job_text w l j)

jobs_size-append : (w : Store) (js ks : List Job) → jobs_size w (js ++ ks) ≡ jobs_size w js + jobs_size w ks
jobs_size-append w [] ks = omega arith
jobs_size-append w (j ∷ js) ks = omega (arith, jobs_size-append w js ks)

-- first the one text was left, and then another before it
pub spreads_both : (w : Store) (whole first second : List ℕ) (space s t : ℕ) (old mid new : Layout) → Spreads w second s old mid
    → Spreads w first t mid new → whole ≡ first ++ second → s + t ≤ space + 1 → Spreads w whole space old new
spreads_both w whole first second space s t old mid new a b e h =
    let both = append_assoc old.jobs.items a.added b.added in
    let x = a.less in
    let y = b.less in
    let z = jobs_size-append w a.added b.added in
    let indent : mid.indentation ≡ old.indentation = a.adds.kept.indentation in
    record {
      added = a.added ++ b.added;
      adds = record { jobs = b.adds.jobs ∙ ap (λ js. js ++ b.added) a.adds.jobs ∙ both; kept = Keeps-trans a.adds.kept b.adds.kept };
      text = e ∙ ap (λ xs. xs ++ second) (b.text ∙ ap (λ l. jobs_text w l b.added) indent) ∙ ap (λ xs. jobs_text w old.indentation b.added ++ xs) a.text
          ∙ sym (jobs_text-append w old.indentation a.added b.added);
      jobs = All-append (IsJob w (room new)) a.added b.added (jobs_wider w a.added (room mid) (room new) b.adds.kept.room a.jobs) b.jobs;
      less = omega (arith, x, y, z, h);
    }

-- one job was left
pub spreads_one : (w : Store) (old new : Layout) (j : Job) → Adds (j ∷ []) old new → IsPiece w j.piece → j.margin ≤ room old
    → Spreads w (job_text w old.indentation j) (piece_size w j.piece + 1) old new
spreads_one w old new j h p m =
    let r = h.kept.room in
    record { added = j ∷ []; adds = h; text = refl; jobs = ((p, omega (arith, m, r)), tt); less = omega arith }

-- ---- arguments

module _ (w : Store) (t : Term) (s : Symbol) (h : HasAppl w t s) (l : Indentation) (m : ℕ) where
  -- with arguments
  module _ (args : Term) (some : HasCons w args) (at_args : tree_at w args ≡ part_at args_of w t) where
    pub arguments_text : seen [] (arguments_laid l m) (tree_at w t) ≡ between l.indent m 40 (piece_text w l (m + l.indent) (piece.Items args)) 41
    arguments_text =
        let here = h.here in
        let there = some.here in
        let e : h.args ≡ more some.first some.rest = (let f = rw (there, here) at at_args in cc f) in
        rw (here, there, e) refl

    pub arguments_less : piece_size w (piece.Items args) + 4 < seen 1 arguments_size (tree_at w t)
    arguments_less =
        let here = h.here in
        let there = some.here in
        let e : h.args ≡ more some.first some.rest = (let f = rw (there, here) at at_args in cc f) in
        rw (here, there, e) (omega arith)

    pub arguments_held : IsPiece w (piece.Items args)
    arguments_held = let there = some.here in rw there tt

  -- without
  module _ (args : Term) (k : Kind) (is : HasKind w args k) (other : k ≡ kind.Cons → ⊥) (at_args : tree_at w args ≡ part_at args_of w t) where
    args_none : h.args ≡ none
    args_none =
        let here = h.here in
        let listed : tree_at w args ≡ Some (list_of h.args) = at_args ∙ rw here refl in
        let e = no_items w args k is (rw listed tt) other in
        let f : Some (list_of h.args) ≡ Some (Items none e.0) = sym listed ∙ e.1 in
        cc f

    pub constant_text : (b : Bool) → IfSome (signature_of w s) (λ g. b ≡ (is_empty g.name && not g.quoted))
        → seen [] (arguments_laid l m) (tree_at w t) ≡ cond b (codes "()") []
    constant_text b e =
        let here = h.here in
        let none_there = args_none in
        let flag : b ≡ (is_empty h.name && not h.quoted) = (let sig = h.symbol in rw sig at e) in
        rw (here, none_there, flag) refl

    pub constant_less : 2 < seen 1 arguments_size (tree_at w t)
    constant_less = let here = h.here in let none_there = args_none in rw (here, none_there) (omega arith)

-- ---- applications

module _ (w : Store) (t : Term) (s : Symbol) (h : HasAppl w t s) (l : Indentation) (m : ℕ) where
  pub application_text : seen [] (body_laid l m) (tree_at w t) ≡ atom_text w m (atom.Name s) ++ seen [] (arguments_laid l m) (tree_at w t)
  application_text = let here = h.here in let sig = h.symbol in rw (here, sig) refl

  pub application_size : seen 1 arguments_size (tree_at w t) + 2 ≤ seen 1 body_size (tree_at w t) + 1
  application_size = let here = h.here in rw here (omega arith)

  pub name_held : IsSome (signature_of w s)
  name_held = let sig = h.symbol in rw sig refl

-- its name was left before its arguments
pub application_leaves : (r : Result (Unit {0}) WriteFault) (w : Store) (t : Term) (s : Symbol) (h : HasAppl w t s) (m : ℕ) (j : Job)
    (old mid new : Layout) → m ≤ room old → j ≡ job_at m (piece.Atom (atom.Name s))
    → Spreads w (seen [] (arguments_laid old.indentation m) (tree_at w t)) (seen 1 arguments_size (tree_at w t)) old mid → OnOk r (Adds (j ∷ []) mid new)
    → OnOk r (Spreads w (seen [] (body_laid old.indentation m) (tree_at w t)) (seen 1 body_size (tree_at w t)) old new)
application_leaves (Err e) w t s h m j old mid new at is a b = tt
application_leaves (Ok x) w t s h m j old mid new at is a b =
    let k = a.adds.kept.room in
    let named = job_at m (piece.Atom (atom.Name s)) in
    let one = spreads_one w mid new named (subst (λ (i : Job). Adds (i ∷ []) mid new) is b) (name_held w t s h old.indentation m) (omega (arith, at, k)) in
    spreads_both w (seen [] (body_laid old.indentation m) (tree_at w t)) (atom_text w m (atom.Name s))
    (seen [] (arguments_laid old.indentation m) (tree_at w t)) (seen 1 body_size (tree_at w t)) (seen 1 arguments_size (tree_at w t)) 2 old mid new a
    one (application_text w t s h old.indentation m) (application_size w t s h old.indentation m)

-- ---- annotations

-- the annotations of a tree, in braces
pub record Noted (w : Store) (l : Indentation) (m : ℕ) (o : Option Tree) (a : Term) : Type 0 where
  pub text : seen [] (λ u. notes_laid l m (annotations u)) o ≡ between l.indent m 123 (piece_text w l (m + l.indent) (piece.Items a)) 125
  pub held : IsPiece w (piece.Items a)
  pub less : piece_size w (piece.Items a) + 4 < seen 1 (λ u. 5 + sizes (annotations u)) o

-- ---- trees

-- a tree that fits is printed as it is
pub laid_fitting : (l : Indentation) (m : ℕ) (t : Tree) → fits l.width m t ≡ true → laid_at l m t ≡ canon t
laid_fitting l m (Int z anns) h = rw h refl
laid_fitting l m (Appl name quoted args anns) h = rw h refl
laid_fitting l m (Items items anns) h = rw h refl
laid_fitting l m (Hole inner anns) h = rw h refl

-- and another one is spread
pub laid_spread : (l : Indentation) (m : ℕ) (t : Tree) → fits l.width m t ≡ false → laid_at l m t ≡ spread_laid l m t
laid_spread l m (Int z anns) h = rw h refl
laid_spread l m (Appl name quoted args anns) h = rw h refl
laid_spread l m (Items items anns) h = rw h refl
laid_spread l m (Hole inner anns) h = rw h refl

-- the text of the job of a tree that fits
pub fitting_job : (w : Store) (l : Indentation) (j : Job) (t : Term) (text : List ℕ) → j.piece ≡ piece.Tree t → IsSome (tree_at w t)
    → IfSome (tree_at w t) (λ u. true ≡ fits l.width j.margin u) → IfSome (tree_at w t) (λ u. text ≡ canon u) → job_text w l j ≡ text
fitting_job w l j t text is s h k = ap (piece_text w l j.margin) is ∙ by (tree_at w t) s h k
  where
    by : (o : Option Tree) → IsSome o → IfSome o (λ u. true ≡ fits l.width j.margin u) → IfSome o (λ u. text ≡ canon u)
        → seen [] (λ u. laid_at l j.margin u) o ≡ text
    by None s h k = absurd (cc s)
    by (Some u) s h k = laid_fitting l j.margin u (sym h) ∙ sym k

-- a tree has a measure
size_some : (t : Tree) → 0 < size t
size_some (Int z anns) = omega arith
size_some (Appl name quoted args anns) = omega arith
size_some (Items items anns) = omega arith
size_some (Hole inner anns) = omega arith

pub tree_size : (w : Store) (p : Piece) (t : Term) → p ≡ piece.Tree t → 0 < piece_size w p
tree_size w p t is = rw is (by (tree_at w t))
  where
    by : (o : Option Tree) → 0 < seen 1 size o
    by None = omega arith
    by (Some u) = size_some u

-- ---- the loop

-- and of one that was
pub leaves_written : (r : Result (Unit {0}) WriteFault) (w : Store) (whole : List ℕ) (space : ℕ) (before after : Option (List ℕ)) (old new : Layout)
    → IsBlank new → new.indentation ≡ old.indentation → new.jobs.items ≡ old.jobs.items → room old ≤ room new → 0 < space → OnOk r (Appends before after whole)
    → OnOk r (Leaves w whole space before after old new)
leaves_written (Err x) w whole space before after old new blank i e r less a = tt
leaves_written (Ok x) w whole space before after old new blank i e r less a =
    record {
      front = whole;
      rest = [];
      written = a;
      text = sym (append-nil whole);
      spreads = record {
        added = [];
        adds = record {
          jobs = e ∙ sym (append-nil old.jobs.items);
          kept =
              record { indentation = i; room = r; blank = blank };
        };
        text = refl;
        jobs = tt;
        less = less;
      };
    }

-- what was written, and the jobs that are left, are the whole text
pub record Writing (w : Store) (l : Indentation) (whole : List ℕ) (old now : Option (List ℕ)) (left : Layout) : Type 0 where
  pub front : List ℕ
  pub written : Appends old now front
  pub text : whole ≡ front ++ jobs_text w l left.jobs.items
  pub jobs : AllByRecursion (IsJob w (room left)) left.jobs.items
  pub indentation : left.indentation ≡ l
  pub blank : IsBlank left

-- one job was taken off
module _ (w : Store) (l : Indentation) (whole : List ℕ) (old now : Option (List ℕ)) (layout left : Layout) (j : Job) (u : Writing w l whole old now layout)
    (popped : layout.jobs.items ≡ left.jobs.items ++ j ∷ []) (indentation : left.indentation ≡ layout.indentation) (blanks : left.blanks ≡ layout.blanks) where
  pub room_left : room left ≡ room layout
  room_left = ap (λ b. vec_len b) blanks

  pub blank_left : IsBlank left
  blank_left = let b = u.blank in rw blanks b

  pub indentation_left : left.indentation ≡ l
  indentation_left = indentation ∙ u.indentation

  parts : whole ≡ u.front ++ (job_text w l j ++ jobs_text w l left.jobs.items)
  parts = u.text ∙ ap (λ xs. u.front ++ xs) (ap (jobs_text w l) popped ∙ jobs_text-append w l left.jobs.items (j ∷ []))

  jobs_are : AllByRecursion (IsJob w (room left)) left.jobs.items × IsJob w (room left) j
  jobs_are = let all = u.jobs in All-split (IsJob w (room left)) left.jobs.items j (rw (room_left, ← popped) all)

  pub job_left : IsJob w (room left) j
  job_left = jobs_are.1

  pub writing_on : (new : Option (List ℕ)) (after : Layout) → Leaves w (job_text w left.indentation j) (piece_size w j.piece) now new left after
      → Writing w l whole old new after
  writing_on new after v =
      let rest : List ℕ = jobs_text w l left.jobs.items in
      let s = v.spreads in
      let kept = s.adds.kept in
      let grown : jobs_text w l after.jobs.items ≡ jobs_text w l s.added ++ rest =
      ap (jobs_text w l) s.adds.jobs ∙ jobs_text-append w l left.jobs.items s.added in
      let added : v.rest ≡ jobs_text w l s.added = s.text ∙ ap (λ k. jobs_text w k s.added) indentation_left in
      let stay = jobs_wider w left.jobs.items (room left) (room after) kept.room jobs_are.0 in
      let jobs = s.adds.jobs in
      record {
        front = u.front ++ v.front;
        written = appends_both old now new u.front v.front u.written v.written;
        text = parts ∙ ap (λ xs. u.front ++ (xs ++ rest)) (ap (λ k. job_text w k j) (sym indentation_left) ∙ v.text ∙ ap (λ xs. v.front ++ xs) added)
            ∙ ap (λ xs. u.front ++ xs) (append_assoc v.front (jobs_text w l s.added) rest)
            ∙ sym (append_assoc u.front v.front (jobs_text w l s.added ++ rest)) ∙ ap (λ xs. (u.front ++ v.front) ++ xs) (sym grown);
        jobs = rw jobs (All-append (IsJob w (room after)) left.jobs.items s.added stay s.jobs);
        indentation = kept.indentation ∙ indentation_left;
        blank = kept.blank;
      }

  pub less_left : (new : Option (List ℕ)) (after : Layout) → Leaves w (job_text w left.indentation j) (piece_size w j.piece) now new left after
      → jobs_size w after.jobs.items < jobs_size w layout.jobs.items
  less_left new after v =
      let less = v.spreads.less in
      let grown : jobs_size w after.jobs.items ≡ jobs_size w left.jobs.items + jobs_size w v.spreads.added =
      ap (jobs_size w) v.spreads.adds.jobs ∙ jobs_size-append w left.jobs.items v.spreads.added in
      let before : jobs_size w layout.jobs.items ≡ jobs_size w left.jobs.items + (piece_size w j.piece + 0) =
      ap (jobs_size w) popped ∙ jobs_size-append w left.jobs.items (j ∷ []) in
      omega (arith, less, grown, before)

  pub writing_stopped : (new : Option (List ℕ)) → AppendsFront (job_text w left.indentation j) now new → AppendsFront whole old new
  writing_stopped new h = front_within old now new whole u.front (job_text w l j) (jobs_text w l left.jobs.items) parts u.written
      (subst (λ k. AppendsFront (job_text w k j) now new) indentation_left h)

-- of the text of the tree of a reference
pub if_front : (l : Indentation) (o : Option Tree) (old new : Option (List ℕ)) → AppendsFront (seen [] (laid l) o) old new
    → IfSome o (λ u. AppendsFront (laid l u) old new)
if_front l None old new h = tt
if_front l (Some u) old new h = h
