-- What is left to do after a front of a tree's text was written.
use Rattle.std.proofs.Common.{◌≡◌, ℕ, ◌+◌, ◌<◌, Bool, true, false, unwrap_or, List, [], ◌∷◌, ◌++◌, Option, Some, None, IsSome, IfSome}
use Rattle.std.proofs.Common.{Result, Ok, Err, OnErr, OnOk, refl, subst, sym, ap, ◌∙◌, append_assoc, append-nil, arith}
use Rattle.std.specs.List.{AllByRecursion}
use Rattle.std.specs.Fmt.{decimal}
use Rattle.std.specs.Io.KnownBytes.{Appends}
use Rattle.std.specs.Option.{option_and_then}
use Rattle.rx_text.specs.Written.{AppendsFront}
use Rattle.rx_text.specs.declared.faults.WriteFault.{WriteFault}
use Rattle.rx_text.proofs.AppendingLemmas.{appends_both, appends_same, front_within}
use Rattle.rx_term.specs.Tree.{Tree, Trees, none, more, Int, Appl, Items, Hole, annotations, list_of}
use Rattle.rx_term.specs.Store.{Store, tree_at, part_at, head_of, tail_of, args_of, inner_of, anns_of, name_at, quoted_at, list_unless_empty}
use Rattle.rx_term.specs.Kinds.{HasKind, HasCons, HasAppl, HasHole}
use Rattle.rx_term.specs.Walks.{held_tree}
use Rattle.rx_term.specs.declared.Term.{Term}
use Rattle.rx_term.specs.declared.Symbol.{Symbol}
use Rattle.rx_term.specs.declared.Kind.{Kind}
use Rattle.rx_term.specs.declared.Kind.TheVariants as kind
use Rattle.rx_text.specs.Canon.{canon, canon_all, enclosed, name_text, no_arguments}
use Rattle.rx_text.specs.Numbered.{Style, content_in, entry, is_numbered, number_in, numbered, reference, written, written_all}
use Rattle.rx_text.specs.Numbered as style
use Rattle.rx_text.specs.Inner.Jobs.{Source, seen, notes_text, body_text, body_size, entry_text, size, sizes, job_text, job_size, IsList, IsJob, jobs_text, jobs_size, Adds, Leaves}
use Rattle.rx_text.specs.declared.writer.Job.{Job}
use Rattle.rx_text.specs.declared.writer.Job.TheVariants as job

-- ---- in general

-- nothing is left
pub leaves_none : (v : Source) (whole : List ℕ) (room : ℕ) (old new : Option (List ℕ)) (before : List Job) → 0 < room → Appends old new whole
    → Leaves v whole room old new before before
leaves_none v whole room old new before h a = record {
  front = whole;
  added = [];
  grown = sym (append-nil before);
  written = a;
  text =
      sym (append-nil whole);
  jobs = tt;
  less = h;
}

-- two jobs are left
pub leaves_two : (v : Source) (whole front : List ℕ) (room : ℕ) (old new : Option (List ℕ)) (before after : List Job) (j k : Job)
    → after ≡ before ++ j ∷ k ∷ [] → IsJob v.store j → IsJob v.store k → whole ≡ front ++ (job_text v k ++ job_text v j) → job_size v.store j + job_size v.store k < room
    → Appends old new front → Leaves v whole room old new before after
leaves_two v whole front room old new before after j k e p q text less a =
    record { front = front; added = j ∷ k ∷ []; grown = e; written = a; text = text; jobs = (p, (q, tt)); less = omega (arith, less) }

-- jobs that are added, with nothing written
pub adds_leaves : (r : Result (Unit {0}) WriteFault) (v : Source) (whole : List ℕ) (room : ℕ) (old new : Option (List ℕ)) (before after : List Job)
    → OnOk r (Adds v whole room before after) → Appends old new [] → OnOk r (Leaves v whole room old new before after)
adds_leaves (Err e) v whole room old new before after h a = tt
adds_leaves (Ok u) v whole room old new before after h a = record {
  front = [];
  added = h.added;
  grown = h.grown;
  written = a;
  text = h.text;
  jobs =
      h.jobs;
  less = h.less;
}

pub jobs_text-append : (v : Source) (js ks : List Job) → jobs_text v (js ++ ks) ≡ jobs_text v ks ++ jobs_text v js
jobs_text-append v [] ks = sym (append-nil (jobs_text v ks))
jobs_text-append v (j ∷ js) ks = ap (λ xs. xs ++ job_text v j) (jobs_text-append v js ks) ∙ append_assoc (jobs_text v ks) (jobs_text v js) (job_text v j)

pub jobs_size-append : (v : Source) (js ks : List Job) → jobs_size v.store (js ++ ks) ≡ jobs_size v.store js + jobs_size v.store ks
jobs_size-append v [] ks = omega arith
jobs_size-append v (j ∷ js) ks = omega (arith, jobs_size-append v js ks)

-- a job was left before
pub leaves_after : (v : Source) (whole inside : List ℕ) (room inner : ℕ) (old new : Option (List ℕ)) (before between after : List Job) (j : Job)
    → between ≡ before ++ j ∷ [] → IsJob v.store j → whole ≡ inside ++ job_text v j → inner + job_size v.store j ≡ room
    → Leaves v inside inner old new between after → Leaves v whole room old new before after
leaves_after v whole inside room inner old new before between after j e p text left h =
    let less = h.less in
    record {
      front = h.front;
      added = j ∷ h.added;
      grown = h.grown ∙ ap (λ js. js ++ h.added) e ∙ append_assoc before (j ∷ []) h.added;
      written = h.written;
      text = text ∙ ap (λ xs. xs ++ job_text v j) h.text ∙ append_assoc h.front (jobs_text v h.added) (job_text v j);
      jobs = (p, h.jobs);
      less = omega (arith, less, left);
    }

-- ---- lists

is_list : (v : Source) (t : Term) (xs anns : Trees) → tree_at v.store t ≡ Some (Items xs anns) → IsList (tree_at v.store t)
is_list v t xs anns e = rw e tt

head_is : (v : Source) (t head : Term) (h : HasCons v.store t) → tree_at v.store head ≡ part_at head_of v.store t → tree_at v.store head ≡ Some h.first
head_is v t head h e = let here = h.here in rw here at e

tail_is : (v : Source) (t tail : Term) (h : HasCons v.store t) → tree_at v.store tail ≡ part_at tail_of v.store t → tree_at v.store tail ≡ Some (list_of h.rest)
tail_is v t tail h e = let here = h.here in rw here at e

module _ (v : Source) (t head tail : Term) (h : HasCons v.store t) (at_head : tree_at v.store head ≡ part_at head_of v.store t)
    (at_tail : tree_at v.store tail ≡ part_at tail_of v.store t) where
  first_is : tree_at v.store head ≡ Some h.first
  first_is = head_is v t head h at_head

  rest_is : tree_at v.store tail ≡ Some (list_of h.rest)
  rest_is = tail_is v t tail h at_tail

  pub others_text : job_text v (job.Others t) ≡ (44 ∷ []) ++ (job_text v (job.Tree head) ++ job_text v (job.Others tail))
  others_text = let here = h.here in let f = first_is in let r = rest_is in rw (here, f, r) refl

-- a list with no first item
no_items : (v : Source) (t : Term) (k : Kind) → HasKind v.store t k → IsList (tree_at v.store t) → (k ≡ kind.Cons → ⊥)
    → (anns : Trees) × (tree_at v.store t ≡ Some (Items none anns))
no_items v t (kind.Int z) h l n = absurd (rw h.here at l)
no_items v t kind.Nil h l n = (h.anns, h.here)
no_items v t kind.Cons h l n = absurd (n refl)
no_items v t (kind.Appl s) h l n = absurd (rw h.here at l)
no_items v t kind.Hole h l n = absurd (rw h.here at l)

no_items_text : (v : Source) (t : Term) (k : Kind) → HasKind v.store t k → IsList (tree_at v.store t) → (k ≡ kind.Cons → ⊥)
    → (job_text v (job.Others t) ≡ []) × (job_size v.store (job.Others t) ≡ 1)
no_items_text v t k h l n = let e = no_items v t k h l n in let here = e.1 in (rw here refl, rw here refl)

pub nothing_left : (v : Source) (t : Term) (k : Kind) (old : Option (List ℕ)) (before : List Job) → HasKind v.store t k → IsList (tree_at v.store t)
    → (k ≡ kind.Cons → ⊥) → Leaves v (job_text v (job.Others t)) (job_size v.store (job.Others t)) old old before before
nothing_left v t k old before h l n =
    let e = no_items_text v t k h l n in
    let room : 0 < job_size v.store (job.Others t) = rw (e.1) (omega arith) in
    leaves_none v (job_text v (job.Others t)) (job_size v.store (job.Others t)) old old before room (rw (e.0) (appends_same old))

-- ---- applications

module _ (v : Source) (t : Term) (s : Symbol) (h : HasAppl v.store t s) (name : List ℕ) (quoted : Bool) (named : name_at v.store s ≡ Some name)
    (flag : quoted_at v.store s ≡ Some quoted) where
  name_is : h.name ≡ name
  name_is = let sig = h.symbol in let e = rw sig at named in cc e

  flag_is : h.quoted ≡ quoted
  flag_is = let sig = h.symbol in let e = rw sig at flag in cc e

  pub application_front : seen [] (entry_text v.style) (tree_at v.store t)
      ≡ name_text name quoted ++ enclosed 40 (written_all v.style h.args) (canon_all (written_all v.style h.args)) 41 (no_arguments name quoted)
  application_front = let here = h.here in let n = name_is in let q = flag_is in rw (here, n, q) refl

  -- with arguments
  module _ (args : Term) (some : HasCons v.store args) (at_args : tree_at v.store args ≡ part_at args_of v.store t) where
    args_are : h.args ≡ more some.first some.rest
    args_are =
        let here = h.here in
        let there = some.here in
        let e = rw (there, here) at at_args in
        cc e

    pub application_text : seen [] (entry_text v.style) (tree_at v.store t) ≡ (name_text name quoted ++ 40 ∷ []) ++ (job_text v (job.Items args) ++ job_text v (job.Byte 41))
    application_text =
        let there = some.here in
        let a = args_are in
        let rest : List ℕ = job_text v (job.Items args) ++ job_text v (job.Byte 41) in
        let cut : seen [] (entry_text v.style) (tree_at v.store t) ≡ name_text name quoted ++ ((40 ∷ []) ++ rest) = application_front ∙ rw (a, there) refl in
        cut ∙ sym (append_assoc (name_text name quoted) (40 ∷ []) rest)

    pub application_less : job_size v.store (job.Byte 41) + job_size v.store (job.Items args) < seen 1 body_size (tree_at v.store t)
    application_less = let here = h.here in let there = some.here in let a = args_are in rw (here, there, a) (omega arith)

    pub arguments_job : IsJob v.store (job.Items args)
    arguments_job = is_list v args (more some.first some.rest) some.anns some.here

    pub application_leaves : (old new : Option (List ℕ)) (before after : List Job) → after ≡ before ++ job.Byte 41 ∷ job.Items args ∷ []
        → Appends old new (name_text name quoted ++ 40 ∷ [])
        → Leaves v (seen [] (entry_text v.style) (tree_at v.store t)) (seen 1 body_size (tree_at v.store t)) old new before after
    application_leaves old new before after grown a =
        leaves_two v (seen [] (entry_text v.style) (tree_at v.store t)) (name_text name quoted ++ 40 ∷ []) (seen 1 body_size (tree_at v.store t)) old new before after
        (job.Byte 41) (job.Items args) grown tt arguments_job application_text application_less a

-- ---- bodies and annotations

pub list_front : (v : Source) (t : Term) (h : HasCons v.store t)
    → seen [] (entry_text v.style) (tree_at v.store t) ≡ (91 ∷ []) ++ (canon_all (written_all v.style (more h.first h.rest)) ++ 93 ∷ [])
list_front v t h = let here = h.here in rw here refl

hole_text : (s : Style) (inner : Tree) (anns : Trees) → is_numbered s ≡ false
    → entry_text s (Hole inner anns) ≡ (60 ∷ []) ++ (canon (written s inner) ++ 62 ∷ [])
hole_text style.Plain inner anns e = refl
hole_text (style.Numbered number) inner anns e = absurd (cc e)

pub hole_front : (v : Source) (t : Term) (h : HasHole v.store t) → is_numbered v.style ≡ false
    → seen [] (entry_text v.style) (tree_at v.store t) ≡ (60 ∷ []) ++ (canon (written v.style h.inside) ++ 62 ∷ [])
hole_front v t h e = let here = h.here in rw here (hole_text v.style h.inside h.anns e)

listed_text : (s : Style) (inner : Tree) (anns : Trees) → is_numbered s ≡ true
    → entry_text s (Hole inner anns) ≡ (60 ∷ 91 ∷ []) ++ ((canon (written s inner) ++ 93 ∷ []) ++ 62 ∷ [])
listed_text style.Plain inner anns e = absurd (cc e)
listed_text (style.Numbered number) inner anns e =
    ap (λ xs. 60 ∷ 91 ∷ ((xs ++ 93 ∷ []) ++ 62 ∷ [])) (append-nil (canon (written (style.Numbered number) inner)))

pub listed_front : (v : Source) (t : Term) (h : HasHole v.store t) → is_numbered v.style ≡ true
    → seen [] (entry_text v.style) (tree_at v.store t) ≡ (60 ∷ 91 ∷ []) ++ ((canon (written v.style h.inside) ++ 93 ∷ []) ++ 62 ∷ [])
listed_front v t h e = let here = h.here in rw here (listed_text v.style h.inside h.anns e)

module _ (v : Source) (t inner : Term) (h : HasHole v.store t) (at_inner : tree_at v.store inner ≡ part_at inner_of v.store t) where
  inner_is : tree_at v.store inner ≡ Some h.inside
  inner_is = let here = h.here in rw here at at_inner

  -- the inner tree is put in a list
  pub listed_leaves : (old new : Option (List ℕ)) (before between after : List Job) → is_numbered v.style ≡ true
      → between ≡ before ++ job.Byte 62 ∷ [] → after ≡ between ++ job.Byte 93 ∷ job.Tree inner ∷ [] → Appends old new (60 ∷ 91 ∷ [])
      → Leaves v (seen [] (entry_text v.style) (tree_at v.store t)) (seen 1 body_size (tree_at v.store t)) old new before after
  listed_leaves old new before between after some grown more_grown a =
      let here = h.here in
      let i = inner_is in
      let rest : List ℕ = canon (written v.style h.inside) ++ 93 ∷ [] in
      let tree : job_text v (job.Tree inner) ≡ canon (written v.style h.inside) = rw i refl in
      let room : seen 1 body_size (tree_at v.store t) ≡ 3 + size h.inside = rw here refl in
      let inner_room : job_size v.store (job.Tree inner) ≡ size h.inside = rw i refl in
      let inside : Leaves v ((60 ∷ 91 ∷ []) ++ rest) (2 + size h.inside) old new between after =
      leaves_two v ((60 ∷ 91 ∷ []) ++ rest) (60 ∷ 91 ∷ []) (2 + size h.inside) old new between after (job.Byte 93) (job.Tree inner) more_grown tt
      (rw i refl) (ap (λ xs. (60 ∷ 91 ∷ []) ++ (xs ++ 93 ∷ [])) (sym tree)) (omega (arith, inner_room)) a in
      leaves_after v (seen [] (entry_text v.style) (tree_at v.store t)) ((60 ∷ 91 ∷ []) ++ rest) (seen 1 body_size (tree_at v.store t))
      (2 + size h.inside) old new before between after (job.Byte 62) grown tt (listed_front v t h some) (omega (arith, room)) inside

notes_none : (s : Style) (u : Tree) → anns_of u ≡ None → notes_text (written_all s (annotations u)) ≡ []
notes_none s (Int z none) e = refl
notes_none s (Int z (more v vs)) e = absurd (cc e)
notes_none s (Appl name quoted args none) e = refl
notes_none s (Appl name quoted args (more v vs)) e = absurd (cc e)
notes_none s (Items items none) e = refl
notes_none s (Items items (more v vs)) e = absurd (cc e)
notes_none s (Hole inner none) e = refl
notes_none s (Hole inner (more v vs)) e = absurd (cc e)

no_notes_in : (s : Style) (o : Option Tree) → option_and_then anns_of o ≡ None
    → (seen [] (λ u. notes_text (written_all s (annotations u))) o ≡ []) × (0 < seen 1 (λ u. 2 + sizes (annotations u)) o)
no_notes_in s None e = (refl, omega arith)
no_notes_in s (Some u) e = (notes_none s u e, omega arith)

-- no annotations
pub no_notes : (v : Source) (t : Term) (old : Option (List ℕ)) (before : List Job) → part_at anns_of v.store t ≡ None
    → Leaves v (job_text v (job.Notes t)) (job_size v.store (job.Notes t)) old old before before
no_notes v t old before e =
    let n = no_notes_in v.style (tree_at v.store t) e in
    leaves_none v (job_text v (job.Notes t)) (job_size v.store (job.Notes t)) old old before n.1 (rw (n.0) (appends_same old))

notes_some : (s : Style) (anns : Trees) → IsSome (list_unless_empty anns)
    → notes_text (written_all s anns) ≡ (123 ∷ []) ++ (canon_all (written_all s anns) ++ 125 ∷ [])
notes_some s none e = absurd (cc e)
notes_some s (more u us) e = refl

some_notes_in : (s : Style) (o : Option Tree) → IsSome (option_and_then anns_of o)
    → (rest : List ℕ) × (seen [] (λ u. notes_text (written_all s (annotations u))) o ≡ (123 ∷ []) ++ rest)
some_notes_in s None e = absurd (cc e)
some_notes_in s (Some u) e = (canon_all (written_all s (annotations u)) ++ 125 ∷ [], notes_some s (annotations u) e)

pub notes_front : (v : Source) (t : Term) → IsSome (part_at anns_of v.store t) → (rest : List ℕ) × (job_text v (job.Notes t) ≡ (123 ∷ []) ++ rest)
notes_front v t e = some_notes_in v.style (tree_at v.store t) e

canon_parts : (u : Tree) → canon u ≡ body_text u ++ notes_text (annotations u)
canon_parts (Int z anns) = refl
canon_parts (Appl name quoted args anns) = refl
canon_parts (Items items anns) = sym (append_assoc (91 ∷ canon_all items) (93 ∷ []) (notes_text anns))
canon_parts (Hole inner anns) = sym (append_assoc (60 ∷ canon inner) (62 ∷ []) (notes_text anns))

entry_parts : (s : Style) (u : Tree) → canon (entry s u) ≡ entry_text s u ++ notes_text (written_all s (annotations u))
entry_parts s (Int z anns) = canon_parts (entry s (Int z anns))
entry_parts s (Appl name quoted args anns) = canon_parts (entry s (Appl name quoted args anns))
entry_parts s (Items items anns) = canon_parts (entry s (Items items anns))
entry_parts s (Hole inner anns) = canon_parts (entry s (Hole inner anns))

size_parts : (u : Tree) → body_size u + (2 + sizes (annotations u)) ≡ size u
size_parts (Int z anns) = omega arith
size_parts (Appl name quoted args anns) = omega arith
size_parts (Items items anns) = omega arith
size_parts (Hole inner anns) = omega arith

parts_in : (s : Style) (o : Option Tree) → IsSome o
    → (seen [] (λ u. canon (entry s u)) o ≡ seen [] (entry_text s) o ++ seen [] (λ u. notes_text (written_all s (annotations u))) o)
    × (seen 1 body_size o + seen 1 (λ u. 2 + sizes (annotations u)) o ≡ seen 1 size o)
parts_in s None e = absurd (cc e)
parts_in s (Some u) e = (entry_parts s u, size_parts u)

-- a tree is its body and its annotations
pub tree_text : (v : Source) (t : Term) → IsSome (tree_at v.store t) → job_text v (job.Entry t) ≡ seen [] (entry_text v.style) (tree_at v.store t) ++ job_text v (job.Notes t)
tree_text v t h = (parts_in v.style (tree_at v.store t) h).0

pub tree_leaves : (r : Result (Unit {0}) WriteFault) (v : Source) (t : Term) (old new : Option (List ℕ)) (before between after : List Job)
    → between ≡ before ++ job.Notes t ∷ [] → IsSome (tree_at v.store t)
    → OnOk r (Leaves v (seen [] (entry_text v.style) (tree_at v.store t)) (seen 1 body_size (tree_at v.store t)) old new between after)
    → OnOk r (Leaves v (job_text v (job.Entry t)) (job_size v.store (job.Entry t)) old new before after)
tree_leaves (Err e) v t old new before between after grown h l = tt
tree_leaves (Ok u) v t old new before between after grown h l =
    let p = parts_in v.style (tree_at v.store t) h in
    leaves_after v (job_text v (job.Entry t)) (seen [] (entry_text v.style) (tree_at v.store t)) (job_size v.store (job.Entry t)) (seen 1 body_size (tree_at v.store t)) old new
    before between after (job.Notes t) grown h p.0 p.1 l

-- ---- numbers

pub reference_text : (n : ℕ) → canon (reference n) ≡ (60 ∷ []) ++ (decimal n ++ 62 ∷ [])
reference_text n = ap (λ xs. 60 ∷ (xs ++ 62 ∷ [])) (append-nil (decimal n))

-- a tree without a number
pub unnumbered : (v : Source) (t : Term) → IsSome (tree_at v.store t) → number_in v.style (held_tree v.store t) ≡ None
    → job_text v (job.Tree t) ≡ job_text v (job.Entry t)
unnumbered v t h n = by (tree_at v.store t) h n
  where
    by : (o : Option Tree) → IsSome o → number_in v.style (unwrap_or o (list_of none)) ≡ None
        → seen [] (λ u. canon (written v.style u)) o ≡ seen [] (λ u. canon (entry v.style u)) o
    by None e k = absurd (cc e)
    by (Some u) e k = rw k refl

-- a tree with a number
pub number_text : (v : Source) (t : Term) (n : ℕ) → IsSome (tree_at v.store t) → number_in v.style (held_tree v.store t) ≡ Some n
    → (job_text v (job.Tree t) ≡ canon (reference n)) × (0 < job_size v.store (job.Tree t))
number_text v t n h e = by (tree_at v.store t) h e
  where
    some_size : (u : Tree) → 0 < size u
    some_size (Int z anns) = omega arith
    some_size (Appl name quoted args anns) = omega arith
    some_size (Items items anns) = omega arith
    some_size (Hole inner anns) = omega arith

    by : (o : Option Tree) → IsSome o → number_in v.style (unwrap_or o (list_of none)) ≡ Some n
        → (seen [] (λ u. canon (written v.style u)) o ≡ canon (reference n)) × (0 < seen 1 size o)
    by None e k = absurd (cc e)
    by (Some u) e k = (rw k refl, some_size u)

-- ---- all jobs

All-append : {X : Type 0} (P : X → Type 0) (xs ys : List X) → AllByRecursion P xs → AllByRecursion P ys → AllByRecursion P (xs ++ ys)
All-append P [] ys h k = k
All-append P (x ∷ xs) ys h k = (h.0, All-append P xs ys h.1 k)

All-split : {X : Type 0} (P : X → Type 0) (xs : List X) (x : X) → AllByRecursion P (xs ++ x ∷ []) → AllByRecursion P xs × P x
All-split P [] x h = (tt, h.0)
All-split P (y ∷ ys) x h = let k = All-split P ys x h.1 in ((h.0, k.0), k.1)

-- what was written, and the jobs that are left, are the whole text
pub record Writing (v : Source) (whole : List ℕ) (old now : Option (List ℕ)) (left : List Job) : Type 0 where
  pub front : List ℕ
  pub written : Appends old now front
  pub text : whole ≡ front ++ jobs_text v left
  pub jobs : AllByRecursion (IsJob v.store) left

module _ (v : Source) (whole : List ℕ) (old now : Option (List ℕ)) (jobs left : List Job) (j : Job) (u : Writing v whole old now jobs)
    (popped : jobs ≡ left ++ j ∷ []) where
  parts : whole ≡ u.front ++ (job_text v j ++ jobs_text v left)
  parts = u.text ∙ ap (λ xs. u.front ++ xs) (ap (jobs_text v) popped ∙ jobs_text-append v left (j ∷ []))

  jobs_are : AllByRecursion (IsJob v.store) left × IsJob v.store j
  jobs_are = let all = u.jobs in All-split (IsJob v.store) left j (rw popped at all)

  pub popped_job : IsJob v.store j
  popped_job = jobs_are.1

  pub writing_on : (new : Option (List ℕ)) (after : List Job) → Leaves v (job_text v j) (job_size v.store j) now new left after → Writing v whole old new after
  writing_on new after l =
      let rest : List ℕ = jobs_text v left in
      let grown : jobs_text v after ≡ jobs_text v l.added ++ rest = ap (jobs_text v) l.grown ∙ jobs_text-append v left l.added in
      record {
        front = u.front ++ l.front;
        written = appends_both old now new u.front l.front u.written l.written;
        text = parts ∙ ap (λ xs. u.front ++ (xs ++ rest)) l.text ∙ ap (λ xs. u.front ++ xs) (append_assoc l.front (jobs_text v l.added) rest)
            ∙ sym (append_assoc u.front l.front (jobs_text v l.added ++ rest)) ∙ ap (λ xs. (u.front ++ l.front) ++ xs) (sym grown);
        jobs = let e = l.grown in rw e (All-append (IsJob v.store) left l.added jobs_are.0 l.jobs);
      }

  pub less_left : (new : Option (List ℕ)) (after : List Job) → Leaves v (job_text v j) (job_size v.store j) now new left after → jobs_size v.store after < jobs_size v.store jobs
  less_left new after l =
      let less = l.less in
      let grown : jobs_size v.store after ≡ jobs_size v.store left + jobs_size v.store l.added = ap (jobs_size v.store) l.grown ∙ jobs_size-append v left l.added in
      let before : jobs_size v.store jobs ≡ jobs_size v.store left + (job_size v.store j + 0) = ap (jobs_size v.store) popped ∙ jobs_size-append v left (j ∷ []) in
      omega (arith, less, grown, before)

  pub writing_stopped : (new : Option (List ℕ)) → AppendsFront (job_text v j) now new → AppendsFront whole old new
  writing_stopped new h = front_within old now new whole u.front (job_text v j) (jobs_text v left) parts u.written h

-- what is printed of a tree that is there
pub of_held : (w : Store) (t : Term) (of : Tree → List ℕ) → IsSome (tree_at w t) → seen [] of (tree_at w t) ≡ of (held_tree w t)
of_held w t of h = by (tree_at w t) h
  where
    by : (o : Option Tree) → IsSome o → seen [] of o ≡ of (unwrap_or o (list_of none))
    by None e = absurd (cc e)
    by (Some u) e = refl

-- without numbers, trees are printed as they are
mutual
  pub plain_entry : (t : Tree) → entry style.Plain t ≡ t
  plain_entry (Int z anns) = ap (Int z) (plain_all anns)
  plain_entry (Appl name quoted args anns) = let a = plain_all args in let b = plain_all anns in rw (a, b) refl
  plain_entry (Items items anns) = let a = plain_all items in let b = plain_all anns in rw (a, b) refl
  plain_entry (Hole inner anns) = let a = plain_entry inner in let b = plain_all anns in rw (a, b) refl

  plain_all : (ts : Trees) → written_all style.Plain ts ≡ ts
  plain_all none = refl
  plain_all (more t ts) = let a = plain_entry t in let b = plain_all ts in rw (a, b) refl

module _ {E : Type 0} (r : Result (Unit {0}) E) (w : Store) (t : Term) (P : List ℕ → Type 0) where
  plain : P (canon (written style.Plain (held_tree w t))) → IfSome (tree_at w t) (λ u. P (canon u))
  plain = by (tree_at w t)
    where
      by : (o : Option Tree) → P (canon (written style.Plain (unwrap_or o (list_of none)))) → IfSome o (λ u. P (canon u))
      by None h = tt
      by (Some u) h = subst (λ v. P (canon v)) (plain_entry u) h

  pub plain_ok : OnOk r (P (canon (written style.Plain (held_tree w t)))) → OnOk r (IfSome (tree_at w t) (λ u. P (canon u)))
  plain_ok h = by r h
    where
      by : (s : Result (Unit {0}) E) → OnOk s (P (canon (written style.Plain (held_tree w t))))
          → OnOk s (IfSome (tree_at w t) (λ u. P (canon u)))
      by (Ok x) h = plain h
      by (Err e) h = tt

  pub plain_err : OnErr r (P (canon (written style.Plain (held_tree w t)))) → OnErr r (IfSome (tree_at w t) (λ u. P (canon u)))
  plain_err h = by r h
    where
      by : (s : Result (Unit {0}) E) → OnErr s (P (canon (written style.Plain (held_tree w t))))
          → OnErr s (IfSome (tree_at w t) (λ u. P (canon u)))
      by (Ok x) h = tt
      by (Err e) h = plain h
