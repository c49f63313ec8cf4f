-- The text that remains to be written.
use Rattle.std.specs.Prelude.{◌≡◌, ℕ, ◌+◌, ◌<◌, List, [], ◌∷◌, ◌++◌, Option, Some, None, IsSome}
use Rattle.std.specs.List.{AllByRecursion}
use Rattle.std.specs.Fmt.{signed_decimal}
use Rattle.std.specs.Io.KnownBytes.{Appends}
use Rattle.rx_term.specs.Tree.{Tree, Trees, none, more, Int, Appl, Items, Hole, annotations}
use Rattle.rx_term.specs.Tree.{items_of}
use Rattle.rx_term.specs.Store.{Store, tree_at}
use Rattle.rx_text.specs.Canon.{canon, canon_all, canon_others, enclosed, name_text, no_arguments}
use Rattle.rx_text.specs.Numbered.{Style, entry, written, written_all}
use Rattle.rx_text.specs.declared.writer.Printer.{Printer}
use Rattle.rx_text.specs.declared.writer.Job.{Job}
use Rattle.rx_text.specs.declared.writer.Job.TheVariants as job

-- Source: the terms of a store, and how they are printed
pub record Source : Type 0 where
  pub store : Store
  pub style : Style

-- source_of store style p: what a printer prints
abbrev pub source_of : {B N : Type 0} → (B → Store) → (N → Store → Style) → Printer B N → Source
source_of store style p = record { store = store p.bank.now; style = style p.numbers (store p.bank.now) }

-- notes_text anns: the annotations in braces, if there are some
abbrev pub notes_text : Trees → List ℕ
notes_text anns = enclosed 123 anns (canon_all anns) 125 []

-- seen x of found: `of` a tree, or `x` if there is none
abbrev pub seen : {X : Type 0} → X → (Tree → X) → Option Tree → X
seen x of None = x
seen x of (Some t) = of t

-- body_text t: the printed form of a tree without its annotations
abbrev pub body_text : Tree → List ℕ
body_text (Int z anns) = signed_decimal z
body_text (Appl name quoted args anns) = name_text name quoted
    ++ enclosed 40 args (canon_all args) 41 (no_arguments name quoted)
body_text (Items items anns) = 91 ∷ canon_all items ++ 93 ∷ []
body_text (Hole inner anns) = 60 ∷ canon inner ++ 62 ∷ []

-- entry_text s t: the printed form of an entry without its annotations
abbrev pub entry_text : Style → Tree → List ℕ
entry_text s t = body_text (entry s t)

-- job_text v j: the text of a job
abbrev pub job_text : Source → Job → List ℕ
job_text v (job.Byte b) = b ∷ []
job_text v (job.Tree t) = seen [] (λ u. canon (written v.style u)) (tree_at v.store t)
job_text v (job.Entry t) = seen [] (λ u. canon (entry v.style u)) (tree_at v.store t)
job_text v (job.Notes t) =
    seen [] (λ u. notes_text (written_all v.style (annotations u))) (tree_at v.store t)
job_text v (job.Items t) =
    seen [] (λ u. canon_all (written_all v.style (items_of u))) (tree_at v.store t)
job_text v (job.Others t) =
    seen [] (λ u. canon_others (written_all v.style (items_of u))) (tree_at v.store t)

abbrev mutual
  -- size t, sizes ts: a measure that is greater than that of all parts together
  pub size : Tree → ℕ
  size (Int z anns) = 3 + sizes anns
  size (Appl name quoted args anns) = 4 + sizes args + sizes anns
  size (Items items anns) = 4 + sizes items + sizes anns
  size (Hole inner anns) = 5 + size inner + sizes anns

  pub sizes : Trees → ℕ
  sizes none = 1
  sizes (more t ts) = 1 + size t + sizes ts

-- body_size t: the measure of a tree without its annotations
abbrev pub body_size : Tree → ℕ
body_size (Int z anns) = 1
body_size (Appl name quoted args anns) = 2 + sizes args
body_size (Items items anns) = 2 + sizes items
body_size (Hole inner anns) = 3 + size inner

-- job_size w j: the measure of a job
abbrev pub job_size : Store → Job → ℕ
job_size w (job.Byte b) = 1
job_size w (job.Tree t) = seen 1 size (tree_at w t)
job_size w (job.Entry t) = seen 1 size (tree_at w t)
job_size w (job.Notes t) = seen 1 (λ u. 2 + sizes (annotations u)) (tree_at w t)
job_size w (job.Items t) = seen 1 (λ u. sizes (items_of u)) (tree_at w t)
job_size w (job.Others t) = seen 1 (λ u. sizes (items_of u)) (tree_at w t)

-- IsList found: the tree is a list
abbrev pub IsList : Option Tree → Type 0
IsList (Some (Items items anns)) = Unit {0}
IsList o = ⊥

-- IsJob w j: the reference of a job has a tree that suits the job
abbrev pub IsJob : Store → Job → Type 0
IsJob w (job.Byte b) = Unit {0}
IsJob w (job.Tree t) = IsSome (tree_at w t)
IsJob w (job.Entry t) = IsSome (tree_at w t)
IsJob w (job.Notes t) = IsSome (tree_at w t)
IsJob w (job.Items t) = IsList (tree_at w t)
IsJob w (job.Others t) = IsList (tree_at w t)

-- jobs_text v js: the text of a stack of jobs; the last job is done first
abbrev pub jobs_text : Source → List Job → List ℕ
jobs_text v [] = []
jobs_text v (j ∷ js) = jobs_text v js ++ job_text v j

-- jobs_size w js: the sum of the measures of some jobs
abbrev pub jobs_size : Store → List Job → ℕ
jobs_size w [] = 0
jobs_size w (j ∷ js) = job_size w j + jobs_size w js

-- Adds v whole room before after: jobs were pushed whose text is `whole`
pub record Adds (v : Source) (whole : List ℕ) (room : ℕ) (before after : List Job) : Type 0 where
  pub added : List Job
  pub grown : after ≡ before ++ added
  pub text : whole ≡ jobs_text v added
  pub jobs : AllByRecursion (IsJob v.store) added
  pub less : jobs_size v.store added < room

-- Leaves v whole room old new before after: a prefix of `whole` was written, and jobs were pushed
-- for the rest
pub record Leaves (v : Source) (whole : List ℕ) (room : ℕ) (old new : Option (List ℕ))
    (before after : List Job) : Type 0 where
  pub front : List ℕ
  pub added : List Job
  pub grown : after ≡ before ++ added
  pub written : Appends old new front
  pub text : whole ≡ front ++ jobs_text v added
  pub jobs : AllByRecursion (IsJob v.store) added
  pub less : jobs_size v.store added < room
