-- The text of the jobs that are left, for a text over several lines.
use Rattle.std.specs.Prelude.{◌≡◌, ℕ, ◌+◌, ◌<◌, ◌≤◌, List, [], ◌∷◌, ◌++◌, Option, IsSome, replicate}
use Rattle.std.specs.Prelude.{vec_len}
use Rattle.std.specs.List.{AllByRecursion}
use Rattle.std.specs.Option.{option_map_or}
use Rattle.std.specs.Fmt.{signed_decimal}
use Rattle.std.specs.Io.KnownBytes.{Appends}
use Rattle.rx_term.specs.Tree.{Tree, Trees, none, more, Int, Appl, Items, Hole, annotations}
use Rattle.rx_term.specs.Tree.{items_of}
use Rattle.rx_term.specs.Store.{Store, tree_at, signature_of}
use Rattle.rx_text.specs.Canon.{name_text, no_arguments}
use Rattle.rx_text.specs.Inner.Jobs.{seen, IsList}
use Rattle.rx_render.specs.Laid.{new_line, between, block, laid_at, laid_all, laid_others}
use Rattle.rx_render.specs.declared.layout.Atom.{Atom}
use Rattle.rx_render.specs.declared.layout.Atom.TheVariants as atom
use Rattle.rx_render.specs.declared.layout.Piece.{Piece}
use Rattle.rx_render.specs.declared.layout.Piece.TheVariants as piece
use Rattle.rx_render.specs.declared.layout.Job.{Job}
use Rattle.rx_render.specs.declared.layout.Indentation.{Indentation}
use Rattle.rx_render.specs.declared.layout.Layout.{Layout}

-- notes_laid l m anns: the annotations of a tree, whose lines start with `m` blanks
abbrev pub notes_laid : Indentation → ℕ → Trees → List ℕ
notes_laid l m anns = block l.indent m 123 anns (laid_all l (m + l.indent) anns) 125 []

-- body_laid l m t: a tree that does not fit, without its annotations
abbrev pub body_laid : Indentation → ℕ → Tree → List ℕ
body_laid l m (Int z anns) = signed_decimal z
body_laid l m (Appl name quoted args anns) = name_text name quoted
    ++ block l.indent m 40 args (laid_all l (m + l.indent) args) 41 (no_arguments name quoted)
body_laid l m (Items items anns) =
    block l.indent m 91 items (laid_all l (m + l.indent) items) 93 (91 ∷ 93 ∷ [])
body_laid l m (Hole inner anns) = between l.indent m 60 (laid_at l (m + l.indent) inner) 62

-- spread_laid l m t: a tree that does not fit
abbrev pub spread_laid : Indentation → ℕ → Tree → List ℕ
spread_laid l m t = body_laid l m t ++ notes_laid l m (annotations t)

-- arguments_laid l m t: the arguments of an application that does not fit
abbrev pub arguments_laid : Indentation → ℕ → Tree → List ℕ
arguments_laid l m (Appl name quoted args anns) =
    block l.indent m 40 args (laid_all l (m + l.indent) args) 41 (no_arguments name quoted)
arguments_laid l m t = []

-- atom_text w m a: the text of an atom
abbrev pub atom_text : Store → ℕ → Atom → List ℕ
atom_text w m (atom.Byte b) = b ∷ []
atom_text w m (atom.Integer z) = signed_decimal z
atom_text w m (atom.Name s) = option_map_or (λ g. name_text g.name g.quoted) (signature_of w s) []
atom_text w m atom.Break = new_line m

-- piece_text w l m p: the text of a piece, whose lines start with `m` blanks
abbrev pub piece_text : Store → Indentation → ℕ → Piece → List ℕ
piece_text w l m (piece.Atom a) = atom_text w m a
piece_text w l m (piece.Tree t) = seen [] (λ u. laid_at l m u) (tree_at w t)
piece_text w l m (piece.Notes t) = seen [] (λ u. notes_laid l m (annotations u)) (tree_at w t)
piece_text w l m (piece.Items t) = seen [] (λ u. laid_all l m (items_of u)) (tree_at w t)
piece_text w l m (piece.Others t) = seen [] (λ u. laid_others l m (items_of u)) (tree_at w t)

-- job_text w l j: the text of a job
abbrev pub job_text : Store → Indentation → Job → List ℕ
job_text w l j = piece_text w l j.margin j.piece

abbrev mutual
  -- size t, sizes ts: a measure that is greater than that of all parts together
  pub size : Tree → ℕ
  size (Int z anns) = 7 + sizes anns
  size (Appl name quoted args anns) = 12 + sizes args + sizes anns
  size (Items items anns) = 11 + sizes items + sizes anns
  size (Hole inner anns) = 11 + size inner + sizes anns

  pub sizes : Trees → ℕ
  sizes none = 1
  sizes (more t ts) = 3 + size t + sizes ts

-- body_size t: the measure of a tree without its annotations
abbrev pub body_size : Tree → ℕ
body_size (Int z anns) = 2
body_size (Appl name quoted args anns) = 7 + sizes args
body_size (Items items anns) = 6 + sizes items
body_size (Hole inner anns) = 6 + size inner

-- arguments_size t: the measure of the arguments of an application
abbrev pub arguments_size : Tree → ℕ
arguments_size (Appl name quoted args anns) = 5 + sizes args
arguments_size t = 1

-- piece_size w p: the measure of a piece
abbrev pub piece_size : Store → Piece → ℕ
piece_size w (piece.Atom a) = 1
piece_size w (piece.Tree t) = seen 1 size (tree_at w t)
piece_size w (piece.Notes t) = seen 1 (λ u. 5 + sizes (annotations u)) (tree_at w t)
piece_size w (piece.Items t) = seen 1 (λ u. sizes (items_of u)) (tree_at w t)
piece_size w (piece.Others t) = seen 1 (λ u. sizes (items_of u)) (tree_at w t)

-- IsAtom w a: the symbol of a name exists
abbrev pub IsAtom : Store → Atom → Type 0
IsAtom w (atom.Byte b) = Unit {0}
IsAtom w (atom.Integer z) = Unit {0}
IsAtom w (atom.Name s) = IsSome (signature_of w s)
IsAtom w atom.Break = Unit {0}

-- IsPiece w p: the store has the term or symbol of a piece
abbrev pub IsPiece : Store → Piece → Type 0
IsPiece w (piece.Atom a) = IsAtom w a
IsPiece w (piece.Tree t) = IsSome (tree_at w t)
IsPiece w (piece.Notes t) = IsSome (tree_at w t)
IsPiece w (piece.Items t) = IsList (tree_at w t)
IsPiece w (piece.Others t) = IsList (tree_at w t)

-- IsJob w room j: the piece of a job exists, and there are enough blanks for its lines
abbrev pub IsJob : Store → ℕ → Job → Type 0
IsJob w room j = IsPiece w j.piece × (j.margin ≤ room)

-- jobs_text w l js: the text of a stack of jobs; the last job is done first
abbrev pub jobs_text : Store → Indentation → List Job → List ℕ
jobs_text w l [] = []
jobs_text w l (j ∷ js) = jobs_text w l js ++ job_text w l j

-- jobs_size w js: the sum of the measures of some jobs
abbrev pub jobs_size : Store → List Job → ℕ
jobs_size w [] = 0
jobs_size w (j ∷ js) = piece_size w j.piece + jobs_size w js

-- room l: the number of blanks
abbrev pub room : Layout → ℕ
room l = vec_len l.blanks

-- IsBlank l: all bytes of `blanks` are blanks
abbrev pub IsBlank : Layout → Type 0
IsBlank l = l.blanks.items ≡ replicate (room l) 32

-- Keeps old new: the blanks of a level and the width are unchanged, and no line lost its blanks
pub record Keeps (old new : Layout) : Type 0 where
  pub indentation : new.indentation ≡ old.indentation
  pub room : room old ≤ room new
  pub blank : IsBlank new

-- Deepens margin old new inner: the jobs are unchanged, and there are enough blanks for the next
-- level
pub record Deepens (margin : ℕ) (old new : Layout) (inner : ℕ) : Type 0 where
  pub jobs : new.jobs.items ≡ old.jobs.items
  pub kept : Keeps old new
  pub deeper : inner ≡ margin + old.indentation.indent
  pub within : inner ≤ room new

-- Adds added old new: these jobs were pushed
pub record Adds (added : List Job) (old new : Layout) : Type 0 where
  pub jobs : new.jobs.items ≡ old.jobs.items ++ added
  pub kept : Keeps old new

-- job_at m p: the job of a piece whose lines start with `m` blanks
abbrev pub job_at : ℕ → Piece → Job
job_at m p = record { piece = p; margin = m }

-- enclosing n m left p right: the jobs of a piece on lines of its own between two marks, the last
-- job first
abbrev pub enclosing : ℕ → ℕ → ℕ → Piece → ℕ → List Job
enclosing n m left p right =
    job_at m (piece.Atom (atom.Byte right)) ∷ job_at m (piece.Atom atom.Break)
    ∷ job_at (m + n) p
    ∷ job_at (m + n) (piece.Atom atom.Break) ∷ job_at m (piece.Atom (atom.Byte left)) ∷ []

-- Spreads w whole space old new: jobs were pushed whose text is `whole`
pub record Spreads (w : Store) (whole : List ℕ) (space : ℕ) (old new : Layout) : Type 0 where
  pub added : List Job
  pub adds : Adds added old new
  pub text : whole ≡ jobs_text w old.indentation added
  pub jobs : AllByRecursion (IsJob w (room new)) added
  pub less : jobs_size w added < space

-- Leaves w whole space before after old new: a prefix of `whole` was written, and jobs were pushed
-- for the rest
pub record Leaves (w : Store) (whole : List ℕ) (space : ℕ) (before after : Option (List ℕ))
    (old new : Layout) : Type 0 where
  pub front : List ℕ
  pub rest : List ℕ
  pub written : Appends before after front
  pub text : whole ≡ front ++ rest
  pub spreads : Spreads w rest space old new
