-- The parser as a stack machine that reads tokens one by one.
use Rattle.std.specs.Prelude.{ℕ, Bool, false, List, [], ◌∷◌, Option, Some, None}
use Rattle.rx_term.specs.Tree.{Tree, Trees, none, more, Int, Appl, Items, Hole, annotated}
use Rattle.rx_text.specs.Token.{Token, Integer, Name, Open, Close, OpenBracket, CloseBracket}
use Rattle.rx_text.specs.Token.{OpenBrace, CloseBrace, Less, Greater, Comma, End}

-- Frame: an open group with its items so far, the last one first
pub data Frame : Type 0 where
  InArguments : List ℕ → Bool → Trees → Frame
  InList : Trees → Frame
  InHole : Frame
  InAnnotations : Tree → Trees → Frame

-- Due: the state by the tokens so far: a term is next; a term or the end of a new group is next; a
-- name was read; a body was read; a term with its annotations was read; the end was read
pub data Due : Type 0 where
  AtTerm : Due
  First : Frame → Due
  Named : List ℕ → Bool → Due
  Body : Tree → Due
  Whole : Tree → Due
  Done : Tree → Due

-- State: the state with the stack of open groups
abbrev pub State : Type 0
State = Due × List Frame

-- onto rs ts: the items so far, in their order, followed by those to come
abbrev pub onto : Trees → Trees → Trees
onto none ts = ts
onto (more t rs) ts = onto rs (more t ts)

-- start fs tok: reads the first token of a term
abbrev pub start : List Frame → Token → Option State
start fs (Integer z) = Some (Body (Int z none), fs)
start fs (Name n q) = Some (Named n q, fs)
start fs Open = Some (First (InArguments [] false none), fs)
start fs OpenBracket = Some (First (InList none), fs)
start fs Less = Some (AtTerm, InHole ∷ fs)
start fs _ = None

-- close f fs tok: closes a group at its mark
abbrev pub close : Frame → List Frame → Token → Option State
close (InArguments n q items) fs Close = Some (Body (Appl n q (onto items none) none), fs)
close (InList items) fs CloseBracket = Some (Body (Items (onto items none) none), fs)
close (InHole) fs _ = None
close (InAnnotations t items) fs CloseBrace = Some (Whole (annotated t (onto items none)), fs)
close _ fs _ = None

-- first f fs tok: reads the first token after the mark that opened a group
abbrev pub first : Frame → List Frame → Token → Option State
first f fs Close = close f fs Close
first f fs CloseBracket = close f fs CloseBracket
first f fs CloseBrace = close f fs CloseBrace
first f fs tok = start (f ∷ fs) tok

-- end_item u fs tok: adds the last item of the open group and closes it
abbrev pub end_item : Tree → List Frame → Token → Option State
end_item u (InArguments n q items ∷ fs) tok = close (InArguments n q (more u items)) fs tok
end_item u (InList items ∷ fs) tok = close (InList (more u items)) fs tok
end_item u (InAnnotations t items ∷ fs) tok = close (InAnnotations t (more u items)) fs tok
end_item u _ tok = None

-- next_item u fs: adds an item of the open group, after a comma
abbrev pub next_item : Tree → List Frame → Option State
next_item u (InArguments n q items ∷ fs) = Some (AtTerm, InArguments n q (more u items) ∷ fs)
next_item u (InList items ∷ fs) = Some (AtTerm, InList (more u items) ∷ fs)
next_item u (InAnnotations t items ∷ fs) = Some (AtTerm, InAnnotations t (more u items) ∷ fs)
next_item u _ = None

-- end_hole u fs: ends a placeholder
abbrev pub end_hole : Tree → List Frame → Option State
end_hole u (InHole ∷ fs) = Some (Body (Hole u none), fs)
end_hole u _ = None

-- end_text u fs: ends the text, if no group is open
abbrev pub end_text : Tree → List Frame → Option State
end_text u [] = Some (Done u, [])
end_text u (f ∷ fs) = None

-- whole u fs tok: reads a token after a term with its annotations
abbrev pub whole : Tree → List Frame → Token → Option State
whole u fs Comma = next_item u fs
whole u fs Close = end_item u fs Close
whole u fs CloseBracket = end_item u fs CloseBracket
whole u fs CloseBrace = end_item u fs CloseBrace
whole u fs Greater = end_hole u fs
whole u fs End = end_text u fs
whole u fs _ = None

-- body u fs tok: reads a token after a term that may have annotations
abbrev pub body : Tree → List Frame → Token → Option State
body u fs OpenBrace = Some (First (InAnnotations u none), fs)
body u fs tok = whole (annotated u none) fs tok

-- after_name n q fs tok: reads a token after a name
abbrev pub after_name : List ℕ → Bool → List Frame → Token → Option State
after_name n q fs Open = Some (First (InArguments n q none), fs)
after_name n q fs tok = body (Appl n q none none) fs tok

-- step m fs tok: reads one token; `None` is a syntax error
abbrev pub step : Due → List Frame → Token → Option State
step AtTerm fs tok = start fs tok
step (First f) fs tok = first f fs tok
step (Named n q) fs tok = after_name n q fs tok
step (Body u) fs tok = body u fs tok
step (Whole u) fs tok = whole u fs tok
step (Done u) fs tok = None

-- next_state x go s: `go` of the next state, or `x` if there is none
abbrev pub next_state : {X : Type 0} → X → (Due → List Frame → X) → Option State → X
next_state x go None = x
next_state x go (Some s) = go s.0 s.1

-- run ts m fs: the state after these tokens, if all are read
abbrev pub run : List Token → Due → List Frame → Option State
run [] m fs = Some (m, fs)
run (tok ∷ ts) m fs = next_state None (λ n gs. run ts n gs) (step m fs tok)

-- tree_of s: the tree that was read
abbrev pub tree_of : Option State → Option Tree
tree_of (Some (Done t, fs)) = Some t
tree_of _ = None

-- read ts: the tree that the tokens spell
abbrev pub read : List Token → Option Tree
read ts = tree_of (run ts AtTerm [])

-- fault_at ts m fs: the offset of the first token that is not read
abbrev pub fault_at : List (ℕ × Token) → Due → List Frame → Option ℕ
fault_at [] m fs = None
fault_at (t ∷ ts) m fs = next_state (Some t.0) (λ n gs. fault_at ts n gs) (step m fs t.1)
