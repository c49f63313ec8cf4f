use Rattle.std.proofs.Common.{◌≡◌, ℕ, ◌≤◌, List, length}
use Rattle.std.specs.Io.KnownBytes.{Keeps}
use Rattle.rx_text.specs.Input.{IsSameInput, remaining_in}
use Rattle.rx_text.specs.Output.{IsSameOutput, contents_of}
use Rattle.rec_serve.specs.Inner.Reading.{Begins, IsRead, left_of}
use Rattle.rec_serve.proofs.requests.next_request.Given as goal

-- the bytes of the request so far stood in front of what is left, at least one for each piece
abbrev pub invariant-loop-piece : goal.invariant-loop-piece
invariant-loop-piece g l = record {
  line : List ℕ;
  is : IsRead l.request line;
  begins : Begins (left_of l.fn.ahead (remaining_in g.R.Read.remaining l.fn.reader)) (left_of l.ahead (remaining_in g.R.Read.remaining l.reader)) line;
  kept : Keeps (contents_of g.W.Write.contents l.fn.out) (contents_of g.W.Write.contents l.out);
  long : l._piece ≤ length line;
  read : l.reader.refused ≡ l.fn.reader.refused;
  wrote : l.out.refused ≡ l.fn.out.refused;
  same_input : IsSameInput l.fn.reader l.reader;
  same_output : IsSameOutput l.fn.out l.out;
}
