use Rattle.std.proofs.Common.{◌≡◌, ◌+◌, length, rules}
use Rattle.std.specs.Io.KnownBytes.{Consumes}
use Rattle.rx_text.proofs.AppendingLemmas.{on_err}
use Rattle.rx_run.proofs.ReadLemmas.{reads_all, reads_front, reads_out, consumes_both}
use Rattle.rx_run.specs.declared.streams.TheConstants.{LIMIT}
use Rattle.rx_run.proofs.streams.read_all_from.Goals as goal

pub returns-then-count-eq0-clause-text : goal.returns-then-count-eq0-clause-text
returns-then-count-eq0-clause-text g c =
    reads_all _ (g.R.Read.remaining c.read.new.self.reader.now) c.loop-buffer.text.items (LIMIT + 1) (search rules) (search rules) (search rules)

pub returns-then-count-eq0-clause-out : goal.returns-then-count-eq0-clause-out
returns-then-count-eq0-clause-out g c =
    let new = g.R.Read.remaining c.read.new.self.reader.now in
    let read : Consumes (g.R.Read.remaining c.args.input.now.reader.now) new c.loop-buffer.text.items = search rules in
    reads_out _ new c.loop-buffer.text.items (LIMIT + 1) read (reads_all _ new c.loop-buffer.text.items (LIMIT + 1) read (search rules) (search rules))

pub returns-in_err-extend_from_slice-clause-lost :
    goal.returns-in_err-extend_from_slice-clause-lost
returns-in_err-extend_from_slice-clause-lost g c =
    on_err c.from_residual-in_err-extend_from_slice.result (_, consumes_both _ _ _ _ _ c.loop-buffer.invariant.2 c.in_ok-count.ensures.bytes.0)

pub returns-clause-text : goal.returns-clause-text
returns-clause-text g c =
    let l : length c.loop-buffer.text.items ≡ LIMIT + 1 = search rules in
    reads_front _ _ _ _ c.loop-buffer.invariant.2 l

pub returns-clause-out : goal.returns-clause-out
returns-clause-out g c =
    let l : length c.loop-buffer.text.items ≡ LIMIT + 1 = search rules in
    reads_out _ _ c.loop-buffer.text.items (LIMIT + 1) c.loop-buffer.invariant.2 (reads_front _ _ _ _ c.loop-buffer.invariant.2 l)
