use Rattle.rx_text.specs.Reader.{frames_of, under}
use Rattle.rx_text.proofs.ExpectingLemmas.{last_first}
use Rattle.rx_text.proofs.reader.Reader.is_after_whole.Goals as goal

pub returns-in-Some : goal.returns-in-Some
returns-in-Some c u made =
    let r = c.args.self.now in
    let bytes = r.bytes.now in
    let f = c.in-Some.frame.now in
    let last = rw c.deref.ensures.value at c.in-Some.ensures.item.3 in
    let turned = last_first r.frames.items f last.0 (last.1 f) in
    rw (turned.1) (c.is_after_item.ensures bytes u f.count made (frames_of bytes turned.0 (under f.opening f.count made)))
