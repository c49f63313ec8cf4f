use Rattle.rec_serve.proofs.KeptLemmas.{part_skipped}
use Rattle.rec_serve.proofs.read_ahead.ReadAhead.skip.Goals as goal

pub returns : goal.returns
returns c = part_skipped c.args.self.now.buffer.items c.args.self.now.at c.args.self.now.end c.args.count
