use Rattle.std.proofs.Common.{sym, ap, ◌∙◌, length}
use Rattle.rx_arena.proofs.HeadLemmas.{heads_length}
use Rattle.rx_arena.proofs.heads.Heads.len.Goals as goal

pub returns : goal.returns
returns c = sym (heads_length c.self.inside.mask c.self.inside.factor c.self.inside.count c.self.inside.table) ∙ ap length c.self.view_is
