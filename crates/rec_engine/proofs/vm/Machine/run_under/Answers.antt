use Rattle.std.proofs.Common.{subst}
use Rattle.rec_engine.specs.Machine.{After}
use Rattle.rec_engine.proofs.vm.Machine.run_under.Goals as goal

pub run-requires : goal.run-requires
run-requires g c = record {
  sound = c.requires.sound;
  some = (
    c.requires.some.0,
    subst (After c.args.self.now.checked.spec c.args.self.now.code (g.B.TermBank.store c.args.self.now.heap.bank) c.args.self.now.state
        c.args.self.now.heap.work.items c.requires.some.0) c.in-Go.is c.requires.some.1,
  );
}

pub run-requires-in-Tell : goal.run-requires-in-Tell
run-requires-in-Tell g c = record {
  sound = c.requires.sound;
  some = (
    c.requires.some.0,
    subst (After c.args.self.now.checked.spec c.args.self.now.code (g.B.TermBank.store c.args.self.now.heap.bank) c.args.self.now.state
        c.args.self.now.heap.work.items c.requires.some.0) c.in-Tell.is c.requires.some.1,
  );
}
