use Rattle.example_client.proofs.RootLemmas.{roots_kept, roots_more, roots_protected}
use Rattle.example_client.proofs.staying.kept_value.Goals as goal

pub returns-in_err-t-clause-keeps : goal.returns-in_err-t-clause-keeps
returns-in_err-t-clause-keeps g c =
    roots_kept (g.B.TermBank.store c.args.engine.now.bank) (g.B.TermBank.store c.given_term.new.self.bank)
    (g.met.B.TermBank.sound c.args.engine.now.bank) c.in_err-t.ensures.keeps

pub returns-in_err-value-clause-keeps : goal.returns-in_err-value-clause-keeps
returns-in_err-value-clause-keeps g c =
    let a = g.B.TermBank.store c.args.engine.now.bank in
    let b = g.B.TermBank.store c.given_term.new.self.bank in
    let d = g.B.TermBank.store c.value_of.new.engine.bank in
    roots_more a b d (roots_kept a b (g.met.B.TermBank.sound c.args.engine.now.bank) c.in_ok-t.ensures.keeps)
    (roots_kept b d (g.met.B.TermBank.sound c.given_term.new.self.bank) c.value_of.ensures.keeps)

pub returns-in_default-clause-keeps : goal.returns-in_default-clause-keeps
returns-in_default-clause-keeps g c =
    let a = g.B.TermBank.store c.args.engine.now.bank in
    let b = g.B.TermBank.store c.given_term.new.self.bank in
    let d = g.B.TermBank.store c.value_of.new.engine.bank in
    roots_more a b d (roots_kept a b (g.met.B.TermBank.sound c.args.engine.now.bank) c.in_ok-t.ensures.keeps)
    (roots_kept b d (g.met.B.TermBank.sound c.given_term.new.self.bank) c.value_of.ensures.keeps)

pub returns-in_err-protect-clause-keeps : goal.returns-in_err-protect-clause-keeps
returns-in_err-protect-clause-keeps g c =
    let a = g.B.TermBank.store c.args.engine.now.bank in
    let b = g.B.TermBank.store c.given_term.new.self.bank in
    let d = g.B.TermBank.store c.value_of.new.engine.bank in
    let e = g.B.TermBank.store c.protect.new.self.bank in
    roots_more a d e
    (roots_more a b d (roots_kept a b (g.met.B.TermBank.sound c.args.engine.now.bank) c.in_ok-t.ensures.keeps)
    (roots_kept b d (g.met.B.TermBank.sound c.given_term.new.self.bank) c.value_of.ensures.keeps))
    (roots_protected d e c.in-Some.value c.protect.result c.protect.ensures.roots)

pub returns-clause-keeps : goal.returns-clause-keeps
returns-clause-keeps g c =
    let a = g.B.TermBank.store c.args.engine.now.bank in
    let b = g.B.TermBank.store c.given_term.new.self.bank in
    let d = g.B.TermBank.store c.value_of.new.engine.bank in
    let e = g.B.TermBank.store c.protect.new.self.bank in
    roots_more a d e
    (roots_more a b d (roots_kept a b (g.met.B.TermBank.sound c.args.engine.now.bank) c.in_ok-t.ensures.keeps)
    (roots_kept b d (g.met.B.TermBank.sound c.given_term.new.self.bank) c.value_of.ensures.keeps))
    (roots_protected d e c.in-Some.value c.protect.result c.protect.ensures.roots)
