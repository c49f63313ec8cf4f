use Rattle.std.proofs.Common.{◌≡◌, Some, ap, subst, sym, ◌∙◌}
use Rattle.rx_shared.specs.State.{store_of}
use Rattle.rec_serve.specs.Inner.Banks.{IsUnrooted}
use Rattle.rec_serve.proofs.ReasonLemmas.{emptied}
use Rattle.rec_serve.proofs.workspace.Workspace.take_bank.Goals as goal

pub returns-in-Some-clause-empty : goal.returns-in-Some-clause-empty
returns-in-Some-clause-empty c =
    let there : c.args.self.now.bank ≡ Some c.in-Some.bank = sym c.take.ensures.value ∙ c.in-Some.is in
    let same = sym c.deref_mut.ensures.value in
    emptied (store_of c.deref_mut.result.now) (store_of c.reclaim.new.self) c.args.self.now.session.settings.options.cells
    (subst (λ b. IsUnrooted (store_of b)) same (c.args.self.now.unrooted c.in-Some.bank there))
    (ap (λ b. (store_of b).cap) c.deref_mut.ensures.value ∙ c.args.self.now.limit c.in-Some.bank there) c.reclaim.ensures
