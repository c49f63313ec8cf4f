use Rattle.std.proofs.Common.{refl}
use Rattle.rx_term.proofs.KeepLemmas.{Keeps-Reclaims}
use Rattle.rec_engine.proofs.KnownConstantLemmas.{known-same, known-trans}
use Rattle.rec_engine.proofs.StayLemmas.{ready-kept}
use Rattle.rec_engine.proofs.engine.prepared.Prepared.reclaim.Goals as goal

pub returns-clause-fits : goal.returns-clause-fits
returns-clause-fits g c =
    let same = known-same (g.B.TermBank.store c.args.bank.now) c.args.self.now.pace _ refl refl in
    record { ready = ready-kept c.requires.fits.ready (Keeps-Reclaims c.reclaim.ensures.reclaims) (known-trans same c.reclaim.ensures.known) }
