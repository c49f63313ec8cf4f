use Rattle.rx_names.proofs.PlaceLemmas.{searched-itself}
use Rattle.rx_names.proofs.NameLemmas.{entry_eq-Decides}
use Rattle.std.proofs.Common.{None, Some}
use Rattle.rx_names.proofs.names.Names.find_entry.Goals as goal

pub returns-in-Some : goal.returns-in-Some
returns-in-Some c = searched-itself c.args.entry _ (entry_eq-Decides c.args.entry) c.args.self.now.entries.keys (Some c.in-Some.place)
    c.in-Some.ensures.index c.in-Some.ensures.found

pub returns-in-None : goal.returns-in-None
returns-in-None c = searched-itself c.args.entry _ (entry_eq-Decides c.args.entry) c.args.self.now.entries.keys None c.in-None.ensures.index
    c.in-None.ensures.found
