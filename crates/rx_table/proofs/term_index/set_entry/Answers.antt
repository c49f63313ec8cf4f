use Rattle.std.proofs.Common.{◌/◌, ◌∙◌, ap}
use Rattle.rx_table.specs.Inner.Pages.{entry_in}
use Rattle.rx_table.proofs.TermIndexLemmas.{entries-kept, entry-set, on_ok, page-read}
use Rattle.rx_table.proofs.term_index.set_entry.Goals as goal

pub returns-clause-others : goal.returns-clause-others
returns-clause-others c = λ u apart.
    let pages = c.reach.new.pages.items in
    let t = c.args.t in
    let lt = c.in_ok-reach.ensures.reached in
    let read = page-read pages (t / 1024) c.index_mut.result.now lt c.index_mut.ensures.value in
    entries-kept pages t c.set_in.new.page lt (λ k other. c.set_in.ensures.others k other ∙ ap (λ es. entry_in es k) read) u apart
    ∙ c.reach.ensures.same u

pub returns-clause-set : goal.returns-clause-set
returns-clause-set c =
    on_ok c.set_in.result (entry-set c.reach.new.pages.items c.args.t c.args.entry c.set_in.new.page c.in_ok-reach.ensures.reached) c.set_in.ensures.set
