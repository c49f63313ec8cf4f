use Rattle.std.proofs.Common.{◌<◌, ◌∙◌, ap, arith, length, sym}
use Rattle.std.proofs.lemmas.List.{get_or_read}
use Rattle.std.specs.Prelude.{nat_eq, position}
use Rattle.rx_table.specs.Inner.Pages.{Keys, entry_at}
use Rattle.rx_table.proofs.TermIndexLemmas.{position-is, position-none}
use Rattle.rx_table.proofs.term_index.TermIndex.index_of.Goals.{else-index-len-via-then-index-len+else-index-t, else-index-len-via-else-index-len}
use Rattle.rx_table.proofs.term_index.TermIndex.index_of.Goals as goal

pub returns-then-index-t-clause-index : goal.returns-then-index-t-clause-index
returns-then-index-t-clause-index c =
    let ks = c.self.inside.terms.items in
    let i = c.entry-index.result in
    let t = c.args.t in
    let size = c.len.ensures ∙ c.self.inside.terms.ok.0 in
    let test = c.if-index-len.true in
    let lt : i < length ks = omega (arith, test, size) in
    let at = sym (get_or_read ks i c.index.result.now lt c.index.ensures 0) ∙ c.if-index-t.true in
    position-is ks c.self.inside.pages.items t i c.self.invariant lt at ∙ ap (λ (s : Keys). position (nat_eq t) s.keys) c.self.view_is

pub returns-else-index-len-clause-index : goal.returns-else-index-len-clause-index
returns-else-index-len-clause-index c =
    let ks = c.self.inside.terms.items in
    let i = c.entry-index.result in
    let t = c.args.t in
    let size = c.len.ensures ∙ c.self.inside.terms.ok.0 in
    let entry = c.entry-index.ensures ∙ ap (λ ps. entry_at ps t) c.deref.ensures.value in
    position-none ks c.self.inside.pages.items t i c.self.invariant entry (λ lt at. elim c.else-index-len.branch [
      | else-index-len-via-then-index-len+else-index-t w ↦
          w.if-index-t.false (get_or_read ks i w.index.result.now lt w.index.ensures 0 ∙ at)
      | else-index-len-via-else-index-len w ↦ let test = w.if-index-len.false in omega (arith, lt, size, test)
    ]) ∙ ap (λ (s : Keys). position (nat_eq t) s.keys) c.self.view_is
