use Rattle.std.proofs.Common.{◌≤◌, ℕ, ◌∙◌, ap, arith, get_or-set_other, length, refl, sym}
use Rattle.std.specs.Prelude.{Vec}
use Rattle.std.specs.declared.alloc.Global.{Global}
use Rattle.rx_table.specs.Inner.Pages.{entry_in}
use Rattle.rx_table.proofs.TermIndexLemmas.{filled}
use Rattle.rx_table.proofs.term_index.set_in.Goals.{then-len-at+in_ok-resize, else-len-at}
use Rattle.rx_table.proofs.term_index.set_in.Goals as goal

pub returns-clause-others : goal.returns-clause-others
returns-clause-others c = λ k apart.
    let old = c.args.page.now in
    get_or-set_other c.if-len-at.page.items c.args.at k c.args.entry 0 apart ∙ elim c.if-len-at.branch [
      | then-len-at+in_ok-resize w ↦
          let new = w.resize.new.self in
          let size = c.len.ensures ∙ old.ok.0 in
          let test = w.if-len-at.true in
          let at = c.requires in
          let less : length old.items ≤ 1024 = omega (arith, size, test, at) in
          let all = w.in_ok-resize.ensures.by_index in
          let same = old.ok.0 in
          ap (λ (page : Vec ℕ Global). entry_in page.items k) w.page-is
          ∙ filled old.items new.items 1024 k less (sym new.ok.0 ∙ w.in_ok-resize.ensures.len)
          (λ j d lt within. all.0 j d lt (omega (arith, within, same))) (λ j d past lt. all.1 j d refl (omega (arith, past, same)) lt)
      | else-len-at w ↦ ap (λ (page : Vec ℕ Global). entry_in page.items k) w.page-is
    ]
