use Rattle.std.proofs.Common.{◌≡◌, ◌∙◌, ◌++◌, ap, subst, sym}
use Rattle.rx_term.specs.Walks.{AllHeld, held_trees}
use Rattle.rx_term.proofs.WalkLemmas.{AllHeld-append}
use Rattle.rec_sorts.specs.Walking.{SameTrees, unstacked}
use Rattle.rec_sorts.proofs.VisitLemmas.{all-nodes, arguments_all}
use Rattle.rec_sorts.proofs.walk.nodes_among.Goals as goal

pub returns : goal.returns
returns g c =
    let w = g.B.TermBank.store c.args.bank.now in
    let terms = c.args.terms.items in
    let inner = c.in_ok-inner.inner.items in
    let all = c.extend_from_slice.new.self.items in
    let e : all ≡ terms ++ inner = c.in_ok-extend_from_slice.ensures.items ∙ ap (λ rs. terms ++ rs) c.deref-2.ensures.value in
    let below = c.in_ok-below.ensures.trees ∙ ap (λ rs. arguments_all (held_trees w rs)) c.deref.ensures.value in
    let same : SameTrees (held_trees w inner) (unstacked (arguments_all (held_trees w terms))) =
    subst (λ ts. SameTrees (held_trees w inner) (unstacked ts)) below c.in_ok-inner.ensures.same in
    record {
      all_held = subst (AllHeld w) (sym e) (AllHeld-append w terms inner c.requires c.in_ok-inner.ensures.held);
      inner_held = c.in_ok-inner.ensures.held;
      all_found = all-nodes w terms inner all e same;
      inner_found = same;
    }
