use Rattle.std.proofs.Common.{◌-◌, inl, length, refl, drop, get_or, is_some, sym, ap, ◌∙◌, subst, arith}
use Rattle.rx_term.specs.Tree.{more, to_list}
use Rattle.rx_term.specs.Store.{tree_at}
use Rattle.rx_term.specs.Walks.{HaveTrees}
use Rattle.rx_term.proofs.StoreLemmas.{Grows-Makes, Grows-trans}
use Rattle.rx_term.proofs.WalkLemmas.{next, is_longer}
use Rattle.psilt_core.specs.Banks.{store_of}
use Rattle.psilt_core.specs.Answers.{term_of, terms_of}
use Rattle.psilt_core.proofs.AnswerLemmas.{held_at, one_more}
use Rattle.psilt_core.proofs.ArgumentLemmas.{added_rest, no_rest}
use Rattle.psilt_core.proofs.BankLemmas.{same_trans}
use Rattle.psilt_core.proofs.making.list.Goals as goal

pub loop-left-init : goal.loop-left-init
loop-left-init c =
    let old = store_of c.args.bank.now in let new = store_of c.nil.new.self in let items = c.args.items.now in let m = c.in_ok-list.ensures.made in record {
      within = omega arith;
      grows = Grows-Makes m;
      beside = c.in_ok-list.ensures.beside;
      added = added_rest old old new items (length items) _ c.nil.result (λ r v e. inl e) c.nil.ensures.made (no_rest old items _ refl);
      named = m.beside.symbols;
      lists = no_rest old items (tree_at new c.in_ok-list.list) m.made;
    }

pub cons-requires : goal.cons-requires
cons-requires c =
    let old = store_of c.args.bank.now in let now = store_of c.loop-left.bank in let items = c.args.items.now in let at = c.loop-left.left - 1 in
    let n = next old now (terms_of (drop c.loop-left.left items)) (term_of (get_or items at 0)) c.loop-left.list c.loop-left.invariant.grows
    (held_at old items at 0 c.requires (omega arith)) c.loop-left.invariant.lists in
    ap is_some (is_longer _ _ n.0 n.1.0 n.1.1 n.1.2)

pub loop-left-preserved : goal.loop-left-preserved
loop-left-preserved c =
    let old = store_of c.args.bank.now in let now = store_of c.loop-left.bank in let items = c.args.items.now in let at = c.loop-left.left - 1 in
    let n = next old now (terms_of (drop c.loop-left.left items)) (term_of (get_or items at 0)) c.loop-left.list c.loop-left.invariant.grows
    (held_at old items at 0 c.requires (omega arith)) c.loop-left.invariant.lists in
    record {
      within = omega arith;
      grows = Grows-trans c.loop-left.invariant.grows (Grows-Makes c.in_ok-list-2.ensures.made);
      beside = same_trans c.args.bank.now c.loop-left.bank c.cons.new.self c.loop-left.invariant.beside c.in_ok-list-2.ensures.beside;
      added = added_rest old now (store_of c.cons.new.self) items at _ c.cons.result c.loop-left.invariant.added c.cons.ensures.made (
        more n.0 n.1.0,
        subst (λ ns. HaveTrees old (terms_of ns) (to_list (more n.0 n.1.0))) (sym (one_more items c.loop-left.left 0 (omega arith) (omega arith))) n.1.3,
        is_longer _ _ n.0 n.1.0 n.1.1 n.1.2,
      );
      named = c.in_ok-list-2.ensures.made.beside.symbols ∙ c.loop-left.invariant.named;
      lists = (
        more n.0 n.1.0,
        subst (λ ns. HaveTrees old (terms_of ns) (to_list (more n.0 n.1.0))) (sym (one_more items c.loop-left.left 0 (omega arith) (omega arith))) n.1.3,
        c.in_ok-list-2.ensures.made.made ∙ is_longer _ _ n.0 n.1.0 n.1.1 n.1.2,
      );
    }
