use Rattle.std.proofs.Common.{◌≡◌, ◌∙◌, ap, arith, sym, subst, IsSome, None, Some}
use Rattle.std.specs.Prelude.{nat_eq}
use Rattle.std.specs.Option.{option_copied}
use Rattle.indexmap.specs.IndexMap.{get}
use Rattle.rec_sorts.proofs.WalkedLemmas.{items_of-none}
use Rattle.rec_engine.proofs.CopiedLemmas.{push-first, push-next, push-last, next-known, index-within}
use Rattle.rec_engine.proofs.terms.copied.push_copies.Goals as goal

pub loop-at-init : goal.loop-at-init
loop-at-init g c =
    push-first (g.N.TermBank.store c.args.own.now) c.args.copies.now c.args.list c.args.work.now.items c.requires.list c.requires.known

pub unreachable-requires : goal.unreachable-requires
unreachable-requires g c =
    let own = g.N.TermBank.store c.args.own.now in
    let absent : get nat_eq c.args.copies.now c.head.result.0 ≡ None = sym c.get.ensures.value ∙ ap option_copied c.in_default-get.is in
    let there : IsSome (get nat_eq c.args.copies.now c.head.result.0) =
    next-known own c.args.copies.now (g.met.N.TermBank.sound c.args.own.now) c.args.list c.loop-at.rest c.head.result c.args.work.now.items
    c.loop-at.work.items c.in-Cons.ensures c.head.ensures c.loop-at.invariant in
    absurd (let e = subst IsSome absent there in cc e)

pub index-copy-requires : goal.index-copy-requires
index-copy-requires g c =
    let got : get nat_eq c.args.copies.now c.head.result.0 ≡ Some c.in-Some.at.now = sym c.get.ensures.value ∙ ap option_copied c.in-Some.is in
    let own = g.N.TermBank.store c.args.own.now in
    let within = index-within own c.args.copies.now c.requires.copies.0 c.args.work.now.items c.loop-at.work.items c.loop-at.invariant.args c.head.result
    c.in-Some.at.now c.requires.copies.1 got c.loop-at.invariant.pushed in
    let long = c.loop-at.work.ok.0 in
    omega (arith, within, long)

pub loop-at-preserved : goal.loop-at-preserved
loop-at-preserved g c =
    let got : get nat_eq c.args.copies.now c.head.result.0 ≡ Some c.in-Some.at.now = sym c.get.ensures.value ∙ ap option_copied c.in-Some.is in
    push-next (g.N.TermBank.store c.args.own.now) c.args.copies.now c.args.list c.loop-at.rest c.head.result c.tail-rest.result c.args.work.now.items
    c.loop-at.work.items c.in-Cons.ensures c.head.ensures c.tail-rest.ensures c.loop-at.invariant c.index-copy.result.now c.in-Some.at.now
    c.push.new.work.items got c.index-copy.ensures c.in_ok-push.ensures.pushed

pub returns : goal.returns
returns g c = record {
  pushed = push-last (g.N.TermBank.store c.args.own.now) c.args.copies.now c.args.list c.loop-at.rest c.args.work.now.items c.loop-at.work.items
      (items_of-none (g.N.TermBank.store c.args.own.now) c.loop-at.rest c.kind.result c.kind.ensures c.in_default.not-Cons) c.loop-at.invariant;
  fault = tt;
}
