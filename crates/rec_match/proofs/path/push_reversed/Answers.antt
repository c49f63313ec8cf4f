use Rattle.std.proofs.Common.{◌-◌, ◌≡◌, ◌++◌, arith, ap, sym, ◌∙◌, drop, reverse, append-nil}
use Rattle.std.proofs.Math.ListN.{drop_of_length-le}
use Rattle.rec_match.proofs.PathLemmas.{reversed-next}
use Rattle.rec_match.proofs.path.push_reversed.Goals as goal

pub loop-i-init : goal.loop-i-init
loop-i-init c = record {
  within = omega arith;
  pushed = sym (append-nil c.args.rest.now.items) ∙ ap (λ xs. c.args.rest.now.items ++ reverse xs) (sym (drop_of_length-le c.args.codes.now (omega arith)));
}

pub loop-i-preserved : goal.loop-i-preserved
loop-i-preserved c =
    let t = c.loop-i-test.true in
    let w = c.loop-i.invariant.within in
    record {
      within = omega (arith, w);
      pushed = reversed-next c.args.codes.now c.args.rest.now.items c.loop-i.rest.items c.push.new.self.items (c.loop-i.i - 1) c.loop-i.i _
          (omega (arith, t)) (omega (arith, t, w)) c.loop-i.invariant.pushed c.in_ok-push.ensures.items;
    }

pub returns : goal.returns
returns c =
    let t = c.loop-i-test.false in
    c.loop-i.invariant.pushed ∙ ap (λ n. c.args.rest.now.items ++ reverse (drop n c.args.codes.now)) (let e : c.loop-i.i ≡ 0 = omega (arith, t) in e)
