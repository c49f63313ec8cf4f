use Rattle.std.proofs.Common.{◌≡◌, ◌+◌, ◌-◌, ap, arith, drop, refl, sym, take, ◌∙◌}
use Rattle.std.proofs.lemmas.List.{drop_all}
use Rattle.rec_trace.specs.Lines.{behind_end, ends_in}
use Rattle.rec_trace.specs.declared.lines.Spot.{Spot}
use Rattle.rec_trace.proofs.SpotLemmas.{column-few, column-some, line-few, spot-behind}
use Rattle.rec_trace.proofs.spots.spot_by.Goals as goal

pub loop-byte-init : goal.loop-byte-init
loop-byte-init c =
    let source = c.args.source.now in
    let a = ap (λ (s : Spot). s.line) c.requires.known in
    let b = ap (λ (s : Spot). s.column) c.requires.known in
    let d = line-few source c.args.from in
    let e = column-few source c.args.from in
    let f = column-some source c.args.from in
    record {
      line = refl;
      column = refl;
      low = omega (arith, b, f);
      short_line = omega (arith, a, d);
      short_column = omega (arith, b, e);
    }

pub returns : goal.returns
returns c =
    let source = c.args.source.now in
    let piece = take (c.args.at - c.args.from) (drop c.args.from source) in
    let all = drop_all c.loop-byte.byte-index piece c.loop-byte-test.false in
    let none = ap ends_in all in
    let so_far = c.loop-byte.invariant.line in
    let later = c.if-at-from.false in
    let line : c.loop-byte.line ≡ c.args.spot.line + ends_in piece = omega (arith, none, so_far) in
    spot-behind source piece c.args.from c.args.at c.loop-byte.line c.loop-byte.column c.args.spot (omega (arith, later)) refl c.requires.known line
    (ap (behind_end (c.loop-byte.column - 1)) (sym all) ∙ c.loop-byte.invariant.column) c.loop-byte.invariant.low
