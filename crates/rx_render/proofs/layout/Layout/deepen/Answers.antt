use Rattle.std.proofs.Common.{◌≡◌, ◌+◌, ◌≤◌, ◌++◌, ap, sym, refl, ◌∙◌, arith}
use Rattle.std.specs.Prelude.{length, replicate, take, vec_len}
use Rattle.std.proofs.lemmas.Grind.{common_steps}
use Rattle.std.proofs.lemmas.List.{length-replicate, take-replicate}
use Rattle.rx_render.proofs.LayoutLemmas.{blanks_more}
use Rattle.rx_render.proofs.layout.Layout.deepen.Goals as goal

pub returns-in-Ok-clause-deeper : goal.returns-in-Ok-clause-deeper
returns-in-Ok-clause-deeper c =
    let old = c.args.self.now.blanks in
    let new = c.extend_from_slice.new.self in
    let k = c.from-indent.result in
    let i : k ≡ c.args.self.now.indentation.indent = c.from-indent.ensures in
    let fits : k ≤ 255 = grind (arith, common_steps) in
    let taken : take k (replicate 255 32) ≡ replicate k 32 = take-replicate k 255 32 fits in
    let items : new.items ≡ old.items ++ take k (replicate 255 32) = c.in-Ok.ensures.items in
    let more : new.items ≡ old.items ++ replicate k 32 = items ∙ ap (λ xs. old.items ++ xs) taken in
    let len : vec_len new ≡ vec_len old + length (take k (replicate 255 32)) = c.in-Ok.ensures.len in
    let long : vec_len new ≡ vec_len old + k = len ∙ ap (λ xs. vec_len old + length xs) taken ∙ ap (λ n. vec_len old + n) (length-replicate k 32) in
    let within = c.requires.within in
    record {
      jobs = refl;
      kept = record {
        indentation = refl;
        room = omega (arith, long);
        blank =
            blanks_more old.items new.items (vec_len old) k c.requires.blank more ∙ ap (λ n. replicate n 32) (sym long);
      };
      deeper = ap (λ n. c.args.margin + n) i;
      within = omega (arith, long, within);
    }
