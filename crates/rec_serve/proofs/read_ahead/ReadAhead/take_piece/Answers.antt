use Rattle.std.proofs.Common.{◌≡◌, ◌++◌, take, ap, sym, subst, ◌∙◌}
use Rattle.std.specs.Prelude.{◌==◌, position}
use Rattle.rec_serve.specs.Inner.Reading.{IsRead, unread}
use Rattle.rec_serve.proofs.KeptLemmas.{skipped_all, takes_all, takes_ended}
use Rattle.rec_serve.proofs.read_ahead.ReadAhead.take_piece.Goals as goal

pub returns-in-Some : goal.returns-in-Some
returns-in-Some c =
    let n = c.in-Some.count in
    let same : take n c.rest-in-Some.result.now ≡ take n (unread c.args.self.now) = ap (take n) c.rest-in-Some.ensures in
    let at = sym (ap (position (λ b. b == 10)) c.rest.ensures) ∙ sym c.line_end.ensures ∙ c.in-Some.is in (
      take n (unread c.args.self.now),
      takes_ended c.args.self.now c.skip.new.self n at c.skip.ensures,
      λ line is. subst (λ z. IsRead c.keep.new.self (line ++ z)) same (c.keep.ensures line is),
    )

pub returns-in-None : goal.returns-in-None
returns-in-None c =
    let at = sym (ap (position (λ b. b == 10)) c.rest.ensures) ∙ sym c.line_end.ensures ∙ c.in-None.is in (
      unread c.args.self.now,
      takes_all c.args.self.now c.skip-in-None.new.self at (skipped_all c.args.self.now c.skip-in-None.new.self c.skip-in-None.ensures),
      λ line is. subst (λ z. IsRead c.keep-in-None.new.self (line ++ z)) c.rest-in-None.ensures (c.keep-in-None.ensures line is),
    )
