use Rattle.rec_serve.proofs.request.Request.last.Goals as goal

pub returns-else-is_begun : goal.returns-else-is_begun
returns-else-is_begun c = c.is_begun.ensures.none c.if-is_begun.false
