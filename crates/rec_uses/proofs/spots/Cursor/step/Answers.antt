use Rattle.std.proofs.Common.{refl}
use Rattle.rec_uses.proofs.SpotLemmas.{cursor_next}
use Rattle.rec_uses.proofs.spots.Cursor.step.Goals as goal

pub returns-clause-cursor : goal.returns-clause-cursor
returns-clause-cursor c = cursor_next c.args.self.now.text.now c.args.self.now _ c.requires.cursor c.requires.within refl refl c.behind-self.ensures
