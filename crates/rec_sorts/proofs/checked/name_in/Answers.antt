use Rattle.rec_sorts.proofs.NamesThereLemmas.{bytes_at-declaration}
use Rattle.rec_sorts.proofs.checked.name_in.Goals as goal

pub returns : goal.returns
returns c = bytes_at-declaration c.args.source.now c.args.declarations.now c.args.number c.index-declarations-number.result c.requires.number
