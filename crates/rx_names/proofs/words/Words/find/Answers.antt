use Rattle.std.proofs.lemmas.Slice.Eq.{bytes_eq-Decides}
use Rattle.rx_names.proofs.PlaceLemmas.{searched}
use Rattle.rx_names.proofs.words.Words.find.Goals as goal

pub returns : goal.returns
returns c = searched (λ v. v.items) c.args.word.now _ (λ v. bytes_eq-Decides c.args.word.now v.items) c.args.self.now.stored.keys
    c.get_index_of.result c.get_index_of.ensures.index c.get_index_of.ensures.found
