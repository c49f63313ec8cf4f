use Rattle.std.proofs.Common.{[], ◌∷◌, ◌∙◌}
use Rattle.rx_term.specs.Store.{tree_at}
use Rattle.rx_term.proofs.KeepLemmas.{Keeps-trans, Keeps-Reclaims}
use Rattle.psilt_core.specs.Banks.{store_of}
use Rattle.psilt_core.proofs.EvaluatingLemmas.{still_there, reclaimed_same, grown_same, list_again, keeps_grown, kept_roots, collected}
use Rattle.psilt_core.proofs.running.list_anyway.Goals as goal

pub list_of-requires-in-Err-Full : goal.list_of-requires-in-Err-Full
list_of-requires-in-Err-Full c =
    let w = store_of c.args.bank.now in let v = store_of c.list_of.new.bank in let t = c.args.t in
    let there = still_there (tree_at w t) (tree_at v t) (grown_same w v t c.list_of.ensures.grows c.requires) c.requires in
    still_there (tree_at v t) (tree_at (store_of c.reclaim.new.self) t)
    (reclaimed_same v (store_of c.reclaim.new.self) t c.reclaim.ensures.reclaims there) there

pub returns-in-Err-Full-clause-list : goal.returns-in-Err-Full-clause-list
returns-in-Err-Full-clause-list c =
    let w = store_of c.args.bank.now in let v = store_of c.list_of.new.bank in let t = c.args.t in let x = store_of c.reclaim.new.self in
    let same = grown_same w v t c.list_of.ensures.grows c.requires in
    let there = still_there (tree_at w t) (tree_at v t) same c.requires in
    list_again w x (store_of c.list_of-in-Err-Full.new.bank) t c.list_of-in-Err-Full.result
    (reclaimed_same v x t c.reclaim.ensures.reclaims there ∙ same) c.list_of-in-Err-Full.ensures.list

pub returns-in-Err-Full-clause-keeps : goal.returns-in-Err-Full-clause-keeps
returns-in-Err-Full-clause-keeps c =
    let w = store_of c.args.bank.now in let v = store_of c.list_of.new.bank in let x = store_of c.reclaim.new.self in let z =
    store_of c.list_of-in-Err-Full.new.bank in
    Keeps-trans (keeps_grown w v [] c.list_of.ensures.grows c.list_of.ensures.beside)
    (Keeps-trans (kept_roots v x (c.args.t ∷ []) (Keeps-Reclaims c.reclaim.ensures.reclaims))
    (keeps_grown x z [] c.list_of-in-Err-Full.ensures.grows c.list_of-in-Err-Full.ensures.beside))

pub returns-in-Err-Full-clause-given : goal.returns-in-Err-Full-clause-given
returns-in-Err-Full-clause-given c =
    let w = store_of c.args.bank.now in let v = store_of c.list_of.new.bank in let t = c.args.t in let x = store_of c.reclaim.new.self in let z =
    store_of c.list_of-in-Err-Full.new.bank in
    let same = grown_same w v t c.list_of.ensures.grows c.requires in
    let there = still_there (tree_at w t) (tree_at v t) same c.requires in
    let again = reclaimed_same v x t c.reclaim.ensures.reclaims there in
    grown_same x z t c.list_of-in-Err-Full.ensures.grows (still_there (tree_at v t) (tree_at x t) again there) ∙ again ∙ same

pub returns-in-Ok-clause-keeps : goal.returns-in-Ok-clause-keeps
returns-in-Ok-clause-keeps c = keeps_grown (store_of c.args.bank.now) (store_of c.list_of.new.bank) [] c.list_of.ensures.grows c.list_of.ensures.beside

pub returns-in-Err-Memory-clause-keeps : goal.returns-in-Err-Memory-clause-keeps
returns-in-Err-Memory-clause-keeps c = keeps_grown (store_of c.args.bank.now) (store_of c.list_of.new.bank) [] c.list_of.ensures.grows c.list_of.ensures.beside

pub returns-in-Ok-clause-given : goal.returns-in-Ok-clause-given
returns-in-Ok-clause-given c = grown_same (store_of c.args.bank.now) (store_of c.list_of.new.bank) c.args.t c.list_of.ensures.grows c.requires

pub returns-in-Err-Memory-clause-given : goal.returns-in-Err-Memory-clause-given
returns-in-Err-Memory-clause-given c = grown_same (store_of c.args.bank.now) (store_of c.list_of.new.bank) c.args.t c.list_of.ensures.grows c.requires

pub returns-in-Err-Full-clause-full : goal.returns-in-Err-Full-clause-full
returns-in-Err-Full-clause-full c =
    collected (store_of c.list_of.new.bank) (store_of c.reclaim.new.self) (store_of c.list_of-in-Err-Full.new.bank) c.args.t
    c.list_of-in-Err-Full.result c.reclaim.ensures.reclaims c.list_of-in-Err-Full.ensures.grows c.list_of-in-Err-Full.ensures.beside
    c.list_of-in-Err-Full.ensures.full c.list_of-in-Err-Full.ensures.added
