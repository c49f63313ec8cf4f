use Rattle.std.proofs.Common.{◌≡◌, ◌++◌, subst}
use Rattle.rec_check.specs.Lookups.{IsNoted, where_known}
use Rattle.rec_check.specs.Named.{as_word, as_words}
use Rattle.rec_check.specs.declared.located.Word.{Word}
use Rattle.rec_check.proofs.LookupLemmas.{repeated_begin, repeated_item}
use Rattle.rec_check.proofs.filters.repeated_words.Goals as goal

pub loop-word-init : goal.loop-word-init
loop-word-init c = repeated_begin c.in_ok-names.names (as_words c.args.before.now) (as_words c.args.words.now) c.new-found.result.items
    c.new-found.ensures.items c.in_ok-names.ensures.known

pub loop-word-preserved : goal.loop-word-preserved
loop-word-preserved c =
    let old = c.loop-word.names in
    let new = c.push_repeated.new.names in
    let found = as_words c.loop-word.found.items in
    repeated_item old new c.args.words.now c.loop-word.word-index c.word-item.result c.loop-word.found.items c.push_repeated.new.found.items _
    c.loop-word-test.true
    (subst (λ (w : Word). as_words c.push_repeated.new.found.items ≡ found ++ where_known old (as_word w)) c.word-item.is
    c.in_ok-push_repeated.ensures.found)
    (subst (λ (w : Word). IsNoted old new (as_word w)) c.word-item.is c.in_ok-push_repeated.ensures.known)
    c.loop-word.invariant
