use Rattle.std.proofs.Common.{refl, ap, subst, ◌∙◌, length}
use Rattle.rec_match.specs.Inner.Built.{AreSides}
use Rattle.rec_match.proofs.SkipLemmas.{matcher-built}
use Rattle.rec_match.proofs.matcher.Matcher.build.Goals as goal

pub sides-requires : goal.sides-requires
sides-requires c =
    let h = c.in_ok-chains.ensures in
    ap length c.deref.ensures.value ∙ h.chains.long ∙ h.heads.counted

pub returns : goal.returns
returns c =
    let y = c.args.checked.now.spec in
    let h = c.in_ok-chains.ensures in
    matcher-built y c.syntax-kept.ensures.kept c.args.links.now h.symbols_of c.in_ok-chains.chains.nexts.items _ (length y.rules) c.in_ok-own.ensures
    h.heads h.chains
    (subst (λ ns. AreSides y h.symbols_of ns c.in_ok-sides.sides.items (length y.rules)) c.deref.ensures.value
    (c.in_ok-sides.ensures h.symbols_of h.heads)) refl c.in_ok-forest.ensures
