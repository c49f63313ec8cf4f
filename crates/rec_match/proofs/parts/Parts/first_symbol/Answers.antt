use Rattle.std.proofs.Common.{sym, ap, ◌∙◌, get_or}
use Rattle.std.proofs.lemmas.List.{get_or_default}
use Rattle.rec_match.specs.declared.parts.Part.{Part}
use Rattle.rec_match.specs.Parts.{no_part}
use Rattle.rec_match.proofs.ShareLemmas.{refused}
use Rattle.rec_match.proofs.parts.Parts.first_symbol.Goals as goal

pub returns-in-Symbol : goal.returns-in-Symbol
returns-in-Symbol c symbol base other =
    let i = c.loop-code.code-index in
    let code = get_or c.args.codes.now i (record { register = 0; part = 0 }) in
    let there = (c.requires i (record { register = 0; part = 0 }) c.loop-code-test.true).there in
    refused c.args.self.now c.args.register symbol base c.in-Symbol.number other c.args.codes.now i (record { register = 0; part = 0 })
    c.loop-code-test.true c.if-code-register.true
    (ap (λ (p : Part). p.meaning) (get_or_default c.args.self.now.parts.items code.part no_part _ there ∙ sym c.index.ensures) ∙ c.in-Symbol.is)
