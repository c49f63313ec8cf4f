use Rattle.std.proofs.Common.{◌≡◌, ℕ, List, Option, None, Some, ◌∙◌, ap, cond, rules}
use Rattle.std.specs.Prelude.{bytes_eq}
use Rattle.rec_sorts.specs.Names.{given_to}
use Rattle.rec_sorts.specs.declared.names.Key.{Key}
use Rattle.rec_sorts.proofs.TableLemmas.{same_function}
use Rattle.rec_sorts.proofs.RulePartLemmas.{given_first-new, given_first-again}
use Rattle.rec_sorts.proofs.names.Names.give.Goals as goal

-- a key of these bytes
abbrev key : List ℕ → Key
key name = record { bytes = record { ref_ptr = (0, 0); now = name } }

pub returns-in-None-clause-given : goal.returns-in-None-clause-given
returns-in-None-clause-given c =
    let absent : given_to c.args.self.now c.args.name.now ≡ None = search rules in
    same_function (λ other. c.in_ok-insert.ensures.updates.0 (key other)
    ∙ given_first-new (given_to c.args.self.now) c.args.name.now c.args.number other absent)

pub returns-in_ok-insert-in-Some-clause-given : goal.returns-in_ok-insert-in-Some-clause-given
returns-in_ok-insert-in-Some-clause-given c =
    let name = c.args.name.now in
    let had : given_to c.args.self.now name ≡ Some c.in-Some.first = search rules in
    same_function (λ other. c.in_ok-insert-in-Some.ensures.updates.0 (key other)
    ∙ ap (λ (o : Option ℕ). cond (bytes_eq name other) (Some c.in-Some.first) o) (c.in_ok-insert.ensures.updates.0 (key other))
    ∙ given_first-again (given_to c.args.self.now) name c.args.number c.in-Some.first other had)
