use Rattle.std.proofs.Common.{◌<◌, ◌^◌, ◌++◌, ◌∷◌, [], ◌∙◌, ap, arith, length, refl, subst, sym}
use Rattle.std.specs.Prelude.{nat_eq, position}
use Rattle.rx_table.specs.Inner.Pages.{ArePaged, Keys}
use Rattle.rx_table.proofs.TermIndexLemmas.{inserted-last, inserted-there, more-paged, none-absent, position-at, some-there, still-paged}
use Rattle.rx_table.proofs.term_index.TermIndex.add.Goals as goal

pub returns-in-Some-clause-keys : goal.returns-in-Some-clause-keys
returns-in-Some-clause-keys c = inserted-there c.args.self.now.keys c.args.t c.in-Some.index (sym c.in-Some.ensures.index)

pub returns-in-Some-clause-found : goal.returns-in-Some-clause-found
returns-in-Some-clause-found c = (position-at c.args.self.now.keys c.args.t c.in-Some.index (sym c.in-Some.ensures.index)).1

pub returns-in-Some-clause-added : goal.returns-in-Some-clause-added
returns-in-Some-clause-added c =
    (let there = some-there c.args.self.now.keys c.args.t c.in-Some.index (sym c.in-Some.ensures.index) in rw there refl)

pub invariant_of-self : goal.invariant_of-self
invariant_of-self c =
    let absent = ap (λ (s : Keys). position (nat_eq c.args.t) s.keys) c.self.view_is ∙ sym c.in_default.ensures.index in
    still-paged c.self.inside.terms.items c.self.inside.pages.items c.set_entry.new.pages.items c.args.t absent c.set_entry.ensures.others c.self.invariant

pub invariant_of-self-in_err-push : goal.invariant_of-self-in_err-push
invariant_of-self-in_err-push c =
    let absent = ap (λ (s : Keys). position (nat_eq c.args.t) s.keys) c.self.view_is ∙ sym c.in_default.ensures.index in
    subst (λ ks. ArePaged ks c.set_entry.new.pages.items) (sym c.in_err-push.ensures.items)
    (still-paged c.self.inside.terms.items c.self.inside.pages.items c.set_entry.new.pages.items c.args.t absent c.set_entry.ensures.others c.self.invariant)

pub invariant_of-self-2 : goal.invariant_of-self-2
invariant_of-self-2 c =
    let ks = c.self.inside.terms.items in
    let absent = ap (λ (s : Keys). position (nat_eq c.args.t) s.keys) c.self.view_is ∙ sym c.in_default.ensures.index in
    let size = c.len-index.ensures ∙ c.self.inside.terms.ok.0 in
    let test = c.if-index-ge-MOST.false in
    let room : length ks < 2 ^ 31 = omega (arith, size, test) in
    subst (λ ns. ArePaged ns c.set_entry.new.pages.items) (sym c.in_ok-push.ensures.items)
    (more-paged ks c.self.inside.pages.items c.set_entry.new.pages.items c.args.t absent c.set_entry.ensures.others (c.in_ok-set_entry.ensures.set ∙ size) room
    c.self.invariant)

pub returns-clause-keys : goal.returns-clause-keys
returns-clause-keys c =
    c.in_ok-push.ensures.items ∙ ap (λ (s : Keys). s.keys ++ c.args.t ∷ []) c.self.view_is
    ∙ inserted-last c.args.self.now.keys c.args.t (sym c.in_default.ensures.index)

pub returns-clause-added : goal.returns-clause-added
returns-clause-added c = (let gone = none-absent c.args.self.now.keys c.args.t (sym c.in_default.ensures.index) in rw gone refl)
