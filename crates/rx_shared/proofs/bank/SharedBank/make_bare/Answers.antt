use Rattle.std.proofs.Common.{◌≢◌, ◌<◌, ◌+◌, ◌%◌, IsSome, None, sym, ap, subst, ◌∙◌}
use Rattle.rx_arena.specs.declared.CellBody.{CellBody}
use Rattle.rx_arena.specs.Faces.{ask, word_of}
use Rattle.rx_term.specs.Steps.{MakesOrRefuses}
use Rattle.rx_shared.specs.Bodies.{body_of, hash_of, IsWritten}
use Rattle.rx_shared.specs.Inner.Hints.{Covers}
use Rattle.rx_shared.specs.State.{store_of, tree_of_body}
use Rattle.rx_shared.proofs.HintLemmas.{guessed, held-small, not-asked, ruled-out}
use Rattle.rx_shared.proofs.MakingLemmas.{found}
use Rattle.rx_shared.proofs.bank.SharedBank.make_bare.Goals as goal

pub bare_word-word-requires-clause-second : goal.bare_word-word-requires-clause-second
bare_word-word-requires-clause-second c = subst (λ k. k < 1073741824) (sym c.from-second.ensures) (held-small c.args.self.now c.args.b c.requires.held)

pub make-requires-clause-written : goal.make-requires-clause-written
make-requires-clause-written c = subst IsWritten (sym (c.body-whole.ensures ∙ ap (λ b. body_of c.args.kind c.args.a b None) c.from-second.ensures))
    c.requires.written

pub make-requires-clause-tree : goal.make-requires-clause-tree
make-requires-clause-tree c = subst (λ (x : CellBody). IsSome (tree_of_body (store_of c.args.self.now) x))
    (sym (c.body-whole.ensures ∙ ap (λ b. body_of c.args.kind c.args.a b None) c.from-second.ensures)) c.requires.tree

pub returns-then-may_ask : goal.returns-then-may_ask
returns-then-may_ask c =
    let w = store_of c.args.self.now in
    subst (λ (x : CellBody). MakesOrRefuses w (store_of c.make.new.self) (tree_of_body w x) c.make.result)
    (c.body-whole.ensures ∙ ap (λ b. body_of c.args.kind c.args.a b None) c.from-second.ensures) c.make.ensures

pub holds_word-requires : goal.holds_word-requires
holds_word-requires c =
    let h = hash_of c.args.kind c.args.a c.from-second.result None in
    let low = subst (λ k. k < 1073741824) (sym c.from-second.ensures) (held-small c.args.self.now c.args.b c.requires.held) in
    subst (λ k. k ≢ ask) (sym (c.bare_word-word.ensures h))
    (not-asked c.args.kind c.args.a c.from-second.result h c.requires.kind low
    (c.may_ask.ensures c.if-may_ask.false c.from-second.result c.requires.kind low))

pub returns-then-holds_word : goal.returns-then-holds_word
returns-then-holds_word c =
    let b = c.args.self.now in
    let k = c.args.kind in
    let a = c.args.a in
    let second = c.from-second.result in
    let s = (c.look-told.result + 4294967295) % 4294967296 in
    let low = subst (λ n. n < 1073741824) (sym c.from-second.ensures) (held-small b c.args.b c.requires.held) in
    let word = c.bare_word-word.ensures (hash_of k a second None) in
    let told = subst (λ n. n ≢ ask) (sym word)
    (not-asked k a second (hash_of k a second None) c.requires.kind low (c.may_ask.ensures c.if-may_ask.false second c.requires.kind low)) in
    let h = c.holds_word.ensures c.if-holds_word.true in
    found b (body_of k a c.args.b.0 None) c.requires.tree s
    (guessed b.arena s c.bare_word-word.result (body_of k a c.args.b.0 None) (h.0, h.1, h.2, told)
    (word ∙ ap (λ n. word_of (body_of k a n None)) c.from-second.ensures))

pub make_slowly-requires-clause-word : goal.make_slowly-requires-clause-word
make_slowly-requires-clause-word c = c.bare_word-word.ensures (hash_of c.args.kind c.args.a c.from-second.result None)

pub make_slowly-requires-clause-written : goal.make_slowly-requires-clause-written
make_slowly-requires-clause-written c = subst IsWritten (ap (λ b. body_of c.args.kind c.args.a b None) (sym c.from-second.ensures)) c.requires.written

pub make_slowly-requires-clause-tree : goal.make_slowly-requires-clause-tree
make_slowly-requires-clause-tree c = subst (λ (x : CellBody). IsSome (tree_of_body (store_of c.args.self.now) x))
    (ap (λ b. body_of c.args.kind c.args.a b None) (sym c.from-second.ensures)) c.requires.tree

pub make_slowly-requires-clause-nowhere : goal.make_slowly-requires-clause-nowhere
make_slowly-requires-clause-nowhere c new =
    let b = c.args.self.now in
    let body : CellBody = body_of c.args.kind c.args.a c.from-second.result None in
    ruled-out b body (subst IsWritten (ap (λ n. body_of c.args.kind c.args.a n None) (sym c.from-second.ensures)) c.requires.written)
    (λ covers. c.look-told.ensures new (subst (Covers b.hints.last.items) (sym c.body-whole.ensures) covers))

pub returns : goal.returns
returns c =
    let w = store_of c.args.self.now in
    subst (λ (x : CellBody). MakesOrRefuses w (store_of c.make_slowly.new.self) (tree_of_body w x) c.make_slowly.result)
    (ap (λ b. body_of c.args.kind c.args.a b None) c.from-second.ensures) c.make_slowly.ensures
