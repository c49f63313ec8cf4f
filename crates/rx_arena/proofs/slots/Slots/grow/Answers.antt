use Rattle.std.proofs.Common.{◌≡◌, ◌++◌, length, map, None, false, sym, ap, ◌∙◌}
use Rattle.std.specs.Prelude.{replicate}
use Rattle.rx_arena.specs.Inner.Node.{is_protected_node}
use Rattle.rx_arena.specs.Inner.Tables.{nodes_of}
use Rattle.rx_arena.specs.Faces.{ask, word_beside}
use Rattle.rx_arena.proofs.TableLemmas.{resized, cut-back, cut-grown, grown-nodes, length-nodes, told-length, told-grown}
use Rattle.rx_arena.proofs.slots.Slots.grow.Goals as goal

pub returns-in-Ok-clause-ok : goal.returns-in-Ok-clause-ok
returns-in-Ok-clause-ok c =
    let ks = c.self.inside.marks.items in
    let marks : c.resize.new.self.items ≡ ks ++ replicate 1024 0 =
    c.in_ok-resize.ensures.items ∙ resized ks 0 c.len-slots.result c.self.inside.marks.len (c.len-slots.ensures ∙ c.self.inside.marks.ok.0)
    c.self.inside.marks.ok.0 in
    (λ i. nodes_of (marks i) (c.in_default-grow.ensures.ok i) (c.in-Ok.ensures.ok i))
    ∙ grown-nodes ks c.self.inside.nexts c.self.inside.cells 1024 c.self.invariant
    ∙ ap (λ z. z ++ replicate 1024 None) c.self.view_is

pub invariant_of-self-inside-in-Ok : goal.invariant_of-self-inside-in-Ok
invariant_of-self-inside-in-Ok c =
    let ks = c.self.inside.marks.items in
    let ns = nodes_of ks c.self.inside.nexts c.self.inside.cells in
    let fs = c.self.inside.protected.items in
    let ws = c.self.inside.words.items in
    let n = c.len-slots.result in
    let known = c.len-slots.ensures ∙ c.self.inside.marks.ok.0 in
    let all : n ≡ length ns = known ∙ c.self.invariant.0 ∙ sym (length-nodes ks c.self.inside.nexts c.self.inside.cells c.self.invariant) in
    let marks : c.resize.new.self.items ≡ ks ++ replicate 1024 0 =
    c.in_ok-resize.ensures.items ∙ resized ks 0 n c.self.inside.marks.len known c.self.inside.marks.ok.0 in
    let is = (λ i. nodes_of (marks i) (c.in_default-grow.ensures.ok i) (c.in-Ok.ensures.ok i))
    ∙ grown-nodes ks c.self.inside.nexts c.self.inside.cells 1024 c.self.invariant in (
      c.in_default.ensures.items
          ∙ resized fs false n c.self.inside.protected.len (all ∙ sym (told-length is_protected_node fs ns c.self.inside.told)) c.self.inside.protected.ok.0
          ∙ told-grown is_protected_node fs ns c.self.inside.told 1024 ∙ ap (map is_protected_node) (sym is),
      (
        c.in_default-resize.ensures.items
            ∙ resized ws ask n c.self.inside.words.len (all ∙ sym (told-length word_beside ws ns c.self.inside.said)) c.self.inside.words.ok.0
            ∙ told-grown word_beside ws ns c.self.inside.said 1024 ∙ ap (map word_beside) (sym is),
        tt,
      ),
    )

pub invariant_of-self-inside-in-Err-resize : goal.invariant_of-self-inside-in-Err-resize
invariant_of-self-inside-in-Err-resize c =
    let ks = c.self.inside.marks.items in
    let ns = nodes_of ks c.self.inside.nexts c.self.inside.cells in
    let fs = c.self.inside.protected.items in
    let ws = c.self.inside.words.items in
    let n = c.len-slots.result in
    let known = c.len-slots.ensures ∙ c.self.inside.marks.ok.0 in
    let all : n ≡ length ns = known ∙ c.self.invariant.0 ∙ sym (length-nodes ks c.self.inside.nexts c.self.inside.cells c.self.invariant) in
    let marks = cut-back ks _ c.truncate-in-Err-resize.new.self.items 0 n c.self.inside.marks.len known c.self.inside.marks.ok.0
    c.in_ok-resize.ensures.items c.truncate-in-Err-resize.ensures.items in
    let told = cut-back fs _ c.truncate-in-Err-resize-2.new.self.items false n c.self.inside.protected.len
    (all ∙ sym (told-length is_protected_node fs ns c.self.inside.told)) c.self.inside.protected.ok.0 c.in_default.ensures.items
    c.truncate-in-Err-resize-2.ensures.items in
    let same = ap (λ z. nodes_of z c.self.inside.nexts c.self.inside.cells) (sym marks) in (
      told ∙ c.self.inside.told ∙ ap (map is_protected_node) same,
      (c.in-Err-resize.ensures.items ∙ c.self.inside.said ∙ ap (map word_beside) same, tt),
    )

pub invariant_of-self-inside-in-Err-grow : goal.invariant_of-self-inside-in-Err-grow
invariant_of-self-inside-in-Err-grow c =
    let ks = c.self.inside.marks.items in
    let ns = nodes_of ks c.self.inside.nexts c.self.inside.cells in
    let fs = c.self.inside.protected.items in
    let ws = c.self.inside.words.items in
    let n = c.len-slots.result in
    let known = c.len-slots.ensures ∙ c.self.inside.marks.ok.0 in
    let all : n ≡ length ns = known ∙ c.self.invariant.0 ∙ sym (length-nodes ks c.self.inside.nexts c.self.inside.cells c.self.invariant) in
    let marks = cut-back ks _ c.truncate-in-Err-grow.new.self.items 0 n c.self.inside.marks.len known c.self.inside.marks.ok.0
    c.in_ok-resize.ensures.items c.truncate-in-Err-grow.ensures.items in
    let told = cut-back fs _ c.truncate-in-Err-grow-2.new.self.items false n c.self.inside.protected.len
    (all ∙ sym (told-length is_protected_node fs ns c.self.inside.told)) c.self.inside.protected.ok.0 c.in_default.ensures.items
    c.truncate-in-Err-grow-2.ensures.items in
    let said = cut-back ws _ c.truncate-in-Err-grow-3.new.self.items ask n c.self.inside.words.len
    (all ∙ sym (told-length word_beside ws ns c.self.inside.said)) c.self.inside.words.ok.0 c.in_default-resize.ensures.items
    c.truncate-in-Err-grow-3.ensures.items in
    let same : ns ≡ nodes_of c.truncate-in-Err-grow.new.self.items c.grow.new.self c.self.inside.cells =
    λ i. nodes_of (sym marks i) (sym c.in-Err-grow.ensures.err i) c.self.inside.cells in (
      told ∙ c.self.inside.told ∙ ap (map is_protected_node) same,
      (said ∙ c.self.inside.said ∙ ap (map word_beside) same, tt),
    )

pub invariant_of-self-inside-in-Err-grow-2 : goal.invariant_of-self-inside-in-Err-grow-2
invariant_of-self-inside-in-Err-grow-2 c =
    let ks = c.self.inside.marks.items in
    let ns = nodes_of ks c.self.inside.nexts c.self.inside.cells in
    let fs = c.self.inside.protected.items in
    let ws = c.self.inside.words.items in
    let n = c.len-slots.result in
    let known = c.len-slots.ensures ∙ c.self.inside.marks.ok.0 in
    let all : n ≡ length ns = known ∙ c.self.invariant.0 ∙ sym (length-nodes ks c.self.inside.nexts c.self.inside.cells c.self.invariant) in
    let marks = cut-back ks _ c.truncate-in-Err-grow-2-2.new.self.items 0 n c.self.inside.marks.len known c.self.inside.marks.ok.0
    c.in_ok-resize.ensures.items c.truncate-in-Err-grow-2-2.ensures.items in
    let told = cut-back fs _ c.truncate-in-Err-grow-2-3.new.self.items false n c.self.inside.protected.len
    (all ∙ sym (told-length is_protected_node fs ns c.self.inside.told)) c.self.inside.protected.ok.0 c.in_default.ensures.items
    c.truncate-in-Err-grow-2-3.ensures.items in
    let said = cut-back ws _ c.truncate-in-Err-grow-2-4.new.self.items ask n c.self.inside.words.len
    (all ∙ sym (told-length word_beside ws ns c.self.inside.said)) c.self.inside.words.ok.0 c.in_default-resize.ensures.items
    c.truncate-in-Err-grow-2-4.ensures.items in
    let entries : n ≡ length c.self.inside.nexts = known ∙ c.self.invariant.0 ∙ sym c.self.invariant.1 in
    let nexts = cut-grown c.self.inside.nexts _ c.truncate-in-Err-grow-2-5.new.self None n entries c.in_default-grow.ensures.ok
    c.truncate-in-Err-grow-2-5.ensures in
    let same : ns ≡ nodes_of c.truncate-in-Err-grow-2-2.new.self.items c.truncate-in-Err-grow-2-5.new.self c.grow-2.new.self =
    λ i. nodes_of (sym marks i) (sym nexts i) (sym c.in-Err-grow-2.ensures.err i) in (
      told ∙ c.self.inside.told ∙ ap (map is_protected_node) same,
      (said ∙ c.self.inside.said ∙ ap (map word_beside) same, tt),
    )
