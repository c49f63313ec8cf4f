use Rattle.std.proofs.Common.{◌≡◌, ◌≤◌, ℕ, List, Ok, OnOk, length, take, length-take-le, refl, sym, subst, arith, ◌∙◌}
use Rattle.std.specs.Prelude.{vec_len}
use Rattle.std.specs.Io.KnownBytes.{Appends}
use Rattle.rx_text.specs.Written.{AppendsFront}
use Rattle.rx_text.proofs.AppendingLemmas.{on_err}
use Rattle.rx_render.specs.Layout.{atom_text, job_text}
use Rattle.rx_render.proofs.LayoutLemmas.{fitting_job, leaves_written, tree_size}
use Rattle.rx_render.proofs.indented.write_job.Goals as goal

pub returns-in-Atom-clause-written : goal.returns-in-Atom-clause-written
returns-in-Atom-clause-written g c =
    let is = c.in-Atom.is in
    let w = g.B.TermBank.store c.args.bank.now in
    let m = c.args.job.margin in
    let blanks = c.deref.result.now in
    let enough : m ≤ vec_len c.args.layout.now.blanks = c.requires.job.1 in
    let len : length blanks ≡ vec_len c.args.layout.now.blanks = c.deref.ensures.len in
    let taken : length (take m blanks) ≡ m = length-take-le m blanks (omega (arith, enough, len)) in
    let written = subst (λ k. OnOk c.write_atom.result (Appends (g.W.Write.contents c.args.out.now.writer.now)
    (g.W.Write.contents c.write_atom.new.out.writer.now) (atom_text w k c.in-Atom.atom))) taken c.write_atom.ensures.written in
    leaves_written c.write_atom.result w _ _ _ _ c.args.layout.now _ c.requires.blank refl refl (omega arith) (rw is (omega arith)) (rw is written)

pub returns-in_err-put-in-Some-clause-front : goal.returns-in_err-put-in-Some-clause-front
returns-in_err-put-in-Some-clause-front g c =
    let w = g.B.TermBank.store c.args.bank.now in
    let l = c.args.layout.now.indentation in
    let found = c.in-Some.is in
    let fits = rw found at c.in_ok-text-in-Tree.ensures.some in
    let whole = rw found at c.in_ok-text-in-Tree.ensures.whole in
    let e : job_text w l c.args.job ≡ c.in-Some.text.items =
    fitting_job w l c.args.job c.in-Tree.term c.in-Some.text.items c.in-Tree.is (rw c.in-Tree.is at c.requires.job.0) fits whole in
    on_err _ (subst (λ (text : List ℕ). AppendsFront text (g.W.Write.contents c.args.out.now.writer.now) (g.W.Write.contents c.put.new.self.writer.now))
    (c.deref-in-Some.ensures.value ∙ sym e) c.in_err-put-in-Some.ensures.front)

pub returns-in_ok-put-in-Some-clause-written : goal.returns-in_ok-put-in-Some-clause-written
returns-in_ok-put-in-Some-clause-written g c =
    let w = g.B.TermBank.store c.args.bank.now in
    let l = c.args.layout.now.indentation in
    let found = c.in-Some.is in
    let fits = rw found at c.in_ok-text-in-Tree.ensures.some in
    let whole = rw found at c.in_ok-text-in-Tree.ensures.whole in
    let e : job_text w l c.args.job ≡ c.in-Some.text.items =
    fitting_job w l c.args.job c.in-Tree.term c.in-Some.text.items c.in-Tree.is (rw c.in-Tree.is at c.requires.job.0) fits whole in
    leaves_written (Ok tt) w (job_text w l c.args.job) _ (g.W.Write.contents c.args.out.now.writer.now) (g.W.Write.contents c.put.new.self.writer.now)
    c.args.layout.now c.args.layout.now c.requires.blank refl refl (omega arith) (tree_size w c.args.job.piece c.in-Tree.term c.in-Tree.is)
    (subst (λ (text : List ℕ). Appends (g.W.Write.contents c.args.out.now.writer.now) (g.W.Write.contents c.put.new.self.writer.now) text)
    (c.deref-in-Some.ensures.value ∙ sym e) c.in_ok-put-in-Some.ensures.written)
