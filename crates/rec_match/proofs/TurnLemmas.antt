-- Where a switch leads.
use Rattle.std.proofs.Common.{refl, sym, ap, ◌∙◌}
use Rattle.std.specs.Prelude.{ℕ, ◌≡◌, ◌≢◌, Bool, not, List, Option, Some, None, IsSome}
use Rattle.rx_term.specs.Name.{Signature, plain_name}
use Rattle.rx_term.specs.Tree.{Tree, Trees, Int, Appl, Items, Hole, none, more, count_of}
use Rattle.rx_term.specs.Store.{Store, tree_at, signature_of, part_at, args_of, anns_of}
use Rattle.rx_term.specs.Kinds.{HasKind, HasAppl, HasAnns}
use Rattle.rx_term.specs.Steps.{IsSound}
use Rattle.rx_term.specs.declared.Term.{Term}
use Rattle.rx_term.specs.declared.Symbol as bank
use Rattle.rx_term.specs.declared.Kind.{Kind}
use Rattle.rx_term.specs.declared.Kind.TheVariants as kind
use Rattle.rx_term.specs.Walks.{held_tree}
use Rattle.rec_syntax.specs.Syntax.{Spec}
use Rattle.rec_sorts.specs.Binding.{application}
use Rattle.rec_sorts.specs.Numbering.{name_of, arity_of}
use Rattle.rec_sorts.specs.declared.letters.Meaning.TheVariants.{Symbol}
use Rattle.rec_match.specs.Bound.{opened}
use Rattle.rec_match.specs.Inner.Held.{or_empty}
use Rattle.rec_match.specs.Forests.{number_at, AreNumbers, Cases, case_at, AreCases, IsChild, OpensNoCase, OpensCase}
use Rattle.rec_sorts.specs.Linked.{signature}
use Rattle.rec_match.specs.declared.forest.Child.{Child}
use Rattle.rec_match.proofs.BoundLemmas.{opened_is}

pub unopened : (name : List ℕ) (k : ℕ) (u : Tree) → ((us : Trees) → application name us ≡ u → count_of us ≡ k → ⊥) → opened name k u ≡ None
unopened name k u h = by (opened name k u) refl
  where
    by : (o : Option Trees) → opened name k u ≡ o → o ≡ None
    by None e = refl
    by (Some us) e = let o = opened_is name k u us e in absurd (h us o.0 o.1)

-- what is no application opens nothing
pub other_opens_none : (w : Store) (u : Term) (k : Kind) → HasKind w u k → ((f : bank.Symbol) → k ≢ kind.Appl f) → (name : List ℕ) (n : ℕ)
    → opened name n (held_tree w u) ≡ None
other_opens_none w u (kind.Int z) h apart name n = unopened name n (held_tree w u) (λ us e c.
    (let is : held_tree w u ≡ Int z h.anns = ap or_empty h.here in cc (e, is)))
other_opens_none w u kind.Nil h apart name n = unopened name n (held_tree w u) (λ us e c.
    (let is : held_tree w u ≡ Items none h.anns = ap or_empty h.here in cc (e, is)))
other_opens_none w u kind.Cons h apart name n = unopened name n (held_tree w u) (λ us e c.
    (let is : held_tree w u ≡ Items (more h.first h.rest) h.anns = ap or_empty h.here in cc (e, is)))
other_opens_none w u (kind.Appl f) h apart name n = absurd (apart f refl)
other_opens_none w u kind.Hole h apart name n = unopened name n (held_tree w u) (λ us e c.
    (let is : held_tree w u ≡ Hole h.inside h.anns = ap or_empty h.here in cc (e, is)))

-- nor does what has annotations
pub annotated_opens_none : (w : Store) (u : Term) (f : bank.Symbol) (a : Term) → HasAppl w u f → HasAnns w u (Some a) → (name : List ℕ) (n : ℕ)
    → opened name n (held_tree w u) ≡ None
annotated_opens_none w u f a h notes name n = unopened name n (held_tree w u) (λ us e c. by us e h.anns h.here)
  where
    by : (us : Trees) → application name us ≡ held_tree w u → (anns : Trees) → tree_at w u ≡ Some (Appl h.name h.quoted h.args anns) → ⊥
    by us e none here = let p : part_at anns_of w u ≡ None = rw here refl in let q : IsSome (part_at anns_of w u) = notes.0 in cc (p, q)
    by us e (more x xs) here = let is : held_tree w u ≡ Appl h.name h.quoted h.args (more x xs) = ap or_empty here in cc (e, is)

-- the annotations of what has none
pub bare : (w : Store) (u : Term) (f : bank.Symbol) (h : HasAppl w u f) → HasAnns w u None → h.anns ≡ none
bare w u f h notes = by h.anns h.here
  where
    by : (anns : Trees) → tree_at w u ≡ Some (Appl h.name h.quoted h.args anns) → anns ≡ none
    by none here = refl
    by (more x xs) here = absurd (let p : part_at anns_of w u ≡ Some (Items (more x xs) none) = rw here refl in let q : part_at anns_of w u ≡ None =
        notes in cc (p, q))

-- a symbol without a child
pub childless : (y : Spec) (w : Store) (ns : List ℕ) (s : Cases) (u : Term) (f : bank.Symbol) → IsSound w → AreNumbers y w ns → HasAppl w u f
    → (case_at s f.0).node ≡ 0 → OpensNoCase y ns s (held_tree w u)
childless y w ns s u f sound linked h none_there k lt there = unopened (name_of y (Symbol k)) (arity_of y k) (held_tree w u) no
  where
    sign : List ℕ → Bool → ℕ → Signature
    sign name quoted n = record { name = name; quoted = quoted; arity = n }

    no : (us : Trees) → application (name_of y (Symbol k)) us ≡ held_tree w u → count_of us ≡ arity_of y k → ⊥
    no us e c =
        let is : application (name_of y (Symbol k)) us ≡ Appl h.name h.quoted h.args h.anns = e ∙ ap or_empty h.here in
        let name : name_of y (Symbol k) ≡ h.name = cc is in
        let quoted : not (plain_name (name_of y (Symbol k))) ≡ h.quoted = cc is in
        let args : us ≡ h.args = cc is in
        let counted : arity_of y k ≡ count_of h.args = sym c ∙ ap count_of args in
        let same : signature y k ≡ sign h.name h.quoted (count_of h.args) =
        ap (λ x. sign x (not (plain_name (name_of y (Symbol k)))) (arity_of y k)) name ∙ ap (λ x. sign h.name x (arity_of y k)) quoted
        ∙ ap (λ x. sign h.name h.quoted x) counted in
        let f_is : record { 0 = number_at ns k } ≡ f = sound.symbols_one_to_one (record { 0 = number_at ns k }) f (signature y k) (linked k lt)
        (h.symbol ∙ ap (λ x. let o : Option Signature = Some x in o) (sym same)) in
        there (ap (λ x. (case_at s x).node) (ap (λ (x : bank.Symbol). x.0) f_is) ∙ none_there)

-- a symbol with a child
pub opens_case : (y : Spec) (w : Store) (ns : List ℕ) (s : Cases) (u : Term) (f : bank.Symbol) (child : Child) → AreNumbers y w ns → AreCases y ns s
    → (h : HasAppl w u f) → h.anns ≡ none
    → child ≡ case_at s f.0 → child.node ≢ 0 → OpensCase y ns s (held_tree w u) h.args child.node × (count_of h.args ≡ child.count)
opens_case y w ns s u f child linked cases h bare is there =
    let k : IsChild y ns f.0 (case_at s f.0) = cases f.0 (λ e. there (ap (λ (c : Child). c.node) is ∙ e)) in
    let signed : Some (signature y k.symbol) ≡ Some (record { name = h.name; quoted = h.quoted; arity = count_of h.args }) =
    sym (linked k.symbol k.declared) ∙ ap (λ q. signature_of w (record { 0 = q })) k.numbered ∙ h.symbol in
    let same : signature y k.symbol ≡ record { name = h.name; quoted = h.quoted; arity = count_of h.args } = cc signed in
    let name : name_of y (Symbol k.symbol) ≡ h.name = ap (λ (g : Signature). g.name) same in
    let quoted : not (plain_name (name_of y (Symbol k.symbol))) ≡ h.quoted = ap (λ (g : Signature). g.quoted) same in
    let counted : arity_of y k.symbol ≡ count_of h.args = ap (λ (g : Signature). g.arity) same in (
      record {
        symbol = k.symbol;
        declared = k.declared;
        child = ap (λ q. (case_at s q).node) k.numbered ∙ ap (λ (c : Child). c.node) (sym is);
        there = there;
        is = ap or_empty h.here ∙ ap (Appl h.name h.quoted h.args) bare
            ∙ sym (ap (λ x. Appl x (not (plain_name (name_of y (Symbol k.symbol)))) h.args none) name ∙ ap (λ x. Appl h.name x h.args none) quoted);
        counted = sym counted;
      },
      sym counted ∙ sym k.counted ∙ ap (λ (c : Child). c.count) (sym is),
    )

-- the arguments of an application
pub argument_list : (w : Store) (u r : Term) (f : bank.Symbol) (h : HasAppl w u f) → tree_at w r ≡ part_at args_of w u → tree_at w r ≡ Some (Items h.args none)
argument_list w u r f h e = rw (e, h.here) refl
