-- The words of the whole specification.
use Rattle.std.proofs.Common.{◌≡◌, List, [], ◌∷◌, ◌++◌, refl, sym, ap, ◌∙◌, append_assoc}
use Rattle.std.proofs.lemmas.List.Concat.{flat_map-append}
use Rattle.std.specs.Prelude.{map, flat_map}
use Rattle.rec_syntax.specs.Tokens.{Word}
use Rattle.rec_syntax.specs.Syntax.{Term, Declaration, Variables, Rule, Spec, subterms}
use Rattle.rec_sorts.specs.Lookup.{rule_terms}
use Rattle.rec_sorts.specs.SpecRules.{everywhere, heads}
use Rattle.rec_sorts.proofs.StackLemmas.{map-append}
use Rattle.rec_uses.specs.Inner.Values.{term_uses, used_as}
use Rattle.rec_uses.specs.declared.uses.Role.TheVariants as role
use Rattle.rec_uses.specs.Uses.{Use, declaration_uses, group_uses, name_use, sort_use, uses}

-- the words of terms in turn
pub terms_used : (ts : List Term) → flat_map term_uses ts ≡ map name_use (heads (everywhere ts))
terms_used [] = refl
terms_used (t ∷ ts) =
    ap (λ us. term_uses t ++ us) (terms_used ts)
    ∙ sym (map-append name_use (heads (subterms t)) (heads (everywhere ts)))
    ∙ ap (map name_use) (sym (map-append _ (subterms t) (everywhere ts)))

pub all_used : (y : Spec) → map sort_use y.sorts ++ flat_map declaration_uses y.constructors ++ flat_map declaration_uses y.operators
    ++ flat_map group_uses y.variables ++ flat_map term_uses (rule_terms y.rules) ++ flat_map term_uses y.terms ≡ uses y
all_used y =
    let sorts = map sort_use y.sorts in
    let constructors = flat_map declaration_uses y.constructors in
    let operators = flat_map declaration_uses y.operators in
    let groups = flat_map group_uses y.variables in
    let front = sorts ++ constructors ++ operators ++ groups in
    append_assoc front (flat_map term_uses (rule_terms y.rules)) (flat_map term_uses y.terms)
    ∙ ap (λ us. front ++ us) (sym (flat_map-append term_uses (rule_terms y.rules) y.terms) ∙ terms_used (rule_terms y.rules ++ y.terms))
    ∙ ap (λ us. us ++ groups ++ map name_use (heads (everywhere (rule_terms y.rules ++ y.terms)))) (append_assoc sorts constructors operators
    ∙ ap (λ us. sorts ++ us) (sym (flat_map-append declaration_uses y.constructors y.operators)))

-- the sections were pushed in turn, on no words
pub all_pushed : (y : Spec) (ss : List Word) (cs os : List Declaration) (gs : List Variables) (rs : List Rule) (ts : List Term)
    (z a b c d e f : List Use) → ss ≡ y.sorts → cs ≡ y.constructors → os ≡ y.operators → gs ≡ y.variables → rs ≡ y.rules → ts ≡ y.terms
    → z ≡ [] → a ≡ z ++ map (used_as role.Sort) ss → b ≡ a ++ flat_map declaration_uses cs → c ≡ b ++ flat_map declaration_uses os
    → d ≡ c ++ flat_map group_uses gs → e ≡ d ++ flat_map term_uses (rule_terms rs) → f ≡ e ++ flat_map term_uses ts → f ≡ uses y
all_pushed y ss cs os gs rs ts z a b c d e f iss ics ios igs irs its iz ia ib ic id ie if_ =
    if_
    ∙ ap (λ us. us ++ flat_map term_uses ts) (ie
    ∙ ap (λ us. us ++ flat_map term_uses (rule_terms rs)) (id
    ∙ ap (λ us. us ++ flat_map group_uses gs) (ic
    ∙ ap (λ us. us ++ flat_map declaration_uses os) (ib
    ∙ ap (λ us. us ++ flat_map declaration_uses cs) (ia ∙ ap (λ us. us ++ map sort_use ss) iz ∙ ap (map sort_use) iss)
    ∙ ap (λ ds. map sort_use y.sorts ++ flat_map declaration_uses ds) ics)
    ∙ ap (λ ds. map sort_use y.sorts ++ flat_map declaration_uses y.constructors ++ flat_map declaration_uses ds) ios)
    ∙ ap (λ vs. map sort_use y.sorts ++ flat_map declaration_uses y.constructors ++ flat_map declaration_uses y.operators ++ flat_map group_uses vs) igs)
    ∙ ap (λ qs. map sort_use y.sorts ++ flat_map declaration_uses y.constructors ++ flat_map declaration_uses y.operators
    ++ flat_map group_uses y.variables ++ flat_map term_uses (rule_terms qs)) irs)
    ∙ ap (λ us. map sort_use y.sorts ++ flat_map declaration_uses y.constructors ++ flat_map declaration_uses y.operators
    ++ flat_map group_uses y.variables ++ flat_map term_uses (rule_terms y.rules) ++ flat_map term_uses us) its
    ∙ all_used y
