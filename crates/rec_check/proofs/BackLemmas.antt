-- A left side that is asked of a term from right to left matches where `binds` says so.
use Rattle.std.proofs.Common.{refl, sym, ap, subst, arith, ◌∙◌}
use Rattle.std.proofs.lemmas.List.{append-nil, reverse-append}
use Rattle.std.specs.Prelude.{◌≡◌, Bool, true, false, List, [], ◌∷◌, ◌++◌, reverse, Option, Some, None, is_some}
use Rattle.std.proofs.Common.{append_assoc}
use Rattle.rx_term.specs.Tree.{Tree, Trees, none, more, count_of}
use Rattle.rec_syntax.specs.Tokens.{Word}
use Rattle.rec_syntax.specs.Syntax.{Term, Terms, Apply, Spec}
use Rattle.rec_sorts.specs.Lookup.{is_variable, count}
use Rattle.rec_sorts.specs.Binding.{Substitution, instance, instances, binds}
use Rattle.rec_sorts.specs.Laws.{BindsVariables, BindsVariablesAll, IsPartOf}
use Rattle.rec_sorts.specs.Numbering.{Named, named, named_all}
use Rattle.rec_match.specs.Bound.{opened, bound, goes_on}
use Rattle.rec_match.specs.Inner.Asking.{stack_on}
use Rattle.rec_sorts.proofs.BindingLemmas.{binding_law}
use Rattle.rec_match.proofs.FactLemmas.{AreBare, every_append}
use Rattle.rec_match.proofs.BoundLemmas.{BindsOnly, Comes, Walked, WalkedAll, binds_variables, grown_all, opened_is}
use Rattle.rec_match.proofs.StepLemmas.{stepped, step_comes}
use Rattle.rec_check.specs.Inner.Trials.{asked}

abbrev mutual
  -- a left side asked of a tree, the last argument first
  pub walk : Spec → Term → Tree → Substitution → Option Substitution
  walk y (Apply w ts) u s = elim (is_variable y w.bytes) [ true ↦ bound s w.bytes u | false ↦ goes_on (opened w.bytes (count ts) u) (λ us. walk_all y ts us s) ]

  pub walk_all : Spec → Terms → Trees → Substitution → Option Substitution
  walk_all y Terms.none none s = Some s
  walk_all y Terms.none (more u us) s = None
  walk_all y (Terms.more t ts) none s = None
  walk_all y (Terms.more t ts) (more u us) s = goes_on (walk_all y ts us s) (λ r. walk y t u r)

mutual
  walked : (y : Spec) (t : Term) (u : Tree) (s s' : Substitution) → BindsOnly y s → walk y t u s ≡ Some s' → Walked y t u s s'
  walked y (Apply w ts) u s s' only e = stepped y w ts s (λ us. walk_all y ts us s) u s' only e (λ us g. walked_all y ts us s s' only g)

  walked_all : (y : Spec) (ts : Terms) (us : Trees) (s s' : Substitution) → BindsOnly y s → walk_all y ts us s ≡ Some s' → WalkedAll y ts us s s'
  walked_all y Terms.none none s s' only e =
      let same : s ≡ s' = cc e in
      subst (λ r. WalkedAll y Terms.none none s r) same (record { part = λ x v g. g; only = only; binding = tt; is = refl })
  walked_all y Terms.none (more u us) s s' only e = absurd (cc e)
  walked_all y (Terms.more t ts) none s s' only e = absurd (cc e)
  walked_all y (Terms.more t ts) (more u us) s s' only e = by (walk_all y ts us s) refl e (λ r f. walked_all y ts us s r only f) (λ r f g.
      walked y t u r s' f g)
    where
      by : (o : Option Substitution) → walk_all y ts us s ≡ o → goes_on o (λ r. walk y t u r) ≡ Some s'
          → ((r : Substitution) → walk_all y ts us s ≡ Some r → WalkedAll y ts us s r)
          → ((r : Substitution) → BindsOnly y r → walk y t u r ≡ Some s' → Walked y t u r s')
          → WalkedAll y (Terms.more t ts) (more u us) s s'
      by None h e all first = absurd (cc e)
      by (Some r) h e all first =
          let a : WalkedAll y ts us s r = all r h in
          let b : Walked y t u r s' = first r a.only e in
          let g = grown_all y r s' b.part b.only ts a.binding in
          record {
            part = λ x v f. b.part x v (a.part x v f);
            only = b.only;
            binding = (b.binding, g.0);
            is = ap (λ x. more x (instances s' ts)) b.is ∙ ap (more u) (g.1 ∙ a.is);
          }

mutual
  -- where a substitution makes the term a tree, the walk over the tree comes to a part of it
  comes : (y : Spec) (g : Substitution) (t : Term) → BindsVariables y g t → (s : Substitution) → IsPartOf s g → Comes (walk y t (instance g t) s) g
  comes y g (Apply w ts) h s part = step_comes y w ts s (λ us. walk_all y ts us s) g h part (λ k. comes_all y g ts k s part)

  comes_all : (y : Spec) (g : Substitution) (ts : Terms) → BindsVariablesAll y g ts → (s : Substitution) → IsPartOf s g
      → Comes (walk_all y ts (instances g ts) s) g
  comes_all y g Terms.none h s part = (s, refl, part)
  comes_all y g (Terms.more t ts) h s part =
      let all = comes_all y g ts h.1 s part in
      let first = comes y g t h.0 all.0 all.2 in
      subst (λ o. Comes (goes_on o (λ r. walk y t (instance g t) r)) g) (sym all.1) first

-- the walk comes to something where `binds` does
pub walk_binds : (y : Spec) (l : Term) (u : Tree) → is_some (walk y l u []) ≡ is_some (binds y l u)
walk_binds y l u = by (walk y l u []) (binds y l u) refl refl
  where
    nothing : BindsOnly y []
    nothing = λ x v f. absurd (cc f)

    found : (s : Substitution) → binds y l u ≡ Some s → Comes (walk y l u []) s
    found s e = subst (λ x. Comes (walk y l x []) s) ((binding_law y l u).0 s e) (comes y s l (binds_variables y l u s e) [] (λ x v f. absurd (cc f)))

    sound : (a : Substitution) → walk y l u [] ≡ Some a → (s : Substitution) × (binds y l u ≡ Some s) × IsPartOf s a
    sound a e = let k : Walked y l u [] a = walked y l u [] a nothing e in (binding_law y l u).1 a k.binding k.is

    by : (o p : Option Substitution) → walk y l u [] ≡ o → binds y l u ≡ p → is_some o ≡ is_some p
    by (Some a) (Some b) e f = refl
    by (Some a) None e f = let k = sound a e in absurd (cc (sym k.1 ∙ f))
    by None (Some b) e f = let c = found b f in absurd (cc (sym c.1 ∙ e))
    by None None e f = refl

abbrev pub IsBare : Spec → Named → Type 0
IsBare y m = is_variable y m.name ≡ true → m.arguments ≡ 0

abbrev pub named_at : Word → Terms → Named
named_at w ts = record { name = w.bytes; arguments = count ts }

pub no_count : (ts : Terms) → count ts ≡ 0 → ts ≡ Terms.none
no_count Terms.none e = refl
no_count (Terms.more t ts) e = absurd (cc e)

mutual
  -- asking a term's names is walking over it
  asked_walk : (y : Spec) (t : Term) (ms : List Named) (u : Tree) (st : List Tree) (s : Substitution) → AreBare y (named t)
      → asked y (reverse (named t) ++ ms) (u ∷ st) s ≡ goes_on (walk y t u s) (λ r. asked y ms st r)
  asked_walk y (Apply w ts) ms u st s bare =
      let split = every_append (IsBare y) (named_all ts) (named_at w ts ∷ []) bare in
      ap (λ ns. asked y (ns ++ ms) (u ∷ st) s) (reverse-append (named_all ts) (named_at w ts ∷ []))
      ∙ by (is_variable y w.bytes) refl (split.1.0) (λ us e. asked_walk_all y ts ms us st s split.0 e)
    where
      by_variable : (zs : Terms) → zs ≡ Terms.none → goes_on (bound s w.bytes u) (λ r. asked y (reverse (named_all zs) ++ ms) st r) ≡ goes_on
          (bound s w.bytes u) (λ r. asked y ms st r)
      by_variable zs e = ap (λ xs. goes_on (bound s w.bytes u) (λ r. asked y (reverse (named_all xs) ++ ms) st r)) e

      by_opened : (o : Option Trees) → opened w.bytes (count ts) u ≡ o
          → ((us : Trees) → count_of us ≡ count ts → asked y (reverse (named_all ts) ++ ms) (stack_on us st) s ≡ goes_on (walk_all y ts us s) (λ r.
          asked y ms st r))
          → goes_on o (λ us. asked y (reverse (named_all ts) ++ ms) (stack_on us st) s) ≡ goes_on (goes_on o (λ us. walk_all y ts us s)) (λ r. asked y ms st r)
      by_opened None h later = refl
      by_opened (Some us) h later = later us (opened_is w.bytes (count ts) u us h).1

      by : (b : Bool) → is_variable y w.bytes ≡ b → (is_variable y w.bytes ≡ true → count ts ≡ 0)
          → ((us : Trees) → count_of us ≡ count ts → asked y (reverse (named_all ts) ++ ms) (stack_on us st) s ≡ goes_on (walk_all y ts us s) (λ r.
          asked y ms st r))
          → ◌≡◌ {A = Option Substitution}
          (elim b [
            | true ↦ goes_on (bound s w.bytes u) (λ r. asked y (reverse (named_all ts) ++ ms) st r)
            | false ↦ goes_on
                (opened w.bytes (count ts) u) (λ us. asked y (reverse (named_all ts) ++ ms) (stack_on us st) s)
          ])
          (goes_on (elim b [ true ↦ bound s w.bytes u | false ↦ goes_on (opened w.bytes (count ts) u) (λ us. walk_all y ts us s) ]) (λ r. asked y ms st r))
      by true e h later = by_variable ts (no_count ts (h e))
      by false e h later = by_opened (opened w.bytes (count ts) u) refl later

  asked_walk_all : (y : Spec) (ts : Terms) (ms : List Named) (us : Trees) (st : List Tree) (s : Substitution) → AreBare y (named_all ts)
      → count_of us ≡ count ts
      → asked y (reverse (named_all ts) ++ ms) (stack_on us st) s ≡ goes_on (walk_all y ts us s) (λ r. asked y ms st r)
  asked_walk_all y Terms.none ms none st s bare e = refl
  asked_walk_all y Terms.none ms (more u us) st s bare e = absurd (let no : ⊥ = omega arith in no)
  asked_walk_all y (Terms.more t ts) ms none st s bare e = absurd (let no : ⊥ = omega arith in no)
  asked_walk_all y (Terms.more t ts) ms (more u us) st s bare e =
      let split = every_append (IsBare y) (named t) (named_all ts) bare in
      ap (λ ns. asked y (ns ++ ms) (stack_on us (u ∷ st)) s) (reverse-append (named t) (named_all ts))
      ∙ ap (λ ns. asked y ns (stack_on us (u ∷ st)) s) (append_assoc (reverse (named_all ts)) (reverse (named t)) ms)
      ∙ asked_walk_all y ts (reverse (named t) ++ ms) us (u ∷ st) s split.1 (omega arith)
      ∙ by (walk_all y ts us s) (λ r. asked_walk y t ms u st r split.0)
    where
      by : (o : Option Substitution) → ((r : Substitution) → asked y (reverse (named t) ++ ms) (u ∷ st) r ≡ goes_on (walk y t u r) (λ q. asked y ms st q))
          → goes_on o (λ r. asked y (reverse (named t) ++ ms) (u ∷ st) r) ≡ goes_on (goes_on o (λ r. walk y t u r)) (λ q. asked y ms st q)
      by None first = refl
      by (Some r) first = first r

-- asking all names of a left side of one tree comes to something where `binds` does
pub asked_binds : (y : Spec) (l : Term) (u : Tree) → AreBare y (named l) → is_some (asked y (reverse (named l)) (u ∷ []) []) ≡ is_some (binds y l u)
asked_binds y l u bare = ap is_some is ∙ walk_binds y l u
  where
    by : (o : Option Substitution) → goes_on o (λ r. Some r) ≡ o
    by None = refl
    by (Some r) = refl

    is : asked y (reverse (named l)) (u ∷ []) [] ≡ walk y l u []
    is = ap (λ ns. asked y ns (u ∷ []) []) (sym (append-nil (reverse (named l)))) ∙ asked_walk y l [] u [] [] bare ∙ by (walk y l u [])
