-- A list of slots by the links: what stays of it after a change, its first slot, a slot put in front.
use Rattle.std.proofs.Common.{◌≡◌, ◌≢◌, ℕ, zero, suc, ◌<◌, ◌≤◌, ◌⊎◌, inl, inr, List, [], ◌∷◌, ◌++◌}
use Rattle.std.proofs.Common.{length, get_or, set, Some, None, IfSome, refl, sym, ap, subst, ◌∙◌, arith}
use Rattle.std.specs.Prelude.{Option}
use Rattle.rx_arena.specs.Put.{times, times_in}
use Rattle.rx_arena.specs.Inner.Links.{Links, LeadsOn, IsChain, Listed, AreChains, Chained, one_chain, one_chaining}
use Rattle.rx_arena.proofs.PutLemmas.{one_or_two, one_if-same, times-append}

leads_some : (c : Option (Option ℕ)) (P : Option ℕ → Type 0) → LeadsOn c P → (next : Option ℕ) × (c ≡ Some next) × P next
leads_some None P h = absurd h
leads_some (Some next) P h = (next, refl, h)

some_leads : (c : Option (Option ℕ)) (P : Option ℕ → Type 0) (next : Option ℕ) → c ≡ Some next → P next → LeadsOn c P
some_leads c P next e h = subst (λ z. LeadsOn z P) (sym e) h

-- the links stay at the list's slots, and so does the list
pub chain_agrees : (ls ms : Links) (first : Option ℕ) (ss : List ℕ) → ((t : ℕ) → 0 < times t ss → get_or ms t None ≡ get_or ls t None)
    → IsChain ls first ss → IsChain ms first ss
chain_agrees ls ms first [] same c = c
chain_agrees ls ms first (s ∷ ss) same c =
    let l = leads_some (get_or ls s None) (λ next. IsChain ls next ss) c.1 in
    let at_s : 0 < times s (s ∷ ss) = omega (arith, one_if-same s) in (
      c.0,
      some_leads (get_or ms s None) (λ next. IsChain ms next ss) l.0 (same s at_s ∙ l.1)
          (chain_agrees ls ms l.0 ss (λ t lt. same t (omega (arith, lt))) l.2),
    )

-- the links stay but at a slot that is not in the list
pub chain_stays : (ls ms : Links) (s : ℕ) (first : Option ℕ) (ss : List ℕ) → times s ss ≡ 0 → ((t : ℕ) → t ≢ s → get_or ms t None ≡ get_or ls t None)
    → IsChain ls first ss → IsChain ms first ss
chain_stays ls ms s first ss away same c =
    chain_agrees ls ms first ss (λ t lt. same t (λ e. let here : 0 < times s ss = subst (λ z. 0 < times z ss) e lt in absurd (omega (arith, away, here)))) c

-- something lies at each slot of the list
pub member_some : (ls : Links) (first : Option ℕ) (ss : List ℕ) (t : ℕ) → IsChain ls first ss → 0 < times t ss
    → (next : Option ℕ) × (get_or ls t None ≡ Some next)
member_some ls first [] t c lt = absurd (omega (arith, lt))
member_some ls first (s ∷ ss) t c lt =
    let l = leads_some (get_or ls s None) (λ next. IsChain ls next ss) c.1 in
    elim (one_or_two s t) [
      | inl h ↦ (l.0, ap (λ (z : ℕ). get_or ls z None) (sym h.1) ∙ l.1)
      | inr h ↦ member_some ls l.0 ss t l.2 (omega (arith, lt, h.0))
    ]

-- the first slot, its link, and the rest of the list
pub popped : (ls : Links) (first : Option ℕ) (s : ℕ) (ss : List ℕ) → IsChain ls first ss → first ≡ Some s
    → (rest : List ℕ) × (ss ≡ s ∷ rest) × (next : Option ℕ) × (get_or ls s None ≡ Some next) × IsChain ls next rest
popped ls None s ss c e = absurd (cc)
popped ls (Some f) s [] c e = absurd c
popped ls (Some f) s (t ∷ ss) c e =
    let l = leads_some (get_or ls t None) (λ next. IsChain ls next ss) c.1 in
    let same : t ≡ s = let fs : f ≡ s = cc in sym c.0 ∙ fs in
    (ss, ap (λ (u : ℕ). u ∷ ss) same, l.0, ap (λ (u : ℕ). get_or ls u None) (sym same) ∙ l.1, l.2)

pub ended : (ls : Links) (first : Option ℕ) (ss : List ℕ) → IsChain ls first ss → first ≡ None → ss ≡ []
ended ls first [] c e = refl
ended ls None (t ∷ ss) c e = absurd c.0
ended ls (Some f) (t ∷ ss) c e = absurd (cc)

-- something lies at the first slot
pub first_some : (ls : Links) (first : Option ℕ) (ss : List ℕ) → IsChain ls first ss
    → IfSome first (λ s. (0 < times s ss) × ((next : Option ℕ) × (get_or ls s None ≡ Some next)))
first_some ls None ss c = tt
first_some ls (Some f) ss c =
    let p = popped ls (Some f) f ss c refl in
    (subst (λ (z : List ℕ). 0 < times f z) (sym p.1) (omega (arith, one_if-same f)), (p.2, p.3))

-- a slot that is not in the list goes in front
pub pushed : (ls ms : Links) (s : ℕ) (first : Option ℕ) (ss : List ℕ) → times s ss ≡ 0 → ((t : ℕ) → t ≢ s → get_or ms t None ≡ get_or ls t None)
    → get_or ms s None ≡ Some first → IsChain ls first ss → IsChain ms (Some s) (s ∷ ss)
pushed ls ms s first ss away same at_s c =
    (refl, some_leads (get_or ms s None) (λ next. IsChain ms next ss) first at_s (chain_stays ls ms s first ss away same c))

-- a slot's link leads past the slot after it
pub skipped : (ls ms : Links) (b s : ℕ) (first : Option ℕ) (front rest : List ℕ) (next : Option ℕ) → ((t : ℕ) → times t (front ++ b ∷ s ∷ rest) ≤ 1)
    → ((t : ℕ) → t ≢ b → get_or ms t None ≡ get_or ls t None)
    → get_or ls s None ≡ Some next → get_or ms b None ≡ Some next → IsChain ls first (front ++ b ∷ s ∷ rest) → IsChain ms first (front ++ b ∷ rest)
skipped ls ms b s first [] rest next once same at_s at_b c =
    let one = leads_some (get_or ls b None) (λ n. IsChain ls n (s ∷ rest)) c.1 in
    let two = leads_some (get_or ls s None) (λ n. IsChain ls n rest) one.2.1 in
    let is : two.0 ≡ next = let there = two.1 in cc in
    let away : times b rest ≡ 0 = omega (arith, once b, one_if-same b) in
    (c.0, some_leads (get_or ms b None) (λ n. IsChain ms n rest) next at_b (subst (λ z. IsChain ms z rest) is (chain_stays ls ms b two.0 rest away same two.2)))
skipped ls ms b s first (f ∷ fs) rest next once same at_s at_b c =
    let one = leads_some (get_or ls f None) (λ n. IsChain ls n (fs ++ b ∷ s ∷ rest)) c.1 in
    elim (one_or_two f b) [
      | inl h ↦ absurd (omega (arith, once b, h.0, times-append b fs (b ∷ s ∷ rest), one_if-same b))
      | inr h ↦ (
        c.0,
        some_leads (get_or ms f None) (λ n. IsChain ms n (fs ++ b ∷ rest)) one.0 (same f h.1 ∙ one.1)
            (skipped ls ms b s one.0 fs rest next (λ t. omega (arith, once t)) same at_s at_b one.2),
      )
    ]

-- from a slot in the list the links lead through what comes after it
pub chain_after : (ls : Links) (first : Option ℕ) (before : List ℕ) (s : ℕ) (after : List ℕ) → IsChain ls first (before ++ s ∷ after)
    → (next : Option ℕ) × (get_or ls s None ≡ Some next) × IsChain ls next after
chain_after ls first [] s after c = leads_some (get_or ls s None) (λ next. IsChain ls next after) c.1
chain_after ls first (b ∷ bs) s after c = let l = leads_some (get_or ls b None) (λ next. IsChain ls next (bs ++ s ∷ after)) c.1 in
    chain_after ls l.0 bs s after l.2

-- a list that the links make is the one
pub listed_is : (ls : Links) (first : Option ℕ) (l : Listed ls first) (ss : List ℕ) → IsChain ls first ss → l.0 ≡ ss
listed_is ls first l ss c = one_chain ls first l.0 ss l.1 c

pub chained_is : (ls : Links) (heads : List (Option ℕ)) (l : Chained ls heads) (css : List (List ℕ)) → AreChains ls heads css → l.0 ≡ css
chained_is ls heads l css c = one_chaining ls heads l.0 css l.1 c

pub chains-length : (ls : Links) (hs : List (Option ℕ)) (css : List (List ℕ)) → AreChains ls hs css → length hs ≡ length css
chains-length ls [] [] a = refl
chains-length ls [] (c ∷ cs) a = absurd a
chains-length ls (h ∷ hs) [] a = absurd a
chains-length ls (h ∷ hs) (c ∷ cs) a = ap suc (chains-length ls hs cs a.1)

pub chain_at : (ls : Links) (hs : List (Option ℕ)) (css : List (List ℕ)) (i : ℕ) → AreChains ls hs css → IsChain ls (get_or hs i None) (get_or css i [])
chain_at ls [] [] i a = tt
chain_at ls [] (c ∷ cs) i a = absurd a
chain_at ls (h ∷ hs) [] i a = absurd a
chain_at ls (h ∷ hs) (c ∷ cs) zero a = a.0
chain_at ls (h ∷ hs) (c ∷ cs) (suc i) a = chain_at ls hs cs i a.1

pub chains_agree : (ls ms : Links) (hs : List (Option ℕ)) (css : List (List ℕ)) → ((t : ℕ) → 0 < times_in t css → get_or ms t None ≡ get_or ls t None)
    → AreChains ls hs css → AreChains ms hs css
chains_agree ls ms [] [] same a = tt
chains_agree ls ms [] (c ∷ cs) same a = absurd a
chains_agree ls ms (h ∷ hs) [] same a = absurd a
chains_agree ls ms (h ∷ hs) (c ∷ cs) same a =
    (chain_agrees ls ms h c (λ t lt. same t (omega (arith, lt))) a.0, chains_agree ls ms hs cs (λ t lt. same t (omega (arith, lt))) a.1)

pub chains_stay : (ls ms : Links) (s : ℕ) (hs : List (Option ℕ)) (css : List (List ℕ)) → times_in s css ≡ 0
    → ((t : ℕ) → t ≢ s → get_or ms t None ≡ get_or ls t None) → AreChains ls hs css → AreChains ms hs css
chains_stay ls ms s hs css away same a =
    chains_agree ls ms hs css (λ t lt. same t (λ e. let here : 0 < times_in s css = subst (λ z. 0 < times_in z css) e lt in
    absurd (omega (arith, away, here)))) a

pub chains-set : (ls : Links) (hs : List (Option ℕ)) (css : List (List ℕ)) (i : ℕ) (h : Option ℕ) (c : List ℕ) → AreChains ls hs css → IsChain ls h c
    → AreChains ls (set hs i h) (set css i c)
chains-set ls [] [] i h c a is = tt
chains-set ls [] (y ∷ cs) i h c a is = absurd a
chains-set ls (x ∷ hs) [] i h c a is = absurd a
chains-set ls (x ∷ hs) (y ∷ cs) zero h c a is = (is, a.1)
chains-set ls (x ∷ hs) (y ∷ cs) (suc i) h c a is = (a.0, chains-set ls hs cs i h c a.1 is)

-- none or some
pub one_or_more : (n : ℕ) → (n ≡ 0) ⊎ (0 < n)
one_or_more zero = inl refl
one_or_more (suc n) = inr (omega arith)

-- where chain t holds the slot it can be split there
pub split_at : (s : ℕ) (ss : List ℕ) → 0 < times s ss → (before : List ℕ) × ((after : List ℕ) × (ss ≡ before ++ s ∷ after))
split_at s [] lt = absurd (omega (arith, lt))
split_at s (t ∷ ts) lt =
    elim (one_or_two t s) [
      | inl h ↦ ([], (ts, ap (λ (z : ℕ). z ∷ ts) h.1))
      | inr h ↦ (let r = split_at s ts (omega (arith, lt, h.0)) in (t ∷ r.0, (r.1.0, ap (λ (z : List ℕ). t ∷ z) r.1.1)))
    ]

-- one of the chains holds the slot
pub some_chain : (s : ℕ) (css : List (List ℕ)) → 0 < times_in s css → (c : ℕ) × (c < length css) × (0 < times s (get_or css c []))
some_chain s [] lt = absurd (omega (arith, lt))
some_chain s (c ∷ cs) lt =
    elim (one_or_more (times s c)) [
      | inl z ↦ (let r = some_chain s cs (omega (arith, lt, z)) in (suc r.0, omega (arith, r.1), r.2))
      | inr p ↦ (0, omega arith, p)
    ]
