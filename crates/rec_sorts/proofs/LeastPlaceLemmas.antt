-- Least places: their laws, and the first rule with a place.
use Rattle.std.proofs.Common.{refl, sym, ap, ◌∙◌, arith}
use Rattle.std.specs.Prelude.{ℕ, ◌≡◌, ◌&&◌, Bool, true, false, is_none, List, [], ◌∷◌, Option, Some, None, min, suc}
use Rattle.rec_syntax.specs.Tokens.{Word}
use Rattle.rec_sorts.specs.Lookup.{places}
use Rattle.rec_sorts.specs.SpecRules.{Broken, Fault, first_broken, least}
use Rattle.rec_sorts.specs.Least.{earlier, least_place, is_nowhere, joined}
use Rattle.rec_sorts.specs.SortFaults.{first_place}
use Rattle.rec_sorts.specs.declared.places.TermPlaces.{TermPlaces}

pub earlier_none : (p : Option ℕ) → earlier p None ≡ p
earlier_none None = refl
earlier_none (Some p) = refl

pub earlier_assoc : (p q r : Option ℕ) → earlier (earlier p q) r ≡ earlier p (earlier q r)
earlier_assoc None q r = refl
earlier_assoc (Some p) None r = refl
earlier_assoc (Some p) (Some q) None = refl
earlier_assoc (Some p) (Some q) (Some r) = ap (λ (k : ℕ). Some k) (omega arith)

pub earlier_comm : (p q : Option ℕ) → earlier p q ≡ earlier q p
earlier_comm None None = refl
earlier_comm None (Some q) = refl
earlier_comm (Some p) None = refl
earlier_comm (Some p) (Some q) = ap (λ (k : ℕ). Some k) (omega arith)

pub joined_assoc : (p q r : TermPlaces) → joined (joined p q) r ≡ joined p (joined q r)
joined_assoc p q r = λ i. record {
  unknown = earlier_assoc p.unknown q.unknown r.unknown i;
  ill_filled = earlier_assoc p.ill_filled q.ill_filled r.ill_filled i;
  ill_sorted = earlier_assoc p.ill_sorted q.ill_sorted r.ill_sorted i;
  ill_headed = earlier_assoc p.ill_headed q.ill_headed r.ill_headed i;
  unlike = earlier_assoc p.unlike q.unlike r.unlike i;
  unbound = earlier_assoc p.unbound q.unbound r.unbound i;
  free = earlier_assoc p.free q.free r.free i;
}

least-places : (p : ℕ) (ws : List Word) → Some (least p (places ws)) ≡ earlier (Some p) (least_place ws)
least-places p [] = refl
least-places p (w ∷ ws) = least-places (min p w.at) ws ∙ earlier_assoc (Some p) (Some w.at) (least_place ws)

-- the places are those of the rules, each as far as the rules before it are kept
abbrev pub Agree : List Broken → List (Option ℕ) → Type 0
Agree [] [] = Unit {0}
Agree (b ∷ bs) (p ∷ ps) = (p ≡ least_place b.words) × (b.words ≡ [] → Agree bs ps)
Agree _ _ = ⊥

-- the rules' numbers rise by one
abbrev pub Numbered : ℕ → List Broken → Type 0
Numbered number [] = Unit {0}
Numbered number (b ∷ bs) = (b.number ≡ number) × Numbered (suc number) bs

-- the first rule with a place is the first one that is broken
pub first_place-Agree : (number : ℕ) (bs : List Broken) (ps : List (Option ℕ)) → Numbered number bs → Agree bs ps → first_place number ps ≡ first_broken bs
first_place-Agree number [] [] n a = refl
first_place-Agree number (b ∷ bs) (p ∷ ps) n a = by_words b.words refl (λ h. first_place-Agree (suc number) bs ps n.1 h)
  where
    first_of : List Word → Option Fault
    first_of vs = elim (places vs) [ [] ↦ first_broken bs | q ∷ qs ↦ Some (record { number = b.number; at = least q qs }) ]

    by_words : (ws : List Word) → b.words ≡ ws → (Agree bs ps → first_place (suc number) ps ≡ first_broken bs) → first_place number (p ∷ ps) ≡ first_of b.words
    by_words [] e later =
        ap (λ q. first_place number (q ∷ ps)) (a.0 ∙ ap least_place e)
        ∙ later (a.1 e)
        ∙ ap first_of (sym e)
    by_words (w ∷ ws) e later =
        ap (λ q. first_place number (q ∷ ps)) (a.0 ∙ ap least_place e ∙ sym (least-places w.at ws))
        ∙ ap (λ (k : ℕ). Some (record { number = k; at = least w.at (places ws) })) (sym n.0)
        ∙ ap first_of (sym e)
first_place-Agree number [] (p ∷ ps) n a = absurd a
first_place-Agree number (b ∷ bs) [] n a = absurd a

both_true : (a b : Bool) → a && b ≡ true → (a ≡ true) × (b ≡ true)
both_true true b e = (refl, e)
both_true false b e = absurd (cc e)

earlier_kept : (p o : Option ℕ) → is_none o ≡ true → earlier p o ≡ p
earlier_kept p None e = earlier_none p
earlier_kept p (Some k) e = absurd (cc e)

-- places stay, where the others are none
pub joined_kept : (p q : TermPlaces) → is_nowhere q ≡ true → joined p q ≡ p
joined_kept p q e =
    let two = is_none q.unknown && is_none q.ill_filled in
    let four = two && is_none q.ill_sorted && is_none q.ill_headed in
    let free = both_true (four && is_none q.unlike && is_none q.unbound) (is_none q.free) e in
    let unbound = both_true (four && is_none q.unlike) (is_none q.unbound) free.0 in
    let unlike = both_true four (is_none q.unlike) unbound.0 in
    let headed = both_true (two && is_none q.ill_sorted) (is_none q.ill_headed) unlike.0 in
    let sorted = both_true two (is_none q.ill_sorted) headed.0 in
    let filled = both_true (is_none q.unknown) (is_none q.ill_filled) sorted.0 in
    λ i. record {
      unknown = earlier_kept p.unknown q.unknown filled.0 i;
      ill_filled = earlier_kept p.ill_filled q.ill_filled filled.1 i;
      ill_sorted = earlier_kept p.ill_sorted q.ill_sorted sorted.1 i;
      ill_headed = earlier_kept p.ill_headed q.ill_headed headed.1 i;
      unlike = earlier_kept p.unlike q.unlike unlike.1 i;
      unbound = earlier_kept p.unbound q.unbound unbound.1 i;
      free = earlier_kept p.free q.free free.1 i;
    }
