-- What a matcher can be asked of the symbol of one of its rules.
use Rattle.std.proofs.Common.{refl, sym, ap, subst, ◌∙◌}
use Rattle.std.proofs.lemmas.List.{get_or-map}
use Rattle.std.specs.Prelude.{ℕ, ◌≡◌, ◌<◌, ◌≤◌, List, [], length, get_or}
use Rattle.rx_term.specs.Store.{Store}
use Rattle.rx_term.specs.declared.Term.{Term}
use Rattle.rec_syntax.specs.Syntax.{Rule, Apply}
use Rattle.rec_syntax.specs.Syntax as X
use Rattle.rec_match.specs.Matching.{CanFind, IsSide, symbol_at, count_at}
use Rattle.rec_match.specs.Next.{AreReady}
use Rattle.rec_match.specs.declared.matcher.LeftSide.{LeftSide}
use Rattle.rec_match.specs.declared.matcher.Matcher.{Matcher}

no_rule : Rule
no_rule = record { left = Apply (record { at = 0; bytes = [] }) X.none; right = Apply (record { at = 0; bytes = [] }) X.none; conditions = [] }

-- the rules of a rule's symbol can be asked for, from this one on
rules_of_one : (w : Store) (m : Matcher) (at : ℕ) (work : List Term) → AreReady w m → at < length m.sides.items
    → count_at m at ≤ length work → CanFind w m (symbol_at m at) (count_at m at) at work
rules_of_one w m at work ready lt le =
    let ruled : at < length ready.spec.rules = subst (λ n. at < n) ready.ready.matcher.ruled lt in
    let side : IsSide ready.spec m.links m at (get_or ready.spec.rules at no_rule) = ready.ready.matcher.sides at no_rule ruled in
    record {
      spec = ready.spec;
      symbols = m.links;
      linked = ready.ready.linked;
      matcher = ready.ready.matcher;
      declared = side.declared;
      head = λ h. refl;
      counted = side.filled;
      long = le;
    }

-- the same by a side that is that of the rule, whose symbol has this name
pub can_find : (w : Store) (m : Matcher) (at symbol : ℕ) (work : List Term) (s : LeftSide) → AreReady w m
    → at < length m.sides.items → s ≡ get_or m.sides.items at s → s.symbol ≡ symbol → s.count ≤ length work
    → CanFind w m symbol s.count at work
can_find w m at symbol work s ready lt e same le =
    let here : symbol_at m at ≡ symbol = get_or-map (λ x. x.symbol) m.sides.items at s 0 lt ∙ sym (ap (λ x. x.symbol) e) ∙ same in
    let many : count_at m at ≡ s.count = get_or-map (λ x. x.count) m.sides.items at s 0 lt ∙ sym (ap (λ x. x.count) e) in
    subst (λ k. CanFind w m k s.count at work) here
    (subst (λ n. CanFind w m (symbol_at m at) n at work) many (rules_of_one w m at work ready lt (subst (λ n. n ≤ length work) (sym many) le)))
