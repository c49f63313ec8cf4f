-- References with what a memo hands over.
use Rattle.std.proofs.Common.{List, IsSome, inl, inr, sym, subst}
use Rattle.rx_term.specs.declared.Term.{Term}
use Rattle.rx_term.specs.Store.{Store, tree_at}
use Rattle.rx_term.specs.Walks.{AllHeld}
use Rattle.rec_memo.specs.Pairs.{Pairs}
use Rattle.rec_memo.specs.Handed.{IsOfPair, HandsOver}

pub hands-none : (w : Store) (m : Pairs) (xs : List Term) → HandsOver w m xs xs
hands-none w m xs = record { all = λ t i. i; others = λ t i. inl i }

pub hands-more : {w : Store} {m : Pairs} {xs ys zs : List Term} → HandsOver w m xs ys → HandsOver w m ys zs → HandsOver w m xs zs
hands-more f g = record {
  all = λ t i. g.all t (f.all t i);
  others = λ t i. elim (g.others t i) [ inl j ↦ f.others t j | inr p ↦ inr p ];
}

-- all of them are held
pub hands-held : {w : Store} {m : Pairs} {xs ys : List Term} → HandsOver w m xs ys → AllHeld w xs → AllHeld w ys
hands-held {w} {m} {xs} {ys} h held t i = elim (h.others t i) [ inl j ↦ held t j | inr p ↦ by p ]
  where
    by : IsOfPair w m t → IsSome (tree_at w t)
    by p = elim p.one [ inl e ↦ subst (λ x. IsSome (tree_at w x)) (sym e) p.key_held | inr e ↦ subst (λ x. IsSome (tree_at w x)) (sym e) p.value_held ]
