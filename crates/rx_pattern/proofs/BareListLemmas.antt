-- What a match adds to a store: `[]`, and lists of the store without their annotations.
use Rattle.std.proofs.Common.{◌≡◌, refl, sym, ap, ◌∙◌, subst, inl, inr}
use Rattle.rx_term.specs.Tree.{Tree, Trees, none, Items, list_of}
use Rattle.rx_term.specs.Store.{Store}
use Rattle.rx_pattern.specs.Held.{IsBareList, AddsOnlyLists}

pub adds_nothing : (w : Store) → AddsOnlyLists w w
adds_nothing w = record { lists = λ t u e. inl e; symbols = refl }

-- the items of such a list, by themselves
bare_items : (w : Store) (ts anns : Trees) → IsBareList w (Items ts anns) → IsBareList w (list_of ts)
bare_items w ts anns bare = elim bare [
  | inl e ↦ inl (let same : ts ≡ none = cc in ap list_of same)
  | inr q ↦ inr (q.0, q.1, q.2, q.3, (let e = q.4 in let same : ts ≡ q.1 = cc in ap list_of same))
]

-- a list that a new tree is taken from was there before, or is such a list itself
bare_before : (a b : Store) (u : Tree) → AddsOnlyLists a b → IsBareList b u → IsBareList a u
bare_before a b u p bare = elim bare [
  | inl e ↦ inl e
  | inr q ↦ elim (p.lists q.0 (Items q.1 q.2) q.3) [
    | inl h ↦ inr (q.0, q.1, q.2, h, q.4)
    | inr h ↦ subst (IsBareList a) (sym q.4) (bare_items a q.1 q.2 h)
  ]
]

pub adds_more : (a b c : Store) → AddsOnlyLists a b → AddsOnlyLists b c → AddsOnlyLists a c
adds_more a b c p q = record {
  lists = λ t u e. elim (q.lists t u e) [ inl h ↦ p.lists t u h | inr h ↦ inr (bare_before a b u p h) ];
  symbols = q.symbols ∙ p.symbols;
}
