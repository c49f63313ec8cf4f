-- What an arena's reading calls find.
use Rattle.std.proofs.Common.{◌≡◌, ℕ, ◌<◌, List, [], ◌∷◌, ◌++◌, get_or, Some, None, IfSome, refl, sym, ap, subst, ◌∙◌, arith}
use Rattle.std.specs.Prelude.{◌↔◌, Option, Bool, MatchOption, IsSome, IsTrue, not, nat_eq, true, false}
use Rattle.std.specs.Option.{option_map}
use Rattle.std.proofs.lemmas.Bool.{lt-ltb, ltb-true}
use Rattle.rx_arena.specs.declared.arena.Arena.TheInside.{Inside}
use Rattle.rx_arena.specs.declared.Slot.{Slot}
use Rattle.rx_arena.specs.declared.CellBody.{CellBody}
use Rattle.rx_arena.specs.Faces.{word_of}
use Rattle.rx_arena.specs.Inner.Node as node
use Rattle.rx_arena.specs.Inner.Node.{Node, has_mark, is_protected_node}
use Rattle.rx_arena.specs.Inner.Held.{IsHeld}
use Rattle.rx_arena.specs.Inner.Links.{Links, IsChain}
use Rattle.rx_arena.specs.Inner.Pool.{is_unmarked_node}
use Rattle.rx_arena.specs.Arena.{Taken, taken_at, IsTaken, chain_at, InChain, IsFirst, marked_at}
use Rattle.rx_arena.specs.Arena.{is_marked, is_unmarked, roots_at, root_count, IsArena, shown_of}
use Rattle.rx_arena.proofs.ChainLemmas as chains
use Rattle.rx_arena.proofs.ChainLemmas.{ended, popped, chain_after, split_at, some_chain, first_some}
use Rattle.rx_arena.proofs.PoolLemmas.{links_some}
use Rattle.rx_arena.proofs.ArenaStepLemmas.{chain_links, opened, taken_node, led_held_by, shown_at}

-- a link's slot is the first of what the link leads through
pub first_of : (ls : Links) (number : Option ℕ) (result : Option Slot) (ss : List ℕ) → IsChain ls number ss
    → MatchOption number (result ≡ None) (λ n. IfSome result (λ s. s.0 ≡ n) × IsSome result) → IsFirst result ss
first_of ls None result ss c e = subst (λ z. IsFirst z ss) (sym e) (ended ls None ss c refl)
first_of ls (Some n) (Some s) ss c e = let p = popped ls (Some n) n ss c refl in (p.0, p.1 ∙ ap (λ (z : ℕ). z ∷ p.0) (sym e.0))
first_of ls (Some n) None ss c e = absurd (cc (e.1))

body-shown : (turned : Bool) (c : Option Node) (b : CellBody) → IfSome c (λ n. b ≡ n.body) → IfSome (option_map (shown_of turned) c) (λ t. b ≡ t.body)
body-shown turned None b e = tt
body-shown turned (Some n) b e = e

word-shown : (turned : Bool) (c : Option Node) (w : ℕ) → IfSome c (λ n. w ≡ word_of n.body) → IfSome (option_map (shown_of turned) c) (λ t. w ≡ word_of t.body)
word-shown turned None w e = tt
word-shown turned (Some n) w e = e

module _ (x : Inside) (law : IsArena (opened x)) where
  -- the node of a slot in a chain, with what comes after the slot
  pub in_chain : (s : ℕ) → InChain (opened x) s → (n : Node) × (get_or x.pool.cells s None ≡ Some n) × IfSome n.chain (IsHeld x.pool.cells)
  in_chain s h =
      let c = some_chain s x.chained.0 h in
      let sp = split_at s (get_or x.chained.0 c.0 []) c.2 in
      let whole = subst (λ z. IsChain (chain_links x.pool.cells) (get_or x.heads c.0 None) z) sp.1.1
      (chains.chain_at (chain_links x.pool.cells) x.heads x.chained.0 c.0 x.chained.1) in
      let on = chain_after (chain_links x.pool.cells) (get_or x.heads c.0 None) sp.0 s sp.1.0 whole in
      let n = links_some (λ n. n.chain) x.pool.cells s on.0 on.1 in (
        n.0,
        n.1,
        subst (λ z. IfSome z (IsHeld x.pool.cells)) (sym n.2)
            (led_held_by x.pool.cells (λ n. n.chain) sp.1.0 on.0 (first_some (chain_links x.pool.cells) on.0 sp.1.0 on.2)),
      )

  pub chain_asked : (s : ℕ) → InChain (opened x) s → IsHeld x.pool.cells s × IfSome (get_or x.pool.cells s None) (λ n. IfSome n.chain (IsHeld x.pool.cells))
  chain_asked s h = let n = in_chain s h in ((n.0, n.1), subst (λ z. IfSome z (λ n. IfSome n.chain (IsHeld x.pool.cells))) (sym n.1) n.2)

  pub next_first : (s : ℕ) (number : Option ℕ) (result : Option Slot) → IfSome (get_or x.pool.cells s None) (λ n. number ≡ n.chain)
      → MatchOption number (result ≡ None) (λ n. IfSome result (λ s. s.0 ≡ n) × IsSome result)
      → (c : ℕ) (before after : List ℕ) → chain_at (opened x) c ≡ before ++ s ∷ after → IsFirst result after
  next_first s number result led e c before after is =
      let whole = subst (λ z. IsChain (chain_links x.pool.cells) (get_or x.heads c None) z) is
      (chains.chain_at (chain_links x.pool.cells) x.heads x.chained.0 c x.chained.1) in
      let on = chain_after (chain_links x.pool.cells) (get_or x.heads c None) before s after whole in
      let n = links_some (λ n. n.chain) x.pool.cells s on.0 on.1 in
      let n_is : number ≡ on.0 = subst (λ z. IfSome z (λ n. number ≡ n.chain)) n.1 led ∙ n.2 in
      first_of (chain_links x.pool.cells) number result after (subst (λ z. IsChain (chain_links x.pool.cells) z after) (sym n_is) on.2) e

  pub chain_first_of : (c : ℕ) (number : Option ℕ) (result : Option Slot) → number ≡ get_or x.heads c None
      → MatchOption number (result ≡ None) (λ n. IfSome result (λ s. s.0 ≡ n) × IsSome result) → IsFirst result (chain_at (opened x) c)
  chain_first_of c number result is e = first_of (chain_links x.pool.cells) number result (get_or x.chained.0 c [])
      (subst (λ z. IsChain (chain_links x.pool.cells) z (get_or x.chained.0 c [])) (sym is)
      (chains.chain_at (chain_links x.pool.cells) x.heads x.chained.0 c x.chained.1)) e

  pub read_of : (s : ℕ) (b : CellBody) → IfSome (get_or x.pool.cells s None) (λ n. b ≡ n.body) → IfSome (taken_at (opened x) s) (λ t. b ≡ t.body)
  read_of s b e = subst (λ z. IfSome z (λ t. b ≡ t.body)) (sym (shown_at x law s)) (body-shown x.pool.turned (get_or x.pool.cells s None) b e)

  pub word_at : (s w : ℕ) → IfSome (get_or x.pool.cells s None) (λ n. w ≡ word_of n.body) → IfSome (taken_at (opened x) s) (λ t. w ≡ word_of t.body)
  word_at s w e = subst (λ z. IfSome z (λ t. w ≡ word_of t.body)) (sym (shown_at x law s)) (word-shown x.pool.turned (get_or x.pool.cells s None) w e)

  pub holder_at : (s w : ℕ) → ((n : Node) × (get_or x.pool.cells s None ≡ Some n) × (w ≡ word_of n.body))
      → (t : Taken) × (taken_at (opened x) s ≡ Some t) × (w ≡ word_of t.body)
  holder_at s w (n, here, is) = (shown_of x.pool.turned n, shown_at x law s ∙ ap (option_map (shown_of x.pool.turned)) here, is)

  pub roots_of : (s k : ℕ) → IsTaken (opened x) s → IfSome (get_or x.pool.cells s None) (λ n. k ≡ n.roots) → k ≡ roots_at (opened x) s
  roots_of s k h e = let n = taken_node x law s h.0 h.1 in subst (λ z. IfSome z (λ n. k ≡ n.roots)) n.1 e
      ∙ sym (ap root_count (shown_at x law s ∙ ap (option_map (shown_of x.pool.turned)) n.1))

  pub mark_of : (s : ℕ) (y : Bool) → IsTaken (opened x) s → IfSome (get_or x.pool.cells s None) (λ n. y ≡ has_mark x.pool.turned n) → y ≡ marked_at (opened x) s
  mark_of s y h e = let n = taken_node x law s h.0 h.1 in subst (λ z. IfSome z (λ n. y ≡ has_mark x.pool.turned n)) n.1 e
      ∙ sym (ap is_marked (shown_at x law s ∙ ap (option_map (shown_of x.pool.turned)) n.1))

pub shown_unmarked : (turned : Bool) (o : Option Node) → is_unmarked (option_map (shown_of turned) o) ≡ is_unmarked_node turned o
shown_unmarked turned None = refl
shown_unmarked turned (Some n) = twice (nat_eq n.mark (node.mark_of turned false)) where
  twice : (b : Bool) → not (not b) ≡ b
  twice true = refl
  twice false = refl

pub shown_protected : (turned : Bool) (o : Option Node) (y : Bool) → y ≡ is_protected_node o → IsTrue y ↔ 0 < root_count (option_map (shown_of turned) o)
shown_protected turned None y e = (λ h. absurd (let z = sym e ∙ h in cc), λ h. absurd (omega (arith, h)))
shown_protected turned (Some n) y e = (λ h. ltb-true 0 n.roots (sym e ∙ h), λ h. e ∙ lt-ltb 0 n.roots h)

pub shown_none : (turned : Bool) (o : Option Node) → o ≡ None → option_map (shown_of turned) o ≡ None
shown_none turned None e = refl
shown_none turned (Some n) e = cc
