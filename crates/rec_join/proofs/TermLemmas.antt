-- Terms whose nodes differ at most in offsets differ at most in offsets.
use Rattle.std.proofs.Common.{◌≡◌, ℕ, zero, suc, List, [], ◌∷◌, refl, sym, ap, ◌∙◌, drop, map}
use Rattle.rec_syntax.specs.Syntax.{Apply, Term, Terms, more, none}
use Rattle.rec_syntax.specs.Nodes.{Node, assembled, made_by, newest, newest_term, spelled_by}
use Rattle.rec_join.specs.Join.{unplaced, unplaced_term, unplaced_terms}
use Rattle.rec_join.specs.Inner.Nodes.{unplaced_node}

unplaced_newest : (n : ℕ) (made : List Term) (ts : Terms)
    → newest n (map unplaced_term made) (unplaced_terms ts) ≡ unplaced_terms (newest n made ts)
unplaced_newest zero made ts = refl
unplaced_newest (suc n) [] ts = refl
unplaced_newest (suc n) (t ∷ made) ts = unplaced_newest n made (more t ts)

unplaced_drop : (n : ℕ) (made : List Term)
    → drop n (map unplaced_term made) ≡ map unplaced_term (drop n made)
unplaced_drop zero made = refl
unplaced_drop (suc n) [] = refl
unplaced_drop (suc n) (t ∷ made) = unplaced_drop n made

unplaced_assembled : (n : Node) (made : List Term)
    → assembled (unplaced_node n) (map unplaced_term made) ≡ map unplaced_term (assembled n made)
unplaced_assembled n made =
    ap (λ ts. Apply (unplaced n.word) ts ∷ drop n.count (map unplaced_term made)) (unplaced_newest n.count made none)
    ∙ ap (λ rest. Apply (unplaced n.word) (unplaced_terms (newest n.count made none)) ∷ rest) (unplaced_drop n.count made)

unplaced_made : (ns : List Node) (made : List Term)
    → made_by (map unplaced_term made) (map unplaced_node ns) ≡ map unplaced_term (made_by made ns)
unplaced_made [] made = refl
unplaced_made (n ∷ ns) made =
    ap (λ ts. made_by ts (map unplaced_node ns)) (unplaced_assembled n made) ∙ unplaced_made ns (assembled n made)

unplaced_newest_term : (made : List Term) → newest_term (map unplaced_term made) ≡ unplaced_term (newest_term made)
unplaced_newest_term [] = refl
unplaced_newest_term (t ∷ made) = refl

-- the term of nodes without offsets
pub unplaced_spelled : (ns : List Node) → spelled_by (map unplaced_node ns) ≡ unplaced_term (spelled_by ns)
unplaced_spelled ns = ap newest_term (unplaced_made ns []) ∙ unplaced_newest_term (made_by [] ns)

-- the same nodes without offsets make the same term without offsets
pub same_spelled : (ns ms : List Node) → map unplaced_node ns ≡ map unplaced_node ms
    → unplaced_term (spelled_by ns) ≡ unplaced_term (spelled_by ms)
same_spelled ns ms e = sym (unplaced_spelled ns) ∙ ap spelled_by e ∙ unplaced_spelled ms
