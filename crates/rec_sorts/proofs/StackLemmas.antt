-- The stack of heads has a term's arguments on top when its own word comes.
use Rattle.std.proofs.Common.{refl, sym, ap, ◌∙◌, arith, append_assoc}
use Rattle.std.proofs.lemmas.List.{append-nil, length-append}
use Rattle.std.proofs.Math.Seq.{take-append_seam, drop-append_seam}
use Rattle.std.specs.Prelude.{ℕ, ◌≡◌, ◌-◌, List, [], ◌∷◌, ◌++◌, Option, length, map, take, drop}
use Rattle.rec_syntax.specs.Tokens.{Word}
use Rattle.rec_syntax.specs.Syntax.{Term, Terms, Apply, none, more, subterms, subterms_all}
use Rattle.rec_syntax.specs.Nodes.{flat, flat_all, term_count}
use Rattle.rec_sorts.specs.Least.{earlier, least_of}
use Rattle.rec_sorts.specs.Scope.{meaning_of, arguments_at}
use Rattle.rec_sorts.specs.Letters.{placed_by, misplaced, ill_sorted_among}
use Rattle.rec_sorts.specs.declared.scope.Scope.{Scope}
use Rattle.rec_sorts.specs.declared.terms.Placed.{Placed}
use Rattle.rec_sorts.proofs.LeastPlaceLemmas.{earlier_assoc, earlier_comm, earlier_none}
use Rattle.rec_sorts.proofs.SubtermLemmas.{least_of-append}

pub map-append : {X Y : Type 0} (f : X → Y) (xs ys : List X) → map f (xs ++ ys) ≡ map f xs ++ map f ys
map-append f [] ys = refl
map-append f (x ∷ xs) ys = ap (λ zs. f x ∷ zs) (map-append f xs ys)

-- a term's word with what it represents
abbrev pub head_placed : Scope → Term → Placed
head_placed s (Apply w ts) = placed_by s (record { word = w; count = term_count ts })

-- the words of some terms
abbrev pub heads_of : Scope → Terms → List Placed
heads_of s none = []
heads_of s (more t ts) = head_placed s t ∷ heads_of s ts

length-heads_of : (s : Scope) (ts : Terms) → length (heads_of s ts) ≡ term_count ts
length-heads_of s none = refl
length-heads_of s (more t ts) = omega (arith, length-heads_of s ts)

-- the least place of an argument of another sort than declared
abbrev pub misplaced_in : Scope → Term → Option ℕ
misplaced_in s (Apply w ts) = misplaced s (heads_of s ts) (arguments_at s (meaning_of s w.bytes))

-- the arguments on top of the stack are split off
split_off : (s : Scope) (hs : List Placed) (ts : Terms) (w : Word) (ps : List Placed)
    → ill_sorted_among s (hs ++ heads_of s ts) (head_placed s (Apply w ts) ∷ ps) ≡ earlier (misplaced_in s (Apply w ts))
    (ill_sorted_among s (hs ++ head_placed s (Apply w ts) ∷ []) ps)
split_off s hs ts w ps =
    let base : length (hs ++ heads_of s ts) - term_count ts ≡ length hs = omega (arith, length-append hs (heads_of s ts), length-heads_of s ts) in
    ap (λ (b : ℕ). earlier (misplaced s (drop b (hs ++ heads_of s ts)) (arguments_at s (meaning_of s w.bytes)))
    (ill_sorted_among s (take b (hs ++ heads_of s ts) ++ head_placed s (Apply w ts) ∷ []) ps)) base
    ∙ ap (λ (zs : List Placed). earlier (misplaced s zs (arguments_at s (meaning_of s w.bytes)))
    (ill_sorted_among s (take (length hs) (hs ++ heads_of s ts) ++ head_placed s (Apply w ts) ∷ []) ps)) (drop-append_seam hs (heads_of s ts))
    ∙ ap (λ (zs : List Placed). earlier (misplaced_in s (Apply w ts)) (ill_sorted_among s (zs ++ head_placed s (Apply w ts) ∷ []) ps))
    (take-append_seam hs (heads_of s ts))

mutual
  ill_sorted_among-flat : (s : Scope) (hs : List Placed) (t : Term) (ps : List Placed)
      → ill_sorted_among s hs (map (placed_by s) (flat t) ++ ps) ≡ earlier (least_of (misplaced_in s) (subterms t))
      (ill_sorted_among s (hs ++ head_placed s t ∷ []) ps)
  ill_sorted_among-flat s hs (Apply w ts) ps =
      ap (λ zs. ill_sorted_among s hs (zs ++ ps)) (map-append (placed_by s) (flat_all ts) (record { word = w; count = term_count ts } ∷ []))
      ∙ ap (ill_sorted_among s hs) (append_assoc (map (placed_by s) (flat_all ts)) (head_placed s (Apply w ts) ∷ []) ps)
      ∙ ill_sorted_among-flat_all s hs ts (head_placed s (Apply w ts) ∷ ps)
      ∙ ap (earlier (least_of (misplaced_in s) (subterms_all ts))) (split_off s hs ts w ps)
      ∙ sym (earlier_assoc (least_of (misplaced_in s) (subterms_all ts)) (misplaced_in s (Apply w ts))
      (ill_sorted_among s (hs ++ head_placed s (Apply w ts) ∷ []) ps))
      ∙ ap (λ p. earlier p (ill_sorted_among s (hs ++ head_placed s (Apply w ts) ∷ []) ps))
      (earlier_comm (least_of (misplaced_in s) (subterms_all ts)) (misplaced_in s (Apply w ts)))

  ill_sorted_among-flat_all : (s : Scope) (hs : List Placed) (ts : Terms) (ps : List Placed)
      → ill_sorted_among s hs (map (placed_by s) (flat_all ts) ++ ps) ≡ earlier (least_of (misplaced_in s) (subterms_all ts))
      (ill_sorted_among s (hs ++ heads_of s ts) ps)
  ill_sorted_among-flat_all s hs none ps = ap (λ zs. ill_sorted_among s zs ps) (sym (append-nil hs))
  ill_sorted_among-flat_all s hs (more t ts) ps =
      ap (λ zs. ill_sorted_among s hs (zs ++ ps)) (map-append (placed_by s) (flat t) (flat_all ts))
      ∙ ap (ill_sorted_among s hs) (append_assoc (map (placed_by s) (flat t)) (map (placed_by s) (flat_all ts)) ps)
      ∙ ill_sorted_among-flat s hs t (map (placed_by s) (flat_all ts) ++ ps)
      ∙ ap (earlier (least_of (misplaced_in s) (subterms t))) (ill_sorted_among-flat_all s (hs ++ head_placed s t ∷ []) ts ps)
      ∙ sym (earlier_assoc (least_of (misplaced_in s) (subterms t)) (least_of (misplaced_in s) (subterms_all ts))
      (ill_sorted_among s ((hs ++ head_placed s t ∷ []) ++ heads_of s ts) ps))
      ∙ ap (λ p. earlier p (ill_sorted_among s ((hs ++ head_placed s t ∷ []) ++ heads_of s ts) ps))
      (sym (least_of-append (misplaced_in s) (subterms t) (subterms_all ts)))
      ∙ ap (λ zs. earlier (least_of (misplaced_in s) (subterms t ++ subterms_all ts)) (ill_sorted_among s zs ps))
      (append_assoc hs (head_placed s t ∷ []) (heads_of s ts))

-- what the walk over a term's words finds is what its subterms have
pub ill_sorted_among-term : (s : Scope) (t : Term) → ill_sorted_among s [] (map (placed_by s) (flat t)) ≡ least_of (misplaced_in s) (subterms t)
ill_sorted_among-term s t =
    ap (ill_sorted_among s []) (sym (append-nil (map (placed_by s) (flat t))))
    ∙ ill_sorted_among-flat s [] t []
    ∙ earlier_none (least_of (misplaced_in s) (subterms t))
