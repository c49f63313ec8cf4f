-- The least place over the nodes of a term is that over its subterms.
use Rattle.std.proofs.Common.{refl, sym, ap, ◌∙◌, add-one}
use Rattle.std.specs.Prelude.{ℕ, ◌≡◌, Bool, true, false, cond, List, [], ◌∷◌, ◌++◌, Option, Some, None, suc, map, flat_map, filter}
use Rattle.rec_syntax.specs.Tokens.{Word}
use Rattle.rec_syntax.specs.Syntax.{Term, Terms, Apply, none, more, Condition, Rule, head, arguments, subterms, subterms_all}
use Rattle.rec_syntax.specs.Nodes.{flat, flat_all, term_count}
use Rattle.rec_sorts.specs.Lookup.{count, rule_terms, condition_terms}
use Rattle.rec_sorts.specs.SpecRules.{heads}
use Rattle.rec_sorts.specs.Least.{earlier, least_of, least_place, place_where}
use Rattle.rec_sorts.proofs.LeastPlaceLemmas.{earlier_none, earlier_assoc, earlier_comm}
use Rattle.rec_sorts.proofs.TableLemmas.{same_function}

pub least_of-append : {X : Type 0} (f : X → Option ℕ) (xs ys : List X) → least_of f (xs ++ ys) ≡ earlier (least_of f xs) (least_of f ys)
least_of-append f [] ys = refl
least_of-append f (x ∷ xs) ys = ap (earlier (f x)) (least_of-append f xs ys) ∙ sym (earlier_assoc (f x) (least_of f xs) (least_of f ys))

pub least_of-map : {X Y : Type 0} (f : Y → Option ℕ) (g : X → Y) (xs : List X) → least_of f (map g xs) ≡ least_of (λ x. f (g x)) xs
least_of-map f g [] = refl
least_of-map f g (x ∷ xs) = ap (earlier (f (g x))) (least_of-map f g xs)

pub least_of-flat_map : {X Y : Type 0} (f : Y → Option ℕ) (g : X → List Y) (xs : List X) → least_of f (flat_map g xs) ≡ least_of (λ x. least_of f (g x)) xs
least_of-flat_map f g [] = refl
least_of-flat_map f g (x ∷ xs) = least_of-append f (g x) (flat_map g xs) ∙ ap (earlier (least_of f (g x))) (least_of-flat_map f g xs)

pub least_of-filter : {X : Type 0} (f : X → Option ℕ) (p : X → Bool) (xs : List X) → least_of f (filter p xs) ≡ least_of (λ x. cond (p x) (f x) None) xs
least_of-filter f p [] = refl
least_of-filter f p (x ∷ xs) = by_test (p x) ∙ ap (earlier (cond (p x) (f x) None)) (least_of-filter f p xs)
  where
    by_test : (b : Bool) → least_of f (cond b (x ∷ filter p xs) (filter p xs)) ≡ earlier (cond b (f x) None) (least_of f (filter p xs))
    by_test true = refl
    by_test false = refl

pub least_of-same : {X : Type 0} {f g : X → Option ℕ} (xs : List X) → ((x : X) → f x ≡ g x) → least_of f xs ≡ least_of g xs
least_of-same xs h = ap (λ k. least_of k xs) (same_function h)

pub place_where-cond : (b : Bool) (at : ℕ) → cond b (Some at) None ≡ place_where b at
place_where-cond true at = refl
place_where-cond false at = refl

pub term_count-count : (ts : Terms) → term_count ts ≡ count ts
term_count-count none = refl
term_count-count (more t ts) = add-one (term_count ts) ∙ ap (λ (n : ℕ). suc n) (term_count-count ts)

mutual
  -- what a word and its number of arguments give is collected over the nodes as over the subterms
  pub least_of-flat : (g : Word → ℕ → Option ℕ) (t : Term) → least_of (λ n. g n.word n.count) (flat t) ≡ least_of (λ u.
      g (head u) (count (arguments u))) (subterms t)
  least_of-flat g (Apply w ts) =
      least_of-append (λ n. g n.word n.count) (flat_all ts) (record { word = w; count = term_count ts } ∷ [])
      ∙ earlier_comm (least_of (λ n. g n.word n.count) (flat_all ts)) (earlier (g w (term_count ts)) None)
      ∙ ap (λ p. earlier p (least_of (λ n. g n.word n.count) (flat_all ts))) (earlier_none (g w (term_count ts)) ∙ ap (g w) (term_count-count ts))
      ∙ ap (earlier (g w (count ts))) (least_of-flat_all g ts)

  pub least_of-flat_all : (g : Word → ℕ → Option ℕ) (ts : Terms)
      → least_of (λ n. g n.word n.count) (flat_all ts) ≡ least_of (λ u. g (head u) (count (arguments u))) (subterms_all ts)
  least_of-flat_all g none = refl
  least_of-flat_all g (more t ts) =
      least_of-append (λ n. g n.word n.count) (flat t) (flat_all ts)
      ∙ ap (λ p. earlier p (least_of (λ n. g n.word n.count) (flat_all ts))) (least_of-flat g t)
      ∙ ap (earlier (least_of (λ u. g (head u) (count (arguments u))) (subterms t))) (least_of-flat_all g ts)
      ∙ sym (least_of-append (λ u. g (head u) (count (arguments u))) (subterms t) (subterms_all ts))

-- the least place of the first words that pass a test
pub least_place-heads : (p : Word → Bool) (ts : List Term) → least_place (filter p (heads ts)) ≡ least_of (λ t. place_where (p (head t)) (head t).at) ts
least_place-heads p ts =
    least_of-filter (λ w. Some w.at) p (map head ts)
    ∙ least_of-map (λ w. cond (p w) (Some w.at) None) head ts
    ∙ least_of-same ts (λ t. place_where-cond (p (head t)) (head t).at)

-- the least place of the first words of the terms that pass a test
pub least_place-heads_of : (p : Term → Bool) (ts : List Term) → least_place (heads (filter p ts)) ≡ least_of (λ t. place_where (p t) (head t).at) ts
least_place-heads_of p ts =
    least_of-map (λ w. Some w.at) head (filter p ts)
    ∙ least_of-filter (λ t. Some (head t).at) p ts
    ∙ least_of-same ts (λ t. place_where-cond (p t) (head t).at)

-- what is collected over all terms of conditions
pub least_of-conditions : (f : Term → Option ℕ) (cs : List Condition) → least_of f (condition_terms cs) ≡ least_of (λ c. earlier (f c.left) (f c.right)) cs
least_of-conditions f cs =
    least_of-flat_map f (λ c. c.left ∷ c.right ∷ []) cs
    ∙ least_of-same cs (λ c. ap (earlier (f c.left)) (earlier_none (f c.right)))

-- what is collected over all terms of rules
pub least_of-rules : (f : Term → Option ℕ) (rs : List Rule)
    → least_of f (rule_terms rs) ≡ least_of (λ r. earlier (f r.left) (earlier (f r.right) (least_of (λ c. earlier (f c.left) (f c.right)) r.conditions))) rs
least_of-rules f rs =
    least_of-flat_map f (λ r. r.left ∷ r.right ∷ condition_terms r.conditions) rs
    ∙ least_of-same rs (λ r. ap (λ p. earlier (f r.left) (earlier (f r.right) p)) (least_of-conditions f r.conditions))
