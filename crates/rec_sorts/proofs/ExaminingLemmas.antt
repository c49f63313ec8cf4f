-- What is counted of a specification that was read.
use Rattle.std.proofs.Common.{Vec, Global, refl, sym, ap, ◌∙◌, arith}
use Rattle.std.proofs.lemmas.List.{length-map, length-append}
use Rattle.std.specs.Prelude.{ℕ, ◌≡◌, ◌+◌, ◌-◌, List, [], ◌∷◌, Option, length, map}
use Rattle.rec_syntax.specs.Tokens.{Word}
use Rattle.rec_syntax.specs.Syntax.{Declaration, Variables, Spec}
use Rattle.rec_sorts.specs.Lookup.{symbols, variable_words}
use Rattle.rec_sorts.specs.Names.{Numbers, first_at}
use Rattle.rec_sorts.specs.Declaring.{sort_numbers}
use Rattle.rec_sorts.specs.Numbering.{variable_count}
use Rattle.rec_sorts.specs.Agreeing.{IsScope, variable_sorts}
use Rattle.rec_sorts.specs.declared.scope.Scope.{Scope}

length-variable_sorts : (numbers : Numbers) (vs : List Variables) → length (variable_sorts numbers vs) ≡ length (variable_words vs)
length-variable_sorts numbers [] = refl
length-variable_sorts numbers (v ∷ vs) =
    length-append (map (λ (w : Word). numbers v.sort.bytes) (v.first ∷ v.others)) (variable_sorts numbers vs)
    ∙ ap (λ (n : ℕ). n + length (variable_sorts numbers vs)) (length-map (v.first ∷ v.others) (λ (w : Word). numbers v.sort.bytes))
    ∙ ap (λ (n : ℕ). length (v.first ∷ v.others) + n) (length-variable_sorts numbers vs)
    ∙ sym (length-append (v.first ∷ v.others) (variable_words vs))

map-map : {X Y Z : Type 0} (f : Y → Z) (g : X → Y) (xs : List X) → map f (map g xs) ≡ map (λ x. f (g x)) xs
map-map f g [] = refl
map-map f g (x ∷ xs) = ap (λ zs. f (g x) ∷ zs) (map-map f g xs)

argument_counts : (numbers : Numbers) (ds : List Declaration) → map (λ d. length (sort_numbers numbers d.arguments)) ds ≡ map (λ d. length d.arguments) ds
argument_counts numbers [] = refl
argument_counts numbers (d ∷ ds) = λ i. length-map d.arguments (λ w. numbers w.bytes) i ∷ argument_counts numbers ds i

module _ (y : Spec) (s : Scope) (h : IsScope y s) where
  -- the words that are no symbols are variables
  pub variables-counted : length s.sorts.items - s.symbols ≡ variable_count y
  variables-counted =
      let all : length s.sorts.items ≡ length (symbols y) + length (variable_words y.variables) =
      ap length h.sorts_listed
      ∙ length-append (map (λ d. first_at y.sorts d.sort.bytes) (symbols y)) (variable_sorts (first_at y.sorts) y.variables)
      ∙ ap (λ (n : ℕ). n + length (variable_sorts (first_at y.sorts) y.variables)) (length-map (symbols y) (λ d. first_at y.sorts d.sort.bytes))
      ∙ ap (λ (n : ℕ). length (symbols y) + n) (length-variable_sorts (first_at y.sorts) y.variables) in
      omega (arith, all, h.symbols_counted)

  -- each symbol has as many sorts for arguments as it has arguments
  pub arities-listed : map (λ (v : Vec (Option ℕ) Global). length v.items) s.arguments.items ≡ map (λ d. length d.arguments) (symbols y)
  arities-listed =
      sym (map-map (λ (xs : List (Option ℕ)). length xs) (λ (v : Vec (Option ℕ) Global). v.items) s.arguments.items)
      ∙ ap (map (λ (xs : List (Option ℕ)). length xs)) h.arguments_listed
      ∙ map-map (λ (xs : List (Option ℕ)). length xs) (λ d. sort_numbers (first_at y.sorts) d.arguments) (symbols y)
      ∙ argument_counts (first_at y.sorts) (symbols y)
