-- Trees of symbols that have grown, or were given up.
use Rattle.std.proofs.Common.{refl, sym, ap, subst, arith, ◌∙◌, inl, inr}
use Rattle.std.proofs.lemmas.List.{length-take-le, get_or-take}
use Rattle.std.proofs.Math.Seq.{take-append_seam}
use Rattle.std.specs.Prelude.{ℕ, ◌<◌, ◌≡◌, ◌⊎◌, List, [], length, get_or, take}
use Rattle.rec_syntax.specs.Syntax.{Spec}
use Rattle.rec_match.specs.Rows.{Row}
use Rattle.rec_match.specs.Inner.Growing.{State, Grows, Extends}
use Rattle.rec_match.specs.Parts.{Coded}
use Rattle.rec_match.specs.Inner.Tasks.{Task, AreLeft, Waits, Growing, GoesOn, Steps, Adds, HasTree}
use Rattle.rec_match.specs.declared.forest.Forest.{Forest}
use Rattle.rec_match.specs.declared.forest.Node.TheVariants.{Fail}
use Rattle.rec_match.specs.declared.parts.Parts.{Parts}
use Rattle.rec_match.proofs.ExtensionLemmas.{extends_same, grows_later}
use Rattle.rec_match.proofs.TaskLemmas.{Added, added, goes_more}

module _ (y : Spec) (ns : List ℕ) (ps : Parts) where
  -- a tree that has grown from its root
  pub tree_grown : (f g h : Forest) (us : List Task) (width : ℕ) (coded : List Coded) (root : ℕ) → 0 < length f.nodes.items
      → Adds f [] g us width coded root → Steps y ns ps g us h [] → HasTree y ns ps f width coded h root
  tree_grown f g h us width coded root some a steps s rows grow left =
      let x : Added y ns ps f [] s g us root (record { width = width; rows = rows }) =
      added y ns ps f g [] us width coded root a.one a.tasks s grow rows left in
      let z = steps x.goes.states x.goes.growing in
      record {
        goes = goes_more y ns ps f g h [] us [] s x.goes z;
        stands = λ there. (
          (let lt = x.there in let le = z.extends.nodes in let l : root < length h.nodes.items = omega (arith, lt, le) in l),
          z.extends.states root x.there ∙ x.here,
        );
      }

  -- nodes, places and children that are cut off again
  pub tree_cut : (f g h e : Forest) (us vs : List Task) (width : ℕ) (coded : List Coded) (root : ℕ) → Adds f [] g us width coded root → Steps y ns ps g us h vs
      → e.nodes.items ≡ take (length f.nodes.items) h.nodes.items → e.places.items ≡ take (length f.places.items) h.places.items
      → e.children.items ≡ take (length f.children.items) h.children.items
      → HasTree y ns ps f width coded e 0
  tree_cut f g h e us vs width coded root a steps nodes places children s rows grow left =
      record {
        goes = record {
          states = s;
          extends = extends;
          growing =
              record { tasks = tt; nodes = λ n lt. grown n (omega (arith, lt, long)) (grow.nodes n (omega (arith, lt, long))) };
          kept = λ n lt away.
              (away, same n lt);
        };
        stands = λ there. absurd (there refl);
      }
    where
      x : Added y ns ps f [] s g us root (record { width = width; rows = rows })
      x = added y ns ps f g [] us width coded root a.one a.tasks s grow rows left

      z : GoesOn y ns ps f [] s h vs
      z = goes_more y ns ps f g h [] us vs s x.goes (steps x.goes.states x.goes.growing)

      long : length e.nodes.items ≡ length f.nodes.items
      long = ap length nodes ∙ length-take-le (length f.nodes.items) h.nodes.items z.extends.nodes

      same : (n : ℕ) → n < length f.nodes.items → get_or e.nodes.items n Fail ≡ get_or f.nodes.items n Fail
      same n lt = ap (λ xs. get_or xs n Fail) nodes ∙ get_or-take (length f.nodes.items) h.nodes.items n Fail lt ∙ (z.kept n lt (λ w. w)).1

      extends : Extends f s e s
      extends = extends_same f e s (sym long) (places ∙ ap (take (length f.places.items)) z.extends.places
          ∙ take-append_seam f.places.items z.extends.new_places)
          (children ∙ ap (take (length f.children.items)) z.extends.children ∙ take-append_seam f.children.items z.extends.new_children)

      grown : (n : ℕ) → n < length f.nodes.items → Waits [] n ⊎ Grows y ns f s n (get_or f.nodes.items n Fail)
          → Waits [] n ⊎ Grows y ns e s n (get_or e.nodes.items n Fail)
      grown n lt (inl w) = absurd w
      grown n lt (inr r) = inr (subst (Grows y ns e s n) (sym (same n lt)) (grows_later y ns f e s s extends n (get_or f.nodes.items n Fail) lt r))

  -- what a tree's root represents is what can grow first
  pub can_root : (f g : Forest) (us : List Task) (width : ℕ) (coded : List Coded) (root : ℕ) (s : ℕ → State) (rows : List Row)
      → Adds f [] g us width coded root → Growing y ns ps f [] s → AreLeft y ps width coded rows
      → (t : ℕ → State) × Growing y ns ps g us t
  can_root f g us width coded root s rows a grow left = let x = added y ns ps f g [] us width coded root a.one a.tasks s grow rows left in
      (x.goes.states, x.goes.growing)
