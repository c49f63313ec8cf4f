-- References that are held, and the list and the application that are made of them.
use Rattle.std.proofs.Common.{◌≡◌, ℕ, zero, suc, ◌-◌, ◌<◌, ◌≤◌, Bool, true, false, ◌&&◌, List, [], ◌∷◌, length, drop, get_or, Option}
use Rattle.std.proofs.Common.{Some, IsSome, is_some, refl, sym, ap, ◌∙◌, subst, Result, Ok, Err, IfOk, eq-eqb, drop-cons, arith}
use Rattle.std.proofs.lemmas.List.{length-map}
use Rattle.std.specs.FinMap as map
use Rattle.rx_term.specs.Name.{Signature}
use Rattle.rx_term.specs.Tree.{Tree, Trees, Appl, Items, none, count_of, to_list}
use Rattle.rx_term.specs.Store.{Store, tree_at, signature_of, applied}
use Rattle.rx_term.specs.Steps.{Grows, MakesOrRefuses}
use Rattle.rx_term.specs.Walks.{HaveTrees, Lists, AllHeld}
use Rattle.rx_term.specs.declared.Term.{Term}
use Rattle.rx_term.specs.declared.Symbol.{Symbol}
use Rattle.rx_term.specs.declared.faults.BankFault.{BankFault}
use Rattle.rx_term.proofs.WalkLemmas.{AllHeld-nil, AllHeld-cons}
use Rattle.rx_term.proofs.TreeLemmas.{length-to_list}
use Rattle.psilt_core.specs.Answers.{are_held, term_of, terms_of, IsApplication}

and-first : (a b : Bool) → (a && b) ≡ true → a ≡ true
and-first true b h = refl
and-first false b h = cc

and-second : (a b : Bool) → (a && b) ≡ true → b ≡ true
and-second true b h = h
and-second false b h = cc

first_held : (w : Store) (n : ℕ) (ns : List ℕ) → are_held w (n ∷ ns) ≡ true → IsSome (tree_at w (term_of n))
first_held w n ns h = and-first (is_some (tree_at w (term_of n))) (are_held w ns) h

others_held : (w : Store) (n : ℕ) (ns : List ℕ) → are_held w (n ∷ ns) ≡ true → are_held w ns ≡ true
others_held w n ns h = and-second (is_some (tree_at w (term_of n))) (are_held w ns) h

-- each of some references that are held is held
pub all_held : (w : Store) (ns : List ℕ) → are_held w ns ≡ true → AllHeld w (terms_of ns)
all_held w [] h = AllHeld-nil w
all_held w (n ∷ ns) h = AllHeld-cons w (term_of n) (terms_of ns) (first_held w n ns h) (all_held w ns (others_held w n ns h))

pub held_at : (w : Store) (ns : List ℕ) (k d : ℕ) → are_held w ns ≡ true → k < length ns → IsSome (tree_at w (term_of (get_or ns k d)))
held_at w [] k d h lt = absurd (omega (arith, lt))
held_at w (n ∷ ns) zero d h lt = first_held w n ns h
held_at w (n ∷ ns) (suc k) d h lt = held_at w ns k d (others_held w n ns h) (omega (arith, lt))

-- the numbers from one place less on
pub one_more : (ns : List ℕ) (left d : ℕ) → 0 < left → left ≤ length ns → drop (left - 1) ns ≡ get_or ns (left - 1) d ∷ drop left ns
one_more ns left d pos le = let e : suc (left - 1) ≡ left = omega arith in
    drop-cons ns (left - 1) d (omega arith) ∙ ap (λ k. get_or ns (left - 1) d ∷ drop k ns) e

have-length : (w : Store) (rs : List Term) (ts : List Tree) → HaveTrees w rs ts → length rs ≡ length ts
have-length w [] [] h = refl
have-length w (r ∷ rs) (t ∷ ts) h = omega (arith, have-length w rs ts h.1)
have-length w [] (t ∷ ts) h = absurd h
have-length w (r ∷ rs) [] h = absurd h

applied_is : (g : Signature) (s : Option Signature) (o : Option Tree) (ts : Trees) → s ≡ Some g → o ≡ Some (Items ts none)
    → count_of ts ≡ g.arity → applied s o ≡ Some (Appl g.name g.quoted ts none)
applied_is g s o ts e f h = rw (e, f, h) (rw (eq-eqb g.arity g.arity refl) refl)

-- an application of a symbol to the list of as many references is theirs
pub appl_is : (v w : Store) (s : Symbol) (t : Term) (ns : List ℕ) (g : Signature) → signature_of v s ≡ Some g → Grows v w
    → Lists v (terms_of ns) (tree_at w t) → g.arity ≡ length ns → IsApplication v g.name g.quoted ns (applied (signature_of w s) (tree_at w t))
appl_is v w s t ns g e grows l n = (
  l.0,
  l.1,
  applied_is g (signature_of w s) (tree_at w t) l.0 (grows.symbols s g e) l.2
      (sym (length-to_list l.0) ∙ sym (have-length v (terms_of ns) (to_list l.0) l.1) ∙ length-map ns term_of ∙ sym n),
)

-- the same in a bank of the same trees
have-same : (v w : Store) (rs : List Term) (ts : List Tree) → w.content ≡ v.content → HaveTrees w rs ts → HaveTrees v rs ts
have-same v w [] [] e h = tt
have-same v w (r ∷ rs) (t ∷ ts) e h = (ap (λ c. map.get c r.0) (sym e) ∙ h.0, have-same v w rs ts e h.1)
have-same v w [] (t ∷ ts) e h = absurd h
have-same v w (r ∷ rs) [] e h = absurd h

pub same_appl : (v w : Store) (name : List ℕ) (quoted : Bool) (ns : List ℕ) (tree : Option Tree) → w.content ≡ v.content
    → IsApplication w name quoted ns tree → IsApplication v name quoted ns tree
same_appl v w name quoted ns tree e is = (is.0, have-same v w (terms_of ns) (to_list is.0) e is.1, is.2)

-- what a make answers has the tree that it was asked for
pub made_is : (old new : Store) (tree : Option Tree) (P : Option Tree → Type 0) (r : Result Term BankFault) → MakesOrRefuses old new tree r → P tree
    → IfOk r (λ t. P (tree_at new t))
made_is old new tree P (Ok t) m p = subst P (sym m.made) p
made_is old new tree P (Err e) m p = tt

-- the same of what holds of each thing of some kind
pub made_for : (old new : Store) (tree : Option Tree) (X : Type 0) (P : X → Type 0) (Q : X → Option Tree → Type 0) (r : Result Term BankFault)
    → MakesOrRefuses old new tree r → ((x : X) → P x → Q x tree) → IfOk r (λ t. (x : X) → P x → Q x (tree_at new t))
made_for old new tree X P Q (Ok t) m f = λ x p. subst (Q x) (sym m.made) (f x p)
made_for old new tree X P Q (Err e) m f = tt

-- an application of a symbol of a signature, made after the symbol
pub same_appls : (old v new : Store) (s : Symbol) (g : Signature) (ns : List ℕ) (r : Result Term BankFault) → v.content ≡ old.content
    → signature_of v s ≡ Some g
    → IfOk r (λ t. (h : Signature) → signature_of v s ≡ Some h → IsApplication v h.name h.quoted ns (tree_at new t))
    → IfOk r (λ t. IsApplication old g.name g.quoted ns (tree_at new t))
same_appls old v new s g ns (Ok t) e at h = same_appl old v g.name g.quoted ns (tree_at new t) e (h g at)
same_appls old v new s g ns (Err e') e at h = tt
