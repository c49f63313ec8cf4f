-- One step of a pattern and its subject.
use Rattle.std.proofs.Common.{ℕ, ◌≡◌, Bool, true, false, ◌&&◌, List, [], ◌∷◌, ◌++◌, Option, Some, None, Result, Ok, Err, IfOk, refl, sym, ap, ◌∙◌}
use Rattle.std.specs.Prelude.{bytes_eq}
use Rattle.std.specs.Bool.{beq}
use Rattle.std.specs.Option.{option_and_then}
use Rattle.rx_term.specs.Name.{Signature}
use Rattle.rx_term.specs.Tree.{Tree, Trees, none, Int, Appl, Items, Hole, list_of, count_of}
use Rattle.rx_term.specs.Store.{Store, tree_at, part_at, signature_of, args_of}
use Rattle.rx_term.specs.Steps.{Grows}
use Rattle.rx_term.specs.Kinds.{HasAnns, HasAppl}
use Rattle.rx_term.specs.declared.Term.{Term}
use Rattle.rx_term.specs.declared.Symbol.{Symbol}
use Rattle.rx_pattern.specs.Pattern.{fits, AnyList}
use Rattle.rx_pattern.specs.Code.{Named, Listing, Piece, One, Several}
use Rattle.rx_pattern.specs.Nodes.{kind_of_class, step_of}
use Rattle.rx_pattern.specs.Subjects.{IsListed, Stands, Suits, Front, meets, Met, MetOrNot}
use Rattle.rx_pattern.specs.declared.faults.PatternFault.{PatternFault}
use Rattle.rx_pattern.specs.declared.nodes.Class.{Class}
use Rattle.rx_pattern.specs.declared.nodes.Node.{Node}
use Rattle.rx_pattern.specs.declared.nodes.Node.TheVariants as node
use Rattle.rx_term.proofs.StoreLemmas.{Grows-refl}
use Rattle.rx_pattern.proofs.StackLemmas.{same, push, still_on, listed_notes, adds_one}

-- a step that does not meet its subject leaves nothing
pub met_none : (w : Store) (f : Option Front) (before after : List (Option Term)) → f ≡ None → Met w f before after false
met_none w f before after e = rw e tt

-- ---- applications

-- what the test of a symbol's name says
abbrev TestsName : Store → Symbol → List ℕ → Bool → Bool → Type 0
TestsName w s name quoted b = (g : Signature) → signature_of w s ≡ Some g → b ≡ (bytes_eq name g.name && beq quoted g.quoted)

pub other_application : (w : Store) (t : Term) (s : Symbol) (name : List ℕ) (quoted b : Bool) (u : Tree) → HasAppl w t s → TestsName w s name quoted b
    → b ≡ false → tree_at w t ≡ Some u → meets (Named name quoted) (One u) ≡ None
other_application w t s name quoted b u h test n e =
    let i : u ≡ Appl h.name h.quoted h.args h.anns = same e h.here in
    let d : (bytes_eq name h.name && beq quoted h.quoted) ≡ false =
    sym (test (record { name = h.name; quoted = h.quoted; arity = count_of h.args }) h.symbol) ∙ n in
    rw (i, d) refl

pub application_met : (w : Store) (t : Term) (s : Symbol) (name : List ℕ) (quoted b : Bool) (a : Option Term) (args : Term)
    (before between after : List (Option Term)) → HasAppl w t s → TestsName w s name quoted b → b ≡ true
    → HasAnns w t a → tree_at w args ≡ part_at args_of w t → between ≡ before ++ a ∷ [] → after ≡ between ++ Some args ∷ []
    → (u : Tree) → tree_at w t ≡ Some u → Met w (meets (Named name quoted) (One u)) before after true
application_met w t s name quoted b a args before between after h test y notes arguments grown more_grown u e =
    let i : u ≡ Appl h.name h.quoted h.args h.anns = same e h.here in
    let d : (bytes_eq name h.name && beq quoted h.quoted) ≡ true =
    sym (test (record { name = h.name; quoted = h.quoted; arity = count_of h.args }) h.symbol) ∙ y in
    let l : IsListed w a h.anns = listed_notes w t (Appl h.name h.quoted h.args h.anns) a h.here notes in
    let k : IsListed w (Some args) h.args = (none, arguments ∙ ap (option_and_then args_of) h.here) in
    rw (i, d) (
      refl,
      λ vs st. push (Stands w) between after (Some args) (Several h.args) (Several h.anns ∷ vs) more_grown k
          (push (Stands w) before between a (Several h.anns) vs grown l st),
    )

-- ---- lists

pub not_list : (u : Tree) → fits AnyList u ≡ false → meets Listing (One u) ≡ None
not_list (Int z anns) e = refl
not_list (Appl name quoted args anns) e = refl
not_list (Items items anns) e = absurd (let z : ⊥ = cc in z)
not_list (Hole inner anns) e = refl

pub list_met : (w : Store) (t : Term) (a : Option Term) (before between after : List (Option Term)) (u : Tree) → tree_at w t ≡ Some u
    → fits AnyList u ≡ true → HasAnns w t a
    → between ≡ before ++ a ∷ [] → after ≡ between ++ Some t ∷ [] → Met w (meets Listing (One u)) before after true
list_met w t a before between after (Items items anns) e f notes grown more_grown = (
  refl,
  λ vs st. push (Stands w) between after (Some t) (Several items) (Several anns ∷ vs) more_grown (anns, e)
      (push (Stands w) before between a (Several anns) vs grown (listed_notes w t (Items items anns) a e notes) st),
)
list_met w t a before between after (Int z anns) e f notes grown more_grown = absurd (let y : ⊥ = cc in y)
list_met w t a before between after (Appl name quoted args anns) e f notes grown more_grown = absurd (let y : ⊥ = cc in y)
list_met w t a before between after (Hole inner anns) e f notes grown more_grown = absurd (let y : ⊥ = cc in y)

-- ---- bindings

-- what the test of a placeholder says
abbrev TestsClass : Store → Term → Class → Bool → Type 0
TestsClass w t class b = (u : Tree) → tree_at w t ≡ Some u → b ≡ fits (kind_of_class class) u

placeholder_binds : (w : Store) (n : Node) (class : Class) (subject : Option Term) (t : Term) (before : List (Option Term)) (out after : List Term)
    (b : Bool) → n ≡ node.Placeholder class → subject ≡ Some t
    → TestsClass w t class b → (b ≡ true → after ≡ out ++ t ∷ []) → (v : Piece) → Stands w subject v → Suits (step_of n) v
    → MetOrNot w w (meets (step_of n) v) before before out after b
placeholder_binds w n class subject t before out after true e f test grown (One u) st su =
    let there : tree_at w t ≡ Some u = rw f at st in
    rw (e, sym (test u there)) ((λ vs on. on), adds_one w w (Grows-refl w) out after t u (grown refl) there)
placeholder_binds w n class subject t before out after false e f test grown (One u) st su =
    let there : tree_at w t ≡ Some u = rw f at st in
    rw (e, sym (test u there)) tt
placeholder_binds w n class subject t before out after b e f test grown (Several ts) st su = absurd (rw e at su)

pub placeholder_arm : (w : Store) (n : Node) (class : Class) (subject : Option Term) (t : Term) (before : List (Option Term)) (out after : List Term)
    (r : Result Bool PatternFault) → n ≡ node.Placeholder class → subject ≡ Some t
    → IfOk r (TestsClass w t class) → IfOk r (λ b. b ≡ true → after ≡ out ++ t ∷ [])
    → IfOk r (λ b. (v : Piece) → Stands w subject v → Suits (step_of n) v → MetOrNot w w (meets (step_of n) v) before before out after b)
placeholder_arm w n class subject t before out after (Ok b) e f test grown = placeholder_binds w n class subject t before out after b e f test grown
placeholder_arm w n class subject t before out after (Err fault) e f test grown = tt

pub rest_arm : (w new : Store) (n : Node) (subject : Option Term) (r : Term) (before : List (Option Term)) (out after : List Term) → n ≡ node.Rest → Grows w new
    → ((ts : Trees) → IsListed w subject ts → tree_at new r ≡ Some (list_of ts)) → after ≡ out ++ r ∷ [] → (v : Piece) → Stands w subject v
    → Suits (step_of n) v → MetOrNot w new (meets (step_of n) v) before before out after true
rest_arm w new n subject r before out after e g made grown (Several ts) st su =
    rw e ((λ vs on. still_on w new g before vs on), adds_one w new g out after r (list_of ts) grown (made ts (listed subject st))) where
      listed : (l : Option Term) → Stands w l (Several ts) → IsListed w l ts
      listed None h = h
      listed (Some q) h = h
rest_arm w new n subject r before out after e g made grown (One u) st su = absurd (rw e at su)
