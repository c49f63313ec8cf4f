-- Terms of another store, and their copies on the value stack.
use Rattle.std.proofs.Common.{refl, sym, ap, ap₂, subst, ◌∙◌, arith, is_some, inl, inr, append-nil, append_assoc, length-append, eq-eqb, get_or}
use Rattle.std.proofs.lemmas.Bool.{eqb-true}
use Rattle.std.proofs.lemmas.List.{map-append, length-map}
use Rattle.std.specs.FinMap as map
use Rattle.std.specs.Option.{option_and_then}
use Rattle.std.specs.Prelude.{ℕ, suc, zero, ◌≡◌, ◌≢◌, ◌<◌, ◌⊎◌, Bool, ◌&&◌, IsTrue, nat_lt, true, false, cond, not, List, [], ◌∷◌, ◌++◌, Option, Some, None, IsSome}
use Rattle.std.specs.Prelude.{Result, Ok, Err, OnErr, Contains, length, map as mapped, nat_eq}
use Rattle.indexmap.specs.IndexMap.{IndexMap, get}
use Rattle.std.specs.List.{list_all}
use Rattle.rx_term.specs.Name.{IsAllowed, Signature, is_allowed, plain_name}
use Rattle.rx_term.specs.Tree.{Tree, Trees, Int, Appl, Items, Hole, none, more, to_list, from_list, items_of, list_of, count_of}
use Rattle.rx_term.specs.Parts.{parts, list_parts}
use Rattle.rx_term.specs.Store.{Store, tree_at, signature_of, part_at, head_of, tail_of, args_of, name_at, quoted_at, arity_at}
use Rattle.rx_term.specs.Steps.{IsSound, Keeps, Adds, IsReached}
use Rattle.rx_term.specs.Kinds.{HasCons, HasAppl, HasKind}
use Rattle.rx_term.specs.Walks.{AllHeld, held_tree, held_trees}
use Rattle.rx_term.specs.declared.Term.{Term}
use Rattle.rx_term.specs.declared.Symbol as bank
use Rattle.rx_term.specs.declared.Kind.{Kind}
use Rattle.rx_term.specs.declared.Kind.TheVariants as kind
use Rattle.rx_term.proofs.PartsLemmas.{parts-self, parts-trans}
use Rattle.rx_term.proofs.KeepLemmas.{kept-work}
use Rattle.rx_term.proofs.WalkLemmas.{AllHeld-push}
use Rattle.rec_syntax.specs.Syntax.{Spec}
use Rattle.rec_sorts.specs.Laws.{Every}
use Rattle.rec_sorts.specs.TermRules.{arguments}
use Rattle.rec_sorts.specs.Binding.{instances}
use Rattle.rec_sorts.specs.Evaluation.{terms_of}
use Rattle.rec_sorts.specs.Numbering.{name_of}
use Rattle.rec_sorts.specs.Linked.{AreLinked}
use Rattle.rec_sorts.specs.Walking.{backwards}
use Rattle.rec_sorts.specs.declared.letters.Meaning.TheVariants.{Symbol}
use Rattle.rec_sorts.proofs.WalkedLemmas.{held, rest_there, items_of-cons, items_of-args}
use Rattle.rec_match.proofs.FactLemmas.{every_append, every_joined, every_map}
use Rattle.rec_memo.specs.Pairs.{Pairs}
use Rattle.rec_engine.specs.Cells.{RoomOnly}
use Rattle.rec_engine.specs.Engine.{RoomOnlyFor}
use Rattle.rec_engine.specs.declared.engine.errors.EngineFault.{EngineFault}
use Rattle.rec_engine.specs.declared.engine.errors.EngineFault.TheVariants.{Memory, Room, Deep}
use Rattle.rec_engine.specs.Inner.Building.{OnTop, CanApply, Applies, LeavesParts}
use Rattle.rec_engine.specs.Inner.Copied.{AreCopies, ArePartsOf, Copying, HasCopy, HasNilFirst, HasSymbol, IsAhead, PushesCopies, IsAt, Waits, copied}
use Rattle.rec_engine.specs.Inner.Given.{IsNode}
use Rattle.rec_engine.specs.Inner.Visits.{CanVisit, EntersNode, enters, reference, visited}
use Rattle.rec_engine.specs.declared.terms.visits.Visit.{Visit}
use Rattle.rec_engine.specs.declared.terms.visits.Visit.TheVariants.{Enter, Leave}
use Rattle.rec_engine.proofs.BuildingLemmas.{held-is, trees-kept}
use Rattle.rec_engine.proofs.EndLemmas.{at-first, in-snoc, in-front, in-end, in-here, in-one}
use Rattle.rec_engine.proofs.PartLemmas.{later, element-part, argument-part, in-either}
use Rattle.rec_engine.proofs.TermLemmas.{empty-in}
use Rattle.rec_engine.proofs.VisitLemmas.{last-can, others-can, entered-can, root-of}

no-element : {A : Type 0} (t : A) (P : Type 0) → Contains [] t → P
no-element t P (k, lt, e) = absurd (let no : ⊥ = omega (arith, lt) in no)

-- ---- the copy of a tree

copied-items : (ts : Trees) → instances [] (terms_of ts) ≡ from_list (mapped copied (to_list ts))
copied-items none = refl
copied-items (more t ts) = ap (λ us. more (copied t) us) (copied-items ts)

copied-application : (name : List ℕ) (quoted : Bool) (args anns : Trees)
    → copied (Appl name quoted args anns) ≡ Appl name (not (plain_name name)) (from_list (mapped copied (to_list args))) none
copied-application name quoted args anns = ap (λ ts. Appl name (not (plain_name name)) ts none) (copied-items args)

in-mapped : {A B : Type 0} (f : A → B) (xs : List A) (x : A) → Contains xs x → Contains (mapped f xs) (f x)
in-mapped f [] x c = no-element x (Contains (mapped f []) (f x)) c
in-mapped f (z ∷ xs) x (zero, lt, e) = subst (λ y. Contains (f z ∷ mapped f xs) (f y)) e (in-here (f z) (mapped f xs))
in-mapped f (z ∷ xs) x (suc k, lt, e) = later (f z) (mapped f xs) (f x) (in-mapped f xs x (k, omega (arith, lt), e))

module _ (w : Store) (t : Tree) (h : HasSymbol w t) where
  pub copied-node : copied t ≡ Appl h.name (not (plain_name h.name)) (from_list (mapped copied (to_list h.args))) none
  copied-node = ap copied h.is ∙ copied-application h.name (not (plain_name h.name)) h.args h.anns

  pub its-arguments : arguments t ≡ h.args
  its-arguments = ap arguments h.is

  abbrev g : Signature
  g = record { name = h.name; quoted = not (plain_name h.name); arity = count_of h.args }

  part-of-list : (u : Tree) → Contains (list_parts (from_list (mapped copied (to_list h.args)))) u → Contains (parts (copied t)) u
  part-of-list u c = subst (λ z. Contains (parts z) u) (sym copied-node) (argument-part g (from_list (mapped copied (to_list h.args))) u c)

  -- the copy of an argument is a part of the copy
  pub copied-part : (x : Tree) → Contains (to_list (arguments t)) x → Contains (parts (copied t)) (copied x)
  copied-part x c = part-of-list (copied x) (element-part (mapped copied (to_list h.args)) (copied x)
      (in-mapped copied (to_list h.args) x (subst (λ ts. Contains (to_list ts) x) its-arguments c)))

  -- so is the empty list
  pub nil-part : Contains (parts (copied t)) (list_of none)
  nil-part = part-of-list (list_of none) (empty-in (from_list (mapped copied (to_list h.args))))

-- the argument list of a node
pub node-list : (own w : Store) (node : Term) → IsSome (tree_at own node) → HasSymbol w (held_tree own node)
    → part_at args_of own node ≡ Some (list_of (arguments (held_tree own node)))
node-list own w node there h =
    let here : tree_at own node ≡ Some (Appl h.name (not (plain_name h.name)) h.args h.anns) =
    held-is own node there ∙ ap (λ (u : Tree). let o : Option Tree = Some u in o) h.is in
    ap (option_and_then args_of) here
    ∙ ap (λ ts. let o : Option Tree = Some (list_of ts) in o) (sym (its-arguments w (held_tree own node) h))

-- ---- the symbols of a tree

module _ (y : Spec) (w : Store) (ss : List bank.Symbol) (linked : AreLinked y w ss) where
  has-symbol : (t : Tree) → IsNode y t → HasSymbol w t
  has-symbol t (f, (n, c)) =
      let d : bank.Symbol = record { 0 = 0 } in
      let name = name_of y (Symbol f) in
      record {
        name = name;
        args = c.args;
        anns = c.anns;
        symbol = get_or ss f d;
        is = c.is;
        signed = linked.linked f d c.declared ∙ ap (λ k. let o : Option Signature =
            Some (record { name = name; quoted = not (plain_name name); arity = k }) in o) (c.filled ∙ sym c.counted);
      }

  pub have-symbols : (ts : List Tree) → Every (IsNode y) ts → Every (HasSymbol w) ts
  have-symbols ts h = every_map (IsNode y) (HasSymbol w) has-symbol ts h

pub symbol-kept : (old new : Store) (work : List Term) (t : Tree) → Keeps old new work → HasSymbol old t → HasSymbol new t
symbol-kept old new work t k h = record {
  name = h.name;
  args = h.args;
  anns = h.anns;
  symbol = h.symbol;
  is = h.is;
  signed = ap (λ m. map.get m h.symbol.0) k.beside.symbols ∙ h.signed;
}

-- a symbol that is there is not added
pub symbol-there : (old new : Store) (g : Signature) (s d : bank.Symbol) → IsSound new → Adds old new g s → signature_of old d ≡ Some g → new ≡ old
symbol-there old new g s d sound a e = by (nat_eq d.0 s.0) refl
  where
    by : (b : Bool) → nat_eq d.0 s.0 ≡ b → new ≡ old
    by true same =
        let is : d ≡ s = ap (λ n. let x : bank.Symbol = record { 0 = n } in x) (eqb-true d.0 s.0 same) in
        a.there (subst (λ x. IsSome (signature_of old x)) is (ap is_some e))
    by false other =
        let differ : d ≢ s = λ q. absurd (let no : false ≡ true = sym other ∙ eq-eqb d.0 s.0 (ap (λ (x : bank.Symbol). x.0) q) in cc no) in
        absurd (differ (sound.symbols_one_to_one d s g (a.others d differ ∙ e) a.added))

-- ---- indexes

module _ {work : List Term} {i : ℕ} {r : Term} (s : IsAt work i r) where
  pub at-within : i < length work
  at-within =
      let e = ap length s.split ∙ length-append s.front (r ∷ s.back) in
      let p = s.place in
      omega (arith, e, p)

  pub at-more : (new back : List Term) → new ≡ work ++ back → IsAt new i r
  at-more new back e = record {
    front = s.front;
    back = s.back ++ back;
    split = e ∙ ap (λ xs. xs ++ back) s.split ∙ append_assoc s.front (r ∷ s.back) back;
    place = s.place;
  }

  pub at-get : (d : Term) → get_or work i d ≡ r
  at-get d = ap (λ xs. get_or xs i d) s.split ∙ at-first s.front r s.back d i s.place

  pub at-in : Contains work r
  at-in = subst (λ (xs : List Term). Contains xs r) (sym s.split) (in-end s.front (r ∷ s.back) r (in-here r s.back))

module _ {S : Type 0} (own : Store) (copies : IndexMap ℕ ℕ S) where
  -- a reference whose tree has a copy has an index
  pub copy-known : IsSound own → (r : Term) (x : Tree) → tree_at own r ≡ Some x → HasCopy own copies x → IsSome (get nat_eq copies r.0)
  copy-known sound r x e (n, (at, some)) =
      let same : reference n ≡ r = sound.one_to_one (reference n) r x at e in
      subst (λ (q : Term). IsSome (get nat_eq copies q.0)) same some

  pub index-within : (w : Store) (old now args : List Term) (r : Term) (i : ℕ) → AreCopies own w old copies → get nat_eq copies r.0 ≡ Some i
      → now ≡ old ++ args → i < length now
  index-within w old now args r i h got e = at-within (at-more (h r.0 i got).1.0 now args e)

  -- ---- the copies of the items of a list

  pub record Pushing (list rest : Term) (old now : List Term) : Type 0 where
    pub args : List Term
    pub pushed : now ≡ old ++ args
    pub left : IsSome (tree_at own rest)
    pub known : (x : Tree) → Contains (to_list (items_of (held_tree own rest))) x → HasCopy own copies x
    pub trees : (w : Store) → AreCopies own w old copies → AllHeld w args
        × (held_trees w args ++ mapped copied (to_list (items_of (held_tree own rest))) ≡ mapped copied (to_list (items_of (held_tree own list))))

  pub push-first : (list : Term) (old : List Term) → IsSome (tree_at own list)
      → ((x : Tree) → Contains (to_list (items_of (held_tree own list))) x → HasCopy own copies x) → Pushing list list old old
  push-first list old there known = record {
    args = [];
    pushed = sym (append-nil old);
    left = there;
    known = known;
    trees = λ w h. ((λ t c. no-element t (IsSome (tree_at w t)) c), refl);
  }

  -- the next item has an index
  pub next-known : IsSound own → (list rest head : Term) (old now : List Term) → HasCons own rest → tree_at own head ≡ part_at head_of own rest
      → Pushing list rest old now → IsSome (get nat_eq copies head.0)
  next-known sound list rest head old now h at_head p =
      let there : tree_at own head ≡ Some h.first = at_head ∙ ap (option_and_then head_of) h.here in
      let listed : items_of (held_tree own rest) ≡ more h.first h.rest =
      ap items_of (held own rest (Items (more h.first h.rest) h.anns) h.here) in
      copy-known sound head h.first there (p.known h.first (subst (λ ts. Contains (to_list ts) h.first) (sym listed) (in-here h.first (to_list h.rest))))

  module _ (list rest head tail : Term) (old now : List Term) (h : HasCons own rest) (at_head : tree_at own head ≡ part_at head_of own rest)
      (at_tail : tree_at own tail ≡ part_at tail_of own rest) (p : Pushing list rest old now) where
    split : items_of (held_tree own rest) ≡ more (held_tree own head) (items_of (held_tree own tail))
    split = items_of-cons own rest head tail h at_head at_tail

    pub push-next : (copy : Term) (i : ℕ) (new : List Term) → get nat_eq copies head.0 ≡ Some i → copy ≡ get_or now i copy → new ≡ now ++ copy ∷ []
        → Pushing list tail old new
    push-next copy i new got at pushed = record {
      args = p.args ++ copy ∷ [];
      pushed = pushed ∙ ap (λ xs. xs ++ copy ∷ []) p.pushed ∙ append_assoc old p.args (copy ∷ []);
      left = ap is_some (rest_there own rest head tail h at_head at_tail);
      known = λ x c. p.known x (subst (λ ts. Contains (to_list ts) x) (sym split) (later (held_tree own head) (to_list (items_of (held_tree own tail))) x c));
      trees = λ w are.
          let before = p.trees w are in
          let entry = are head.0 i got in
          let place = at-more entry.1.0 now p.args p.pushed in
          let is : copy ≡ entry.0 = at ∙ at-get place copy in
          let there : tree_at w copy ≡ Some (copied (held_tree own head)) = ap (tree_at w) is ∙ entry.1.1 in (
            AllHeld-push w p.args copy before.0 (ap is_some there),
            ap (λ (ts : List Tree). ts ++ mapped copied (to_list (items_of (held_tree own tail)))) (map-append (held_tree w) p.args (copy ∷ []))
                ∙ append_assoc (held_trees w p.args) (held_tree w copy ∷ []) (mapped copied (to_list (items_of (held_tree own tail))))
                ∙ ap (λ t. held_trees w p.args ++ t ∷ mapped copied (to_list (items_of (held_tree own tail))))
                (held w copy (copied (held_tree own head)) there)
                ∙ ap (λ ts. held_trees w p.args ++ mapped copied (to_list ts)) (sym split)
                ∙ before.1,
          );
    }

  pub copies-some : (w : Store) (items : List Tree) (old new : List Term) → HasNilFirst w old → PushesCopies w items old new → 0 < length new
  copies-some w items old new nil p =
      let e = ap length (p.pushed ∙ ap (λ xs. xs ++ p.args) nil.split) in
      omega (arith, e)

  pub push-last : (list rest : Term) (old now : List Term) → items_of (held_tree own rest) ≡ none → Pushing list rest old now → (w : Store)
      → AreCopies own w old copies → PushesCopies w (to_list (items_of (held_tree own list))) old now
  push-last list rest old now e p w are =
      let done = p.trees w are in
      record {
        args = p.args;
        pushed = p.pushed;
        held = done.0;
        trees = sym (append-nil (held_trees w p.args)) ∙ ap (λ ts. held_trees w p.args ++ mapped copied (to_list ts)) (sym e) ∙ done.1;
      }

-- ---- the copy of a node

-- an application is no other kind of tree
pub is-application : (own w : Store) (node : Term) (k : Kind) → HasSymbol w (held_tree own node) → HasKind own node k
    → ((s : bank.Symbol) → k ≡ kind.Appl s → ⊥) → ⊥
is-application own w node (kind.Int z) h x apart =
    let e : Int z x.anns ≡ Appl h.name (not (plain_name h.name)) h.args h.anns = sym (held own node (Int z x.anns) x.here) ∙ h.is in cc e
is-application own w node kind.Nil h x apart =
    let e : Items none x.anns ≡ Appl h.name (not (plain_name h.name)) h.args h.anns = sym (held own node (Items none x.anns) x.here) ∙ h.is in cc e
is-application own w node kind.Cons h x apart =
    let e : Items (more x.first x.rest) x.anns ≡ Appl h.name (not (plain_name h.name)) h.args h.anns =
    sym (held own node (Items (more x.first x.rest) x.anns) x.here) ∙ h.is in cc e
is-application own w node (kind.Appl s) h x apart = apart s refl
is-application own w node kind.Hole h x apart =
    let e : Hole x.inside x.anns ≡ Appl h.name (not (plain_name h.name)) h.args h.anns = sym (held own node (Hole x.inside x.anns) x.here) ∙ h.is in cc e

module _ (own w : Store) (node : Term) (from : bank.Symbol) (name : List ℕ) (quoted : Bool) (count : ℕ) (h : HasSymbol w (held_tree own node))
    (a : HasAppl own node from) (e_name : name_at own from ≡ Some name) (e_quoted : quoted_at own from ≡ Some quoted)
    (e_count : arity_at own from ≡ Some count) where
  same : Appl a.name a.quoted a.args a.anns ≡ Appl h.name (not (plain_name h.name)) h.args h.anns
  same = sym (held own node (Appl a.name a.quoted a.args a.anns) a.here) ∙ h.is

  same-args : a.args ≡ h.args
  same-args = let e = same in cc e

  same-name : name ≡ h.name
  same-name =
      let e = same in
      let own-name : a.name ≡ h.name = cc e in
      let s = a.symbol in
      let n : Some name ≡ Some a.name = sym e_name ∙ (rw s refl) in
      let m : name ≡ a.name = cc n in
      m ∙ own-name

  same-quoted : quoted ≡ not (plain_name h.name)
  same-quoted =
      let e = same in
      let own-quoted : a.quoted ≡ not (plain_name h.name) = cc e in
      let s = a.symbol in
      let n : Some quoted ≡ Some a.quoted = sym e_quoted ∙ (rw s refl) in
      let m : quoted ≡ a.quoted = cc n in
      m ∙ own-quoted

  same-count : count ≡ count_of a.args
  same-count =
      let s = a.symbol in
      let n : Some count ≡ Some (count_of a.args) = sym e_count ∙ (rw s refl) in
      cc n

  -- the symbol of its name in the store
  pub its-signature : signature_of w h.symbol ≡ Some (record { name = name; quoted = quoted; arity = count })
  its-signature =
      let n = same-name in
      let q = same-quoted in
      let c = same-count ∙ ap count_of same-args in
      h.signed ∙ (λ i. Some (record { name = sym n i; quoted = sym q i; arity = sym c i }))

  -- so it is not added
  pub symbol-same : (new : Store) (s : bank.Symbol) → IsSound new → Adds w new (record { name = name; quoted = quoted; arity = count }) s → new ≡ w
  symbol-same new s sound adds = symbol-there w new (record { name = name; quoted = quoted; arity = count }) s h.symbol sound adds its-signature

  -- its name is that of a symbol
  pub allowed : IsSound w → IsAllowed name quoted
  allowed sound = second (list_all (λ b. nat_lt b 256) name) (is_allowed name quoted) (sound.valid_names h.symbol _ its-signature)
    where
      second : (x z : Bool) → IsTrue (x && z) → IsTrue z
      second true z e = e
      second false z e = absurd (cc e)

  module _ (list empty : Term) (to : bank.Symbol) (work pushed full : List Term) (at_list : tree_at own list ≡ part_at args_of own node)
      (signed : signature_of w to ≡ Some (record { name = name; quoted = quoted; arity = count }))
      (p : PushesCopies w (to_list (items_of (held_tree own list))) work pushed) (nil : HasNilFirst w work)
      (e_empty : empty ≡ get_or pushed 0 empty) (e_full : full ≡ pushed ++ empty ∷ []) where
    items : to_list (items_of (held_tree own list)) ≡ to_list h.args
    items = ap to_list (items_of-args own node list from a at_list ∙ its-arguments w (held_tree own node) h)

    is-empty : empty ≡ nil.empty
    is-empty = e_empty ∙ ap (λ xs. get_or xs 0 empty) (p.pushed ∙ ap (λ xs. xs ++ p.args) nil.split)

    pub at-empty : tree_at w empty ≡ Some (Items none none)
    at-empty = ap (tree_at w) is-empty ∙ nil.is

    length-list : (ts : Trees) → length (to_list ts) ≡ count_of ts
    length-list none = refl
    length-list (more t ts) = let k = length-list ts in omega (arith, k)

    pub counted : length p.args ≡ count
    counted =
        sym (length-map p.args (held_tree w)) ∙ ap length p.trees ∙ length-map (to_list (items_of (held_tree own list))) copied ∙ ap length items
        ∙ length-list h.args ∙ ap count_of (sym same-args) ∙ sym same-count

    abbrev pub copy-can : CanApply w full count to
    copy-can = record {
      below = work;
      arguments = p.args;
      list = empty;
      signature = record { name = name; quoted = quoted; arity = count };
      split = e_full ∙ ap (λ xs. xs ++ empty ∷ []) p.pushed ∙ append_assoc work p.args (empty ∷ []);
      counted = counted;
      empty = at-empty;
      symbol = signed;
      arity = refl;
    }

    copy-tree : Appl name quoted (from_list (held_trees w p.args)) none ≡ copied (held_tree own node)
    copy-tree =
        ap (λ ts. Appl name quoted (from_list ts) none) (p.trees ∙ ap (mapped copied) items)
        ∙ ap₂ (λ n q. Appl n q (from_list (mapped copied (to_list h.args))) none) same-name same-quoted
        ∙ sym (copied-node w (held_tree own node) h)

    pub copy-held : AllHeld w work → AllHeld w full
    copy-held below t c =
        in-snoc pushed empty t (IsSome (tree_at w t)) (subst (λ (xs : List Term). Contains xs t) e_full c)
        (λ d. in-either work p.args t (IsSome (tree_at w t)) (subst (λ (xs : List Term). Contains xs t) p.pushed d) (below t) (p.held t))
        (λ e. subst (λ (z : Term). IsSome (tree_at w z)) e (ap is_some at-empty))

    pub copy-made : (new : Store) (made : List Term) → Applies w new full made count to → OnTop new work made (copied (held_tree own node))
    copy-made new made applies =
        let on_top = (applies copy-can).on_top in
        subst (OnTop new work made) copy-tree on_top

    -- if no cell is left, all that is held is a part of a protected term or of the whole
    pub copy-room : (new : Store) (left : List Term) (m : Pairs) (whole : Tree) (r : Result (Unit {0}) EngineFault) → ArePartsOf w work whole
        → Contains (parts whole) (copied (held_tree own node)) → OnErr r (LeavesParts w new full left count to) → RoomOnly new left m r
        → RoomOnlyFor new m (Some whole) r
    copy-room new left m whole (Ok x) below inside leaves room = tt
    copy-room new left m whole (Err Memory) below inside leaves room = tt
    copy-room new left m whole (Err Deep) below inside leaves room = absurd room
    copy-room new left m whole (Err Room) below inside leaves room = record {
      full = room.exhausted.full;
      needed = λ t v at. reached (room.exhausted.needed t v at);
      forgotten = room.forgotten;
    }
      where
        reached : {v : Tree} → IsReached new left v → IsReached new [] v ⊎ Contains (parts whole) v
        reached {v} (r, (x, root, at, part)) = elim root [
          | inl q ↦ inl (r, (x, inl q, at, part))
          | inr c ↦ inr (parts-trans whole x v
              (elim (leaves copy-can r x c at) [
                | inl b ↦ below x b
                | inr q ↦ parts-trans whole (copied (held_tree own node)) x inside (subst (λ z. Contains (parts z) x) copy-tree q)
              ]) part)
        ]

pub room-of : (w : Store) (m : Pairs) (u : Tree) (e : EngineFault) → RoomOnlyFor {A = Unit {0}} w m (Some u) (Err e)
    → RoomOnlyFor {A = Term} w m (Some u) (Err e)
room-of w m u Memory h = tt
room-of w m u Room h = h
room-of w m u Deep h = absurd h

-- ---- what is visited next

module _ {S : Type 0} (own : Store) (old new : IndexMap ℕ ℕ S) (grows : (x : Tree) → HasCopy own old x → HasCopy own new x) (v : Visit) (us : List Visit)
    (instead : (x : Tree) → tree_at own (visited v) ≡ Some x → IsAhead own new us x) where
  pub ahead-turn : (vs : List Visit) (x : Tree) → IsAhead own old (vs ++ v ∷ []) x → IsAhead own new (vs ++ us) x
  ahead-turn vs x (inl k) = inl (grows x k)
  ahead-turn vs x (inr (u, (c, e))) = in-snoc vs v u (IsAhead own new (vs ++ us) x) c (λ d. inr (u, (in-front vs us u d, e)))
      (λ q. further (instead x (ap (λ z. tree_at own (visited z)) q ∙ e)))
    where
      further : IsAhead own new us x → IsAhead own new (vs ++ us) x
      further (inl k) = inl k
      further (inr (z, (d, f))) = inr (z, (in-end vs us z d, f))

  pub waits-turn : Waits own new us → (vs : List Visit) → Waits own old (vs ++ v ∷ []) → Waits own new (vs ++ us)
  waits-turn h [] w = h
  waits-turn h (Enter t ∷ vs) w = waits-turn h vs w
  waits-turn h (Leave t ∷ vs) w = ((λ x c. ahead-turn vs x (w.0 x c)), waits-turn h vs w.1)

module _ {S : Type 0} (own : Store) (copies : IndexMap ℕ ℕ S) where
  nothing-ahead : (x : Tree) → IsAhead own copies [] x → HasCopy own copies x
  nothing-ahead x (inl k) = k
  nothing-ahead x (inr (v, (c, e))) = no-element v (HasCopy own copies x) c

  -- the arguments of a term that is left have copies
  pub waits-top : (vs : List Visit) (t : Term) → Waits own copies (vs ++ Leave t ∷ []) → (x : Tree)
      → Contains (to_list (arguments (held_tree own t))) x → HasCopy own copies x
  waits-top [] t w x c = nothing-ahead x (w.0 x c)
  waits-top (Enter z ∷ vs) t w x c = waits-top vs t w x c
  waits-top (Leave z ∷ vs) t w x c = waits-top vs t w.1 x c

  waits-enters : (args : List Term) → Waits own copies (enters args)
  waits-enters [] = tt
  waits-enters (r ∷ args) = waits-enters args

  ahead-enters : (args : List Term) (x : Tree) → AllHeld own args → Contains (held_trees own args) x
      → (v : Visit) × (Contains (enters args) v × (tree_at own (visited v) ≡ Some x))
  ahead-enters [] x h c = no-element x _ c
  ahead-enters (r ∷ args) x h (zero, lt, e) = (
    Enter r,
    (
      in-here (Enter r) (enters args),
      held-is own r (h r (in-here r args)) ∙ ap (λ (u : Tree). let o : Option Tree = Some u in o) e,
    ),
  )
  ahead-enters (r ∷ args) x h (suc k, lt, e) =
      let rest = ahead-enters args x (λ t d. h t (later r args t d)) (k, omega (arith, lt), e) in
      (rest.0, (later (Enter r) (enters args) rest.0 rest.1.0, rest.1.1))

  -- the arguments of a term that is entered are visited next, and then it is left
  module _ (node : Term) (old new : List Visit) (e : EntersNode own node old new) where
    pub entered-waits : Waits own copies (Leave node ∷ enters e.args)
    entered-waits = (
      (λ x c. inr (ahead-enters e.args x e.held (subst (λ ts. Contains ts x) (sym e.trees) c))),
      waits-enters e.args,
    )

    pub entered-ahead : (x : Tree) → tree_at own node ≡ Some x → IsAhead own copies (Leave node ∷ enters e.args) x
    entered-ahead x at = inr (Leave node, (in-here (Leave node) (enters e.args), at))

enters-inside : (own : Store) (Q : Tree → Type 0) (args : List Term) → ((x : Tree) → Contains (held_trees own args) x → Q x)
    → Every (λ (v : Visit). Q (held_tree own (visited v))) (enters args)
enters-inside own Q [] f = tt
enters-inside own Q (r ∷ args) f = (
  f (held_tree own r) (in-here (held_tree own r) (held_trees own args)),
  enters-inside own Q args (λ x c. f x (later (held_tree own r) (held_trees own args) x c)),
)

-- ---- between two visits

module _ {S : Type 0} {own w first : Store} {t : Term} {work : List Term} {copies : IndexMap ℕ ℕ S} {all : List Visit}
    (c : Copying own w t first work copies all) (rest : List Visit) where
  abbrev Inside : Visit → Type 0
  Inside v = Contains (parts (copied (held_tree own t))) (copied (held_tree own (visited v)))

  module _ (v : Visit) (is : all ≡ rest ++ v ∷ []) where
    pub top-can : CanVisit (HasSymbol first) own v
    top-can = last-can (HasSymbol first) own all rest v is c.can

    both : Every Inside rest × Every Inside (v ∷ [])
    both = every_append Inside rest (v ∷ []) (subst (Every Inside) is c.inside)

    pub top-inside : Inside v
    top-inside = both.1.0

    pub top-symbol : (kept : List Term) → Keeps first w kept → HasSymbol w (held_tree own (visited v))
    top-symbol kept k = symbol-kept first w kept (held_tree own (visited v)) k (root-of (HasSymbol first) (held_tree own (visited v)) top-can.nodes)

  -- a term with a copy is not entered again
  pub skipped-copying : (node : Term) → all ≡ rest ++ Enter node ∷ [] → IsSome (get nat_eq copies node.0) → Copying own w t first work copies rest
  skipped-copying node is some =
      let v : Visit = Enter node in
      let instead : (x : Tree) → tree_at own node ≡ Some x → IsAhead own copies [] x = λ x e. inl (node.0, (e, some)) in
      let nil = append-nil rest in
      record {
        can = others-can (HasSymbol first) own all rest v is c.can;
        inside = (both v is).0;
        waits = subst (Waits own copies) nil (waits-turn own copies copies (λ x k. k) v [] instead tt rest (subst (Waits own copies) is c.waits));
        ahead = subst (λ vs. IsAhead own copies vs (held_tree own t)) nil (ahead-turn own copies copies (λ x k. k) v [] instead rest (held_tree own t)
            (subst (λ vs. IsAhead own copies vs (held_tree own t)) is c.ahead));
        entries = c.entries;
        nil = c.nil;
        within = c.within;
      }

  pub entered-copying : (node : Term) (grown : List Visit) → all ≡ rest ++ Enter node ∷ [] → EntersNode own node rest grown
      → Copying own w t first work copies grown
  entered-copying node grown is e =
      let v : Visit = Enter node in
      let us = Leave node ∷ enters e.args in
      let whole = copied (held_tree own t) in
      let here = top-inside v is in
      let symbol = root-of (HasSymbol first) (held_tree own node) (top-can v is).nodes in
      record {
        can = entered-can (HasSymbol first) own all rest grown node is c.can e;
        inside = subst (Every Inside) (sym e.pushed) (every_joined Inside rest us (both v is).0 (
          here,
          enters-inside own (λ x. Contains (parts whole) (copied x)) e.args (λ x d. parts-trans whole (copied (held_tree own node)) (copied x) here
              (copied-part first (held_tree own node) symbol x (subst (λ ts. Contains ts x) e.trees d))),
        ));
        waits = subst (Waits own copies) (sym e.pushed) (waits-turn own copies copies (λ x k. k) v us (entered-ahead own copies node rest grown e)
            (entered-waits own copies node rest grown e) rest (subst (Waits own copies) is c.waits));
        ahead = subst (λ vs. IsAhead own copies vs (held_tree own t)) (sym e.pushed) (ahead-turn own copies copies (λ x k. k) v us
            (entered-ahead own copies node rest grown e) rest (held_tree own t) (subst (λ vs. IsAhead own copies vs (held_tree own t)) is c.ahead));
        entries = c.entries;
        nil = c.nil;
        within = c.within;
      }

  -- a term is left: its copy is on top, and its index is known
  module _ (node : Term) (is : all ≡ rest ++ Leave node ∷ []) (new : Store) (work' : List Term) (copies' : IndexMap ℕ ℕ S) (i : ℕ)
      (keeps : Keeps w new work) (below : AllHeld w work) (made : OnTop new work work' (copied (held_tree own node)))
      (updates : (q : ℕ) → get nat_eq copies' q ≡ cond (nat_eq node.0 q) (Some i) (get nat_eq copies q)) (place : i ≡ length work) where
    got : (q : ℕ) (o : Option ℕ) → (P : Type 0) → get nat_eq copies' q ≡ o → (node ≡ reference q → Some i ≡ o → P) → (get nat_eq copies q ≡ o → P) → P
    got q o P e one other = by (nat_eq node.0 q) refl (sym (updates q) ∙ e)
      where
        by : (b : Bool) → nat_eq node.0 q ≡ b → cond b (Some i) (get nat_eq copies q) ≡ o → P
        by true equal x = one (ap reference (eqb-true node.0 q equal)) x
        by false apart x = other x

    grows : (x : Tree) → HasCopy own copies x → HasCopy own copies' x
    grows x (n, (at, some)) = (n, (at, got n (get nat_eq copies' n) (IsSome (get nat_eq copies' n)) refl (λ q e. subst IsSome e refl) (λ e. subst IsSome e some)))

    itself : IsSome (get nat_eq copies' node.0)
    itself = let e = updates node.0 ∙ ap (λ b. cond b (Some i) (get nat_eq copies node.0)) (eq-eqb node.0 node.0 refl) in subst IsSome (sym e) refl

    instead : (x : Tree) → tree_at own node ≡ Some x → IsAhead own copies' [] x
    instead x e = inl (node.0, (e, itself))

    copies-more : AreCopies own new work' copies'
    copies-more n j e = got n (Some j) Entry e
        (λ same q.
        let at : i ≡ j = cc q in (
          made.top,
          (
            record { front = work; back = []; split = made.split; place = sym at ∙ place },
            made.is ∙ ap (λ (z : Term). let o : Option Tree = Some (copied (held_tree own z)) in o) same,
          ),
        ))
        (λ q.
        let entry = c.entries n j q in
        let r = entry.0 in
        (r, (at-more entry.1.0 work' (made.top ∷ []) made.split, kept-work keeps r (at-in entry.1.0) (ap is_some entry.1.1) ∙ entry.1.1)))
      where
        Entry : Type 0
        Entry = (r : Term) × (IsAt work' j r × (tree_at new r ≡ Some (copied (held_tree own (reference n)))))

    parts-more : ArePartsOf new work' (copied (held_tree own t))
    parts-more x d =
        let trees : held_trees new work' ≡ held_trees w work ++ held_tree new made.top ∷ [] =
        ap (held_trees new) made.split ∙ map-append (held_tree new) work (made.top ∷ [])
        ∙ ap (λ (ts : List Tree). ts ++ held_tree new made.top ∷ []) (trees-kept w new work work keeps below (λ z k. k)) in
        in-snoc (held_trees w work) (held_tree new made.top) x (Contains (parts (copied (held_tree own t))) x)
        (subst (λ ts. Contains ts x) trees d) (λ k. c.within x k)
        (λ q. subst (λ z. Contains (parts (copied (held_tree own t))) z) (sym (held new made.top (copied (held_tree own node)) made.is) ∙ q)
        (top-inside (Leave node) is))

    pub left-copying : Copying own new t first work' copies' rest
    left-copying = record {
      can = others-can (HasSymbol first) own all rest (Leave node) is c.can;
      inside = (both (Leave node) is).0;
      waits = subst (Waits own copies') (append-nil rest) (waits-turn own copies copies' grows (Leave node) [] instead tt rest
          (subst (Waits own copies) is c.waits));
      ahead = subst (λ vs. IsAhead own copies' vs (held_tree own t)) (append-nil rest) (ahead-turn own copies copies' grows (Leave node) [] instead rest
          (held_tree own t) (subst (λ vs. IsAhead own copies vs (held_tree own t)) is c.ahead));
      entries = copies-more;
      nil = record {
        empty = c.nil.empty;
        values = c.nil.values ++ made.top ∷ [];
        split = made.split ∙ ap (λ xs. xs ++ made.top ∷ []) c.nil.split;
        is = kept-work keeps c.nil.empty (subst (λ (xs : List Term). Contains xs c.nil.empty) (sym c.nil.split) (in-here c.nil.empty c.nil.values))
            (ap is_some c.nil.is) ∙ c.nil.is;
      };
      within = parts-more;
    }

-- at the beginning only the empty list is on the value stack
pub first-copying : {S : Type 0} (own w first : Store) (t empty : Term) (work : List Term) (copies : IndexMap ℕ ℕ S) (vs : List Visit)
    → IsSome (tree_at own t) → Every (HasSymbol first) (backwards (held_tree own t)) → ((n : ℕ) → get nat_eq copies n ≡ None)
    → work ≡ empty ∷ [] → tree_at w empty ≡ Some (Items none none) → vs ≡ Enter t ∷ [] → Copying own w t first work copies vs
first-copying own w first t empty work copies vs there symbols no_copies is at visits =
    let whole = copied (held_tree own t) in
    let v : Visit = Enter t in
    let here : Contains vs v = subst (λ (xs : List Visit). Contains xs v) (sym visits) (in-here v []) in
    let all : (P : Visit → Type 0) → P v → Every P vs = λ P p. subst (Every P) (sym visits) (p, tt) in
    record {
      can = all (CanVisit (HasSymbol first) own) (record { held = there; nodes = symbols });
      inside = all (λ z. Contains (parts whole) (copied (held_tree own (visited z)))) (parts-self whole);
      waits = subst (Waits own copies) (sym visits) tt;
      ahead = inr (v, (here, held-is own t there));
      entries = λ n i e. absurd (let no : None ≡ Some i = sym (no_copies n) ∙ e in cc no);
      nil = record { empty = empty; values = []; split = is; is = at };
      within = λ x d.
          let one : Contains (held_tree w empty ∷ []) x = subst (λ rs. Contains (held_trees w rs) x) is d in
          subst (λ z. Contains (parts whole) z) (sym (held w empty (list_of none) at) ∙ in-one (held_tree w empty) x one)
          (nil-part first (held_tree own t) (root-of (HasSymbol first) (held_tree own t) symbols));
    }

-- at the end the term has a copy
module _ {S : Type 0} {own w first : Store} {t : Term} {work : List Term} {copies : IndexMap ℕ ℕ S} {vs : List Visit}
    (c : Copying own w t first work copies vs) where
  pub root-known : IsSound own → IsSome (tree_at own t) → vs ≡ [] → IsSome (get nat_eq copies t.0)
  root-known sound there done = copy-known own copies sound t (held_tree own t) (held-is own t there)
      (nothing-ahead own copies (held_tree own t) (subst (λ us. IsAhead own copies us (held_tree own t)) done c.ahead))

  module _ (i : ℕ) (found : get nat_eq copies t.0 ≡ Some i) where
    pub root-within : i < length work
    root-within = at-within (c.entries t.0 i found).1.0

    pub root-copied : (r : Term) → r ≡ get_or work i r → (tree_at w r ≡ Some (copied (held_tree own t))) × Contains work r
    root-copied r at =
        let entry = c.entries t.0 i found in
        let is : r ≡ entry.0 = at ∙ at-get entry.1.0 r in (
          ap (tree_at w) is ∙ entry.1.1,
          subst (λ (z : Term). Contains work z) (sym is) (at-in entry.1.0),
        )
