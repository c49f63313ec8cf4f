-- Constructor terms with their postfix items and their texts.
--     IsGroundOf y g         `g` holds the items and the text of a ground term
--     AreJoined y ss ls o n  the concatenated items and texts of ground terms of these sorts
--     IsCallOf y d g         `g` holds those of a call of a symbol with ground arguments
--     IsAsker a              the left-hand sides of a specification, for comparison with calls
--     IsExampleOf y k e      the text of a call of a symbol that no left-hand side matches
use Rattle.std.specs.Prelude.{ℕ, ◌≡◌, ◌+◌, All, List, [], ◌∷◌, ◌++◌, Some, length, map, slice_get}
use Rattle.rx_term.specs.Tree as tree
use Rattle.rx_text.specs.Canon.{canon, canon_all}
use Rattle.rec_syntax.specs.Syntax.{Term, Terms, Declaration, Spec, arguments, head}
use Rattle.rec_sorts.specs.Binding.{instances, tree_of}
use Rattle.rec_sorts.specs.Lookup.{names, symbols}
use Rattle.rec_sorts.specs.Numbering.{AreLetters, IsMeaning, named_all, named_by}
use Rattle.rec_sorts.specs.SpecRules.{all_terms, heads}
use Rattle.rec_sorts.specs.declared.letters.Letter.{Letter}
use Rattle.rec_check.specs.Findings.{ShowsCall, as_diagnostic}
use Rattle.rec_check.specs.Inner.Rewriters.{IsRewriter}
use Rattle.rec_check.specs.Lookups.{Knows}
use Rattle.rec_check.specs.Uncovered.{AreGround, IsGround, sorts_due}
use Rattle.rec_check.specs.declared.finding.Diagnostic.{Diagnostic}
use Rattle.rec_check.specs.declared.uncovered.Asker.{Asker}
use Rattle.rec_check.specs.declared.uncovered.Ground.{Ground}

-- IsShown y t letters text: the postfix items and the text of a term
pub record IsShown (y : Spec) (t : Term) (letters : List Letter) (text : List ℕ) : Type 0 where
  pub spelled : AreLetters y letters t
  pub shown : text ≡ canon (tree_of t)

-- IsGroundOf y g: the items and the text of a ground term of its sort
abbrev pub IsGroundOf : Spec → Ground → Type 0
IsGroundOf y g = (t : Term) × IsGround y g.sort.now t × IsShown y t g.letters.items g.text.items

-- sorts_had gs: the sorts of ground terms
abbrev pub sorts_had : List Ground → List (List ℕ)
sorts_had gs = map (λ g. g.sort.now) gs

-- opened_text us: the texts of arguments, a parenthesis before the first and a comma before each
-- other
abbrev pub opened_text : tree.Trees → List ℕ
opened_text tree.none = []
opened_text (tree.more u us) = 40 ∷ canon_all (tree.more u us)

-- AreJoined y sorts letters old new: the items of ground terms of these sorts; their text follows
-- the old one
pub record AreJoined (y : Spec) (sorts : List (List ℕ)) (letters : List Letter)
    (old new : List ℕ) : Type 0 where
  pub terms : Terms
  pub ground : AreGround y sorts terms
  pub meant : All (λ l. IsMeaning y l.meaning) letters
  pub spelled : map (named_by y) letters ≡ named_all terms
  pub shown : new ≡ old ++ opened_text (instances [] terms)

-- IsCallOf y d g: a call of a symbol with ground arguments of its declared sorts
pub record IsCallOf (y : Spec) (d : Declaration) (g : Ground) : Type 0 where
  pub term : Term
  pub called : (head term).bytes ≡ d.name.bytes
  pub filled : AreGround y (sorts_due d) (arguments term)
  pub shown : IsShown y term g.letters.items g.text.items
  pub sorted : g.sort.now ≡ d.sort.bytes
  pub placed : g.at ≡ d.name.at
  pub ended : g.end ≡ d.name.at + length d.name.bytes

-- IsCallAt y k g: a call of the symbol with number `k`
pub record IsCallAt (y : Spec) (k : ℕ) (g : Ground) : Type 0 where
  pub declaration : Declaration
  pub at : slice_get (symbols y) k ≡ Some declaration
  pub is_call : IsCallOf y declaration g

-- IsAsker a: the left-hand sides of a specification, and the names of their symbols, of the
-- constructors and of all used symbols
pub record IsAsker (a : Asker) : Type 0 where
  pub rewriter : IsRewriter a.rewriter
  pub same : a.rewriter.checked.now ≡ a.checked.now
  pub begun : Knows a.begun (map (λ r. head r.left) a.checked.now.spec.rules)
  pub made : Knows a.made (names a.checked.now.spec.constructors)
  pub used : Knows a.used (heads (all_terms a.checked.now.spec))

-- IsExampleOf y k e: a call of the symbol with number `k` that no left-hand side matches
pub record IsExampleOf (y : Spec) (k : ℕ) (e : Diagnostic) : Type 0 where
  pub declaration : Declaration
  pub at : slice_get (symbols y) k ≡ Some declaration
  pub shows : ShowsCall y declaration (as_diagnostic e)
