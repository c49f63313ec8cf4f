-- The syntax tree that the parts of a specification represent.
use Rattle.std.specs.Prelude.{ℕ, ◌≡◌, List, map, All}
use Rattle.rec_syntax.specs.Tokens.{Word}
use Rattle.rec_syntax.specs.Syntax as syntax
use Rattle.rec_syntax.specs.Nodes as nodes
use Rattle.rec_syntax.specs.Nodes.{flat, spelled_by}
pub use Rattle.rec_syntax.specs.Lexemes.{Within}
use Rattle.rec_syntax.specs.Lexemes.{word_of}
use Rattle.rec_syntax.specs.declared.lexer.Span.{Span}
use Rattle.rec_syntax.specs.declared.parts.Node.{Node}
use Rattle.rec_syntax.specs.declared.parts.Term.{Term}
use Rattle.rec_syntax.specs.declared.parts.Condition.{Condition}
use Rattle.rec_syntax.specs.declared.parts.Rule.{Rule}
use Rattle.rec_syntax.specs.declared.parts.Declaration.{Declaration}
use Rattle.rec_syntax.specs.declared.parts.Group.{Group}
use Rattle.rec_syntax.specs.declared.parts.Sections.{Sections}

-- words_of source spans: the names that these spans spell
abbrev pub words_of : List ℕ → List Span → List Word
words_of source spans = map (word_of source) spans

-- node_of source n: the node with its name
abbrev pub node_of : List ℕ → Node → nodes.Node
node_of source n = record { word = word_of source n.word; count = n.count }

-- term_of source t: the term that the nodes spell
abbrev pub term_of : List ℕ → Term → syntax.Term
term_of source t = spelled_by (map (node_of source) t.nodes.items)

-- condition_of source c: the condition with its two terms
abbrev pub condition_of : List ℕ → Condition → syntax.Condition
condition_of source c =
    record { left = term_of source c.left; right = term_of source c.right; equal = c.equal }

-- rule_of source r: the rule with its terms
abbrev pub rule_of : List ℕ → Rule → syntax.Rule
rule_of source r = record {
  left = term_of source r.left;
  right = term_of source r.right;
  conditions = map (condition_of source) r.conditions.items;
}

-- declaration_of source d: the declaration with its names
abbrev pub declaration_of : List ℕ → Declaration → syntax.Declaration
declaration_of source d = record {
  name = word_of source d.name;
  arguments = words_of source d.arguments.items;
  sort = word_of source d.sort;
}

-- group_of source g: the group of variables with its names
abbrev pub group_of : List ℕ → Group → syntax.Variables
group_of source g = record {
  first = word_of source g.first;
  others = words_of source g.others.items;
  sort = word_of source g.sort;
}

-- spec_of source s: the specification with its names and terms
abbrev pub spec_of : List ℕ → Sections → syntax.Spec
spec_of source s = record {
  name = word_of source s.name;
  sorts = words_of source s.sorts.items;
  constructors = map (declaration_of source) s.constructors.items;
  operators = map (declaration_of source) s.operators.items;
  variables = map (group_of source) s.groups.items;
  rules = map (rule_of source) s.rules.items;
  terms = map (term_of source) s.terms.items;
}

-- IsTerm: the nodes are those of one term, and its names lie within the source
pub record IsTerm (source : List ℕ) (t : Term) : Type 0 where
  pub flat : map (node_of source) t.nodes.items ≡ flat (term_of source t)
  pub within : All (λ n. Within source n.word) t.nodes.items

-- IsCondition: both terms are well formed
pub record IsCondition (source : List ℕ) (c : Condition) : Type 0 where
  pub left : IsTerm source c.left
  pub right : IsTerm source c.right

-- IsRule: both sides and all conditions are well formed
pub record IsRule (source : List ℕ) (r : Rule) : Type 0 where
  pub left : IsTerm source r.left
  pub right : IsTerm source r.right
  pub conditions : All (IsCondition source) r.conditions.items

-- IsDeclaration: all names of the declaration lie within the source
pub record IsDeclaration (source : List ℕ) (d : Declaration) : Type 0 where
  pub name : Within source d.name
  pub arguments : All (Within source) d.arguments.items
  pub sort : Within source d.sort

-- IsGroup: all names of the group lie within the source
pub record IsGroup (source : List ℕ) (g : Group) : Type 0 where
  pub first : Within source g.first
  pub others : All (Within source) g.others.items
  pub sort : Within source g.sort

-- AreSections: all names lie within the source, and the nodes of each term are those of one term
pub record AreSections (source : List ℕ) (s : Sections) : Type 0 where
  pub name : Within source s.name
  pub sorts : All (Within source) s.sorts.items
  pub constructors : All (IsDeclaration source) s.constructors.items
  pub operators : All (IsDeclaration source) s.operators.items
  pub groups : All (IsGroup source) s.groups.items
  pub rules : All (IsRule source) s.rules.items
  pub terms : All (IsTerm source) s.terms.items
