-- Words and nodes of a text that was read, as values of the syntax tree.
use Rattle.std.specs.Prelude.{List, map}
use Rattle.rec_syntax.specs.Tokens as syntax
use Rattle.rec_syntax.specs.Nodes as nodes
use Rattle.rec_check.specs.declared.located.Word.{Word}
use Rattle.rec_check.specs.declared.located.Counted.{Counted}

abbrev pub as_word : Word → syntax.Word
as_word w = record { at = w.at; bytes = w.bytes.now }

abbrev pub as_words : List Word → List syntax.Word
as_words ws = map as_word ws

abbrev pub as_node : Counted → nodes.Node
as_node n = record { word = as_word n.word; count = n.count }

abbrev pub as_nodes : List Counted → List nodes.Node
as_nodes ns = map as_node ns

-- node_words ns: the words of nodes
abbrev pub node_words : List nodes.Node → List syntax.Word
node_words ns = map (λ n. n.word) ns
