-- The nodes of Rust, which hold places alone, as the nodes of a text.
use Rattle.std.specs.Prelude.{ℕ, List, map, slice_range}
use Rattle.cil_sexpr.specs.declared.node.Span.{Span}
use Rattle.cil_sexpr.specs.declared.node.Tree.{Tree}
use Rattle.cil_sexpr.specs.declared.node.Node as rust
use Rattle.cil_sexpr.specs.declared.node.Node.TheOpen as opened
use Rattle.cil_sexpr.specs.Tree.{Node, Word, Quoted, Branch, Nodes, none, followed}

-- one layer, with the items seen already
abbrev pub layer_of : List ℕ → opened.Node-F Node → Node
layer_of text (opened.Node-F.Word place) = Word place (slice_range text place.start place.end)
layer_of text (opened.Node-F.Quoted place) = Quoted place (slice_range text place.start place.end)
layer_of text (opened.Node-F.List place items) = Branch place (followed items.items none)

-- a node over the text that its places count in
abbrev pub node_of : List ℕ → rust.Node → Node
node_of text = rust.fold-Node Node (layer_of text)

abbrev pub nodes_of : List ℕ → List rust.Node → Nodes
nodes_of text nodes = followed (map (node_of text) nodes) none

-- the place of a node
abbrev pub place_of_layer : opened.Node-F Span → Span
place_of_layer (opened.Node-F.Word place) = place
place_of_layer (opened.Node-F.Quoted place) = place
place_of_layer (opened.Node-F.List place items) = place

abbrev pub place_of : rust.Node → Span
place_of = rust.fold-Node Span place_of_layer

-- the lists of a whole text
abbrev pub top_of : Tree → List rust.Node
top_of tree = tree.nodes.items
