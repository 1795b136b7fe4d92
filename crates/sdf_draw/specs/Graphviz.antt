-- The text of a graph for Graphviz.
use Rattle.std.specs.Prelude.{ℕ, ◌==◌, List, [], ◌++◌, if◌then◌else◌, codes, length, slice_index_or}
use Rattle.sdf_graph.specs.Rates.{ChannelValue}
use Rattle.sdf_actor.specs.Nets.{node}
use Rattle.sdf_file.specs.Designs.{DesignValue}
use Rattle.sdf_analyze.specs.Texts.{lines_to}
use Rattle.sdf_draw.specs.declared.ports.Shape.{Shape}
use Rattle.sdf_draw.specs.declared.ports.Shape.TheVariants.{Source, Sink, Filter, Plain}
use Rattle.sdf_draw.specs.Shapes.{shape_of}
use Rattle.sdf_draw.specs.Edges.{edge}
use Rattle.sdf_draw.specs.declared.texts.Within.TheVariants.{Quotes}
use Rattle.sdf_draw.specs.Texts.{number_text, escaped, rate_text}

abbrev pub quoted : List ℕ → List ℕ
quoted text = codes "\"" ++ escaped Quotes text ++ codes "\""

abbrev pub shape_word : Shape → List ℕ
shape_word Source = codes "rarrow"
shape_word Sink = codes "larrow"
shape_word Filter = codes "octagon"
shape_word Plain = codes "box"

-- the name of actor a
abbrev pub quoted_name : DesignValue → ℕ → List ℕ
quoted_name d a = quoted (slice_index_or d.names a [])

unfoldable pub node_line : DesignValue → ℕ → List ℕ
node_line d a =
    codes "  " ++ quoted_name d a ++ codes " [shape=" ++ shape_word (shape_of (node d.net a)) ++ codes "];\n"

-- the samples that a link begins with, if there are any
abbrev pub initial_label : ℕ → List ℕ
initial_label initial = if initial == 0 then [] else number_text (codes "\" label=\"") initial

-- a word, and what firings move
unfoldable pub label_text : List ℕ → List ℕ → List ℕ
label_text word rates = word ++ rate_text rates

-- what firings put on a link and take from it, and the samples that it begins with
unfoldable pub labels_text : ChannelValue → List ℕ
labels_text e =
    label_text (codes " [taillabel=\"") e.put ++ label_text (codes "\" headlabel=\"") e.take
    ++ initial_label e.initial ++ codes "\"];\n"

unfoldable pub edge_line : DesignValue → ℕ → List ℕ
edge_line d c =
    codes "  " ++ quoted_name d (edge d c).from ++ codes " -> " ++ quoted_name d (edge d c).to ++ labels_text (edge d c)

abbrev pub nodes_text : DesignValue → List ℕ
nodes_text d = lines_to (node_line d) (length d.net.nodes)

abbrev pub edges_text : DesignValue → List ℕ
edges_text d = lines_to (edge_line d) (length d.net.wires)

-- a line for each actor in file order, then one for each link
abbrev pub dot_text : DesignValue → List ℕ
dot_text d = codes "digraph {\n  rankdir=LR;\n" ++ nodes_text d ++ edges_text d ++ codes "}\n"
