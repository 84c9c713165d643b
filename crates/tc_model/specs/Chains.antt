-- Nodes of a document, as chains of whole trees, and what stands in and below them (XPath 1.0, 5).
-- A chain may have any trees one under the other, also where none is a child of the one before. The
-- definitions walk only those in which each is, and the laws hold of all.
use Rattle.std.specs.Prelude.{ℕ, List, [], ◌∷◌, ◌++◌, Bool, map, filter, Option, Some, None}
use Rattle.tc_model.specs.Names.{ExpandedName}
use Rattle.tc_model.specs.Trees.{Trees, none, text, element}

-- a tree: an element with its children, or a text
pub data Tree : Type 0 where
  an_element : ExpandedName → Trees → Tree
  a_text : List ℕ → Tree

-- the root of a document, or a tree under a node, of which it is meant to be a child
pub data Chain : Type 0 where
  top : Trees → Chain
  under : Chain → Tree → Chain

abbrev pub children_of : Tree → Trees
children_of (an_element n kids) = kids
children_of (a_text s) = none

-- the root above a node
abbrev pub root_of : Chain → Chain
root_of (top doc) = top doc
root_of (under c t) = root_of c

-- the trees from the root down
abbrev pub down : Chain → List Tree
down (top doc) = []
down (under c t) = down c ++ (t ∷ [])

-- the node to which trees lead down from a node
abbrev pub onto : Chain → List Tree → Chain
onto c [] = c
onto c (t ∷ ts) = onto (under c t) ts

-- in document order, the trees that lead to each node below
abbrev pub below : Trees → List (List Tree)
below none = []
below (text s rest) = (a_text s ∷ []) ∷ below rest
below (element n kids rest) = (an_element n kids ∷ []) ∷ (map (λ d. an_element n kids ∷ d) (below kids) ++ below rest)

-- the texts in trees, joined
abbrev pub joined_texts : Trees → List ℕ
joined_texts none = []
joined_texts (text s rest) = s ++ joined_texts rest
joined_texts (element n kids rest) = joined_texts kids ++ joined_texts rest

-- the node itself: a whole document, or a tree
pub data Node : Type 0 where
  whole : Trees → Node
  one : Tree → Node

abbrev pub node_of : Chain → Node
node_of (top doc) = whole doc
node_of (under c t) = one t

abbrev pub children : Node → Trees
children (whole doc) = doc
children (one t) = children_of t

-- the string-value of a node (XPath, 5.1, 5.2, 5.7)
abbrev pub string_value : Node → List ℕ
string_value (whole doc) = joined_texts doc
string_value (one (an_element n kids)) = joined_texts kids
string_value (one (a_text s)) = s

-- the nodes to which those of the given lists of trees lead that pass a test
abbrev pub found : (List Tree → Bool) → Chain → List (List Tree) → List Chain
found p c ds = map (λ d. onto c d) (filter p ds)

-- in document order, the nodes below a node of which the trees that lead there pass a test
abbrev pub nodes_where : (List Tree → Bool) → Chain → List Chain
nodes_where p c = found p c (below (children (node_of c)))

abbrev pub first_node : List Chain → Option Node
first_node [] = None
first_node (c ∷ cs) = Some (node_of c)
