-- What contracts see of lettered trees and of the current node: the same data without addresses.
use Rattle.std.specs.Prelude.{List, [], ◌∷◌}
use Rattle.tc_model.specs.Trees.{Trees}
use Rattle.tc_model.specs.Chains.{an_element, a_text, Node, whole, one}
use Rattle.tc_model.specs.Views.{name}
use Rattle.tc_run.specs.Lettered as l
use Rattle.tc_run.specs.declared.letters.Lettered.{Lettered, Lettered-F}
use Rattle.tc_run.specs.declared.letters.Lettered.TheFolds.{fold-Lettered}
use Rattle.tc_run.specs.declared.letters.Lettered.TheOpen as layers_of
use Rattle.tc_run.specs.declared.bodies.Shape.{Shape}
use Rattle.tc_run.specs.declared.bodies.Shape.TheVariants.{Root, Elem, Text}
use Rattle.tc_run.specs.declared.bodies.Context.{Context}

-- puts trees, one after the other, before none
abbrev pub layers : List (l.Lettered → l.Lettered) → l.Lettered
layers [] = l.none
layers (f ∷ fs) = f (layers fs)

abbrev pub layer : Lettered-F (l.Lettered → l.Lettered) → l.Lettered → l.Lettered
layer (layers_of.Elem n letter kids) rest = l.element (name n.now) letter.sym.0 letter.marks.0 letter.number (layers kids.now) rest
layer (layers_of.Text s marks) rest = l.text s.now marks.0 rest

-- a tree before what stands beside it
abbrev pub before : Lettered → l.Lettered → l.Lettered
before = fold-Lettered (l.Lettered → l.Lettered) layer

abbrev pub trees : List Lettered → l.Lettered
trees [] = l.none
trees (n ∷ ns) = before n (trees ns)

-- the current node
abbrev pub node_of : Shape → Trees → Node
node_of Root kids = whole kids
node_of (Elem n) kids = one (an_element (name n) kids)
node_of (Text s) kids = one (a_text s.now)

abbrev pub node : Context → Node
node h = node_of h.shape (l.bare (trees h.kids.now))
