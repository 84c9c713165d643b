-- What contracts see of the types in an arena: the same data without addresses.
use Rattle.std.specs.Borrow.{Bor}
use Rattle.std.specs.Prelude.{ℕ, List, [], ◌∷◌, map}
use Rattle.tc_base.specs.declared.Place.{Place}
use Rattle.tc_model.specs.Names.{ExpandedName}
use Rattle.tc_model.specs.Trees.{Trees, none, text, element}
use Rattle.tc_model.specs.RawTrees as r
use Rattle.tc_model.specs.Grammars as g
use Rattle.tc_model.specs.Sheets as s
use Rattle.tc_model.specs.declared.tree.Name.{Name}
use Rattle.tc_model.specs.declared.tree.Node.{Node, Node-F}
use Rattle.tc_model.specs.declared.tree.Node.TheFolds.{fold-Node}
use Rattle.tc_model.specs.declared.tree.Node.TheOpen as layers_of
use Rattle.tc_model.specs.declared.tree.Binding.{Binding}
use Rattle.tc_model.specs.declared.tree.RawAttr.{RawAttr}
use Rattle.tc_model.specs.declared.tree.RawElem.{RawElem, RawElem-F}
use Rattle.tc_model.specs.declared.tree.Raw.{Raw, Raw-F}
use Rattle.tc_model.specs.declared.tree.Raw.TheFolds.{fold-Raw}
use Rattle.tc_model.specs.declared.tree.Raw.TheOpen as raws
use Rattle.tc_model.specs.declared.grammar.NameClass.{NameClass, NameClass-F}
use Rattle.tc_model.specs.declared.grammar.NameClass.TheFolds.{fold-NameClass}
use Rattle.tc_model.specs.declared.grammar.NameClass.TheOpen as classes_of
use Rattle.tc_model.specs.declared.grammar.Pat.{Pat, Pat-F}
use Rattle.tc_model.specs.declared.grammar.Pat.TheFolds.{fold-Pat}
use Rattle.tc_model.specs.declared.grammar.Pat.TheOpen as pats
use Rattle.tc_model.specs.declared.grammar.ElemPat.{ElemPat}
use Rattle.tc_model.specs.declared.grammar.Grammar.{Grammar}
use Rattle.tc_model.specs.declared.sheet.NodeTest.{NodeTest}
use Rattle.tc_model.specs.declared.sheet.NodeTest.TheVariants as node_tests
use Rattle.tc_model.specs.declared.sheet.Step.{Step, Step-F}
use Rattle.tc_model.specs.declared.sheet.Path.{Path, Path-F, out-Path}
use Rattle.tc_model.specs.declared.sheet.Test.{Test, Test-F}
use Rattle.tc_model.specs.declared.sheet.Test.TheFolds.{fold-Test}
use Rattle.tc_model.specs.declared.sheet.Test.TheOpen as tests_of
use Rattle.tc_model.specs.declared.sheet.Pattern.{Pattern}
use Rattle.tc_model.specs.declared.sheet.Pattern.TheVariants as match_patterns
use Rattle.tc_model.specs.declared.sheet.Branch.{Branch, Branch-F}
use Rattle.tc_model.specs.declared.sheet.Instr.{Instr, Instr-F}
use Rattle.tc_model.specs.declared.sheet.Instr.TheFolds.{fold-Instr}
use Rattle.tc_model.specs.declared.sheet.Instr.TheOpen as instrs
use Rattle.tc_model.specs.declared.sheet.Rule.{Rule}
use Rattle.tc_model.specs.declared.sheet.Sheet.{Sheet}

abbrev pub name : Name → ExpandedName
name n = record { uri = n.uri.now; local = n.local.now }

-- puts trees, one after the other, before none
abbrev pub layers : List (Trees → Trees) → Trees
layers [] = none
layers (f ∷ fs) = f (layers fs)

abbrev pub layer : Node-F (Trees → Trees) → Trees → Trees
layer (layers_of.Elem n kids) rest = element (name n) (layers kids.now) rest
layer (layers_of.Text s) rest = text s.now rest

-- a tree before what stands beside it
abbrev pub before : Node → Trees → Trees
before = fold-Node (Trees → Trees) layer

abbrev pub trees : List Node → Trees
trees [] = none
trees (n ∷ ns) = before n (trees ns)

-- the number of bytes before it
abbrev pub place : Place → ℕ
place p = p.0

abbrev pub attribute : RawAttr → r.Attribute
attribute a = record { name = name a.name; value = a.value.now; place = place a.place }

abbrev pub bound : Binding → r.Bound
bound b = record { prefix = b.prefix.now; uri = b.uri.now }

abbrev pub raw_layers : List (r.RawTrees → r.RawTrees) → r.RawTrees
raw_layers [] = r.none
raw_layers (f ∷ fs) = f (raw_layers fs)

abbrev pub raw_element_layer : RawElem-F (r.RawTrees → r.RawTrees) (r.RawTrees → r.RawTrees) → r.RawTrees → r.RawTrees
raw_element_layer e rest = r.element (name e.name) (map attribute e.attrs.now) (map bound e.scope.now) (place e.place) (raw_layers e.kids.now) rest

abbrev pub raw_layer : Raw-F (r.RawTrees → r.RawTrees) (r.RawTrees → r.RawTrees) → r.RawTrees → r.RawTrees
raw_layer (raws.Elem e) rest = e rest
raw_layer (raws.Text s p) rest = r.text s.now (place p) rest

-- a tree before what stands beside it
abbrev pub raw_before : Raw → r.RawTrees → r.RawTrees
raw_before = fold-Raw (r.RawTrees → r.RawTrees) (r.RawTrees → r.RawTrees) raw_layer raw_element_layer

abbrev pub raw_trees : List Raw → r.RawTrees
raw_trees [] = r.none
raw_trees (t ∷ ts) = raw_before t (raw_trees ts)

-- one tree alone
abbrev pub raw_tree : Raw → r.RawTrees
raw_tree t = raw_before t r.none

-- an element before what stands beside it
abbrev pub raw_element : RawElem → r.RawTrees → r.RawTrees
raw_element e rest = r.element (name e.name) (map attribute e.attrs.now) (map bound e.scope.now) (place e.place) (raw_trees e.kids.now) rest

abbrev pub class_list : List g.NameClass → g.NameClasses
class_list [] = g.no_class
class_list (c ∷ cs) = g.class c (class_list cs)

abbrev pub class_layer : NameClass-F g.NameClass → g.NameClass
class_layer (classes_of.Name n) = g.of_name (name n)
class_layer (classes_of.Ns uri except) = g.of_namespace uri.now (class_list except.now)
class_layer (classes_of.Any except) = g.any_name (class_list except.now)
class_layer (classes_of.Choice cs) = g.one_of (class_list cs.now)

abbrev pub class : NameClass → g.NameClass
class = fold-NameClass g.NameClass class_layer

abbrev pub classes : List NameClass → g.NameClasses
classes [] = g.no_class
classes (c ∷ cs) = g.class (class c) (classes cs)

abbrev pub pattern_list : List g.Pattern → g.Patterns
pattern_list [] = g.no_more
pattern_list (p ∷ ps) = g.more p (pattern_list ps)

abbrev pub pattern_layer : Pat-F g.Pattern → g.Pattern
pattern_layer pats.Empty = g.empty
pattern_layer pats.NotAllowed = g.not_allowed
pattern_layer pats.Text = g.text
pattern_layer (pats.Ref k) = g.ref k
pattern_layer (pats.Group ps) = g.group (pattern_list ps.now)
pattern_layer (pats.Choice ps) = g.choice (pattern_list ps.now)
pattern_layer (pats.Interleave ps) = g.interleave (pattern_list ps.now)
pattern_layer (pats.OneOrMore p) = g.one_or_more p.now

abbrev pub pattern : Pat → g.Pattern
pattern = fold-Pat g.Pattern pattern_layer

abbrev pub patterns : List Pat → g.Patterns
patterns [] = g.no_more
patterns (p ∷ ps) = g.more (pattern p) (patterns ps)

abbrev pub element_pattern : ElemPat → g.ElementPattern
element_pattern e = record { names = class e.names; content = pattern e.content }

abbrev pub grammar : Grammar → g.Grammar
grammar x = record { start = pattern x.start; elements = map element_pattern x.elements.now }

abbrev pub node_test : NodeTest → s.NodeTest
node_test (node_tests.Name n) = s.of_name (name n)
node_test (node_tests.Ns uri) = s.of_namespace uri.now
node_test node_tests.Any = s.any_element
node_test node_tests.Text = s.any_text
node_test node_tests.Node = s.any_node

abbrev pub step_layers : List (s.Steps → s.Steps) → s.Steps
step_layers [] = s.no_step
step_layers (f ∷ fs) = f (step_layers fs)

abbrev pub alternative_list : List (Bor (List (s.Steps → s.Steps))) → s.Path
alternative_list [] = s.no_alternative
alternative_list (w ∷ ws) = s.alternative (step_layers w.now) (alternative_list ws)

abbrev pub test_list : List s.Test → s.Tests
test_list [] = s.no_test
test_list (t ∷ ts) = s.test t (test_list ts)

abbrev pub step_layer : Step-F s.Test s.Path (s.Steps → s.Steps) → s.Steps → s.Steps
step_layer x rest = s.step x.deep (node_test x.test) x.when rest

abbrev pub path_layer : Path-F s.Test s.Path (s.Steps → s.Steps) → s.Path
path_layer x = alternative_list x.alts.now

abbrev pub test_layer : Test-F s.Test s.Path (s.Steps → s.Steps) → s.Test
test_layer tests_of.True = s.always
test_layer tests_of.False = s.never
test_layer (tests_of.Has p) = s.has p
test_layer (tests_of.Not t) = s.negated t.now
test_layer (tests_of.And ts) = s.all_of (test_list ts.now)
test_layer (tests_of.Or ts) = s.any_of (test_list ts.now)

abbrev pub test : Test → s.Test
test = fold-Test s.Test s.Path (s.Steps → s.Steps) test_layer path_layer step_layer

abbrev pub tests : List Test → s.Tests
tests [] = s.no_test
tests (t ∷ ts) = s.test (test t) (tests ts)

abbrev pub steps : List Step → s.Steps
steps [] = s.no_step
steps (x ∷ xs) = s.step x.deep (node_test x.test) (test x.when) (steps xs)

-- alternatives
abbrev pub alternatives : List (Bor (List Step)) → s.Path
alternatives [] = s.no_alternative
alternatives (w ∷ ws) = s.alternative (steps w.now) (alternatives ws)

abbrev pub path : Path → s.Path
path p = alternatives (out-Path p).alts.now

abbrev pub match_pattern : Pattern → s.MatchPattern
match_pattern match_patterns.Root = s.root_pattern
match_pattern (match_patterns.Steps xs) = s.steps_pattern (steps xs.now)

abbrev pub body_layers : List (s.Body → s.Body) → s.Body
body_layers [] = s.no_instruction
body_layers (f ∷ fs) = f (body_layers fs)

abbrev pub branch_layers : List (s.Branches → s.Branches) → s.Branches → s.Branches
branch_layers [] last = last
branch_layers (f ∷ fs) last = f (branch_layers fs last)

abbrev pub branch_layer : Branch-F (s.Body → s.Body) (s.Branches → s.Branches) → s.Branches → s.Branches
branch_layer b rest = s.branch (test b.test) (body_layers b.body.now) rest

abbrev pub instruction_layer : Instr-F (s.Body → s.Body) (s.Branches → s.Branches) → s.Body → s.Body
instruction_layer (instrs.Text x) rest = s.put_text x.now rest
instruction_layer (instrs.Elem n b) rest = s.put_element (name n) (body_layers b.now) rest
instruction_layer (instrs.Copy b) rest = s.copy (body_layers b.now) rest
instruction_layer (instrs.Apply p mode) rest = s.apply (path p) mode rest
instruction_layer (instrs.Call number) rest = s.call number rest
instruction_layer (instrs.ValueOf p) rest = s.value (path p) rest
instruction_layer instrs.ValueOfSelf rest = s.value_of_self rest
instruction_layer (instrs.Choose bs b) rest = s.choose (branch_layers bs.now (s.otherwise (body_layers b.now))) rest
instruction_layer (instrs.ForEach number p b) rest = s.for_each number (path p) (body_layers b.now) rest

-- an instruction before those after it
abbrev pub instruction : Instr → s.Body → s.Body
instruction = fold-Instr (s.Body → s.Body) (s.Branches → s.Branches) instruction_layer branch_layer

abbrev pub body : List Instr → s.Body
body [] = s.no_instruction
body (i ∷ is) = instruction i (body is)

-- branches before the rest
abbrev pub branches : List Branch → s.Branches → s.Branches
branches [] rest = rest
branches (b ∷ bs) rest = s.branch (test b.test) (body b.body.now) (branches bs rest)

abbrev pub rule : Rule → s.Rule
rule x = record { mode = x.mode; pattern = match_pattern x.pattern; priority = x.priority; body = body x.body.now }

abbrev pub sheet : Sheet → s.Sheet
sheet x = record { modes = x.modes; eaches = x.eaches; rules = map rule x.rules.now; named = map (λ b. body b.now) x.named.now }
