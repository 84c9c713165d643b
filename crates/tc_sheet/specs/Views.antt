-- What contracts see of a stylesheet as it is written.
use Rattle.std.specs.Prelude.{List, [], ◌∷◌, map, Option, None, Some, option_map}
use Rattle.tc_model.specs.Views.{name, place, path, test, attribute, bound}
use Rattle.tc_model.specs.SheetTextTrees as s
use Rattle.tc_model.specs.SheetTextPhrases.{Tag, Instruction, i_apply, i_call, i_value, i_each, i_if, i_choose, i_text, i_copy, i_element, i_attribute, i_copy_of}
use Rattle.tc_model.specs.declared.tree.RawElem.{RawElem}
use Rattle.tc_path.specs.Views.{alternative}
use Rattle.tc_sheet.specs.declared.written.WrittenBranch.{WrittenBranch, WrittenBranch-F}
use Rattle.tc_sheet.specs.declared.written.Written.{Written, Written-F}
use Rattle.tc_sheet.specs.declared.written.Written.TheFolds.{fold-Written}
use Rattle.tc_sheet.specs.declared.written.Written.TheOpen as w
use Rattle.tc_sheet.specs.declared.written.Template.{Template}
use Rattle.tc_sheet.specs.declared.elements.Instruction.{Instruction as Code}
use Rattle.tc_sheet.specs.declared.elements.Instruction.TheVariants as codes_of

abbrev pub body_layers : List (s.WrittenBody → s.WrittenBody) → s.WrittenBody
body_layers [] = s.w_nothing
body_layers (f ∷ fs) = f (body_layers fs)

abbrev pub branch_layers : List (s.WrittenBranches → s.WrittenBranches) → s.WrittenBranches → s.WrittenBranches
branch_layers [] last = last
branch_layers (f ∷ fs) last = f (branch_layers fs last)

abbrev pub branch_layer : WrittenBranch-F (s.WrittenBody → s.WrittenBody) (s.WrittenBranches → s.WrittenBranches) → s.WrittenBranches → s.WrittenBranches
branch_layer b rest = s.w_branch (test b.test) (body_layers b.body.now) rest

abbrev pub layer : Written-F (s.WrittenBody → s.WrittenBody) (s.WrittenBranches → s.WrittenBranches) → s.WrittenBody → s.WrittenBody
layer (w.Text x) rest = s.w_text x.now rest
layer (w.Elem n b) rest = s.w_element (name n) (body_layers b.now) rest
layer (w.Copy b) rest = s.w_copy (body_layers b.now) rest
layer (w.Apply p mode) rest = s.w_apply (path p) (option_map name mode) rest
layer (w.Call n p) rest = s.w_call (name n) (place p) rest
layer (w.ValueOf p) rest = s.w_value (path p) rest
layer w.ValueOfSelf rest = s.w_self rest
layer (w.Choose bs b) rest = s.w_choose (branch_layers bs.now (s.w_otherwise (body_layers b.now))) rest
layer (w.ForEach p b) rest = s.w_each (path p) (body_layers b.now) rest

-- an instruction before those after it
abbrev pub written : Written → s.WrittenBody → s.WrittenBody
written = fold-Written (s.WrittenBody → s.WrittenBody) (s.WrittenBranches → s.WrittenBranches) layer branch_layer

-- instructions before those after them
abbrev pub written_before : List Written → s.WrittenBody → s.WrittenBody
written_before [] rest = rest
written_before (i ∷ is) rest = written i (written_before is rest)

abbrev pub body : List Written → s.WrittenBody
body is = written_before is s.w_nothing

-- branches before the rest
abbrev pub branches : List WrittenBranch → s.WrittenBranches → s.WrittenBranches
branches [] rest = rest
branches (b ∷ bs) rest = s.w_branch (test b.test) (body b.body.now) (branches bs rest)

-- an instruction, or none, before those after it
abbrev pub put : Option Written → s.WrittenBody → s.WrittenBody
put None rest = rest
put (Some i) rest = written i rest

abbrev pub template : Template → s.Template
template t = record {
  alternatives = map alternative t.alternatives.now;
  name = option_map name t.name;
  mode = option_map name t.mode;
  body = body t.body.now;
  place = place t.place;
}

abbrev pub put_template : Option Template → List s.Template → List s.Template
put_template None rest = rest
put_template (Some t) rest = template t ∷ rest

-- the start tag of an element
abbrev pub tag_of : RawElem → Tag
tag_of e = record { name = name e.name; attributes = map attribute e.attrs.now; scope = map bound e.scope.now; place = place e.place }

abbrev pub instruction : Code → Instruction
instruction codes_of.ApplyTemplates = i_apply
instruction codes_of.CallTemplate = i_call
instruction codes_of.ValueOf = i_value
instruction codes_of.ForEach = i_each
instruction codes_of.If = i_if
instruction codes_of.Choose = i_choose
instruction codes_of.Text = i_text
instruction codes_of.Copy = i_copy
instruction codes_of.Element = i_element
instruction codes_of.Attribute = i_attribute
instruction codes_of.CopyOf = i_copy_of

-- branches with an empty body behind them
abbrev pub branches_of : List WrittenBranch → s.WrittenBranches
branches_of bs = branches bs (s.w_otherwise s.w_nothing)
