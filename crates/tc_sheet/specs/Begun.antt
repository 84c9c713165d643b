-- What is known of an element of a body before what it holds is read.
use Rattle.std.specs.Prelude.{◌≡◌, [], Some}
use Rattle.tc_model.specs.RawTrees.{RawTrees}
use Rattle.tc_model.specs.Views.{name, path, test, raw_trees, raw_element}
use Rattle.tc_model.specs.SheetTextTrees.{WrittenBody, w_nothing, w_element, w_copy, w_each, w_choose, w_otherwise, w_branch}
use Rattle.tc_model.specs.SheetTextPhrases.{Tag, Instruction, i_choose, instruction_of, HasOnly, IsInstruction, IsBody}
use Rattle.tc_model.specs.declared.tree.RawElem.{RawElem}
use Rattle.tc_sheet.specs.Changes.{Change}
use Rattle.tc_sheet.specs.LookedAt.{held, in_body, IsOpened}
use Rattle.tc_sheet.specs.Readings.{attributes_of, IsRead, HasNoBody, IsElementItem, HasNoElementItem}
use Rattle.tc_sheet.specs.Views.{tag_of, put}
use Rattle.tc_sheet.specs.declared.bodies.Head.{Head}
use Rattle.tc_sheet.specs.declared.bodies.Head.TheVariants as heads
use Rattle.tc_sheet.specs.declared.bodies.Begun.{Begun}
use Rattle.tc_sheet.specs.declared.bodies.Begun.TheVariants as begun

-- what an element makes of the body that it holds, before the rest
abbrev pub around : Head → WrittenBody → WrittenBody → WrittenBody
around (heads.Element n) inner rest = w_element (name n) inner rest
around heads.Copy inner rest = w_copy inner rest
around (heads.ForEach p) inner rest = w_each (path p) inner rest
around (heads.If t) inner rest = w_choose (w_branch (test t) inner (w_otherwise w_nothing)) rest

-- an instruction that makes this of the body that it holds
pub record IsHead (i : Instruction) (e : RawElem) (h : Head) : Type 0 where
  pub holds : held i ≡ Some in_body
  pub makes : (inner b : WrittenBody) → IsBody (raw_trees e.kids.now) inner → IsInstruction i (tag_of e) (raw_trees e.kids.now) b (around h inner b)
  pub needs : (t : Tag) (kids : RawTrees) (b d : WrittenBody) → IsInstruction i t kids b d → (inner : WrittenBody) × IsBody kids inner

-- an instruction that makes this, or makes it of its body; or is an `xsl:choose`
abbrev pub IsBegunBy : Instruction → RawElem → Begun → Type 0
IsBegunBy i e (begun.Whole w) = IsRead i e (put w)
IsBegunBy i e (begun.Around h) = IsHead i e h
IsBegunBy i e begun.Choose = (i ≡ i_choose) × HasOnly [] (attributes_of e)

-- an element of a body that makes this of the body that it holds, which it must hold
pub record IsAround (e : RawElem) (h : Head) : Type 0 where
  pub opened : IsOpened in_body (name e.name) in_body
  pub makes : (rest : RawTrees) (inner b : WrittenBody) → IsBody (raw_trees e.kids.now) inner → IsBody rest b → IsBody (raw_element e rest) (around h inner b)
  pub needs : (c : Change) → HasNoBody (raw_trees e.kids.now) c → HasNoElementItem e c

abbrev pub IsBegun : RawElem → Begun → Type 0
IsBegun e (begun.Whole w) = IsElementItem e (put w)
IsBegun e (begun.Around h) = IsAround e h
IsBegun e begun.Choose = (instruction_of (name e.name) ≡ Some i_choose) × HasOnly [] (attributes_of e)
