-- What is known of templates before their calls are looked at, and of the parts of an `xsl:choose`.
use Rattle.std.specs.Prelude.{◌≡◌, List, [], Some}
use Rattle.std.specs.List.{IsDistinct}
use Rattle.tc_model.specs.Names.{ExpandedName, same_name}
use Rattle.tc_model.specs.SheetText.{names_of}
use Rattle.tc_model.specs.SheetTextPhrases.{AreBranches, HasOnly, i_choose, instruction_of}
use Rattle.tc_model.specs.SheetTextTrees.{Template, WrittenBranches}
use Rattle.tc_model.specs.Views.{name, raw_trees}
use Rattle.tc_model.specs.declared.tree.RawElem.{RawElem}
use Rattle.tc_sheet.specs.Readings.{attributes_of}

-- these are the names of templates, each once
pub record AreNamesOf (ts : List Template) (ns : List ExpandedName) : Type 0 where
  pub names : ns ≡ names_of ts
  pub once : IsDistinct same_name ns

-- an `xsl:choose` without attributes, which holds these branches
pub record IsChoose (e : RawElem) (held_in : WrittenBranches) : Type 0 where
  pub choose : instruction_of (name e.name) ≡ Some i_choose
  pub only : HasOnly [] (attributes_of e)
  pub held : AreBranches (raw_trees e.kids.now) held_in
