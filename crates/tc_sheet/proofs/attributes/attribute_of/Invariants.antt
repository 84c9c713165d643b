use Rattle.std.proofs.Common.{◌≡◌, map, drop}
use Rattle.tc_model.specs.Views.{attribute}
use Rattle.tc_model.specs.SheetTextPhrases.{value_of}
use Rattle.tc_sheet.proofs.attributes.attribute_of.Given as goal

abbrev pub invariant-loop-attribute : goal.invariant-loop-attribute
invariant-loop-attribute l = value_of l.local (map attribute (drop l.attribute-index l.attribute-items)) ≡ value_of l.local (map attribute l.attribute-items)
