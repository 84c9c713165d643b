use Rattle.std.proofs.Common.{map, drop}
use Rattle.tc_model.specs.Views.{attribute}
use Rattle.tc_model.specs.SheetTextPhrases.{AreLiteral}
use Rattle.tc_sheet.proofs.attributes.check_literal_attributes.Given as goal

abbrev pub invariant-loop-attribute : goal.invariant-loop-attribute
invariant-loop-attribute l = AreLiteral (map attribute (drop l.attribute-index l.attribute-items)) → AreLiteral (map attribute l.attribute-items)
