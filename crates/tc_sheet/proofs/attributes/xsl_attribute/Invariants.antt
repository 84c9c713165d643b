use Rattle.std.proofs.Common.{All, map, drop}
use Rattle.tc_model.specs.Views.{attribute}
use Rattle.tc_model.specs.SheetTextPhrases.{IsXsl}
use Rattle.tc_sheet.proofs.attributes.xsl_attribute.Given as goal

abbrev pub invariant-loop-attribute : goal.invariant-loop-attribute
invariant-loop-attribute l = All (λ a. IsXsl l.local a.name → ⊥) (map attribute (drop l.attribute-index l.attribute-items)) → All (λ a. IsXsl l.local a.name → ⊥) (map attribute l.attribute-items)
