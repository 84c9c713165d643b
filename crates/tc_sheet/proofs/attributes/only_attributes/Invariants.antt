use Rattle.std.proofs.Common.{map, drop}
use Rattle.tc_model.specs.Views.{attribute}
use Rattle.tc_model.specs.SheetTextPhrases.{HasOnly}
use Rattle.tc_sheet.proofs.attributes.only_attributes.Given as goal

abbrev pub invariant-loop-attribute : goal.invariant-loop-attribute
invariant-loop-attribute l = HasOnly (map (λ w. w.now) l.locals) (map attribute (drop l.attribute-index l.attribute-items)) → HasOnly (map (λ w. w.now) l.locals) (map attribute l.attribute-items)
