use Rattle.std.proofs.Common.{◌≡◌, ◌+◌, ◌++◌, drop, map, flat_map}
use Rattle.tc_model.specs.Views as see
use Rattle.tc_model.specs.SheetText as model
use Rattle.tc_sheet.specs.Numbers.{bodies}
use Rattle.tc_sheet.specs.Views.{template}
use Rattle.tc_sheet.proofs.NumberLaws.{others_of}
use Rattle.tc_sheet.proofs.numbering.sheet_of.Given as goal

abbrev pub invariant-loop-template : goal.invariant-loop-template
invariant-loop-template l = record {
  rules : map see.rule l.parts.rules.items ++ flat_map (model.rules_of (map template l.templates)) (model.first_eaches l.parts.in_rules l.parts.others (map template (drop l.template-index l.templates)))
      ≡ flat_map (model.rules_of (map template l.templates)) (model.numbered_templates (map template l.templates));
  named : bodies l.parts.named.items ++ flat_map (model.named_of (map template l.templates)) (model.first_eaches l.parts.in_rules l.parts.others (map template (drop l.template-index l.templates)))
      ≡ flat_map (model.named_of (map template l.templates)) (model.numbered_templates (map template l.templates));
  others : l.parts.others + others_of (map template (drop l.template-index l.templates)) ≡ model.eaches_of (map template l.templates);
}
