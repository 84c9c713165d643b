use Rattle.std.proofs.Common.{◌≡◌, ◌++◌, take, map}
use Rattle.tc_model.specs.Views as see
use Rattle.tc_path.specs.Views.{alternative}
use Rattle.tc_sheet.specs.Numbers.{rule_from}
use Rattle.tc_sheet.proofs.numbering.put_rules.Given as goal

abbrev pub invariant-loop-alternative : goal.invariant-loop-alternative
invariant-loop-alternative l = map see.rule l.rules.items ≡ map see.rule l.fn.rules.items ++ map (rule_from l.mode (see.body l.body)) (map alternative (take l.alternative-index l.alternative-items))
