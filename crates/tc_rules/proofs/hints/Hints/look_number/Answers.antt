use Rattle.std.proofs.Common.{Bor}
use Rattle.tc_model.specs.SameTests.{same_path}
use Rattle.tc_model.specs.Views as see
use Rattle.tc_model.specs.declared.sheet.Path.{Path}
use Rattle.tc_rules.proofs.Hinted.{numbered}
use Rattle.tc_rules.proofs.Sameness.{path_same, path_self}
use Rattle.tc_rules.proofs.hints.Hints.look_number.Goals as goal

pub returns-clause-number : goal.returns-clause-number
returns-clause-number c = λ there. numbered same_path path_same path_self (λ (p : Bor Path). see.path p.now) (see.path c.args.path.now) c.args.numbered.now c.number_of_path.result c.number_of_path.ensures.number there
