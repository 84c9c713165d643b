use Rattle.std.proofs.Common.{ap, ◌∙◌, subst}
use Rattle.tc_model.specs.Views as see
use Rattle.tc_model.proofs.ViewsPath.{see_has}
use Rattle.tc_rules.specs.Parts.{IsPartTest}
use Rattle.tc_run.specs.Running.{sheet_by, symbols_by}
use Rattle.tc_run.proofs.predicates.asked_by.Goals as goal

pub look_first-requires : goal.look_first-requires
look_first-requires c = subst (IsPartTest (sheet_by c.args.runner.now)) (ap see.test c.in-Has.is ∙ see_has c.in-Has.path) c.requires.predicate

pub returns-in-Some : goal.returns-in-Some
returns-in-Some c = (see.path c.in-Has.path, ap see.test c.in-Has.is ∙ see_has c.in-Has.path, c.in-Some.ensures (symbols_by c.args.runner.now) c.requires.runner)
