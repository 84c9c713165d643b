use Rattle.std.proofs.Common.{◌∙◌, sym, Bor}
use Rattle.tc_model.specs.SameTests.{same_path}
use Rattle.tc_model.specs.Views as see
use Rattle.tc_model.specs.declared.sheet.Path.{Path}
use Rattle.tc_rules.proofs.Hinted.{hinted}
use Rattle.tc_rules.proofs.Sameness.{path_same, path_self}
use Rattle.tc_rules.proofs.hints.is_look_at.Goals as goal

pub returns-clause-there : goal.returns-clause-there
returns-clause-there c = λ yes.
    hinted same_path path_same path_self (λ (p : Bor Path). see.path p.now) (see.path c.args.path.now) c.args.numbered.now c.args.number _ c.if-number-numbered.false (sym c.same_path.ensures ∙ yes)
