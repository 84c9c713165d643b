use Rattle.std.proofs.Common.{◌∙◌, sym}
use Rattle.tc_model.specs.Numberings.{same_move}
use Rattle.tc_rules.specs.Views.{move}
use Rattle.tc_rules.proofs.Hinted.{hinted}
use Rattle.tc_rules.proofs.Sameness.{move_same, move_self}
use Rattle.tc_rules.proofs.hints.is_move_at.Goals as goal

pub returns : goal.returns
returns c = λ yes.
    hinted same_move move_same move_self (move c.args.modes) (move c.args.modes c.args.sought.now) c.args.numbered.now c.args.number _ c.if-number-numbered.false (sym c.same_job.ensures ∙ yes)
