use Rattle.tc_model.specs.Numberings.{same_move}
use Rattle.tc_rules.specs.Views.{move}
use Rattle.tc_rules.proofs.Hinted.{numbered}
use Rattle.tc_rules.proofs.Sameness.{move_same, move_self}
use Rattle.tc_rules.proofs.hints.Hints.move_number.Goals as goal

pub returns : goal.returns
returns c = λ there. numbered same_move move_same move_self (move c.args.modes) (move c.args.modes c.args.sought.now) c.args.numbered.now c.number_of_move.result c.number_of_move.ensures.number there
