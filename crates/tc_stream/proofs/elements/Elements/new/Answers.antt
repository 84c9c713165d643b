use Rattle.tc_stream.proofs.KeepsLaws.{none_yet}
use Rattle.tc_tags.proofs.FailedLaws.{no_value}
use Rattle.tc_stream.proofs.elements.Elements.new.Goals as goal

pub returns-clause-keeps : goal.returns-clause-keeps
returns-clause-keeps c = none_yet c.in_ok-rooms.ensures.names c.in_ok-rooms.ensures.declared c.in_ok-rooms.ensures.chains c.in_ok-levels.ensures.items

pub returns-clause-steps : goal.returns-clause-steps
returns-clause-steps c = λ x other sheet st e. c.in_ok-validity.ensures.within x other sheet st e

pub returns-in_err-levels-clause-keeps : goal.returns-in_err-levels-clause-keeps
returns-in_err-levels-clause-keeps c = no_value c.from_residual.result _ _ c.from_residual.ensures.1

pub returns-in_err-levels-clause-steps : goal.returns-in_err-levels-clause-steps
returns-in_err-levels-clause-steps c = no_value c.from_residual.result _ _ c.from_residual.ensures.1

pub returns-in_err-rooms-clause-keeps : goal.returns-in_err-rooms-clause-keeps
returns-in_err-rooms-clause-keeps c = no_value c.from_residual-in_err-rooms.result _ _ c.from_residual-in_err-rooms.ensures.1

pub returns-in_err-rooms-clause-steps : goal.returns-in_err-rooms-clause-steps
returns-in_err-rooms-clause-steps c = no_value c.from_residual-in_err-rooms.result _ _ c.from_residual-in_err-rooms.ensures.1

pub returns-in_err-validity-clause-keeps : goal.returns-in_err-validity-clause-keeps
returns-in_err-validity-clause-keeps c = no_value c.from_residual-in_err-validity.result _ _ c.from_residual-in_err-validity.ensures.1

pub returns-in_err-validity-clause-steps : goal.returns-in_err-validity-clause-steps
returns-in_err-validity-clause-steps c = no_value c.from_residual-in_err-validity.result _ _ c.from_residual-in_err-validity.ensures.1
