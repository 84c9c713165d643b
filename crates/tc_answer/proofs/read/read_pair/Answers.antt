use Rattle.std.proofs.Common.{◌∙◌, arith}
use Rattle.tc_io.proofs.ReadsInOrder.{happened_both}
use Rattle.tc_read.proofs.Exits.{err_is}
use Rattle.tc_answer.specs.AnswersSeen.{source}
use Rattle.tc_answer.proofs.OperandsRead.{unread_first, unread_later, no_value}
use Rattle.tc_answer.proofs.read.read_pair.Goals as goal

pub returns-in_err-one-clause-err : goal.returns-in_err-one-clause-err
returns-in_err-one-clause-err g c =
    let first = c.in_err-one.ensures.err in
    err_is c.from_residual.result _ _ c.from_residual.ensures.1 (_, first.1, unread_first (source c.args.first) _ first.0 _ first.2)

pub returns-in_err-other-clause-err : goal.returns-in_err-other-clause-err
returns-in_err-other-clause-err g c =
    let second = c.in_err-other.ensures.err in
    err_is c.from_residual-in_err-other.result _ _ c.from_residual-in_err-other.ensures.1
    (_, happened_both _ _ _ _ _ _ _ _ c.in_ok-one.ensures.ok second.1, unread_later (source c.args.first) _ _ _ _ (unread_first (source c.args.second) _ second.0 _ second.2))

pub returns-clause-ok : goal.returns-clause-ok
returns-clause-ok g c = happened_both _ _ _ _ _ _ _ _ c.in_ok-one.ensures.ok c.in_ok-other.ensures.ok

pub returns-in_err-one-clause-first : goal.returns-in_err-one-clause-first
returns-in_err-one-clause-first g c = no_value c.from_residual.result _ _ c.from_residual.ensures.1

pub returns-in_err-one-clause-second : goal.returns-in_err-one-clause-second
returns-in_err-one-clause-second g c = no_value c.from_residual.result _ _ c.from_residual.ensures.1

pub returns-in_err-one-clause-ok : goal.returns-in_err-one-clause-ok
returns-in_err-one-clause-ok g c = no_value c.from_residual.result _ _ c.from_residual.ensures.1

pub returns-in_err-other-clause-first : goal.returns-in_err-other-clause-first
returns-in_err-other-clause-first g c = no_value c.from_residual-in_err-other.result _ _ c.from_residual-in_err-other.ensures.1

pub returns-in_err-other-clause-second : goal.returns-in_err-other-clause-second
returns-in_err-other-clause-second g c = no_value c.from_residual-in_err-other.result _ _ c.from_residual-in_err-other.ensures.1

pub returns-in_err-other-clause-ok : goal.returns-in_err-other-clause-ok
returns-in_err-other-clause-ok g c = no_value c.from_residual-in_err-other.result _ _ c.from_residual-in_err-other.ensures.1

pub returns-in_err-other-clause-same : goal.returns-in_err-other-clause-same
returns-in_err-other-clause-same g c = c.in_err-other.ensures.same ∙ c.in_ok-one.ensures.same

pub returns-in_err-other-clause-count : goal.returns-in_err-other-clause-count
returns-in_err-other-clause-count g c = omega (arith, c.in_ok-one.ensures.count, c.in_err-other.ensures.count)

pub returns-clause-same : goal.returns-clause-same
returns-clause-same g c = c.in_ok-other.ensures.same ∙ c.in_ok-one.ensures.same

pub returns-clause-count : goal.returns-clause-count
returns-clause-count g c = omega (arith, c.in_ok-one.ensures.count, c.in_ok-other.ensures.count)
