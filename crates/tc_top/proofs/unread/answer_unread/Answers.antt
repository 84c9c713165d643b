use Rattle.std.proofs.Common.{subst}
use Rattle.std.proofs.lemmas.Result.{IfOk-weaker}
use Rattle.tc_answer.specs.Answers as a
use Rattle.tc_top.specs.Answers.{not_read, over_long}
use Rattle.tc_answer.specs.AnswersSeen.{IsFirstUnread}
use Rattle.tc_top.proofs.unread.answer_unread.Goals as goal

pub returns-in-Unreadable : goal.returns-in-Unreadable
returns-in-Unreadable c =
    IfOk-weaker c.cannot_read.result _ _ (λ said says words command reads are first.
    let stops = subst (IsFirstUnread _ _) c.in-Unreadable.is first in
    (a.cannot_read c.in-Unreadable.name.now, says, not_read are stops.1 stops.2)) c.cannot_read.ensures

pub returns-in-TooLong : goal.returns-in-TooLong
returns-in-TooLong c =
    IfOk-weaker c.file_limit.result _ _ (λ said says words command reads are first.
    let stops = subst (IsFirstUnread _ _) c.in-TooLong.is first in
    (a.file_limit, says, over_long are stops.1)) c.file_limit.ensures
