use Rattle.std.proofs.Common.{arith}
use Rattle.tc_stream.proofs.TagFaults.{whole_end_fault}
use Rattle.tc_stream.proofs.TagBehind.{ends_behind}
use Rattle.tc_stream.proofs.tag_reading.end.Goals as goal

pub returns-clause-ready : goal.returns-clause-ready
returns-clause-ready c = c.end.ensures.ready c.requires.ready

pub returns-clause-ok : goal.returns-clause-ok
returns-clause-ok c = λ x chars w t some.
    ends_behind t c.end.new.self c.requires.short some (λ l ls scope k. c.if-not-is_end_tag.ensures l.written.name (c.name.ensures.named l ls scope k)) c.end.ensures.keeps
    (λ l ls run s many. c.end.ensures.steps x l ls run s many) (λ l run s one. c.end.ensures.valid x l run s one)

pub returns-then-not-is_end_tag-clause-fault : goal.returns-then-not-is_end_tag-clause-fault
returns-then-not-is_end_tag-clause-fault c = λ x chars w t some.
    whole_end_fault t w c.requires.short (record { 0 = c.args.begun }) (omega arith) (λ l os scope k. c.if-not-is_end_tag.ensures l.written.name (c.name.ensures.named l os scope k))

pub returns-clause-fault : goal.returns-clause-fault
returns-clause-fault c = λ x chars w t some. tt

pub returns-then-not-is_end_tag-clause-ready : goal.returns-then-not-is_end_tag-clause-ready
returns-then-not-is_end_tag-clause-ready c = tt

pub returns-then-not-is_end_tag-clause-ok : goal.returns-then-not-is_end_tag-clause-ok
returns-then-not-is_end_tag-clause-ok c = λ _ _ _ _ _. tt
