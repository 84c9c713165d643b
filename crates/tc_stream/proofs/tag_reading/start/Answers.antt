use Rattle.std.proofs.Common.{◌<◌, refl, sym, subst, length, arith}
use Rattle.tc_stream.proofs.KeepsLaws.{has_room}
use Rattle.tc_stream.proofs.TagFaults.{whole_form_fault}
use Rattle.tc_stream.proofs.TagReads.{stands_moved}
use Rattle.tc_stream.proofs.tag_reading.start.Goals as goal

pub form-requires : goal.form-requires
form-requires c = c.requires.short

pub returns-then-is_full-clause-fault : goal.returns-then-is_full-clause-fault
returns-then-is_full-clause-fault c = λ x chars w t room. absurd (omega (arith, room, c.if-is_full.ensures.full.0 refl))

pub enter-requires-clause-ready : goal.enter-requires-clause-ready
enter-requires-clause-ready c = c.form.ensures.ready c.requires.ready

pub enter-requires-clause-room : goal.enter-requires-clause-room
enter-requires-clause-room c = subst (λ z. length z < 2000) (sym c.form.ensures.levels) (c.if-is_full.ensures.room refl)

pub returns-in-Ok-clause-ok : goal.returns-in-Ok-clause-ok
returns-in-Ok-clause-ok c = λ x chars w t. c.enter.ensures.ok x chars w (stands_moved t c.form.new.self c.form.ensures.keeps c.form.ensures.validity)

pub returns-in-Ok-clause-fault : goal.returns-in-Ok-clause-fault
returns-in-Ok-clause-fault c = λ x chars w t room. c.enter.ensures.fault x chars w (stands_moved t c.form.new.self c.form.ensures.keeps c.form.ensures.validity)

pub returns-in-Err-clause-fault : goal.returns-in-Err-clause-fault
returns-in-Err-clause-fault c = λ x chars w t room.
    whole_form_fault t w c.requires.short (has_room c.args.elements.now t.keeps room) c.in-Err.stop c.fault_of.result
    c.fault_of.ensures
    (record { none_open = c.in-Err.ensures.no; none_empty = c.in-Err.ensures.no_empty; stands = c.in-Err.ensures.stands; malformed = c.in-Err.ensures.malformed })

pub returns-then-is_full-clause-ready : goal.returns-then-is_full-clause-ready
returns-then-is_full-clause-ready c = tt

pub returns-then-is_full-clause-ok : goal.returns-then-is_full-clause-ok
returns-then-is_full-clause-ok c = λ _ _ _ _. tt

pub returns-in-Ok-clause-ready : goal.returns-in-Ok-clause-ready
returns-in-Ok-clause-ready c = c.enter.ensures.ready

pub returns-in-Err-clause-ready : goal.returns-in-Err-clause-ready
returns-in-Err-clause-ready c = tt

pub returns-in-Err-clause-ok : goal.returns-in-Err-clause-ok
returns-in-Err-clause-ok c = λ _ _ _ _. tt

pub enter-requires-clause-short : goal.enter-requires-clause-short
enter-requires-clause-short c = c.requires.short

pub enter-requires-clause-written : goal.enter-requires-clause-written
enter-requires-clause-written c = c.in-Ok.ensures.ok
