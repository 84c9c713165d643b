use Rattle.std.proofs.Common.{false, refl, sym, subst}
use Rattle.std.specs.Prelude.{IfSome}
use Rattle.tc_stream.proofs.KeepsLaws.{has_room}
use Rattle.tc_stream.proofs.NamedLaws.{opened}
use Rattle.tc_stream.proofs.TagBehind.{no_start_fault, starts_behind}
use Rattle.tc_stream.specs.Named.{alone, form_of, local_name, IsTagOf}
use Rattle.tc_tags.specs.Forms.{FormRead}
use Rattle.tc_stream.proofs.whole_tags.start_by.Goals as goal

pub returns-in-Ok-clause-ok : goal.returns-in-Ok-clause-ok
returns-in-Ok-clause-ok c = λ x chars w t.
    let local = c.in-Some.name.now in
    let m : IsTagOf local c.args.tag.now = subst (λ o. IfSome o (λ name. IsTagOf name.now c.args.tag.now)) c.in-Some.is c.requires.named in
    let read = subst (λ z. FormRead z (form_of local) (alone (local_name local))) (sym m.tag_is) m.read in
    starts_behind t c.enter_named.new.self (form_of local) (alone (local_name local)) c.requires.short (has_room c.args.elements.now t.keeps c.requires.room) read
    (opened false refl (c.in-Ok.ensures.enters t.ls t.scope t.keeps))

pub returns-in-Err-clause-fault : goal.returns-in-Err-clause-fault
returns-in-Err-clause-fault c = λ x chars w t.
    let local = c.in-Some.name.now in
    let m : IsTagOf local c.args.tag.now = subst (λ o. IfSome o (λ name. IsTagOf name.now c.args.tag.now)) c.in-Some.is c.requires.named in
    let read = subst (λ z. FormRead z (form_of local) (alone (local_name local))) (sym m.tag_is) m.read in
    no_start_fault t (form_of local) (alone (local_name local)) c.requires.short (has_room c.args.elements.now t.keeps c.requires.room) read c.in-Err.reason c.no_element_fault.result
    (c.in-Err.ensures.no t.ls t.scope t.keeps) c.no_element_fault.ensures

pub returns-in-None-clause-fault : goal.returns-in-None-clause-fault
returns-in-None-clause-fault c = λ x chars w t. c.start.ensures.fault x chars w t c.requires.room
