use Rattle.std.proofs.Common.{rules, ◌≡◌, List, ℕ, codes, bytes_eq, true, false, subst}
use Rattle.tc_io.specs.Sink.{Appended, WroteFront}
use Rattle.tc_io.proofs.Fronts.{on_err, on_err_map, on_ok_map, appended_twice, first_front, next_front}
use Rattle.tc_model.specs.Printed.{xml_uri}
use Rattle.tc_model.specs.Views.{name}
use Rattle.tc_print.proofs.Names.{with_prefix, without_prefix}
use Rattle.tc_print.proofs.Failed.{no_ok}
use Rattle.tc_print.proofs.tags.write_tag_name.Goals as goal
use Rattle.tc_print.proofs.tags.write_tag_name.Goals.{then-eq+in_ok-write, else-eq}

pub returns-in_err-write-clause-fault : goal.returns-in_err-write-clause-fault
returns-in_err-write-clause-fault g c =
    let n = name c.args.of.now in
    let xml : bytes_eq n.uri xml_uri ≡ true = search rules in
    on_err c.from_residual.result (subst (WroteFront _ _) (with_prefix n xml) (first_front _ _ (codes "xml:") n.local c.in_err-write.ensures.fault))

pub returns-clause-ok : goal.returns-clause-ok
returns-clause-ok g c =
    let n = name c.args.of.now in
    let last : Appended (g.K.Sink.written c.if-eq.sink) (g.K.Sink.written c.write-2.new.self) c.as_bytes.result.now → Appended (g.K.Sink.written c.if-eq.sink) (g.K.Sink.written c.write-2.new.self) n.local
    = subst (λ (w : List ℕ). Appended (g.K.Sink.written c.if-eq.sink) (g.K.Sink.written c.write-2.new.self) w) c.as_bytes.ensures.value in
    elim c.if-eq.branch [
      | then-eq+in_ok-write w ↦
          let xml : bytes_eq n.uri xml_uri ≡ true = search rules in
          on_ok_map c.write-2.result (λ h. subst (Appended _ _) (with_prefix n xml)
          (appended_twice _ _ _ (codes "xml:") n.local w.in_ok-write.ensures.ok (rw (← w.sink-is) (last h)))) c.write-2.ensures.ok
      | else-eq w ↦
          let xml : bytes_eq n.uri xml_uri ≡ false = search rules in
          on_ok_map c.write-2.result (λ h. subst (Appended _ _) (without_prefix n xml) (rw (← w.sink-is) (last h))) c.write-2.ensures.ok
    ]

pub returns-clause-fault : goal.returns-clause-fault
returns-clause-fault g c =
    let n = name c.args.of.now in
    let last : WroteFront (g.K.Sink.written c.if-eq.sink) (g.K.Sink.written c.write-2.new.self) c.as_bytes.result.now → WroteFront (g.K.Sink.written c.if-eq.sink) (g.K.Sink.written c.write-2.new.self) n.local
    = subst (λ (w : List ℕ). WroteFront (g.K.Sink.written c.if-eq.sink) (g.K.Sink.written c.write-2.new.self) w) c.as_bytes.ensures.value in
    elim c.if-eq.branch [
      | then-eq+in_ok-write w ↦
          let xml : bytes_eq n.uri xml_uri ≡ true = search rules in
          on_err_map c.write-2.result (λ h. subst (WroteFront _ _) (with_prefix n xml)
          (next_front _ _ _ (codes "xml:") n.local w.in_ok-write.ensures.ok (rw (← w.sink-is) (last h)))) c.write-2.ensures.fault
      | else-eq w ↦
          let xml : bytes_eq n.uri xml_uri ≡ false = search rules in
          on_err_map c.write-2.result (λ h. subst (WroteFront _ _) (without_prefix n xml) (rw (← w.sink-is) (last h))) c.write-2.ensures.fault
    ]

pub returns-in_err-write-clause-faults : goal.returns-in_err-write-clause-faults
returns-in_err-write-clause-faults g c = record { count = c.in_err-write.ensures.count; rose = on_err c.from_residual.result c.in_err-write.ensures.rose }

pub returns-in_err-write-clause-ok : goal.returns-in_err-write-clause-ok
returns-in_err-write-clause-ok g c = no_ok c.from_residual.result _ _ c.from_residual.ensures.1
