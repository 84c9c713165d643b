use Rattle.std.proofs.Common.{◌++◌, List, ℕ, codes, subst, sym, ◌∙◌, rules, arith}
use Rattle.std.specs.List.{flat_map}
use Rattle.tc_io.specs.Sink.{Appended, WroteFront}
use Rattle.tc_io.proofs.Fronts.{on_err, first_front, next_front, appended_twice, then_rose}
use Rattle.tc_model.specs.Printed.{escaped_in_value}
use Rattle.tc_model.specs.Views.{name}
use Rattle.tc_print.proofs.Names.{declared}
use Rattle.tc_print.proofs.Failed.{no_ok, no_value}
use Rattle.tc_print.proofs.tags.write_declaration.Goals as goal

pub returns-in_err-write-clause-fault : goal.returns-in_err-write-clause-fault
returns-in_err-write-clause-fault g c =
    let n = name c.args.of.now in
    let is = declared c.args.default.now n (sym c.needs_no_declaration.ensures ∙ c.if-needs_no_declaration.false) in
    on_err c.from_residual.result (subst (WroteFront _ _) is
    (first_front _ _ (codes " xmlns=\"") (flat_map escaped_in_value n.uri ++ codes "\"") c.in_err-write.ensures.fault))

pub returns-in_err-write_escaped-clause-fault : goal.returns-in_err-write_escaped-clause-fault
returns-in_err-write_escaped-clause-fault g c =
    let n = name c.args.of.now in
    let value = flat_map escaped_in_value n.uri in
    let is = declared c.args.default.now n (sym c.needs_no_declaration.ensures ∙ c.if-needs_no_declaration.false) in
    on_err c.from_residual-in_err-write_escaped.result (subst (WroteFront _ _) is
    (next_front _ _ _ (codes " xmlns=\"") (value ++ codes "\"") c.in_ok-write.ensures.ok
    (first_front _ _ value (codes "\"") (subst (λ (w : List ℕ). WroteFront (g.K.Sink.written c.write.new.self) (g.K.Sink.written c.write_escaped.new.sink) (flat_map escaped_in_value w)) c.as_bytes.ensures.value c.in_err-write_escaped.ensures.fault))))

pub returns-in_err-write-2-clause-fault : goal.returns-in_err-write-2-clause-fault
returns-in_err-write-2-clause-fault g c =
    let n = name c.args.of.now in
    let value = flat_map escaped_in_value n.uri in
    let is = declared c.args.default.now n (sym c.needs_no_declaration.ensures ∙ c.if-needs_no_declaration.false) in
    let written = subst (λ (w : List ℕ). Appended (g.K.Sink.written c.write.new.self) (g.K.Sink.written c.write_escaped.new.sink) (flat_map escaped_in_value w)) c.as_bytes.ensures.value c.in_ok-write_escaped.ensures.ok in
    on_err c.from_residual-in_err-write-2.result (subst (WroteFront _ _) is
    (next_front _ _ _ (codes " xmlns=\"") (value ++ codes "\"") c.in_ok-write.ensures.ok (next_front _ _ _ value (codes "\"") written c.in_err-write-2.ensures.fault)))

pub returns-clause-within : goal.returns-clause-within
returns-clause-within g c = search rules

pub returns-in_err-write-clause-faults : goal.returns-in_err-write-clause-faults
returns-in_err-write-clause-faults g c = record { count = c.in_err-write.ensures.count; rose = on_err c.from_residual.result c.in_err-write.ensures.rose }

pub returns-in_err-write-clause-ok : goal.returns-in_err-write-clause-ok
returns-in_err-write-clause-ok g c = no_ok c.from_residual.result _ _ c.from_residual.ensures.1

pub returns-in_err-write-clause-within : goal.returns-in_err-write-clause-within
returns-in_err-write-clause-within g c = no_value c.from_residual.result _ _ c.from_residual.ensures.1

pub returns-in_err-write_escaped-clause-faults : goal.returns-in_err-write_escaped-clause-faults
returns-in_err-write_escaped-clause-faults g c = record { count = omega (arith, c.in_ok-write.ensures.count, c.in_err-write_escaped.ensures.faults.count); rose = on_err c.from_residual-in_err-write_escaped.result (then_rose _ _ _ c.in_ok-write.ensures.count c.in_err-write_escaped.ensures.faults.rose) }

pub returns-in_err-write_escaped-clause-ok : goal.returns-in_err-write_escaped-clause-ok
returns-in_err-write_escaped-clause-ok g c = no_ok c.from_residual-in_err-write_escaped.result _ _ c.from_residual-in_err-write_escaped.ensures.1

pub returns-in_err-write_escaped-clause-within : goal.returns-in_err-write_escaped-clause-within
returns-in_err-write_escaped-clause-within g c = no_value c.from_residual-in_err-write_escaped.result _ _ c.from_residual-in_err-write_escaped.ensures.1

pub returns-in_err-write-2-clause-faults : goal.returns-in_err-write-2-clause-faults
returns-in_err-write-2-clause-faults g c = record { count = omega (arith, c.in_ok-write.ensures.count, c.in_ok-write_escaped.ensures.faults.count, c.in_err-write-2.ensures.count); rose = on_err c.from_residual-in_err-write-2.result (then_rose _ _ _ c.in_ok-write.ensures.count (then_rose _ _ _ c.in_ok-write_escaped.ensures.faults.count c.in_err-write-2.ensures.rose)) }

pub returns-in_err-write-2-clause-ok : goal.returns-in_err-write-2-clause-ok
returns-in_err-write-2-clause-ok g c = no_ok c.from_residual-in_err-write-2.result _ _ c.from_residual-in_err-write-2.ensures.1

pub returns-in_err-write-2-clause-within : goal.returns-in_err-write-2-clause-within
returns-in_err-write-2-clause-within g c = no_value c.from_residual-in_err-write-2.result _ _ c.from_residual-in_err-write-2.ensures.1

pub returns-clause-faults : goal.returns-clause-faults
returns-clause-faults g c = record { count = omega (arith, c.in_ok-write.ensures.count, c.in_ok-write_escaped.ensures.faults.count, c.in_ok-write-2.ensures.count); rose = tt }

pub returns-clause-ok : goal.returns-clause-ok
returns-clause-ok g c =
    let n = name c.args.of.now in
    let value = flat_map escaped_in_value n.uri in
    let is = declared c.args.default.now n (sym c.needs_no_declaration.ensures ∙ c.if-needs_no_declaration.false) in
    let written = subst (λ (w : List ℕ). Appended (g.K.Sink.written c.write.new.self) (g.K.Sink.written c.write_escaped.new.sink) (flat_map escaped_in_value w)) c.as_bytes.ensures.value c.in_ok-write_escaped.ensures.ok in
    subst (Appended _ _) is (appended_twice _ _ _ (codes " xmlns=\"") (value ++ codes "\"") c.in_ok-write.ensures.ok (appended_twice _ _ _ value (codes "\"") written c.in_ok-write-2.ensures.ok))
