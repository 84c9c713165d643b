use Rattle.std.proofs.Common.{◌++◌, codes, arith}
use Rattle.tc_io.proofs.Fronts.{on_err, on_err_map, first_front, next_front, on_ok_map, appended_twice, then_rose}
use Rattle.tc_model.specs.Printed.{tag_name, declaration}
use Rattle.tc_model.specs.Views.{name}
use Rattle.tc_print.proofs.Failed.{no_ok, no_value}
use Rattle.tc_print.proofs.tags.begin_tag.Goals as goal

pub returns-in_err-write-clause-fault : goal.returns-in_err-write-clause-fault
returns-in_err-write-clause-fault g c =
    let n = name c.args.of.now in
    on_err c.from_residual.result (first_front _ _ (codes "<") (tag_name n ++ declaration c.args.default.now n) c.in_err-write.ensures.fault)

pub returns-in_err-write_tag_name-clause-fault : goal.returns-in_err-write_tag_name-clause-fault
returns-in_err-write_tag_name-clause-fault g c =
    let n = name c.args.of.now in
    let declares = declaration c.args.default.now n in
    on_err c.from_residual-in_err-write_tag_name.result (next_front _ _ _ (codes "<") (tag_name n ++ declares) c.in_ok-write.ensures.ok
    (first_front _ _ (tag_name n) declares c.in_err-write_tag_name.ensures.fault))

pub returns-clause-fault : goal.returns-clause-fault
returns-clause-fault g c =
    let n = name c.args.of.now in
    let declares = declaration c.args.default.now n in
    on_err_map c.write_declaration.result (λ h. next_front _ _ _ (codes "<") (tag_name n ++ declares) c.in_ok-write.ensures.ok
    (next_front _ _ _ (tag_name n) declares c.in_ok-write_tag_name.ensures.ok h)) c.write_declaration.ensures.fault

pub returns-in_err-write-clause-faults : goal.returns-in_err-write-clause-faults
returns-in_err-write-clause-faults g c = record { count = c.in_err-write.ensures.count; rose = on_err c.from_residual.result c.in_err-write.ensures.rose }

pub returns-in_err-write-clause-ok : goal.returns-in_err-write-clause-ok
returns-in_err-write-clause-ok g c = no_ok c.from_residual.result _ _ c.from_residual.ensures.1

pub returns-in_err-write_tag_name-clause-faults : goal.returns-in_err-write_tag_name-clause-faults
returns-in_err-write_tag_name-clause-faults g c = record { count = omega (arith, c.in_ok-write.ensures.count, c.in_err-write_tag_name.ensures.faults.count); rose = on_err c.from_residual-in_err-write_tag_name.result (then_rose _ _ _ c.in_ok-write.ensures.count c.in_err-write_tag_name.ensures.faults.rose) }

pub returns-in_err-write_tag_name-clause-ok : goal.returns-in_err-write_tag_name-clause-ok
returns-in_err-write_tag_name-clause-ok g c = no_ok c.from_residual-in_err-write_tag_name.result _ _ c.from_residual-in_err-write_tag_name.ensures.1

pub returns-clause-faults : goal.returns-clause-faults
returns-clause-faults g c = record { count = omega (arith, c.in_ok-write.ensures.count, c.in_ok-write_tag_name.ensures.faults.count, c.write_declaration.ensures.faults.count); rose = on_err_map c.write_declaration.result (λ h. then_rose _ _ _ c.in_ok-write.ensures.count (then_rose _ _ _ c.in_ok-write_tag_name.ensures.faults.count h)) c.write_declaration.ensures.faults.rose }

pub returns-in_err-write-clause-within : goal.returns-in_err-write-clause-within
returns-in_err-write-clause-within g c = no_value c.from_residual.result _ _ c.from_residual.ensures.1

pub returns-in_err-write_tag_name-clause-within : goal.returns-in_err-write_tag_name-clause-within
returns-in_err-write_tag_name-clause-within g c = no_value c.from_residual-in_err-write_tag_name.result _ _ c.from_residual-in_err-write_tag_name.ensures.1

pub returns-clause-within : goal.returns-clause-within
returns-clause-within g c = c.write_declaration.ensures.within

pub returns-clause-ok : goal.returns-clause-ok
returns-clause-ok g c =
    let n = name c.args.of.now in
    let declares = declaration c.args.default.now n in
    on_ok_map c.write_declaration.result (λ h. appended_twice _ _ _ (codes "<") (tag_name n ++ declares) c.in_ok-write.ensures.ok
    (appended_twice _ _ _ (tag_name n) declares c.in_ok-write_tag_name.ensures.ok h)) c.write_declaration.ensures.ok
