use Rattle.std.proofs.Common.{◌++◌, codes, arith}
use Rattle.tc_io.proofs.Fronts.{on_err, on_err_map, first_front, next_front, on_ok_map, appended_twice, then_rose}
use Rattle.tc_model.specs.Printed.{tag_name}
use Rattle.tc_model.specs.Views.{name}
use Rattle.tc_print.proofs.Failed.{no_ok}
use Rattle.tc_print.proofs.tags.write_long_end_tag.Goals as goal

pub returns-in_err-write-clause-fault : goal.returns-in_err-write-clause-fault
returns-in_err-write-clause-fault g c =
    let tag = tag_name (name c.args.of.now) in
    on_err c.from_residual.result (first_front _ _ (codes "</") (tag ++ codes ">") c.in_err-write.ensures.fault)

pub returns-in_err-write_tag_name-clause-fault : goal.returns-in_err-write_tag_name-clause-fault
returns-in_err-write_tag_name-clause-fault g c =
    let tag = tag_name (name c.args.of.now) in
    on_err c.from_residual-in_err-write_tag_name.result (next_front _ _ _ (codes "</") (tag ++ codes ">") c.in_ok-write.ensures.ok
    (first_front _ _ tag (codes ">") c.in_err-write_tag_name.ensures.fault))

pub returns-clause-fault : goal.returns-clause-fault
returns-clause-fault g c =
    let tag = tag_name (name c.args.of.now) in
    on_err_map c.write-2.result (λ h. next_front _ _ _ (codes "</") (tag ++ codes ">") c.in_ok-write.ensures.ok
    (next_front _ _ _ tag (codes ">") c.in_ok-write_tag_name.ensures.ok h)) c.write-2.ensures.fault

pub returns-in_err-write-clause-faults : goal.returns-in_err-write-clause-faults
returns-in_err-write-clause-faults g c = record { count = c.in_err-write.ensures.count; rose = on_err c.from_residual.result c.in_err-write.ensures.rose }

pub returns-in_err-write-clause-ok : goal.returns-in_err-write-clause-ok
returns-in_err-write-clause-ok g c = no_ok c.from_residual.result _ _ c.from_residual.ensures.1

pub returns-in_err-write_tag_name-clause-faults : goal.returns-in_err-write_tag_name-clause-faults
returns-in_err-write_tag_name-clause-faults g c = record { count = omega (arith, c.in_ok-write.ensures.count, c.in_err-write_tag_name.ensures.faults.count); rose = on_err c.from_residual-in_err-write_tag_name.result (then_rose _ _ _ c.in_ok-write.ensures.count c.in_err-write_tag_name.ensures.faults.rose) }

pub returns-in_err-write_tag_name-clause-ok : goal.returns-in_err-write_tag_name-clause-ok
returns-in_err-write_tag_name-clause-ok g c = no_ok c.from_residual-in_err-write_tag_name.result _ _ c.from_residual-in_err-write_tag_name.ensures.1

pub returns-clause-faults : goal.returns-clause-faults
returns-clause-faults g c = record { count = omega (arith, c.in_ok-write.ensures.count, c.in_ok-write_tag_name.ensures.faults.count, c.write-2.ensures.count); rose = on_err_map c.write-2.result (λ h. then_rose _ _ _ c.in_ok-write.ensures.count (then_rose _ _ _ c.in_ok-write_tag_name.ensures.faults.count h)) c.write-2.ensures.rose }

pub returns-clause-ok : goal.returns-clause-ok
returns-clause-ok g c =
    let tag = tag_name (name c.args.of.now) in
    on_ok_map c.write-2.result (λ h. appended_twice _ _ _ (codes "</") (tag ++ codes ">") c.in_ok-write.ensures.ok
    (appended_twice _ _ _ tag (codes ">") c.in_ok-write_tag_name.ensures.ok h)) c.write-2.ensures.ok
