use Rattle.std.proofs.Common.{List, Bor}
use Rattle.tc_model.specs.declared.sheet.Instr.{Instr}
use Rattle.tc_dead.proofs.MarkSteps.{copy_pushed}
use Rattle.tc_dead.proofs.marking.put_copy.Goals as goal

pub returns : goal.returns
returns c = λ rest.
    let inner : Bor (List Instr) = record { ref_ptr = c.in_ok-inner.inner.ref_ptr; now = c.in_ok-inner.inner.now } in
    copy_pushed c.args.found.now.items c.push.new.self.items c.wrapper_name.result inner c.args.copied c.in_ok-push.ensures.items c.wrapper_name.ensures c.in_ok-inner.ensures rest
