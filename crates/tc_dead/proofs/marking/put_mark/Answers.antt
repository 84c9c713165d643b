use Rattle.std.proofs.Common.{List, Bor, ◌∙◌, ap, refl}
use Rattle.tc_model.specs.declared.sheet.Instr.{Instr}
use Rattle.tc_dead.specs.Views.{placed}
use Rattle.tc_dead.proofs.MarkSteps.{pushed_so, mark_so}
use Rattle.tc_dead.proofs.marking.put_mark.Goals as goal

pub returns : goal.returns
returns c = λ rest.
    let inner : Bor (List Instr) = record { ref_ptr = c.in_ok-inner.inner.ref_ptr; now = c.in_ok-inner.inner.now } in
    pushed_so c.args.found.now.items c.push.new.self.items _ c.in_ok-push.ensures.items rest
    ∙ ap (placed c.args.found.now.items) (mark_so c.mark_name-2.result c.mark_name.result inner _ c.mark_name-2.ensures c.mark_name.ensures refl c.in_ok-inner.ensures rest)
