use Rattle.std.proofs.Common.{arith, ◌≤◌, length, min, ◌≡◌, ◌++◌, [], drop, sym, ap, ◌∙◌}
use Rattle.std.proofs.lemmas.List.{append-nil}
use Rattle.tc_model.specs.CertificateLines.{changes}
use Rattle.tc_cert.proofs.Loops.{next_place, next_few, no_changes}
use Rattle.tc_cert.proofs.Steps.{no_value}
use Rattle.tc_cert.proofs.writing.changes_of.Goals as goal

pub loop-i-preserved : goal.loop-i-preserved
loop-i-preserved c = record {
  so_far = next_place c.args.old.now c.args.new.now c.loop-i.i c.get-before.result.now c.get-now.result.now c.loop-i.changes c.push_change.new.changes c.get-before.ensures c.get-now.ensures c.loop-i.invariant.so_far c.in_ok-push_change.ensures;
  few = next_few c.loop-i.i c.get-before.result.now c.get-now.result.now c.loop-i.changes c.push_change.new.changes c.loop-i.invariant.few c.in_ok-push_change.ensures;
}

pub returns : goal.returns
returns c =
    let past : min (length c.args.old.now) (length c.args.new.now) ≤ c.loop-i.i = omega arith in
    let none : changes c.loop-i.i (drop c.loop-i.i c.args.old.now) (drop c.loop-i.i c.args.new.now) ≡ [] = no_changes c.loop-i.i c.args.old.now c.args.new.now c.loop-i.i past in
    sym (append-nil c.loop-i.changes) ∙ ap (λ w. c.loop-i.changes ++ w) (sym none) ∙ c.loop-i.invariant.so_far

pub returns-in_err-push_change : goal.returns-in_err-push_change
returns-in_err-push_change c = no_value c.from_residual.result _ _ c.from_residual.ensures.1
