use Rattle.std.proofs.Common.{arith, refl}
use Rattle.tc_beh.specs.Rooms.{output_at}
use Rattle.tc_beh.proofs.Holding.{one_kept, extends_self}
use Rattle.tc_beh.proofs.Steps.{not_done}
use Rattle.tc_beh.proofs.Refusing.{refuse_none, refuse_ok, refuse_err}
use Rattle.tc_beh.proofs.empty.put_identities.Goals as goal

pub returns-clause-grows : goal.returns-clause-grows
returns-clause-grows c =
    let some = c.if-out-eq0.false in
    one_kept c.args.outputs.now c.keep.new.outputs c.put_identity.new.out c.in_ok-number.number c.args.out.now.entries (output_at c.args.out.now.flags c.put_one_output.new.out.numbers.items) c.in_ok-number.ensures.number
    c.in_ok-number.ensures.grows (omega (arith, some)) c.put_one_output.ensures.outputs

pub returns-in_err-number-clause-outs : goal.returns-in_err-number-clause-outs
returns-in_err-number-clause-outs c = not_done c.from_residual.result _ _ c.from_residual.ensures.1

pub returns-in_err-number-clause-grows : goal.returns-in_err-number-clause-grows
returns-in_err-number-clause-grows c = not_done c.from_residual.result _ _ c.from_residual.ensures.1

pub returns-clause-err : goal.returns-clause-err
returns-clause-err c = tt

pub returns-then-out-eq0-clause-err : goal.returns-then-out-eq0-clause-err
returns-then-out-eq0-clause-err c = tt

pub returns-then-out-eq0-clause-set : goal.returns-then-out-eq0-clause-set
returns-then-out-eq0-clause-set c = refl

pub returns-then-out-eq0-clause-beside : goal.returns-then-out-eq0-clause-beside
returns-then-out-eq0-clause-beside c = record { flags = refl; entries = refl; count = refl }

pub returns-then-out-eq0-clause-others : goal.returns-then-out-eq0-clause-others
returns-then-out-eq0-clause-others c = λ k h. refl

pub returns-then-out-eq0-clause-held : goal.returns-then-out-eq0-clause-held
returns-then-out-eq0-clause-held c = extends_self c.args.outputs.now

pub returns-clause-beside : goal.returns-clause-beside
returns-clause-beside c = c.put_one_output.ensures.beside

pub returns-clause-others : goal.returns-clause-others
returns-clause-others c = c.put_one_output.ensures.others

pub returns-in_err-number-clause-beside : goal.returns-in_err-number-clause-beside
returns-in_err-number-clause-beside c = record { flags = refl; entries = refl; count = refl }

pub returns-in_err-number-clause-others : goal.returns-in_err-number-clause-others
returns-in_err-number-clause-others c = λ k h. refl

pub returns-then-out-eq0-clause-refusals : goal.returns-then-out-eq0-clause-refusals
returns-then-out-eq0-clause-refusals c = refuse_none c.args.is_fixed c.args.outputs.now _

pub returns-clause-refusals : goal.returns-clause-refusals
returns-clause-refusals c = refuse_ok c.args.is_fixed c.args.outputs.now c.keep.new.outputs c.keep.result _ c.keep.ensures.refusals

pub returns-in_err-number-clause-refusals : goal.returns-in_err-number-clause-refusals
returns-in_err-number-clause-refusals c = refuse_err c.args.is_fixed c.args.outputs.now c.keep.new.outputs c.from_residual.result c.keep.result _ c.from_residual.ensures.1 c.in_err-number.was c.keep.ensures.refusals
