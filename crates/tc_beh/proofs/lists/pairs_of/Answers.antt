use Rattle.std.proofs.Common.{◌≡◌, ◌∙◌, ap, arith}
use Rattle.tc_beh.proofs.InOrder.{rows_pairs, all_rows}
use Rattle.tc_beh.proofs.Steps.{no_value}
use Rattle.tc_beh.proofs.lists.pairs_of.Goals as goal

pub returns : goal.returns
returns c =
    let m = c.args.set.now in
    let past = c.loop-from-test.false in
    let end = c.loop-from.auto.from-end in
    let size = c.size-from-end.ensures.size in
    let all : c.loop-from.from ≡ m.size = omega (arith, past, end, size) in
    c.loop-from.invariant ∙ (ap (λ n. rows_pairs m n) all ∙ all_rows m)

pub returns-in_err-put_row : goal.returns-in_err-put_row
returns-in_err-put_row c = no_value c.from_residual.result _ _ c.from_residual.ensures.1
