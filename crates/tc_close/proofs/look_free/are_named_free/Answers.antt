use Rattle.std.proofs.Common.{map, arith}
use Rattle.std.proofs.lemmas.Option.{slice_get_within}
use Rattle.std.proofs.lemmas.List.{length-map}
use Rattle.tc_model.specs.Views as see
use Rattle.tc_close.proofs.LookFree.{named_next, no_body}
use Rattle.tc_close.proofs.look_free.are_named_free.Goals as goal

pub loop-body-preserved : goal.loop-body-preserved
loop-body-preserved c = named_next c.args.named.now c.loop-body.body-index no_body c.loop-body-test.true c.loop-body.invariant (c.are_free.ensures c.if-not-are_free.false)

pub returns : goal.returns
returns c = λ e n b at.
    let low = slice_get_within (map (λ d. see.body d.now) c.args.named.now) n b at in
    let count = length-map c.args.named.now (λ d. see.body d.now) in
    let ends = c.loop-body-test.false in
    c.loop-body.invariant n b (omega (arith, low, count, ends)) at
