use Rattle.std.proofs.Common.{get_or}
use Rattle.std.proofs.lemmas.Option.{slice_get-get_or}
use Rattle.tc_beh.specs.Held.{set_at}
use Rattle.tc_beh.specs.Places.{pairs_of}
use Rattle.tc_close.proofs.Pushed.{pushed_taken}
use Rattle.tc_close.proofs.HandedOn.{no_value}
use Rattle.tc_close.proofs.certificate.outputs_at.Goals as goal

pub loop-place-preserved : goal.loop-place-preserved
loop-place-preserved g c =
    pushed_taken (λ n. pairs_of (set_at c.args.rows.now.outputs n)) c.args.numbers.now c.loop-place.place (get_or c.args.numbers.now c.loop-place.place 0) c.loop-place.outputs c.push.new.self c.in_ok-pairs.pairs
    (slice_get-get_or c.args.numbers.now c.loop-place.place 0 c.loop-place-test.true) c.loop-place.invariant c.in_ok-push.ensures.ok c.in_ok-pairs.ensures

pub returns-in_err-pairs : goal.returns-in_err-pairs
returns-in_err-pairs g c = no_value c.from_residual.result _ _ c.from_residual.ensures.1

pub returns-in_err-push : goal.returns-in_err-push
returns-in_err-push g c = no_value c.from_residual-in_err-push.result _ _ c.from_residual-in_err-push.ensures.1
