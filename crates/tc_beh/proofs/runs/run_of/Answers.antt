use Rattle.std.proofs.Common.{◌-◌, drop, take, ◌∙◌, refl}
use Rattle.tc_model.specs.Views as see
use Rattle.tc_rules.specs.Kept.{told}
use Rattle.tc_beh.specs.Heights.{depth_in}
use Rattle.tc_beh.proofs.OpenLaws.{beside_then, open_on}
use Rattle.tc_beh.proofs.RunLaws.{drop_taken, body_parts, parts_part, parts_depth, run_made}
use Rattle.tc_beh.proofs.runs.run_of.Goals as goal

pub returns-then-not-is_worth-clause-same : goal.returns-then-not-is_worth-clause-same
returns-then-not-is_worth-clause-same c = c.restart.ensures.same c.args.place.now.output.now c.args.place.now.outputs.now

pub put_body-requires-clause-part : goal.put_body-requires-clause-part
put_body-requires-clause-part c =
    let is = c.args.body.now in
    let from = c.longest_run-from.result.0 in
    let to = c.longest_run-from.result.1 in
    (parts_part (told c.args.place.now.rules.now).sheet (see.body is) (see.body (take from is)) (see.body (take (to - from) (drop from is))) (see.body (drop to is)) (body_parts is from to c.longest_run-from.ensures.order) c.requires.part).1

pub put_body-requires-clause-sets : goal.put_body-requires-clause-sets
put_body-requires-clause-sets c =
    let p = c.args.place.now in
    let is = c.args.body.now in
    let from = c.longest_run-from.result.0 in
    let to = c.longest_run-from.result.1 in
    let run = see.body (take (to - from) (drop from is)) in
    open_on p (depth_in run) (depth_in (see.body is)) c.args.sets.now c.restart.new.self c.requires.sets (c.restart.ensures.same p.output.now p.outputs.now)
    (parts_depth (see.body is) (see.body (take from is)) run (see.body (drop to is)) (body_parts is from to c.longest_run-from.ensures.order)).1

pub returns-in-Ok-clause-same : goal.returns-in-Ok-clause-same
returns-in-Ok-clause-same c =
    let outer = c.args.place.now.output.now in
    let held = c.args.place.now.outputs.now in
    beside_then outer held c.args.sets.now c.restart.new.self c.put_body.new.sets (c.restart.ensures.same outer held) c.put_body.ensures.same

pub returns-in-Err-clause-same : goal.returns-in-Err-clause-same
returns-in-Err-clause-same c =
    let outer = c.args.place.now.output.now in
    let held = c.args.place.now.outputs.now in
    beside_then outer held c.args.sets.now c.restart.new.self c.put_body.new.sets (c.restart.ensures.same outer held) c.put_body.ensures.same

pub returns-in-Ok-clause-run : goal.returns-in-Ok-clause-run
returns-in-Ok-clause-run c = λ x ok.
    let is = c.args.body.now in
    let from = c.longest_run-from.result.0 in
    let to = c.longest_run-from.result.1 in
    let size = c.restart.ensures.size ∙ (c.requires.sets.size ∙ ok.size) in
    run_made x c.args.place.now ok is (take (to - from) (drop from is)) from to c.longest_run-from.ensures.order refl c.requires.part (c.are_constant.ensures c.if-not-are_constant.false) c.restart.new.self.out c.put_body.new.sets.out size
    c.restart.ensures.out (c.put_body.ensures.same.size ∙ size) (c.put_body.ensures.pairs x ok) _ refl (drop_taken is to) (c.in-Ok.ensures.same ∙ c.out-2.ensures.out)
