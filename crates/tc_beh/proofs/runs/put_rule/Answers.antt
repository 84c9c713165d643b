use Rattle.std.proofs.Common.{◌∙◌, sym, subst}
use Rattle.tc_model.specs.Views as see
use Rattle.tc_rules.specs.Parts.{IsPart}
use Rattle.tc_rules.specs.RulesView.{RulesView}
use Rattle.tc_beh.specs.Heights.{depth_in}
use Rattle.tc_beh.proofs.OpenLaws.{beside_then, open_on}
use Rattle.tc_beh.proofs.RunLaws.{run_at, parts_put}
use Rattle.tc_beh.proofs.runs.put_rule.Goals as goal

pub put-requires : goal.put-requires
put-requires c =
    let (x, is) = c.requires.place in
    let at = c.in-Some-Some.ensures.lookup in
    let run = run_at x c.args.place.now is c.args.number c.in-Some-Some.field-0.now c.in-Some-Some.run' (see.body c.args.body.now) at.3.0 at.1 c.in-Some-Some.field-0-is c.requires.rule in
    run.size ∙ sym (c.put_body.ensures.same.size ∙ (c.requires.sets.size ∙ is.place.size))

pub put_body-requires-in-Some-Some-clause-part : goal.put_body-requires-in-Some-Some-clause-part
put_body-requires-in-Some-Some-clause-part c =
    let (x, is) = c.requires.place in
    let at = c.in-Some-Some.ensures.lookup in
    let run = run_at x c.args.place.now is c.args.number c.in-Some-Some.field-0.now c.in-Some-Some.run' (see.body c.args.body.now) at.3.0 at.1 c.in-Some-Some.field-0-is c.requires.rule in
    subst (λ (v : RulesView). IsPart v.sheet (see.body c.in-Some-Some.run'.behind.now)) (sym is.place.rules.told) run.behind

pub put_body-requires-in-Some-Some-clause-sets : goal.put_body-requires-in-Some-Some-clause-sets
put_body-requires-in-Some-Some-clause-sets c =
    let (x, is) = c.requires.place in
    let at = c.in-Some-Some.ensures.lookup in
    let run = run_at x c.args.place.now is c.args.number c.in-Some-Some.field-0.now c.in-Some-Some.run' (see.body c.args.body.now) at.3.0 at.1 c.in-Some-Some.field-0-is c.requires.rule in
    let outer = c.args.place.now.output.now in
    let held = c.args.place.now.outputs.now in
    open_on c.args.place.now (depth_in (see.body c.in-Some-Some.run'.behind.now)) (depth_in (see.body c.args.body.now)) c.args.sets.now c.put.new.self c.requires.sets
    (beside_then outer held c.args.sets.now c.put_body.new.sets c.put.new.self c.put_body.ensures.same (c.put.ensures.same outer held)) run.behind_depth

pub returns-in-Some-Some-clause-same : goal.returns-in-Some-Some-clause-same
returns-in-Some-Some-clause-same c =
    let outer = c.args.place.now.output.now in
    let held = c.args.place.now.outputs.now in
    beside_then outer held c.args.sets.now c.put_body.new.sets c.put_body-in-Some-Some.new.sets c.put_body.ensures.same
    (beside_then outer held c.put_body.new.sets c.put.new.self c.put_body-in-Some-Some.new.sets (c.put.ensures.same outer held) c.put_body-in-Some-Some.ensures.same)

pub returns-in-Some-Some-clause-pairs : goal.returns-in-Some-Some-clause-pairs
returns-in-Some-Some-clause-pairs c = λ x is.
    let p = c.args.place.now in
    let r = c.in-Some-Some.run' in
    let at = c.in-Some-Some.ensures.lookup in
    let run = run_at x p is c.args.number c.in-Some-Some.field-0.now r (see.body c.args.body.now) at.3.0 at.1 c.in-Some-Some.field-0-is c.requires.rule in
    parts_put x p (see.body c.args.body.now) (see.body r.before.now) (see.body r.behind.now) r.set c.args.sets.now.out c.put_body.new.sets.out c.put.new.self.out c.put_body-in-Some-Some.new.sets.out (run.pairs p is.place)
    (c.put_body.ensures.pairs x is.place) c.put.ensures.pairs (c.put_body-in-Some-Some.ensures.pairs x is.place)
