use Rattle.std.proofs.Common.{◌≡◌, ◌<◌, List, length, ap, ◌∙◌, subst, arith}
use Rattle.tc_mat.specs.Matrix.{Matrix}
use Rattle.tc_rules.specs.Kept.{told}
use Rattle.tc_rules.specs.RulesView.{RulesView}
use Rattle.tc_rules.specs.declared.rules.Rules.{Rules}
use Rattle.tc_rows.specs.Triples.{sheet}
use Rattle.tc_beh.specs.Entries.{IsMadeOf}
use Rattle.tc_beh.specs.Heights.{deepest_rule}
use Rattle.tc_beh.proofs.Nodes.{is_place, open_for, work_read}
use Rattle.tc_beh.proofs.OpenLaws.{beside_self, beside_there}
use Rattle.tc_beh.proofs.entries.read_runs_on.Goals as goal

pub read_runs-requires-clause-place : goal.read_runs-requires-clause-place
read_runs-requires-clause-place c =
    let (x, ok) = c.requires.grounds in
    let w = c.args.work.now in
    let low = subst (λ (t : RulesView). c.args.above < length t.ancestors.states) ok.machine.parts.are_rules.told c.requires.above in
    (x, is_place x c.args.machine.now c.args.outputs.now w c.args.node ok w.text w.named.items c.args.above c.place_of-place.result (subst (λ (ms : List Matrix). IsMadeOf c.args.machine.now c.args.outputs.now w.text ms c.as_slice-runs.result.now c.args.node c.args.above c.place_of-place.result) c.as_slice-named.ensures.value c.place_of-place.ensures) (λ i. w.text) low ok.work.named_count ok.work.named)

pub read_runs-requires-clause-sets : goal.read_runs-requires-clause-sets
read_runs-requires-clause-sets c =
    let (x, ok) = c.requires.grounds in
    let m = c.args.machine.now in
    let w = c.args.work.now in
    let made = c.place_of-place.ensures in
    let p = c.place_of-place.result in
    let rules : deepest_rule (told p.rules.now).sheet.rules ≡ deepest_rule (sheet x).rules = ap (λ (r : Rules). deepest_rule (told r).sheet.rules) made.rules ∙ ap (λ (v : RulesView). deepest_rule v.sheet.rules) ok.machine.parts.are_rules.told in
    let depth = ok.machine.depth in
    open_for x m c.args.outputs.now w ok.work ok.machine w.sets (beside_self m.output c.args.outputs.now w.sets) p made.text made.output made.outputs (deepest_rule (told p.rules.now).sheet.rules) (omega (arith, rules, depth))

pub returns-clause-work : goal.returns-clause-work
returns-clause-work c = λ x ok.
    let w = c.args.work.now in
    let m = c.args.machine.now in
    let held = c.args.outputs.now in
    let p = c.place_of-place.result in
    let low = subst (λ (t : RulesView). c.args.above < length t.ancestors.states) ok.machine.parts.are_rules.told c.requires.above in
    let place = is_place x m held w c.args.node ok w.text w.named.items c.args.above p (subst (λ (ms : List Matrix). IsMadeOf m held w.text ms c.as_slice-runs.result.now c.args.node c.args.above p) c.as_slice-named.ensures.value c.place_of-place.ensures) (λ i. w.text) low ok.work.named_count ok.work.named in
    work_read x m held w ok.work c.read_runs.new.sets (beside_there p m.output held c.place_of-place.ensures.output c.place_of-place.ensures.outputs w.sets c.read_runs.new.sets c.read_runs.ensures.same) c.read_runs.result (c.read_runs.ensures.runs x place)
