use Rattle.std.proofs.Common.{◌≡◌, ◌<◌, ◌≤◌, List, length, ap, ◌∙◌, subst, sym, arith}
use Rattle.tc_mat.specs.Matrix.{Matrix}
use Rattle.tc_rules.specs.Kept.{told}
use Rattle.tc_rules.specs.RulesView.{RulesView, move_count}
use Rattle.tc_rules.specs.declared.rules.Rules.{Rules}
use Rattle.tc_beh.specs.Entries.{IsMadeOf}
use Rattle.tc_beh.specs.Runs.{AreRuns}
use Rattle.tc_beh.specs.Templates.{IsPartTemplate, depth_of, depth_of_sheet}
use Rattle.tc_beh.proofs.Nodes.{is_ground, is_place, are_called, entry_made, open_for, work_kept}
use Rattle.tc_beh.proofs.OpenLaws.{beside_then, beside_there}
use Rattle.tc_beh.proofs.entries.put_entry_of.Goals as goal

pub template_at-template-requires-clause-letter : goal.template_at-template-requires-clause-letter
template_at-template-requires-clause-letter c = let (x, ok) = c.requires.grounds in (x, ok.machine.parts.are_rules, ok.node.letter, ok.work.known)

pub put_entry_above-requires-clause-part : goal.put_entry_above-requires-clause-part
put_entry_above-requires-clause-part c = subst (λ (r : Rules). IsPartTemplate (told r).sheet c.template_at-template.result) (sym c.place_of-place.ensures.rules) c.template_at-template.ensures.part

pub put_entry_above-requires-clause-depth : goal.put_entry_above-requires-clause-depth
put_entry_above-requires-clause-depth c = subst (λ (r : Rules). depth_of c.template_at-template.result ≤ depth_of_sheet (told r).sheet) (sym c.place_of-place.ensures.rules) c.template_at-template.ensures.depth

pub put_entry_above-requires-clause-place : goal.put_entry_above-requires-clause-place
put_entry_above-requires-clause-place c =
    let (x, ok) = c.requires.grounds in
    let w = c.args.work.now in
    let low = subst (λ (t : RulesView). c.args.spot.above < length t.ancestors.states) ok.machine.parts.are_rules.told c.requires.above in (
      x,
      record {
        place = is_place x c.args.machine.now c.args.outputs.now w c.args.node ok w.text w.named.items c.args.spot.above c.place_of-place.result (subst (λ (ms : List Matrix). IsMadeOf c.args.machine.now c.args.outputs.now w.text ms c.as_slice-runs.result.now c.args.node c.args.spot.above c.place_of-place.result) c.as_slice-named.ensures.value c.place_of-place.ensures) (λ i. w.text) low ok.work.named_count ok.work.named;
        runs = subst (AreRuns x) (sym (c.place_of-place.ensures.runs ∙ c.as_slice-runs.ensures.value)) ok.work.runs;
      },
    )

pub put_entry_above-requires-clause-letter : goal.put_entry_above-requires-clause-letter
put_entry_above-requires-clause-letter c =
    let (x, ok) = c.requires.grounds in
    let w = c.args.work.now in
    let low = subst (λ (t : RulesView). c.args.spot.above < length t.ancestors.states) ok.machine.parts.are_rules.told c.requires.above in
    (x, is_place x c.args.machine.now c.args.outputs.now w c.args.node ok w.text w.named.items c.args.spot.above c.place_of-place.result (subst (λ (ms : List Matrix). IsMadeOf c.args.machine.now c.args.outputs.now w.text ms c.as_slice-runs.result.now c.args.node c.args.spot.above c.place_of-place.result) c.as_slice-named.ensures.value c.place_of-place.ensures) (λ i. w.text) low ok.work.named_count ok.work.named, ok.node.letter)

pub put_entry_above-requires-clause-sets : goal.put_entry_above-requires-clause-sets
put_entry_above-requires-clause-sets c =
    let (x, ok) = c.requires.grounds in
    let m = c.args.machine.now in
    let made = c.place_of-place.ensures in
    let p = c.place_of-place.result in
    let deep : depth_of_sheet (told p.rules.now).sheet ≡ m.depth = ap (λ (r : Rules). depth_of_sheet (told r).sheet) made.rules ∙ (ap (λ (v : RulesView). depth_of_sheet v.sheet) ok.machine.parts.are_rules.told ∙ sym ok.machine.depth) in
    open_for x m c.args.outputs.now c.args.work.now ok.work ok.machine c.restart.new.self (c.restart.ensures.same m.output c.args.outputs.now) p made.text made.output made.outputs (depth_of_sheet (told p.rules.now).sheet) (omega (arith, deep))

pub returns-clause-work : goal.returns-clause-work
returns-clause-work c = λ x ok.
    let w = c.args.work.now in
    let outer = c.args.machine.now.output in
    let held = c.args.outputs.now in
    let made = c.place_of-place.ensures in
    let put = beside_there c.place_of-place.result outer held made.output made.outputs c.restart.new.self c.put_entry_above.new.sets c.put_entry_above.ensures.same in
    let same = beside_then outer held w.sets c.restart.new.self c.put_entry_above.new.sets (c.restart.ensures.same outer held) put in
    work_kept x c.args.machine.now held w ok.work c.put_entry_above.new.sets same c.template_at-template.new.known (c.template_at-template.ensures.known x ok.machine.parts.are_rules ok.node.letter ok.work.known)

pub returns-clause-entry : goal.returns-clause-entry
returns-clause-entry c = λ x ok under called.
    let w = c.args.work.now in
    let m = c.args.machine.now in
    let held = c.args.outputs.now in
    let n = c.args.node in
    let p = c.place_of-place.result in
    let made = subst (λ (ms : List Matrix). IsMadeOf m held w.text ms c.as_slice-runs.result.now n c.args.spot.above p) c.as_slice-named.ensures.value c.place_of-place.ensures in
    let ground = is_ground x m held w n ok w.text w.named.items c.args.spot.above p made (λ i. w.text) under.low in
    let place = is_place x m held w n ok w.text w.named.items c.args.spot.above p made (λ i. w.text) under.low ok.work.named_count ok.work.named in
    let all_called = are_called x m held w n ok w.text w.named.items c.args.spot.above p made called in
    let within = subst (λ (t : RulesView). c.args.spot.state < move_count t) ok.machine.parts.are_rules.told c.requires.state in
    entry_made x m held w n ok w.text w.named.items c.args.spot.above p made ground c.restart.new.self.out c.put_entry_above.new.sets.out c.args.spot.ancestor c.args.spot.state under c.restart.ensures.out ((c.restart.ensures.same m.output c.args.outputs.now).size ∙ ok.work.open_size) within
    (λ g at. c.put_entry_above.ensures.pairs x g c.args.spot.ancestor at (record { place = place; runs = subst (AreRuns x) (sym (made.runs ∙ c.as_slice-runs.ensures.value)) ok.work.runs }) all_called ok.node.letter
    (c.template_at-template.ensures.meant x g ok.machine.parts.are_rules ok.node.letter ok.work.known at))
