use Rattle.std.proofs.Common.{◌≡◌, ◌<◌, ℕ, length, List, All, sym, ap, ◌∙◌, subst, arith}
use Rattle.tc_mat.specs.Matrix.{Matrix}
use Rattle.tc_model.specs.Sheets.{Body}
use Rattle.tc_rules.specs.Kept.{told}
use Rattle.tc_rules.specs.RulesView.{RulesView}
use Rattle.tc_rules.specs.declared.rules.Rules.{Rules}
use Rattle.tc_rows.specs.Triples.{sheet}
use Rattle.tc_beh.specs.Callees.{AreCalleesFirst}
use Rattle.tc_beh.specs.Heights.{deepest}
use Rattle.tc_beh.specs.Entries.{below_node}
use Rattle.tc_beh.specs.Above.{letter_of, node_of}
use Rattle.tc_beh.specs.Putting.{IsCalled}
use Rattle.tc_beh.specs.Grounds.{called_from}
use Rattle.tc_beh.proofs.Nodes.{is_ground, called_on, named_back, open_for, work_filled}
use Rattle.tc_beh.proofs.OpenLaws.{beside_self, beside_there}
use Rattle.tc_beh.proofs.entries.put_named_on.Goals as goal

pub put_named-requires-clause-place : goal.put_named-requires-clause-place
put_named-requires-clause-place c =
    let (x, ok) = c.requires.grounds in
    let low = subst (λ (t : RulesView). c.args.above < length t.ancestors.states) ok.machine.parts.are_rules.told c.requires.above in
    (x, is_ground x c.args.machine.now c.args.outputs.now c.args.work.now c.args.node ok _ _ c.args.above c.place_of-place.result c.place_of-place.ensures (λ i. c.args.work.now.text) low)

pub returns-clause-work : goal.returns-clause-work
returns-clause-work c = λ x ok.
    let w = c.args.work.now in
    let low = subst (λ (t : RulesView). c.args.above < length t.ancestors.states) ok.machine.parts.are_rules.told c.requires.above in
    let ground = is_ground x c.args.machine.now c.args.outputs.now w c.args.node ok _ _ c.args.above c.place_of-place.result c.place_of-place.ensures (λ i. w.text) low in
    let put = c.put_named.ensures in
    work_filled x c.args.machine.now c.args.outputs.now w ok.work c.put_named.new.sets (beside_there c.place_of-place.result c.args.machine.now.output c.args.outputs.now c.place_of-place.ensures.output c.place_of-place.ensures.outputs w.sets c.put_named.new.sets put.same) c.put_named.new.named (c.put_named.auto.named ∙ ap length c.as_mut_slice.ensures.value) (λ k d l. put.named.sizes k d l ∙ ground.size)

pub returns-clause-called : goal.returns-clause-called
returns-clause-called c = λ x ok k.
    let w = c.args.work.now in
    let n = c.args.node in
    let held = c.args.outputs.now in
    let low = subst (λ (t : RulesView). c.args.above < length t.ancestors.states) ok.machine.parts.are_rules.told c.requires.above in
    let ground = is_ground x c.args.machine.now held w n ok _ _ c.args.above c.place_of-place.result c.place_of-place.ensures (λ i. w.text) low in
    let put = c.put_named.ensures in
    let back = named_back x c.args.machine.now held w ok.work c.put_named.new.sets (beside_there c.place_of-place.result c.args.machine.now.output c.args.outputs.now c.place_of-place.ensures.output c.place_of-place.ensures.outputs w.sets c.put_named.new.sets put.same) c.put_named.new.named (c.put_named.auto.named ∙ ap length c.as_mut_slice.ensures.value) (λ j d l. put.named.sizes j d l ∙ ground.size)
    in
    subst (λ (ms : List Matrix). IsCalled x (node_of (letter_of n.letter).kind) (below_node x held n c.args.above) (called_from ms) k) (sym back)
    (called_on x c.args.machine.now held w n ok _ _ c.args.above c.place_of-place.result c.place_of-place.ensures c.put_named.new.named k (put.called x k ground))

pub put_named-requires-clause-order : goal.put_named-requires-clause-order
put_named-requires-clause-order c =
    let (x, ok) = c.requires.grounds in
    let names : (told c.place_of-place.result.rules.now).sheet.named ≡ (sheet x).named = ap (λ (r : Rules). (told r).sheet.named) c.place_of-place.ensures.rules ∙ ap (λ (v : RulesView). v.sheet.named) ok.machine.parts.are_rules.told in
    subst (λ (os : List ℕ). AreCalleesFirst (told c.place_of-place.result.rules.now).sheet.named os) (sym c.as_slice.ensures.value) (subst (λ (bs : List Body). AreCalleesFirst bs c.args.machine.now.order.items) (sym names) ok.machine.order)

pub put_named-requires-clause-named : goal.put_named-requires-clause-named
put_named-requires-clause-named c =
    let (x, ok) = c.requires.grounds in
    let names : (told c.place_of-place.result.rules.now).sheet.named ≡ (sheet x).named = ap (λ (r : Rules). (told r).sheet.named) c.place_of-place.ensures.rules ∙ ap (λ (v : RulesView). v.sheet.named) ok.machine.parts.are_rules.told in
    let low = subst (λ (t : RulesView). c.args.above < length t.ancestors.states) ok.machine.parts.are_rules.told c.requires.above in
    let ground = is_ground x c.args.machine.now c.args.outputs.now c.args.work.now c.args.node ok _ _ c.args.above c.place_of-place.result c.place_of-place.ensures (λ i. c.args.work.now.text) low in
    let n = c.place_of-place.result.text.now.size in
    record {
      count = ap length c.as_mut_slice.ensures.value ∙ (ok.work.named_count ∙ ap length (sym names));
      sizes = subst (λ (ms : List Matrix). All (λ (m : Matrix). m.size ≡ n) ms) (sym c.as_mut_slice.ensures.value) (λ k d l. ok.work.named k d l ∙ sym ground.size);
    }

pub put_named-requires-clause-sets : goal.put_named-requires-clause-sets
put_named-requires-clause-sets c =
    let (x, ok) = c.requires.grounds in
    let m = c.args.machine.now in
    let w = c.args.work.now in
    let made = c.place_of-place.ensures in
    let p = c.place_of-place.result in
    let names : (told p.rules.now).sheet.named ≡ (sheet x).named = ap (λ (r : Rules). (told r).sheet.named) made.rules ∙ ap (λ (v : RulesView). v.sheet.named) ok.machine.parts.are_rules.told in
    let deep = ap deepest names in
    let depth = ok.machine.depth in
    open_for x m c.args.outputs.now w ok.work ok.machine w.sets (beside_self m.output c.args.outputs.now w.sets) p made.text made.output made.outputs (deepest (told p.rules.now).sheet.named) (omega (arith, deep, depth))
