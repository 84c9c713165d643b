use Rattle.std.proofs.Common.{◌<◌, ◌≤◌, ◌∙◌, ◌++◌, ◌∷◌, [], Bool, ap, drop, get_or, length, refl, arith, if◌then◌else◌}
use Rattle.std.proofs.lemmas.List.{drop_all}
use Rattle.tc_rules.specs.Rows.{state, words}
use Rattle.tc_rules.specs.Steps.{ending_alternatives}
use Rattle.tc_rules.specs.Words.{bit}
use Rattle.tc_rules.proofs.HitRows.{ending_goes}
use Rattle.tc_rules.proofs.RowStates.{length_cut}
use Rattle.tc_rules.proofs.RowSteps.{begun, ended}
use Rattle.tc_rules.proofs.rows.Row.ending.Goals as goal

pub loop-i-init : goal.loop-i-init
loop-i-init c = begun (ending_alternatives 0 (state c.args.ends.now c.args.self.now)) c.new-ending.result.items c.new-ending.ensures.items

pub loop-i-preserved : goal.loop-i-preserved
loop-i-preserved c =
    let row = state c.args.ends.now c.args.self.now in
    let i = c.loop-i.i in
    let inside : i < length row = omega (arith, c.loop-i-test.true, length_cut (bit (words c.args.self.now)) 0 c.args.ends.now) in
    ending_goes (ending_alternatives 0 row) c.loop-i.ending.items c.add_ending.new.ending.items row i (get_or row i []) inside refl
    (c.in_ok-add_ending.ensures ∙ ap (λ (b : Bool). c.loop-i.ending.items ++ (if b then i ∷ [] else [])) c.has_last-has_last.ensures) c.loop-i.invariant

pub returns : goal.returns
returns c =
    let row = state c.args.ends.now c.args.self.now in
    let i = c.loop-i.i in
    let past : length row ≤ i = omega (arith, c.loop-i-test.false, length_cut (bit (words c.args.self.now)) 0 c.args.ends.now) in
    ended (ending_alternatives 0 row) c.loop-i.ending.items (ending_alternatives i (drop i row)) (ap (ending_alternatives i) (drop_all i row past)) c.loop-i.invariant
