use Rattle.std.proofs.Common.{◌≡◌, ◌∙◌, List, ap, arith}
use Rattle.tc_model.specs.Views as see
use Rattle.tc_rules.specs.Classes.{marked_by, path_states}
use Rattle.tc_rules.specs.Rows.{all_words}
use Rattle.tc_rules.specs.declared.rows.Row.{Row}
use Rattle.tc_rules.proofs.GraphRows.{one_set}
use Rattle.tc_rules.proofs.graph.Source.marked.Goals as goal

pub loop-marks-init : goal.loop-marks-init
loop-marks-init c = ap (λ (w : List Row). path_states (see.alternatives c.args.path.now) (all_words w)) c.new-marked.ensures.items

pub loop-marks-preserved : goal.loop-marks-preserved
loop-marks-preserved c =
    ap (λ (w : List Row). path_states (see.alternatives c.args.path.now) (all_words w)) c.in_ok-push.ensures.items
    ∙ one_set c.args.self.now.predicates.items (see.alternatives c.args.path.now) c.loop-marks.marks c.loop-marks.marked.items c.in_ok-row.row c.in_ok-row.ensures.state c.loop-marks.invariant

pub returns : goal.returns
returns c =
    let all : c.loop-marks.marks ≡ c.args.self.now.sets = omega arith in
    c.loop-marks.invariant ∙ ap (marked_by c.args.self.now.predicates.items (see.alternatives c.args.path.now)) all
