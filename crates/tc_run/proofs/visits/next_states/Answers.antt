use Rattle.tc_rules.proofs.Counts.{some_move_counted}
use Rattle.tc_rules.specs.declared.rules.Kind.TheVariants as kinds
use Rattle.tc_run.specs.Running.{symbols_by, told_by}
use Rattle.tc_run.proofs.Visiting.{letter_met, next_for}
use Rattle.tc_run.proofs.visits.next_states.Goals as goal

pub sel_step-requires : goal.sel_step-requires
sel_step-requires c = some_move_counted (told_by c.args.runner.now) c.args.state c.requires.state

pub returns-in-Text : goal.returns-in-Text
returns-in-Text c = next_for c.args.runner.now c.args.state c.args.above c.args.kind c.args.marks _ kinds.Text c.in-Text.is tt

pub returns-in-Elem : goal.returns-in-Elem
returns-in-Elem c =
    let r = c.args.runner.now in
    let x = kinds.Elem c.in-Elem.sym in
    let lx = letter_met r c.args.above c.args.kind c.args.marks x c.in-Elem.is c.requires.met in
    next_for r c.args.state c.args.above c.args.kind c.args.marks _ x c.in-Elem.is (record {
      above = c.anc_step.ensures (symbols_by r) c.requires.met.runner lx;
      state = λ b y at. c.sel_step.ensures (symbols_by r) b y c.requires.met.runner lx at;
    })
