use Rattle.tc_rules.proofs.Counts.{some_look_counted}
use Rattle.tc_rules.specs.declared.rules.Kind.TheVariants as kinds
use Rattle.tc_run.specs.Running.{symbols_by, told_by}
use Rattle.tc_run.proofs.Visiting.{letter_told, leads_for}
use Rattle.tc_run.proofs.sights.below.Goals as goal

pub sel_step-requires : goal.sel_step-requires
sel_step-requires c = some_look_counted (told_by c.args.runner.now) c.args.look c.requires.look

pub returns-in-Text : goal.returns-in-Text
returns-in-Text c = leads_for c.args.runner.now c.args.look c.args.kind c.args.marks _ kinds.Text c.in-Text.is tt

pub returns-in-Elem : goal.returns-in-Elem
returns-in-Elem c =
    let r = c.args.runner.now in
    let x = kinds.Elem c.in-Elem.sym in
    let lx = letter_told r c.args.kind c.args.marks x c.in-Elem.is c.requires.letter in
    leads_for r c.args.look c.args.kind c.args.marks _ x c.in-Elem.is (λ b y at. c.sel_step.ensures (symbols_by r) b y c.requires.runner lx at)
