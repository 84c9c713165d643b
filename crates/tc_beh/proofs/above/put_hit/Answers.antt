use Rattle.std.proofs.Common.{sym, ◌∙◌}
use Rattle.tc_model.specs.StateCounts.{PathUse}
use Rattle.tc_rules.specs.RulesView.{ancestor}
use Rattle.tc_rules.specs.States.{body_by}
use Rattle.tc_rows.specs.Triples.{sheet, predicates}
use Rattle.tc_beh.specs.Above.{letter_of}
use Rattle.tc_beh.specs.Places.{kind_of, below_of}
use Rattle.tc_beh.proofs.Hitting.{of_move, select_low, state_told, hit_told, lettered, hit_none, hit_some, meant_on}
use Rattle.tc_rules.specs.Kept.{told}
use Rattle.tc_beh.specs.Templates.{depth_of, depth_of_sheet}
use Rattle.tc_beh.proofs.OpenLaws.{beside_self, open_less}
use Rattle.tc_beh.proofs.above.put_hit.Goals as goal

pub sel_hits-requires : goal.sel_hits-requires
sel_hits-requires c = let (x, is, lx) = c.requires.letter in select_low x c.args.place.now.rules.now is.rules c.args.state c.requires.state

pub returns-then-not-sel_hits-clause-pairs : goal.returns-then-not-sel_hits-clause-pairs
returns-then-not-sel_hits-clause-pairs c = λ x g q is called lx at meant.
    let p = c.args.place.now in
    let r = p.rules.now in
    let l = letter_of c.args.letter in
    let b : PathUse = of_move g.path at.mode in
    let same = c.sel_hits.ensures x.symbols b g.state is.place.rules.rules (lettered x r is.place.rules l lx) (state_told x r is.place.rules c.args.state b g.state at.state) in
    hit_none x p is.place c.args.sets.now.out g q l (kind_of p.node) (below_of x p) c.requires.sets.size
    (sym (hit_told x r is.place.rules b g.state l) ∙ (sym same ∙ c.if-not-sel_hits.true))

pub returns-clause-pairs : goal.returns-clause-pairs
returns-clause-pairs c = λ x g q is called lx at meant.
    let p = c.args.place.now in
    let r = p.rules.now in
    let l = letter_of c.args.letter in
    let b : PathUse = of_move g.path at.mode in
    let st = state_told x r is.place.rules c.args.state b g.state at.state in
    let same = c.sel_hits.ensures x.symbols b g.state is.place.rules.rules (lettered x r is.place.rules l lx) st in
    let body = body_by x.symbols (predicates x) (sheet x).rules x.bodies g.task (ancestor x.rules q) l in
    hit_some x p is.place c.args.sets.now.out c.put_template.new.sets.out g q l (kind_of p.node) (below_of x p)
    (sym (hit_told x r is.place.rules b g.state l) ∙ (sym same ∙ c.if-not-sel_hits.false))
    (c.put_template.ensures.pairs x body is called (meant_on (sheet x).named l.kind (kind_of p.node) c.args.template body c.requires.node meant))

pub returns-then-not-sel_hits-clause-same : goal.returns-then-not-sel_hits-clause-same
returns-then-not-sel_hits-clause-same c = beside_self c.args.place.now.output.now c.args.place.now.outputs.now c.args.sets.now

pub put_template-requires-clause-sets : goal.put_template-requires-clause-sets
put_template-requires-clause-sets c = open_less c.args.place.now (depth_of c.args.template) (depth_of_sheet (told c.args.place.now.rules.now).sheet) c.args.sets.now c.requires.sets c.requires.depth
