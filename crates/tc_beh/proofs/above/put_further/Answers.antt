use Rattle.std.proofs.Common.{◌≡◌, true, ◌∙◌, subst}
use Rattle.tc_model.specs.StateCounts.{PathUse}
use Rattle.tc_model.specs.PathStates.{State, is_empty_state}
use Rattle.tc_rules.specs.Asked.{letter}
use Rattle.tc_rules.specs.Kept.{told}
use Rattle.tc_rules.specs.RulesView.{IsStateOf, select_below}
use Rattle.tc_rules.specs.declared.rules.Kind.TheVariants.{Elem}
use Rattle.tc_rules.proofs.Counts.{move_counted}
use Rattle.tc_rows.specs.Triples.{outputs, moving}
use Rattle.tc_rows.specs.PairSets.{listed}
use Rattle.tc_rows.specs.Rows.{entry}
use Rattle.tc_rows.specs.Bodies.{stay}
use Rattle.tc_rows.specs.Arithmetic.{pairs_from, step}
use Rattle.tc_beh.specs.Places.{entries_by}
use Rattle.tc_beh.proofs.Hitting.{of_move, select_low, some_move, state_told, step_told, lettered, pairs_none, pairs_some}
use Rattle.tc_beh.proofs.OpenLaws.{beside_self}
use Rattle.tc_beh.proofs.PutLaws.{put_same, put_nothing}
use Rattle.tc_beh.proofs.above.put_further.Goals as goal

pub sel_step-requires : goal.sel_step-requires
sel_step-requires c = let (x, is, lx) = c.requires.letter in select_low x c.args.place.now.rules.now is.rules c.args.state c.requires.state

pub put_entry-requires-clause-state : goal.put_entry-requires-clause-state
put_entry-requires-clause-state c =
    let r = c.args.place.now.rules.now in
    let (x, is, lx) = c.requires.letter in
    let (g, at) = some_move x r is.rules c.args.state c.requires.state in
    let b : PathUse = of_move g.path at.mode in
    let l = letter (Elem c.args.sym) c.args.marks in
    let there = c.in-Some.ensures x.symbols b g.state is.rules.rules (lettered x r is.rules l lx) (state_told x r is.rules c.args.state b g.state at.state) in
    move_counted (told r) c.in-Some.next at.mode g.path (select_below x.symbols (told r) b g.state l) there

pub returns-in-None-clause-pairs : goal.returns-in-None-clause-pairs
returns-in-None-clause-pairs c = λ x g at is lx.
    let p = c.args.place.now in
    let r = p.rules.now in
    let b : PathUse = of_move g.path at.mode in
    let l = letter (Elem c.args.sym) c.args.marks in
    let there = c.in-None.ensures x.symbols b g.state is.rules.rules (lettered x r is.rules l lx) (state_told x r is.rules c.args.state b g.state at.state) in
    let empty = subst (λ (s : State). is_empty_state s ≡ true) (step_told x r is.rules b g.state l) there in
    let out = c.args.sets.now.out in
    put_same out out (stay x) (pairs_from x (entries_by p.outputs.now.matrices p.entries.now) p.above (moving at.mode g.path (step x g.path g.state l)))
    (pairs_none x p is at.mode g.path (step x g.path g.state l) empty) (put_nothing out (outputs x) (c.requires.sets.size ∙ is.size))

pub returns-in-Some-clause-pairs : goal.returns-in-Some-clause-pairs
returns-in-Some-clause-pairs c = λ x g at is lx.
    let p = c.args.place.now in
    let r = p.rules.now in
    let b : PathUse = of_move g.path at.mode in
    let l = letter (Elem c.args.sym) c.args.marks in
    let there = c.in-Some.ensures x.symbols b g.state is.rules.rules (lettered x r is.rules l lx) (state_told x r is.rules c.args.state b g.state at.state) in
    let stepped = subst (λ (s : State). IsStateOf (told r) c.in-Some.next b s) (step_told x r is.rules b g.state l) there in
    put_same c.args.sets.now.out c.put_entry.new.sets.out (listed (entry x (entries_by p.outputs.now.matrices p.entries.now) p.above c.in-Some.next)) (pairs_from x (entries_by p.outputs.now.matrices p.entries.now) p.above (moving at.mode g.path (step x g.path g.state l)))
    (pairs_some x p is at.mode c.in-Some.next g.path (step x g.path g.state l) stepped) (c.put_entry.ensures.pairs x is)

pub returns-in-None-clause-same : goal.returns-in-None-clause-same
returns-in-None-clause-same c = beside_self c.args.place.now.output.now c.args.place.now.outputs.now c.args.sets.now

pub returns-in-Some-clause-same : goal.returns-in-Some-clause-same
returns-in-Some-clause-same c = c.put_entry.ensures.same
