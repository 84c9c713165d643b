use Rattle.std.proofs.Common.{◌≡◌, ◌≤◌, length, get_or, slice_get, Some, subst, arith}
use Rattle.std.proofs.lemmas.Option.{slice_get-get_or}
use Rattle.tc_model.specs.Sheets.{no_instruction}
use Rattle.tc_rules.specs.RulesView.{RulesView}
use Rattle.tc_rows.specs.PairSets.{HaveSamePairs, product}
use Rattle.tc_rows.specs.Bodies.{stay}
use Rattle.tc_rows.specs.Triples.{sheet}
use Rattle.tc_beh.specs.Callees.{AreCalleesFirst}
use Rattle.tc_beh.specs.Putting.{has, put_pairs}
use Rattle.tc_beh.specs.Places.{kind_of, below_of, no_matrix}
use Rattle.tc_beh.specs.Grounds.{called_from}
use Rattle.tc_rules.specs.Kept.{told}
use Rattle.tc_beh.specs.Heights.{deepest}
use Rattle.tc_beh.proofs.OpenLaws.{beside_then, open_on}
use Rattle.tc_beh.proofs.Deepening.{one_more_ready, all_ready}
use Rattle.tc_beh.proofs.Starts.{below_starts}
use Rattle.tc_beh.proofs.named.put_named.Goals as goal

pub loop-number-preserved : goal.loop-number-preserved
loop-number-preserved c =
    let p = c.args.place.now in
    let i = c.loop-number.number-index in
    let order = c.args.order.now in
    let n = get_or order i 0 in
    let old = c.loop-number.named in
    let new = c.put_one_named.new.named in
    let at : slice_get order i ≡ Some n = slice_get-get_or order i 0 c.loop-number-test.true in
    record {
      named = c.put_one_named.ensures.named;
      same = beside_then c.args.place.now.output.now c.args.place.now.outputs.now c.args.sets.now c.loop-number.sets c.put_one_named.new.sets c.loop-number.invariant.same c.put_one_named.ensures.same;
      ready = λ x first ok.
          one_more_ready x (kind_of p.node) (below_of x p) order first (below_starts x p ok) i n old new at (c.loop-number.invariant.ready x first ok) c.put_one_named.ensures.others
          (subst (λ (v : RulesView). HaveSamePairs (has (get_or new n no_matrix)) (product (stay x) (put_pairs x (kind_of p.node) (below_of x p) (called_from old) (get_or v.sheet.named n no_instruction)))) ok.rules.told
          (c.put_one_named.ensures.called x ok));
    }

pub returns-clause-called : goal.returns-clause-called
returns-clause-called c = λ x n ok.
    let p = c.args.place.now in
    let i = c.loop-number.number-index in
    let order = c.args.order.now in
    let first : AreCalleesFirst (sheet x).named order = subst (λ (v : RulesView). AreCalleesFirst v.sheet.named order) ok.rules.told c.requires.order in
    let past : length order ≤ i = let ends = c.loop-number-test.false in omega (arith, ends) in
    all_ready x (kind_of p.node) (below_of x p) order first i c.loop-number.named past (c.loop-number.invariant.ready x first ok) n

pub put_one_named-requires-clause-number : goal.put_one_named-requires-clause-number
put_one_named-requires-clause-number c =
    let i = c.loop-number.number-index in
    c.requires.order.within i (get_or c.args.order.now i 0) (slice_get-get_or c.args.order.now i 0 c.loop-number-test.true)

pub put_one_named-requires-clause-sets : goal.put_one_named-requires-clause-sets
put_one_named-requires-clause-sets c =
    let d = deepest (told c.args.place.now.rules.now).sheet.named in
    open_on c.args.place.now d d c.args.sets.now c.loop-number.sets c.requires.sets c.loop-number.invariant.same (omega arith)

pub returns-clause-same : goal.returns-clause-same
returns-clause-same c = c.loop-number.invariant.same
