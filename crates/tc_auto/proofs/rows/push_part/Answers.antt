use Rattle.std.proofs.Common.{refl}
use Rattle.tc_model.specs.Views.{pattern}
use Rattle.tc_model.specs.States.{automaton}
use Rattle.tc_model.proofs.StatesExact.{sound}
use Rattle.tc_auto.proofs.Shown.{within}
use Rattle.tc_auto.proofs.RowLists.{rows_for}
use Rattle.tc_auto.proofs.rows.push_part.Goals as goal

pub push_rows-requires-clause-within : goal.push_rows-requires-clause-within
push_rows-requires-clause-within c = within _ (sound (pattern c.args.pat.now)) _ c.in_ok-part.ensures

pub returns : goal.returns
returns c =
    let added = c.in_ok-push_rows.ensures in
    (added.0, added.1, rows_for (automaton (pattern c.args.pat.now)) _ c.args.base _ added.0 c.in_ok-part.ensures refl added.2)
