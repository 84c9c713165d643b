use Rattle.std.proofs.Common.{◌+◌, ◌++◌, ◌∷◌, [], ap, ◌∙◌, List, arith, append_assoc}
use Rattle.tc_auto.specs.declared.rows.Row.{Row}
use Rattle.tc_auto.proofs.RowLists.{rows_more}
use Rattle.tc_auto.proofs.rows.push_rows.Goals as goal

pub loop-state-preserved : goal.loop-state-preserved
loop-state-preserved c =
    let old = c.loop-state.invariant in (
      old.0 ++ (c.in_ok-row_of.field-0 ∷ []),
      c.in_ok-push.ensures.items ∙ (ap (λ (w : List Row). w ++ (c.in_ok-row_of.field-0 ∷ [])) old.1 ∙ append_assoc c.args.rows.now.items old.0 (c.in_ok-row_of.field-0 ∷ [])),
      rows_more c.args.part.now c.args.base c.loop-state.state (c.loop-state.state + 1) old.0 c.in_ok-row_of.field-0 (omega arith) old.2 c.in_ok-row_of.ensures,
    )
