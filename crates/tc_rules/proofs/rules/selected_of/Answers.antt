use Rattle.std.proofs.Common.{◌∙◌, List, ap}
use Rattle.std.proofs.lemmas.Result.{IfOk-from_err}
use Rattle.tc_rules.specs.Rows.{graphs}
use Rattle.tc_rules.specs.Selects.{selects_from, starts_from}
use Rattle.tc_rules.specs.declared.graph.Graph.{Graph}
use Rattle.tc_rules.proofs.Built.{handed_on}
use Rattle.tc_rules.proofs.rules.selected_of.Goals as goal

pub select_graphs-requires : goal.select_graphs-requires
select_graphs-requires c = c.requires

pub returns-in_err-graphs-clause-cause : goal.returns-in_err-graphs-clause-cause
returns-in_err-graphs-clause-cause c =
    handed_on c.from_residual.result c.in_err-graphs.field-0.0 _ _ c.from_residual.ensures.1 (λ e k. k) c.in_err-graphs.ensures.cause

pub returns-clause-graphs : goal.returns-clause-graphs
returns-clause-graphs c = c.in_ok-graphs.ensures.graphs

pub returns-clause-selects : goal.returns-clause-selects
returns-clause-selects c = c.in_ok-selects.ensures ∙ ap (λ (gs : List Graph). selects_from 0 (graphs gs)) c.deref.ensures.value

pub returns-clause-starts : goal.returns-clause-starts
returns-clause-starts c = c.in_ok-starts.ensures ∙ ap (λ (gs : List Graph). starts_from 0 (graphs gs)) c.deref-2.ensures.value

pub returns-clause-few : goal.returns-clause-few
returns-clause-few c = c.in_ok-graphs.ensures.few

pub returns-clause-ending : goal.returns-clause-ending
returns-clause-ending c = c.in_ok-graphs.ensures.ending

pub returns-clause-cause : goal.returns-clause-cause
returns-clause-cause c = tt

pub returns-in_err-graphs-clause-graphs : goal.returns-in_err-graphs-clause-graphs
returns-in_err-graphs-clause-graphs c = IfOk-from_err c.from_residual.result _ c.from_residual.ensures.0

pub returns-in_err-graphs-clause-few : goal.returns-in_err-graphs-clause-few
returns-in_err-graphs-clause-few c = IfOk-from_err c.from_residual.result _ c.from_residual.ensures.0

pub returns-in_err-graphs-clause-ending : goal.returns-in_err-graphs-clause-ending
returns-in_err-graphs-clause-ending c = IfOk-from_err c.from_residual.result _ c.from_residual.ensures.0

pub returns-in_err-graphs-clause-selects : goal.returns-in_err-graphs-clause-selects
returns-in_err-graphs-clause-selects c = IfOk-from_err c.from_residual.result _ c.from_residual.ensures.0

pub returns-in_err-graphs-clause-starts : goal.returns-in_err-graphs-clause-starts
returns-in_err-graphs-clause-starts c = IfOk-from_err c.from_residual.result _ c.from_residual.ensures.0

pub returns-in_err-selects-clause-graphs : goal.returns-in_err-selects-clause-graphs
returns-in_err-selects-clause-graphs c = IfOk-from_err c.from_residual-in_err-selects.result _ c.from_residual-in_err-selects.ensures.0

pub returns-in_err-selects-clause-few : goal.returns-in_err-selects-clause-few
returns-in_err-selects-clause-few c = IfOk-from_err c.from_residual-in_err-selects.result _ c.from_residual-in_err-selects.ensures.0

pub returns-in_err-selects-clause-ending : goal.returns-in_err-selects-clause-ending
returns-in_err-selects-clause-ending c = IfOk-from_err c.from_residual-in_err-selects.result _ c.from_residual-in_err-selects.ensures.0

pub returns-in_err-selects-clause-selects : goal.returns-in_err-selects-clause-selects
returns-in_err-selects-clause-selects c = IfOk-from_err c.from_residual-in_err-selects.result _ c.from_residual-in_err-selects.ensures.0

pub returns-in_err-selects-clause-starts : goal.returns-in_err-selects-clause-starts
returns-in_err-selects-clause-starts c = IfOk-from_err c.from_residual-in_err-selects.result _ c.from_residual-in_err-selects.ensures.0

pub returns-in_err-starts-clause-graphs : goal.returns-in_err-starts-clause-graphs
returns-in_err-starts-clause-graphs c = IfOk-from_err c.from_residual-in_err-starts.result _ c.from_residual-in_err-starts.ensures.0

pub returns-in_err-starts-clause-few : goal.returns-in_err-starts-clause-few
returns-in_err-starts-clause-few c = IfOk-from_err c.from_residual-in_err-starts.result _ c.from_residual-in_err-starts.ensures.0

pub returns-in_err-starts-clause-ending : goal.returns-in_err-starts-clause-ending
returns-in_err-starts-clause-ending c = IfOk-from_err c.from_residual-in_err-starts.result _ c.from_residual-in_err-starts.ensures.0

pub returns-in_err-starts-clause-selects : goal.returns-in_err-starts-clause-selects
returns-in_err-starts-clause-selects c = IfOk-from_err c.from_residual-in_err-starts.result _ c.from_residual-in_err-starts.ensures.0

pub returns-in_err-starts-clause-starts : goal.returns-in_err-starts-clause-starts
returns-in_err-starts-clause-starts c = IfOk-from_err c.from_residual-in_err-starts.result _ c.from_residual-in_err-starts.ensures.0
