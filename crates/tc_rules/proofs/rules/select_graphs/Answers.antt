use Rattle.std.proofs.Common.{◌≡◌, ◌∙◌, ◌++◌, List, ap, subst, map, IfErr, IfOk}
use Rattle.std.proofs.lemmas.Result.{IfOk-from_err}
use Rattle.tc_model.specs.Views as see
use Rattle.tc_model.specs.Symbols.{Mention}
use Rattle.tc_rules.specs.Classes.{IsSourceOf}
use Rattle.tc_rules.specs.Rows.{graphs}
use Rattle.tc_rules.specs.Selects.{AreGraphs, IsSelectCause}
use Rattle.tc_rules.specs.Views.{looks, predicates}
use Rattle.tc_rules.proofs.rules.select_graphs.Goals as goal

pub returns-in_err-paths-clause-graphs : goal.returns-in_err-paths-clause-graphs
returns-in_err-paths-clause-graphs c = IfOk-from_err c.from_residual.result _ c.from_residual.ensures.0

pub returns-in_err-paths-clause-few : goal.returns-in_err-paths-clause-few
returns-in_err-paths-clause-few c = IfOk-from_err c.from_residual.result _ c.from_residual.ensures.0

pub returns-in_err-paths-clause-ending : goal.returns-in_err-paths-clause-ending
returns-in_err-paths-clause-ending c = IfOk-from_err c.from_residual.result _ c.from_residual.ensures.0

pub graphs_of-requires : goal.graphs_of-requires
graphs_of-requires c = c.requires

pub returns-clause-graphs : goal.returns-clause-graphs
returns-clause-graphs c =
    let here : looks c.deref.result.now ≡ map (λ m. see.path m.path.now) c.args.moves.now ++ looks c.args.looks.now = ap looks c.deref.ensures.value ∙ c.in_ok-paths.ensures in
    subst (λ ps. IfOk c.graphs_of.result (λ v. (symbols : List Mention) → IsSourceOf symbols c.args.source.now → AreGraphs symbols (predicates c.args.source.now.predicates.items) ps (graphs v.items))) here c.graphs_of.ensures.graphs

pub returns-clause-few : goal.returns-clause-few
returns-clause-few c = c.graphs_of.ensures.few

pub returns-clause-ending : goal.returns-clause-ending
returns-clause-ending c = c.graphs_of.ensures.ending

pub returns-clause-cause : goal.returns-clause-cause
returns-clause-cause c =
    let here : looks c.deref.result.now ≡ map (λ m. see.path m.path.now) c.args.moves.now ++ looks c.args.looks.now = ap looks c.deref.ensures.value ∙ c.in_ok-paths.ensures in
    subst (λ ps. IfErr c.graphs_of.result (λ e. IsSelectCause c.args.source.now ps e)) here c.graphs_of.ensures.cause
