use Rattle.std.proofs.Common.{◌≡◌, ◌≤◌, ◌∙◌, ◌++◌, List, length, map, ap, refl}
use Rattle.std.specs.Borrow.{Bor}
use Rattle.std.proofs.lemmas.Result.{IfOk-from_err}
use Rattle.tc_model.specs.Numberings.{predicates_of}
use Rattle.tc_model.specs.Views as see
use Rattle.tc_model.specs.declared.sheet.Path.{Path}
use Rattle.tc_rules.specs.Faults.{IsCause}
use Rattle.tc_rules.specs.MoveTables.{IsPathsCause}
use Rattle.tc_rules.specs.Rows.{graph, graphs}
use Rattle.tc_rules.specs.Selects.{paths_of}
use Rattle.tc_rules.specs.Views.{looks, predicates}
use Rattle.tc_rules.specs.declared.walk.Move.{Move}
use Rattle.tc_rules.proofs.Built.{paths_are, few_tests, handed_on, ancestor_cause, select_cause, asked_cause, above_is, selected_are, within_predicates, within_ancestors, within_selects, rules_built}
use Rattle.tc_rules.proofs.rules.Rules.over.Goals as goal

pub asked_of-requires : goal.asked_of-requires
asked_of-requires c = record {
  sheet = c.requires.sheet;
  used = c.requires.used;
  numbered = ap predicates c.deref.ensures.value ∙ c.requires.predicates;
}

pub ancestors_of-requires : goal.ancestors_of-requires
ancestors_of-requires c = c.requires.sets

pub selected_of-requires : goal.selected_of-requires
selected_of-requires c = c.requires.sets

pub returns-in_err-above-clause-cause : goal.returns-in_err-above-clause-cause
returns-in_err-above-clause-cause c = λ symbols src.
    let x = see.sheet c.args.sheet.now in
    let few : length (predicates_of x) ≤ 6 = few_tests x c.args.source.predicates.items c.requires.predicates c.requires.few in
    handed_on c.from_residual.result c.in_err-above.field-0.0 _ _ c.from_residual.ensures.1 (ancestor_cause symbols x c.args.source src c.requires.predicates few) c.in_err-above.ensures.cause

pub returns-in_err-asked-clause-cause : goal.returns-in_err-asked-clause-cause
returns-in_err-asked-clause-cause c = λ symbols src.
    let x = see.sheet c.args.sheet.now in
    let few : length (predicates_of x) ≤ 6 = few_tests x c.args.source.predicates.items c.requires.predicates c.requires.few in
    handed_on c.from_residual-in_err-asked.result c.in_err-asked.field-0.0 (IsPathsCause (paths_of x)) (IsCause symbols x) c.from_residual-in_err-asked.ensures.1
    (λ e k. select_cause symbols x c.args.source src c.requires.predicates few (graph c.in_ok-above.above) (c.in_ok-above.ensures.graph symbols src) c.in_ok-above.ensures.few (paths_of x) refl e (asked_cause c.args.source (paths_of x) e k))
    c.in_err-asked.ensures.cause

pub returns-in_err-selected-clause-cause : goal.returns-in_err-selected-clause-cause
returns-in_err-selected-clause-cause c = λ symbols src.
    let x = see.sheet c.args.sheet.now in
    let asked = c.in_ok-asked.asked in
    let paths : map (λ (m : Move). see.path m.path.now) c.deref-2.result.now ++ looks c.deref-3.result.now ≡ paths_of x =
    paths_are x c.args.sheet.now.modes asked.moves.items (looks asked.looks.items) (map (λ (m : Move). see.path m.path.now) c.deref-2.result.now ++ looks c.deref-3.result.now) c.in_ok-asked.ensures.moves c.in_ok-asked.ensures.looks
    (ap (λ (ms : List Move). map (λ (m : Move). see.path m.path.now) ms ++ looks c.deref-3.result.now) c.deref-2.ensures.value
    ∙ ap (λ (ps : List (Bor Path)). map (λ (m : Move). see.path m.path.now) asked.moves.items ++ looks ps) c.deref-3.ensures.value) in
    let few : length (predicates_of x) ≤ 6 = few_tests x c.args.source.predicates.items c.requires.predicates c.requires.few in
    handed_on c.from_residual-in_err-selected.result c.in_err-selected.field-0.0 _ (IsCause symbols x) c.from_residual-in_err-selected.ensures.1
    (select_cause symbols x c.args.source src c.requires.predicates few (graph c.in_ok-above.above) (c.in_ok-above.ensures.graph symbols src) c.in_ok-above.ensures.few
    (map (λ (m : Move). see.path m.path.now) c.deref-2.result.now ++ looks c.deref-3.result.now) paths)
    c.in_err-selected.ensures.cause

pub returns-clause-rules : goal.returns-clause-rules
returns-clause-rules c = λ symbols src with_symbols.
    let x = see.sheet c.args.sheet.now in
    let asked = c.in_ok-asked.asked in
    let paths : map (λ (m : Move). see.path m.path.now) c.deref-2.result.now ++ looks c.deref-3.result.now ≡ paths_of x =
    paths_are x c.args.sheet.now.modes asked.moves.items (looks asked.looks.items) (map (λ (m : Move). see.path m.path.now) c.deref-2.result.now ++ looks c.deref-3.result.now) c.in_ok-asked.ensures.moves c.in_ok-asked.ensures.looks
    (ap (λ (ms : List Move). map (λ (m : Move). see.path m.path.now) ms ++ looks c.deref-3.result.now) c.deref-2.ensures.value
    ∙ ap (λ (ps : List (Bor Path)). map (λ (m : Move). see.path m.path.now) asked.moves.items ++ looks ps) c.deref-3.ensures.value) in
    let states = c.in_ok-selected.selected in
    let above = above_is symbols x c.args.source src c.requires.predicates (graph c.in_ok-above.above) c.in_ok-above.ensures.graph in
    let selected =
    selected_are symbols x c.args.source src c.requires.predicates (map (λ (m : Move). see.path m.path.now) c.deref-2.result.now ++ looks c.deref-3.result.now) (graphs states.graphs.items) paths
    c.in_ok-selected.ensures.graphs in
    rules_built symbols _ c.requires.sheet with_symbols c.requires.predicates c.requires.few c.in_ok-asked.ensures.bodies c.in_ok-asked.ensures.eaches above c.in_ok-above.ensures.few
    c.in_ok-asked.ensures.moves c.in_ok-asked.ensures.looks selected c.in_ok-selected.ensures.few c.in_ok-asked.ensures.jobs c.in_ok-selected.ensures.selects c.in_ok-selected.ensures.starts
    c.in_ok-asked.ensures.modes c.in_ok-asked.ensures.numbers c.in_ok-selected.ensures.ending

pub returns-clause-within : goal.returns-clause-within
returns-clause-within c = λ symbols src.
    let x = see.sheet c.args.sheet.now in
    let asked = c.in_ok-asked.asked in
    let paths : map (λ (m : Move). see.path m.path.now) c.deref-2.result.now ++ looks c.deref-3.result.now ≡ paths_of x =
    paths_are x c.args.sheet.now.modes asked.moves.items (looks asked.looks.items) (map (λ (m : Move). see.path m.path.now) c.deref-2.result.now ++ looks c.deref-3.result.now) c.in_ok-asked.ensures.moves c.in_ok-asked.ensures.looks
    (ap (λ (ms : List Move). map (λ (m : Move). see.path m.path.now) ms ++ looks c.deref-3.result.now) c.deref-2.ensures.value
    ∙ ap (λ (ps : List (Bor Path)). map (λ (m : Move). see.path m.path.now) asked.moves.items ++ looks ps) c.deref-3.ensures.value) in
    let few : length (predicates_of x) ≤ 6 = few_tests x c.args.source.predicates.items c.requires.predicates c.requires.few in
    let states = c.in_ok-selected.selected in
    let above = above_is symbols x c.args.source src c.requires.predicates (graph c.in_ok-above.above) c.in_ok-above.ensures.graph in
    let selected =
    selected_are symbols x c.args.source src c.requires.predicates (map (λ (m : Move). see.path m.path.now) c.deref-2.result.now ++ looks c.deref-3.result.now) (graphs states.graphs.items) paths
    c.in_ok-selected.ensures.graphs in (
      within_predicates symbols x few,
      within_ancestors symbols x (graph c.in_ok-above.above) above c.in_ok-above.ensures.few,
      within_selects symbols x (graphs states.graphs.items) selected c.in_ok-selected.ensures.few,
    )

pub returns-in_err-above-clause-sheet : goal.returns-in_err-above-clause-sheet
returns-in_err-above-clause-sheet c = IfOk-from_err c.from_residual.result _ c.from_residual.ensures.0

pub returns-in_err-above-clause-rules : goal.returns-in_err-above-clause-rules
returns-in_err-above-clause-rules c = λ symbols src with_symbols. IfOk-from_err c.from_residual.result _ c.from_residual.ensures.0

pub returns-in_err-above-clause-within : goal.returns-in_err-above-clause-within
returns-in_err-above-clause-within c = λ symbols src. IfOk-from_err c.from_residual.result _ c.from_residual.ensures.0

pub returns-in_err-asked-clause-sheet : goal.returns-in_err-asked-clause-sheet
returns-in_err-asked-clause-sheet c = IfOk-from_err c.from_residual-in_err-asked.result _ c.from_residual-in_err-asked.ensures.0

pub returns-in_err-asked-clause-rules : goal.returns-in_err-asked-clause-rules
returns-in_err-asked-clause-rules c = λ symbols src with_symbols. IfOk-from_err c.from_residual-in_err-asked.result _ c.from_residual-in_err-asked.ensures.0

pub returns-in_err-asked-clause-within : goal.returns-in_err-asked-clause-within
returns-in_err-asked-clause-within c = λ symbols src. IfOk-from_err c.from_residual-in_err-asked.result _ c.from_residual-in_err-asked.ensures.0

pub returns-in_err-selected-clause-sheet : goal.returns-in_err-selected-clause-sheet
returns-in_err-selected-clause-sheet c = IfOk-from_err c.from_residual-in_err-selected.result _ c.from_residual-in_err-selected.ensures.0

pub returns-in_err-selected-clause-rules : goal.returns-in_err-selected-clause-rules
returns-in_err-selected-clause-rules c = λ symbols src with_symbols. IfOk-from_err c.from_residual-in_err-selected.result _ c.from_residual-in_err-selected.ensures.0

pub returns-in_err-selected-clause-within : goal.returns-in_err-selected-clause-within
returns-in_err-selected-clause-within c = λ symbols src. IfOk-from_err c.from_residual-in_err-selected.result _ c.from_residual-in_err-selected.ensures.0
