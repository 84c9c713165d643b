use Rattle.std.proofs.Common.{◌++◌, ◌∙◌, ap, sym}
use Rattle.std.proofs.lemmas.List.{append-nil}
use Rattle.tc_model.specs.Numberings as n
use Rattle.tc_model.specs.Views as see
use Rattle.tc_rules.specs.Views.{predicates}
use Rattle.tc_rules.proofs.Steps.{then_on_ok}
use Rattle.tc_rules.proofs.walk.predicates_in_pattern.Goals as goal

pub returns-in-Root : goal.returns-in-Root
returns-in-Root c =
    sym (ap (λ p. predicates c.args.found.now.items ++ n.predicates_in_pattern (see.match_pattern p)) c.in-Root.is ∙ append-nil (predicates c.args.found.now.items))

pub returns-in-Steps : goal.returns-in-Steps
returns-in-Steps c =
    then_on_ok c.predicates_in_steps.result _ _ (λ put. put ∙ ap (λ p. predicates c.args.found.now.items ++ n.predicates_in_pattern (see.match_pattern p)) (sym c.in-Steps.is)) c.predicates_in_steps.ensures
