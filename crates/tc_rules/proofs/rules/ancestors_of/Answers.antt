use Rattle.std.proofs.Common.{ℕ, ◌<◌, subst, ap, ◌∙◌, length}
use Rattle.tc_model.specs.Views as see
use Rattle.tc_model.specs.Sheets.{Path}
use Rattle.tc_rules.specs.Views.{predicates}
use Rattle.tc_rules.specs.Selects.{all_states_by}
use Rattle.tc_rules.specs.declared.graph.Graph.{Graph}
use Rattle.tc_rules.specs.declared.graph.GraphFault.TheVariants.{TooManyStates}
use Rattle.tc_rules.proofs.Built.{as_error}
use Rattle.tc_rules.proofs.rules.ancestors_of.Goals as goal

pub returns-in-Err-TooManyStates-clause-cause : goal.returns-in-Err-TooManyStates-clause-cause
returns-in-Err-TooManyStates-clause-cause c = λ symbols h.
    subst (λ (p : Path). (n : ℕ) × (64 < length (all_states_by symbols (predicates c.args.source.now.predicates.items) p n)))
    (ap see.alternatives c.deref.ensures.value ∙ c.in_ok-path.ensures)
    (c.in-Err-TooManyStates.ensures.many (as_error Graph c.in-Err-TooManyStates.field-0 TooManyStates c.in-Err-TooManyStates.field-0-is) symbols h)
