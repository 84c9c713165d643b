use Rattle.std.proofs.Common.{◌∙◌, sym}
use Rattle.tc_decide.specs.Nothing.{no_schema, no_rules}
use Rattle.tc_decide.proofs.Nothing.{schema_alone}
use Rattle.tc_decide.proofs.validating.judge_tree.Goals as goal
use Rattle.tc_model.specs.Trees.{none}
use Rattle.tc_model.specs.Views as see

pub returns-in-Some : goal.returns-in-Some
returns-in-Some c = λ x is. (
  is.within_limits,
  c.is_valid.ensures x c.in_ok-judge.judge (see.before c.args.document.now none) is.start (c.in_ok-judge.ensures x no_schema no_rules is.automaton (is.symbols ∙ sym (schema_alone x))) c.in-Some.ensures c.requires,
)
