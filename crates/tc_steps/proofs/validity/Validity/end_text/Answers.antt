use Rattle.tc_steps.proofs.OpenLaws.{no_text_within, no_path_within}
use Rattle.tc_steps.proofs.validity.Validity.end_text.Goals as goal

pub returns-then-not-self-clause-within : goal.returns-then-not-self-clause-within
returns-then-not-self-clause-within c = λ x path run w. no_text_within w c.if-not-self.true

pub returns-then-self-eq0-clause-within : goal.returns-then-self-eq0-clause-within
returns-then-self-eq0-clause-within c = λ x path run w. no_path_within w c.if-self-eq0.true
