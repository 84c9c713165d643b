use Rattle.std.proofs.Common.{ap, ◌∙◌}
use Rattle.tc_print.proofs.Writing.{normal_form_written}
use Rattle.tc_print.proofs.writer.Writer.into_bytes.Goals as goal

pub returns-clause-printed : goal.returns-clause-printed
returns-clause-printed c = λ h e. ap (λ w. w.bytes) e ∙ normal_form_written h
