use Rattle.std.proofs.Common.{◌∙◌, sym, ap}
use Rattle.tc_model.specs.Views as seen
use Rattle.tc_model.proofs.ViewsGrammar as made
use Rattle.tc_rnc.specs.Views as see
use Rattle.tc_rnc.proofs.Views.{see_group, see_choice}
use Rattle.tc_simple.specs.Becoming.{among}
use Rattle.tc_simple.proofs.Below.{among_others}
use Rattle.tc_simple.proofs.becomes.among.Goals as goal

pub returns-in-Group : goal.returns-in-Group
returns-in-Group c = made.see_group _ ∙ sym (ap (λ z. among z (seen.patterns c.args.parts.now)) (ap see.pattern c.in-Group.is ∙ see_group _))

pub returns-in-Choice : goal.returns-in-Choice
returns-in-Choice c = made.see_choice _ ∙ sym (ap (λ z. among z (seen.patterns c.args.parts.now)) (ap see.pattern c.in-Choice.is ∙ see_choice _))

pub returns-in_default : goal.returns-in_default
returns-in_default c = made.see_interleave _ ∙ sym (among_others (seen.patterns c.args.parts.now) c.args.syntax.now c.in_default.not-Group c.in_default.not-Choice)
