use Rattle.tc_sets.proofs.Bits.{one_form}
use Rattle.tc_sets.proofs.sets.sets_have_one_form.Goals as goal

pub returns : goal.returns
returns c = one_form
