use Rattle.tc_mat.proofs.Sets.{one_form}
use Rattle.tc_mat.proofs.matrices.sets_have_one_form.Goals as goal

pub returns : goal.returns
returns c = one_form
