use Rattle.tc_beh.proofs.Wrapped.{text_marked}
use Rattle.tc_beh.proofs.wrapping.text_letter.Goals as goal

pub returns : goal.returns
returns c = λ x is. text_marked x c.marks.result.0 (c.marks.ensures x is)
