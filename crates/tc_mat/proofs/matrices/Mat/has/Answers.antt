use Rattle.std.proofs.Common.{IsTrue}
use Rattle.tc_mat.proofs.Sets.{has_by_bit}
use Rattle.tc_mat.proofs.matrices.Mat.has.Goals as goal

pub returns : goal.returns
returns c =
    has_by_bit (IsTrue c.is_bit_set.result) c.args.self.now c.self.inside.n c.words_in_row.result c.args.i c.args.j c.deref.result.now c.self.inside.rows.items
    c.self.view_is c.deref.ensures.value c.words_in_row.ensures c.requires.row c.requires.column c.is_bit_set.ensures
