use Rattle.tc_sets.proofs.Bits.{empty_told}
use Rattle.tc_sets.proofs.sets.Set.is_empty.Goals as goal

pub returns : goal.returns
returns c = empty_told c.args.self.now c.self.inside.n c.self.inside.words.items c.deref.result.now c.self.view_is c.deref.ensures.value c.self.invariant c.are_zero.ensures
