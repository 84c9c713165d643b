use Rattle.tc_alpha.proofs.Compared.{cmp_is, eq_is}
use Rattle.tc_alpha.proofs.Sorting.{sorted_once}
use Rattle.tc_alpha.proofs.alphabet.put_in_order.Goals as goal

pub returns : goal.returns
returns c = sorted_once _ _ cmp_is eq_is _ _ _ c.sort_unstable.ensures.permutation c.sort_unstable.ensures.sorted c.dedup.ensures.filtered
