use Rattle.std.proofs.Common.{arith}
use Rattle.tc_decide.proofs.Compared.{tells_smaller_first, tells_smaller_second}
use Rattle.tc_decide.proofs.comparing.smaller_of.Goals as goal

pub returns-then-count_nodes : goal.returns-then-count_nodes
returns-then-count_nodes c = λ x y w k m.
    tells_smaller_second x y w _ _ (omega (arith, c.if-count_nodes.true, c.count_nodes.ensures, c.count_nodes-2.ensures)) k m

pub returns-else-count_nodes : goal.returns-else-count_nodes
returns-else-count_nodes c = λ x y w k m.
    tells_smaller_first x y w _ _ (λ less. omega (arith, less, c.if-count_nodes.false, c.count_nodes.ensures, c.count_nodes-2.ensures)) k m
