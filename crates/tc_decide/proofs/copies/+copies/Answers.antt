use Rattle.tc_decide.proofs.CopiedTrees.{copied_more, copied_elem}
use Rattle.tc_decide.proofs.copies.+copies.Goals as goal

pub copied-returns-in_ok-kids-in-Elem : goal.copied-returns-in_ok-kids-in-Elem
copied-returns-in_ok-kids-in-Elem t c = copied_elem c.args.node.now c.in-Elem.name c.in_ok-name-in-Elem.name c.in-Elem.kids c.in_ok-kids-in-Elem.kids c.in-Elem.is c.in_ok-name-in-Elem.ensures c.in_ok-kids-in-Elem.ensures

pub copied_all-loop-node-preserved : goal.copied_all-loop-node-preserved
copied_all-loop-node-preserved t c =
    copied_more c.args.nodes.now c.loop-node.made.items c.push.new.self.items c.loop-node.node-index c.in_ok-copied.field-0 c.node-item.result c.loop-node-test.true c.node-item.is c.in_ok-push.ensures.items c.in_ok-copied.ensures c.loop-node.invariant
