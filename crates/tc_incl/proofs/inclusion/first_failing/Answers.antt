use Rattle.std.proofs.Common.{subst, arith, MatchBool}
use Rattle.tc_incl.specs.Covers.{held_of}
use Rattle.tc_incl.proofs.inclusion.first_failing.Goals as goal

pub returns-then-fails : goal.returns-then-fails
returns-then-fails g c =
    let of = g.K.Over.is_of in
    let s = c.args.covers.now in
    let t = c.loop-tree.tree in
    record {
      held = omega (arith, c.loop-tree-test.true, c.tree_count-tree-end.ensures);
      fails = subst (λ b. MatchBool b ((held_of of s).fails t) ((held_of of s).passes t)) c.if-fails.true c.fails.ensures;
      before = c.loop-tree.invariant;
    }
