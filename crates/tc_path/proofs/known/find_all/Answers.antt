use Rattle.std.proofs.Common.{◌+◌, map, drop}
use Rattle.tc_model.specs.Views.{bound}
use Rattle.tc_path.proofs.KnownLaws.{next_binding, no_more}
use Rattle.tc_path.proofs.known.find_all.Goals as goal

pub loop-binding-preserved : goal.loop-binding-preserved
loop-binding-preserved c = c.in_ok-find.ensures.ok (map bound c.args.bindings.now) (map bound (drop (c.loop-binding.binding-index + 1) c.args.bindings.now))
    (next_binding (map bound c.args.bindings.now) c.args.bindings.now c.loop-binding.binding-index _ c.loop-binding.known c.loop-binding-test.true c.loop-binding.invariant)

pub returns-clause-ok : goal.returns-clause-ok
returns-clause-ok c = no_more (map bound c.args.bindings.now) c.args.bindings.now c.loop-binding.binding-index c.loop-binding.known c.loop-binding-test.false c.loop-binding.invariant
