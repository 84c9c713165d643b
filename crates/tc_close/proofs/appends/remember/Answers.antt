use Rattle.tc_close.proofs.NumberTables.{comes_twice}
use Rattle.tc_close.proofs.appends.remember.Goals as goal

pub loop-class-preserved : goal.loop-class-preserved
loop-class-preserved c = comes_twice c.args.numbers.0 c.args.numbers.1 c.args.numbers.2 c.args.made.now.places.items c.loop-class.made.places.items c.put_at.new.self.places.items c.loop-class.invariant c.put_at.ensures

pub returns : goal.returns
returns c = comes_twice c.args.numbers.0 c.args.numbers.1 c.args.numbers.2 c.args.made.now.places.items c.loop-class.made.places.items c.put_at-2.new.self.places.items c.loop-class.invariant c.put_at-2.ensures
