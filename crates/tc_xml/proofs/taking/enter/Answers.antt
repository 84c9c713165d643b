use Rattle.std.proofs.Common.{refl, arith}
use Rattle.tc_xml.proofs.taking.enter.Goals as goal

pub returns : goal.returns
returns c = record {
  last = record { written = c.args.written; count = c.args.count; depth = c.args.levels.now.depth };
  opens = c.in-Ok.ensures.items;
  named = refl;
  counts = refl;
  deep = refl;
  deeper = omega (arith, c.requires);
  bindings = refl;
  spelled = refl;
}
