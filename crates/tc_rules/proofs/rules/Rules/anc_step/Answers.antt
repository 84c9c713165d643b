use Rattle.std.proofs.Common.{refl}
use Rattle.tc_rules.proofs.Counted.{above_stepped, above_never}
use Rattle.tc_rules.proofs.rules.Rules.anc_step.Goals as goal

pub returns-in-Some : goal.returns-in-Some
returns-in-Some c = λ symbols h l. above_stepped symbols c.args.self.now h c.args.anc c.args.sym.0 c.args.marks.0 c.step.result c.in-Some.number c.requires (l.symbol c.args.sym.0 refl) l.marks c.step.ensures c.in-Some.is

pub returns-in-None : goal.returns-in-None
returns-in-None c = λ symbols h l. absurd (above_never symbols c.args.self.now h c.args.anc c.args.sym.0 c.args.marks.0 c.step.result c.requires (l.symbol c.args.sym.0 refl) l.marks c.step.ensures c.in-None.is)
