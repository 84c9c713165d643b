use Rattle.std.proofs.Common.{refl}
use Rattle.tc_model.specs.CompactSyntaxUnread.{escape_mark}
use Rattle.tc_rnc.proofs.Escapes.{lacks_mark, mark_within}
use Rattle.tc_rnc.proofs.faults.escape_in.Goals as goal

pub returns-in-Some : goal.returns-in-Some
returns-in-Some c = mark_within c.args.value.now c.in-Some.inside.now _ _ c.in-Some.ensures refl

pub returns-in-None : goal.returns-in-None
returns-in-None c = lacks_mark escape_mark c.args.value.now c.in-None.ensures
