use Rattle.std.proofs.Common.{refl}
use Rattle.tc_rnc.specs.Views as seen
use Rattle.tc_rnc.proofs.declarations.tilde_at.Goals as goal

pub returns-then-is_mark : goal.returns-then-is_mark
returns-then-is_mark c =
    (seen.token c.in_ok-first.first.now, (_, (c.in_ok-first.ensures, c.if-is_mark.ensures, refl)))
