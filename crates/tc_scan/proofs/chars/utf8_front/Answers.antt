use Rattle.std.proofs.Common.{subst, sym}
use Rattle.std.specs.Str.{IsValidUpTo}
use Rattle.tc_scan.proofs.CharsFront.{whole_text, valid_front}
use Rattle.tc_scan.proofs.chars.utf8_front.Goals as goal

pub returns-in-Ok : goal.returns-in-Ok
returns-in-Ok c = whole_text c.args.bytes.now c.in-Ok.text.now c.in-Ok.ensures.cases.0

pub returns-in-Ok-from_utf8 : goal.returns-in-Ok-from_utf8
returns-in-Ok-from_utf8 c =
    valid_front c.args.bytes.now c.in-Ok-from_utf8.text.now c.valid_up_to.result
    (subst (IsValidUpTo c.args.bytes.now) (sym c.valid_up_to.ensures) c.in-Err.ensures.cases.1) c.in-Ok-from_utf8.ensures.cases.0
