use Rattle.std.proofs.Common.{sym}
use Rattle.std.proofs.lemmas.Str.{IsUtf8-past_char}
use Rattle.tc_scan.proofs.CharsFront.{one_more_char, begun_chars, past_chars_at_end, past_chars_at_other, shorter}
use Rattle.tc_scan.proofs.chars.past_characters.Goals as goal

pub loop-next-init : goal.loop-next-init
loop-next-init c = record { chars = begun_chars c.args.text.now; text = c.utf8.text }

pub loop-next-smaller : goal.loop-next-smaller
loop-next-smaller c = shorter c.loop-next.rest.now c.in-Some.after.now c.in-Some.next c.in-Some.ensures.1

pub loop-next-preserved : goal.loop-next-preserved
loop-next-preserved c = record {
  chars = one_more_char c.args.text.now c.loop-next.rest.now c.in-Some.after.now c.in-Some.next c.loop-next.invariant.chars c.in-Some.ensures.1 (sym c.if-not-is_char.ensures);
  text = IsUtf8-past_char c.loop-next.rest.now c.in-Some.after.now c.in-Some.next c.loop-next.invariant.text c.in-Some.ensures.1;
}

pub returns-then-not-is_char : goal.returns-then-not-is_char
returns-then-not-is_char c =
    past_chars_at_other c.args.text.now c.loop-next.rest.now c.in-Some.after.now c.in-Some.next c.loop-next.invariant.chars c.in-Some.ensures.1 (sym c.if-not-is_char.ensures)

pub returns-in_default : goal.returns-in_default
returns-in_default c = past_chars_at_end c.args.text.now c.loop-next.rest.now c.loop-next.invariant.chars c.in_default.ensures
