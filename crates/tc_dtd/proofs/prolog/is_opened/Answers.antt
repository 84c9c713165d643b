use Rattle.std.proofs.Common.{inl}
use Rattle.tc_dtd.proofs.ReaderLaws.{opened_by_end, not_opened}
use Rattle.tc_dtd.proofs.prolog.is_opened.Goals as goal

pub returns-then-begins : goal.returns-then-begins
returns-then-begins c = let (r, e) = c.if-begins.ensures in opened_by_end c.args.text.now r e

pub returns-in-Some : goal.returns-in-Some
returns-in-Some c = inl c.in-Some.ensures.0

pub returns-in-None : goal.returns-in-None
returns-in-None c = not_opened c.args.text.now c.if-begins.ensures c.in-None.ensures
