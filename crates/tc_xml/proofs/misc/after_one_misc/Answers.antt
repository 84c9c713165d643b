use Rattle.tc_xml.proofs.MiscLaws.{broken_comment, broken_instruction}
use Rattle.std.proofs.Common.{inl, inr}
use Rattle.tc_xml.proofs.misc.after_one_misc.Goals as goal

pub returns-in-None-clause-no : goal.returns-in-None-clause-no
returns-in-None-clause-no c = let (r, e) = c.if-begins.ensures in broken_comment c.args.start.now r e c.in-None.ensures

pub returns-in-None-after_instruction-clause-no : goal.returns-in-None-after_instruction-clause-no
returns-in-None-after_instruction-clause-no c = let (r, e) = c.if-begins-2.ensures in broken_instruction c.args.start.now r e c.in-None-after_instruction.ensures

pub returns-in-Some-clause-ok : goal.returns-in-Some-clause-ok
returns-in-Some-clause-ok c = inl c.in-Some.ensures

pub returns-in-Some-after_instruction-clause-ok : goal.returns-in-Some-after_instruction-clause-ok
returns-in-Some-after_instruction-clause-ok c = inr c.in-Some-after_instruction.ensures

pub returns-clause-ok : goal.returns-clause-ok
returns-clause-ok c = (c.if-begins.ensures, c.if-begins-2.ensures)
