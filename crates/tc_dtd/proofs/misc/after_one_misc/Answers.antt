use Rattle.tc_dtd.proofs.ReaderLaws.{broken_comment, broken_instruction}
use Rattle.tc_dtd.proofs.misc.after_one_misc.Goals as goal

pub returns-in-None-clause-no : goal.returns-in-None-clause-no
returns-in-None-clause-no c = let (r, e) = c.if-begins.ensures in broken_comment c.args.start.now r e c.in-None.ensures

pub returns-in-None-after_instruction-clause-no : goal.returns-in-None-after_instruction-clause-no
returns-in-None-after_instruction-clause-no c = let (r, e) = c.if-begins-2.ensures in broken_instruction c.args.start.now r e c.in-None-after_instruction.ensures
