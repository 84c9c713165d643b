use Rattle.std.proofs.Common.{inl, inr}
use Rattle.tc_xml.proofs.misc.ends_doctype.Goals as goal

pub returns-then-begins : goal.returns-then-begins
returns-then-begins c = let (r, e) = c.if-begins.ensures in (r, inl e)

pub returns-then-begins-2 : goal.returns-then-begins-2
returns-then-begins-2 c = let (r, e) = c.if-begins-2.ensures in (r, inr e)
