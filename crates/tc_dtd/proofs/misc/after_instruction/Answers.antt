use Rattle.std.proofs.Common.{refl, codes}
use Rattle.tc_scan.proofs.NamesLaws.{at_none}
use Rattle.tc_dtd.proofs.ReaderLaws.{is_xml_target, no_end, not_apart, an_instruction, ignoring_case, not_ignoring_case}
use Rattle.tc_dtd.proofs.misc.after_instruction.Goals as goal

pub returns-then-eq_ignore_ascii_case : goal.returns-then-eq_ignore_ascii_case
returns-then-eq_ignore_ascii_case c =
    is_xml_target c.args.text.now c.in_ok-start.start.now c.in_ok-target.target.now c.in_ok-target.behind.now c.in_ok-start.ensures c.in_ok-target.ensures
    (ignoring_case c.in_ok-target.target.now (codes "xml") (c.if-eq_ignore_ascii_case.ensures.test.0 refl))

pub returns-in_err-inside : goal.returns-in_err-inside
returns-in_err-inside c =
    at_none _ c.from_residual-in_err-inside.ensures
    (no_end c.args.text.now c.in_ok-start.start.now c.in_ok-target.target.now c.in_ok-target.behind.now c.in_ok-start.ensures c.in_ok-target.ensures c.in_err-inside.ensures)

pub returns-then-is_apart : goal.returns-then-is_apart
returns-then-is_apart c =
    an_instruction c.args.text.now c.in_ok-start.start.now c.in_ok-target.target.now c.in_ok-target.behind.now c.in_ok-inside.inside.now c.in_ok-inside.after.now c.in_ok-start.ensures c.in_ok-target.ensures
    (not_ignoring_case c.in_ok-target.target.now (codes "xml") c.if-eq_ignore_ascii_case.ensures.test.1) c.in_ok-inside.ensures c.if-is_apart.ensures

pub returns-else-is_apart : goal.returns-else-is_apart
returns-else-is_apart c =
    not_apart c.args.text.now c.in_ok-start.start.now c.in_ok-target.target.now c.in_ok-target.behind.now c.in_ok-inside.inside.now c.in_ok-inside.after.now c.in_ok-start.ensures c.in_ok-target.ensures
    c.in_ok-inside.ensures c.if-is_apart.ensures
