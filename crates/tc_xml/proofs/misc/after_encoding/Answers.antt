use Rattle.std.proofs.Common.{sym, codes}
use Rattle.tc_model.specs.XmlTextMisc.{no_encoding, encoding}
use Rattle.tc_xml.proofs.MiscLaws.{lacks, no_encoding_here, no_other_encoding}
use Rattle.tc_xml.proofs.misc.after_encoding.Goals as goal

pub returns-then-not-begins-clause-ok : goal.returns-then-not-begins-clause-ok
returns-then-not-begins-clause-ok c = no_encoding (lacks (codes "encoding") c.args.text.now c.after_white-start.result.now c.after_white-start.ensures c.if-not-begins.ensures)

pub returns-in_default-clause-no : goal.returns-in_default-clause-no
returns-in_default-clause-no c =
    let (r, e) = c.if-not-begins.ensures in
    no_encoding_here c.args.text.now c.after_white-start.result.now r c.after_white-start.ensures e c.in_default.ensures

pub returns-then-is_read_encoding-clause-ok : goal.returns-then-is_read_encoding-clause-ok
returns-then-is_read_encoding-clause-ok c = encoding c.in-Some.ensures (sym c.if-is_read_encoding.ensures)

pub returns-in_default-clause-malformed : goal.returns-in_default-clause-malformed
returns-in_default-clause-malformed c = c.in_default.ensures

pub returns-else-is_read_encoding-clause-no : goal.returns-else-is_read_encoding-clause-no
returns-else-is_read_encoding-clause-no c = no_other_encoding c.args.text.now c.after_white-start.result.now c.in-Some.value.now c.in-Some.after.now c.after_white-start.ensures c.in-Some.ensures c.if-is_read_encoding.ensures c.if-not-begins.ensures
