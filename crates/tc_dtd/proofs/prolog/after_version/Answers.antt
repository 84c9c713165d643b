use Rattle.std.proofs.Common.{codes}
use Rattle.tc_dtd.specs.DtdTextDeclarations.{no_version}
use Rattle.tc_dtd.proofs.ReaderLaws.{lacks, no_version_here, this_version, that_version}
use Rattle.tc_dtd.proofs.prolog.after_version.Goals as goal

pub returns-then-not-begins-clause-ok : goal.returns-then-not-begins-clause-ok
returns-then-not-begins-clause-ok c = no_version (lacks (codes "version") c.args.text.now c.after_white-start.result.now c.after_white-start.ensures c.if-not-begins.ensures)

pub returns-in_default-clause-no : goal.returns-in_default-clause-no
returns-in_default-clause-no c =
    let (r, e) = c.if-not-begins.ensures in
    no_version_here c.args.text.now c.after_white-start.result.now r c.after_white-start.ensures e c.in_default.ensures

pub returns-then-eq-clause-ok : goal.returns-then-eq-clause-ok
returns-then-eq-clause-ok c = this_version c.args.text.now c.in-Some.version.now c.in-Some.after.now c.if-eq.ensures c.in-Some.ensures

pub returns-else-eq-clause-no : goal.returns-else-eq-clause-no
returns-else-eq-clause-no c =
    that_version c.args.text.now c.after_white-start.result.now c.in-Some.version.now c.in-Some.after.now c.after_white-start.ensures c.if-eq.ensures c.in-Some.ensures
