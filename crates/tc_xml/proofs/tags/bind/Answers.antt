use Rattle.std.proofs.Common.{◌∙◌, sym, ap}
use Rattle.tc_xml.specs.Bounds.{bounds}
use Rattle.tc_xml.proofs.ScopeLaws.{bounds-insert, bounds-remove}
use Rattle.tc_xml.proofs.tags.bind.Goals as goal

pub returns-then-eq-clause-ok : goal.returns-then-eq-clause-ok
returns-then-eq-clause-ok c = ap bounds c.shift_remove.ensures.entries ∙ bounds-remove c.args.names.now.entries c.args.prefix.now c.args.uri.now (sym c.if-eq.ensures)

pub returns-clause-ok : goal.returns-clause-ok
returns-clause-ok c = ap bounds c.in_ok-insert.ensures.entries ∙ bounds-insert c.args.names.now.entries c.args.prefix c.args.uri (sym c.if-eq.ensures)
