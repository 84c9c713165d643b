use Rattle.std.proofs.Common.{sym}
use Rattle.tc_sheet.proofs.NameLaws.{literal_sets_at, unknown_at}
use Rattle.tc_sheet.proofs.attributes.unexpected_in_literal.Goals as goal

pub returns-then-eq : goal.returns-then-eq
returns-then-eq c = literal_sets_at c.args.element.now c.args.attribute.now c.requires.own.has c.requires.own.literal c.requires.xslt (sym c.if-eq.ensures)

pub returns-else-eq : goal.returns-else-eq
returns-else-eq c = unknown_at c.args.element.now c.args.attribute.now c.requires.own.has c.requires.own.literal c.requires.xslt c.requires.other (sym c.if-eq.ensures)
