use Rattle.std.proofs.Common.{rules}
use Rattle.tc_xml.specs.Spelled.{IsRight}
use Rattle.tc_xml.proofs.SpelledLaws.{name_alone}
use Rattle.tc_xml.proofs.spelled.SpelledNames.tag.Goals as goal

pub returns-clause-alone : goal.returns-clause-alone
returns-clause-alone c = λ bounds right.
    let one : IsRight bounds c.args.self.now.changes c.in_ok-known.known = search rules in
    name_alone bounds c.args.text.now c.in_ok-after_byte.field-0.now c.in_ok-_inside._inside.now _ c.in_ok-after_byte.ensures c.in_ok-_inside.ensures c.in_ok-rest.ensures.within c.in_ok-rest.ensures.names (one.means (search rules))
