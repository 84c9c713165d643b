use Rattle.std.proofs.Common.{refl}
use Rattle.tc_xml.proofs.StripLaws.{an_element}
use Rattle.tc_xml.proofs.stripping.strip.Goals as goal

pub returns-in_ok-kids-in-Elem : goal.returns-in_ok-kids-in-Elem
returns-in_ok-kids-in-Elem c =
    let e = c.in-Elem.element in
    an_element c.args.raw.now e e.name c.in_ok-kids-in-Elem.kids c.in_ok-bare-in-Elem.bare c.in-Elem.is refl c.in_ok-bare-in-Elem.ensures c.in_ok-kids-in-Elem.ensures
