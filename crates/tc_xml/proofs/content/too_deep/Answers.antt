use Rattle.std.proofs.Common.{true}
use Rattle.tc_xml.proofs.ContentLaws.{none_so_deep, depth_stands}
use Rattle.tc_xml.proofs.content.too_deep.Goals as goal

pub returns-then-opens_element-clause-no : goal.returns-then-opens_element-clause-no
returns-then-opens_element-clause-no c = λ total outer p after. none_so_deep true total outer c.args.text.now p after

pub returns-then-opens_element-clause-stands : goal.returns-then-opens_element-clause-stands
returns-then-opens_element-clause-stands c = λ total outer. depth_stands total outer c.args.text.now c.if-opens_element.ensures
