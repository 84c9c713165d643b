use Rattle.tc_xml.proofs.BuildingLaws.{text_more}
use Rattle.tc_xml.proofs.building.put_text.Goals as goal

pub returns-in-Ok : goal.returns-in-Ok
returns-in-Ok c = text_more c.args.parts.now.items c.push.new.self.items c.args.text c.in-Ok.ensures.items
