use Rattle.tc_xml.specs.declared.building.Part.TheVariants.{Open}
use Rattle.tc_xml.proofs.BuildingLaws.{part_more}
use Rattle.tc_xml.proofs.building.put_start.Goals as goal

pub returns-in-Ok : goal.returns-in-Ok
returns-in-Ok c = part_more c.args.parts.now.items c.push.new.self.items (Open c.args.tag) c.in-Ok.ensures.items
