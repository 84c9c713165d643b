use Rattle.tc_beh.proofs.RoomLaws.{rooms_lawful}
use Rattle.tc_beh.proofs.laws.law_of_rooms.Goals as goal

pub returns : goal.returns
returns c = rooms_lawful
