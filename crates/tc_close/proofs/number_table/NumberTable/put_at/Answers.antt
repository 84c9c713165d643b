use Rattle.std.proofs.Common.{◌%◌, rules}
use Rattle.tc_close.proofs.NumberTables.{put_number}
use Rattle.tc_close.proofs.number_table.NumberTable.put_at.Goals as goal

pub returns : goal.returns
returns c = λ i j n at. put_number c.args.self.now.places.items (c.args.place % 16384) c.args.pair.0 c.args.pair.1 c.args.pair.2 i j n (search rules) at
