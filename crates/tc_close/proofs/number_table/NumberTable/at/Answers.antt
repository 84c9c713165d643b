use Rattle.std.proofs.Common.{◌%◌, rules}
use Rattle.tc_close.proofs.NumberTables.{at_place}
use Rattle.tc_close.proofs.number_table.NumberTable.at.Goals as goal

pub returns : goal.returns
returns c = at_place c.args.self.now.places.items (c.args.place % 16384) c.index.result.now (search rules) c.index.ensures
