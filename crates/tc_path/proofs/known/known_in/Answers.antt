use Rattle.std.proofs.Common.{map}
use Rattle.tc_model.specs.Views.{bound}
use Rattle.tc_path.proofs.known.known_in.Goals as goal

pub find_all-requires : goal.find_all-requires
find_all-requires c = c.in_ok-known.ensures.ok (map bound c.args.bindings.now)
