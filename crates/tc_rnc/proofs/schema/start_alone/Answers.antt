use Rattle.std.proofs.Common.{map, ap}
use Rattle.tc_rnc.specs.Views as seen
use Rattle.tc_rnc.proofs.schema.start_alone.Goals as goal

pub returns-clause-ok : goal.returns-clause-ok
returns-clause-ok c =
    ap (map seen.definition) c.in_ok-defs.ensures
