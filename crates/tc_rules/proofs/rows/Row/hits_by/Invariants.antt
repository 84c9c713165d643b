use Rattle.std.proofs.Common.{◌≡◌, drop}
use Rattle.std.specs.List.{list_any}
use Rattle.tc_rules.specs.Steps as v
use Rattle.tc_rules.specs.Rows.{state}
use Rattle.tc_rules.proofs.rows.Row.hits_by.Given as goal

abbrev pub invariant-loop-alternative : goal.invariant-loop-alternative
invariant-loop-alternative l =
    list_any (v.ends_at (state l.ends l.self) (v.both_states (state l.ends l.fits) (state l.ends l.marked))) l.ending
    ≡ list_any (v.ends_at (state l.ends l.self) (v.both_states (state l.ends l.fits) (state l.ends l.marked))) (drop l.alternative-index l.ending)
