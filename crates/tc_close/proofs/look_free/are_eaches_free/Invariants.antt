use Rattle.std.proofs.Common.{◌<◌}
use Rattle.std.specs.List.{Contains}
use Rattle.tc_model.specs.WellFormed.{ForEach, eaches_of}
use Rattle.tc_rows.specs.Triples.{Triple, sheet}
use Rattle.tc_beh.specs.Stands.{IsRulesIn}
use Rattle.tc_close.specs.LookFree.{IsFreeBody}
use Rattle.tc_close.proofs.look_free.are_eaches_free.Given as goal

abbrev pub invariant-loop-each : goal.invariant-loop-each
invariant-loop-each l = (x : Triple) (e : ForEach) → IsRulesIn x l.rules → Contains (eaches_of (sheet x)) e → e.number < l.each → IsFreeBody l.calls e.body
