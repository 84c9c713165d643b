use Rattle.std.proofs.Common.{Option, IfSome}
use Rattle.std.proofs.lemmas.List.Elements.{All-set}
use Rattle.tc_run.specs.Running.{guide}
use Rattle.tc_run.specs.Sights.{IsSeen}
use Rattle.tc_run.specs.declared.sights.Seen.{Seen}
use Rattle.tc_run.proofs.sights.KnownSights.remember.Goals as goal

pub returns-then-place-len : goal.returns-then-place-len
returns-then-place-len c = λ r h f. record { seen = h.seen; findings = h.findings }

pub returns : goal.returns
returns c = λ r h f. record {
  seen = All-set (λ (o : Option Seen). IfSome o (IsSeen (guide r))) c.args.self.now.places.items c.place_of-place.result _ f h.seen;
  findings = h.findings;
}
