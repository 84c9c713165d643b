use Rattle.std.proofs.Common.{Option, IfSome}
use Rattle.std.proofs.lemmas.List.Elements.{All-set}
use Rattle.tc_run.specs.Visits.{IsKnown}
use Rattle.tc_run.specs.declared.visits.Known.{Known}
use Rattle.tc_run.proofs.visits.KnownNodes.remember.Goals as goal

pub returns-then-place-len : goal.returns-then-place-len
returns-then-place-len c = λ r h f. record { found = h.found; children = h.children; leaves = h.leaves; sights = h.sights }

pub returns : goal.returns
returns c = λ r h f. record { found = All-set (λ (o : Option Known). IfSome o (IsKnown r)) c.args.self.now.places.items c.place_of-place.result _ f h.found; children = h.children; leaves = h.leaves; sights = h.sights }
