use Rattle.std.proofs.Common.{Option, IfSome}
use Rattle.std.proofs.lemmas.List.Elements.{All-set}
use Rattle.tc_run.specs.Findings.{IsFound}
use Rattle.tc_run.specs.declared.findings.Finding.{Finding}
use Rattle.tc_run.proofs.findings.Findings.remember.Goals as goal

pub returns-then-place-len : goal.returns-then-place-len
returns-then-place-len c = λ g numbered h f. c.make_room.ensures g numbered h

pub returns : goal.returns
returns c = λ g numbered h f. record { found = All-set (λ (o : Option Finding). IfSome o (IsFound g numbered)) c.make_room.new.self.places.items c.place_of-place.result _ f (c.make_room.ensures g numbered h).found }
