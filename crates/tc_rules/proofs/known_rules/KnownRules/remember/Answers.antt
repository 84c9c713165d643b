use Rattle.std.proofs.Common.{Option, IfSome}
use Rattle.std.proofs.lemmas.List.Elements.{All-set}
use Rattle.tc_rules.specs.KnownRules.{IsKnown}
use Rattle.tc_rules.specs.declared.known_rules.Known.{Known}
use Rattle.tc_rules.proofs.known_rules.KnownRules.remember.Goals as goal

pub returns-then-place-len : goal.returns-then-place-len
returns-then-place-len c = λ symbols v h f. record { found = h.found }

pub returns : goal.returns
returns c = λ symbols v h f. record { found = All-set (λ (o : Option Known). IfSome o (IsKnown symbols v)) c.args.self.now.places.items c.place_of-place.result _ f h.found }
