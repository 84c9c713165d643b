use Rattle.std.proofs.Common.{[], ◌∷◌}
use Rattle.tc_run.specs.Running.{guide}
use Rattle.tc_run.specs.declared.letters.Lettering.{Lettering}
use Rattle.tc_run.proofs.LetteredSteps.{grown_seen}
use Rattle.tc_run.proofs.letters.Lettering.number.Goals as goal

pub returns-clause-known : goal.returns-clause-known
returns-clause-known c = λ r h.
    let old = c.args.self.now in
    let new : Lettering = record { names = old.names; sights = old.sights; numbered = c.push.new.self } in
    record { names = h.names; sights = grown_seen (guide r) old new old.sights (record { more = c.args.kids ∷ []; grown = c.in_ok-push.ensures.items }) h.sights }
