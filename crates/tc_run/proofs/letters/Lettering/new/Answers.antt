use Rattle.tc_run.specs.Running.{guide}
use Rattle.tc_run.proofs.letters.Lettering.new.Goals as goal

pub returns-clause-known : goal.returns-clause-known
returns-clause-known c = λ r. record { names = c.in_ok-names.ensures r.alphabet.now; sights = c.in_ok-sights.ensures (guide r) _ }

pub returns-clause-fresh : goal.returns-clause-fresh
returns-clause-fresh c = c.in_ok-sights.ensures
