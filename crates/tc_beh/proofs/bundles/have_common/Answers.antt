use Rattle.std.proofs.lemmas.Bool.{false≢true}
use Rattle.std.proofs.Common.{refl}
use Rattle.tc_beh.proofs.Bundling.{common, in_common}
use Rattle.tc_beh.proofs.bundles.have_common.Goals as goal

pub returns-then-first-second-eq0 : goal.returns-then-first-second-eq0
returns-then-first-second-eq0 c = (λ h. absurd (false≢true h), λ h. absurd (in_common c.args.first c.args.second h c.if-first-second-eq0.true))

pub returns : goal.returns
returns c = (λ _. common c.args.first c.args.second c.if-first-second-eq0.false c.ranges.first.fits, λ _. refl)
