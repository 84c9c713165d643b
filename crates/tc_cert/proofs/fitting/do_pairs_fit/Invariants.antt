use Rattle.std.proofs.Common.{◌<◌}
use Rattle.std.specs.List.{AllWithin}
use Rattle.tc_cert.proofs.fitting.do_pairs_fit.Given as goal

abbrev pub invariant-loop-place : goal.invariant-loop-place
invariant-loop-place l = AllWithin (λ p. (p.0 < l.states) × (p.1 < l.states)) l.pairs 0 l.place
