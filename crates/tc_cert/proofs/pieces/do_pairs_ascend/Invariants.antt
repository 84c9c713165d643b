use Rattle.std.proofs.Common.{◌≡◌, ℕ, ◌+◌, ◌<◌, get_or}
use Rattle.std.specs.declared.cmp.Ordering.TheVariants.{Less}
use Rattle.tc_model.specs.CertificateData.{pair_cmp}
use Rattle.tc_cert.proofs.pieces.do_pairs_ascend.Given as goal

abbrev pub invariant-loop-i : goal.invariant-loop-i
invariant-loop-i l = (k : ℕ) → k + 1 < l.i → pair_cmp (get_or l.pairs k (0, 0)) (get_or l.pairs (k + 1) (0, 0)) ≡ Less
