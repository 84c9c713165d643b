use Rattle.std.proofs.Common.{◌≡◌, ◌∙◌, arith}
use Rattle.std.specs.Ordering.{nat_cmp}
use Rattle.std.specs.Cmp.Lexicographic.{slice_cmp}
use Rattle.tc_cert.specs.Orders.{number_order}
use Rattle.tc_cert.proofs.Differing.{number_of_order}
use Rattle.tc_cert.proofs.order.number_order.Goals as goal

pub returns-clause-apart : goal.returns-clause-apart
returns-clause-apart c =
    let order : c.cmp.result ≡ number_order c.args.one c.args.other
    = c.cmp.ensures ∙ (λ i. slice_cmp nat_cmp ((c.as_bytes.ensures.value ∙ c.format.ensures.text) i) ((c.as_bytes-2.ensures.value ∙ c.format-2.ensures.text) i)) in
    number_of_order c.args.one c.args.other c.cmp.result (omega (arith, c.ranges.one.fits)) (omega (arith, c.ranges.other.fits)) order
