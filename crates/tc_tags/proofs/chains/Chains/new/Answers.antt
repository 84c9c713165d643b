use Rattle.std.proofs.Common.{arith, ℕ, ◌∙◌, ap, length}
use Rattle.std.proofs.lemmas.List.{length-replicate}
use Rattle.tc_tags.proofs.ChainLaws.{none_newest}
use Rattle.tc_tags.proofs.chains.Chains.new.Goals as goal

pub invariant_of-result : goal.invariant_of-result
invariant_of-result c =
    let empty = c.in_ok-links.ensures.items in
    let zeros = c.in_ok-newest.ensures.items_if_clones_equal (λ y e. e) in
    let both = none_newest c.in_ok-links.links.items c.in_ok-newest.newest.items empty zeros in
    (omega (arith, c.in_ok-links.ensures.len), c.in_ok-links.ensures.capacity, ap length zeros ∙ length-replicate {A = ℕ} 4096 0, both.0, both.1)
