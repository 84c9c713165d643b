use Rattle.std.proofs.Common.{◌≡◌, ◌+◌, ◌/◌, ◌∙◌, length, ap, arith}
use Rattle.std.proofs.lemmas.List.{length-replicate}
use Rattle.tc_beh.proofs.bundles.Words.new.Goals as goal

pub returns-clause-count : goal.returns-clause-count
returns-clause-count c = ap length (c.in_ok-bits.ensures.items_if_clones_equal (λ y e. e)) ∙ length-replicate ((c.args.states + 63) / 64) 0
