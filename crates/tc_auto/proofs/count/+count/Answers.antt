use Rattle.tc_auto.proofs.Folds.{product_more, sum_more, some_capped, choice_sum}
use Rattle.tc_auto.proofs.count.+count.Goals as goal

pub count_of_product-loop-member-preserved : goal.count_of_product-loop-member-preserved
count_of_product-loop-member-preserved t c =
    product_more c.args.members.now c.loop-member.member-index c.member-item.result c.loop-member-test.true c.member-item.is _ _ _ c.loop-member.invariant c.state_count.ensures c.saturating_mul-count.ensures

pub count_of_sum-overflow_sub-state_count : goal.count_of_sum-overflow_sub-state_count
count_of_sum-overflow_sub-state_count t c = some_capped c.member-item.result _ c.state_count.ensures

pub count_of_sum-loop-member-preserved : goal.count_of_sum-loop-member-preserved
count_of_sum-loop-member-preserved t c =
    sum_more c.args.members.now c.loop-member.member-index c.member-item.result c.loop-member-test.true c.member-item.is _ _ _ c.loop-member.invariant c.state_count.ensures c.saturating_add-count.ensures

pub count_of_sum-returns-clause-choice : goal.count_of_sum-returns-clause-choice
count_of_sum-returns-clause-choice t c = choice_sum c.args.members.now c.loop-member.member-index _ c.loop-member-test.false c.loop-member.invariant
