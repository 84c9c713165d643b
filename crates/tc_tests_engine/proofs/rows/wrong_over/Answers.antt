use Rattle.tc_tests_engine.proofs.Keeping.{none_kept}
use Rattle.tc_tests_engine.proofs.rows.wrong_over.Goals as goal

pub wrong_of_steps-requires : goal.wrong_of_steps-requires
wrong_of_steps-requires c =
    none_kept c.in_ok-rows.rows c.new-hedges.result.items c.new-trees.result.items c.args.machine.now c.requires c.in_ok-rows.ensures.stands c.new-hedges.ensures.items c.new-trees.ensures.items
