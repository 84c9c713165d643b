use Rattle.std.proofs.Common.{rules}
use Rattle.tc_verify.proofs.Certified.{pairs_are}
use Rattle.tc_verify.proofs.Distinct.{outputs_differ}
use Rattle.tc_verify.proofs.HandedOn.{no_value}
use Rattle.tc_verify.proofs.checker.begun.Goals as goal

pub fixed-requires-clause-pairs : goal.fixed-requires-clause-pairs
fixed-requires-clause-pairs c = λ x is. pairs_are x c.args.cert.now c.requires.formed (c.requires.fit x is)

pub fixed-requires-clause-distinct : goal.fixed-requires-clause-distinct
fixed-requires-clause-distinct c = outputs_differ c.args.cert.now c.requires.formed

pub returns : goal.returns
returns c = record {
  begun = record {
    machine = c.in_ok-rows.ensures.machine;
    stand = c.in_ok-rows.ensures.stands;
    sets = c.in_ok-rows.ensures.sets;
    fixed = c.in_ok-rows.ensures.fixed;
    room = c.in_ok-new_hedge.ensures;
    tree_room = c.in_ok-new_tree.ensures;
  };
  hedges = search rules;
  trees = search rules;
  hedge_lists = search rules;
  tree_lists = search rules;
}

pub returns-in_err-new_hedge : goal.returns-in_err-new_hedge
returns-in_err-new_hedge c = no_value c.from_residual.result _ _ c.from_residual.ensures.1

pub returns-in_err-new_tree : goal.returns-in_err-new_tree
returns-in_err-new_tree c = no_value c.from_residual-in_err-new_tree.result _ _ c.from_residual-in_err-new_tree.ensures.1

pub returns-in_err-rows : goal.returns-in_err-rows
returns-in_err-rows c = no_value c.from_residual-in_err-rows.result _ _ c.from_residual-in_err-rows.ensures.1
