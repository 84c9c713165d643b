use Rattle.tc_decide.specs.Comparing.{backward, forward}
use Rattle.tc_decide.specs.ComparingSeen.{FindsEquality}
use Rattle.tc_decide.proofs.Compared.{few_covers, few_nodes, kept_counts, first_many, second_many}
use Rattle.tc_decide.proofs.TextsRead.{err_whole}
use Rattle.tc_decide.proofs.comparing.decide_equality.Goals as goal

pub returns-in_err-forth : goal.returns-in_err-forth
returns-in_err-forth c = λ x y is.
    err_whole c.from_residual.result _ (FindsEquality x y) c.from_residual.ensures.1 (first_many x y is.within_limits c.in_err-forth.field-0.0 (c.in_err-forth.ensures.cause x y is))

pub returns-in_err-back : goal.returns-in_err-back
returns-in_err-back c = λ x y is.
    let few = few_covers (forward x y) (kept_counts (forward x y) _ (c.in_ok-forth.ensures.answer x y is)) in
    err_whole c.from_residual-in_err-back.result _ (FindsEquality x y) c.from_residual-in_err-back.ensures.1 (second_many x y is.within_limits few c.in_err-back.field-0.0 (c.in_err-back.ensures.cause x y is))

pub tell_equality-requires-clause-forth : goal.tell_equality-requires-clause-forth
tell_equality-requires-clause-forth c = let (x, y, is) = c.requires.pair in few_nodes (forward x y) _ (c.in_ok-forth.ensures.answer x y is)

pub tell_equality-requires-clause-back : goal.tell_equality-requires-clause-back
tell_equality-requires-clause-back c = let (x, y, is) = c.requires.pair in few_nodes (backward x y) _ (c.in_ok-back.ensures.answer x y is)

pub returns : goal.returns
returns c = λ x y is. c.tell_equality.ensures x y is.within_limits (c.in_ok-forth.ensures.answer x y is) (c.in_ok-back.ensures.answer x y is)
