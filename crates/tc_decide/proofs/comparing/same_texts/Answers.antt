use Rattle.tc_decide.specs.ComparingSeen.{FindsEquality, IsFoundOfPair}
use Rattle.tc_decide.proofs.ComparedTexts.{equality_texts, by_pair, stopped}
use Rattle.tc_decide.proofs.TextsRead.{err_whole}
use Rattle.tc_decide.proofs.comparing.same_texts.Goals as goal

pub returns-in_err-pair : goal.returns-in_err-pair
returns-in_err-pair c =
    err_whole c.from_residual.result _ (IsFoundOfPair FindsEquality c.args.first c.args.second) c.from_residual.ensures.1 (stopped FindsEquality equality_texts c.args.first c.args.second _ c.in_err-pair.ensures.no)

pub decide_equality-requires : goal.decide_equality-requires
decide_equality-requires c = let texts = c.in_ok-pair.ensures.ok in record { pair = (texts.a, texts.b, texts.is) }

pub returns : goal.returns
returns c =
    let texts = c.in_ok-pair.ensures.ok in
    by_pair FindsEquality equality_texts c.args.first c.args.second _ c.decide_equality.result texts (c.decide_equality.ensures texts.a texts.b texts.is)
