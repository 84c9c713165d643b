use Rattle.tc_decide.specs.ComparingSeen.{FindsInclusion, IsFoundOfPair}
use Rattle.tc_decide.proofs.ComparedTexts.{inclusion_texts, by_pair, stopped}
use Rattle.tc_decide.proofs.TextsRead.{err_whole}
use Rattle.tc_decide.proofs.comparing.include_texts.Goals as goal

pub returns-in_err-pair : goal.returns-in_err-pair
returns-in_err-pair c =
    err_whole c.from_residual.result _ (IsFoundOfPair FindsInclusion c.args.first c.args.second) c.from_residual.ensures.1 (stopped FindsInclusion inclusion_texts c.args.first c.args.second _ c.in_err-pair.ensures.no)

pub decide_inclusion-requires : goal.decide_inclusion-requires
decide_inclusion-requires c = let texts = c.in_ok-pair.ensures.ok in record { pair = (texts.a, texts.b, texts.is) }

pub returns : goal.returns
returns c =
    let texts = c.in_ok-pair.ensures.ok in
    by_pair FindsInclusion inclusion_texts c.args.first c.args.second _ c.decide_inclusion.result texts (c.decide_inclusion.ensures texts.a texts.b texts.is)
