use Rattle.tc_decide.proofs.ComparedTexts.{by_input, by_output, pair_of_all, passed_by_both}
use Rattle.tc_decide.proofs.SchemaTexts.{lawful_read}
use Rattle.tc_decide.proofs.comparing.pair_of_texts.Goals as goal
use Rattle.tc_read.proofs.Exits.{err_is}

pub returns-in_err-one-clause-no : goal.returns-in_err-one-clause-no
returns-in_err-one-clause-no c = err_is c.from_residual.result _ _ c.from_residual.ensures.1 (by_input c.args.first c.args.second _ c.in_err-one.ensures.no)

pub returns-in_err-other-clause-no : goal.returns-in_err-other-clause-no
returns-in_err-other-clause-no c =
    err_is c.from_residual-in_err-other.result _ _ c.from_residual-in_err-other.ensures.1 (by_output c.args.first c.args.second _ c.in_ok-one.ensures.ok _ c.in_err-other.ensures.no)

pub pair_of-requires-clause-first : goal.pair_of-requires-clause-first
pair_of-requires-clause-first c = lawful_read c.args.first _ c.in_ok-one.ensures.ok

pub pair_of-requires-clause-second : goal.pair_of-requires-clause-second
pair_of-requires-clause-second c = lawful_read c.args.second _ c.in_ok-other.ensures.ok

pub returns-in_err-pair-clause-no : goal.returns-in_err-pair-clause-no
returns-in_err-pair-clause-no c =
    err_is c.from_residual-in_err-pair.result _ _ c.from_residual-in_err-pair.ensures.1
    (passed_by_both c.args.first c.args.second _ c.in_ok-one.ensures.ok _ c.in_ok-other.ensures.ok c.in_err-pair.field-0.0 c.in_err-pair.ensures.err)

pub returns-clause-ok : goal.returns-clause-ok
returns-clause-ok c = pair_of_all c.args.first c.args.second _ c.in_ok-one.ensures.ok _ c.in_ok-other.ensures.ok _ c.in_ok-pair.ensures.ok
