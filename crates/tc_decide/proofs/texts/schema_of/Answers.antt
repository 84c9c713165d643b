use Rattle.std.proofs.Common.{subst, sym}
use Rattle.tc_decide.specs.Texts.{IsRefused}
use Rattle.tc_decide.specs.TextsSeen.{IsRefusalOf}
use Rattle.tc_decide.proofs.TextsRead.{refusal}
use Rattle.tc_decide.proofs.texts.schema_of.Goals as goal

pub returns-in-Err-clause-no : goal.returns-in-Err-clause-no
returns-in-Err-clause-no c =
    subst (IsRefusalOf c.args.which (IsRefused c.args.text)) (sym c.unaccepted.ensures) (refusal c.args.which (IsRefused c.args.text) c.in-Err.fault c.in-Err.ensures.no)
