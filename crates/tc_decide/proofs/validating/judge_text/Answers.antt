use Rattle.std.proofs.Common.{◌∙◌, refl, sym}
use Rattle.tc_decide.specs.Nothing.{no_schema, no_rules}
use Rattle.tc_decide.proofs.Nothing.{schema_alone}
use Rattle.tc_decide.proofs.validating.judge_text.Goals as goal
use Rattle.tc_model.specs.Stripped.{stripped}
use Rattle.tc_model.proofs.XmlTextDocument.{document}

pub returns-in-Some : goal.returns-in-Some
returns-in-Some c =
    let (h, spells, takes) = c.in-Some.ensures in λ x is. (
      stripped h,
      record { raw = h; spells = spells; document = refl },
      (is.within_limits, c.is_valid.ensures x c.in_ok-judge.judge (stripped h) is.start (c.in_ok-judge.ensures x no_schema no_rules is.automaton (is.symbols ∙ sym (schema_alone x))) takes (document c.args.document.now h spells)),
    )
