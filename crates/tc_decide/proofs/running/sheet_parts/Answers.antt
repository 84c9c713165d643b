use Rattle.std.proofs.Common.{◌∙◌, subst, List}
use Rattle.tc_decide.specs.Limits.{IsWithinSheetLimits, SheetPasses}
use Rattle.tc_decide.specs.MachinesSeen.{IsCauseBy}
use Rattle.tc_decide.specs.Nothing.{no_schema}
use Rattle.tc_decide.proofs.TextsRead.{err_whole}
use Rattle.tc_decide.proofs.running.sheet_parts.Goals as goal
use Rattle.tc_model.specs.Symbols.{Mention}
use Rattle.tc_model.specs.Views as see

pub rules_of-requires-clause-symbols : goal.rules_of-requires-clause-symbols
rules_of-requires-clause-symbols c = (no_schema, no_schema, c.in_ok-alphabet.ensures.stands)

pub returns-clause-parts : goal.returns-clause-parts
returns-clause-parts c =
    let s = see.sheet c.args.sheet.now in record {
      rules = c.in_ok-rules.ensures.rules;
      sheet = c.in_ok-rules.ensures.sheet;
      within = subst (λ (w : List Mention). IsWithinSheetLimits w s) c.in_ok-alphabet.ensures.stands (record { few = c.in_ok-alphabet.ensures.few; numbers = c.in_ok-rules.ensures.within });
    }
