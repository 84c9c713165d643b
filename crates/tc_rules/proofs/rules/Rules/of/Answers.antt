use Rattle.std.proofs.Common.{◌≡◌, ◌∙◌, ap}
use Rattle.std.proofs.lemmas.Result.{IfOk-from_err}
use Rattle.tc_model.specs.Views as see
use Rattle.tc_model.specs.Sheets.{Sheet}
use Rattle.tc_rules.specs.Faults.{IsCause}
use Rattle.tc_rules.specs.Views.{usages}
use Rattle.tc_rules.specs.Usages.{usages_of}
use Rattle.tc_rules.proofs.Built.{handed_on}
use Rattle.tc_rules.proofs.rules.Rules.of.Goals as goal

pub returns-in_err-source-clause-cause : goal.returns-in_err-source-clause-cause
returns-in_err-source-clause-cause c =
    let x = see.sheet c.args.sheet.now in
    let used : usages c.deref.result.now ≡ usages_of x = ap usages c.deref.ensures.value ∙ c.in_ok-used.ensures in
    handed_on c.from_residual-in_err-source.result c.in_err-source.field-0.0 (λ e. (y : Sheet) → usages c.deref.result.now ≡ usages_of y → IsCause c.args.alphabet.now y e) (IsCause c.args.alphabet.now x) c.from_residual-in_err-source.ensures.1 (λ e k. k x used) c.in_err-source.ensures.cause

pub over-requires : goal.over-requires
over-requires c =
    let x = see.sheet c.args.sheet.now in
    let used : usages c.deref.result.now ≡ usages_of x = ap usages c.deref.ensures.value ∙ c.in_ok-used.ensures in
    record {
      sheet = c.requires.sheet;
      used = ap usages c.deref-2.ensures.value ∙ c.in_ok-used.ensures;
      predicates = c.in_ok-source.ensures.predicates x used;
      few = c.in_ok-source.ensures.few;
      sets = c.in_ok-source.ensures.source.sets;
    }

pub returns-clause-sheet : goal.returns-clause-sheet
returns-clause-sheet c = c.over.ensures.sheet

pub returns-clause-rules : goal.returns-clause-rules
returns-clause-rules c = c.over.ensures.rules c.args.alphabet.now c.in_ok-source.ensures.source c.requires.symbols

pub returns-clause-within : goal.returns-clause-within
returns-clause-within c = c.over.ensures.within c.args.alphabet.now c.in_ok-source.ensures.source

pub returns-clause-cause : goal.returns-clause-cause
returns-clause-cause c = c.over.ensures.cause c.args.alphabet.now c.in_ok-source.ensures.source

pub returns-in_err-used-clause-sheet : goal.returns-in_err-used-clause-sheet
returns-in_err-used-clause-sheet c = IfOk-from_err c.from_residual.result _ c.from_residual.ensures.0

pub returns-in_err-used-clause-rules : goal.returns-in_err-used-clause-rules
returns-in_err-used-clause-rules c = IfOk-from_err c.from_residual.result _ c.from_residual.ensures.0

pub returns-in_err-used-clause-within : goal.returns-in_err-used-clause-within
returns-in_err-used-clause-within c = IfOk-from_err c.from_residual.result _ c.from_residual.ensures.0

pub returns-in_err-source-clause-sheet : goal.returns-in_err-source-clause-sheet
returns-in_err-source-clause-sheet c = IfOk-from_err c.from_residual-in_err-source.result _ c.from_residual-in_err-source.ensures.0

pub returns-in_err-source-clause-rules : goal.returns-in_err-source-clause-rules
returns-in_err-source-clause-rules c = IfOk-from_err c.from_residual-in_err-source.result _ c.from_residual-in_err-source.ensures.0

pub returns-in_err-source-clause-within : goal.returns-in_err-source-clause-within
returns-in_err-source-clause-within c = IfOk-from_err c.from_residual-in_err-source.result _ c.from_residual-in_err-source.ensures.0
