use Rattle.std.proofs.lemmas.Result.{IfOk-weaker, IfErr-weaker}
use Rattle.tc_rnc.specs.Views.{syntax}
use Rattle.tc_model.proofs.SimplifiesLawful.{lawful_syntax}
use Rattle.tc_sheet.proofs.Passed.{no_value}
use Rattle.tc_read.proofs.Exits.{err_is}
use Rattle.tc_read.proofs.RefusedTexts.{refused_schema}
use Rattle.tc_read.proofs.schemas.read_schema.Goals as goal

pub returns-in_err-syntax-clause-no : goal.returns-in_err-syntax-clause-no
returns-in_err-syntax-clause-no c =
    err_is c.from_residual.result _ _ c.from_residual.ensures.1 (refused_schema c.args.text.now c.in_err-syntax.field-0.0 c.in_err-syntax.ensures.no c.in_err-syntax.ensures.stands)

pub simplify-requires : goal.simplify-requires
simplify-requires c = (lawful_syntax _ _ c.in_ok-syntax.ensures.ok).0

pub returns-in_err-syntax-clause-ok : goal.returns-in_err-syntax-clause-ok
returns-in_err-syntax-clause-ok c = no_value c.from_residual.result _ _ c.from_residual.ensures.1

pub returns-in-Ok-clause-ok : goal.returns-in-Ok-clause-ok
returns-in-Ok-clause-ok c = ((syntax c.in_ok-syntax.syntax, c.in_ok-syntax.ensures.ok, c.in-Ok.ensures.grammar), c.in-Ok.ensures.within)

pub returns-in-Ok-clause-no : goal.returns-in-Ok-clause-no
returns-in-Ok-clause-no c = tt

pub returns-in-Err-clause-ok : goal.returns-in-Err-clause-ok
returns-in-Err-clause-ok c = IfOk-weaker c.of_fault.result _ _ (λ schema h. h c.args.text.now (syntax c.in_ok-syntax.syntax) c.in_ok-syntax.ensures.ok c.in-Err.ensures.err) c.of_fault.ensures.ok

pub returns-in-Err-clause-no : goal.returns-in-Err-clause-no
returns-in-Err-clause-no c = IfErr-weaker c.of_fault.result _ _ (λ e h. h c.args.text.now (syntax c.in_ok-syntax.syntax) c.in_ok-syntax.ensures.ok c.in-Err.ensures.err) c.of_fault.ensures.no
