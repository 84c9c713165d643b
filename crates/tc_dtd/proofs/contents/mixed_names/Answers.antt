use Rattle.std.proofs.Common.{sym, subst}
use Rattle.tc_dtd.specs.DtdTextContents.{NamesAt}
use Rattle.tc_dtd.specs.Outcomes.{read}
use Rattle.tc_dtd.specs.Stops.{Stops}
use Rattle.tc_dtd.specs.Views.{names}
use Rattle.tc_dtd.proofs.ReaderLaws.{failed}
use Rattle.tc_dtd.proofs.contents.mixed_names.Goals as goal

pub returns-in_err-after-clause-no : goal.returns-in_err-after-clause-no
returns-in_err-after-clause-no c =
    let e = c.in_err-after.field-0.0 in
    failed c.from_residual.result (λ e. Stops e (NamesAt c.args.text.now)) e c.from_residual.ensures.1 c.in_err-after.ensures.no

pub returns-clause-ok : goal.returns-clause-ok
returns-clause-ok c = subst (λ w. NamesAt c.args.text.now (read (names w) c.in_ok-after.after.now)) (sym c.into_bump_slice.ensures) c.in_ok-after.ensures.ok
