use Rattle.std.proofs.Common.{◌++◌, refl, sym, ap, ◌∙◌}
use Rattle.memchr.specs.Find.{is_byte}
use Rattle.tc_model.specs.Runs.{run_text}
use Rattle.tc_scan.proofs.FrontLaws.{run_to_none}
use Rattle.tc_tags.proofs.FailedLaws.{failed_some}
use Rattle.tc_xml.proofs.LineLaws.{not_return, lines_end}
use Rattle.tc_xml.proofs.taking.with_characters.Goals as goal

pub returns-in-Ok : goal.returns-in-Ok
returns-in-Ok c =
    let none = run_to_none (is_byte 13) not_return c.as_bytes.result.now c.args.more.now c.memchr.result (λ b. refl) c.as_bytes.ensures.value c.memchr.ensures c.in_default.is in
    c.in-Ok.ensures ∙ ap (λ w. run_text c.args.run ++ w) (sym (lines_end c.args.more.now none))

pub returns-in_err-text : goal.returns-in_err-text
returns-in_err-text c = failed_some _ _ c.from_residual.ensures
