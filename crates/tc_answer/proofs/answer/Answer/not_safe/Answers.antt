use Rattle.std.proofs.Common.{◌++◌, ◌∙◌, refl, ap, codes, List, ℕ}
use Rattle.tc_model.specs.Printed.{printed}
use Rattle.tc_model.specs.Views.{trees}
use Rattle.tc_answer.proofs.Lined.{result_lines}
use Rattle.tc_answer.proofs.answer.Answer.not_safe.Goals as goal

pub returns : goal.returns
returns c =
    let d = trees c.args.document.now in
    let o = trees c.args.output.now in
    let front = c.in_ok-put_shown.ensures ∙ ap (λ (w : List ℕ). w ++ (codes "unsafe\ndocument " ++ (printed d ++ codes "\noutput "))) c.new-text.ensures in
    let whole = c.in_ok-put_shown-2.ensures ∙ ap (λ (w : List ℕ). w ++ (printed o ++ codes "\n")) front in
    record { status = refl; written = c.into_bytes.ensures ∙ (whole ∙ result_lines d o) }
