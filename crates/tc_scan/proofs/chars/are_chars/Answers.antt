use Rattle.std.proofs.Common.{ap, ◌∙◌, sym, subst, Bool}
use Rattle.std.specs.List.{list_all}
use Rattle.std.specs.Prelude.{MatchBool}
use Rattle.tc_model.specs.Names.{IsChars}
use Rattle.tc_scan.specs.Chars.{is_start_of_chars_only}
use Rattle.tc_scan.proofs.CharsLaws.{plain_text}
use Rattle.tc_scan.proofs.chars.are_chars.Goals as goal

pub returns-then-start_chars_only : goal.returns-then-start_chars_only
returns-then-start_chars_only c =
    let t = c.args.text.now in
    subst (λ (b : Bool). MatchBool b (IsChars t) (IsChars t → ⊥)) (sym c.if-start_chars_only.true)
    (plain_text t c.utf8.text (ap (list_all is_start_of_chars_only) (sym c.as_bytes.ensures.value) ∙ (sym c.start_chars_only.ensures ∙ c.if-start_chars_only.true)))
