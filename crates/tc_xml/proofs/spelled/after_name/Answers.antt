use Rattle.std.proofs.Common.{◌≡◌, ◌==◌, [], sym, ap, ◌∙◌, length}
use Rattle.std.proofs.lemmas.Bool.{true≢false, eqb-true}
use Rattle.std.proofs.lemmas.List.{nil_from_length}
use Rattle.tc_scan.specs.Views.{written_name}
use Rattle.tc_xml.proofs.EndTagLaws.{unprefixed_again, prefixed_again, if_some}
use Rattle.tc_xml.proofs.spelled.after_name.Goals as goal

pub returns-then-is_empty-clause-names : goal.returns-then-is_empty-clause-names
returns-then-is_empty-clause-names c =
    let prefix = (written_name c.args.name.now).prefix in
    let none : prefix ≡ [] = nil_from_length prefix (eqb-true (length prefix) 0 (sym c.if-is_empty.ensures)) in
    if_some _ _ _ c.after_mark.result c.after_mark.ensures (λ r e bs past after q f. unprefixed_again q c.args.text.now r.now after none e f)

pub returns-clause-names : goal.returns-clause-names
returns-clause-names c =
    let prefix = (written_name c.args.name.now).prefix in
    let some = λ (q : prefix ≡ []). true≢false (sym (ap (λ w. length w == 0) q) ∙ sym c.if-is_empty.ensures) in
    if_some _ _ _ c.after_mark-3.result c.after_mark-3.ensures
    (λ r e bs past after q f. prefixed_again q c.args.text.now c.in_ok-after_mark.field-0.now c.in_ok-local.local.now r.now after some c.in_ok-after_mark.ensures c.in_ok-local.ensures e f)
