use Rattle.std.proofs.Common.{◌≡◌, ◌≢◌, ◌==◌, ℕ, false, sym, ap, ◌∙◌, arith, length}
use Rattle.std.proofs.lemmas.Bool.{eqb-true, true≢false}
use Rattle.tc_dtd.specs.DtdTextContents.{MixedAt}
use Rattle.tc_dtd.specs.Stops.{Stops}
use Rattle.tc_dtd.specs.Views.{names}
use Rattle.tc_dtd.proofs.ReaderLaws.{failed}
use Rattle.tc_dtd.proofs.ContentsLaws.{no_members, some_members, names_stop, with_asterisk, without_names, no_asterisk}
use Rattle.tc_dtd.proofs.contents.mixed.Goals as goal

not_zero : (n : ℕ) → false ≡ (n == 0) → n ≢ 0
not_zero n e i = true≢false (sym (ap (λ m. m == 0) i) ∙ sym e)

pub returns-in_err-names-clause-no : goal.returns-in_err-names-clause-no
returns-in_err-names-clause-no c =
    let e = c.in_err-names.field-0.0 in
    failed c.from_residual.result (λ e. Stops e (MixedAt c.args.text.now)) e c.from_residual.ensures.1 (names_stop c.args.text.now e c.in_err-names.ensures.no)

pub returns-in-Some-clause-ok : goal.returns-in-Some-clause-ok
returns-in-Some-clause-ok c = with_asterisk c.args.text.now c.in_ok-names.rest.now c.in-Some.after.now (names c.in_ok-names.names.now) c.in_ok-names.ensures.ok c.in-Some.ensures

pub returns-then-is_empty-clause-ok : goal.returns-then-is_empty-clause-ok
returns-then-is_empty-clause-ok c = without_names c.args.text.now c.in_ok-names.rest.now (names c.in_ok-names.names.now) c.in_ok-names.ensures.ok c.in_default.ensures (no_members c.in_ok-names.names.now (omega (arith, eqb-true (length c.in_ok-names.names.now) 0 (sym (c.if-is_empty.ensures)))))

pub returns-clause-no : goal.returns-clause-no
returns-clause-no c = no_asterisk c.args.text.now c.in_ok-names.rest.now (names c.in_ok-names.names.now) c.unexpected.result c.in_ok-names.ensures.ok c.in_default.ensures (some_members c.in_ok-names.names.now (not_zero (length c.in_ok-names.names.now) c.if-is_empty.ensures)) c.unexpected.ensures
