use Rattle.std.proofs.Common.{List, ℕ, subst}
use Rattle.tc_base.specs.declared.reasons.Why.{Why}
use Rattle.tc_model.specs.XmlText.{after_mark, deepest_element}
use Rattle.tc_model.specs.XmlTextMisc.{DeclarationAt, MiscAt, DoctypeAt}
use Rattle.tc_model.specs.XmlTextRefusals.{Cause, unsupported, DocumentRefuses}
use Rattle.tc_xml.specs.Refusals.{Refuses, UnsupportedAt, OnMalformed}
use Rattle.tc_tags.proofs.FailedLaws.{failed_ok}
use Rattle.tc_xml.proofs.ContentLaws.{broken, failed, refuse_both, unsupported_map}
use Rattle.tc_xml.proofs.DocumentLaws.{no_declaration_before, no_misc_before, no_doctype_before, declaration_stands, subset_stands, breaks_nowhere}
use Rattle.tc_xml.proofs.MalformedLaws.{of_breaks, of_both, err_both, no_declaration_refused, no_misc_refused, no_doctype_refused}
use Rattle.tc_xml.proofs.MiscLaws.{map_ok, map_err}
use Rattle.tc_xml.proofs.document.before_root.Goals as goal

pub returns-in_err-past_declaration-clause-no : goal.returns-in_err-past_declaration-clause-no
returns-in_err-past_declaration-clause-no c =
    let t = c.args.text.now in
    let e = c.in_err-past_declaration.field-0.0 in
    let A = (d m root : List ℕ) → DeclarationAt (after_mark t) d → MiscAt d m → DoctypeAt m root → ⊥ in
    let start = c.past_mark-start.result.now in
    failed c.from_residual.result (λ e. Refuses e A A) e c.from_residual.ensures.1
    (refuse_both e _ A _ A (no_declaration_before t start c.past_mark-start.ensures) (no_declaration_before t start c.past_mark-start.ensures) c.in_err-past_declaration.ensures.no)

pub returns-in_err-past_declaration-clause-stands : goal.returns-in_err-past_declaration-clause-stands
returns-in_err-past_declaration-clause-stands c =
    let t = c.args.text.now in
    let e = c.in_err-past_declaration.field-0.0 in
    let P = λ (why : Why) (at : List ℕ). DocumentRefuses deepest_element t (unsupported why) at in
    failed c.from_residual.result (λ e. UnsupportedAt e P) e c.from_residual.ensures.1
    (unsupported_map e _ P (declaration_stands deepest_element t c.past_mark-start.result.now c.past_mark-start.ensures) c.in_err-past_declaration.ensures.stands)

pub returns-in_err-past_declaration-clause-malformed : goal.returns-in_err-past_declaration-clause-malformed
returns-in_err-past_declaration-clause-malformed c =
    let t = c.args.text.now in
    let e = c.in_err-past_declaration.field-0.0 in
    let Q = (cause : Cause) (at : List ℕ) → DocumentRefuses deepest_element t cause at → ⊥ in
    failed c.from_residual.result (λ e. OnMalformed e Q) e c.from_residual.ensures.1
    (of_both e _ _ _ Q (no_declaration_refused deepest_element t c.past_mark-start.result.now c.past_mark-start.ensures) c.in_err-past_declaration.ensures.no c.in_err-past_declaration.ensures.malformed)

pub returns-in_err-past_misc-clause-no : goal.returns-in_err-past_misc-clause-no
returns-in_err-past_misc-clause-no c =
    let t = c.args.text.now in
    let e = c.in_err-past_misc.field-0.0 in
    let A = (d m root : List ℕ) → DeclarationAt (after_mark t) d → MiscAt d m → DoctypeAt m root → ⊥ in
    let none : ((after : List ℕ) → MiscAt c.in_ok-past_declaration.past_declaration.now after → ⊥) → A = no_misc_before t c.past_mark-start.result.now c.in_ok-past_declaration.past_declaration.now c.past_mark-start.ensures c.in_ok-past_declaration.ensures.ok in
    failed c.from_residual-in_err-past_misc.result (λ e. Refuses e A A) e c.from_residual-in_err-past_misc.ensures.1 (broken e _ A A none none c.in_err-past_misc.ensures.no)

pub returns-in_err-past_misc-clause-stands : goal.returns-in_err-past_misc-clause-stands
returns-in_err-past_misc-clause-stands c =
    let t = c.args.text.now in
    let e = c.in_err-past_misc.field-0.0 in
    let P = λ (why : Why) (at : List ℕ). DocumentRefuses deepest_element t (unsupported why) at in
    failed c.from_residual-in_err-past_misc.result (λ e. UnsupportedAt e P) e c.from_residual-in_err-past_misc.ensures.1 (breaks_nowhere e _ P c.in_err-past_misc.ensures.no)

pub returns-in_err-past_misc-clause-malformed : goal.returns-in_err-past_misc-clause-malformed
returns-in_err-past_misc-clause-malformed c =
    let t = c.args.text.now in
    let e = c.in_err-past_misc.field-0.0 in
    let Q = (cause : Cause) (at : List ℕ) → DocumentRefuses deepest_element t cause at → ⊥ in
    failed c.from_residual-in_err-past_misc.result (λ e. OnMalformed e Q) e c.from_residual-in_err-past_misc.ensures.1
    (of_breaks e _ Q (no_misc_refused deepest_element t c.past_mark-start.result.now c.in_ok-past_declaration.past_declaration.now c.past_mark-start.ensures c.in_ok-past_declaration.ensures.ok) c.in_err-past_misc.ensures.no)

pub returns-clause-ok : goal.returns-clause-ok
returns-clause-ok c =
    map_ok _ _ c.after_doctype.result (λ root x. (c.in_ok-past_declaration.past_declaration.now, c.in_ok-past_misc.past_misc.now, subst (λ w. DeclarationAt w c.in_ok-past_declaration.past_declaration.now) c.past_mark-start.ensures c.in_ok-past_declaration.ensures.ok, c.in_ok-past_misc.ensures.ok, x)) c.after_doctype.ensures.ok

pub returns-clause-no : goal.returns-clause-no
returns-clause-no c =
    let t = c.args.text.now in
    let A = (d m root : List ℕ) → DeclarationAt (after_mark t) d → MiscAt d m → DoctypeAt m root → ⊥ in
    let none : ((root : List ℕ) → DoctypeAt c.in_ok-past_misc.past_misc.now root → ⊥) → A = no_doctype_before t c.past_mark-start.result.now c.in_ok-past_declaration.past_declaration.now c.in_ok-past_misc.past_misc.now c.past_mark-start.ensures c.in_ok-past_declaration.ensures.ok c.in_ok-past_misc.ensures.ok in
    map_err _ (λ e. Refuses e A A) c.after_doctype.result (λ e k. refuse_both e _ A _ A none none k) c.after_doctype.ensures.no

pub returns-clause-stands : goal.returns-clause-stands
returns-clause-stands c =
    let t = c.args.text.now in
    let P = λ (why : Why) (at : List ℕ). DocumentRefuses deepest_element t (unsupported why) at in
    map_err _ (λ e. UnsupportedAt e P) c.after_doctype.result
    (λ e k. unsupported_map e _ P (subset_stands deepest_element t c.past_mark-start.result.now c.in_ok-past_declaration.past_declaration.now c.in_ok-past_misc.past_misc.now c.past_mark-start.ensures c.in_ok-past_declaration.ensures.ok c.in_ok-past_misc.ensures.ok) k) c.after_doctype.ensures.stands

pub returns-clause-malformed : goal.returns-clause-malformed
returns-clause-malformed c =
    let t = c.args.text.now in
    let Q = (cause : Cause) (at : List ℕ) → DocumentRefuses deepest_element t cause at → ⊥ in
    err_both c.after_doctype.result _ _ (λ e. OnMalformed e Q)
    (λ e h k. of_both e _ _ _ Q (no_doctype_refused deepest_element t c.past_mark-start.result.now c.in_ok-past_declaration.past_declaration.now c.past_mark-start.ensures c.in_ok-past_declaration.ensures.ok c.in_ok-past_misc.past_misc.now c.in_ok-past_misc.ensures.ok) h k) c.after_doctype.ensures.no c.after_doctype.ensures.malformed

pub returns-in_err-past_declaration-clause-ok : goal.returns-in_err-past_declaration-clause-ok
returns-in_err-past_declaration-clause-ok c = failed_ok _ _ _ c.from_residual.ensures.1

pub returns-in_err-past_misc-clause-ok : goal.returns-in_err-past_misc-clause-ok
returns-in_err-past_misc-clause-ok c = failed_ok _ _ _ c.from_residual-in_err-past_misc.ensures.1
