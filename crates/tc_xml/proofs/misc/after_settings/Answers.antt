use Rattle.std.proofs.Common.{◌≡◌, ◌++◌, sym, ◌∙◌, List, ℕ, codes}
use Rattle.tc_base.specs.declared.reasons.Why.{Why}
use Rattle.tc_base.specs.declared.reasons.Why.TheVariants.{Encoding}
use Rattle.tc_model.specs.XmlTextBytes.{after_white}
use Rattle.tc_model.specs.XmlTextMisc.{SettingAt, IsReadEncoding, EncodingAt, StandaloneAt}
use Rattle.tc_xml.specs.Refusals.{Refuses, UnsupportedAt, OnMalformed}
use Rattle.tc_tags.proofs.FailedLaws.{failed_ok}
use Rattle.tc_xml.proofs.MiscLaws.{no_standing, no_declaration_end}
use Rattle.tc_xml.proofs.MalformedLaws.{of_malformed, of_breaks, read_encoding_not_refused}
use Rattle.tc_xml.proofs.DocumentLaws.{breaks_nowhere}
use Rattle.tc_xml.proofs.ContentLaws.{broken, failed, refuse_both}
use Rattle.tc_xml.proofs.misc.after_settings.Goals as goal

pub returns-in_err-past_encoding-clause-no : goal.returns-in_err-past_encoding-clause-no
returns-in_err-past_encoding-clause-no c =
    let t = c.args.text.now in
    let e = c.in_err-past_encoding.field-0.0 in
    let A = (encoding standalone after : List ℕ) → EncodingAt t encoding → StandaloneAt encoding standalone → after_white standalone ≡ codes "?>" ++ after → ⊥ in
    failed c.from_residual.result (λ e. Refuses e A A) e c.from_residual.ensures.1
    (refuse_both e _ A _ A (λ k m s after x t q. k m x) (λ k m s after x t q. k m x) c.in_err-past_encoding.ensures.no)

pub returns-in_err-past_encoding-clause-stands : goal.returns-in_err-past_encoding-clause-stands
returns-in_err-past_encoding-clause-stands c =
    let t = c.args.text.now in
    let P = λ (why : Why) (at : List ℕ). (why ≡ Encoding) × (at ≡ after_white t) × ((value : List ℕ) × (after : List ℕ) × SettingAt (codes "encoding") t value after × (IsReadEncoding value → ⊥)) in
    failed c.from_residual.result (λ e. UnsupportedAt e P) c.in_err-past_encoding.field-0.0 c.from_residual.ensures.1 c.in_err-past_encoding.ensures.stands

pub returns-in_err-past_encoding-clause-malformed : goal.returns-in_err-past_encoding-clause-malformed
returns-in_err-past_encoding-clause-malformed c =
    let t = c.args.text.now in
    let e = c.in_err-past_encoding.field-0.0 in
    let Q = (value after : List ℕ) → SettingAt (codes "encoding") t value after → (IsReadEncoding value → ⊥) → ⊥ in
    failed c.from_residual.result (λ e. OnMalformed e Q) e c.from_residual.ensures.1 (of_malformed e _ Q (λ k value after s n. k value after s) c.in_err-past_encoding.ensures.malformed)

pub returns-in-Err-clause-no : goal.returns-in-Err-clause-no
returns-in-Err-clause-no c =
    let t = c.args.text.now in
    let A = (encoding standalone after : List ℕ) → EncodingAt t encoding → StandaloneAt encoding standalone → after_white standalone ≡ codes "?>" ++ after → ⊥ in
    let none : ((a : List ℕ) → StandaloneAt c.in_ok-past_encoding.past_encoding.now a → ⊥) → A = no_standing t c.in_ok-past_encoding.past_encoding.now c.in_ok-past_encoding.ensures.ok in
    broken c.in-Err.stop _ A A none none c.in-Err.ensures.no

pub returns-in-Err-clause-stands : goal.returns-in-Err-clause-stands
returns-in-Err-clause-stands c =
    breaks_nowhere c.in-Err.stop _ _ c.in-Err.ensures.no

pub returns-in-Err-clause-malformed : goal.returns-in-Err-clause-malformed
returns-in-Err-clause-malformed c =
    let t = c.args.text.now in
    let Q = (value after : List ℕ) → SettingAt (codes "encoding") t value after → (IsReadEncoding value → ⊥) → ⊥ in
    of_breaks c.in-Err.stop _ Q (λ k. read_encoding_not_refused t c.in_ok-past_encoding.past_encoding.now c.in_ok-past_encoding.ensures.ok) c.in-Err.ensures.no

pub returns-in-Some-clause-ok : goal.returns-in-Some-clause-ok
returns-in-Some-clause-ok c =
    (c.in_ok-past_encoding.past_encoding.now, c.in-Ok.past.now, c.in_ok-past_encoding.ensures.ok, c.in-Ok.ensures.ok, sym c.after_white-end.ensures ∙ c.in-Some.ensures)

pub returns-in-None-clause-no : goal.returns-in-None-clause-no
returns-in-None-clause-no c =
    no_declaration_end c.args.text.now c.in_ok-past_encoding.past_encoding.now c.in-Ok.past.now c.after_white-end.result.now c.in_ok-past_encoding.ensures.ok c.in-Ok.ensures.ok c.after_white-end.ensures c.in-None.ensures

pub returns-in-None-clause-malformed : goal.returns-in-None-clause-malformed
returns-in-None-clause-malformed c =
    read_encoding_not_refused c.args.text.now c.in_ok-past_encoding.past_encoding.now c.in_ok-past_encoding.ensures.ok

pub returns-in_err-past_encoding-clause-ok : goal.returns-in_err-past_encoding-clause-ok
returns-in_err-past_encoding-clause-ok c = failed_ok _ _ _ c.from_residual.ensures.1
