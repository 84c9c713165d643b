use Rattle.std.proofs.Common.{◌≡◌, sym, List, ℕ, codes}
use Rattle.std.specs.Cmp.Lexicographic.{bytes_decides}
use Rattle.std.proofs.lemmas.Bool.{not-false}
use Rattle.tc_base.specs.declared.reasons.Why.{Why}
use Rattle.tc_model.specs.XmlTextMisc.{no_declaration, DeclarationAt}
use Rattle.tc_model.specs.XmlTextRefusals.{DeclarationRefuses}
use Rattle.tc_xml.specs.Refusals.{Refuses, UnsupportedAt, OnMalformed}
use Rattle.tc_xml.proofs.MiscLaws.{map_ok, map_err, not_declared, no_version, a_declaration, no_behind_version, version_stands, encoding_stands, no_other_version}
use Rattle.tc_xml.proofs.MalformedLaws.{of_malformed, no_version_refused, no_encoding_refused}
use Rattle.tc_xml.proofs.ContentLaws.{refuse_both, unsupported_map}
use Rattle.tc_xml.proofs.misc.after_declaration.Goals as goal

pub returns-in_default-clause-ok : goal.returns-in_default-clause-ok
returns-in_default-clause-ok c = no_declaration (λ r q w. c.in_default.ensures r q)

pub returns-in_default-after_some_white-clause-ok : goal.returns-in_default-after_some_white-clause-ok
returns-in_default-after_some_white-clause-ok c = not_declared c.args.text.now c.in-Some.rest.now c.in-Some.ensures c.in_default-after_some_white.ensures

pub returns-in_default-setting-clause-no : goal.returns-in_default-setting-clause-no
returns-in_default-setting-clause-no c =
    no_version c.args.text.now c.in-Some.rest.now c.in-Some.ensures c.in-Some-after_some_white.ensures.0 c.in_default-setting.ensures

pub returns-then-ne-clause-stands : goal.returns-then-ne-clause-stands
returns-then-ne-clause-stands c =
    version_stands c.args.text.now c.in-Some.rest.now c.in-Some-after_some_white.start.now c.in-Some-setting.version.now c.in-Some-setting.behind.now
    c.in-Some.ensures c.in-Some-after_some_white.ensures.1 c.in-Some-setting.ensures c.if-ne.ensures

pub returns-in_default-setting-clause-malformed : goal.returns-in_default-setting-clause-malformed
returns-in_default-setting-clause-malformed c = no_version_refused c.args.text.now c.in-Some.rest.now c.in-Some.ensures c.in_default-setting.ensures

pub returns-clause-ok : goal.returns-clause-ok
returns-clause-ok c =
    let is : c.in-Some-setting.version.now ≡ codes "1.0" = (bytes_decides c.in-Some-setting.version.now (codes "1.0")).0 (not-false _ (sym c.if-ne.ensures)) in
    map_ok _ _ c.after_settings.result (λ r k. a_declaration c.args.text.now c.in-Some.rest.now c.in-Some-setting.version.now c.in-Some-setting.behind.now r.now c.in-Some.ensures c.in-Some-setting.ensures is k) c.after_settings.ensures.ok

pub returns-clause-no : goal.returns-clause-no
returns-clause-no c =
    let A = (after : List ℕ) → DeclarationAt c.args.text.now after → ⊥ in
    let none = no_behind_version c.args.text.now c.in-Some.rest.now c.in-Some-setting.version.now c.in-Some-setting.behind.now c.in-Some.ensures c.in-Some-after_some_white.ensures.0 c.in-Some-setting.ensures in
    map_err _ (λ e. Refuses e A A) c.after_settings.result (λ e k. refuse_both e _ A _ A none none k) c.after_settings.ensures.no

pub returns-clause-stands : goal.returns-clause-stands
returns-clause-stands c =
    let is : c.in-Some-setting.version.now ≡ codes "1.0" = (bytes_decides c.in-Some-setting.version.now (codes "1.0")).0 (not-false _ (sym c.if-ne.ensures)) in
    let P = DeclarationRefuses c.args.text.now in
    map_err _ (λ e. UnsupportedAt e P) c.after_settings.result (λ e k. unsupported_map e _ P (encoding_stands c.args.text.now c.in-Some.rest.now c.in-Some-setting.version.now c.in-Some-setting.behind.now c.in-Some.ensures c.in-Some-setting.ensures is) k) c.after_settings.ensures.stands

pub returns-clause-malformed : goal.returns-clause-malformed
returns-clause-malformed c =
    let is : c.in-Some-setting.version.now ≡ codes "1.0" = (bytes_decides c.in-Some-setting.version.now (codes "1.0")).0 (not-false _ (sym c.if-ne.ensures)) in
    let Q = (why : Why) (at : List ℕ) → DeclarationRefuses c.args.text.now why at → ⊥ in
    map_err _ (λ e. OnMalformed e Q) c.after_settings.result
    (λ e k. of_malformed e _ Q (no_encoding_refused c.args.text.now c.in-Some.rest.now c.in-Some-setting.version.now c.in-Some-setting.behind.now c.in-Some.ensures c.in-Some-setting.ensures is) k) c.after_settings.ensures.malformed

pub returns-then-ne-clause-no : goal.returns-then-ne-clause-no
returns-then-ne-clause-no c = no_other_version c.args.text.now c.in-Some.rest.now c.in-Some-setting.version.now c.in-Some-setting.behind.now c.in-Some.ensures c.in-Some-after_some_white.ensures.0 c.in-Some-setting.ensures c.if-ne.ensures
