use Rattle.std.proofs.Common.{◌≡◌, ℕ, ◌-◌, true, false, List, ap, ◌∙◌, sym, subst, length}
use Rattle.tc_model.specs.XmlTextScopes.{WrittenAttribute}
use Rattle.tc_model.specs.XmlTextBytes.{BeginsWithWhite, after_white}
use Rattle.tc_model.specs.XmlTextNames.{QualifiedName, QNameAt}
use Rattle.tc_model.specs.XmlTextRefusals.{xml_space, AttributesRefuse, space, value, past_attribute}
use Rattle.tc_scan.specs.Views.{written_name}
use Rattle.tc_xml.specs.Refusals.{Refuses, UnsupportedAt, OnMalformed}
use Rattle.tc_xml.specs.Reading.{AttributeAt}
use Rattle.tc_base.specs.declared.reasons.Why.{Why}
use Rattle.tc_tags.proofs.FailedLaws.{failed_ok}
use Rattle.tc_xml.proofs.MalformedLaws.{of_both}
use Rattle.tc_xml.proofs.ContentLaws.{failed, refuse_both, unsupported_map}
use Rattle.tc_xml.proofs.content.attribute.Goals as goal
use Rattle.tc_tags.proofs.FormLaws.{no_equals_refused, no_value_refused, no_equals, no_value, not_xml_space, space_stands, value_stands}

no_white_refused : {text at : List ℕ} {why : Why} → (BeginsWithWhite text → ⊥) → AttributesRefuse text why at → ⊥
no_white_refused h (space w n) = h w
no_white_refused h (value w n f e q) = h w
no_white_refused h (past_attribute w n f e q l) = h w

no_name_refused : {text start at : List ℕ} {why : Why} → start ≡ after_white text → ((name : QualifiedName) (after : List ℕ) → QNameAt start name after → ⊥) → AttributesRefuse text why at → ⊥
no_name_refused is h (space {past_name = p} w n) = h xml_space p (subst (λ z. QNameAt z xml_space p) (sym is) n)
no_name_refused is h (value {past_name = p} {name = m} w n f e q) = h m p (subst (λ z. QNameAt z m p) (sym is) n)
no_name_refused is h (past_attribute {past_name = p} {name = m} w n f e q l) = h m p (subst (λ z. QNameAt z m p) (sym is) n)

pub returns-in_default-clause-no : goal.returns-in_default-clause-no
returns-in_default-clause-no c = λ a after at. c.in_default.ensures at.white

pub returns-in_default-clause-malformed : goal.returns-in_default-clause-malformed
returns-in_default-clause-malformed c = λ why at a. no_white_refused c.in_default.ensures a

pub returns-in_default-qname-clause-no : goal.returns-in_default-qname-clause-no
returns-in_default-qname-clause-no c = λ a after at. c.in_default-qname.ensures a.name at.past_name (subst (λ z. QNameAt z a.name at.past_name) (sym c.in-Some.ensures.1) at.names)

pub returns-in_default-qname-clause-malformed : goal.returns-in_default-qname-clause-malformed
returns-in_default-qname-clause-malformed c = λ why at a. no_name_refused c.in-Some.ensures.1 c.in_default-qname.ensures a

pub returns-then-is_xml_space-clause-no : goal.returns-then-is_xml_space-clause-no
returns-then-is_xml_space-clause-no c =
    not_xml_space false c.args.total c.args.text.now c.in-Some.start.now c.in-Some-qname.behind.now (written_name c.in-Some-qname.name) c.in-Some.ensures.1 c.in-Some-qname.ensures c.if-is_xml_space.ensures

pub returns-then-is_xml_space-clause-stands : goal.returns-then-is_xml_space-clause-stands
returns-then-is_xml_space-clause-stands c =
    space_stands c.args.text.now c.in-Some.start.now c.in-Some-qname.behind.now (written_name c.in-Some-qname.name) c.in-Some.ensures.0 c.in-Some.ensures.1 c.in-Some-qname.ensures c.if-is_xml_space.ensures

pub returns-in_default-after_equals-clause-no : goal.returns-in_default-after_equals-clause-no
returns-in_default-after_equals-clause-no c =
    no_equals true c.args.total c.args.text.now c.in-Some.start.now c.in-Some-qname.behind.now (written_name c.in-Some-qname.name) c.in-Some.ensures.1 c.in-Some-qname.ensures c.in_default-after_equals.ensures

pub returns-in_err-value-clause-no : goal.returns-in_err-value-clause-no
returns-in_err-value-clause-no c =
    let t = c.args.text.now in
    let e = c.in_err-value.field-0.0 in
    let A = (a : WrittenAttribute) (after : List ℕ) → AttributeAt true c.args.total t a after → ⊥ in
    let B = (a : WrittenAttribute) (after : List ℕ) → AttributeAt false c.args.total t a after → ⊥ in
    failed c.from_residual.result (λ e. Refuses e A B) e c.from_residual.ensures.1
    (refuse_both e _ A _ B
    (no_value true c.args.total t c.in-Some.start.now c.in-Some-qname.behind.now c.in-Some-after_equals.equals.now (written_name c.in-Some-qname.name) c.in-Some.ensures.1 c.in-Some-qname.ensures c.in-Some-after_equals.ensures)
    (no_value false c.args.total t c.in-Some.start.now c.in-Some-qname.behind.now c.in-Some-after_equals.equals.now (written_name c.in-Some-qname.name) c.in-Some.ensures.1 c.in-Some-qname.ensures c.in-Some-after_equals.ensures)
    c.in_err-value.ensures.no)

pub returns-in_err-value-clause-stands : goal.returns-in_err-value-clause-stands
returns-in_err-value-clause-stands c =
    let t = c.args.text.now in
    let e = c.in_err-value.field-0.0 in
    failed c.from_residual.result (λ e. UnsupportedAt e (AttributesRefuse t)) e c.from_residual.ensures.1
    (unsupported_map e _ (AttributesRefuse t)
    (value_stands t c.in-Some.start.now c.in-Some-qname.behind.now c.in-Some-after_equals.equals.now (written_name c.in-Some-qname.name) c.in-Some.ensures.0 c.in-Some.ensures.1 c.in-Some-qname.ensures c.if-is_xml_space.ensures c.in-Some-after_equals.ensures)
    c.in_err-value.ensures.stands)

pub returns-in_default-after_equals-clause-malformed : goal.returns-in_default-after_equals-clause-malformed
returns-in_default-after_equals-clause-malformed c =
    no_equals_refused c.args.text.now c.in-Some.start.now c.in-Some-qname.behind.now (written_name c.in-Some-qname.name) c.in-Some.ensures.1 c.in-Some-qname.ensures c.if-is_xml_space.ensures
    c.in_default-after_equals.ensures

pub returns-in_err-value-clause-malformed : goal.returns-in_err-value-clause-malformed
returns-in_err-value-clause-malformed c =
    let e = c.in_err-value.field-0.0 in
    let Q = (why : Why) (at : List ℕ) → AttributesRefuse c.args.text.now why at → ⊥ in
    failed c.from_residual.result (λ e. OnMalformed e Q) e c.from_residual.ensures.1
    (of_both e _ _ _ Q
    (no_value_refused c.args.text.now c.in-Some.start.now c.in-Some-qname.behind.now c.in-Some-after_equals.equals.now (written_name c.in-Some-qname.name) c.in-Some.ensures.1 c.in-Some-qname.ensures
    c.if-is_xml_space.ensures c.in-Some-after_equals.ensures)
    c.in_err-value.ensures.no c.in_err-value.ensures.malformed)

pub returns-clause-ok : goal.returns-clause-ok
returns-clause-ok c = record {
  past_name = c.in-Some-qname.behind.now;
  start = c.in-Some-after_equals.equals.now;
  white = c.in-Some.ensures.0;
  names = subst (λ z. QNameAt z (written_name c.in-Some-qname.name) c.in-Some-qname.behind.now) c.in-Some.ensures.1 c.in-Some-qname.ensures;
  equals = c.in-Some-after_equals.ensures;
  quoted = c.in_ok-value.ensures.ok;
  stands = c.place_of-place.ensures ∙ ap (λ w. c.args.total - length w) c.in-Some.ensures.1;
  no_space = sym c.if-is_xml_space.ensures;
}

pub returns-in_err-value-clause-ok : goal.returns-in_err-value-clause-ok
returns-in_err-value-clause-ok c = failed_ok _ _ _ c.from_residual.ensures.1
