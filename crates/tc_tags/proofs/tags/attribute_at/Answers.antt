use Rattle.std.proofs.Common.{◌≤◌, List, ℕ, refl, ap, sym, subst, arith, length, true, false}
use Rattle.tc_base.specs.declared.reasons.Why.{Why}
use Rattle.tc_model.specs.XmlTextBytes.{after_white, place_of}
use Rattle.tc_model.specs.XmlTextNames.{QNameAt}
use Rattle.tc_model.specs.XmlTextRefusals.{AttributesRefuse}
use Rattle.tc_model.specs.XmlTextScopes.{WrittenAttribute}
use Rattle.tc_scan.specs.Views.{written_name}
use Rattle.tc_tags.specs.Forms.{AttributeAt, Refuses, UnsupportedAt, OnMalformed}
use Rattle.tc_tags.proofs.FailedLaws.{failed_ok}
use Rattle.tc_tags.proofs.FormLaws.{failed, refuse_both, unsupported_map, of_both, not_xml_space, no_equals, no_value, value_stands, no_name_refused, no_equals_refused, no_value_refused, refused_white, white_within, qname_within, equals_within}
use Rattle.tc_tags.proofs.TagReadLaws.{stop_refuses, stop_stands, stop_malformed, space_here, an_attribute, attribute_stands}
use Rattle.tc_tags.proofs.tags.attribute_at.Goals as goal

pub returns-in_default-clause-no : goal.returns-in_default-clause-no
returns-in_default-clause-no c = stop_refuses c.lacking.result _ _ c.lacking.ensures (λ w after a. c.in_default.ensures a.white)

pub returns-in_default-clause-stands : goal.returns-in_default-clause-stands
returns-in_default-clause-stands c = stop_stands c.args.total c.lacking.result _ c.lacking.ensures

pub returns-in_default-clause-malformed : goal.returns-in_default-clause-malformed
returns-in_default-clause-malformed c = stop_malformed c.lacking.result _ c.lacking.ensures (λ why at a. c.in_default.ensures (refused_white a))

pub returns-in_err-name-clause-no : goal.returns-in_err-name-clause-no
returns-in_err-name-clause-no c =
    let t = c.args.text.now in
    let e = c.in_err-name.field-0.0 in
    let A = (w : WrittenAttribute) (after : List ℕ) → AttributeAt true c.args.total t w after → ⊥ in
    let B = (w : WrittenAttribute) (after : List ℕ) → AttributeAt false c.args.total t w after → ⊥ in
    failed c.from_residual.result (λ e. Refuses e A B) e c.from_residual.ensures.1
    (stop_refuses e A B c.in_err-name.ensures.no.0 (λ w after a. c.in_err-name.ensures.no.1 w.name a.past_name (subst (λ z. QNameAt z w.name a.past_name) (sym c.in-Some.ensures.1) a.names)))

pub returns-in_err-name-clause-stands : goal.returns-in_err-name-clause-stands
returns-in_err-name-clause-stands c =
    let e = c.in_err-name.field-0.0 in
    failed c.from_residual.result (λ e. UnsupportedAt c.args.total e (AttributesRefuse c.args.text.now)) e c.from_residual.ensures.1
    (stop_stands c.args.total e (AttributesRefuse c.args.text.now) c.in_err-name.ensures.no.0)

pub returns-in_err-name-clause-malformed : goal.returns-in_err-name-clause-malformed
returns-in_err-name-clause-malformed c =
    let e = c.in_err-name.field-0.0 in
    let Q = (why : Why) (at : List ℕ) → AttributesRefuse c.args.text.now why at → ⊥ in
    failed c.from_residual.result (λ e. OnMalformed e Q) e c.from_residual.ensures.1
    (stop_malformed e Q c.in_err-name.ensures.no.0 (no_name_refused c.args.text.now c.in-Some.start.now c.in-Some.ensures.1 c.in_err-name.ensures.no.1))

pub returns-then-is_xml_space-clause-no : goal.returns-then-is_xml_space-clause-no
returns-then-is_xml_space-clause-no c =
    not_xml_space false c.args.total c.args.text.now c.in-Some.start.now c.in_ok-name.behind.now (written_name c.in_ok-name.name) c.in-Some.ensures.1 c.in_ok-name.ensures.ok c.if-is_xml_space.ensures

pub returns-then-is_xml_space-clause-stands : goal.returns-then-is_xml_space-clause-stands
returns-then-is_xml_space-clause-stands c =
    let start : length c.in-Some.start.now ≤ c.args.total = omega (arith, ap length c.in-Some.ensures.1, white_within c.args.text.now, c.requires) in
    space_here c.args.total c.args.text.now c.in-Some.start.now c.in_ok-name.behind.now (written_name c.in_ok-name.name) start c.in-Some.ensures.0 c.in-Some.ensures.1 c.in_ok-name.ensures.ok c.if-is_xml_space.ensures

pub returns-in_default-after_equals-clause-no : goal.returns-in_default-after_equals-clause-no
returns-in_default-after_equals-clause-no c =
    stop_refuses c.lacking-in_default-after_equals.result _ _ c.lacking-in_default-after_equals.ensures
    (no_equals true c.args.total c.args.text.now c.in-Some.start.now c.in_ok-name.behind.now (written_name c.in_ok-name.name) c.in-Some.ensures.1 c.in_ok-name.ensures.ok c.in_default-after_equals.ensures)

pub returns-in_default-after_equals-clause-stands : goal.returns-in_default-after_equals-clause-stands
returns-in_default-after_equals-clause-stands c = stop_stands c.args.total c.lacking-in_default-after_equals.result _ c.lacking-in_default-after_equals.ensures

pub returns-in_default-after_equals-clause-malformed : goal.returns-in_default-after_equals-clause-malformed
returns-in_default-after_equals-clause-malformed c =
    stop_malformed c.lacking-in_default-after_equals.result _ c.lacking-in_default-after_equals.ensures
    (no_equals_refused c.args.text.now c.in-Some.start.now c.in_ok-name.behind.now (written_name c.in_ok-name.name) c.in-Some.ensures.1 c.in_ok-name.ensures.ok
    c.if-is_xml_space.ensures c.in_default-after_equals.ensures)

pub returns-in_err-value-clause-no : goal.returns-in_err-value-clause-no
returns-in_err-value-clause-no c =
    let t = c.args.text.now in
    let n = written_name c.in_ok-name.name in
    let e = c.in_err-value.field-0.0 in
    let A = (w : WrittenAttribute) (after : List ℕ) → AttributeAt true c.args.total t w after → ⊥ in
    let B = (w : WrittenAttribute) (after : List ℕ) → AttributeAt false c.args.total t w after → ⊥ in
    failed c.from_residual-in_err-value.result (λ e. Refuses e A B) e c.from_residual-in_err-value.ensures.1
    (refuse_both e _ A _ B
    (no_value true c.args.total t c.in-Some.start.now c.in_ok-name.behind.now c.in-Some-after_equals.equals.now n c.in-Some.ensures.1 c.in_ok-name.ensures.ok c.in-Some-after_equals.ensures)
    (no_value false c.args.total t c.in-Some.start.now c.in_ok-name.behind.now c.in-Some-after_equals.equals.now n c.in-Some.ensures.1 c.in_ok-name.ensures.ok c.in-Some-after_equals.ensures)
    c.in_err-value.ensures.no)

pub returns-in_err-value-clause-stands : goal.returns-in_err-value-clause-stands
returns-in_err-value-clause-stands c =
    let t = c.args.text.now in
    let n = written_name c.in_ok-name.name in
    let e = c.in_err-value.field-0.0 in
    let space = c.if-is_xml_space.ensures in
    failed c.from_residual-in_err-value.result (λ e. UnsupportedAt c.args.total e (AttributesRefuse t)) e c.from_residual-in_err-value.ensures.1
    (unsupported_map c.args.total e _ (AttributesRefuse t)
    (value_stands t c.in-Some.start.now c.in_ok-name.behind.now c.in-Some-after_equals.equals.now n c.in-Some.ensures.0 c.in-Some.ensures.1 c.in_ok-name.ensures.ok space c.in-Some-after_equals.ensures)
    c.in_err-value.ensures.stands)

pub returns-in_err-value-clause-malformed : goal.returns-in_err-value-clause-malformed
returns-in_err-value-clause-malformed c =
    let n = written_name c.in_ok-name.name in
    let e = c.in_err-value.field-0.0 in
    let Q = (why : Why) (at : List ℕ) → AttributesRefuse c.args.text.now why at → ⊥ in
    let space = c.if-is_xml_space.ensures in
    failed c.from_residual-in_err-value.result (λ e. OnMalformed e Q) e c.from_residual-in_err-value.ensures.1
    (of_both e _ _ _ Q
    (no_value_refused c.args.text.now c.in-Some.start.now c.in_ok-name.behind.now c.in-Some-after_equals.equals.now n c.in-Some.ensures.1 c.in_ok-name.ensures.ok space c.in-Some-after_equals.ensures)
    c.in_err-value.ensures.no c.in_err-value.ensures.malformed)

pub returns-clause-ok : goal.returns-clause-ok
returns-clause-ok c =
    let t = c.args.text.now in
    let n = written_name c.in_ok-name.name in
    let (v, read) = c.in_ok-value.ensures.ok in
    let place = place_of c.args.total (after_white t) in
    let space = sym c.if-is_xml_space.ensures in (
      record { name = n; value = v; place = place },
      an_attribute t c.in-Some.start.now c.in_ok-name.behind.now c.in-Some-after_equals.equals.now c.in_ok-value.rest.now c.args.total n v c.in_ok-value.value c.in_ok-value.quote c.in-Some.ensures.0 c.in-Some.ensures.1 c.in_ok-name.ensures.ok
          c.in-Some-after_equals.ensures read space,
      λ front long utf8. attribute_stands front t c.in-Some.start.now c.in_ok-name.behind.now c.in-Some-after_equals.equals.now c.in_ok-value.rest.now c.args.total n v c.in_ok-value.value c.in_ok-value.quote _ place c.in-Some.ensures.1
          c.in_ok-name.ensures.ok c.in-Some-after_equals.ensures read c.spans-parts.ensures refl refl long utf8,
    )

pub name_at-requires : goal.name_at-requires
name_at-requires c = let same = ap length c.in-Some.ensures.1 in let fits = c.requires in omega (arith, same, white_within c.args.text.now, fits)

pub value_at-requires : goal.value_at-requires
value_at-requires c =
    let same = ap length c.in-Some.ensures.1 in
    let fits = c.requires in
    omega (arith, same, white_within c.args.text.now, fits, qname_within c.in_ok-name.ensures.ok, equals_within c.in-Some-after_equals.ensures)

pub spans-parts-requires-clause-within : goal.spans-parts-requires-clause-within
spans-parts-requires-clause-within c = let same = ap length c.in-Some.ensures.1 in let fits = c.requires in omega (arith, same, white_within c.args.text.now, fits)

pub spans-parts-requires-clause-named : goal.spans-parts-requires-clause-named
spans-parts-requires-clause-named c = (c.in_ok-name.behind.now, c.in_ok-name.ensures.ok)

pub overflow_sub-result : goal.overflow_sub-result
overflow_sub-result c = let same = ap length c.in-Some.ensures.1 in let fits = c.requires in omega (arith, same, white_within c.args.text.now, fits)

pub returns-in_default-clause-ok : goal.returns-in_default-clause-ok
returns-in_default-clause-ok c = tt

pub returns-in_err-name-clause-ok : goal.returns-in_err-name-clause-ok
returns-in_err-name-clause-ok c = failed_ok _ _ _ c.from_residual.ensures.1

pub returns-then-is_xml_space-clause-ok : goal.returns-then-is_xml_space-clause-ok
returns-then-is_xml_space-clause-ok c = tt

pub returns-then-is_xml_space-clause-malformed : goal.returns-then-is_xml_space-clause-malformed
returns-then-is_xml_space-clause-malformed c = tt

pub returns-in_default-after_equals-clause-ok : goal.returns-in_default-after_equals-clause-ok
returns-in_default-after_equals-clause-ok c = tt

pub returns-in_err-value-clause-ok : goal.returns-in_err-value-clause-ok
returns-in_err-value-clause-ok c = failed_ok _ _ _ c.from_residual-in_err-value.ensures.1

pub returns-clause-no : goal.returns-clause-no
returns-clause-no c = tt

pub returns-clause-stands : goal.returns-clause-stands
returns-clause-stands c = tt

pub returns-clause-malformed : goal.returns-clause-malformed
returns-clause-malformed c = tt
