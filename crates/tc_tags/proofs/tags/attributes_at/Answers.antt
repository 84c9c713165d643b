use Rattle.std.proofs.Common.{List, ℕ, true, false, sym, subst, IsTrue, rules}
use Rattle.tc_base.specs.declared.reasons.Why.{Why}
use Rattle.tc_model.specs.XmlTextBytes.{after_white}
use Rattle.tc_model.specs.XmlTextContent.{AttributesAt, EndsTag}
use Rattle.tc_model.specs.XmlTextRefusals.{AttributesRefuse}
use Rattle.tc_model.specs.XmlTextScopes.{WrittenAttribute}
use Rattle.tc_tags.specs.Forms.{Refuses, UnsupportedAt, OnMalformed, lacks_space}
use Rattle.tc_tags.proofs.FormLaws.{failed, refuse_both, unsupported_map, of_malformed, no_attributes, attribute_within}
use Rattle.tc_tags.proofs.TagReadLaws.{taken_none, taken_more, taken_room, taken_all}
use Rattle.tc_tags.proofs.FailedLaws.{failed_ok}
use Rattle.tc_tags.proofs.tags.attributes_at.Goals as goal

pub loop-rest-init : goal.loop-rest-init
loop-rest-init c = record { so_far = taken_none c.args.total c.args.text.now c.args.attributes.now.list.items c.requires.none; text = c.utf8.text }

pub returns-in_err-attribute-clause-no : goal.returns-in_err-attribute-clause-no
returns-in_err-attribute-clause-no c =
    let t = c.args.text.now in
    let n = c.args.total in
    let e = c.in_err-attribute.field-0.0 in
    let rest = c.loop-rest.rest.now in
    let s = c.loop-rest.invariant.so_far in
    let ends : EndsTag (after_white rest) → ⊥ = λ k. c.loop-rest-test.ensures (subst EndsTag (sym c.after_white.ensures) k) in
    let A = (l : List WrittenAttribute) (after : List ℕ) → AttributesAt true n t l after → IsTrue (lacks_space l) → ⊥ in
    let B = (l : List WrittenAttribute) (after : List ℕ) → AttributesAt false n t l after → IsTrue (lacks_space l) → ⊥ in
    failed c.from_residual.result (λ e. Refuses e A B) e c.from_residual.ensures.1
    (refuse_both e _ A _ B (no_attributes true n t rest s.ws s.read ends) (no_attributes false n t rest s.ws s.read ends) c.in_err-attribute.ensures.no)

pub returns-in_err-attribute-clause-stands : goal.returns-in_err-attribute-clause-stands
returns-in_err-attribute-clause-stands c =
    let e = c.in_err-attribute.field-0.0 in
    failed c.from_residual.result (λ e. UnsupportedAt c.args.total e (AttributesRefuse c.args.text.now)) e c.from_residual.ensures.1
    (unsupported_map c.args.total e _ (AttributesRefuse c.args.text.now) c.loop-rest.invariant.so_far.read.stands c.in_err-attribute.ensures.stands)

pub returns-in_err-attribute-clause-malformed : goal.returns-in_err-attribute-clause-malformed
returns-in_err-attribute-clause-malformed c =
    let e = c.in_err-attribute.field-0.0 in
    let Q = (why : Why) (at : List ℕ) → AttributesRefuse c.args.text.now why at → ⊥ in
    failed c.from_residual.result (λ e. OnMalformed e Q) e c.from_residual.ensures.1
    (of_malformed e _ Q (λ h why at a. h why at (c.loop-rest.invariant.so_far.read.comes why at a)) c.in_err-attribute.ensures.malformed)

pub push-requires : goal.push-requires
push-requires c =
    let (w, at, stands) = c.in_ok-attribute.ensures.ok in
    taken_room c.args.total c.args.text.now c.loop-rest.rest.now c.in_ok-attribute.after.now c.loop-rest.attributes.list.items w c.loop-rest.invariant.so_far at c.requires.within c.requires.short

pub loop-rest-smaller : goal.loop-rest-smaller
loop-rest-smaller c = let (w, at, stands) = c.in_ok-attribute.ensures.ok in attribute_within at

pub loop-rest-preserved : goal.loop-rest-preserved
loop-rest-preserved c = record {
  so_far = taken_more c.args.total c.args.text.now c.loop-rest.rest.now c.in_ok-attribute.after.now c.loop-rest.attributes.list.items c.push.new.self.list.items c.in_ok-attribute.attribute c.loop-rest.invariant.so_far c.in_ok-attribute.ensures.ok c.push.ensures;
  text = search rules;
}

pub returns-clause-ok : goal.returns-clause-ok
returns-clause-ok c =
    let rest = c.loop-rest.rest.now in
    taken_all c.args.total c.args.text.now rest c.after_white-2.result.now c.loop-rest.attributes.list.items c.loop-rest.invariant.so_far (subst EndsTag c.after_white.ensures c.loop-rest-test.ensures) c.after_white-2.ensures

pub returns-in_err-attribute-clause-ok : goal.returns-in_err-attribute-clause-ok
returns-in_err-attribute-clause-ok c = failed_ok _ _ _ c.from_residual.ensures.1

pub returns-clause-no : goal.returns-clause-no
returns-clause-no c = tt

pub returns-clause-stands : goal.returns-clause-stands
returns-clause-stands c = tt

pub returns-clause-malformed : goal.returns-clause-malformed
returns-clause-malformed c = tt
