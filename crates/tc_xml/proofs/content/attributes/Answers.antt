use Rattle.std.proofs.Common.{List, ℕ, true, false, sym, map, IsTrue, ◌∷◌, [], subst, ap, ◌∙◌, rules}
use Rattle.std.proofs.lemmas.List.{map-append}
use Rattle.tc_model.specs.XmlTextScopes.{WrittenAttribute}
use Rattle.tc_model.specs.XmlTextContent.{AttributesAt, EndsTag}
use Rattle.tc_model.specs.XmlTextBytes.{after_white}
use Rattle.tc_model.specs.XmlTextRefusals.{AttributesRefuse}
use Rattle.tc_xml.specs.Refusals.{Refuses, UnsupportedAt}
use Rattle.tc_xml.specs.Tags.{written, lacks_space}
use Rattle.tc_tags.proofs.FailedLaws.{failed_ok}
use Rattle.tc_xml.proofs.MemoryLaws.{out_malformed, out_refuses, out_stands}
use Rattle.tc_xml.proofs.ContentLaws.{attributes_more, failed, refuse_both, unsupported_map}
use Rattle.tc_xml.proofs.content.attributes.Goals as goal
use Rattle.tc_tags.proofs.FormLaws.{all_attributes, attribute_within, no_attributes, Attributes}

pub returns-in_err-written-clause-no : goal.returns-in_err-written-clause-no
returns-in_err-written-clause-no c =
    let t = c.args.text.now in
    let n = c.args.total in
    let e = c.in_err-written.field-0.0 in
    let rest = c.loop-rest.rest.now in
    let found = map written c.loop-rest.found.items in
    let s = c.loop-rest.invariant.so_far in
    let ends : EndsTag (after_white rest) → ⊥ = λ k. c.loop-rest-test.ensures (subst EndsTag (sym c.after_white.ensures) k) in
    let A = (l : List WrittenAttribute) (after : List ℕ) → AttributesAt true n t l after → IsTrue (lacks_space l) → ⊥ in
    let B = (l : List WrittenAttribute) (after : List ℕ) → AttributesAt false n t l after → IsTrue (lacks_space l) → ⊥ in
    failed c.from_residual.result (λ e. Refuses e A B) e c.from_residual.ensures.1
    (refuse_both e _ A _ B (no_attributes true n t rest found s ends) (no_attributes false n t rest found s ends) c.in_err-written.ensures.no)

pub returns-in_err-written-clause-stands : goal.returns-in_err-written-clause-stands
returns-in_err-written-clause-stands c =
    let e = c.in_err-written.field-0.0 in
    failed c.from_residual.result (λ e. UnsupportedAt e (AttributesRefuse c.args.text.now)) e c.from_residual.ensures.1
    (unsupported_map e _ (AttributesRefuse c.args.text.now) c.loop-rest.invariant.so_far.stands c.in_err-written.ensures.stands)

pub loop-rest-smaller : goal.loop-rest-smaller
loop-rest-smaller c = attribute_within c.in_ok-written.ensures.ok

pub loop-rest-preserved : goal.loop-rest-preserved
loop-rest-preserved c = record {
  so_far =
      let found = c.loop-rest.found.items in
      let one = c.in_ok-written.written in
      subst (Attributes c.args.total c.args.text.now c.in_ok-written.after.now) (sym (ap (map written) c.in_ok-push.ensures.items ∙ map-append written found (one ∷ [])))
      (attributes_more c.args.total c.args.text.now c.loop-rest.rest.now c.in_ok-written.after.now (map written found) (written one) c.loop-rest.invariant.so_far c.in_ok-written.ensures.ok);
  text = search rules;
}

pub returns-clause-ok : goal.returns-clause-ok
returns-clause-ok c =
    let rest = c.loop-rest.rest.now in
    all_attributes c.args.total c.args.text.now rest c.after_white-2.result.now (map written c.loop-rest.found.items) c.loop-rest.invariant.so_far
    (subst EndsTag c.after_white.ensures c.loop-rest-test.ensures) c.after_white-2.ensures

pub returns-in_err-written-clause-ok : goal.returns-in_err-written-clause-ok
returns-in_err-written-clause-ok c = failed_ok _ _ _ c.from_residual.ensures.1

pub returns-in_err-written-clause-no_space : goal.returns-in_err-written-clause-no_space
returns-in_err-written-clause-no_space c = failed_ok _ _ _ c.from_residual.ensures.1

pub returns-in_err-push-clause-ok : goal.returns-in_err-push-clause-ok
returns-in_err-push-clause-ok c = failed_ok _ _ _ c.from_residual-in_err-push.ensures.1

pub returns-in_err-push-clause-no_space : goal.returns-in_err-push-clause-no_space
returns-in_err-push-clause-no_space c = failed_ok _ _ _ c.from_residual-in_err-push.ensures.1

pub returns-in_err-push-clause-no : goal.returns-in_err-push-clause-no
returns-in_err-push-clause-no c = out_refuses _ _ _ c.from_residual-in_err-push.ensures.1

pub returns-in_err-push-clause-stands : goal.returns-in_err-push-clause-stands
returns-in_err-push-clause-stands c = out_stands _ _ c.from_residual-in_err-push.ensures.1

pub returns-in_err-push-clause-malformed : goal.returns-in_err-push-clause-malformed
returns-in_err-push-clause-malformed c = out_malformed _ _ c.from_residual-in_err-push.ensures.1
