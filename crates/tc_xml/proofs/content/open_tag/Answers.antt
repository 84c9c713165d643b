use Rattle.std.proofs.Common.{List, ℕ, true, false, sym, map, subst, ◌∙◌}
use Rattle.tc_model.specs.Names.{ExpandedName}
use Rattle.tc_model.specs.RawTrees.{Attribute, Bound}
use Rattle.tc_model.specs.XmlTextNames.{QualifiedName, QNameAt}
use Rattle.tc_model.specs.XmlTextContent.{AttributesAt, TagAt}
use Rattle.tc_scan.specs.Views.{written_name}
use Rattle.tc_xml.specs.Refusals.{Refuses, UnsupportedAt, OnMalformed}
use Rattle.tc_xml.specs.Tags.{written, in_scope}
use Rattle.tc_base.specs.declared.reasons.Why.{Why}
use Rattle.tc_model.specs.XmlTextRefusals.{TagRefuses}
use Rattle.tc_tags.proofs.FailedLaws.{failed_ok}
use Rattle.tc_xml.proofs.MalformedLaws.{of_malformed, of_breaks, no_opening_refused, no_tag_name_refused}
use Rattle.tc_xml.proofs.ContentLaws.{no_list, no_meaning, broken, failed, refuse_both, unsupported_map}
use Rattle.tc_xml.proofs.DocumentLaws.{list_stands, breaks_nowhere}
use Rattle.tc_model.proofs.XmlTextPhrases.{same_others}
use Rattle.tc_xml.proofs.content.open_tag.Goals as goal
use Rattle.tc_tags.proofs.FormLaws.{no_list_refused, read_list_not_refused}

pub returns-in_err-list-clause-no : goal.returns-in_err-list-clause-no
returns-in_err-list-clause-no c =
    let t = c.args.text.now in
    let n = c.args.total in
    let o = in_scope c.args.outer in
    let e = c.in_err-list.field-0.0 in
    let w = written_name c.in-Some-qname.written in
    let A = (w : QualifiedName) (scope : List Bound) (m : ExpandedName) (x : List Attribute) (after : List ℕ) → TagAt true n o t w scope m x after → ⊥ in
    let B = (w : QualifiedName) (scope : List Bound) (m : ExpandedName) (x : List Attribute) (after : List ℕ) → TagAt false n o t w scope m x after → ⊥ in
    failed c.from_residual.result (λ e. Refuses e A B) e c.from_residual.ensures.1
    (refuse_both e _ A _ B
    (no_list true n o t c.in-Some.start.now c.in-Some-qname.behind.now w c.in-Some.ensures c.in-Some-qname.ensures)
    (no_list false n o t c.in-Some.start.now c.in-Some-qname.behind.now w c.in-Some.ensures c.in-Some-qname.ensures)
    c.in_err-list.ensures.no)

pub returns-in_err-meaning-clause-no : goal.returns-in_err-meaning-clause-no
returns-in_err-meaning-clause-no c =
    let t = c.args.text.now in
    let n = c.args.total in
    let o = in_scope c.args.outer in
    let e = c.in_err-meaning.field-0.0 in
    let w = written_name c.in-Some-qname.written in
    let start = c.in-Some.start.now in
    let behind = c.in-Some-qname.behind.now in
    let rest = c.in_ok-list.rest.now in
    let list = map written c.as_slice.result.now in
    let read : AttributesAt false n behind list rest = subst (λ l. AttributesAt false n behind (map written l) rest) (sym c.as_slice.ensures.value) c.in_ok-list.ensures.ok in
    let A = (w : QualifiedName) (scope : List Bound) (m : ExpandedName) (x : List Attribute) (after : List ℕ) → TagAt true n o t w scope m x after → ⊥ in
    let B = (w : QualifiedName) (scope : List Bound) (m : ExpandedName) (x : List Attribute) (after : List ℕ) → TagAt false n o t w scope m x after → ⊥ in
    failed c.from_residual-in_err-meaning.result (λ e. Refuses e A B) e c.from_residual-in_err-meaning.ensures.1
    (broken e _ A B
    (no_meaning true n o t start behind rest w list c.in-Some.ensures c.in-Some-qname.ensures read)
    (no_meaning false n o t start behind rest w list c.in-Some.ensures c.in-Some-qname.ensures read)
    c.in_err-meaning.ensures.no)

pub returns-in_err-list-clause-malformed : goal.returns-in_err-list-clause-malformed
returns-in_err-list-clause-malformed c =
    let e = c.in_err-list.field-0.0 in
    let Q = (why : Why) (at : List ℕ) → TagRefuses c.args.text.now why at → ⊥ in
    failed c.from_residual.result (λ e. OnMalformed e Q) e c.from_residual.ensures.1
    (of_malformed e _ Q (no_list_refused c.args.text.now c.in-Some.start.now c.in-Some-qname.behind.now (written_name c.in-Some-qname.written) c.in-Some.ensures c.in-Some-qname.ensures)
    c.in_err-list.ensures.malformed)

pub returns-in_err-meaning-clause-malformed : goal.returns-in_err-meaning-clause-malformed
returns-in_err-meaning-clause-malformed c =
    let e = c.in_err-meaning.field-0.0 in
    let Q = (why : Why) (at : List ℕ) → TagRefuses c.args.text.now why at → ⊥ in
    failed c.from_residual-in_err-meaning.result (λ e. OnMalformed e Q) e c.from_residual-in_err-meaning.ensures.1
    (of_breaks e _ Q
    (λ k. read_list_not_refused c.args.total c.args.text.now c.in-Some.start.now c.in-Some-qname.behind.now c.in_ok-list.rest.now (written_name c.in-Some-qname.written) (map written c.in_ok-list.list.items)
    c.in-Some.ensures c.in-Some-qname.ensures c.in_ok-list.ensures.ok c.in_ok-list.ensures.no_space)
    c.in_err-meaning.ensures.no)

pub returns-in_default-clause-no : goal.returns-in_default-clause-no
returns-in_default-clause-no c = λ w scope m x after a. c.in_default.ensures a.rest a.opens

pub returns-in_default-clause-malformed : goal.returns-in_default-clause-malformed
returns-in_default-clause-malformed c = no_opening_refused c.args.text.now c.in_default.ensures

pub returns-in_default-qname-clause-no : goal.returns-in_default-qname-clause-no
returns-in_default-qname-clause-no c = λ w scope m x after a.
    c.in_default-qname.ensures w a.past_name (subst (λ z. QNameAt z w a.past_name) (same_others (sym a.opens ∙ c.in-Some.ensures)) a.names)

pub returns-in_default-qname-clause-malformed : goal.returns-in_default-qname-clause-malformed
returns-in_default-qname-clause-malformed c = no_tag_name_refused c.args.text.now c.in-Some.start.now c.in-Some.ensures c.in_default-qname.ensures

pub returns-in_err-list-clause-stands : goal.returns-in_err-list-clause-stands
returns-in_err-list-clause-stands c =
    let e = c.in_err-list.field-0.0 in
    let P = TagRefuses c.args.text.now in
    failed c.from_residual.result (λ e. UnsupportedAt e P) e c.from_residual.ensures.1
    (unsupported_map e _ P (list_stands c.args.text.now c.in-Some.start.now c.in-Some-qname.behind.now (written_name c.in-Some-qname.written) c.in-Some.ensures c.in-Some-qname.ensures) c.in_err-list.ensures.stands)

pub returns-in_err-meaning-clause-stands : goal.returns-in_err-meaning-clause-stands
returns-in_err-meaning-clause-stands c =
    let e = c.in_err-meaning.field-0.0 in
    let P = TagRefuses c.args.text.now in
    failed c.from_residual-in_err-meaning.result (λ e. UnsupportedAt e P) e c.from_residual-in_err-meaning.ensures.1 (breaks_nowhere e _ P c.in_err-meaning.ensures.no)

pub returns-clause-ok : goal.returns-clause-ok
returns-clause-ok c = record {
  rest = c.in-Some.start.now;
  past_name = c.in-Some-qname.behind.now;
  attributes = map written c.as_slice.result.now;
  opens = c.in-Some.ensures;
  names = c.in-Some-qname.ensures;
  lists = subst (λ l. AttributesAt false c.args.total c.in-Some-qname.behind.now (map written l) c.in_ok-list.rest.now) (sym c.as_slice.ensures.value) c.in_ok-list.ensures.ok;
  means = c.in_ok-meaning.ensures.ok;
}

pub returns-in_err-list-clause-ok : goal.returns-in_err-list-clause-ok
returns-in_err-list-clause-ok c = failed_ok _ _ _ c.from_residual.ensures.1

pub returns-in_err-meaning-clause-ok : goal.returns-in_err-meaning-clause-ok
returns-in_err-meaning-clause-ok c = failed_ok _ _ _ c.from_residual-in_err-meaning.ensures.1
