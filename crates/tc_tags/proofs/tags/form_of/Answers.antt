use Rattle.std.proofs.Common.{List, ℕ, true, false, ap, arith, length, codes}
use Rattle.tc_base.specs.declared.reasons.Why.{Why}
use Rattle.tc_model.specs.XmlTextRefusals.{TagRefuses}
use Rattle.tc_tags.specs.Forms.{Refuses, UnsupportedAt, OnMalformed}
use Rattle.tc_tags.specs.XmlTextTags.{WrittenElement, TagFormAt}
use Rattle.tc_tags.proofs.FormLaws.{failed, refuse_both, unsupported_map, of_malformed, no_list_refused, read_list_not_refused, qname_within, attributes_within}
use Rattle.tc_tags.proofs.TagReadLaws.{stop_refuses, stop_stands, stop_malformed, a_form, form_written, no_form, other_end, no_name, list_refuses, short_name}
use Rattle.tc_tags.specs.declared.tags.Form.{Form}
use Rattle.tc_tags.proofs.FailedLaws.{failed_ok}
use Rattle.tc_tags.proofs.tags.form_of.Goals as goal

pub attributes_at-requires-clause-within : goal.attributes_at-requires-clause-within
attributes_at-requires-clause-within c =
    let (start, name, opens, q, at) = c.in_ok-name.ensures.ok in
    short_name c.args.tag.now start c.in_ok-name.behind.now name opens q

pub returns-in_err-name-clause-no : goal.returns-in_err-name-clause-no
returns-in_err-name-clause-no c =
    let t = c.args.tag.now in
    let e = c.in_err-name.field-0.0 in
    let A = (x : WrittenElement) → TagFormAt true (length t) t x (codes ">") → ⊥ in
    let B = (x : WrittenElement) → TagFormAt false (length t) t x (codes ">") → ⊥ in
    failed c.from_residual.result (λ e. Refuses e A B) e c.from_residual.ensures.1
    (stop_refuses e A B c.in_err-name.ensures.no.0 (no_name true t (codes ">") c.in_err-name.ensures.no.1))

pub returns-in_err-name-clause-no_empty : goal.returns-in_err-name-clause-no_empty
returns-in_err-name-clause-no_empty c =
    let t = c.args.tag.now in
    let e = c.in_err-name.field-0.0 in
    let A = (x : WrittenElement) → TagFormAt true (length t) t x (codes "/>") → ⊥ in
    let B = (x : WrittenElement) → TagFormAt false (length t) t x (codes "/>") → ⊥ in
    failed c.from_residual.result (λ e. Refuses e A B) e c.from_residual.ensures.1
    (stop_refuses e A B c.in_err-name.ensures.no.0 (no_name true t (codes "/>") c.in_err-name.ensures.no.1))

pub returns-in_err-name-clause-stands : goal.returns-in_err-name-clause-stands
returns-in_err-name-clause-stands c =
    let t = c.args.tag.now in
    let e = c.in_err-name.field-0.0 in
    failed c.from_residual.result (λ e. UnsupportedAt (length t) e (TagRefuses t)) e c.from_residual.ensures.1
    (stop_stands (length t) e (TagRefuses t) c.in_err-name.ensures.no.0)

pub returns-in_err-name-clause-malformed : goal.returns-in_err-name-clause-malformed
returns-in_err-name-clause-malformed c =
    let t = c.args.tag.now in
    let e = c.in_err-name.field-0.0 in
    let Q = (why : Why) (at : List ℕ) → TagRefuses t why at → ⊥ in
    failed c.from_residual.result (λ e. OnMalformed e Q) e c.from_residual.ensures.1
    (stop_malformed e Q c.in_err-name.ensures.no.0 (λ why at a. c.in_err-name.ensures.no.1 a.rest a.written a.past_name a.opens a.names))

pub returns-in_err-end-clause-no : goal.returns-in_err-end-clause-no
returns-in_err-end-clause-no c =
    let t = c.args.tag.now in
    let e = c.in_err-end.field-0.0 in
    let (start, name, opens, q, at) = c.in_ok-name.ensures.ok in
    let behind = c.in_ok-name.behind.now in
    let A = (x : WrittenElement) → TagFormAt true (length t) t x (codes ">") → ⊥ in
    let B = (x : WrittenElement) → TagFormAt false (length t) t x (codes ">") → ⊥ in
    failed c.from_residual-in_err-end.result (λ e. Refuses e A B) e c.from_residual-in_err-end.ensures.1
    (refuse_both e _ A _ B (no_form true t start behind (codes ">") name opens q) (no_form false t start behind (codes ">") name opens q) c.in_err-end.ensures.no)

pub returns-in_err-end-clause-no_empty : goal.returns-in_err-end-clause-no_empty
returns-in_err-end-clause-no_empty c =
    let t = c.args.tag.now in
    let e = c.in_err-end.field-0.0 in
    let (start, name, opens, q, at) = c.in_ok-name.ensures.ok in
    let behind = c.in_ok-name.behind.now in
    let A = (x : WrittenElement) → TagFormAt true (length t) t x (codes "/>") → ⊥ in
    let B = (x : WrittenElement) → TagFormAt false (length t) t x (codes "/>") → ⊥ in
    failed c.from_residual-in_err-end.result (λ e. Refuses e A B) e c.from_residual-in_err-end.ensures.1
    (refuse_both e _ A _ B (no_form true t start behind (codes "/>") name opens q) (no_form false t start behind (codes "/>") name opens q) c.in_err-end.ensures.no)

pub returns-in_err-end-clause-stands : goal.returns-in_err-end-clause-stands
returns-in_err-end-clause-stands c =
    let t = c.args.tag.now in
    let e = c.in_err-end.field-0.0 in
    let (start, name, opens, q, at) = c.in_ok-name.ensures.ok in
    failed c.from_residual-in_err-end.result (λ e. UnsupportedAt (length t) e (TagRefuses t)) e c.from_residual-in_err-end.ensures.1
    (unsupported_map (length t) e _ (TagRefuses t) (list_refuses t start c.in_ok-name.behind.now name opens q) c.in_err-end.ensures.stands)

pub returns-in_err-end-clause-malformed : goal.returns-in_err-end-clause-malformed
returns-in_err-end-clause-malformed c =
    let t = c.args.tag.now in
    let e = c.in_err-end.field-0.0 in
    let (start, name, opens, q, at) = c.in_ok-name.ensures.ok in
    let Q = (why : Why) (at : List ℕ) → TagRefuses t why at → ⊥ in
    failed c.from_residual-in_err-end.result (λ e. OnMalformed e Q) e c.from_residual-in_err-end.ensures.1
    (of_malformed e _ Q (no_list_refused t start c.in_ok-name.behind.now name opens q) c.in_err-end.ensures.malformed)

pub returns-in-Some-clause-ok : goal.returns-in-Some-clause-ok
returns-in-Some-clause-ok c =
    let t = c.args.tag.now in
    let behind = c.in_ok-name.behind.now in
    let (start, name, opens, q, at) = c.in_ok-name.ensures.ok in
    let (ws, list, space, written) = c.in_ok-end.ensures.ok in
    let f : Form = record { name = c.in_ok-name.name; is_empty = c.in-Some.is_empty } in (
      record { name = name; attributes = ws },
      a_form t start behind c.in_ok-end.end.now name ws f opens q at list space c.in-Some.ensures,
      form_written t start behind name _ ws c.utf8.tag opens q written,
    )

pub returns-in-None-clause-no : goal.returns-in-None-clause-no
returns-in-None-clause-no c =
    let t = c.args.tag.now in
    let (start, name, opens, q, at) = c.in_ok-name.ensures.ok in
    let (ws, list, space, written) = c.in_ok-end.ensures.ok in
    let A = (x : WrittenElement) → TagFormAt true (length t) t x (codes ">") → ⊥ in
    let B = (x : WrittenElement) → TagFormAt false (length t) t x (codes ">") → ⊥ in
    stop_refuses c.lacking.result A B c.lacking.ensures (other_end true t start c.in_ok-name.behind.now c.in_ok-end.end.now (codes ">") name ws opens q list c.in-None.ensures.0)

pub returns-in-None-clause-no_empty : goal.returns-in-None-clause-no_empty
returns-in-None-clause-no_empty c =
    let t = c.args.tag.now in
    let (start, name, opens, q, at) = c.in_ok-name.ensures.ok in
    let (ws, list, space, written) = c.in_ok-end.ensures.ok in
    let A = (x : WrittenElement) → TagFormAt true (length t) t x (codes "/>") → ⊥ in
    let B = (x : WrittenElement) → TagFormAt false (length t) t x (codes "/>") → ⊥ in
    stop_refuses c.lacking.result A B c.lacking.ensures (other_end true t start c.in_ok-name.behind.now c.in_ok-end.end.now (codes "/>") name ws opens q list c.in-None.ensures.1)

pub returns-in-None-clause-stands : goal.returns-in-None-clause-stands
returns-in-None-clause-stands c = stop_stands (length c.args.tag.now) c.lacking.result (TagRefuses c.args.tag.now) c.lacking.ensures

pub returns-in-None-clause-malformed : goal.returns-in-None-clause-malformed
returns-in-None-clause-malformed c =
    let t = c.args.tag.now in
    let (start, name, opens, q, at) = c.in_ok-name.ensures.ok in
    let (ws, list, space, written) = c.in_ok-end.ensures.ok in
    let Q = (why : Why) (at : List ℕ) → TagRefuses t why at → ⊥ in
    stop_malformed c.lacking.result Q c.lacking.ensures (read_list_not_refused (length t) t start c.in_ok-name.behind.now c.in_ok-end.end.now name ws opens q list space)

pub lacking-requires : goal.lacking-requires
lacking-requires c =
    let (start, name, opens, q, at) = c.in_ok-name.ensures.ok in
    let (ws, list, space, written) = c.in_ok-end.ensures.ok in
    omega (arith, ap length opens, qname_within q, attributes_within list)

pub returns-in_err-name-clause-ok : goal.returns-in_err-name-clause-ok
returns-in_err-name-clause-ok c = failed_ok _ _ _ c.from_residual.ensures.1

pub returns-in_err-end-clause-ok : goal.returns-in_err-end-clause-ok
returns-in_err-end-clause-ok c = failed_ok _ _ _ c.from_residual-in_err-end.ensures.1

pub returns-in-Some-clause-no : goal.returns-in-Some-clause-no
returns-in-Some-clause-no c = tt

pub returns-in-Some-clause-no_empty : goal.returns-in-Some-clause-no_empty
returns-in-Some-clause-no_empty c = tt

pub returns-in-Some-clause-stands : goal.returns-in-Some-clause-stands
returns-in-Some-clause-stands c = tt

pub returns-in-Some-clause-malformed : goal.returns-in-Some-clause-malformed
returns-in-Some-clause-malformed c = tt

pub returns-in-None-clause-ok : goal.returns-in-None-clause-ok
returns-in-None-clause-ok c = tt
