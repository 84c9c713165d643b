use Rattle.std.proofs.Common.{◌≡◌, List, ℕ, Bool, true, false, ◌∷◌, refl, sym, ap, ◌∙◌, subst, map, arith, rules, suc, ◌-◌}
use Rattle.std.proofs.lemmas.Result.{IfOk-weaker, IfErr-weaker}
use Rattle.tc_model.specs.RawTrees.{RawTrees, none}
use Rattle.tc_model.specs.Views.{name, attribute, place}
use Rattle.tc_model.specs.XmlTextContent.{Piece, nothing, whole, ContentAt, ItemAt, child, instruction, ElementAt}
use Rattle.tc_model.specs.XmlTextRefusals as refusals
use Rattle.tc_scan.specs.Views.{written_name}
use Rattle.tc_xml.specs.Reading.{BodyAt, empty, filled, BodyRefuses, AddsPiece}
use Rattle.tc_xml.specs.Refusals.{RefusesWithin, RefusedAt, OnMalformed}
use Rattle.tc_xml.specs.Views.{gathered_before}
use Rattle.tc_xml.specs.Tags.{in_scope}
use Rattle.tc_tags.proofs.FailedLaws.{failed_ok}
use Rattle.tc_xml.proofs.ContentLaws.{failed, item_within, item_loosened}
use Rattle.tc_xml.proofs.MalformedLaws.{of_malformed, of_refuses, of_breaks, of_both, of_both_within, err_both, no_characters_refused, no_bang_refused, no_question_refused, no_child_refused, no_tag_refused, no_body_refused, no_inside_refused, no_closing_refused}
use Rattle.tc_xml.proofs.ItemLaws.{lacks_instruction, is_child}
use Rattle.tc_xml.proofs.ElementLaws.{content_begin, content_more, no_content, all_content, refuse_within, refused_map, refuse_shallow, refused_shallow, an_element, no_body, no_shallow_body, no_tag, tag_stands, body_stands, no_body_end, no_inside, inside_stands, no_end_of_element, entity_stands}
use Rattle.tc_xml.proofs.DocumentLaws.{breaks_within, breaks_shallow}
use Rattle.tc_xml.proofs.content.+content.Goals as goal

pub body-returns-in-Some-clause-ok : goal.body-returns-in-Some-clause-ok
body-returns-in-Some-clause-ok t c = (none, empty c.in-Some.ensures, refl)

pub body-returns-in-Some-after_end_tag-clause-ok : goal.body-returns-in-Some-after_end_tag-clause-ok
body-returns-in-Some-after_end_tag-clause-ok t c =
    let (h, m, adds) = c.in_ok-end.ensures.ok in (h, filled c.in-Some-after_byte.ensures m c.in-Some-after_end_tag.ensures, adds)

pub body-returns-in-None-clause-no : goal.body-returns-in-None-clause-no
body-returns-in-None-clause-no t c = λ d.
    let (h, m, adds) = c.in_ok-end.ensures.ok in
    let tag = c.args.tag.now in
    no_end_of_element true c.args.total (in_scope tag.meaning.scope) c.args.depth d (written_name tag.written) tag.rest.now c.in-Some-after_byte.inside.now c.in_ok-end.end.now h
    c.in_default.ensures c.in-Some-after_byte.ensures m c.in-None.ensures

pub content-loop-gathered-init : goal.content-loop-gathered-init
content-loop-gathered-init t c = (search rules, content_begin c.args.total (in_scope c.args.scope) c.args.depth c.args.text.now c.args.gathered.now)

pub content-returns-in_err-rest-clause-no : goal.content-returns-in_err-rest-clause-no
content-returns-in_err-rest-clause-no t c =
    let n = c.args.total in
    let s = in_scope c.args.scope in
    let depth = c.args.depth in
    let text = c.args.text.now in
    let rest = c.loop-gathered.rest.now in
    let e = c.in_err-rest.field-0.0 in
    let so_far = c.loop-gathered.invariant.1 in
    let A = (d : ℕ) (h : RawTrees) (after : List ℕ) → ContentAt true n s d text h after → ⊥ in
    let B = (d : ℕ) (h : RawTrees) (after : List ℕ) → ContentAt false n s d text h after → ⊥ in
    let C = (h : RawTrees) (after : List ℕ) → ContentAt true n s depth text h after → ⊥ in
    failed c.from_residual.result (λ e. RefusesWithin e A B C) e c.from_residual.ensures.1
    (refuse_within e _ _ _ A B C
    (λ k d. no_content true n s depth d text rest c.args.gathered.now c.loop-gathered.gathered so_far c.loop-gathered-test.ensures (k d))
    (λ k d. no_content false n s depth d text rest c.args.gathered.now c.loop-gathered.gathered so_far c.loop-gathered-test.ensures (k d))
    (no_content true n s depth depth text rest c.args.gathered.now c.loop-gathered.gathered so_far c.loop-gathered-test.ensures)
    c.in_err-rest.ensures.no)

pub content-loop-gathered-smaller : goal.content-loop-gathered-smaller
content-loop-gathered-smaller t c = let (p, a, adds) = c.in_ok-rest.ensures.ok in item_within a

pub content-loop-gathered-preserved : goal.content-loop-gathered-preserved
content-loop-gathered-preserved t c = (
  search rules,
  content_more c.args.total (in_scope c.args.scope) c.args.depth c.args.text.now c.loop-gathered.rest.now c.in_ok-rest.rest.now c.args.gathered.now c.loop-gathered.gathered c.item.new.gathered
      c.loop-gathered.invariant.1 c.in_ok-rest.ensures.ok,
)

pub content-returns-clause-ok : goal.content-returns-clause-ok
content-returns-clause-ok t c =
    all_content c.args.total (in_scope c.args.scope) c.args.depth c.args.text.now c.loop-gathered.rest.now c.args.gathered.now c.loop-gathered.gathered c.loop-gathered.invariant.1 c.loop-gathered-test.ensures

pub element-returns-in_err-tag-clause-no : goal.element-returns-in_err-tag-clause-no
element-returns-in_err-tag-clause-no t c =
    let n = c.args.total in
    let o = in_scope c.args.outer in
    let text = c.args.text.now in
    let e = c.in_err-tag.field-0.0 in
    let A = (d : ℕ) (p : Piece) (after : List ℕ) → ElementAt true n o d text p after → ⊥ in
    let B = (d : ℕ) (p : Piece) (after : List ℕ) → ElementAt false n o d text p after → ⊥ in
    let C = (p : Piece) (after : List ℕ) → ElementAt true n o c.args.depth text p after → ⊥ in
    failed c.from_residual.result (λ e. RefusesWithin e A B C) e c.from_residual.ensures.1
    (refuse_shallow e _ _ A B C (no_tag true n o text) (no_tag false n o text) c.in_err-tag.ensures.no)

pub element-returns-in_err-tag-clause-stands : goal.element-returns-in_err-tag-clause-stands
element-returns-in_err-tag-clause-stands t c =
    let n = c.args.total in
    let o = in_scope c.args.outer in
    let text = c.args.text.now in
    let e = c.in_err-tag.field-0.0 in
    failed c.from_residual.result (λ e. RefusedAt e (refusals.ElementRefuses n o c.args.depth text)) e c.from_residual.ensures.1
    (refused_shallow e _ (refusals.ElementRefuses n o c.args.depth text) (tag_stands n o c.args.depth text c.if-depth-eq0.false) c.in_err-tag.ensures.stands)

pub element-returns-in_err-rest-clause-no : goal.element-returns-in_err-rest-clause-no
element-returns-in_err-rest-clause-no t c =
    let n = c.args.total in
    let o = in_scope c.args.outer in
    let text = c.args.text.now in
    let e = c.in_err-rest.field-0.0 in
    let tag = c.in_ok-tag.tag in
    let w = written_name tag.written in
    let s = in_scope tag.meaning.scope in
    let m = name tag.meaning.name in
    let x = map attribute tag.meaning.attrs.now in
    let rest = tag.rest.now in
    let at = c.in_ok-tag.ensures.ok in
    let A = (d : ℕ) (p : Piece) (after : List ℕ) → ElementAt true n o d text p after → ⊥ in
    let B = (d : ℕ) (p : Piece) (after : List ℕ) → ElementAt false n o d text p after → ⊥ in
    let C = (p : Piece) (after : List ℕ) → ElementAt true n o c.args.depth text p after → ⊥ in
    failed c.from_residual-in_err-rest.result (λ e. RefusesWithin e A B C) e c.from_residual-in_err-rest.ensures.1
    (refuse_within e _ _ _ A B C (no_body true n o text rest w s m x at) (no_body false n o text rest w s m x at) (no_shallow_body true n o c.args.depth text rest w s m x at) c.in_err-rest.ensures.no)

pub element-returns-in_err-rest-clause-stands : goal.element-returns-in_err-rest-clause-stands
element-returns-in_err-rest-clause-stands t c =
    let n = c.args.total in
    let o = in_scope c.args.outer in
    let text = c.args.text.now in
    let e = c.in_err-rest.field-0.0 in
    let tag = c.in_ok-tag.tag in
    let w = written_name tag.written in
    let s = in_scope tag.meaning.scope in
    let m = name tag.meaning.name in
    let x = map attribute tag.meaning.attrs.now in
    failed c.from_residual-in_err-rest.result (λ e. RefusedAt e (refusals.ElementRefuses n o c.args.depth text)) e c.from_residual-in_err-rest.ensures.1
    (refused_map e _ (refusals.ElementRefuses n o c.args.depth text) (body_stands n o c.args.depth text tag.rest.now w s m x c.if-depth-eq0.false c.in_ok-tag.ensures.ok) c.in_err-rest.ensures.stands)

pub element-returns-clause-ok : goal.element-returns-clause-ok
element-returns-clause-ok t c =
    let n = c.args.total in
    let o = in_scope c.args.outer in
    let text = c.args.text.now in
    let tag = c.in_ok-tag.tag in
    let w = written_name tag.written in
    let s = in_scope tag.meaning.scope in
    let m = name tag.meaning.name in
    let x = map attribute tag.meaning.attrs.now in
    let rest = c.in_ok-rest.rest.now in
    let p = place c.place_of.result in
    let (h, b, adds) = c.in_ok-rest.ensures.ok in
    let deep : c.args.depth ≡ suc (c.args.depth - 1) = omega (arith, c.if-depth-eq0.false) in
    let read = an_element n o c.args.depth (c.args.depth - 1) text tag.rest.now rest w s m x h deep c.in_ok-tag.ensures.ok b p c.place_of.ensures in
    let kids : gathered_before c.body.new.kids none ≡ h = adds ∙ c.gathered_nothing-kids.ensures h in
    (whole m x s p (gathered_before c.body.new.kids none), subst (λ k. ElementAt false n o c.args.depth text (whole m x s p k) rest) (sym kids) read, c.in_ok-gather_element.ensures)

pub item-returns-in_default-clause-stands : goal.item-returns-in_default-clause-stands
item-returns-in_default-clause-stands t c =
    let P = refusals.ContentRefuses c.args.total (in_scope c.args.scope) c.args.depth c.args.text.now in
    IfErr-weaker c.characters.result _ (λ e. RefusedAt e P)
    (λ e. refused_shallow e _ P (entity_stands c.args.total (in_scope c.args.scope) c.args.depth c.args.text.now)) c.characters.ensures.stands

pub item-returns-in-Some-after_instruction-clause-ok : goal.item-returns-in-Some-after_instruction-clause-ok
item-returns-in-Some-after_instruction-clause-ok t c = (nothing, instruction c.in-Some-after_instruction.ensures, λ h. refl)

pub item-returns-in-None-clause-no : goal.item-returns-in-None-clause-no
item-returns-in-None-clause-no t c =
    let (r, e) = c.if-begins-2.ensures in
    lacks_instruction true c.args.total c.args.text.now r (c.in-Some.ensures ∙ ap (λ w. 0x3C ∷ w) e) c.in-None.ensures (in_scope c.args.scope)

pub item-returns-clause-ok : goal.item-returns-clause-ok
item-returns-clause-ok t c =
    IfOk-weaker c.element.result _
    (λ rest. (x : Piece) × ItemAt false c.args.total (in_scope c.args.scope) c.args.depth c.args.text.now x rest.now × AddsPiece c.args.gathered.now c.element.new.gathered x)
    (λ rest (p, a, adds). (p, child a, adds)) c.element.ensures.ok

pub item-returns-clause-no : goal.item-returns-clause-no
item-returns-clause-no t c =
    let n = c.args.total in
    let s = in_scope c.args.scope in
    let depth = c.args.depth in
    let text = c.args.text.now in
    let m = c.in-Some.markup.now in
    let only : (o : Bool) (d : ℕ) (p : Piece) (after : List ℕ) → ItemAt o n s d text p after → ElementAt o n s d text p after = λ o d.
    is_child o n d s text m c.in-Some.ensures c.if-begins.ensures c.if-begins-2.ensures in
    let A = (d : ℕ) (p : Piece) (after : List ℕ) → ItemAt true n s d text p after → ⊥ in
    let B = (d : ℕ) (p : Piece) (after : List ℕ) → ItemAt false n s d text p after → ⊥ in
    let C = (p : Piece) (after : List ℕ) → ItemAt true n s depth text p after → ⊥ in
    IfErr-weaker c.element.result _ (λ e. RefusesWithin e A B C)
    (λ e. refuse_within e _ _ _ A B C (λ k d p after a. k d p after (only true d p after a)) (λ k d p after a. k d p after (only false d p after a)) (λ k p after a. k p after (only true depth p after a)))
    c.element.ensures.no

pub item-returns-clause-stands : goal.item-returns-clause-stands
item-returns-clause-stands t c =
    let P = refusals.ContentRefuses c.args.total (in_scope c.args.scope) c.args.depth c.args.text.now in
    IfErr-weaker c.element.result _ (λ e. RefusedAt e P) (λ e. refused_map e _ P (λ cause at k. refusals.child k)) c.element.ensures.stands

pub body-returns-in-None-clause-malformed : goal.body-returns-in-None-clause-malformed
body-returns-in-None-clause-malformed t c =
    let (h, m, adds) = c.in_ok-end.ensures.ok in
    let tag = c.args.tag.now in
    no_closing_refused c.args.total (in_scope tag.meaning.scope) c.args.depth tag.rest.now c.in-Some-after_byte.inside.now c.in_ok-end.end.now h c.in-Some-after_byte.ensures m

pub element-returns-in_err-tag-clause-malformed : goal.element-returns-in_err-tag-clause-malformed
element-returns-in_err-tag-clause-malformed t c =
    let n = c.args.total in
    let o = in_scope c.args.outer in
    let text = c.args.text.now in
    let e = c.in_err-tag.field-0.0 in
    let Q = (cause : refusals.Cause) (at : List ℕ) → refusals.ElementRefuses n o c.args.depth text cause at → ⊥ in
    failed c.from_residual.result (λ e. OnMalformed e Q) e c.from_residual.ensures.1
    (of_both e _ _ _ Q (no_tag_refused n o c.args.depth text c.if-depth-eq0.false) c.in_err-tag.ensures.no c.in_err-tag.ensures.malformed)

pub element-returns-in_err-rest-clause-malformed : goal.element-returns-in_err-rest-clause-malformed
element-returns-in_err-rest-clause-malformed t c =
    let n = c.args.total in
    let o = in_scope c.args.outer in
    let text = c.args.text.now in
    let e = c.in_err-rest.field-0.0 in
    let tag = c.in_ok-tag.tag in
    let w = written_name tag.written in
    let s = in_scope tag.meaning.scope in
    let m = name tag.meaning.name in
    let x = map attribute tag.meaning.attrs.now in
    let Q = (cause : refusals.Cause) (at : List ℕ) → refusals.ElementRefuses n o c.args.depth text cause at → ⊥ in
    failed c.from_residual-in_err-rest.result (λ e. OnMalformed e Q) e c.from_residual-in_err-rest.ensures.1
    (of_malformed e _ Q (no_body_refused n o c.args.depth text tag.rest.now w s m x c.in_ok-tag.ensures.ok c.if-depth-eq0.false) c.in_err-rest.ensures.malformed)

pub item-returns-in_default-clause-malformed : goal.item-returns-in_default-clause-malformed
item-returns-in_default-clause-malformed t c =
    let Q = (cause : refusals.Cause) (at : List ℕ) → refusals.ContentRefuses c.args.total (in_scope c.args.scope) c.args.depth c.args.text.now cause at → ⊥ in
    IfErr-weaker c.characters.result _ (λ e. OnMalformed e Q)
    (λ e. of_refuses e _ _ Q (no_characters_refused c.args.total (in_scope c.args.scope) c.args.depth c.args.text.now c.in_default.ensures)) c.characters.ensures.no

pub item-returns-then-begins-clause-malformed : goal.item-returns-then-begins-clause-malformed
item-returns-then-begins-clause-malformed t c =
    let (r, e) = c.if-begins.ensures in
    let Q = (cause : refusals.Cause) (at : List ℕ) → refusals.ContentRefuses c.args.total (in_scope c.args.scope) c.args.depth c.args.text.now cause at → ⊥ in
    IfErr-weaker c.comment_or_cdata.result _ (λ e. OnMalformed e Q)
    (λ f. of_breaks f _ Q (no_bang_refused c.args.total (in_scope c.args.scope) c.args.depth c.args.text.now r (c.in-Some.ensures ∙ ap (λ w. 0x3C ∷ w) e))) c.comment_or_cdata.ensures.no

pub item-returns-in-None-clause-malformed : goal.item-returns-in-None-clause-malformed
item-returns-in-None-clause-malformed t c =
    let (r, e) = c.if-begins-2.ensures in
    let whole = c.in-Some.ensures ∙ ap (λ w. 0x3C ∷ w) e in
    no_question_refused c.args.total (in_scope c.args.scope) c.args.depth c.args.text.now r whole (λ outer. lacks_instruction true c.args.total c.args.text.now r whole c.in-None.ensures outer)

pub item-returns-clause-malformed : goal.item-returns-clause-malformed
item-returns-clause-malformed t c =
    let n = c.args.total in
    let s = in_scope c.args.scope in
    let depth = c.args.depth in
    let text = c.args.text.now in
    let m = c.in-Some.markup.now in
    let only : (p : Piece) (after : List ℕ) → ItemAt true n s depth text p after → ElementAt true n s depth text p after =
    is_child true n depth s text m c.in-Some.ensures c.if-begins.ensures c.if-begins-2.ensures in
    let Q = (cause : refusals.Cause) (at : List ℕ) → refusals.ContentRefuses n s depth text cause at → ⊥ in
    err_both c.element.result _ _ (λ e. OnMalformed e Q)
    (λ e. of_both_within e _ _ _ _ Q (λ k h. no_child_refused n s depth text m c.in-Some.ensures (λ p after a. k depth p after (only p after (item_loosened a))) h)) c.element.ensures.no c.element.ensures.malformed

pub body-returns-in_default-after_byte-clause-no : goal.body-returns-in_default-after_byte-clause-no
body-returns-in_default-after_byte-clause-no t c =
    let n = c.args.total in
    let tag = c.args.tag.now in
    let s = in_scope tag.meaning.scope in
    let w = written_name tag.written in
    let rest = tag.rest.now in
    no_body_end true n s w rest c.in_default.ensures c.in_default-after_byte.ensures

pub body-returns-in_default-after_byte-clause-malformed : goal.body-returns-in_default-after_byte-clause-malformed
body-returns-in_default-after_byte-clause-malformed t c =
    λ cause at b. c.in_default-after_byte.ensures b.inside b.opens

pub body-returns-in_err-end-clause-no : goal.body-returns-in_err-end-clause-no
body-returns-in_err-end-clause-no t c =
    let n = c.args.total in
    let tag = c.args.tag.now in
    let s = in_scope tag.meaning.scope in
    let w = written_name tag.written in
    let rest = tag.rest.now in
    let inside = c.in-Some-after_byte.inside.now in
    let e = c.in_err-end.field-0.0 in
    let A = (d : ℕ) (h : RawTrees) (after : List ℕ) → BodyAt true n s d w rest h after → ⊥ in
    let B = (d : ℕ) (h : RawTrees) (after : List ℕ) → BodyAt false n s d w rest h after → ⊥ in
    let C = (h : RawTrees) (after : List ℕ) → BodyAt true n s c.args.depth w rest h after → ⊥ in
    failed c.from_residual.result (λ e. RefusesWithin e A B C) e c.from_residual.ensures.1
    (refuse_within e _ _ _ A B C
    (λ k d. no_inside true n s w rest inside c.in_default.ensures c.in-Some-after_byte.ensures d (k d))
    (λ k d. no_inside false n s w rest inside c.in_default.ensures c.in-Some-after_byte.ensures d (k d))
    (no_inside true n s w rest inside c.in_default.ensures c.in-Some-after_byte.ensures c.args.depth)
    c.in_err-end.ensures.no)

pub body-returns-in_err-end-clause-stands : goal.body-returns-in_err-end-clause-stands
body-returns-in_err-end-clause-stands t c =
    let tag = c.args.tag.now in
    let e = c.in_err-end.field-0.0 in
    let P = BodyRefuses c.args.total (in_scope tag.meaning.scope) c.args.depth tag.rest.now in
    failed c.from_residual.result (λ e. RefusedAt e P) e c.from_residual.ensures.1
    (refused_map e _ P (inside_stands c.args.total (in_scope tag.meaning.scope) c.args.depth tag.rest.now c.in-Some-after_byte.inside.now c.in-Some-after_byte.ensures) c.in_err-end.ensures.stands)

pub body-returns-in_err-end-clause-malformed : goal.body-returns-in_err-end-clause-malformed
body-returns-in_err-end-clause-malformed t c =
    let tag = c.args.tag.now in
    let e = c.in_err-end.field-0.0 in
    let Q = (cause : refusals.Cause) (at : List ℕ) → BodyRefuses c.args.total (in_scope tag.meaning.scope) c.args.depth tag.rest.now cause at → ⊥ in
    failed c.from_residual.result (λ e. OnMalformed e Q) e c.from_residual.ensures.1
    (of_malformed e _ Q (no_inside_refused c.args.total (in_scope tag.meaning.scope) c.args.depth tag.rest.now c.in-Some-after_byte.inside.now c.in-Some-after_byte.ensures) c.in_err-end.ensures.malformed)

pub content-returns-in_err-rest-clause-stands : goal.content-returns-in_err-rest-clause-stands
content-returns-in_err-rest-clause-stands t c =
    let e = c.in_err-rest.field-0.0 in
    let P = refusals.ContentRefuses c.args.total (in_scope c.args.scope) c.args.depth c.args.text.now in
    failed c.from_residual.result (λ e. RefusedAt e P) e c.from_residual.ensures.1 (refused_map e _ P c.loop-gathered.invariant.1.stands c.in_err-rest.ensures.stands)

pub content-returns-in_err-rest-clause-malformed : goal.content-returns-in_err-rest-clause-malformed
content-returns-in_err-rest-clause-malformed t c =
    let e = c.in_err-rest.field-0.0 in
    let Q = (cause : refusals.Cause) (at : List ℕ) → refusals.ContentRefuses c.args.total (in_scope c.args.scope) c.args.depth c.args.text.now cause at → ⊥ in
    failed c.from_residual.result (λ e. OnMalformed e Q) e c.from_residual.ensures.1
    (of_malformed e _ Q (λ k cause at r. k cause at (c.loop-gathered.invariant.1.comes cause at r)) c.in_err-rest.ensures.malformed)

pub element-returns-then-depth-eq0-clause-no : goal.element-returns-then-depth-eq0-clause-no
element-returns-then-depth-eq0-clause-no t c =
    let n = c.args.total in
    let o = in_scope c.args.outer in
    let text = c.args.text.now in
    let A = (d : ℕ) (p : Piece) (after : List ℕ) → ElementAt true n o d text p after → ⊥ in
    let B = (d : ℕ) (p : Piece) (after : List ℕ) → ElementAt false n o d text p after → ⊥ in
    subst (λ d. RefusesWithin c.too_deep.result A B ((p : Piece) (after : List ℕ) → ElementAt true n o d text p after → ⊥)) (sym c.if-depth-eq0.true) (c.too_deep.ensures.no n o)

pub element-returns-then-depth-eq0-clause-stands : goal.element-returns-then-depth-eq0-clause-stands
element-returns-then-depth-eq0-clause-stands t c =
    let n = c.args.total in
    let o = in_scope c.args.outer in
    let text = c.args.text.now in
    subst (λ d. RefusedAt c.too_deep.result (refusals.ElementRefuses n o d text)) (sym c.if-depth-eq0.true) (c.too_deep.ensures.stands n o)

pub element-returns-then-depth-eq0-clause-malformed : goal.element-returns-then-depth-eq0-clause-malformed
element-returns-then-depth-eq0-clause-malformed t c =
    let n = c.args.total in
    let o = in_scope c.args.outer in
    let text = c.args.text.now in
    subst (λ d. OnMalformed c.too_deep.result ((cause : refusals.Cause) (at : List ℕ) → refusals.ElementRefuses n o d text cause at → ⊥)) (sym c.if-depth-eq0.true) (c.too_deep.ensures.malformed n o)

pub item-returns-in_default-clause-ok : goal.item-returns-in_default-clause-ok
item-returns-in_default-clause-ok t c =
    let n = c.args.total in
    let s = in_scope c.args.scope in
    let text = c.args.text.now in
    IfOk-weaker c.characters.result _ (λ rest. (p : Piece) × ItemAt false n s c.args.depth text p rest.now × AddsPiece c.args.gathered.now c.characters.new.gathered p) (λ rest (p, a, adds). (p, a s c.args.depth, adds)) c.characters.ensures.ok

pub item-returns-in_default-clause-no : goal.item-returns-in_default-clause-no
item-returns-in_default-clause-no t c =
    let n = c.args.total in
    let s = in_scope c.args.scope in
    let text = c.args.text.now in
    let A = (d : ℕ) (p : Piece) (after : List ℕ) → ItemAt true n s d text p after → ⊥ in
    let B = (d : ℕ) (p : Piece) (after : List ℕ) → ItemAt false n s d text p after → ⊥ in
    let C = (p : Piece) (after : List ℕ) → ItemAt true n s c.args.depth text p after → ⊥ in
    IfErr-weaker c.characters.result _ (λ e. RefusesWithin e A B C) (λ e. refuse_shallow e _ _ A B C (λ k d. k s d) (λ k d. k s d)) c.characters.ensures.no

pub item-returns-then-begins-clause-ok : goal.item-returns-then-begins-clause-ok
item-returns-then-begins-clause-ok t c =
    let n = c.args.total in
    let s = in_scope c.args.scope in
    let text = c.args.text.now in
    IfOk-weaker c.comment_or_cdata.result _ (λ rest. (p : Piece) × ItemAt false n s c.args.depth text p rest.now × AddsPiece c.args.gathered.now c.comment_or_cdata.new.gathered p) (λ rest (p, a, adds). (p, a s c.args.depth, adds)) c.comment_or_cdata.ensures.ok

pub item-returns-then-begins-clause-no : goal.item-returns-then-begins-clause-no
item-returns-then-begins-clause-no t c =
    let n = c.args.total in
    let s = in_scope c.args.scope in
    let text = c.args.text.now in
    let A = (d : ℕ) (p : Piece) (after : List ℕ) → ItemAt true n s d text p after → ⊥ in
    let B = (d : ℕ) (p : Piece) (after : List ℕ) → ItemAt false n s d text p after → ⊥ in
    let C = (p : Piece) (after : List ℕ) → ItemAt true n s c.args.depth text p after → ⊥ in
    IfErr-weaker c.comment_or_cdata.result _ (λ e. RefusesWithin e A B C)
    (λ e. breaks_within e _ A B C (λ k d. k s d) (λ k d p after a. k s d p after (item_loosened a)) (λ k. k s c.args.depth)) c.comment_or_cdata.ensures.no

pub item-returns-then-begins-clause-stands : goal.item-returns-then-begins-clause-stands
item-returns-then-begins-clause-stands t c =
    let P = refusals.ContentRefuses c.args.total (in_scope c.args.scope) c.args.depth c.args.text.now in
    IfErr-weaker c.comment_or_cdata.result _ (λ e. RefusedAt e P) (λ e. breaks_shallow e _ P) c.comment_or_cdata.ensures.no

pub body-returns-in_err-end-clause-ok : goal.body-returns-in_err-end-clause-ok
body-returns-in_err-end-clause-ok t c = failed_ok _ _ _ c.from_residual.ensures.1

pub content-returns-in_err-rest-clause-ok : goal.content-returns-in_err-rest-clause-ok
content-returns-in_err-rest-clause-ok t c = failed_ok _ _ _ c.from_residual.ensures.1

pub element-returns-in_err-tag-clause-ok : goal.element-returns-in_err-tag-clause-ok
element-returns-in_err-tag-clause-ok t c = failed_ok _ _ _ c.from_residual.ensures.1

pub element-returns-in_err-rest-clause-ok : goal.element-returns-in_err-rest-clause-ok
element-returns-in_err-rest-clause-ok t c = failed_ok _ _ _ c.from_residual-in_err-rest.ensures.1

pub body-content-requires : goal.body-content-requires
body-content-requires t c = (omega (arith, c.decreases), c.requires)

pub content-item-requires : goal.content-item-requires
content-item-requires t c = (omega arith, omega arith)

pub item-element-requires : goal.item-element-requires
item-element-requires t c = (omega arith, omega arith)

pub element-body-requires : goal.element-body-requires
element-body-requires t c = (omega arith, omega arith)
