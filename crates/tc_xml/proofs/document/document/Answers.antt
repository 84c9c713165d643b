use Rattle.std.proofs.Common.{◌≡◌, ℕ, true, false, [], refl, sym, subst, ap, ◌∙◌, ◌==◌, length, List}
use Rattle.std.proofs.lemmas.Bool.{true≢false, eqb-true}
use Rattle.std.proofs.lemmas.List.{nil_from_length}
use Rattle.tc_model.specs.RawTrees.{RawTrees}
use Rattle.tc_model.specs.Views.{raw_tree}
use Rattle.tc_model.specs.XmlText as xml
use Rattle.tc_model.specs.XmlTextMisc.{MiscAt}
use Rattle.tc_model.specs.XmlTextRefusals.{Cause, DocumentRefuses}
use Rattle.tc_xml.specs.Refusals.{RefusesWithin, RefusedAt, OnMalformed}
use Rattle.tc_xml.proofs.ContentLaws.{failed}
use Rattle.tc_tags.proofs.FailedLaws.{failed_ok}
use Rattle.tc_xml.proofs.ElementLaws.{refuse_within, refused_map, refuse_shallow, refused_shallow}
use Rattle.tc_xml.proofs.DocumentLaws.{no_root_here, no_element_here, no_end_here, no_more_here, element_stands, breaks_within, breaks_shallow}
use Rattle.tc_xml.proofs.MalformedLaws.{of_malformed, of_breaks, no_root_refused, root_not_refused}
use Rattle.tc_xml.proofs.document.document.Goals as goal

pub returns-in_err-root-clause-ok : goal.returns-in_err-root-clause-ok
returns-in_err-root-clause-ok c = failed_ok c.from_residual.result (λ r. xml.XmlText c.args.text.now (raw_tree r)) c.in_err-root.field-0.0 c.from_residual.ensures.1

pub returns-in_err-tree-clause-ok : goal.returns-in_err-tree-clause-ok
returns-in_err-tree-clause-ok c = failed_ok c.from_residual-in_err-tree.result (λ r. xml.XmlText c.args.text.now (raw_tree r)) c.in_err-tree.field-0.0 c.from_residual-in_err-tree.ensures.1

pub returns-in_err-end-clause-ok : goal.returns-in_err-end-clause-ok
returns-in_err-end-clause-ok c = failed_ok c.from_residual-in_err-end.result (λ r. xml.XmlText c.args.text.now (raw_tree r)) c.in_err-end.field-0.0 c.from_residual-in_err-end.ensures.1

pub root_element-requires : goal.root_element-requires
root_element-requires c = c.requires.total

pub returns-in_err-root-clause-no : goal.returns-in_err-root-clause-no
returns-in_err-root-clause-no c =
    let t = c.args.text.now in
    let e = c.in_err-root.field-0.0 in
    let A = (d : ℕ) (h : RawTrees) → xml.Reads true d t h → ⊥ in
    let B = (d : ℕ) (h : RawTrees) → xml.Reads false d t h → ⊥ in
    let C = (h : RawTrees) → xml.Reads true xml.deepest_element t h → ⊥ in
    failed c.from_residual.result (λ e. RefusesWithin e A B C) e c.from_residual.ensures.1
    (refuse_shallow e _ _ A B C (λ k d. no_root_here true d t k) (λ k d. no_root_here false d t k) c.in_err-root.ensures.no)

pub returns-in_err-root-clause-stands : goal.returns-in_err-root-clause-stands
returns-in_err-root-clause-stands c =
    let t = c.args.text.now in
    let e = c.in_err-root.field-0.0 in
    let P = DocumentRefuses xml.deepest_element t in
    failed c.from_residual.result (λ e. RefusedAt e P) e c.from_residual.ensures.1 (refused_shallow e _ P (λ why at k. k) c.in_err-root.ensures.stands)

pub returns-in_err-root-clause-malformed : goal.returns-in_err-root-clause-malformed
returns-in_err-root-clause-malformed c =
    let t = c.args.text.now in
    let Q = (cause : Cause) (at : List ℕ) → DocumentRefuses xml.deepest_element t cause at → ⊥ in
    failed c.from_residual.result (λ e. OnMalformed e Q) c.in_err-root.field-0.0 c.from_residual.ensures.1 c.in_err-root.ensures.malformed

pub returns-in_err-tree-clause-no : goal.returns-in_err-tree-clause-no
returns-in_err-tree-clause-no c =
    let t = c.args.text.now in
    let e = c.in_err-tree.field-0.0 in
    let A = (d : ℕ) (h : RawTrees) → xml.Reads true d t h → ⊥ in
    let B = (d : ℕ) (h : RawTrees) → xml.Reads false d t h → ⊥ in
    let C = (h : RawTrees) → xml.Reads true xml.deepest_element t h → ⊥ in
    let root = c.in_ok-root.root.now in
    let (past, behind, a, b, x) = c.in_ok-root.ensures.ok in
    failed c.from_residual-in_err-tree.result (λ e. RefusesWithin e A B C) e c.from_residual-in_err-tree.ensures.1
    (refuse_within e _ _ _ A B C
    (λ k d. no_element_here true d t past behind root a b x (k d))
    (λ k d. no_element_here false d t past behind root a b x (k d))
    (no_element_here true xml.deepest_element t past behind root a b x)
    c.in_err-tree.ensures.no)

pub returns-in_err-tree-clause-stands : goal.returns-in_err-tree-clause-stands
returns-in_err-tree-clause-stands c =
    let t = c.args.text.now in
    let e = c.in_err-tree.field-0.0 in
    let P = DocumentRefuses xml.deepest_element t in
    let (past, behind, a, b, x) = c.in_ok-root.ensures.ok in
    failed c.from_residual-in_err-tree.result (λ e. RefusedAt e P) e c.from_residual-in_err-tree.ensures.1
    (refused_map e _ P (element_stands xml.deepest_element t past behind c.in_ok-root.root.now a b x) c.in_err-tree.ensures.stands)

pub returns-in_err-tree-clause-malformed : goal.returns-in_err-tree-clause-malformed
returns-in_err-tree-clause-malformed c =
    let t = c.args.text.now in
    let e = c.in_err-tree.field-0.0 in
    let Q = (cause : Cause) (at : List ℕ) → DocumentRefuses xml.deepest_element t cause at → ⊥ in
    let (past, behind, a, b, x) = c.in_ok-root.ensures.ok in
    failed c.from_residual-in_err-tree.result (λ e. OnMalformed e Q) e c.from_residual-in_err-tree.ensures.1
    (of_malformed e _ Q (no_root_refused xml.deepest_element t (xml.after_mark t) past refl a behind c.in_ok-root.root.now b x) c.in_err-tree.ensures.malformed)

pub returns-in_err-end-clause-no : goal.returns-in_err-end-clause-no
returns-in_err-end-clause-no c =
    let t = c.args.text.now in
    let e = c.in_err-end.field-0.0 in
    let A = (d : ℕ) (h : RawTrees) → xml.Reads true d t h → ⊥ in
    let B = (d : ℕ) (h : RawTrees) → xml.Reads false d t h → ⊥ in
    let C = (h : RawTrees) → xml.Reads true xml.deepest_element t h → ⊥ in
    let root = c.in_ok-root.root.now in
    let (p, f, is) = c.in_ok-tree.ensures.ok in
    let rest = c.in_ok-tree.rest.now in
    let (past, behind, a, b, x) = c.in_ok-root.ensures.ok in
    failed c.from_residual-in_err-end.result (λ e. RefusesWithin e A B C) e c.from_residual-in_err-end.ensures.1
    (breaks_within e _ A B C
    (λ k d. no_end_here true xml.deepest_element d t past behind root rest p a b x f (k []))
    (λ k d. no_end_here false xml.deepest_element d t past behind root rest p a b x f (k []))
    (λ k. no_end_here true xml.deepest_element xml.deepest_element t past behind root rest p a b x f (k []))
    c.in_err-end.ensures.no)

pub returns-in_err-end-clause-stands : goal.returns-in_err-end-clause-stands
returns-in_err-end-clause-stands c =
    let t = c.args.text.now in
    let P = DocumentRefuses xml.deepest_element t in
    failed c.from_residual-in_err-end.result (λ e. RefusedAt e P) c.in_err-end.field-0.0 c.from_residual-in_err-end.ensures.1 (breaks_shallow c.in_err-end.field-0.0 _ P c.in_err-end.ensures.no)

pub returns-in_err-end-clause-malformed : goal.returns-in_err-end-clause-malformed
returns-in_err-end-clause-malformed c =
    let t = c.args.text.now in
    let e = c.in_err-end.field-0.0 in
    let Q = (cause : Cause) (at : List ℕ) → DocumentRefuses xml.deepest_element t cause at → ⊥ in
    let root = c.in_ok-root.root.now in
    let (p, f, is) = c.in_ok-tree.ensures.ok in
    let rest = c.in_ok-tree.rest.now in
    let (past, behind, a, b, x) = c.in_ok-root.ensures.ok in
    failed c.from_residual-in_err-end.result (λ e. OnMalformed e Q) e c.from_residual-in_err-end.ensures.1
    (of_breaks e _ Q (λ k. root_not_refused xml.deepest_element t (xml.after_mark t) past refl a behind root rest p b x f) c.in_err-end.ensures.no)

pub returns-else-is_empty-clause-no : goal.returns-else-is_empty-clause-no
returns-else-is_empty-clause-no c =
    let (p, f, is) = c.in_ok-tree.ensures.ok in
    let rest = c.in_ok-tree.rest.now in
    let end = c.in_ok-end.end.now in
    let some : end ≡ [] → ⊥ = λ q. true≢false (sym (ap (λ w. length w == 0) q) ∙ sym c.if-is_empty.ensures) in
    let (past, behind, a, b, x) = c.in_ok-root.ensures.ok in
    λ d. no_end_here true xml.deepest_element d c.args.text.now past behind c.in_ok-root.root.now rest p a b x f (no_more_here rest end c.in_ok-end.ensures.ok some)

pub returns-else-is_empty-clause-malformed : goal.returns-else-is_empty-clause-malformed
returns-else-is_empty-clause-malformed c =
    let t = c.args.text.now in
    let (p, f, is) = c.in_ok-tree.ensures.ok in
    let rest = c.in_ok-tree.rest.now in
    let (past, behind, a, b, x) = c.in_ok-root.ensures.ok in
    root_not_refused xml.deepest_element t (xml.after_mark t) past refl a behind c.in_ok-root.root.now rest p b x f

pub returns-then-is_empty-clause-ok : goal.returns-then-is_empty-clause-ok
returns-then-is_empty-clause-ok c =
    let (p, f, is) = c.in_ok-tree.ensures.ok in
    let end = c.in_ok-end.end.now in
    let (past, behind, a, b, x) = c.in_ok-root.ensures.ok in
    let none : end ≡ [] = nil_from_length end (eqb-true (length end) 0 (sym c.if-is_empty.ensures)) in
    record {
      past_declaration = past;
      past_misc = behind;
      root = c.in_ok-root.root.now;
      past_root = c.in_ok-tree.rest.now;
      piece = p;
      characters = c.requires.characters;
      declaration = a;
      misc = b;
      doctype = x;
      element = f;
      end = subst (MiscAt c.in_ok-tree.rest.now) none c.in_ok-end.ensures.ok;
      is_tree = is;
    }
