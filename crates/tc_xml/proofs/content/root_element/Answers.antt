use Rattle.std.proofs.Common.{◌≡◌, ◌∙◌, subst, ℕ, List, true, false}
use Rattle.tc_model.specs.RawTrees.{none}
use Rattle.tc_model.specs.Views.{raw_trees}
use Rattle.tc_model.specs.XmlTextContent.{Piece, piece_before, ElementAt}
use Rattle.tc_model.specs.XmlTextRefusals.{Cause, ElementRefuses}
use Rattle.tc_model.specs.XmlTextScopes.{first_scope}
use Rattle.tc_xml.specs.Refusals.{RefusesWithin, RefusedAt, OnMalformed}
use Rattle.tc_tags.proofs.FailedLaws.{failed_ok}
use Rattle.tc_xml.proofs.ContentLaws.{failed}
use Rattle.tc_xml.proofs.DocumentLaws.{breaks_within, breaks_shallow}
use Rattle.tc_xml.proofs.MalformedLaws.{of_breaks}
use Rattle.tc_xml.proofs.RootLaws.{root_is, no_root, element_alone}
use Rattle.tc_xml.proofs.content.root_element.Goals as goal

pub returns-in-Some-clause-ok : goal.returns-in-Some-clause-ok
returns-in-Some-clause-ok c =
    let (p, a, adds) = c.in_ok-rest.ensures.ok in
    let trees : raw_trees c.in_ok-trees.trees.now ≡ piece_before p none = c.in_ok-trees.ensures ∙ (adds none ∙ c.gathered_nothing-gathered.ensures (piece_before p none)) in (
      p,
      subst (λ s. ElementAt false c.args.total s c.args.depth c.args.text.now p c.in_ok-rest.rest.now) c.in_ok-scope.ensures.ok a,
      root_is c.in_ok-trees.trees.now c.in-Some.root.now (piece_before p none) c.in-Some.ensures.value trees (element_alone a),
    )

pub returns-in-None-clause-no : goal.returns-in-None-clause-no
returns-in-None-clause-no c =
    let (p, a, adds) = c.in_ok-rest.ensures.ok in
    let trees : raw_trees c.in_ok-trees.trees.now ≡ piece_before p none = c.in_ok-trees.ensures ∙ (adds none ∙ c.gathered_nothing-gathered.ensures (piece_before p none)) in
    absurd (no_root c.in_ok-trees.trees.now (piece_before p none) c.in-None.ensures.value trees (element_alone a))

pub returns-in-None-clause-malformed : goal.returns-in-None-clause-malformed
returns-in-None-clause-malformed c =
    let (p, a, adds) = c.in_ok-rest.ensures.ok in
    let trees : raw_trees c.in_ok-trees.trees.now ≡ piece_before p none = c.in_ok-trees.ensures ∙ (adds none ∙ c.gathered_nothing-gathered.ensures (piece_before p none)) in
    absurd (no_root c.in_ok-trees.trees.now (piece_before p none) c.in-None.ensures.value trees (element_alone a))

pub returns-in_err-scope-clause-no : goal.returns-in_err-scope-clause-no
returns-in_err-scope-clause-no c =
    let A = (d : ℕ) (p : Piece) (after : List ℕ) → ElementAt true c.args.total first_scope d c.args.text.now p after → ⊥ in
    let B = (d : ℕ) (p : Piece) (after : List ℕ) → ElementAt false c.args.total first_scope d c.args.text.now p after → ⊥ in
    let C = (p : Piece) (after : List ℕ) → ElementAt true c.args.total first_scope c.args.depth c.args.text.now p after → ⊥ in
    let e = c.in_err-scope.field-0.0 in
    failed c.from_residual.result (λ e. RefusesWithin e A B C) e c.from_residual.ensures.1 (breaks_within e ⊥ A B C (λ k. absurd k) (λ k. absurd k) (λ k. absurd k) c.in_err-scope.ensures.no)

pub returns-in_err-scope-clause-stands : goal.returns-in_err-scope-clause-stands
returns-in_err-scope-clause-stands c =
    let P = ElementRefuses c.args.total first_scope c.args.depth c.args.text.now in
    failed c.from_residual.result (λ e. RefusedAt e P) c.in_err-scope.field-0.0 c.from_residual.ensures.1 (breaks_shallow c.in_err-scope.field-0.0 ⊥ P c.in_err-scope.ensures.no)

pub returns-in_err-scope-clause-malformed : goal.returns-in_err-scope-clause-malformed
returns-in_err-scope-clause-malformed c =
    let Q = (cause : Cause) (at : List ℕ) → ElementRefuses c.args.total first_scope c.args.depth c.args.text.now cause at → ⊥ in
    failed c.from_residual.result (λ e. OnMalformed e Q) c.in_err-scope.field-0.0 c.from_residual.ensures.1 (of_breaks c.in_err-scope.field-0.0 ⊥ Q (λ k. absurd k) c.in_err-scope.ensures.no)

pub returns-in_err-rest-clause-no : goal.returns-in_err-rest-clause-no
returns-in_err-rest-clause-no c =
    let A = (d : ℕ) (p : Piece) (after : List ℕ) → ElementAt true c.args.total first_scope d c.args.text.now p after → ⊥ in
    let B = (d : ℕ) (p : Piece) (after : List ℕ) → ElementAt false c.args.total first_scope d c.args.text.now p after → ⊥ in
    let C = (p : Piece) (after : List ℕ) → ElementAt true c.args.total first_scope c.args.depth c.args.text.now p after → ⊥ in
    let e = c.in_err-rest.field-0.0 in
    failed c.from_residual-in_err-rest.result (λ e. RefusesWithin e A B C) e c.from_residual-in_err-rest.ensures.1
    (subst (λ s. RefusesWithin e
    ((d : ℕ) (p : Piece) (after : List ℕ) → ElementAt true c.args.total s d c.args.text.now p after → ⊥)
    ((d : ℕ) (p : Piece) (after : List ℕ) → ElementAt false c.args.total s d c.args.text.now p after → ⊥)
    ((p : Piece) (after : List ℕ) → ElementAt true c.args.total s c.args.depth c.args.text.now p after → ⊥))
    c.in_ok-scope.ensures.ok c.in_err-rest.ensures.no)

pub returns-in_err-rest-clause-stands : goal.returns-in_err-rest-clause-stands
returns-in_err-rest-clause-stands c =
    let P = ElementRefuses c.args.total first_scope c.args.depth c.args.text.now in
    let e = c.in_err-rest.field-0.0 in
    failed c.from_residual-in_err-rest.result (λ e. RefusedAt e P) e c.from_residual-in_err-rest.ensures.1
    (subst (λ s. RefusedAt e (ElementRefuses c.args.total s c.args.depth c.args.text.now)) c.in_ok-scope.ensures.ok c.in_err-rest.ensures.stands)

pub returns-in_err-rest-clause-malformed : goal.returns-in_err-rest-clause-malformed
returns-in_err-rest-clause-malformed c =
    let Q = (cause : Cause) (at : List ℕ) → ElementRefuses c.args.total first_scope c.args.depth c.args.text.now cause at → ⊥ in
    let e = c.in_err-rest.field-0.0 in
    failed c.from_residual-in_err-rest.result (λ e. OnMalformed e Q) e c.from_residual-in_err-rest.ensures.1
    (subst (λ s. OnMalformed e ((cause : Cause) (at : List ℕ) → ElementRefuses c.args.total s c.args.depth c.args.text.now cause at → ⊥)) c.in_ok-scope.ensures.ok c.in_err-rest.ensures.malformed)

pub returns-in_err-scope-clause-ok : goal.returns-in_err-scope-clause-ok
returns-in_err-scope-clause-ok c = failed_ok _ _ _ c.from_residual.ensures.1

pub returns-in_err-rest-clause-ok : goal.returns-in_err-rest-clause-ok
returns-in_err-rest-clause-ok c = failed_ok _ _ _ c.from_residual-in_err-rest.ensures.1

pub returns-in_err-trees-clause-ok : goal.returns-in_err-trees-clause-ok
returns-in_err-trees-clause-ok c = failed_ok _ _ _ c.from_residual-in_err-trees.ensures.1
