use Rattle.std.proofs.Common.{sym, subst, List, ℕ, ◌∷◌, ◌∙◌, arith, ◌≡◌, refl}
use Rattle.tc_model.specs.XmlTextMisc.{no_doctype, doctype, DoctypeFrontAt, DoctypeAt}
use Rattle.tc_xml.specs.Refusals.{Refuses, OnMalformed, UnsupportedAt}
use Rattle.tc_model.proofs.XmlTextPhrases.{same_first}
use Rattle.tc_xml.proofs.ContentLaws.{broken}
use Rattle.tc_xml.proofs.MalformedLaws.{of_breaks, no_subset_at}
use Rattle.tc_xml.proofs.MiscLaws.{map_ok, map_err, no_front, no_misc_behind, no_close}
use Rattle.tc_xml.proofs.DocumentLaws.{breaks_nowhere}
use Rattle.tc_base.specs.declared.reasons.Why.{Why}
use Rattle.tc_base.specs.declared.reasons.Why.TheVariants.{DoctypeSubset}
use Rattle.tc_xml.proofs.misc.after_doctype.Goals as goal
use Rattle.tc_xml.proofs.misc.after_doctype.Goals.{then-begins, else-begins}

pub returns-then-not-begins-clause-ok : goal.returns-then-not-begins-clause-ok
returns-then-not-begins-clause-ok c = no_doctype c.if-not-begins.ensures

pub returns-in_default-clause-no : goal.returns-in_default-clause-no
returns-in_default-clause-no c = let (r, e) = c.if-not-begins.ensures in no_front c.args.text.now r e c.in_default.ensures

pub returns-in-Some-after_byte-clause-ok : goal.returns-in-Some-after_byte-clause-ok
returns-in-Some-after_byte-clause-ok c =
    map_ok _ _ c.after_misc.result (λ r m. doctype (subst (λ w. DoctypeFrontAt c.args.text.now w) c.in-Some-after_byte.ensures c.in-Some.ensures) m) c.after_misc.ensures.ok

pub returns-in-Some-after_byte-clause-no : goal.returns-in-Some-after_byte-clause-no
returns-in-Some-after_byte-clause-no c =
    let (r, q) = c.if-not-begins.ensures in
    map_err _ _ c.after_misc.result
    (λ e m. let k = no_misc_behind c.args.text.now r c.in-Some.end.now c.in-Some-after_byte.rest.now q c.in-Some.ensures c.in-Some-after_byte.ensures in broken e _ _ _ k k m) c.after_misc.ensures.no

pub returns-after-begins-clause-no : goal.returns-after-begins-clause-no
returns-after-begins-clause-no c =
    let (r, q) = c.if-not-begins.ensures in
    let none : (after : List ℕ) → DoctypeAt c.args.text.now after → ⊥ = no_close c.args.text.now r c.in-Some.end.now q c.in-Some.ensures c.in-None.ensures in
    elim c.if-begins.branch [
      | then-begins w ↦ subst (λ e. Refuses e ((after : List ℕ) → DoctypeAt c.args.text.now after → ⊥) ((after : List ℕ) → DoctypeAt c.args.text.now after → ⊥)) (sym w.result-is) none
      | else-begins w ↦ subst (λ e. Refuses e ((after : List ℕ) → DoctypeAt c.args.text.now after → ⊥) ((after : List ℕ) → DoctypeAt c.args.text.now after → ⊥)) (sym w.result-is) none
    ]

pub returns-in_default-clause-malformed : goal.returns-in_default-clause-malformed
returns-in_default-clause-malformed c = λ r. c.in_default.ensures (0x5B ∷ r)

pub returns-in-Some-after_byte-clause-malformed : goal.returns-in-Some-after_byte-clause-malformed
returns-in-Some-after_byte-clause-malformed c =
    let none : (r : List ℕ) → DoctypeFrontAt c.args.text.now (0x5B ∷ r) → ⊥ =
    no_subset_at c.args.text.now c.in-Some.end.now c.in-Some.ensures (λ r e. omega (arith, same_first (sym c.in-Some-after_byte.ensures ∙ e))) in
    map_err _ _ c.after_misc.result (λ e m. of_breaks e _ _ (λ k. none) m) c.after_misc.ensures.no

pub returns-after-begins-clause-malformed : goal.returns-after-begins-clause-malformed
returns-after-begins-clause-malformed c =
    elim c.if-begins.branch [
      | then-begins w ↦ subst (λ e. OnMalformed e ((r : List ℕ) → DoctypeFrontAt c.args.text.now (0x5B ∷ r) → ⊥)) (sym w.result-is) tt
      | else-begins w ↦ subst (λ e. OnMalformed e ((r : List ℕ) → DoctypeFrontAt c.args.text.now (0x5B ∷ r) → ⊥)) (sym w.result-is)
          (no_subset_at c.args.text.now c.in-Some.end.now c.in-Some.ensures w.if-begins.ensures)
    ]

pub returns-in-Some-after_byte-clause-stands : goal.returns-in-Some-after_byte-clause-stands
returns-in-Some-after_byte-clause-stands c = map_err _ _ c.after_misc.result (λ e m. breaks_nowhere e _ _ m) c.after_misc.ensures.no

pub returns-after-begins-clause-stands : goal.returns-after-begins-clause-stands
returns-after-begins-clause-stands c =
    let P = λ (why : Why) (at : List ℕ). (why ≡ DoctypeSubset) × ((r : List ℕ) × (at ≡ 0x5B ∷ r)) × DoctypeFrontAt c.args.text.now at in
    elim c.if-begins.branch [
      | then-begins w ↦ subst (λ e. UnsupportedAt e P) (sym w.result-is) (c.in-Some.end.now, refl, (refl, w.if-begins.ensures, c.in-Some.ensures))
      | else-begins w ↦ subst (λ e. UnsupportedAt e P) (sym w.result-is) tt
    ]
