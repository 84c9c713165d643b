use Rattle.std.proofs.Common.{◌≡◌, ℕ, ◌+◌, ◌<◌, Bool, true, false, cond, List, [], ◌∷◌, ◌++◌, ◌∙◌, ap, append-nil, append_assoc, drop, get_or, length, map, sym}
use Rattle.std.proofs.lemmas.List.{drop_all, drop_more, map_push}
use Rattle.std.specs.Prelude.{filter}
use Rattle.tc_model.specs.SheetTextTrees as s
use Rattle.tc_model.specs.SheetTextTrees.{is_used}
use Rattle.tc_sheet.specs.Views.{template}
use Rattle.tc_sheet.specs.declared.written.Template.{Template}
use Rattle.tc_sheet.proofs.used.Goals.{then-is_used+in_ok-push, else-is_used}
use Rattle.tc_sheet.proofs.used.Goals as goal

module _ (ts : List Template) (k : ℕ) (d : Template) (lt : k < length ts) where
  abbrev now : s.Template
  now = template (get_or ts k d)

  abbrev rest : List s.Template
  rest = filter is_used (map template (drop (k + 1) ts))

  left : (b : Bool) → is_used now ≡ b → filter is_used (map template (drop k ts)) ≡ cond b (now ∷ rest) rest
  left b e = ap (λ z. filter is_used (map template z)) (drop_more ts k d lt) ∙ ap (λ (b : Bool). cond b (now ∷ rest) rest) e

  is_kept : (old new : List Template) (all : List s.Template) → new ≡ old ++ get_or ts k d ∷ [] → is_used now ≡ true → map template old ++ filter is_used (map template (drop k ts)) ≡ all → map template new ++ rest ≡ all
  is_kept old new all f e g =
      ap (λ z. map template z ++ rest) f
      ∙ (ap (λ z. z ++ rest) (map_push template old (get_or ts k d)) ∙ (append_assoc (map template old) (now ∷ []) rest ∙ (ap (λ z. map template old ++ z) (sym (left true e)) ∙ g)))

  is_dropped : (old new : List Template) (all : List s.Template) → new ≡ old → is_used now ≡ false → map template old ++ filter is_used (map template (drop k ts)) ≡ all → map template new ++ rest ≡ all
  is_dropped old new all f e g = ap (λ z. map template z ++ rest) f ∙ (ap (λ z. map template old ++ z) (sym (left false e)) ∙ g)

pub loop-template-preserved : goal.loop-template-preserved
loop-template-preserved c =
    let ts = c.args.templates.now in
    let k = c.loop-template.template-index in
    elim c.if-is_used.branch [
      | then-is_used+in_ok-push w ↦
          is_kept ts k _ c.loop-template-test.true c.loop-template.found.items c.if-is_used.found.items _ (ap (λ v. v.items) w.found-is ∙ w.in_ok-push.ensures.items) (sym w.if-is_used.ensures) c.loop-template.invariant
      | else-is_used w ↦ is_dropped ts k _ c.loop-template-test.true c.loop-template.found.items c.if-is_used.found.items _ (ap (λ v. v.items) w.found-is) (sym w.if-is_used.ensures) c.loop-template.invariant
    ]

pub returns-clause-ok : goal.returns-clause-ok
returns-clause-ok c =
    let found = map template c.loop-template.found.items in
    ap (map template) c.into_bump_slice.ensures
    ∙ (sym (append-nil found) ∙ (ap (λ z. found ++ filter is_used (map template z)) (sym (drop_all c.loop-template.template-index c.args.templates.now c.loop-template-test.false)) ∙ c.loop-template.invariant))
