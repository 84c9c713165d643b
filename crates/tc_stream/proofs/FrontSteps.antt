-- How reading comes from a byte order mark to where an XML declaration may stand, and from there to the misc behind it.
use Rattle.std.proofs.Common.{◌≡◌, ℕ, ◌+◌, Bool, true, false, cond, List, [], ◌∷◌, ◌++◌, refl, ap, ◌∙◌, sym, subst, length, take, drop, codes, take-append-drop}
use Rattle.std.specs.Prelude.{◌↔◌}
use Rattle.std.specs.List.{list_all}
use Rattle.std.specs.Cmp.Lexicographic.{bytes_decides}
use Rattle.std.proofs.lemmas.Bool.{true≢false, and_parts}
use Rattle.tc_base.specs.Characters.{is_white}
use Rattle.tc_model.specs.Names.{IsChars}
use Rattle.tc_model.specs.XmlText.{after_mark}
use Rattle.tc_model.specs.XmlTextBytes.{begins_with, BeginsWithWhite}
use Rattle.tc_model.proofs.XmlTextPhrases.{same_first}
use Rattle.tc_stream.specs.Outcomes.{Outcome}
use Rattle.tc_stream.specs.From.{Standing, FromFront, StillComes}
use Rattle.tc_stream.specs.declared.phases.Phase.TheVariants as phases
use Rattle.tc_stream.proofs.MiscSteps.{no_declaration_here, over_prolog, is_space}
use Rattle.tc_stream.proofs.ContentSteps.{step_both}
use Rattle.tc_stream.proofs.RootOpens.{phase_same}

-- a byte order mark goes by

abbrev pub mark : List ℕ
mark = 0xEF ∷ 0xBB ∷ 0xBF ∷ []

mark_passed : (f : List ℕ) → after_mark (mark ++ f) ≡ f
mark_passed f = ap (λ x. cond x (drop 3 (mark ++ f)) (mark ++ f)) ((bytes_decides mark mark).1 refl)

pub mark_step : (n : ℕ) (r : List ℕ) (s : Standing) (o : Outcome) → IsChars mark
    → StillComes n phases.Mark s (mark ++ r) o ↔ StillComes (n + length mark) phases.Front s r o
mark_step n r s o chars =
    step_both n mark r phases.Mark phases.Front s s o chars
    (λ total f k. (λ g. subst (λ z. FromFront total z o) (mark_passed f) g, λ g. subst (λ z. FromFront total z o) (sym (mark_passed f)) g))

-- where none stands, a declaration may

no_mark : (bs : List ℕ) → ((r : List ℕ) → bs ≡ mark ++ r → ⊥) → after_mark bs ≡ bs
no_mark bs n = by (begins_with mark bs) refl
  where
    by : (x : Bool) → begins_with mark bs ≡ x → after_mark bs ≡ bs
    by true e = absurd (n (drop 3 bs) (whole bs e))
      where
        whole : (bs : List ℕ) → begins_with mark bs ≡ true → bs ≡ mark ++ drop 3 bs
        whole bs e = sym (take-append-drop 3 bs) ∙ ap (λ w. w ++ drop 3 bs) (sym ((bytes_decides mark (take 3 bs)).0 e))
    by false e = ap (λ x. cond x (drop 3 bs) bs) e

pub mark_left : (n : ℕ) (item r : List ℕ) (s : Standing) (o : Outcome) → IsChars item → ((f r : List ℕ) → item ++ f ≡ mark ++ r → ⊥)
    → StillComes n phases.Mark s (item ++ r) o ↔ StillComes n phases.Front s (item ++ r) o
mark_left n item r s o chars none =
    phase_same n item r phases.Mark phases.Front s s o chars
    (λ total f. let same = no_mark (item ++ f) (none f) in (λ g. subst (λ z. FromFront total z o) same g, λ g. subst (λ z. FromFront total z o) (sym same) g))

-- where no declaration begins, none comes

pub front_left : (n : ℕ) (item r : List ℕ) (s : Standing) (o : Outcome) → IsChars item → ((f r : List ℕ) → item ++ f ≡ codes "<?xml" ++ r → BeginsWithWhite r → ⊥)
    → StillComes n phases.Front s (item ++ r) o ↔ StillComes n phases.Prolog s (item ++ r) o
front_left n item r s o chars none = phase_same n item r phases.Front phases.Prolog s s o chars (λ total f. no_declaration_here (item ++ f) (none f) total o)

-- nor behind white space
pub front_white : (n : ℕ) (b : ℕ) (w r : List ℕ) (s : Standing) (o : Outcome) → IsChars (b ∷ w) → list_all is_white (b ∷ w) ≡ true
    → StillComes n phases.Front s ((b ∷ w) ++ r) o ↔ StillComes (n + length (b ∷ w)) phases.Prolog s r o
front_white n b w r s o chars white =
    let left = front_left n (b ∷ w) r s o chars (λ f r e k. not_markup (same_first e)) in
    let past = step_both n (b ∷ w) r phases.Prolog phases.Prolog s s o chars (λ total f k. over_prolog (b ∷ w) total f o (is_space white)) in
    ((λ g. past.0 (left.0 g)), (λ g. left.1 (past.1 g)))
  where
    not_markup : b ≡ 0x3C → ⊥
    not_markup e = true≢false (sym (and_parts (is_white b) (list_all is_white w) white).0 ∙ ap is_white e)
