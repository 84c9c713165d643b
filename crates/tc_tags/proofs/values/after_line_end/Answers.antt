use Rattle.std.proofs.Common.{◌≡◌, ℕ, List, [], ◌∷◌, Bool, true, false, ◌∙◌, refl, sym, subst, drop}
use Rattle.std.proofs.lemmas.Bool.{cond-false}
use Rattle.tc_model.specs.XmlTextBytes.{begins_with}
use Rattle.tc_scan.proofs.FrontLaws.{begun, cut_after_first}
use Rattle.tc_tags.specs.Values.{past_line_end}
use Rattle.tc_tags.proofs.values.after_line_end.Goals as goal

pub range_from-requires : goal.range_from-requires
range_from-requires c = λ h. cut_after_first c.args.text.now c.utf8.text c.requires.some c.requires.ascii

pub returns-in-Some : goal.returns-in-Some
returns-in-Some c = subst (λ t. c.in-Some.rest.now ≡ past_line_end t) (sym c.in-Some.ensures) refl

one_byte : (text : List ℕ) → ((r : List ℕ) → text ≡ 13 ∷ 10 ∷ r → ⊥) → drop 1 text ≡ past_line_end text
one_byte text other = by (begins_with (13 ∷ 10 ∷ []) text) refl
  where
    by : (b : Bool) → begins_with (13 ∷ 10 ∷ []) text ≡ b → drop 1 text ≡ past_line_end text
    by true e = absurd (other (drop 2 text) (begun (13 ∷ 10 ∷ []) text e))
    by false e = sym (cond-false (begins_with (13 ∷ 10 ∷ []) text) (drop 2 text) (drop 1 text) e)

pub returns-in-None : goal.returns-in-None
returns-in-None c = c.range_from.ensures.value ∙ one_byte c.args.text.now c.in-None.ensures
