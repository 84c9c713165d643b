-- What is told of the spots of texts is what `dead` answers on them.
use Rattle.std.proofs.Common.{◌≡◌, ◌⊎◌, inl, inr, ◌∙◌, refl, sym, ap, subst, ℕ, List, [], ◌∷◌, map, All, Bor, Ok, Err}
use Rattle.std.proofs.lemmas.List.Elements.{All-map}
use Rattle.tc_answer.specs.Answers.{Answer, spots}
use Rattle.tc_answer.specs.AnswersSeen.{Says}
use Rattle.tc_answer.specs.SpotLines.{SpotUse}
use Rattle.tc_answer.specs.SpotsSeen.{use_of, spot_use, spot_uses}
use Rattle.tc_answer.specs.declared.answer.Answer as made
use Rattle.tc_dead.specs.Spots.{Spot, spots_of}
use Rattle.tc_dead.specs.Views.{seen}
use Rattle.tc_decide.specs.DeadSpots.{Answer as Answered, AreBothAccepted, IfPassed, IsFirstRefusedOfTwo, TellsRefusalOfTwo, TellsSpot, TellsSpots, PassSpots, by_text, by_calls, by_entries, by_rows}
use Rattle.tc_decide.specs.Texts.{Spells}
use Rattle.tc_decide.specs.declared.failure.Failure.{Failure}
use Rattle.tc_decide.specs.declared.failure.Failure.TheVariants.{Refused, Passes, NoMemory}
use Rattle.tc_decide.specs.declared.failure.Kind.{Kind}
use Rattle.tc_decide.specs.declared.failure.Which.{Which}
use Rattle.tc_decide.specs.declared.failure.Which.TheVariants as which
use Rattle.tc_decide.specs.declared.schemas.SchemaText.{SchemaText as Text}
use Rattle.tc_decide.specs.declared.spots.SpotTold.{SpotTold}
use Rattle.tc_decide.specs.declared.spots.Told.{Told}
use Rattle.tc_decide.specs.declared.spots.Told.TheVariants.{Dead, Used, UsedTooLarge}
use Rattle.tc_model.specs.Grammars.{Grammar}
use Rattle.tc_model.specs.Sheets.{Sheet}
use Rattle.tc_model.specs.Views.{place}
use Rattle.tc_read.specs.Sheets.{IsSheetOf}
use Rattle.tc_read.specs.declared.faults.Reason.{Reason}
use Rattle.tc_top.specs.DeadSeen.{SaysUntold}
use Rattle.tc_top.specs.DeadSpots.{IsUse, AreUses, FindsSpots, spots_pass_before_rows, spots_pass_rows, finds_spots, TellsDead, input_refused, spots_refused, spots_read}
use Rattle.tc_top.specs.SchemaTexts.{IsTextOf}
use Rattle.tc_top.specs.VerdictsSeen.{limit_answer}
use Rattle.tc_top.proofs.SchemaTextLaws.{spelled_as_text, refused_as_text}

spots_same : (told : List SpotTold) → map (λ u. u.spot) (spot_uses told) ≡ map (λ t. seen t.spot) told
spots_same [] = refl
spots_same (t ∷ told) = ap (λ ps. seen t.spot ∷ ps) (spots_same told)

module _ (i : Grammar) (s : Sheet) where
  use_is : (p : Spot) (told : Told) → TellsSpot i s p told → IsUse i s p (use_of told)
  use_is p Dead h = h.dead.0 tt
  use_is p (Used document) h = h.least
  use_is p UsedTooLarge h = h.large.0 tt

  -- what is told of all
  uses_are : (told : List SpotTold) → map (λ t. seen t.spot) told ≡ spots_of s → All (λ t. TellsSpot i s (seen t.spot) t.told) told → AreUses i s (spot_uses told)
  uses_are told same each = record {
    spots = spots_same told ∙ same;
    each = All-map (λ (u : SpotUse). IsUse i s u.spot u.found) spot_use told (λ k d h. use_is _ _ (each k d h));
  }

  limit_found : {kind : Kind} {number : ℕ} → PassSpots i s (spots_of s) kind number → FindsSpots i s (limit_answer kind number)
  limit_found (by_text p e c x) = spots_pass_before_rows (by_text p e c x)
  limit_found (by_calls p each c x) = spots_pass_before_rows (by_calls p each c x)
  limit_found (by_entries p each c x) = spots_pass_before_rows (by_entries p each c x)
  limit_found (by_rows p earlier later each e kept x) = spots_pass_rows (by_rows p earlier later each e kept x)

-- neither what is told nor a limit is want of memory
no_failure : (told : Bor (List SpotTold)) → Ok told ≡ Err NoMemory → ⊥
no_failure told e = absurd (cc)

not_memory : (kind : Kind) (number : ℕ) (result : Answered) → result ≡ Err (Passes kind number) → result ≡ Err NoMemory → ⊥
not_memory kind number result p q = let e = sym p ∙ q in absurd (cc)

module _ (n w b d : List ℕ) (input : Text) (input_is : IsTextOf n b input) where
  by_both : (i : Grammar) (s : Sheet) {answer : Answer} → Spells input i → IsSheetOf d s → FindsSpots i s answer → TellsDead n w b d answer
  by_both i s x y h = spots_read (spelled_as_text n b input input_is i x) y h

  pub spots_tell : (told : Bor (List SpotTold)) → AreBothAccepted input d
      → ((i : Grammar) (s : Sheet) → Spells input i → IsSheetOf d s → (Ok told ≡ Err NoMemory) ⊎ TellsSpots i s (Ok told)) → TellsDead n w b d (spots (spot_uses told.now))
  spots_tell told a tells =
      let (i, x) = a.input_spells in
      let (s, y) = a.sheet_spells in
      by i s x y (tells i s x y)
    where
      by : (i : Grammar) (s : Sheet) → Spells input i → IsSheetOf d s → (Ok told ≡ Err NoMemory) ⊎ TellsSpots i s (Ok told) → TellsDead n w b d (spots (spot_uses told.now))
      by i s x y (inl e) = absurd (no_failure told e)
      by i s x y (inr h) = by_both i s x y (finds_spots (h.answered.0 tt) (uses_are i s told.now h.spots h.each))

  refusal : (which : Which) (reason : Reason) (at : _) (said : made.Answer) → IsFirstRefusedOfTwo input d which reason (place at) → SaysUntold n w (Refused which reason at) said
      → (answer : Answer) × Says said answer × TellsDead n w b d answer
  refusal which.Input reason at said r says = (_, says, input_refused (refused_as_text n b input input_is reason (place at) r))
  refusal which.Sheet reason at said r says = (_, says, spots_refused (spelled_as_text n b input input_is r.0.0 r.0.1) r.1)
  refusal which reason at said r says = absurd r

  pub failure_tells : (failure : Failure) (said : made.Answer) (result : Answered) → result ≡ Err failure → TellsRefusalOfTwo {V = Bor (List SpotTold)} input d (Err failure)
      → ((i : Grammar) (s : Sheet) → Spells input i → IsSheetOf d s → (result ≡ Err NoMemory) ⊎ TellsSpots i s result) → SaysUntold n w failure said
      → (answer : Answer) × Says said answer × TellsDead n w b d answer
  failure_tells (Refused which reason at) said result is r tells says = refusal which reason at said r says
  failure_tells (Passes kind number) said result is a tells says =
      let (i, x) = a.input_spells in
      let (s, y) = a.sheet_spells in
      (_, says, by_both i s x y (by i s (tells i s x y)))
    where
      by : (i : Grammar) (s : Sheet) → (result ≡ Err NoMemory) ⊎ TellsSpots i s result → FindsSpots i s (limit_answer kind number)
      by i s (inl e) = absurd (not_memory kind number result is e)
      by i s (inr h) = limit_found i s (subst (λ r. IfPassed r (PassSpots i s (spots_of s))) is h.passed)
  failure_tells NoMemory said result is r tells says = absurd says
