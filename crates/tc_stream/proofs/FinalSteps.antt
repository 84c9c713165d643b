-- What still comes of a text where a construct stands that isn't read: that it is refused there, whatever follows.
use Rattle.std.proofs.Common.{◌≡◌, ℕ, ◌<◌, ◌≤◌, ◌+◌, ◌-◌, List, [], ◌∷◌, ◌++◌, refl, ap, ◌∙◌, sym, subst, length, arith, None, length-append}
use Rattle.std.specs.Prelude.{◌↔◌}
use Rattle.tc_base.specs.declared.reasons.Why.{Why}
use Rattle.tc_base.specs.declared.reasons.Why.TheVariants.{EntityReference}
use Rattle.tc_model.specs.Names.{IsChars}
use Rattle.tc_model.specs.RawTrees.{Bound}
use Rattle.tc_model.specs.XmlTextBytes.{place_of}
use Rattle.tc_model.specs.XmlTextRefusals.{Cause, unsupported, OtherEntityAt, TagRefuses}
use Rattle.tc_stream.specs.XmlTextMeasures.{longest_tag}
use Rattle.tc_stream.specs.Outcomes.{Outcome, refused}
use Rattle.tc_stream.specs.Goes.{Level, depth_left, Goes, construct}
use Rattle.tc_stream.specs.From.{Standing, open_in, FromPhase, StillComes}
use Rattle.tc_stream.specs.Scans.{ended, tag_scan}
use Rattle.tc_stream.specs.declared.phases.Phase.{Phase}
use Rattle.tc_stream.specs.declared.phases.Phase.TheVariants as phases
use Rattle.tc_stream.proofs.StepLaws.{front_behind, front_past}
use Rattle.tc_stream.proofs.TextLaws.{over_entity}
use Rattle.tc_stream.proofs.TagSteps.{over_final}
use Rattle.tc_stream.proofs.RefusedLaws.{tag_refused_kept}
use Rattle.tc_stream.proofs.LongLaws.{not_long, tag_starts}
use Rattle.tc_stream.proofs.FrontExists.{front_exists}

place_here : (n : ℕ) (w : List ℕ) → place_of (n + length w) w ≡ n
place_here n w = omega arith

place_within : (n : ℕ) (w at f : List ℕ) → length at ≤ length w → place_of (n + length (w ++ f)) (at ++ f) ≡ n + (length w - length at)
place_within n w at f low = omega (arith, low, length-append w f, length-append at f)

-- where one refusal comes of each text that goes on so
pub refused_step : (n : ℕ) (item r : List ℕ) (phase : Phase) (s : Standing) (cause : Cause) (place : ℕ) (o : Outcome) → IsChars item
    → ((f : List ℕ) (o : Outcome) → FromPhase (n + length (item ++ f)) phase s (item ++ f) o ↔ (o ≡ refused cause place))
    → StillComes n phase s (item ++ r) o ↔ (o ≡ refused cause place)
refused_step n item r phase s cause place o chars step = (past, back)
  where
    past : StillComes n phase s (item ++ r) o → o ≡ refused cause place
    past (front, k, go, whole) =
        let b = front_past chars k in (step b.rest o).0 (subst (λ w. FromPhase (n + length w) phase s w o) b.whole go)

    back : o ≡ refused cause place → StillComes n phase s (item ++ r) o
    back e =
        let (f, k) = front_exists r in
        subst (λ z. StillComes n phase s (item ++ r) z) (sym e) (item ++ f, front_behind chars k, (step f (refused cause place)).1 refl, tt)

-- a reference to an entity that isn't predefined
pub entity_step : (n : ℕ) (item r : List ℕ) (l : Level) (ls : List Level) (scope : List Bound) (run : List ℕ) (o : Outcome) → IsChars item → ((f : List ℕ) → OtherEntityAt (item ++ f))
    → StillComes n phases.Content (open_in (l ∷ ls) scope run) (item ++ r) o ↔ (o ≡ refused (unsupported EntityReference) n)
entity_step n item r l ls scope run o chars a =
    refused_step n item r phases.Content (open_in (l ∷ ls) scope run) (unsupported EntityReference) n o chars
    (λ f z.
    let there = over_entity (n + length (item ++ f)) l ls scope run (item ++ f) z (a f) in
    let same : refused (unsupported EntityReference) (place_of (n + length (item ++ f)) (item ++ f)) ≡ refused (unsupported EntityReference) n = ap (refused (unsupported EntityReference)) (place_here n (item ++ f)) in
    ((λ g. there.0 g ∙ same), (λ e. there.1 (e ∙ sym same))))

-- a construct in a tag that is kept up to its end: it passes no limit
pub construct_step : (n : ℕ) (item at r : List ℕ) (why : Why) (ls : List Level) (outer : List Bound) (run : List ℕ) (o : Outcome) → IsChars item → length item ≤ longest_tag
    → tag_scan None item ≡ ended [] → 0 < depth_left ls → TagRefuses item why at → length at ≤ length item
    → StillComes n phases.Content (open_in ls outer run) (item ++ r) o ↔ (o ≡ refused (unsupported why) (n + (length item - length at)))
construct_step n item at r why ls outer run o chars low scanned some k within =
    refused_step n item r phases.Content (open_in ls outer run) (unsupported why) (n + (length item - length at)) o chars
    (λ f z.
    let same : refused (unsupported why) (place_of (n + length (item ++ f)) (at ++ f)) ≡ refused (unsupported why) (n + (length item - length at)) =
    ap (refused (unsupported why)) (place_within n item at f within) in
    let there = tag_refused_kept f chars scanned k in
    let one : Goes (n + length (item ++ f)) ls outer run (item ++ f) (refused (unsupported why) (place_of (n + length (item ++ f)) (at ++ f))) =
    construct some there (λ long. not_long item f scanned low (tag_starts there.opens there.names) long) in
    let over = over_final z one in
    ((λ g. over.0 g ∙ same), (λ e. over.1 (e ∙ sym same))))
