-- What still comes of a text, over each item that has ended and over one that can't go on.
use Rattle.std.proofs.Common.{◌≡◌, ℕ, ◌<◌, ◌+◌, true, false, List, [], ◌∷◌, ◌++◌, ap, subst, length, arith}
use Rattle.std.specs.Prelude.{◌↔◌}
use Rattle.std.specs.List.{list_all}
use Rattle.tc_model.specs.Names.{ExpandedName, IsChars}
use Rattle.tc_model.specs.RawTrees.{Bound}
use Rattle.tc_model.specs.Trees.{Trees}
use Rattle.tc_model.specs.XmlTextBytes.{FrontOf, line_ends}
use Rattle.tc_model.specs.XmlTextReferences.{is_plain, ReferenceAt, CdataAt}
use Rattle.tc_model.proofs.XmlTextPhrases.{same_first}
use Rattle.tc_stream.specs.Outcomes.{Outcome}
use Rattle.tc_stream.specs.Goes.{Level}
use Rattle.tc_stream.specs.From.{Standing, open_in, ended, FromPhase, StillComes}
use Rattle.tc_stream.specs.Scans.{going, cdata_scan}
use Rattle.tc_stream.specs.declared.phases.Phase.{Phase}
use Rattle.tc_stream.specs.declared.phases.Phase.TheVariants as phases
use Rattle.tc_stream.proofs.StepLaws.{comes_past, comes_back, over_section, over_reference}
use Rattle.tc_stream.proofs.TextLaws.{StopsRun, text_whole, over_text}
use Rattle.tc_stream.proofs.MiscSteps.{IsMisc, over_prolog, over_end}

-- a step between two places, both ways
pub step_both : (n : ℕ) (item r : List ℕ) (phase next : Phase) (s u : Standing) (o : Outcome) → IsChars item
    → ((total : ℕ) (f : List ℕ) → FrontOf r f → FromPhase total phase s (item ++ f) o ↔ FromPhase total next u f o)
    → StillComes n phase s (item ++ r) o ↔ StillComes (n + length item) next u r o
step_both n item r phase next s u o chars step =
    (comes_past n item r phase next s u o chars (λ total f k. (step total f k).0), comes_back n item r phase next s u o chars (λ total f k. (step total f k).1))

-- in content

pub section_step : (n : ℕ) (item inside r : List ℕ) (l : Level) (ls : List Level) (scope : List Bound) (run : List ℕ) (o : Outcome) → IsChars item → ((f : List ℕ) → CdataAt (item ++ f) inside f)
    → StillComes n phases.Content (open_in (l ∷ ls) scope run) (item ++ r) o ↔ StillComes (n + length item) phases.Content (open_in (l ∷ ls) scope (run ++ line_ends inside)) r o
section_step n item inside r l ls scope run o chars a =
    step_both n item r phases.Content phases.Content (open_in (l ∷ ls) scope run) (open_in (l ∷ ls) scope (run ++ line_ends inside)) o chars (λ total f k. over_section item inside total l ls scope run f o (a f))

pub reference_step : (n : ℕ) (item s r : List ℕ) (l : Level) (ls : List Level) (scope : List Bound) (run : List ℕ) (o : Outcome) → IsChars item → ((f : List ℕ) → ReferenceAt false (item ++ f) s f)
    → StillComes n phases.Content (open_in (l ∷ ls) scope run) (item ++ r) o ↔ StillComes (n + length item) phases.Content (open_in (l ∷ ls) scope (run ++ s)) r o
reference_step n item s r l ls scope run o chars a =
    step_both n item r phases.Content phases.Content (open_in (l ∷ ls) scope run) (open_in (l ∷ ls) scope (run ++ s)) o chars (λ total f k. over_reference item s total l ls scope run f o (a f))

stops_front : (r f : List ℕ) → StopsRun r → FrontOf r f → StopsRun f
stops_front r [] s k = tt
stops_front [] (b ∷ f) s k = absurd (omega (arith, ap length k.parts))
stops_front (c ∷ r) (b ∷ f) s k = subst (λ x. is_plain x ≡ false) (same_first k.parts) s

pub text_step : (n : ℕ) (w r : List ℕ) (brackets : ℕ) (l : Level) (ls : List Level) (scope : List Bound) (run : List ℕ) (o : Outcome) → IsChars w → 0 < length w → list_all is_plain w ≡ true
    → cdata_scan 0 w ≡ going brackets → StopsRun r
    → StillComes n phases.Content (open_in (l ∷ ls) scope run) (w ++ r) o ↔ StillComes (n + length w) phases.Content (open_in (l ∷ ls) scope (run ++ line_ends w)) r o
text_step n w r brackets l ls scope run o chars some plain e stops =
    step_both n w r phases.Content phases.Content (open_in (l ∷ ls) scope run) (open_in (l ∷ ls) scope (run ++ line_ends w)) o chars
    (λ total f k. over_text w total l ls scope run f o (text_whole w f brackets some plain e (stops_front r f stops k)))

-- what can't go on

-- before the root element and behind it

pub misc_step : (n : ℕ) (item r : List ℕ) (s : Standing) (o : Outcome) → IsChars item → ((f : List ℕ) → IsMisc item f)
    → StillComes n phases.Prolog s (item ++ r) o ↔ StillComes (n + length item) phases.Prolog s r o
misc_step n item r s o chars i = step_both n item r phases.Prolog phases.Prolog s s o chars (λ total f k. over_prolog item total f o (i f))

pub misc_behind_step : (n : ℕ) (item r : List ℕ) (name : ExpandedName) (kids : Trees) (o : Outcome) → IsChars item → ((f : List ℕ) → IsMisc item f)
    → StillComes n phases.End (ended name kids) (item ++ r) o ↔ StillComes (n + length item) phases.End (ended name kids) r o
misc_behind_step n item r name kids o chars i =
    step_both n item r phases.End phases.End (ended name kids) (ended name kids) o chars (λ total f k. over_end item total name kids [] f o (i f))
