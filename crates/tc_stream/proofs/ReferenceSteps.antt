-- What still comes of a text where a reference has begun in content.
use Rattle.std.proofs.Common.{◌≡◌, ℕ, ◌+◌, false, List, [], ◌∷◌, ◌++◌, refl, ap, ◌∙◌, sym, subst, length}
use Rattle.std.specs.Prelude.{◌↔◌, encode_utf8, encode_utf8_all}
use Rattle.std.proofs.lemmas.Str.{encodes-append}
use Rattle.tc_base.specs.declared.reasons.Why.TheVariants.{EntityReference}
use Rattle.tc_model.specs.Names.{IsChars}
use Rattle.tc_model.specs.RawTrees.{Bound}
use Rattle.tc_model.specs.XmlTextReferences.{ReferenceAt}
use Rattle.tc_model.specs.XmlTextRefusals.{unsupported, OtherEntityAt}
use Rattle.tc_model.proofs.XmlTextUnique.{kind}
use Rattle.tc_stream.specs.Cuts.{BeginsNoChar}
use Rattle.tc_stream.specs.References.{Referring, begun, ReferenceScan, referred, referring, no_reference, reference_scan}
use Rattle.tc_stream.specs.References as scans
use Rattle.tc_stream.specs.Outcomes.{Outcome, refused}
use Rattle.tc_stream.specs.Goes.{Level, Goes}
use Rattle.tc_stream.specs.From.{open_in, StillComes}
use Rattle.tc_stream.specs.declared.phases.Phase.TheVariants as phases
use Rattle.tc_stream.proofs.TagExtendLaws.{reference_kept, entity_kept}
use Rattle.tc_stream.proofs.OneOutcome.{AtReference, refers, strange, at_reference}
use Rattle.tc_stream.proofs.ContentSteps.{reference_step}
use Rattle.tc_stream.proofs.FinalSteps.{entity_step}
use Rattle.tc_stream.proofs.NothingSteps.{nothing_step, last_step}
use Rattle.tc_stream.proofs.ReferenceScans.{then_reference, reference_more, Refers, reference_scanned, other_scanned, Tells, Told, is_referred, is_other, goes_on, is_none, told}
use Rattle.tc_stream.proofs.ReferenceScans as scanned

referred_char : {c d : ℕ} {r s : List ℕ} → referred c r ≡ referred d s → c ≡ d
referred_char e = cc

referred_rest : {c d : ℕ} {r s : List ℕ} → referred c r ≡ referred d s → r ≡ s
referred_rest e = cc

reference_there : {cs : List ℕ} {c : ℕ} {x : ReferenceScan} → Told cs x → x ≡ referred c [] → ReferenceAt false (0x26 ∷ encode_utf8_all cs) (encode_utf8 c) []
reference_there {cs} {c} (is_referred {c = d} {fs = fs} a) e =
    subst (λ z. ReferenceAt false (0x26 ∷ encode_utf8_all cs) (encode_utf8 z) []) (referred_char e)
    (subst (λ z. ReferenceAt false (0x26 ∷ encode_utf8_all cs) (encode_utf8 d) (encode_utf8_all z)) (referred_rest e) a)
reference_there (is_other a) e = absurd (cc)
reference_there goes_on e = absurd (cc)
reference_there is_none e = absurd (cc)

entity_there : {cs : List ℕ} {x : ReferenceScan} → Told cs x → x ≡ scans.other → OtherEntityAt (0x26 ∷ encode_utf8_all cs)
entity_there (is_referred a) e = absurd (cc)
entity_there (is_other a) e = a
entity_there goes_on e = absurd (cc)
entity_there is_none e = absurd (cc)

-- one that stands for a character
pub referred_step : (n : ℕ) (ws r : List ℕ) (c : ℕ) (l : Level) (ls : List Level) (scope : List Bound) (run : List ℕ) (o : Outcome) → IsChars (0x26 ∷ encode_utf8_all ws) → reference_scan begun ws ≡ referred c []
    → StillComes n phases.Content (open_in (l ∷ ls) scope run) ((0x26 ∷ encode_utf8_all ws) ++ r) o
    ↔ StillComes (n + length (0x26 ∷ encode_utf8_all ws)) phases.Content (open_in (l ∷ ls) scope (run ++ encode_utf8 c)) r o
referred_step n ws r c l ls scope run o chars e =
    reference_step n (0x26 ∷ encode_utf8_all ws) (encode_utf8 c) r l ls scope run o chars (λ f. reference_kept f (reference_there (told ws) e))

-- one to another entity
pub other_step : (n : ℕ) (ws r : List ℕ) (l : Level) (ls : List Level) (scope : List Bound) (run : List ℕ) (o : Outcome) → IsChars (0x26 ∷ encode_utf8_all ws) → reference_scan begun ws ≡ scans.other
    → StillComes n phases.Content (open_in (l ∷ ls) scope run) ((0x26 ∷ encode_utf8_all ws) ++ r) o ↔ (o ≡ refused (unsupported EntityReference) n)
other_step n ws r l ls scope run o chars e =
    let a = entity_there (told ws) e in
    entity_step n (0x26 ∷ encode_utf8_all ws) r l ls scope run o chars (λ f. record { name = a.name; after = a.after ++ f; refers = entity_kept f a.refers; not_predefined = a.not_predefined })

-- what comes of a reference is what its scan tells

and_begins : (x : List ℕ) → kind (0x26 ∷ x) ≡ 1
unfolding kind
and_begins x = refl

tells_of : {total : ℕ} {l : Level} {ls : List Level} {scope : List Bound} {run : List ℕ} {o : Outcome} (cs : List ℕ) → AtReference total l ls scope run (0x26 ∷ encode_utf8_all cs) o → Tells (reference_scan begun cs)
tells_of cs (refers {s = s} {rest = rest} a g) = by (reference_scanned cs a)
  where
    by : Refers (reference_scan begun cs) s rest → Tells (reference_scan begun cs)
    by (scanned.refers c fs i j k) = subst Tells (sym i) tt
tells_of cs (strange a e) = subst Tells (sym (other_scanned cs a)) tt

at_scan : {total : ℕ} {l : Level} {ls : List Level} {scope : List Bound} {run : List ℕ} {o : Outcome} (cs : List ℕ) → Goes total (l ∷ ls) scope run (0x26 ∷ encode_utf8_all cs) o → Tells (reference_scan begun cs)
at_scan cs g = tells_of cs (at_reference (and_begins (encode_utf8_all cs)) g)

-- where none stands whatever follows, and where the text ends in one

pub reference_broken : (n : ℕ) (ws r : List ℕ) (l : Level) (ls : List Level) (scope : List Bound) (run : List ℕ) (o : Outcome) → IsChars (0x26 ∷ encode_utf8_all ws) → reference_scan begun ws ≡ no_reference
    → StillComes n phases.Content (open_in (l ∷ ls) scope run) ((0x26 ∷ encode_utf8_all ws) ++ r) o → ⊥
reference_broken n ws r l ls scope run o chars e =
    nothing_step n (0x26 ∷ encode_utf8_all ws) r phases.Content (open_in (l ∷ ls) scope run) o chars (λ f k g. by f k.characters g)
  where
    by : (f : List ℕ) → IsChars f → Goes (n + length ((0x26 ∷ encode_utf8_all ws) ++ f)) (l ∷ ls) scope run ((0x26 ∷ encode_utf8_all ws) ++ f) o → ⊥
    by f (fs, is, h) g =
        let total = n + length ((0x26 ∷ encode_utf8_all ws) ++ f) in
        let same : (0x26 ∷ encode_utf8_all ws) ++ f ≡ 0x26 ∷ encode_utf8_all (ws ++ fs) = ap (λ w. 0x26 ∷ (encode_utf8_all ws ++ w)) (sym is) ∙ ap (λ w. 0x26 ∷ w) (sym (encodes-append ws fs)) in
        subst Tells (reference_more begun ws fs ∙ ap (λ x. then_reference x fs) e) (at_scan (ws ++ fs) (subst (λ z. Goes total (l ∷ ls) scope run z o) same g))

pub reference_unended : (n : ℕ) (ws r : List ℕ) (l : Level) (ls : List Level) (scope : List Bound) (run : List ℕ) (o : Outcome) (known : Referring) → IsChars (0x26 ∷ encode_utf8_all ws) → BeginsNoChar r
    → reference_scan begun ws ≡ referring known → StillComes n phases.Content (open_in (l ∷ ls) scope run) ((0x26 ∷ encode_utf8_all ws) ++ r) o → ⊥
reference_unended n ws r l ls scope run o known chars end e =
    last_step n (0x26 ∷ encode_utf8_all ws) r phases.Content (open_in (l ∷ ls) scope run) o chars end (λ g. subst Tells e (at_scan ws g))
