-- What still comes of a text over a whole tag that is kept.
use Rattle.std.proofs.Common.{◌≡◌, ℕ, ◌<◌, ◌≤◌, ◌+◌, Bool, false, List, [], ◌∷◌, ◌++◌, ap, sym, subst, length, arith, codes, length-append}
use Rattle.std.specs.Prelude.{◌↔◌}
use Rattle.tc_model.specs.Names.{ExpandedName, IsChars}
use Rattle.tc_model.specs.RawTrees.{Attribute, Bound}
use Rattle.tc_model.specs.Trees.{Trees, none, beside, kept}
use Rattle.tc_model.specs.XmlTextBytes.{after_white, place_of}
use Rattle.tc_model.specs.XmlTextNames.{QNameAt}
use Rattle.tc_model.specs.XmlTextScopes.{WrittenAttribute, TagMeans}
use Rattle.tc_model.specs.XmlTextContent.{EndsTag, AttributesAt, no_more, attribute}
use Rattle.tc_tags.specs.XmlTextTags.{WrittenElement, TagFormAt, EndTagAt, names_length, tag_length}
use Rattle.tc_stream.specs.XmlTextMeasures.{longest_tag, most_names}
use Rattle.tc_stream.specs.Outcomes.{Outcome}
use Rattle.tc_stream.specs.Goes.{Level, used, depth_left, with_text, Closed, within, finished, closed, Fits, Goes, GoesBehind, content, end}
use Rattle.tc_stream.specs.From.{Standing, open_in, ended, FromPhase, StillComes}
use Rattle.tc_stream.specs.declared.phases.Phase.{Phase}
use Rattle.tc_stream.specs.declared.phases.Phase.TheVariants as phases
use Rattle.tc_stream.proofs.OneOutcome.{opened}
use Rattle.tc_stream.proofs.StepLaws.{front_behind, front_past, whole_past, whole_back, total_past}
use Rattle.tc_stream.proofs.TagSteps.{over_start, over_empty, over_end_tag}
use Rattle.tc_stream.proofs.TagExtendLaws.{begins_as, white_kept, white_begins_kept, qname_kept, qname_begun, after_low, equals_kept, quoted_kept, ends_kept, attributes_low, end_tag_kept}

-- where the bytes that follow are counted too, the places of attributes stay

place_kept : (m : ℕ) (w v f : List ℕ) → v ≡ w ++ f → place_of (m + length f) v ≡ place_of m w
place_kept m w v f e = omega (arith, ap length e, length-append w f)

pub attributes_same : {o : Bool} {m : ℕ} {bs after : List ℕ} {l : List WrittenAttribute} (f : List ℕ) → AttributesAt o m bs l after → AttributesAt o (m + length f) (bs ++ f) l (after ++ f)
attributes_same {o} {m} {bs} f (no_more e) =
    let k = ends_kept bs f e in
    let white = white_kept bs f k.0 in
    subst (λ z. AttributesAt o (m + length f) (bs ++ f) [] z) white (no_more (subst EndsTag (sym white) k.1))
attributes_same {o} {m} {bs} {after} f (attribute {past_name = p} {start = start} {value = v} {name = n} {attributes = l} w a e q more) =
    let white = white_kept bs f (qname_begun (after_white bs) a) in
    let one : ℕ → WrittenAttribute = λ place. record { name = n; value = v; place = place } in
    subst (λ place. AttributesAt o (m + length f) (bs ++ f) (one place ∷ l) (after ++ f)) (place_kept m (after_white bs) (after_white (bs ++ f)) f white)
    (attribute (white_begins_kept bs f w) (subst (λ z. QNameAt z n (p ++ f)) (sym white) (qname_kept f (after_low p 0x3D e.rest (omega arith) e.sign) a))
    (equals_kept f (begins_as q.quote q.rest q.opens) e) (quoted_kept f q) (attributes_same f more))

pub form_same : {o : Bool} {m : ℕ} {bs after : List ℕ} {e : WrittenElement} (f : List ℕ) → TagFormAt o m bs e after → TagFormAt o (m + length f) (bs ++ f) e (after ++ f)
form_same f a = record {
  rest = a.rest ++ f;
  past_name = a.past_name ++ f;
  opens = ap (λ w. w ++ f) a.opens;
  names = qname_kept f (attributes_low a.lists) a.names;
  lists = attributes_same f a.lists;
  no_space = a.no_space;
}

form_at : {m n : ℕ} {bs after : List ℕ} {e : WrittenElement} → m ≡ n → TagFormAt false m bs e after → TagFormAt false n bs e after
form_at {bs = bs} {after = after} {e = e} p a = subst (λ k. TagFormAt false k bs e after) p a

sum_is : (n : ℕ) (item f : List ℕ) → n + length item + length f ≡ n + length (item ++ f)
sum_is n item f = omega (arith, length-append item f)

-- a step between two places of a text of so many bytes, both ways
pub step_at : (n : ℕ) (item r : List ℕ) (phase next : Phase) (s u : Standing) (o : Outcome) → IsChars item
    → ((f : List ℕ) → FromPhase (n + length (item ++ f)) phase s (item ++ f) o ↔ FromPhase (n + length (item ++ f)) next u f o)
    → StillComes n phase s (item ++ r) o ↔ StillComes (n + length item) next u r o
step_at n item r phase next s u o chars step = (past, back)
  where
    past : StillComes n phase s (item ++ r) o → StillComes (n + length item) next u r o
    past (front, k, go, whole) =
        let b = front_past chars k in
        let there : FromPhase (n + length (item ++ b.rest)) phase s (item ++ b.rest) o = subst (λ w. FromPhase (n + length w) phase s w o) b.whole go in
        let on : FromPhase (n + length item + length b.rest) next u b.rest o = subst (λ m. FromPhase m next u b.rest o) (total_past n item b.rest) ((step b.rest).0 there) in
        (b.rest, b.is_front, on, whole_past o item front b.rest r b.whole whole)

    back : StillComes (n + length item) next u r o → StillComes n phase s (item ++ r) o
    back (front, k, go, whole) =
        let on : FromPhase (n + length (item ++ front)) phase s (item ++ front) o =
        (step front).1 (subst (λ m. FromPhase m next u front o) (sym (total_past n item front)) go) in
        (item ++ front, front_behind chars k, on, whole_back o item front r whole)

-- the length of a tag that is kept
kept_length : (item f : List ℕ) → tag_length (item ++ f) f ≡ length item
kept_length item f = omega (arith, length-append item f)

fits_there : {ls : List Level} {e : WrittenElement} (item f : List ℕ) → length item ≤ longest_tag → names_length e + used ls ≤ most_names → Fits ls e (item ++ f) f
fits_there item f short few = record { short = omega (arith, kept_length item f, short); few = few }

-- a start tag, with places counted from so many bytes before it
pub start_step : (n : ℕ) (item r : List ℕ) (ls : List Level) (outer scope : List Bound) (run : List ℕ) (e : WrittenElement) (name : ExpandedName) (x : List Attribute) (o : Outcome) → IsChars item
    → 0 < depth_left ls → TagFormAt false (n + length item) item e (0x3E ∷ []) → length item ≤ longest_tag → names_length e + used ls ≤ most_names → TagMeans outer e.name e.attributes scope name x
    → StillComes n phases.Content (open_in ls outer run) (item ++ r) o ↔ StillComes (n + length item) phases.Content (open_in (opened e name outer ∷ with_text run ls) scope []) r o
start_step n item r ls outer scope run e name x o chars z form short few means =
    step_at n item r phases.Content phases.Content (open_in ls outer run) (open_in (opened e name outer ∷ with_text run ls) scope []) o chars
    (λ f. over_start (n + length (item ++ f)) ls outer run (item ++ f) o z (form_at (sum_is n item f) (form_same f form)) (fits_there item f short few) means)

-- what stands behind a tag that ends an element
abbrev pub phase_behind : Closed → Phase
phase_behind (within ls) = phases.Content
phase_behind (finished n kids) = phases.End

abbrev pub standing_behind : Closed → List Bound → Standing
standing_behind (within ls) scope = open_in ls scope []
standing_behind (finished n kids) scope = ended n kids

ended_moved : {total : ℕ} {n : ExpandedName} {kids : Trees} {scope other : List Bound} {bs : List ℕ} {o : Outcome} → GoesBehind total (finished n kids) scope bs o → GoesBehind total (finished n kids) other bs o
ended_moved (end m) = end m

content_inner : {total : ℕ} {ls : List Level} {scope : List Bound} {bs : List ℕ} {o : Outcome} → GoesBehind total (within ls) scope bs o → Goes total ls scope [] bs o
content_inner (content g) = g

behind_same : (c : Closed) (total : ℕ) (scope : List Bound) (bs : List ℕ) (o : Outcome) → GoesBehind total c scope bs o ↔ FromPhase total (phase_behind c) (standing_behind c scope) bs o
behind_same (within ls) total scope bs o = (λ g. content_inner g, λ g. content g)
behind_same (finished n kids) total scope bs o = (λ g. ended_moved g, λ g. ended_moved g)

-- an end tag
pub end_step : (n : ℕ) (item r : List ℕ) (l : Level) (ls : List Level) (scope : List Bound) (run : List ℕ) (o : Outcome) → IsChars item → EndTagAt l.written.name item [] → length item ≤ longest_tag
    → StillComes n phases.Content (open_in (l ∷ ls) scope run) (item ++ r) o
    ↔ StillComes (n + length item) (phase_behind (closed l.name (beside l.kids (kept run none)) ls)) (standing_behind (closed l.name (beside l.kids (kept run none)) ls) l.outer) r o
end_step n item r l ls scope run o chars form short =
    let c = closed l.name (beside l.kids (kept run none)) ls in
    step_at n item r phases.Content (phase_behind c) (open_in (l ∷ ls) scope run) (standing_behind c l.outer) o chars
    (λ f.
    let first = over_end_tag (n + length (item ++ f)) l ls scope run (item ++ f) o (end_tag_kept f form) (omega (arith, kept_length item f, short)) in
    let second = behind_same c (n + length (item ++ f)) l.outer f o in
    ((λ g. second.0 (first.0 g)), (λ g. first.1 (second.1 g))))

-- an empty-element tag
pub empty_step : (n : ℕ) (item r : List ℕ) (ls : List Level) (outer scope : List Bound) (run : List ℕ) (e : WrittenElement) (name : ExpandedName) (x : List Attribute) (o : Outcome) → IsChars item
    → 0 < depth_left ls → TagFormAt false (n + length item) item e (codes "/>") → length item ≤ longest_tag → names_length e + used ls ≤ most_names → TagMeans outer e.name e.attributes scope name x
    → StillComes n phases.Content (open_in ls outer run) (item ++ r) o
    ↔ StillComes (n + length item) (phase_behind (closed name none (with_text run ls))) (standing_behind (closed name none (with_text run ls)) outer) r o
empty_step n item r ls outer scope run e name x o chars z form short few means =
    let c = closed name none (with_text run ls) in
    step_at n item r phases.Content (phase_behind c) (open_in ls outer run) (standing_behind c outer) o chars
    (λ f.
    let first = over_empty (n + length (item ++ f)) ls outer run (item ++ f) o z (form_at (sum_is n item f) (form_same f form)) (fits_there item f short few) means in
    let second = behind_same c (n + length (item ++ f)) outer f o in
    ((λ g. second.0 (first.0 g)), (λ g. first.1 (second.1 g))))
