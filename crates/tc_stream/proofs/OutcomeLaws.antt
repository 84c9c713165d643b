-- What comes of a text is what comes of it by steps.
use Rattle.std.proofs.Common.{◌≡◌, inl, inr, ◌⊎◌, ℕ, suc, ◌<◌, ◌≤◌, ◌+◌, Bool, false, List, [], ◌∷◌, refl, ap, ◌∙◌, sym, subst, length, arith}
use Rattle.tc_model.specs.RawTrees.{Bound, RawTrees}
use Rattle.tc_model.specs.XmlText.{XmlText, after_mark}
use Rattle.tc_model.specs.XmlTextBytes.{place_of}
use Rattle.tc_model.specs.XmlTextContent.{Piece, ContentAt, at_end_tag, item, ItemAt, ElementAt, empty_tag, with_content}
use Rattle.tc_model.proofs.XmlTextRefused.{front_unique, whole_front}
use Rattle.tc_tags.specs.XmlTextTags.{WrittenElement, TagFormAt, EndTagAt, WholeTagAt, ComesTo, open_names, tag_length}
use Rattle.tc_tags.specs.XmlTextTags as t
use Rattle.tc_tags.specs.Begins.{BeginsTag}
use Rattle.tc_stream.specs.XmlTextMeasures.{Measure, longest_tag, most_names, IsGood, IsLongTag, PassesAt, PassesFirst, IsWithinMeasures}
use Rattle.tc_stream.specs.XmlTextMeasures as m
use Rattle.tc_stream.specs.Outcomes.{Outcome, document, refused, passed, Comes}
use Rattle.tc_stream.specs.From.{FromFront, Standing, open_in, StillComes, ComesByItems}
use Rattle.tc_stream.specs.declared.phases.Phase.TheVariants as phases
use Rattle.tc_stream.proofs.MeasureLaws.{Ahead, ahead, element_there, tag_begins, good_texts_pass_nothing}
use Rattle.tc_stream.proofs.LengthLaws.{at_most_or_more}
use Rattle.tc_tags.proofs.TagLaws.{open_end, empty_end, form_of, form_unique, whole_form_unique, whole_unique, no_form_at_end_tag, form_begins, end_tag_begins}
use Rattle.tc_stream.proofs.LongLaws.{long_form, long_end_tag}
use Rattle.tc_stream.proofs.ComingLaws.{comes_document, comes_refused, comes_passed}
use Rattle.tc_stream.proofs.GoingLaws.{told_front, none_before}

-- a text that is read and in which nowhere measure passes is good

abbrev Closes : List WrittenElement → List ℕ → Type 0
Closes [] bs = ⊥
Closes (e ∷ es) bs = (r : List ℕ) × EndTagAt e.name bs r

-- a tag to which reading comes in a text that is read is an element's or the innermost one's end tag
tag_there : (total d : ℕ) (scope : List Bound) (bs : List ℕ) (es : List WrittenElement) → BeginsTag bs → Ahead total es scope d bs
    → ((piece : Piece) × (r : List ℕ) × ElementAt false total scope d bs piece r) ⊎ Closes es bs
tag_there total d scope bs [] b (p, after, e) = inl (p, after, e)
tag_there total d scope bs (x ∷ es) b r = by r.content refl refl
  where
    by : {front end : List ℕ} {kids : RawTrees} → ContentAt false total scope d front kids end → front ≡ bs → end ≡ 0x3C ∷ 0x2F ∷ r.end
        → ((piece : Piece) × (s : List ℕ) × ElementAt false total scope d bs piece s) ⊎ ((s : List ℕ) × EndTagAt x.name bs s)
    by at_end_tag is e = inr (r.after, record { rest = r.end; past_name = r.past_name; opens = sym is ∙ e; names = r.names; closes = r.closes })
    by (item {rest = behind} {piece = p} a k) is e = inl (p, behind, element_there (tag_begins b) (subst (λ z. ItemAt false total scope d z p behind) is a))

long_element : {total d : ℕ} {es : List WrittenElement} {outer : List Bound} {at after r : List ℕ} {piece : Piece} → ElementAt false total outer d at piece r → WholeTagAt total at after
    → longest_tag < tag_length at after → IsLongTag longest_tag es d at
long_element {at = at} (empty_tag a) w long =
    long_form (form_of a) (empty_end refl) (subst (λ z. longest_tag < tag_length at z) (sym (whole_form_unique (form_of a) (empty_end refl) w)) long)
long_element {at = at} (with_content a k n e) w long =
    long_form (form_of a) (open_end refl) (subst (λ z. longest_tag < tag_length at z) (sym (whole_form_unique (form_of a) (open_end refl) w)) long)

long_there : {total d : ℕ} {scope : List Bound} {at after : List ℕ} (es : List WrittenElement) → WholeTagAt total at after → longest_tag < tag_length at after
    → ((piece : Piece) × (r : List ℕ) × ElementAt false total scope d at piece r) ⊎ Closes es at → IsLongTag longest_tag es d at
long_there es w long (inl (p, r, e)) = long_element e w long
long_there [] w long (inr k) = absurd k
long_there {at = at} (x ∷ es) w long (inr (r, k)) = long_end_tag k (subst (λ z. longest_tag < tag_length at z) (whole_unique w (t.end_tag k)) long)

whole_begins : {total : ℕ} {bs after : List ℕ} → WholeTagAt total bs after → BeginsTag bs
whole_begins (t.start_tag f) = form_begins f
whole_begins (t.empty_tag f) = form_begins f
whole_begins (t.end_tag f) = end_tag_begins f

form_end : {o : Bool} {total : ℕ} {bs r s : List ℕ} {e e' : WrittenElement} → TagFormAt o total bs e r → TagFormAt o total bs e' s → r ≡ s
form_end f g = (form_unique f g).1

many_there : {bytes at after r : List ℕ} {es : List WrittenElement} {scope : List Bound} {d : ℕ} {e : WrittenElement} {piece : Piece} → ((measure : Measure) (place : ℕ) → PassesAt bytes measure place → ⊥)
    → ElementAt false (length bytes) scope d at piece r → ComesTo bytes es scope d at → TagFormAt false (length bytes) at e after → most_names < open_names (e ∷ es) → ⊥
many_there {bytes} nowhere (empty_tag {after = s} a) c f many =
    nowhere m.names (place_of (length bytes) s) (m.many_names c f (inr (form_end f (form_of a))) many)
many_there {bytes} nowhere (with_content {inside = s} a k n q) c f many =
    nowhere m.names (place_of (length bytes) s) (m.many_names c f (inl (form_end f (form_of a))) many)

many_at : {bytes at after : List ℕ} {scope : List Bound} {d : ℕ} {e : WrittenElement} (es : List WrittenElement) → ((measure : Measure) (place : ℕ) → PassesAt bytes measure place → ⊥)
    → ComesTo bytes es scope d at → TagFormAt false (length bytes) at e after → most_names < open_names (e ∷ es)
    → ((piece : Piece) × (r : List ℕ) × ElementAt false (length bytes) scope d at piece r) ⊎ Closes es at → ⊥
many_at es nowhere c f many (inl (p, r, k)) = many_there nowhere k c f many
many_at [] nowhere c f many (inr k) = k
many_at (o ∷ es) nowhere c f many (inr (r, k)) = no_form_at_end_tag k.opens f

pub good_of : {bytes : List ℕ} {h : RawTrees} → XmlText bytes h → ((measure : Measure) (place : ℕ) → PassesAt bytes measure place → ⊥) → IsGood bytes h
good_of {bytes} x nowhere = record {
  reads = x;
  tags = λ es scope d at after c w. short es scope d at after c w (at_most_or_more (tag_length at after) longest_tag);
  names = λ e es scope d at after c f. few e es scope d at after c f (at_most_or_more (open_names (e ∷ es)) most_names);
}
  where
    short : (es : List WrittenElement) (scope : List Bound) (d : ℕ) (at after : List ℕ) → ComesTo bytes es scope d at → WholeTagAt (length bytes) at after
        → (tag_length at after ≤ longest_tag) ⊎ (longest_tag < tag_length at after) → tag_length at after ≤ longest_tag
    short es scope d at after c w (inl low) = low
    short es scope d at after c w (inr long) =
        absurd (nowhere m.tag (place_of (length bytes) at + longest_tag)
        (m.long_tag c (long_there es w long (tag_there (length bytes) d scope at es (whole_begins w) (ahead x c)))))

    few : (e : WrittenElement) (es : List WrittenElement) (scope : List Bound) (d : ℕ) (at after : List ℕ) → ComesTo bytes es scope d at → TagFormAt false (length bytes) at e after
        → (open_names (e ∷ es) ≤ most_names) ⊎ (most_names < open_names (e ∷ es)) → open_names (e ∷ es) ≤ most_names
    few e es scope d at after c f (inl low) = low
    few e es scope d at after c f (inr many) = absurd (many_at es nowhere c f many (tag_there (length bytes) d scope at es (form_begins f) (ahead x c)))

-- the two ways

place_of_passed : Outcome → ℕ
place_of_passed (document d) = 0
place_of_passed (refused cause place) = 0
place_of_passed (passed measure place) = place

place_same : {measure other : Measure} {p q : ℕ} → passed measure p ≡ passed other q → p ≡ q
unfolding place_of_passed
place_same e = ap place_of_passed e

nothing_before : (n : ℕ) → 0 + n ≡ n
nothing_before n = omega arith

pub comes_by_steps : (bytes : List ℕ) (o : Outcome) (s : Standing) → StillComes 0 phases.Mark s bytes o → Comes bytes o
comes_by_steps bytes (document d) s (front, k, go, same) =
    let steps : FromFront (length front) (after_mark front) (document d) = subst (λ n. FromFront n (after_mark front) (document d)) (nothing_before (length front)) go in
    let nowhere : (measure : Measure) (place : ℕ) → PassesAt front measure place → ⊥ =
    λ measure place passes. none_before (suc place) steps (λ other earlier low e. cc) measure place (omega arith) passes in
    subst (λ z. Comes z (document d)) same (let (h, x, is) = told_front front steps k.characters in (h, good_of x nowhere, is))
comes_by_steps bytes (refused cause place) s (front, k, go, same) =
    let steps : FromFront (length front) (after_mark front) (refused cause place) = subst (λ n. FromFront n (after_mark front) (refused cause place)) (nothing_before (length front)) go in
    let (at, x, is) = told_front front steps in (
      record { front = front; at = at; is_front = k; refuses = x; stands = is },
      λ other measure there is_other passes.
          none_before (suc there) steps (λ other earlier low e. cc) measure there (omega arith) (subst (λ z. PassesAt z measure there) (front_unique is_other k) passes),
    )
comes_by_steps bytes (passed measure place) s (front, k, go, same) =
    let steps : FromFront (length front) (after_mark front) (passed measure place) = subst (λ n. FromFront n (after_mark front) (passed measure place)) (nothing_before (length front)) go in
    record { front = front; is_front = k; passes = told_front front steps; first = λ other elsewhere passes. earliest steps other elsewhere passes (at_most_or_more place elsewhere) }
  where
    earliest : FromFront (length front) (after_mark front) (passed measure place) → (other : Measure) (elsewhere : ℕ) → PassesAt front other elsewhere
        → (place ≤ elsewhere) ⊎ (elsewhere < place) → place ≤ elsewhere
    earliest steps other elsewhere passes (inl low) = low
    earliest steps other elsewhere passes (inr low) = absurd (none_before place steps (λ one there less e. omega (arith, less, place_same e)) other elsewhere low passes)

pub comes_to_steps : (bytes : List ℕ) (o : Outcome) (s : Standing) → Comes bytes o → StillComes 0 phases.Mark s bytes o
comes_to_steps bytes (document d) s (h, good, is) =
    let front = whole_front good.reads.characters in
    let steps = comes_document good.reads (record { passes_none = λ measure place passes low. good_texts_pass_nothing bytes h good bytes measure place front passes }) in
    (bytes, front, subst (λ n. FromFront n (after_mark bytes) (document d)) (sym (nothing_before (length bytes))) (subst (λ z. FromFront (length bytes) (after_mark bytes) (document z)) (sym is) steps), refl)
comes_to_steps bytes (refused cause place) s (x, nowhere) =
    let steps = comes_refused (λ measure there passes. nowhere x.front measure there x.is_front passes) x.refuses in (
      x.front,
      x.is_front,
      subst (λ n. FromFront n (after_mark x.front) (refused cause place)) (sym (nothing_before (length x.front)))
          (subst (λ z. FromFront (length x.front) (after_mark x.front) (refused cause z)) (sym x.stands) steps),
      tt,
    )
comes_to_steps bytes (passed measure place) s x =
    let steps = comes_passed {measure = measure} {place = place} (λ other earlier low passes. omega (arith, low, x.first other earlier passes)) x.passes in
    (x.front, x.is_front, subst (λ n. FromFront n (after_mark x.front) (passed measure place)) (sym (nothing_before (length x.front))) steps, tt)

pub comes_by_items : ComesByItems
comes_by_items bytes o = (comes_to_steps bytes o (open_in [] [] []), comes_by_steps bytes o (open_in [] [] []))
