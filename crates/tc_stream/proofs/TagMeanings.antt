-- What comes of a tag that has a form and means nothing; and a tag's form with other places.
use Rattle.std.proofs.Common.{◌≡◌, ℕ, ◌<◌, ◌≤◌, ◌+◌, false, if◌then◌else◌, List, [], ◌∷◌, ◌++◌, refl, ap, ◌∙◌, sym, subst, length, arith, append-nil, length-append}
use Rattle.std.specs.Prelude.{sum_by}
use Rattle.tc_model.specs.Names.{ExpandedName, IsChars}
use Rattle.tc_model.specs.RawTrees.{Attribute, Bound}
use Rattle.tc_model.specs.XmlTextScopes.{WrittenAttribute, TagMeans, binding_of, is_declaration}
use Rattle.tc_tags.specs.XmlTextTags.{WrittenElement, TagFormAt, declared_length, written_length, names_length, tag_length}
use Rattle.tc_stream.specs.XmlTextMeasures.{longest_tag, most_names}
use Rattle.tc_stream.specs.Outcomes.{Outcome}
use Rattle.tc_stream.specs.Goes.{Level, used, depth_left}
use Rattle.tc_stream.specs.From.{open_in, StillComes}
use Rattle.tc_tags.specs.Written.{bindings_of}
use Rattle.tc_stream.specs.declared.phases.Phase.TheVariants as phases
use Rattle.tc_stream.proofs.MeasureLaws.{tag_begins}
use Rattle.tc_tags.proofs.TagLaws.{EndsAt, open_end, empty_end, form_unique, form_begins, refused_no_form, whole_of_form}
use Rattle.tc_stream.proofs.LongLaws.{long_not_short}
use Rattle.tc_stream.proofs.OneOutcome.{AtTag, starts, stands_alone, ends, is_deep, is_refused, is_long, has_many, at_tag, start_end, few_many}
use Rattle.tc_stream.proofs.TagExtendLaws.{KeptForm, SameBut, none_same, one_same, form_kept, lengths_same}
use Rattle.tc_stream.proofs.OpenSteps.{form_same}
use Rattle.tc_stream.proofs.NothingSteps.{nothing_step}

-- a form with the places of a text of so many bytes

pub rebased : {total : ℕ} {item end : List ℕ} {e : WrittenElement} (now : ℕ) → TagFormAt false total item e end → KeptForm false now item e end
rebased {item = item} {end = end} {e = e} now f =
    subst (λ z. KeptForm false now item e z) (append-nil end) (subst (λ z. KeptForm false now z e (end ++ [])) (append-nil item) (form_kept [] now f))

-- what of it doesn't depend on the places

pub length_same : (e w : WrittenElement) → w.name ≡ e.name → SameBut e.attributes w.attributes → names_length w ≡ names_length e
length_same e w name same = ap (λ z. written_length z + sum_by declared_length w.attributes) name ∙ ap (λ z. written_length e.name + z) (sym (lengths_same same))

pub bindings_same : {l k : List WrittenAttribute} → SameBut l k → bindings_of l ≡ bindings_of k
bindings_same none_same = refl
bindings_same (one_same {name = n} {value = v} {p = p} h) =
    let one : WrittenAttribute = record { name = n; value = v; place = p } in ap (λ z. if is_declaration one then binding_of one ∷ z else z) (bindings_same h)

-- nothing comes of a tag that means nothing

stops_more : {end : List ℕ} (f : List ℕ) → EndsAt end [] → EndsAt (end ++ f) f
stops_more f (open_end e) = open_end (ap (λ w. w ++ f) e)
stops_more f (empty_end e) = empty_end (ap (λ w. w ++ f) e)

total_is : (n : ℕ) (item f : List ℕ) → n + length item + length f ≡ n + length (item ++ f)
total_is n item f = omega (arith, length-append item f)

meaningless : {total : ℕ} {ls : List Level} {outer : List Bound} {run bs end after : List ℕ} {o : Outcome} {e : WrittenElement} → TagFormAt false total bs e end → EndsAt end after → tag_length bs after ≤ longest_tag
    → 0 < depth_left ls → names_length e + used ls ≤ most_names → ((scope : List Bound) (name : ExpandedName) (x : List Attribute) → TagMeans outer e.name e.attributes scope name x → ⊥)
    → AtTag total ls outer run bs o → ⊥
meaningless {outer = outer} f k low some few none (starts {scope = scope} {n = n} {x = x} z g u m h) =
    none scope n x (subst (λ w. TagMeans outer w.name w.attributes scope n x) (sym (form_unique f g).0) m)
meaningless {outer = outer} f k low some few none (stands_alone {scope = scope} {n = n} {x = x} z g u m h) =
    none scope n x (subst (λ w. TagMeans outer w.name w.attributes scope n x) (sym (form_unique f g).0) m)
meaningless f k low some few none (ends c) = start_end f c
meaningless f k low some few none (is_deep z i q y) = omega (arith, some, z)
meaningless f k low some few none (is_refused z g l y) = refused_no_form g f
meaningless f k low some few none (is_long long y) = long_not_short long (whole_of_form f k) low
meaningless {ls = ls} f k low some few none (has_many z g l s w y) = few_many (used ls) f few g w

pub meaningless_step : (n : ℕ) (item end r : List ℕ) (ls : List Level) (outer : List Bound) (run : List ℕ) (e : WrittenElement) (o : Outcome) → IsChars item → 0 < depth_left ls
    → TagFormAt false (n + length item) item e end → EndsAt end [] → length item ≤ longest_tag → names_length e + used ls ≤ most_names
    → ((scope : List Bound) (name : ExpandedName) (x : List Attribute) → TagMeans outer e.name e.attributes scope name x → ⊥) → StillComes n phases.Content (open_in ls outer run) (item ++ r) o → ⊥
meaningless_step n item end r ls outer run e o chars some form k short few none =
    nothing_step n item r phases.Content (open_in ls outer run) o chars
    (λ f i g.
    let there : TagFormAt false (n + length (item ++ f)) (item ++ f) e (end ++ f) = subst (λ z. TagFormAt false z (item ++ f) e (end ++ f)) (total_is n item f) (form_same f form) in
    let low : tag_length (item ++ f) f ≤ longest_tag = omega (arith, short, length-append item f) in
    meaningless there (stops_more f k) low some few none (at_tag (tag_begins (form_begins there)) g))
