-- What comes of a text at a tag that is too long, and at a `<` behind which no name begins.
use Rattle.std.proofs.Common.{◌≡◌, ◌≢◌, ℕ, ◌+◌, true, List, ◌∷◌, ◌++◌, ap, ◌∙◌, sym, length, arith}
use Rattle.std.specs.Prelude.{◌↔◌, encode_utf8}
use Rattle.tc_model.specs.Names.{IsChars, is_ncname_start}
use Rattle.tc_model.specs.RawTrees.{Bound}
use Rattle.tc_model.specs.XmlTextBytes.{place_of}
use Rattle.tc_model.proofs.XmlTextPhrases.{same_first, same_others}
use Rattle.tc_tags.specs.Begins.{BeginsTag}
use Rattle.tc_stream.specs.XmlTextMeasures.{longest_tag, tag}
use Rattle.tc_stream.specs.Outcomes.{Outcome, passed}
use Rattle.tc_stream.specs.Goes.{Level, IsLong, Goes, long_tag}
use Rattle.tc_stream.specs.From.{open_in, StillComes}
use Rattle.tc_stream.specs.declared.phases.Phase.TheVariants as phases
use Rattle.tc_stream.proofs.MeasureLaws.{tag_begins}
use Rattle.tc_stream.proofs.LongLaws.{Starts, long_more, long_nameless, tag_starts}
use Rattle.tc_stream.proofs.OneOutcome.{AtTag, starts, stands_alone, ends, is_deep, is_refused, is_long, has_many, at_tag, closes_one}
use Rattle.tc_stream.proofs.TagSteps.{over_final}
use Rattle.tc_stream.proofs.NamesSteps.{passed_step}
use Rattle.tc_stream.proofs.NothingSteps.{nothing_step}
use Rattle.tc_stream.proofs.TagBroken.{begins_kept, no_end_tag}

place_here : (n : ℕ) (w : List ℕ) → place_of (n + length w) w + longest_tag ≡ n + longest_tag
place_here n w = omega arith

-- its measure passes, whatever follows
pub long_step : (n : ℕ) (item r : List ℕ) (ls : List Level) (outer : List Bound) (run : List ℕ) (o : Outcome) → IsChars item → IsLong ls item
    → StillComes n phases.Content (open_in ls outer run) (item ++ r) o ↔ (o ≡ passed tag (n + longest_tag))
long_step n item r ls outer run o chars long =
    passed_step n item r phases.Content (open_in ls outer run) tag (n + longest_tag) o chars
    (λ f z.
    let one : Goes (n + length (item ++ f)) ls outer run (item ++ f) (passed tag (place_of (n + length (item ++ f)) (item ++ f) + longest_tag)) = long_tag (long_more f long) in
    let same : passed tag (place_of (n + length (item ++ f)) (item ++ f) + longest_tag) ≡ passed tag (n + longest_tag) = ap (passed tag) (place_here n (item ++ f)) in
    let over = over_final z one in
    ((λ h. over.0 h ∙ same), (λ h. over.1 (h ∙ sym same))))

-- nothing comes where no name begins, however deep that stands

abbrev pub IsNameless : List ℕ → Type 0
IsNameless rest = (f r : List ℕ) (c : ℕ) → rest ++ f ≡ encode_utf8 c ++ r → is_ncname_start c ≡ true → ⊥

not_started : (rest f : List ℕ) → IsNameless rest → Starts ((0x3C ∷ rest) ++ f) → ⊥
not_started rest f none s = none f s.rest s.char (same_others s.opens) s.starts

nameless : {total : ℕ} {ls : List Level} {outer : List Bound} {run rest : List ℕ} {o : Outcome} (f : List ℕ) (b : BeginsTag (0x3C ∷ rest)) → b.next ≢ 0x2F → IsNameless rest → AtTag total ls outer run ((0x3C ∷ rest) ++ f) o → ⊥
nameless {rest = rest} f b h n (starts z g u m k) = not_started rest f n (tag_starts g.opens g.names)
nameless {rest = rest} f b h n (stands_alone z g u m k) = not_started rest f n (tag_starts g.opens g.names)
nameless f b h n (ends (closes_one c s k)) = no_end_tag f b h c
nameless {rest = rest} f b h n (is_deep z i q e) = not_started rest f n (tag_starts i q)
nameless {rest = rest} f b h n (is_refused z k l e) = not_started rest f n (tag_starts k.opens k.names)
nameless {rest = rest} f b h n (is_long long y) = long_nameless (not_started rest f n) (λ r e. h (same_first (same_others (sym (ap (λ w. w ++ f) b.opens) ∙ e)))) long
nameless {rest = rest} f b h n (has_many z g k s w y) = not_started rest f n (tag_starts g.opens g.names)

pub nameless_step : (n : ℕ) (rest r : List ℕ) (ls : List Level) (outer : List Bound) (run : List ℕ) (o : Outcome) (b : BeginsTag (0x3C ∷ rest)) → b.next ≢ 0x2F → IsChars (0x3C ∷ rest) → IsNameless rest
    → StillComes n phases.Content (open_in ls outer run) ((0x3C ∷ rest) ++ r) o → ⊥
nameless_step n rest r ls outer run o b h chars none =
    nothing_step n (0x3C ∷ rest) r phases.Content (open_in ls outer run) o chars (λ f k g. nameless f b h none (at_tag (tag_begins (begins_kept f b)) g))
