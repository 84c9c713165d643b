-- What still comes of a text over a tag with which names pass their limit: that they pass it behind the tag, whatever follows.
use Rattle.std.proofs.Common.{◌≡◌, inl, inr, ◌⊎◌, ℕ, ◌<◌, ◌≤◌, ◌+◌, false, List, [], ◌∷◌, ◌++◌, refl, ap, ◌∙◌, sym, subst, length, arith, codes, length-append}
use Rattle.std.specs.Prelude.{◌↔◌}
use Rattle.tc_model.specs.Names.{IsChars}
use Rattle.tc_model.specs.RawTrees.{Bound}
use Rattle.tc_model.specs.XmlTextBytes.{place_of}
use Rattle.tc_tags.specs.XmlTextTags.{WrittenElement, TagFormAt, names_length, tag_length}
use Rattle.tc_stream.specs.XmlTextMeasures.{Measure, names, longest_tag, most_names}
use Rattle.tc_stream.specs.Outcomes.{Outcome, passed}
use Rattle.tc_stream.specs.Goes.{Level, used, depth_left, Goes, many_names}
use Rattle.tc_stream.specs.From.{Standing, open_in, FromPhase, StillComes}
use Rattle.tc_stream.specs.declared.phases.Phase.{Phase}
use Rattle.tc_stream.specs.declared.phases.Phase.TheVariants as phases
use Rattle.tc_tags.proofs.TagLaws.{EndsAt, open_end, empty_end}
use Rattle.tc_stream.proofs.StepLaws.{front_behind, front_past}
use Rattle.tc_stream.proofs.TagSteps.{over_final}
use Rattle.tc_stream.proofs.OpenSteps.{form_same}
use Rattle.tc_stream.proofs.FrontExists.{front_exists}

-- where this measure passes in each text that goes on so
pub passed_step : (n : ℕ) (item r : List ℕ) (phase : Phase) (s : Standing) (measure : Measure) (place : ℕ) (o : Outcome) → IsChars item
    → ((f : List ℕ) (o : Outcome) → FromPhase (n + length (item ++ f)) phase s (item ++ f) o ↔ (o ≡ passed measure place))
    → StillComes n phase s (item ++ r) o ↔ (o ≡ passed measure place)
passed_step n item r phase s measure place o chars step = (past, back)
  where
    past : StillComes n phase s (item ++ r) o → o ≡ passed measure place
    past (front, k, go, whole) =
        let b = front_past chars k in (step b.rest o).0 (subst (λ w. FromPhase (n + length w) phase s w o) b.whole go)

    back : o ≡ passed measure place → StillComes n phase s (item ++ r) o
    back e =
        let (f, k) = front_exists r in
        subst (λ z. StillComes n phase s (item ++ r) z) (sym e) (item ++ f, front_behind chars k, (step f (passed measure place)).1 refl, tt)

place_behind : (n : ℕ) (item f : List ℕ) → place_of (n + length (item ++ f)) f ≡ n + length item
place_behind n item f = omega (arith, length-append item f)

total_is : (n : ℕ) (item f : List ℕ) → n + length item + length f ≡ n + length (item ++ f)
total_is n item f = omega (arith, length-append item f)

end_before : {end : List ℕ} (f : List ℕ) → EndsAt end [] → (end ++ f ≡ 0x3E ∷ f) ⊎ (end ++ f ≡ codes "/>" ++ f)
end_before f (open_end e) = inl (ap (λ w. w ++ f) e)
end_before f (empty_end e) = inr (ap (λ w. w ++ f) e)

pub many_step : (n : ℕ) (item end r : List ℕ) (ls : List Level) (outer : List Bound) (run : List ℕ) (e : WrittenElement) (o : Outcome) → IsChars item → 0 < depth_left ls
    → TagFormAt false (n + length item) item e end → EndsAt end [] → length item ≤ longest_tag → most_names < names_length e + used ls
    → StillComes n phases.Content (open_in ls outer run) (item ++ r) o ↔ (o ≡ passed names (n + length item))
many_step n item end r ls outer run e o chars some form ends short many =
    passed_step n item r phases.Content (open_in ls outer run) names (n + length item) o chars
    (λ f z.
    let there : TagFormAt false (n + length (item ++ f)) (item ++ f) e (end ++ f) = subst (λ k. TagFormAt false k (item ++ f) e (end ++ f)) (total_is n item f) (form_same f form) in
    let low : tag_length (item ++ f) f ≤ longest_tag = omega (arith, short, length-append item f) in
    let one : Goes (n + length (item ++ f)) ls outer run (item ++ f) (passed names (place_of (n + length (item ++ f)) f)) = many_names some there (end_before f ends) low many in
    let same : passed names (place_of (n + length (item ++ f)) f) ≡ passed names (n + length item) = ap (passed names) (place_behind n item f) in
    let over = over_final z one in
    ((λ g. over.0 g ∙ same), (λ g. over.1 (g ∙ sym same))))
