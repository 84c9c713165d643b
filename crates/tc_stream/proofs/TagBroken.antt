-- What comes of a text at a tag that has no form, and where the text ends in a tag.
use Rattle.std.proofs.Common.{◌≡◌, ◌≢◌, inl, inr, ◌⊎◌, ℕ, ◌<◌, ◌≤◌, ◌+◌, ◌-◌, Bool, true, false, List, [], ◌∷◌, ◌++◌, refl, ap, ◌∙◌, sym, subst, length, arith, codes, Option, None, append_assoc, length-append}
use Rattle.std.specs.Prelude.{◌↔◌}
use Rattle.tc_base.specs.declared.reasons.Why.{Why}
use Rattle.tc_model.specs.Names.{IsChars}
use Rattle.tc_model.specs.RawTrees.{Bound}
use Rattle.tc_model.specs.XmlTextBytes.{place_of}
use Rattle.tc_model.specs.XmlTextNames.{QualifiedName, QNameAt}
use Rattle.tc_model.specs.XmlTextRefusals.{unsupported, TagRefuses}
use Rattle.tc_model.proofs.XmlTextPhrases.{same_first, same_others, no_qname, up_to_unique}
use Rattle.tc_model.proofs.XmlTextUnique.{kind}
use Rattle.tc_tags.specs.Begins.{BeginsTag}
use Rattle.tc_stream.specs.Cuts.{BeginsNoChar}
use Rattle.tc_tags.specs.XmlTextTags.{WrittenElement, TagFormAt, EndTagAt}
use Rattle.tc_stream.specs.XmlTextMeasures.{longest_tag}
use Rattle.tc_stream.specs.Outcomes.{Outcome, refused}
use Rattle.tc_stream.specs.Goes.{Level, depth_left, Goes, construct}
use Rattle.tc_stream.specs.From.{open_in, StillComes}
use Rattle.tc_stream.specs.Scans.{ended, quoted, tag_scan}
use Rattle.tc_stream.specs.declared.phases.Phase.TheVariants as phases
use Rattle.tc_stream.proofs.MeasureLaws.{tag_begins}
use Rattle.tc_tags.proofs.TagLaws.{EndsAt, open_end, empty_end, no_form_at_end_tag}
use Rattle.tc_stream.proofs.OneOutcome.{AtTag, starts, stands_alone, ends, is_deep, is_refused, is_long, has_many, at_tag, closes_one}
use Rattle.tc_stream.proofs.SplitLaws.{splits_up_to}
use Rattle.tc_stream.proofs.EncodedLaws.{free_of, free_lacks}
use Rattle.tc_stream.proofs.LongLaws.{Starts, end_free, long_length, long_no_end, long_rootless, not_long, start_begins, start_no_slash, starts_kept}
use Rattle.tc_stream.proofs.TagEndLaws.{then_tag, tag_scanned, tag_more}
use Rattle.tc_stream.proofs.TagExtendLaws.{KeptForm}
use Rattle.tc_stream.proofs.TagCutLaws.{end_tag_cut}
use Rattle.tc_stream.proofs.RefusedLaws.{no_end, tag_refused_cut}
use Rattle.tc_stream.proofs.TagSteps.{over_final, ends_there, form_alone}
use Rattle.tc_stream.proofs.NothingSteps.{nothing_step, last_step, last_refused}

-- a tag that is kept up to its `>` and has no form

-- in these bytes alone
pub record IsNoTag (now : ℕ) (item : List ℕ) : Type 0 where
  pub no_form : (e : WrittenElement) (end : List ℕ) → TagFormAt false now item e end → EndsAt end [] → ⊥
  pub no_refusal : (why : Why) (at : List ℕ) → TagRefuses item why at → ⊥

scanned_whole : (item f : List ℕ) → tag_scan None item ≡ ended [] → tag_scan None (item ++ f) ≡ ended f
scanned_whole item f e = tag_more None item f ∙ ap (λ s. then_tag s f) e

alone : {now : ℕ} {item : List ℕ} {e : WrittenElement} → IsNoTag now item → (KeptForm false now item e (0x3E ∷ [])) ⊎ (KeptForm false now item e (codes "/>")) → ⊥
alone n (inl k) = n.no_form k.element (0x3E ∷ []) k.form (open_end refl)
alone n (inr k) = n.no_form k.element (codes "/>") k.form (empty_end refl)

no_form_there : {now total : ℕ} {end after : List ℕ} {e : WrittenElement} (item f : List ℕ) → IsNoTag now item → tag_scan None item ≡ ended [] → TagFormAt false total (item ++ f) e end → EndsAt end after → ⊥
no_form_there {now} {end = end} item f n scanned form k = alone n (form_alone item now form (subst (λ z. EndsAt end z) (ends_there item f scanned form k) k))

no_refusal_there : {now : ℕ} {why : Why} {at : List ℕ} (item f : List ℕ) → IsNoTag now item → tag_scan None item ≡ ended [] → TagRefuses (item ++ f) why at → ⊥
no_refusal_there {why = why} item f n scanned k = let c = tag_refused_cut item f k refl (scanned_whole item f scanned) in n.no_refusal why c.left c.refuses

-- no end tag begins so
pub no_end_tag : {item after : List ℕ} {n : QualifiedName} (f : List ℕ) (b : BeginsTag item) → b.next ≢ 0x2F → EndTagAt n (item ++ f) after → ⊥
no_end_tag f b h c = h (same_first (same_others (sym (ap (λ w. w ++ f) b.opens) ∙ c.opens)))

pub begins_kept : {item : List ℕ} (f : List ℕ) → BeginsTag item → BeginsTag (item ++ f)
begins_kept f b = record { next = b.next; rest = b.rest ++ f; opens = ap (λ w. w ++ f) b.opens; no_mark = b.no_mark; no_instruction = b.no_instruction }

pub start_kind : {bs : List ℕ} → Starts bs → kind bs ≡ 3
start_kind s = tag_begins (start_begins s)

missing : {now total : ℕ} {ls : List Level} {outer : List Bound} {run : List ℕ} {o : Outcome} (item f : List ℕ) → length item ≤ longest_tag → 0 < depth_left ls → Starts item
    → IsNoTag now item → tag_scan None item ≡ ended [] → AtTag total ls outer run (item ++ f) o → ⊥
missing item f low some s n scanned (starts z g u m k) = no_form_there item f n scanned g (open_end refl)
missing item f low some s n scanned (stands_alone z g u m k) = no_form_there item f n scanned g (empty_end refl)
missing item f low some s n scanned (ends (closes_one c u k)) = let there = starts_kept f s in start_no_slash there c.opens
missing item f low some s n scanned (is_deep z i q e) = omega (arith, some, z)
missing item f low some s n scanned (is_refused z k l e) = no_refusal_there item f n scanned k
missing item f low some s n scanned (is_long long e) = not_long item f scanned low (starts_kept f s) long
missing item f low some s n scanned (has_many z g k u w e) = no_form_there item f n scanned g k

-- nothing comes of it
pub tag_missing : (n now : ℕ) (item r : List ℕ) (ls : List Level) (outer : List Bound) (run : List ℕ) (o : Outcome) → IsChars item → length item ≤ longest_tag → 0 < depth_left ls
    → Starts item → IsNoTag now item → tag_scan None item ≡ ended [] → StillComes n phases.Content (open_in ls outer run) (item ++ r) o → ⊥
tag_missing n now item r ls outer run o chars low some s none scanned =
    nothing_step n item r phases.Content (open_in ls outer run) o chars (λ f k g. missing item f low some s none scanned (at_tag (start_kind (starts_kept f s)) g))

-- end tags

-- what an end tag begins with
slash_opens : {item : List ℕ} (b : BeginsTag item) → b.next ≡ 0x2F → item ≡ codes "</" ++ b.rest
slash_opens b s = b.opens ∙ ap (λ z. 0x3C ∷ z ∷ b.rest) s

-- an end tag that begins so ends with these bytes
end_tag_there : {f after : List ℕ} {n : QualifiedName} (w : List ℕ) → free_of 0x3E w ≡ true → EndTagAt n ((w ++ 0x3E ∷ []) ++ f) after → after ≡ f
end_tag_there {f} w h c =
    let k = end_free c in
    (up_to_unique (splits_up_to k.splits) (splits_up_to (record { parts = append_assoc w (0x3E ∷ []) f; free = h }))).1

end_tag_alone : {after : List ℕ} {n : QualifiedName} (w f : List ℕ) → free_of 0x3E w ≡ true → EndTagAt n ((w ++ 0x3E ∷ []) ++ f) after → EndTagAt n (w ++ 0x3E ∷ []) []
end_tag_alone w f h c = end_tag_cut (w ++ 0x3E ∷ []) f [] c refl (end_tag_there w h c)

named_slash : {rest past : List ℕ} {n : QualifiedName} (item f : List ℕ) (b : BeginsTag item) → b.next ≡ 0x2F → item ++ f ≡ 0x3C ∷ rest → QNameAt rest n past → ⊥
named_slash {rest} {past} {n} item f b s is q =
    let e : b.next ∷ (b.rest ++ f) ≡ rest = same_others (sym (ap (λ w. w ++ f) b.opens) ∙ is) in
    no_qname 0x2F (omega arith) refl (subst (λ z. QNameAt (z ∷ (b.rest ++ f)) n past) s (subst (λ z. QNameAt z n past) (sym e) q))

-- no start tag begins so
no_start_tag : {o : Bool} {total : ℕ} {end : List ℕ} {e : WrittenElement} (item f : List ℕ) (b : BeginsTag item) → b.next ≡ 0x2F → TagFormAt o total (item ++ f) e end → ⊥
no_start_tag item f b s a = no_form_at_end_tag (ap (λ w. w ++ f) b.opens ∙ ap (λ z. 0x3C ∷ z ∷ (b.rest ++ f)) s) a

-- no end tag of the innermost element stands in these bytes
abbrev pub IsNoEndTag : List Level → List ℕ → Type 0
IsNoEndTag [] item = Unit {0}
IsNoEndTag (l ∷ ls) item = EndTagAt l.written.name item [] → ⊥

end_missing_at : {total : ℕ} {ls : List Level} {outer : List Bound} {run : List ℕ} {o : Outcome} (w f : List ℕ) (b : BeginsTag (w ++ 0x3E ∷ [])) → b.next ≡ 0x2F → length (w ++ 0x3E ∷ []) ≤ longest_tag
    → free_of 0x3E w ≡ true → IsNoEndTag ls (w ++ 0x3E ∷ []) → AtTag total ls outer run ((w ++ 0x3E ∷ []) ++ f) o → ⊥
end_missing_at w f b s low h n (starts z g u m k) = no_start_tag (w ++ 0x3E ∷ []) f b s g
end_missing_at w f b s low h n (stands_alone z g u m k) = no_start_tag (w ++ 0x3E ∷ []) f b s g
end_missing_at w f b s low h n (ends (closes_one c t k)) = n (end_tag_alone w f h c)
end_missing_at w f b s low h n (is_deep z i q e) = named_slash (w ++ 0x3E ∷ []) f b s i q
end_missing_at w f b s low h n (is_refused z k l e) = named_slash (w ++ 0x3E ∷ []) f b s k.opens k.names
end_missing_at w f b s low h n (is_long long e) =
    long_no_end w f long (ap (λ z. z ++ f) (slash_opens b s)) (append_assoc w (0x3E ∷ []) f) (omega (arith, low, length-append w (0x3E ∷ [])))
end_missing_at w f b s low h n (has_many z g k t u e) = no_start_tag (w ++ 0x3E ∷ []) f b s g

-- nothing comes of an end tag of no form, or of another element
pub end_missing : (n : ℕ) (w r : List ℕ) (ls : List Level) (outer : List Bound) (run : List ℕ) (o : Outcome) (b : BeginsTag (w ++ 0x3E ∷ [])) → b.next ≡ 0x2F → IsChars (w ++ 0x3E ∷ []) → length (w ++ 0x3E ∷ []) ≤ longest_tag
    → free_of 0x3E w ≡ true → IsNoEndTag ls (w ++ 0x3E ∷ []) → StillComes n phases.Content (open_in ls outer run) ((w ++ 0x3E ∷ []) ++ r) o → ⊥
end_missing n w r ls outer run o b s chars low h none =
    nothing_step n (w ++ 0x3E ∷ []) r phases.Content (open_in ls outer run) o chars (λ f k g. end_missing_at w f b s low h none (at_tag (tag_begins (begins_kept f b)) g))

-- an end tag before the root element
root_end_at : {total : ℕ} {ls : List Level} {outer : List Bound} {run : List ℕ} {o : Outcome} (item f : List ℕ) (b : BeginsTag item) → b.next ≡ 0x2F → ls ≡ [] → AtTag total ls outer run (item ++ f) o → ⊥
root_end_at item f b s e (starts z g u m k) = no_start_tag item f b s g
root_end_at item f b s e (stands_alone z g u m k) = no_start_tag item f b s g
root_end_at item f b s e (ends (closes_one c t k)) = omega (arith, ap length e)
root_end_at item f b s e (is_deep z i q y) = named_slash item f b s i q
root_end_at item f b s e (is_refused z k l y) = named_slash item f b s k.opens k.names
root_end_at item f b s e (is_long long y) = long_rootless e (ap (λ z. z ++ f) (slash_opens b s)) long
root_end_at item f b s e (has_many z g k t u y) = no_start_tag item f b s g

pub root_end_tag : (n : ℕ) (item r : List ℕ) (outer : List Bound) (run : List ℕ) (o : Outcome) (b : BeginsTag item) → b.next ≡ 0x2F → IsChars item → StillComes n phases.Content (open_in [] outer run) (item ++ r) o → ⊥
root_end_tag n item r outer run o b s chars =
    nothing_step n item r phases.Content (open_in [] outer run) o chars (λ f k g. root_end_at item f b s refl (at_tag (tag_begins (begins_kept f b)) g))

-- the text ends in a tag

not_ended : {q : Option ℕ} {total : ℕ} {o : Bool} {item end after : List ℕ} {e : WrittenElement} → tag_scan None item ≡ quoted q → TagFormAt o total item e end → EndsAt end after → ⊥
not_ended scanned form k = no_end (sym scanned ∙ tag_scanned form k)

unended : {q : Option ℕ} {total : ℕ} {ls : List Level} {outer : List Bound} {run item : List ℕ} {o : Outcome} → Starts item → length item ≤ longest_tag → 0 < depth_left ls
    → ((why : Why) (at : List ℕ) → TagRefuses item why at → ⊥) → tag_scan None item ≡ quoted q → AtTag total ls outer run item o → ⊥
unended s low some none scanned (starts z g u m k) = not_ended scanned g (open_end refl)
unended s low some none scanned (stands_alone z g u m k) = not_ended scanned g (empty_end refl)
unended s low some none scanned (ends (closes_one c u k)) = start_no_slash s c.opens
unended s low some none scanned (is_deep z i q e) = omega (arith, some, z)
unended s low some none scanned (is_refused {at = at} {why = why} z k l e) = none why at k
unended s low some none scanned (is_long long e) = omega (arith, low, long_length long)
unended s low some none scanned (has_many z g k u w e) = not_ended scanned g k

pub tag_unended : (n : ℕ) (item r : List ℕ) (q : Option ℕ) (ls : List Level) (outer : List Bound) (run : List ℕ) (o : Outcome) → Starts item → IsChars item → BeginsNoChar r → length item ≤ longest_tag
    → 0 < depth_left ls → ((why : Why) (at : List ℕ) → TagRefuses item why at → ⊥) → tag_scan None item ≡ quoted q → StillComes n phases.Content (open_in ls outer run) (item ++ r) o → ⊥
tag_unended n item r q ls outer run o s chars last low some none scanned =
    last_step n item r phases.Content (open_in ls outer run) o chars last (λ g. unended s low some none scanned (at_tag (start_kind s) g))

-- and something in it is refused
pub refused_unended : (n : ℕ) (item at r : List ℕ) (why : Why) (ls : List Level) (outer : List Bound) (run : List ℕ) (o : Outcome) → IsChars item → BeginsNoChar r → length item ≤ longest_tag
    → 0 < depth_left ls → TagRefuses item why at → length at ≤ length item → StillComes n phases.Content (open_in ls outer run) (item ++ r) o ↔ (o ≡ refused (unsupported why) (n + (length item - length at)))
refused_unended n item at r why ls outer run o chars last low some k within =
    last_refused n item r phases.Content (open_in ls outer run) (unsupported why) (n + (length item - length at)) o chars last
    (λ z.
    let same : refused (unsupported why) (place_of (n + length item) at) ≡ refused (unsupported why) (n + (length item - length at)) = ap (refused (unsupported why)) (place_at n item at within) in
    let one : Goes (n + length item) ls outer run item (refused (unsupported why) (place_of (n + length item) at)) = construct some k (λ long. omega (arith, low, long_length long)) in
    let over = over_final z one in
    ((λ g. over.0 g ∙ same), (λ e. over.1 (e ∙ sym same))))
  where
    place_at : (n : ℕ) (w v : List ℕ) → length v ≤ length w → place_of (n + length w) v ≡ n + (length w - length v)
    place_at n w v l = omega (arith, l)

end_unended_at : {total : ℕ} {ls : List Level} {outer : List Bound} {run item : List ℕ} {o : Outcome} (b : BeginsTag item) → b.next ≡ 0x2F → length item ≤ longest_tag → free_of 0x3E item ≡ true → AtTag total ls outer run item o → ⊥
end_unended_at b s low h (starts z g v m k) = no_form_at_end_tag (b.opens ∙ ap (λ z. 0x3C ∷ z ∷ b.rest) s) g
end_unended_at b s low h (stands_alone z g v m k) = no_form_at_end_tag (b.opens ∙ ap (λ z. 0x3C ∷ z ∷ b.rest) s) g
end_unended_at {item = item} b s low h (ends (closes_one {after = after} c t k)) =
    let i = end_free c in free_lacks 0x3E i.inside after (subst (λ w. free_of 0x3E w ≡ true) i.splits.parts h)
end_unended_at b s low h (is_deep {past_name = p} {name = n} z i q e) =
    no_qname 0x2F (omega arith) refl (subst (λ z. QNameAt (z ∷ b.rest) n p) s (subst (λ z. QNameAt z n p) (same_others (sym i ∙ b.opens)) q))
end_unended_at b s low h (is_refused z k l e) =
    no_qname 0x2F (omega arith) refl (subst (λ z. QNameAt (z ∷ b.rest) k.written k.past_name) s (subst (λ z. QNameAt z k.written k.past_name) (same_others (sym k.opens ∙ b.opens)) k.names))
end_unended_at b s low h (is_long long e) = omega (arith, low, long_length long)
end_unended_at b s low h (has_many z g k t w e) = no_form_at_end_tag (b.opens ∙ ap (λ z. 0x3C ∷ z ∷ b.rest) s) g

pub end_unended : (n : ℕ) (item r : List ℕ) (ls : List Level) (outer : List Bound) (run : List ℕ) (o : Outcome) (b : BeginsTag item) → b.next ≡ 0x2F → IsChars item → BeginsNoChar r → length item ≤ longest_tag
    → free_of 0x3E item ≡ true → StillComes n phases.Content (open_in ls outer run) (item ++ r) o → ⊥
end_unended n item r ls outer run o b s chars last low h =
    last_step n item r phases.Content (open_in ls outer run) o chars last (λ g. end_unended_at b s low h (at_tag (tag_begins b) g))
