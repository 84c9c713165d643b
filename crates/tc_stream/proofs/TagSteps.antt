-- What comes of a text goes on behind a tag; and a tag that is kept has a form where the text has one there.
use Rattle.std.proofs.Common.{◌≡◌, inl, inr, ◌⊎◌, ℕ, ◌<◌, ◌≤◌, Bool, false, List, [], ◌∷◌, ◌++◌, refl, ap, ◌∙◌, sym, subst, arith, codes, None}
use Rattle.std.specs.Prelude.{◌↔◌}
use Rattle.std.proofs.lemmas.List.{append_cancel_left}
use Rattle.tc_model.specs.Names.{ExpandedName}
use Rattle.tc_model.specs.RawTrees.{Attribute, Bound}
use Rattle.tc_model.specs.Trees.{none, beside, kept}
use Rattle.tc_model.specs.XmlTextScopes.{TagMeans}
use Rattle.tc_model.proofs.XmlTextPhrases.{same_others, no_qname}
use Rattle.tc_model.specs.XmlTextNames.{QNameAt}
use Rattle.tc_model.proofs.XmlTextUnique.{tag_unique}
use Rattle.tc_tags.specs.XmlTextTags.{WrittenElement, TagFormAt, EndTagAt, tag_length}
use Rattle.tc_tags.specs.XmlTextTags as t
use Rattle.tc_stream.specs.XmlTextMeasures.{longest_tag}
use Rattle.tc_stream.specs.Outcomes.{Outcome}
use Rattle.tc_stream.specs.Goes.{Level, used, depth_left, with_text, closed, Fits, Goes, start_tag, empty_tag, end_tag, GoesBehind}
use Rattle.tc_stream.specs.Scans.{ended, tag_scan}
use Rattle.tc_stream.proofs.MeasureLaws.{tag_of, tag_begins}
use Rattle.tc_tags.proofs.TagLaws.{EndsAt, open_end, empty_end, form_unique, end_tag_unique, no_form_at_end_tag, refused_no_form, form_begins, end_tag_begins}
use Rattle.tc_stream.proofs.LongLaws.{long_not_short}
use Rattle.tc_stream.proofs.OneOutcome.{opened, AtTag, starts, stands_alone, ends, is_deep, is_refused, is_long, has_many, at_tag, closes_one, open_empty, start_end, few_many, start_moved, goes_one}
use Rattle.tc_stream.proofs.TagEndLaws.{then_tag, tag_scanned, tag_more}
use Rattle.tc_stream.proofs.TagExtendLaws.{begins_as, KeptForm}
use Rattle.tc_stream.proofs.TagCutLaws.{form_cut}

-- where one thing comes of a place, nothing else does
pub over_final : {total : ℕ} {ls : List Level} {scope : List Bound} {run bs : List ℕ} {o : Outcome} (other : Outcome) → Goes total ls scope run bs o → Goes total ls scope run bs other ↔ (other ≡ o)
over_final {total} {ls} {scope} {run} {bs} other g = (λ h. sym (goes_one g h), λ e. subst (λ z. Goes total ls scope run bs z) (sym e) g)

-- behind a start tag

start_inner : {total : ℕ} {ls : List Level} {outer : List Bound} {run bs : List ℕ} {o : Outcome} {scope : List Bound} {inside : List ℕ} {e : WrittenElement} {n : ExpandedName} {x : List Attribute}
    → 0 < depth_left ls → TagFormAt false total bs e (0x3E ∷ inside) → Fits ls e bs inside → TagMeans outer e.name e.attributes scope n x
    → AtTag total ls outer run bs o → Goes total (opened e n outer ∷ with_text run ls) scope [] inside o
start_inner z f b m (starts z' f' b' m' h) = let same = tag_unique (tag_of f m) (tag_of f' m') in start_moved (form_unique f f').0 same.same_name same.same_scope (same_others same.same_after) h
start_inner z f b m (stands_alone z' f' b' m' h) = absurd (open_empty f f')
start_inner z f b m (ends c) = absurd (start_end f c)
start_inner z f b m (is_deep z' i q y) = absurd (omega (arith, z, z'))
start_inner z f b m (is_refused z' k n' y) = absurd (refused_no_form k f)
start_inner z f b m (is_long l y) = absurd (long_not_short l (t.start_tag f) b.short)
start_inner {ls = ls} z f b m (has_many z' f' k s w y) = absurd (few_many (used ls) f b.few f' w)

pub over_start : (total : ℕ) (ls : List Level) (outer : List Bound) (run bs : List ℕ) (o : Outcome) {scope : List Bound} {inside : List ℕ} {e : WrittenElement} {n : ExpandedName} {x : List Attribute}
    → 0 < depth_left ls → TagFormAt false total bs e (0x3E ∷ inside) → Fits ls e bs inside → TagMeans outer e.name e.attributes scope n x
    → Goes total ls outer run bs o ↔ Goes total (opened e n outer ∷ with_text run ls) scope [] inside o
over_start total ls outer run bs o z f b m = (λ g. start_inner z f b m (at_tag (tag_begins (form_begins f)) g), λ h. start_tag z f b m h)

-- behind an empty-element tag

empty_inner : {total : ℕ} {ls : List Level} {outer : List Bound} {run bs : List ℕ} {o : Outcome} {scope : List Bound} {after : List ℕ} {e : WrittenElement} {n : ExpandedName} {x : List Attribute}
    → 0 < depth_left ls → TagFormAt false total bs e (codes "/>" ++ after) → Fits ls e bs after → TagMeans outer e.name e.attributes scope n x
    → AtTag total ls outer run bs o → GoesBehind total (closed n none (with_text run ls)) outer after o
empty_inner z f b m (starts z' f' b' m' h) = absurd (open_empty f' f)
empty_inner {total} {ls} {outer} {run} {o = o} {after = r} {n = n} z f b m (stands_alone {after = r'} {n = n'} z' f' b' m' h) =
    let same = tag_unique (tag_of f m) (tag_of f' m') in
    let moved : GoesBehind total (closed n none (with_text run ls)) outer r' o = subst (λ z. GoesBehind total (closed z none (with_text run ls)) outer r' o) (sym same.same_name) h in
    subst (λ z. GoesBehind total (closed n none (with_text run ls)) outer z o) (sym (append_cancel_left (codes "/>") r r' same.same_after)) moved
empty_inner z f b m (ends c) = absurd (start_end f c)
empty_inner z f b m (is_deep z' i q y) = absurd (omega (arith, z, z'))
empty_inner z f b m (is_refused z' k n' y) = absurd (refused_no_form k f)
empty_inner z f b m (is_long l y) = absurd (long_not_short l (t.empty_tag f) b.short)
empty_inner {ls = ls} z f b m (has_many z' f' k s w y) = absurd (few_many (used ls) f b.few f' w)

pub over_empty : (total : ℕ) (ls : List Level) (outer : List Bound) (run bs : List ℕ) (o : Outcome) {scope : List Bound} {after : List ℕ} {e : WrittenElement} {n : ExpandedName} {x : List Attribute}
    → 0 < depth_left ls → TagFormAt false total bs e (codes "/>" ++ after) → Fits ls e bs after → TagMeans outer e.name e.attributes scope n x
    → Goes total ls outer run bs o ↔ GoesBehind total (closed n none (with_text run ls)) outer after o
over_empty total ls outer run bs o z f b m = (λ g. empty_inner z f b m (at_tag (tag_begins (form_begins f)) g), λ h. empty_tag z f b m h)

-- behind an end tag

end_inner : {total : ℕ} {l : Level} {ls : List Level} {scope : List Bound} {run bs after : List ℕ} {o : Outcome} → EndTagAt l.written.name bs after → tag_length bs after ≤ longest_tag
    → AtTag total (l ∷ ls) scope run bs o → GoesBehind total (closed l.name (beside l.kids (kept run none)) ls) l.outer after o
end_inner f s (starts z' f' b' m' h) = absurd (no_form_at_end_tag f.opens f')
end_inner f s (stands_alone z' f' b' m' h) = absurd (no_form_at_end_tag f.opens f')
end_inner {total} {l} {ls} {run = run} {o = o} f s (ends (closes_one {after = r'} f' s' h)) =
    subst (λ z. GoesBehind total (closed l.name (beside l.kids (kept run none)) ls) l.outer z o) (sym (end_tag_unique f f').1) h
end_inner f s (is_deep {past_name = p} {name = n} z' i q y) = absurd (no_qname 0x2F (omega arith) refl (subst (λ z. QNameAt z n p) (same_others (sym i ∙ f.opens)) q))
end_inner f s (is_refused z' k n' y) = absurd (no_qname 0x2F (omega arith) refl (subst (λ z. QNameAt z k.written k.past_name) (same_others (sym k.opens ∙ f.opens)) k.names))
end_inner {total} f s (is_long l y) = absurd (long_not_short {total = total} l (t.end_tag f) s)
end_inner f s (has_many z' f' k s' w y) = absurd (no_form_at_end_tag f.opens f')

pub over_end_tag : (total : ℕ) (l : Level) (ls : List Level) (scope : List Bound) (run bs : List ℕ) (o : Outcome) {after : List ℕ} → EndTagAt l.written.name bs after → tag_length bs after ≤ longest_tag
    → Goes total (l ∷ ls) scope run bs o ↔ GoesBehind total (closed l.name (beside l.kids (kept run none)) ls) l.outer after o
over_end_tag total l ls scope run bs o f s = (λ g. end_inner f s (at_tag (tag_begins (end_tag_begins f)) g), λ h. end_tag f s h)

-- a tag that is kept, up to its `>`, and what may follow

ended_same : {r s : List ℕ} → ended r ≡ ended s → r ≡ s
ended_same e = cc

-- where bytes of a tag end as tags end, a tag that begins there whatever follows ends there too
pub ends_there : {o : Bool} {total : ℕ} {end after : List ℕ} {e : WrittenElement} (bytes f : List ℕ) → tag_scan None bytes ≡ ended [] → TagFormAt o total (bytes ++ f) e end → EndsAt end after → after ≡ f
ends_there bytes f scanned form k = ended_same (sym (tag_scanned form k) ∙ (tag_more None bytes f ∙ ap (λ s. then_tag s f) scanned))

-- so it has a form in these bytes alone
pub form_alone : {o : Bool} {total : ℕ} {f end : List ℕ} {e : WrittenElement} (bytes : List ℕ) (now : ℕ) → TagFormAt o total (bytes ++ f) e end → EndsAt end f
    → (KeptForm o now bytes e (0x3E ∷ [])) ⊎ (KeptForm o now bytes e (codes "/>"))
form_alone {f = f} bytes now form (open_end e) = inl (form_cut bytes f (0x3E ∷ []) now form refl e (begins_as 0x3E [] refl))
form_alone {f = f} bytes now form (empty_end e) = inr (form_cut bytes f (codes "/>") now form refl e (begins_as 0x2F (0x3E ∷ []) refl))
