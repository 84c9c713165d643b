-- Bytes at which nothing is read in a part of a text, and nothing refused.
use Rattle.std.proofs.Common.{◌≡◌, ◌≢◌, ℕ, ◌+◌, List, [], ◌∷◌, ◌++◌, sym, subst, length, arith, codes}
use Rattle.tc_model.specs.Names.{ExpandedName, IsChars}
use Rattle.tc_model.specs.RawTrees.{Bound}
use Rattle.tc_model.specs.Trees.{Trees}
use Rattle.tc_model.specs.XmlTextBytes.{BeginsWithWhite, after_white}
use Rattle.tc_model.specs.XmlTextReferences.{CdataAt}
use Rattle.tc_model.specs.XmlTextMisc.{CommentAt, InstructionAt, MiscAt, no_more, comment, instruction, DoctypeFrontAt, DoctypeAt, no_doctype, doctype}
use Rattle.tc_model.specs.XmlTextMisc as m
use Rattle.tc_model.specs.XmlTextRefusals.{version, encoding}
use Rattle.tc_model.proofs.XmlTextUnique.{kind, character_data_kind, reference_kind, cdata_kind, comment_kind, instruction_kind}
use Rattle.tc_model.proofs.XmlTextRefused.{as_reference}
use Rattle.tc_stream.specs.Cuts.{BeginsNoChar}
use Rattle.tc_stream.specs.Outcomes.{Outcome}
use Rattle.tc_stream.specs.Goes.{Level, Goes, characters, reference, cdata, start_tag, empty_tag, end_tag, entity, deep, construct, long_tag, many_names, GoesBehind, finished, end}
use Rattle.tc_stream.specs.Goes as g
use Rattle.tc_stream.specs.From.{Standing, open_in, ended, FromRoot, FromProlog, subset, root, FromFront, declaration, prolog, FromPhase, StillComes}
use Rattle.tc_stream.specs.declared.phases.Phase.{Phase}
use Rattle.tc_stream.specs.declared.phases.Phase.TheVariants as phases
use Rattle.tc_stream.proofs.MeasureLaws.{tag_begins}
use Rattle.tc_tags.proofs.TagLaws.{form_begins, end_tag_begins}
use Rattle.tc_stream.proofs.LongLaws.{long_begins}
use Rattle.tc_stream.proofs.OneOutcome.{refused_begins, begins_kind}
use Rattle.tc_stream.proofs.NothingSteps.{nothing_step, last_step}

-- neither white space nor a comment, a processing instruction or a tag stands here, but something
pub record Hopeless (bs : List ℕ) : Type 0 where
  pub bare : after_white bs ≡ bs
  pub some : bs ≢ []
  pub no_tag : kind bs ≡ 3 → ⊥
  pub no_comment : (r : List ℕ) → CommentAt bs r → ⊥
  pub no_instruction : (r : List ℕ) → InstructionAt bs r → ⊥

-- and nothing else that may stand in this part
abbrev pub IsNoOther : Phase → List ℕ → Type 0
IsNoOther phases.Mark bs = ⊥
IsNoOther phases.Front bs = ((after : List ℕ) → DoctypeFrontAt bs after → ⊥) × ((r : List ℕ) → bs ≡ codes "<?xml" ++ r → BeginsWithWhite r → ⊥)
IsNoOther phases.Prolog bs = (after : List ℕ) → DoctypeFrontAt bs after → ⊥
IsNoOther phases.Root bs = Unit {0}
IsNoOther phases.Content bs = (kind bs ≡ 0 → ⊥) × (kind bs ≡ 1 → ⊥) × ((s r : List ℕ) → CdataAt bs s r → ⊥)
IsNoOther phases.End bs = Unit {0}

-- misc ends where it is hopeless
misc_there : {bs past : List ℕ} → Hopeless bs → MiscAt bs past → past ≡ bs
misc_there h (no_more k) = h.bare
misc_there h (comment {rest = r} a k) = absurd (h.no_comment r (subst (λ z. CommentAt z r) h.bare a))
misc_there h (instruction {rest = r} a k) = absurd (h.no_instruction r (subst (λ z. InstructionAt z r) h.bare a))

pub root_none : {total : ℕ} {outer : List Bound} {run bs : List ℕ} {o : Outcome} → (kind bs ≡ 3 → ⊥) → Goes total [] outer run bs o → ⊥
root_none n (start_tag z f b m g) = n (tag_begins (form_begins f))
root_none n (empty_tag z f b m g) = n (tag_begins (form_begins f))
root_none n (deep z q) = n (begins_kind q)
root_none n (construct z t s) = n (tag_begins (refused_begins t))
root_none n (long_tag l) = n (tag_begins (long_begins l))
root_none n (many_names z f k s w) = n (tag_begins (form_begins f))

content_none : {total : ℕ} {l : Level} {ls : List Level} {scope : List Bound} {run bs : List ℕ} {o : Outcome} → Hopeless bs → IsNoOther phases.Content bs → Goes total (l ∷ ls) scope run bs o → ⊥
content_none h n (characters a g) = n.0 (character_data_kind a)
content_none h n (reference a g) = n.1 (reference_kind a)
content_none h n (entity a) = n.1 (reference_kind (as_reference a))
content_none h n (cdata {s = s} {rest = r} a g) = n.2 s r a
content_none h n (g.comment {rest = r} a k) = h.no_comment r a
content_none h n (g.instruction {rest = r} a k) = h.no_instruction r a
content_none h n (start_tag z f b m k) = h.no_tag (tag_begins (form_begins f))
content_none h n (empty_tag z f b m k) = h.no_tag (tag_begins (form_begins f))
content_none h n (end_tag f s k) = h.no_tag (tag_begins (end_tag_begins f))
content_none h n (deep z q) = h.no_tag (begins_kind q)
content_none h n (construct z t s) = h.no_tag (tag_begins (refused_begins t))
content_none h n (long_tag l) = h.no_tag (tag_begins (long_begins l))
content_none h n (many_names z f k s w) = h.no_tag (tag_begins (form_begins f))

-- where no item begins
pub content_other : {total : ℕ} {l : Level} {ls : List Level} {scope : List Bound} {run bs : List ℕ} {o : Outcome} → kind bs ≡ 6 → Goes total (l ∷ ls) scope run bs o → ⊥
content_other e (characters a g) = omega (arith, e, character_data_kind a)
content_other e (reference a g) = omega (arith, e, reference_kind a)
content_other e (entity a) = omega (arith, e, reference_kind (as_reference a))
content_other e (cdata a g) = omega (arith, e, cdata_kind a)
content_other e (g.comment a k) = omega (arith, e, comment_kind a)
content_other e (g.instruction a k) = omega (arith, e, instruction_kind a)
content_other e (start_tag z f b m k) = omega (arith, e, tag_begins (form_begins f))
content_other e (empty_tag z f b m k) = omega (arith, e, tag_begins (form_begins f))
content_other e (end_tag f s k) = omega (arith, e, tag_begins (end_tag_begins f))
content_other e (deep z q) = omega (arith, e, begins_kind q)
content_other e (construct z t s) = omega (arith, e, tag_begins (refused_begins t))
content_other e (long_tag l) = omega (arith, e, tag_begins (long_begins l))
content_other e (many_names z f k s w) = omega (arith, e, tag_begins (form_begins f))

doctype_there : {bs past after : List ℕ} → past ≡ bs → ((after : List ℕ) → DoctypeFrontAt bs after → ⊥) → DoctypeAt past after → after ≡ bs
doctype_there e n (no_doctype k) = e
doctype_there e n (doctype {rest = r} a k) = absurd (n (0x3E ∷ r) (subst (λ z. DoctypeFrontAt z (0x3E ∷ r)) e a))

prolog_none : {total : ℕ} {bs : List ℕ} {o : Outcome} → Hopeless bs → IsNoOther phases.Prolog bs → FromProlog total bs o → ⊥
prolog_none h n (subset {r = r} k a) = n (0x5B ∷ r) (subst (λ z. DoctypeFrontAt z (0x5B ∷ r)) (misc_there h k) a)
prolog_none {total} {bs} {o} h n (root k d g) =
    root_none h.no_tag (subst (λ z. FromRoot total z o) (doctype_there (misc_there h k) n d) g)

front_none : {total : ℕ} {bs : List ℕ} {o : Outcome} → Hopeless bs → IsNoOther phases.Front bs → FromFront total bs o → ⊥
front_none h n (declaration (version {rest = r} e v k)) = n.1 r e v.white
front_none h n (declaration (encoding {rest = r} e v s k)) = n.1 r e v.white
front_none h n (prolog (m.no_declaration k) p) = prolog_none h n.0 p
front_none h n (prolog (m.declaration {rest = r} e v k t q) p) = n.1 r e v.white

end_none : {total : ℕ} {n : ExpandedName} {kids : Trees} {scope : List Bound} {bs : List ℕ} {o : Outcome} → Hopeless bs → GoesBehind total (finished n kids) scope bs o → ⊥
end_none h (end k) = h.some (sym (misc_there h k))

-- where reading may stand in a part
pub data StandsIn : Phase → Standing → Type 0 where
  in_front : {s : Standing} → StandsIn phases.Front s
  in_prolog : {s : Standing} → StandsIn phases.Prolog s
  in_root : {s : Standing} → StandsIn phases.Root s
  in_content : {l : Level} {ls : List Level} {scope : List Bound} {run : List ℕ} → StandsIn phases.Content (open_in (l ∷ ls) scope run)
  past_root : {n : ExpandedName} {kids : Trees} → StandsIn phases.End (ended n kids)

none_there : (total : ℕ) {phase : Phase} {s : Standing} {bs : List ℕ} (o : Outcome) → StandsIn phase s → Hopeless bs → IsNoOther phase bs → FromPhase total phase s bs o → ⊥
none_there total o in_front h n g = front_none h n g
none_there total o in_prolog h n g = prolog_none h n g
none_there total o in_root h n (r, k, g) = root_none h.no_tag (subst (λ z. FromRoot total z o) (misc_there h k) g)
none_there total o in_content h n g = content_none h n g
none_there total o past_root h n g = end_none h g

-- nothing comes of characters that are hopeless whatever follows
pub hopeless_step : (n : ℕ) (item r : List ℕ) (phase : Phase) (s : Standing) (o : Outcome) → StandsIn phase s → IsChars item → ((f : List ℕ) → Hopeless (item ++ f)) → ((f : List ℕ) → IsNoOther phase (item ++ f))
    → StillComes n phase s (item ++ r) o → ⊥
hopeless_step n item r phase s o at chars h k = nothing_step n item r phase s o chars (λ f c g. none_there (n + length (item ++ f)) o at (h f) (k f) g)

-- nor of such behind which no character stands
pub hopeless_last : (n : ℕ) (item r : List ℕ) (phase : Phase) (s : Standing) (o : Outcome) → StandsIn phase s → IsChars item → BeginsNoChar r → Hopeless item → IsNoOther phase item
    → StillComes n phase s (item ++ r) o → ⊥
hopeless_last n item r phase s o at chars last h k = last_step n item r phase s o chars last (λ g. none_there (n + length item) o at h k g)
