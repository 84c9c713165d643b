-- What still comes of a text where a document type declaration has begun.
use Rattle.std.proofs.Common.{◌≡◌, inl, inr, ℕ, ◌<◌, ◌+◌, ◌-◌, List, [], ◌∷◌, ◌++◌, refl, ap, ◌∙◌, sym, subst, length, arith, codes, append_assoc, length-append}
use Rattle.std.specs.Prelude.{◌↔◌, encode_utf8_all}
use Rattle.std.proofs.lemmas.Str.{encodes-append}
use Rattle.tc_base.specs.declared.reasons.Why.TheVariants.{DoctypeSubset}
use Rattle.tc_model.specs.Names.{IsChars}
use Rattle.tc_model.specs.XmlTextBytes.{place_of}
use Rattle.tc_model.specs.XmlTextMisc.{MiscAt, no_more, IsNoMisc, DoctypeFrontAt, DoctypeAt}
use Rattle.tc_model.specs.XmlTextMisc as m
use Rattle.tc_model.specs.XmlTextRefusals.{unsupported}
use Rattle.tc_model.proofs.XmlTextPhrases.{same_first, same_others}
use Rattle.tc_stream.specs.Cuts.{BeginsNoChar}
use Rattle.tc_stream.specs.Doctypes.{Typing, begun, TypeScan, typed, typing, subset, no_doctype, doctype_scan}
use Rattle.tc_stream.specs.Outcomes.{Outcome, refused}
use Rattle.tc_stream.specs.From.{Standing, FromRoot, FromProlog, root, FromPhase, StillComes}
use Rattle.tc_stream.specs.From as from
use Rattle.tc_stream.specs.declared.phases.Phase.TheVariants as phases
use Rattle.tc_stream.proofs.ContentSteps.{step_both}
use Rattle.tc_stream.proofs.NothingSteps.{nothing_step, last_step, refused_in_chars}
use Rattle.tc_stream.proofs.DoctypeLaws.{then_doctype, doctype_more, TypeEnds, ends, opens, doctype_scanned}
use Rattle.tc_stream.proofs.DoctypeFound.{Told, is_typed, is_subset, goes_on, is_none, told}

-- misc before a doctype

abbrev doctype_of : List ℕ → List ℕ
doctype_of cs = codes "<!DOCTYPE" ++ encode_utf8_all cs

no_misc : (x : List ℕ) → IsNoMisc (codes "<!DOCTYPE" ++ x)
no_misc x = (λ r e. omega (arith, same_first (same_others (same_others e))), λ r e. omega (arith, same_first (same_others e)))

misc_here : (x : List ℕ) → MiscAt (codes "<!DOCTYPE" ++ x) (codes "<!DOCTYPE" ++ x)
misc_here x = no_more (no_misc x)

misc_there : (x : List ℕ) {past : List ℕ} → MiscAt (codes "<!DOCTYPE" ++ x) past → past ≡ codes "<!DOCTYPE" ++ x
misc_there x (no_more h) = refl
misc_there x (m.comment a k) = absurd ((no_misc x).0 a.rest a.opens)
misc_there x (m.instruction a k) = absurd ((no_misc x).1 a.rest a.opens)

-- where a doctype begins, what comes is what its scan tells
data AtDoctype (total : ℕ) (cs : List ℕ) (o : Outcome) : Type 0 where
  opens_there : (es : List ℕ) → doctype_scan begun cs ≡ subset es → o ≡ refused (unsupported DoctypeSubset) (place_of total (0x5B ∷ encode_utf8_all es)) → AtDoctype total cs o
  ends_there : (es after : List ℕ) → doctype_scan begun cs ≡ typed es → MiscAt (encode_utf8_all es) after → FromRoot total after o → AtDoctype total cs o

at_subset : {total : ℕ} {cs r : List ℕ} → TypeEnds (doctype_scan begun cs) (0x5B ∷ r) → AtDoctype total cs (refused (unsupported DoctypeSubset) (place_of total (0x5B ∷ r)))
at_subset (ends es i j) = absurd (omega (arith, same_first j))
at_subset {total} (opens es i j) = opens_there es i (ap (λ z. refused (unsupported DoctypeSubset) (place_of total z)) j)

at_end : {total : ℕ} {cs r after : List ℕ} {o : Outcome} → TypeEnds (doctype_scan begun cs) (0x3E ∷ r) → MiscAt r after → FromRoot total after o → AtDoctype total cs o
at_end (opens es i j) k g = absurd (omega (arith, same_first j))
at_end {after = after} (ends es i j) k g = ends_there es after i (subst (λ z. MiscAt z after) (same_others j) k) g

at_root : {total : ℕ} {bs after : List ℕ} {o : Outcome} (cs : List ℕ) → DoctypeAt bs after → bs ≡ doctype_of cs → FromRoot total after o → AtDoctype total cs o
at_root cs (m.no_doctype h) e g = absurd (h (encode_utf8_all cs) e)
at_root cs (m.doctype {rest = rest} a i) e g = at_end (doctype_scanned cs (0x3E ∷ rest) (subst (λ z. DoctypeFrontAt z (0x3E ∷ rest)) e a) (inl (rest, refl))) i g

at_doctype : {total : ℕ} {o : Outcome} (cs : List ℕ) → FromProlog total (doctype_of cs) o → AtDoctype total cs o
at_doctype cs (from.subset {r = r} k a) =
    at_subset (doctype_scanned cs (0x5B ∷ r) (subst (λ z. DoctypeFrontAt z (0x5B ∷ r)) (misc_there (encode_utf8_all cs) k) a) (inr (r, refl)))
at_doctype cs (root k d g) = at_root cs d (misc_there (encode_utf8_all cs) k) g

typed_same : {r s : List ℕ} → typed r ≡ typed s → r ≡ s
typed_same e = cc

subset_same : {r s : List ℕ} → subset r ≡ subset s → r ≡ s
subset_same e = cc

typed_there : {cs es : List ℕ} {x : TypeScan} → Told cs x → x ≡ typed es → DoctypeFrontAt (doctype_of cs) (0x3E ∷ encode_utf8_all es)
typed_there {cs} (is_typed a) e = subst (λ z. DoctypeFrontAt (doctype_of cs) (0x3E ∷ encode_utf8_all z)) (typed_same e) a
typed_there (is_subset a) e = absurd (cc)
typed_there goes_on e = absurd (cc)
typed_there is_none e = absurd (cc)

subset_there : {cs es : List ℕ} {x : TypeScan} → Told cs x → x ≡ subset es → DoctypeFrontAt (doctype_of cs) (0x5B ∷ encode_utf8_all es)
subset_there (is_typed a) e = absurd (cc)
subset_there {cs} (is_subset a) e = subst (λ z. DoctypeFrontAt (doctype_of cs) (0x5B ∷ encode_utf8_all z)) (subset_same e) a
subset_there goes_on e = absurd (cc)
subset_there is_none e = absurd (cc)

-- the characters of a doctype that have come, and those that follow

whole_of : (ws fs : List ℕ) → doctype_of ws ++ encode_utf8_all fs ≡ doctype_of (ws ++ fs)
whole_of ws fs = append_assoc (codes "<!DOCTYPE") (encode_utf8_all ws) (encode_utf8_all fs) ∙ ap (λ w. codes "<!DOCTYPE" ++ w) (sym (encodes-append ws fs))

scanned_as : (ws fs : List ℕ) {x : TypeScan} → doctype_scan begun ws ≡ x → doctype_scan begun (ws ++ fs) ≡ then_doctype x fs
scanned_as ws fs e = doctype_more begun ws fs ∙ ap (λ x. then_doctype x fs) e

-- one that has ended

over_chars : (total : ℕ) (ws fs : List ℕ) (s : Standing) (o : Outcome) → doctype_scan begun ws ≡ typed []
    → FromProlog total (doctype_of ws ++ encode_utf8_all fs) o ↔ FromPhase total phases.Root s (encode_utf8_all fs) o
over_chars total ws fs s o e = (λ g. past (at_doctype (ws ++ fs) (subst (λ z. FromProlog total z o) (whole_of ws fs) g)), back)
  where
    scanned : doctype_scan begun (ws ++ fs) ≡ typed fs
    scanned = scanned_as ws fs e

    past : AtDoctype total (ws ++ fs) o → (after : List ℕ) × MiscAt (encode_utf8_all fs) after × FromRoot total after o
    past (opens_there es i j) = absurd (no_both (sym scanned ∙ i))
      where
        no_both : {r s : List ℕ} → typed r ≡ subset s → ⊥
        no_both h = cc
    past (ends_there es after i k g) = (after, subst (λ z. MiscAt (encode_utf8_all z) after) (typed_same (sym i ∙ scanned)) k, g)

    back : (after : List ℕ) × MiscAt (encode_utf8_all fs) after × FromRoot total after o → FromProlog total (doctype_of ws ++ encode_utf8_all fs) o
    back (after, k, g) =
        subst (λ z. FromProlog total z o) (sym (whole_of ws fs)) (root (misc_here (encode_utf8_all (ws ++ fs))) (m.doctype (typed_there (told (ws ++ fs)) scanned) k) g)

over_doctype : (total : ℕ) (ws f : List ℕ) (s : Standing) (o : Outcome) → IsChars f → doctype_scan begun ws ≡ typed []
    → FromProlog total (doctype_of ws ++ f) o ↔ FromPhase total phases.Root s f o
over_doctype total ws f s o (fs, is, h) e = subst (λ z. FromProlog total (doctype_of ws ++ z) o ↔ FromPhase total phases.Root s z o) is (over_chars total ws fs s o e)

pub doctype_step : (n : ℕ) (ws r : List ℕ) (s : Standing) (o : Outcome) → IsChars (codes "<!DOCTYPE" ++ encode_utf8_all ws) → doctype_scan begun ws ≡ typed []
    → StillComes n phases.Prolog s ((codes "<!DOCTYPE" ++ encode_utf8_all ws) ++ r) o ↔ StillComes (n + length (codes "<!DOCTYPE" ++ encode_utf8_all ws)) phases.Root s r o
doctype_step n ws r s o chars e = step_both n (doctype_of ws) r phases.Prolog phases.Root s s o chars (λ total f k. over_doctype total ws f s o k.characters e)

-- a subset

before_subset : (n : ℕ) (item f : List ℕ) → 0 < length item → place_of (n + length (item ++ f)) (0x5B ∷ f) ≡ n + (length item - 1)
before_subset n item f some = omega (arith, some, length-append item f)

subset_chars : (n : ℕ) (ws fs : List ℕ) (o : Outcome) → doctype_scan begun ws ≡ subset []
    → FromProlog (n + length (doctype_of ws ++ encode_utf8_all fs)) (doctype_of ws ++ encode_utf8_all fs) o ↔ (o ≡ refused (unsupported DoctypeSubset) (n + (length (doctype_of ws) - 1)))
subset_chars n ws fs o e = (λ g. past (at_doctype (ws ++ fs) (subst (λ z. FromProlog total z o) (whole_of ws fs) g)), back)
  where
    total : ℕ
    total = n + length (doctype_of ws ++ encode_utf8_all fs)

    scanned : doctype_scan begun (ws ++ fs) ≡ subset fs
    scanned = scanned_as ws fs e

    place : place_of total (0x5B ∷ encode_utf8_all fs) ≡ n + (length (doctype_of ws) - 1)
    place = before_subset n (doctype_of ws) (encode_utf8_all fs) (omega (arith, length-append (codes "<!DOCTYPE") (encode_utf8_all ws)))

    past : AtDoctype total (ws ++ fs) o → o ≡ refused (unsupported DoctypeSubset) (n + (length (doctype_of ws) - 1))
    past (opens_there es i j) =
        j ∙ (ap (λ z. refused (unsupported DoctypeSubset) (place_of total (0x5B ∷ encode_utf8_all z))) (subset_same (sym i ∙ scanned)) ∙ ap (refused (unsupported DoctypeSubset)) place)
    past (ends_there es after i k g) = absurd (no_both (sym i ∙ scanned))
      where
        no_both : {r s : List ℕ} → typed r ≡ subset s → ⊥
        no_both h = cc

    back : o ≡ refused (unsupported DoctypeSubset) (n + (length (doctype_of ws) - 1)) → FromProlog total (doctype_of ws ++ encode_utf8_all fs) o
    back h =
        let there : FromProlog total (doctype_of (ws ++ fs)) (refused (unsupported DoctypeSubset) (place_of total (0x5B ∷ encode_utf8_all fs))) =
        from.subset (misc_here (encode_utf8_all (ws ++ fs))) (subset_there (told (ws ++ fs)) scanned) in
        subst (λ z. FromProlog total z o) (sym (whole_of ws fs)) (subst (λ z. FromProlog total (doctype_of (ws ++ fs)) z) (ap (refused (unsupported DoctypeSubset)) place ∙ sym h) there)

-- where one comes of characters and of all that may follow them
refused_by_chars : (n : ℕ) (item f : List ℕ) (o : Outcome) (x : Outcome) → IsChars f → ((fs : List ℕ) → FromProlog (n + length (item ++ encode_utf8_all fs)) (item ++ encode_utf8_all fs) o ↔ (o ≡ x))
    → FromProlog (n + length (item ++ f)) (item ++ f) o ↔ (o ≡ x)
refused_by_chars n item f o x (fs, is, h) step = subst (λ z. FromProlog (n + length (item ++ z)) (item ++ z) o ↔ (o ≡ x)) is (step fs)

pub subset_step : (n : ℕ) (ws r : List ℕ) (s : Standing) (o : Outcome) → IsChars (codes "<!DOCTYPE" ++ encode_utf8_all ws) → doctype_scan begun ws ≡ subset []
    → StillComes n phases.Prolog s ((codes "<!DOCTYPE" ++ encode_utf8_all ws) ++ r) o ↔ (o ≡ refused (unsupported DoctypeSubset) (n + (length (codes "<!DOCTYPE" ++ encode_utf8_all ws) - 1)))
subset_step n ws r s o chars e = both
  where
    place : ℕ
    place = n + (length (doctype_of ws) - 1)

    -- the characters at the front of what follows
    step : (f : List ℕ) (z : Outcome) → IsChars f → FromProlog (n + length (doctype_of ws ++ f)) (doctype_of ws ++ f) z ↔ (z ≡ refused (unsupported DoctypeSubset) place)
    step f z c = refused_by_chars n (doctype_of ws) f z (refused (unsupported DoctypeSubset) place) c (λ fs. subset_chars n ws fs z e)

    both : StillComes n phases.Prolog s (doctype_of ws ++ r) o ↔ (o ≡ refused (unsupported DoctypeSubset) place)
    both = refused_in_chars n (doctype_of ws) r phases.Prolog s (unsupported DoctypeSubset) place o chars step

-- where none stands whatever follows, and where the text ends in one

pub doctype_broken : (n : ℕ) (ws r : List ℕ) (s : Standing) (o : Outcome) → IsChars (codes "<!DOCTYPE" ++ encode_utf8_all ws) → doctype_scan begun ws ≡ no_doctype
    → StillComes n phases.Prolog s ((codes "<!DOCTYPE" ++ encode_utf8_all ws) ++ r) o → ⊥
doctype_broken n ws r s o chars e = nothing_step n (doctype_of ws) r phases.Prolog s o chars (λ f k g. by f k.characters g)
  where
    none_of : (total : ℕ) (fs : List ℕ) → AtDoctype total (ws ++ fs) o → ⊥
    none_of total fs (opens_there es i j) = no_both (sym (scanned_as ws fs e) ∙ i)
      where
        no_both : {r : List ℕ} → no_doctype ≡ subset r → ⊥
        no_both h = cc
    none_of total fs (ends_there es after i k g) = no_both (sym (scanned_as ws fs e) ∙ i)
      where
        no_both : {r : List ℕ} → no_doctype ≡ typed r → ⊥
        no_both h = cc

    by : (f : List ℕ) → IsChars f → FromProlog (n + length (doctype_of ws ++ f)) (doctype_of ws ++ f) o → ⊥
    by f (fs, is, h) g =
        let total = n + length (doctype_of ws ++ f) in
        none_of total fs (at_doctype (ws ++ fs) (subst (λ z. FromProlog total z o) (ap (λ w. doctype_of ws ++ w) (sym is) ∙ whole_of ws fs) g))

pub doctype_unended : (n : ℕ) (ws r : List ℕ) (s : Standing) (o : Outcome) (known : Typing) → IsChars (codes "<!DOCTYPE" ++ encode_utf8_all ws) → BeginsNoChar r
    → doctype_scan begun ws ≡ typing known → StillComes n phases.Prolog s ((codes "<!DOCTYPE" ++ encode_utf8_all ws) ++ r) o → ⊥
doctype_unended n ws r s o known chars end e = last_step n (doctype_of ws) r phases.Prolog s o chars end (λ g. none_of (at_doctype ws g))
  where
    none_of : AtDoctype (n + length (doctype_of ws)) ws o → ⊥
    none_of (opens_there es i j) = no_both (sym e ∙ i)
      where
        no_both : {r : List ℕ} → typing known ≡ subset r → ⊥
        no_both h = cc
    none_of (ends_there es after i k g) = no_both (sym e ∙ i)
      where
        no_both : {r : List ℕ} → typing known ≡ typed r → ⊥
        no_both h = cc
