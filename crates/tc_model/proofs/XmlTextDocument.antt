-- Stripped, a lawful raw tree is a document.
use Rattle.std.proofs.Common.{◌≡◌, ◌≢◌, ℕ, Bool, true, false, cond, List, [], ◌∷◌, ◌++◌, refl, ap, ◌∙◌, sym, subst, length}
use Rattle.tc_model.specs.Names.{IsText}
use Rattle.tc_model.specs.Trees.{Trees, none, text, element, is_white_space_only, joined_to, joined, kept, dropped, normal_form, IsNormal, AreLawful, IsOneElement}
use Rattle.tc_model.specs.RawTrees as r
use Rattle.tc_model.specs.Stripped.{bare, stripped}
use Rattle.tc_model.specs.XmlTextContent.{piece_before, Piece, ElementAt, empty_tag, with_content}
use Rattle.tc_model.specs.XmlTextLaws.{AreLawfulWithin, HasDocument}
use Rattle.tc_model.proofs.XmlTextChars.{join_chars}
use Rattle.tc_model.proofs.XmlTextTrees.{lawful_raw_tree}

bare_lawful : (total : ℕ) (h : r.RawTrees) → AreLawfulWithin total h → AreLawful (bare h)
bare_lawful total r.none l = tt
bare_lawful total (r.text s p rest) (t, w, l) = (t, bare_lawful total rest l)
bare_lawful total (r.element n attributes scope p kids rest) (a, b, c, d, k, l) = (a, bare_lawful total kids k, bare_lawful total rest l)

pub some_append : (s t : List ℕ) → s ≢ [] → s ++ t ≢ []
some_append [] t h e = absurd (h refl)
some_append (b ∷ s) t h e = cc

pub joined_to_lawful : (s : List ℕ) (h : Trees) → IsText s → AreLawful h → AreLawful (joined_to s h)
joined_to_lawful s none t l = (t, tt)
joined_to_lawful s (text u rest) (some, t) ((other, k), l) = ((some_append s u some, join_chars s u t k), l)
joined_to_lawful s (element n kids rest) t l = (t, l)

pub joined_lawful : (h : Trees) → AreLawful h → AreLawful (joined h)
joined_lawful none l = tt
joined_lawful (text s rest) (t, l) = joined_to_lawful s (joined rest) t (joined_lawful rest l)
joined_lawful (element n kids rest) (a, k, l) = (a, joined_lawful kids k, joined_lawful rest l)

pub kept_lawful : (s : List ℕ) (h : Trees) → IsText s → AreLawful h → AreLawful (kept s h)
kept_lawful s h t l = by (is_white_space_only s)
  where
    by : (x : Bool) → AreLawful (cond x h (text s h))
    by true = l
    by false = (t, l)

pub dropped_lawful : (h : Trees) → AreLawful h → AreLawful (dropped h)
dropped_lawful none l = tt
dropped_lawful (text s rest) (t, l) = kept_lawful s (dropped rest) t (dropped_lawful rest l)
dropped_lawful (element n kids rest) (a, k, l) = (a, dropped_lawful kids k, dropped_lawful rest l)

-- no text begins these trees
BeginsWithNoText : Trees → Type 0
BeginsWithNoText none = Unit {0}
BeginsWithNoText (text s rest) = ⊥
BeginsWithNoText (element n kids rest) = Unit {0}

-- no two texts stand side by side
AreApart : Trees → Type 0
AreApart none = Unit {0}
AreApart (text s rest) = BeginsWithNoText rest × AreApart rest
AreApart (element n kids rest) = AreApart kids × AreApart rest

joined_to_apart : (s : List ℕ) (h : Trees) → AreApart h → AreApart (joined_to s h)
unfolding AreApart BeginsWithNoText
joined_to_apart s none a = (tt, tt)
joined_to_apart s (text t rest) a = a
joined_to_apart s (element n kids rest) a = (tt, a)

joined_apart : (h : Trees) → AreApart (joined h)
unfolding AreApart
joined_apart none = tt
joined_apart (text s rest) = joined_to_apart s (joined rest) (joined_apart rest)
joined_apart (element n kids rest) = (joined_apart kids, joined_apart rest)

apart_joined : (h : Trees) → AreApart h → joined h ≡ h
unfolding AreApart BeginsWithNoText
apart_joined none a = refl
apart_joined (text s none) a = refl
apart_joined (text s (text t rest)) a = absurd a.0
apart_joined (text s (element n kids rest)) a = ap (joined_to s) (apart_joined (element n kids rest) a.1)
apart_joined (element n kids rest) a = ap (λ k. element n k (joined rest)) (apart_joined kids a.0) ∙ ap (element n kids) (apart_joined rest a.1)

kept_apart : (s : List ℕ) (h : Trees) → BeginsWithNoText h → AreApart h → AreApart (kept s h)
unfolding AreApart
kept_apart s h b a = by (is_white_space_only s)
  where
    by : (x : Bool) → AreApart (cond x h (text s h))
    by true = a
    by false = (b, a)

dropped_begins : (h : Trees) → BeginsWithNoText h → BeginsWithNoText (dropped h)
unfolding BeginsWithNoText
dropped_begins none b = tt
dropped_begins (text s rest) b = absurd b
dropped_begins (element n kids rest) b = tt

dropped_apart : (h : Trees) → AreApart h → AreApart (dropped h)
unfolding AreApart
dropped_apart none a = tt
dropped_apart (text s rest) a = kept_apart s (dropped rest) (dropped_begins rest a.0) (dropped_apart rest a.1)
dropped_apart (element n kids rest) a = (dropped_apart kids a.0, dropped_apart rest a.1)

dropped_kept : (s : List ℕ) (h : Trees) → dropped h ≡ h → dropped (kept s h) ≡ kept s h
dropped_kept s h e = by (is_white_space_only s) refl
  where
    by : (x : Bool) → is_white_space_only s ≡ x → dropped (cond x h (text s h)) ≡ cond x h (text s h)
    by true q = e
    by false q = ap (kept s) e ∙ ap (λ x. cond x h (text s h)) q

dropped_twice : (h : Trees) → dropped (dropped h) ≡ dropped h
dropped_twice none = refl
dropped_twice (text s rest) = dropped_kept s (dropped rest) (dropped_twice rest)
dropped_twice (element n kids rest) = ap (λ k. element n k (dropped (dropped rest))) (dropped_twice kids) ∙ ap (element n (dropped kids)) (dropped_twice rest)

-- what is in normal form stays as it is
pub normal_twice : (h : Trees) → IsNormal (normal_form h)
normal_twice h = ap dropped (apart_joined (dropped (joined h)) (dropped_apart (joined h) (joined_apart h))) ∙ dropped_twice (joined h)

one_element : {total d : ℕ} {o : Bool} {bs after : List ℕ} {outer : List r.Bound} {p : Piece} → ElementAt o total outer d bs p after → IsOneElement (stripped (piece_before p r.none))
one_element (empty_tag a) = refl
one_element (with_content a m b e) = refl

pub document : HasDocument
document bytes h a = (
  subst (λ k. IsOneElement (stripped k)) (sym a.is_tree) (one_element a.element),
  dropped_lawful (joined (bare h)) (joined_lawful (bare h) (bare_lawful (length bytes) h (lawful_raw_tree bytes h a))),
  normal_twice (bare h),
)
