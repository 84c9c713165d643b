-- The root element alone, and what is read around it.
use Rattle.std.proofs.Common.{◌≡◌, ℕ, Bool, List, [], ◌∷◌, refl, ap, ◌∙◌, sym, subst, Some, None, slice_get}
use Rattle.tc_model.specs.RawTrees.{RawTrees, none, Bound, IsOneElement}
use Rattle.tc_model.specs.Views.{raw_trees, raw_before}
use Rattle.tc_model.specs.XmlTextContent.{Piece, piece_before, ElementAt, empty_tag, with_content}
use Rattle.tc_model.specs.declared.tree.Raw.{Raw, Raw-F}
use Rattle.tc_model.specs.declared.tree.RawElem.{RawElem}
use Rattle.tc_model.specs.declared.tree.Raw.TheOpen as parts
use Rattle.tc_model.specs.declared.tree.Raw.TheVariants.{rolls-Elem, rolls-Text}
use Rattle.tc_model.specs.declared.tree.Raw.TheViews.{roll-Raw, out-Raw, roll-out-Raw}
use Rattle.tc_model.proofs.ViewsRaw.{before_elem, before_text}

alone_layer : (f : Raw-F Raw RawElem) (k : RawTrees) → IsOneElement (raw_before (roll-Raw f) k) → k ≡ none
alone_layer (parts.Elem e) k o =
    let P : Raw → Type 0 = λ y. IsOneElement (raw_before y k) in subst IsOneElement (before_elem e k) (subst P (rolls-Elem e) o)
alone_layer (parts.Text s p) k o =
    let P : Raw → Type 0 = λ y. IsOneElement (raw_before y k) in absurd (subst IsOneElement (before_text s p k) (subst P (rolls-Text s p) o))

-- nothing stands beside one element alone
alone : (y : Raw) (k : RawTrees) → IsOneElement (raw_before y k) → k ≡ none
alone y k o =
    let P : Raw → Type 0 = λ y. IsOneElement (raw_before y k) → k ≡ none in subst P (roll-out-Raw y) (alone_layer (out-Raw y) k) o

pub root_is : (ts : List Raw) (x : Raw) (h : RawTrees) → Some x ≡ slice_get ts 0 → raw_trees ts ≡ h → IsOneElement h → raw_before x none ≡ h
root_is [] x h e f o = absurd (cc)
root_is (y ∷ ts) x h e f o =
    let same : x ≡ y = cc in
    ap (λ z. raw_before z none) same ∙ (ap (raw_before y) (sym (alone y (raw_trees ts) (subst IsOneElement (sym f) o))) ∙ f)

pub no_root : (ts : List Raw) (h : RawTrees) → None ≡ slice_get ts 0 → raw_trees ts ≡ h → IsOneElement h → ⊥
no_root [] h e f o = subst IsOneElement (sym f) o
no_root (y ∷ ts) h e f o = cc

pub element_alone : {o : Bool} {total d : ℕ} {outer : List Bound} {bs after : List ℕ} {p : Piece} → ElementAt o total outer d bs p after → IsOneElement (piece_before p none)
element_alone (empty_tag a) = refl
element_alone (with_content a m b e) = refl
