-- What a layer of a tree as it was read is, seen as plain data.
use Rattle.std.proofs.Common.{◌≡◌, ℕ, ◌+◌, ◌<◌, List, [], ◌∷◌, ◌++◌, refl, ap, ◌∙◌, sym, map, Bor, length, get_or, drop, subst}
use Rattle.std.proofs.lemmas.List.{drop_more}
use Rattle.tc_base.specs.declared.Place.{Place}
use Rattle.tc_model.specs.RawTrees.{RawTrees, none, text, element, beside}
use Rattle.tc_model.specs.Views.{name, place, attribute, bound, raw_layers, raw_layer, raw_element_layer, raw_before, raw_trees, raw_element}
use Rattle.tc_model.specs.declared.tree.Name.{Name}
use Rattle.tc_model.specs.declared.tree.Binding.{Binding}
use Rattle.tc_model.specs.declared.tree.RawAttr.{RawAttr}
use Rattle.tc_model.specs.declared.tree.Raw.{Raw, Raw-F, Elem, Text}
use Rattle.tc_model.specs.declared.tree.RawElem.{RawElem, roll-RawElem}
use Rattle.tc_model.specs.declared.tree.Raw.TheOpen as parts
use Rattle.tc_model.specs.declared.tree.Raw.TheVariants.{rolls-Elem, rolls-Text}
use Rattle.tc_model.specs.declared.tree.Raw.TheViews.{roll-Raw, out-Raw, roll-out-Raw}
use Rattle.tc_model.specs.declared.tree.Raw.TheFolds.{fold-RawElem, fold-roll-Raw, fold_out-RawElem}

pub layers_map : (ts : List Raw) → raw_layers (map raw_before ts) ≡ raw_trees ts
layers_map [] = refl
layers_map (t ∷ ts) = ap (raw_before t) (layers_map ts)

element_is : (e : RawElem) (rest : RawTrees) → fold-RawElem (RawTrees → RawTrees) (RawTrees → RawTrees) raw_layer raw_element_layer e rest ≡ raw_element e rest
element_is e rest =
    ap (λ (f : RawTrees → RawTrees). f rest) (fold_out-RawElem (RawTrees → RawTrees) (RawTrees → RawTrees) raw_layer raw_element_layer e)
    ∙ ap (λ k. element (name e.name) (map attribute e.attrs.now) (map bound e.scope.now) (place e.place) k rest) (layers_map e.kids.now)

pub before_elem : (e : RawElem) (rest : RawTrees) → raw_before (Elem e) rest ≡ raw_element e rest
before_elem e rest =
    ap (λ (x : Raw). raw_before x rest) (sym (rolls-Elem e))
    ∙ (ap (λ (f : RawTrees → RawTrees). f rest) (fold-roll-Raw (RawTrees → RawTrees) (RawTrees → RawTrees) raw_layer raw_element_layer (parts.Elem e))
    ∙ element_is e rest)

pub before_text : (s : Bor (List ℕ)) (p : Place) (rest : RawTrees) → raw_before (Text s p) rest ≡ text s.now (place p) rest
before_text s p rest =
    ap (λ (x : Raw). raw_before x rest) (sym (rolls-Text s p))
    ∙ ap (λ (f : RawTrees → RawTrees). f rest) (fold-roll-Raw (RawTrees → RawTrees) (RawTrees → RawTrees) raw_layer raw_element_layer (parts.Text s p))

-- an element that is made of its parts
pub made_elem : (n : Name) (attributes : Bor (List RawAttr)) (scope : Bor (List Binding)) (p : Place) (kids : Bor (List Raw)) (rest : RawTrees)
    → raw_before (Elem (roll-RawElem (record { name = n; attrs = attributes; scope = scope; place = p; kids = kids }))) rest
    ≡ element (name n) (map attribute attributes.now) (map bound scope.now) (place p) (raw_trees kids.now) rest
made_elem n attributes scope p kids rest = before_elem (roll-RawElem (record { name = n; attrs = attributes; scope = scope; place = p; kids = kids })) rest

pub ruleset see = (before_elem, before_text, made_elem)

-- one step of a loop over a slice: what is left begins with the tree x
pub left_one : (ts : List Raw) (i : ℕ) (x : Raw) → i < length ts → x ≡ get_or ts i x → raw_trees (drop i ts) ≡ raw_before x (raw_trees (drop (i + 1) ts))
left_one ts i x h e = ap raw_trees (drop_more ts i x h) ∙ ap (λ y. raw_before y (raw_trees (drop (i + 1) ts))) (sym e)

pub left_elem : (ts : List Raw) (i : ℕ) (x : Raw) (e : RawElem) → i < length ts → x ≡ get_or ts i x → x ≡ Elem e
    → raw_trees (drop i ts) ≡ raw_element e (raw_trees (drop (i + 1) ts))
left_elem ts i x e h at is = left_one ts i x h at ∙ (ap (λ y. raw_before y (raw_trees (drop (i + 1) ts))) is ∙ before_elem e _)

pub left_text : (ts : List Raw) (i : ℕ) (x : Raw) (s : Bor (List ℕ)) (p : Place) → i < length ts → x ≡ get_or ts i x → x ≡ Text s p
    → raw_trees (drop i ts) ≡ text s.now (place p) (raw_trees (drop (i + 1) ts))
left_text ts i x s p h at is = left_one ts i x h at ∙ (ap (λ y. raw_before y (raw_trees (drop (i + 1) ts))) is ∙ before_text s p _)

-- a tree stands before what stands beside it
before_layer : (f : Raw-F Raw RawElem) (g h : RawTrees) → beside (raw_before (roll-Raw f) g) h ≡ raw_before (roll-Raw f) (beside g h)
before_layer (parts.Elem e) g h =
    let P : Raw → Type 0 = λ y. beside (raw_before y g) h ≡ raw_before y (beside g h) in
    subst P (sym (rolls-Elem e)) (ap (λ k. beside k h) (before_elem e g) ∙ sym (before_elem e (beside g h)))
before_layer (parts.Text s p) g h =
    let P : Raw → Type 0 = λ y. beside (raw_before y g) h ≡ raw_before y (beside g h) in
    subst P (sym (rolls-Text s p)) (ap (λ k. beside k h) (before_text s p g) ∙ sym (before_text s p (beside g h)))

pub before_beside : (x : Raw) (g h : RawTrees) → beside (raw_before x g) h ≡ raw_before x (beside g h)
before_beside x g h =
    let P : Raw → Type 0 = λ y. beside (raw_before y g) h ≡ raw_before y (beside g h) in
    subst P (roll-out-Raw x) (before_layer (out-Raw x) g h)

pub raw_trees_append : (ts us : List Raw) → raw_trees (ts ++ us) ≡ beside (raw_trees ts) (raw_trees us)
raw_trees_append [] us = refl
raw_trees_append (t ∷ ts) us = ap (raw_before t) (raw_trees_append ts us) ∙ sym (before_beside t (raw_trees ts) (raw_trees us))

-- what a tree at the end of a list adds
pub pushed_elem : (ts : List Raw) (e : RawElem) → raw_trees (ts ++ Elem e ∷ []) ≡ beside (raw_trees ts) (raw_element e none)
pushed_elem ts e = raw_trees_append ts (Elem e ∷ []) ∙ ap (beside (raw_trees ts)) (before_elem e none)

pub pushed_text : (ts : List Raw) (s : Bor (List ℕ)) (p : Place) → raw_trees (ts ++ Text s p ∷ []) ≡ beside (raw_trees ts) (text s.now (place p) none)
pushed_text ts s p = raw_trees_append ts (Text s p ∷ []) ∙ ap (beside (raw_trees ts)) (before_text s p none)

pub beside_none : (h : RawTrees) → beside h none ≡ h
beside_none none = refl
beside_none (text s p rest) = ap (text s p) (beside_none rest)
beside_none (element n attributes scope p kids rest) = ap (element n attributes scope p kids) (beside_none rest)

pub beside_assoc : (a b c : RawTrees) → beside (beside a b) c ≡ beside a (beside b c)
beside_assoc none b c = refl
beside_assoc (text s p rest) b c = ap (text s p) (beside_assoc rest b c)
beside_assoc (element n attributes scope p kids rest) b c = ap (element n attributes scope p kids) (beside_assoc rest b c)

pub ruleset steps = (left_elem, left_text)

pub ruleset pushes = (pushed_elem, pushed_text)
