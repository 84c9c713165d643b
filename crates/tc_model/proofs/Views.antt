-- What a layer of an arena's tree is, seen as plain data.
use Rattle.std.proofs.Common.{◌≡◌, ℕ, ◌+◌, ◌<◌, List, [], ◌∷◌, refl, ap, ◌∙◌, sym, map, Bor, length, get_or, drop, ◌++◌, subst}
use Rattle.std.proofs.lemmas.List.{drop_more}
use Rattle.tc_model.specs.Trees.{Trees, none, text, element, beside}
use Rattle.tc_model.specs.Views.{name, layers, layer, before, trees}
use Rattle.tc_model.specs.declared.tree.Name.{Name}
use Rattle.tc_model.specs.declared.tree.Node.{Node, Node-F, Elem, Text}
use Rattle.tc_model.specs.declared.tree.Node.TheOpen as parts
use Rattle.tc_model.specs.declared.tree.Node.TheVariants.{rolls-Elem, rolls-Text}
use Rattle.tc_model.specs.declared.tree.Node.TheViews.{roll-Node, out-Node, roll-out-Node}
use Rattle.tc_model.specs.declared.tree.Node.TheFolds.{fold-roll-Node}

pub layers_map : (ns : List Node) → layers (map before ns) ≡ trees ns
layers_map [] = refl
layers_map (n ∷ ns) = ap (before n) (layers_map ns)

pub before_elem : (n : Name) (kids : Bor (List Node)) (rest : Trees) → before (Elem n kids) rest ≡ element (name n) (trees kids.now) rest
before_elem n kids rest =
    ap (λ (x : Node). before x rest) (sym (rolls-Elem n kids))
    ∙ (ap (λ (f : Trees → Trees). f rest) (fold-roll-Node (Trees → Trees) layer (parts.Elem n kids))
    ∙ ap (λ k. element (name n) k rest) (layers_map kids.now))

pub before_text : (s : Bor (List ℕ)) (rest : Trees) → before (Text s) rest ≡ text s.now rest
before_text s rest =
    ap (λ (x : Node). before x rest) (sym (rolls-Text s))
    ∙ ap (λ (f : Trees → Trees). f rest) (fold-roll-Node (Trees → Trees) layer (parts.Text s))

-- one step of a loop over a slice: what is left begins with the tree x
pub left_one : (ns : List Node) (i : ℕ) (x : Node) → i < length ns → x ≡ get_or ns i x → trees (drop i ns) ≡ before x (trees (drop (i + 1) ns))
left_one ns i x h e =
    ap trees (drop_more ns i x h) ∙ ap (λ y. before y (trees (drop (i + 1) ns))) (sym e)

pub left_elem : (ns : List Node) (i : ℕ) (x : Node) (n : Name) (kids : Bor (List Node)) → i < length ns → x ≡ get_or ns i x → x ≡ Elem n kids
    → trees (drop i ns) ≡ element (name n) (trees kids.now) (trees (drop (i + 1) ns))
left_elem ns i x n kids h e is =
    left_one ns i x h e ∙ (ap (λ y. before y (trees (drop (i + 1) ns))) is ∙ before_elem n kids _)

pub left_text : (ns : List Node) (i : ℕ) (x : Node) (s : Bor (List ℕ)) → i < length ns → x ≡ get_or ns i x → x ≡ Text s
    → trees (drop i ns) ≡ text s.now (trees (drop (i + 1) ns))
left_text ns i x s h e is =
    left_one ns i x h e ∙ (ap (λ y. before y (trees (drop (i + 1) ns))) is ∙ before_text s _)

-- a tree stands before what stands beside it
before_layer : (f : Node-F Node) (g h : Trees) → beside (before (roll-Node f) g) h ≡ before (roll-Node f) (beside g h)
before_layer (parts.Elem n kids) g h =
    let P : Node → Type 0 = λ y. beside (before y g) h ≡ before y (beside g h) in
    subst P (sym (rolls-Elem n kids)) (ap (λ k. beside k h) (before_elem n kids g) ∙ sym (before_elem n kids (beside g h)))
before_layer (parts.Text s) g h =
    let P : Node → Type 0 = λ y. beside (before y g) h ≡ before y (beside g h) in
    subst P (sym (rolls-Text s)) (ap (λ k. beside k h) (before_text s g) ∙ sym (before_text s (beside g h)))

pub before_beside : (x : Node) (g h : Trees) → beside (before x g) h ≡ before x (beside g h)
before_beside x g h =
    let P : Node → Type 0 = λ y. beside (before y g) h ≡ before y (beside g h) in
    subst P (roll-out-Node x) (before_layer (out-Node x) g h)

pub trees_append : (ns ms : List Node) → trees (ns ++ ms) ≡ beside (trees ns) (trees ms)
trees_append [] ms = refl
trees_append (n ∷ ns) ms = ap (before n) (trees_append ns ms) ∙ sym (before_beside n (trees ns) (trees ms))

-- what a tree at the end of a list adds
pub pushed_elem : (ns : List Node) (n : Name) (kids : Bor (List Node)) → trees (ns ++ Elem n kids ∷ []) ≡ beside (trees ns) (element (name n) (trees kids.now) none)
pushed_elem ns n kids = trees_append ns (Elem n kids ∷ []) ∙ ap (beside (trees ns)) (before_elem n kids none)

pub pushed_text : (ns : List Node) (s : Bor (List ℕ)) → trees (ns ++ Text s ∷ []) ≡ beside (trees ns) (text s.now none)
pushed_text ns s = trees_append ns (Text s ∷ []) ∙ ap (beside (trees ns)) (before_text s none)

pub ruleset pushes = (pushed_elem, pushed_text)

pub ruleset steps = (left_elem, left_text)
