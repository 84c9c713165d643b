-- What a layer of lettered trees is, seen as plain data.
use Rattle.std.proofs.Common.{◌≡◌, ℕ, ◌+◌, ◌<◌, List, [], ◌∷◌, refl, ap, ◌∙◌, sym, map, Bor, length, get_or, drop, subst}
use Rattle.std.proofs.lemmas.List.{drop_more}
use Rattle.tc_model.specs.Views.{name}
use Rattle.tc_model.specs.declared.tree.Name.{Name}
use Rattle.tc_rules.specs.declared.rules.Marks.{Marks}
use Rattle.tc_run.specs.Lettered as l
use Rattle.tc_run.specs.Views.{layers, layer, before, trees}
use Rattle.tc_run.specs.declared.letters.Letter.{Letter}
use Rattle.tc_run.specs.declared.letters.Lettered.{Lettered, Lettered-F, Elem, Text}
use Rattle.tc_run.specs.declared.letters.Lettered.TheOpen as parts
use Rattle.tc_run.specs.declared.letters.Lettered.TheVariants.{rolls-Elem, rolls-Text}
use Rattle.tc_run.specs.declared.letters.Lettered.TheViews.{roll-Lettered, out-Lettered, roll-out-Lettered}
use Rattle.tc_run.specs.declared.letters.Lettered.TheFolds.{fold-roll-Lettered}

pub layers_map : (ns : List Lettered) → layers (map before ns) ≡ trees ns
layers_map [] = refl
layers_map (n ∷ ns) = ap (before n) (layers_map ns)

pub before_elem : (n : Bor Name) (x : Letter) (kids : Bor (List Lettered)) (rest : l.Lettered)
    → before (Elem n x kids) rest ≡ l.element (name n.now) x.sym.0 x.marks.0 x.number (trees kids.now) rest
before_elem n x kids rest =
    ap (λ (y : Lettered). before y rest) (sym (rolls-Elem n x kids))
    ∙ (ap (λ (f : l.Lettered → l.Lettered). f rest) (fold-roll-Lettered (l.Lettered → l.Lettered) layer (parts.Elem n x kids))
    ∙ ap (λ k. l.element (name n.now) x.sym.0 x.marks.0 x.number k rest) (layers_map kids.now))

pub before_text : (s : Bor (List ℕ)) (m : Marks) (rest : l.Lettered) → before (Text s m) rest ≡ l.text s.now m.0 rest
before_text s m rest =
    ap (λ (y : Lettered). before y rest) (sym (rolls-Text s m))
    ∙ ap (λ (f : l.Lettered → l.Lettered). f rest) (fold-roll-Lettered (l.Lettered → l.Lettered) layer (parts.Text s m))

-- one step of a loop over a slice: what is left begins with the tree x
pub left_one : (ns : List Lettered) (i : ℕ) (x : Lettered) → i < length ns → x ≡ get_or ns i x → trees (drop i ns) ≡ before x (trees (drop (i + 1) ns))
left_one ns i x h e = ap trees (drop_more ns i x h) ∙ ap (λ y. before y (trees (drop (i + 1) ns))) (sym e)

-- the trees of the first, and then those of the second
abbrev pub joined : l.Lettered → l.Lettered → l.Lettered
joined l.none k = k
joined (l.text s m rest) k = l.text s m (joined rest k)
joined (l.element n y m o kids rest) k = l.element n y m o kids (joined rest k)

-- a tree stands before what stands beside it
before_layer : (f : Lettered-F Lettered) (g h : l.Lettered) → joined (before (roll-Lettered f) g) h ≡ before (roll-Lettered f) (joined g h)
before_layer (parts.Elem n x kids) g h =
    let P : Lettered → Type 0 = λ y. joined (before y g) h ≡ before y (joined g h) in
    subst P (sym (rolls-Elem n x kids)) (ap (λ k. joined k h) (before_elem n x kids g) ∙ sym (before_elem n x kids (joined g h)))
before_layer (parts.Text s m) g h =
    let P : Lettered → Type 0 = λ y. joined (before y g) h ≡ before y (joined g h) in
    subst P (sym (rolls-Text s m)) (ap (λ k. joined k h) (before_text s m g) ∙ sym (before_text s m (joined g h)))

pub before_joined : (x : Lettered) (g h : l.Lettered) → joined (before x g) h ≡ before x (joined g h)
before_joined x g h =
    let P : Lettered → Type 0 = λ y. joined (before y g) h ≡ before y (joined g h) in
    subst P (roll-out-Lettered x) (before_layer (out-Lettered x) g h)
