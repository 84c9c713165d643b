-- One tree more without attributes, prefixes in scope and places.
use Rattle.std.proofs.Common.{◌≡◌, ℕ, ◌+◌, ◌<◌, List, [], ◌∷◌, ◌++◌, refl, ap, ◌∙◌, sym, Bor, length, get_or, drop}
use Rattle.tc_base.specs.declared.Place.{Place}
use Rattle.tc_model.specs.Trees as t
use Rattle.tc_model.specs.Trees.{Trees}
use Rattle.tc_model.specs.Views.{name, before, trees, raw_tree, raw_trees}
use Rattle.tc_model.specs.Stripped.{bare, stripped}
use Rattle.tc_model.specs.declared.tree.Name.{Name}
use Rattle.tc_model.specs.declared.tree.Node as n
use Rattle.tc_model.specs.declared.tree.Node.{Node}
use Rattle.tc_model.specs.declared.tree.Raw as r
use Rattle.tc_model.specs.declared.tree.Raw.{Raw}
use Rattle.tc_model.specs.declared.tree.RawElem.{RawElem}
use Rattle.tc_model.proofs.Views.{before_elem, pushed_elem, pushed_text}
use Rattle.tc_model.proofs.ViewsRaw.{left_elem, left_text}
use Rattle.tc_model.proofs.ViewsRaw.{before_elem as raw_before_elem}
use Rattle.tc_model.specs.RawTrees as raws

beside_assoc : (a b c : Trees) → t.beside (t.beside a b) c ≡ t.beside a (t.beside b c)
beside_assoc t.none b c = refl
beside_assoc (t.text s rest) b c = ap (t.text s) (beside_assoc rest b c)
beside_assoc (t.element n kids rest) b c = ap (t.element n kids) (beside_assoc rest b c)

pub text_more : (out new : List Node) (node : Node) (s : Bor (List ℕ)) (ts : List Raw) (i : ℕ) (x : Raw) (p : Place) (all : Trees) → new ≡ out ++ node ∷ [] → node ≡ n.Text s
    → i < length ts → x ≡ get_or ts i x → x ≡ r.Text s p → t.beside (trees out) (bare (raw_trees (drop i ts))) ≡ all → t.beside (trees new) (bare (raw_trees (drop (i + 1) ts))) ≡ all
text_more out new node s ts i x p all e f h at is so_far =
    let rest = bare (raw_trees (drop (i + 1) ts)) in
    ap (λ ns. t.beside (trees ns) rest) (e ∙ ap (λ m. out ++ m ∷ []) f)
    ∙ (ap (λ k. t.beside k rest) (pushed_text out s)
    ∙ (beside_assoc (trees out) (t.text s.now t.none) rest
    ∙ (ap (λ k. t.beside (trees out) (bare k)) (sym (left_text ts i x s p h at is)) ∙ so_far)))

pub element_more : (out new : List Node) (node : Node) (m : Name) (kids : Bor (List Node)) (ts : List Raw) (i : ℕ) (x : Raw) (e : RawElem) (all : Trees) → new ≡ out ++ node ∷ [] → node ≡ n.Elem m kids
    → m ≡ e.name → trees kids.now ≡ bare (raw_trees e.kids.now) → i < length ts → x ≡ get_or ts i x → x ≡ r.Elem e
    → t.beside (trees out) (bare (raw_trees (drop i ts))) ≡ all → t.beside (trees new) (bare (raw_trees (drop (i + 1) ts))) ≡ all
element_more out new node m kids ts i x e all f g same inner h at is so_far =
    let rest = bare (raw_trees (drop (i + 1) ts)) in
    ap (λ ns. t.beside (trees ns) rest) (f ∙ ap (λ k. out ++ k ∷ []) g)
    ∙ (ap (λ k. t.beside k rest) (pushed_elem out m kids)
    ∙ (beside_assoc (trees out) (t.element (name m) (trees kids.now) t.none) rest
    ∙ (ap (λ k. t.beside (trees out) (t.element (name m) k rest)) inner
    ∙ (ap (λ k. t.beside (trees out) (t.element (name k) (bare (raw_trees e.kids.now)) rest)) same
    ∙ (ap (λ k. t.beside (trees out) (bare k)) (sym (left_elem ts i x e h at is)) ∙ so_far)))))

pub all_bare : (out ns : List Node) (ts : List Raw) (i : ℕ) → ns ≡ out → raw_trees (drop i ts) ≡ raw_trees [] → t.beside (trees out) (bare (raw_trees (drop i ts))) ≡ bare (raw_trees ts) → trees ns ≡ bare (raw_trees ts)
all_bare out ns ts i e f so_far = ap trees e ∙ (sym (beside_none (trees out)) ∙ (ap (λ k. t.beside (trees out) (bare k)) (sym f) ∙ so_far))
  where
    beside_none : (h : Trees) → t.beside h t.none ≡ h
    beside_none t.none = refl
    beside_none (t.text s rest) = ap (t.text s) (beside_none rest)
    beside_none (t.element n kids rest) = ap (t.element n kids) (beside_none rest)

-- an element without attributes, prefixes in scope and places, in normal form
pub an_element : (raw : Raw) (e : RawElem) (m : Name) (kids plain : Bor (List Node)) → raw ≡ r.Elem e → m ≡ e.name → trees plain.now ≡ bare (raw_trees e.kids.now)
    → trees kids.now ≡ t.normal_form (trees plain.now) → before (n.Elem m kids) t.none ≡ stripped (raw_tree raw)
an_element raw e m kids plain is same f g =
    before_elem m kids t.none
    ∙ (ap (λ k. t.element (name m) k t.none) (g ∙ ap t.normal_form f)
    ∙ (ap (λ k. t.element (name k) (t.normal_form (bare (raw_trees e.kids.now))) t.none) same
    ∙ (ap stripped (sym (raw_before_elem e raws.none)) ∙ ap (λ x. stripped (raw_tree x)) (sym is))))
