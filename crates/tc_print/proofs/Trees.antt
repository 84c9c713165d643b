-- The pieces of printed trees: one tree before others, and the parts of an element.
use Rattle.std.proofs.Common.{◌≡◌, ◌<◌, ◌+◌, ℕ, List, [], ◌∷◌, ◌++◌, length, get_or, drop, append_assoc, append-nil, codes, refl, sym, ap, ◌∙◌, subst, arith, Bor, Bool, true, false, if◌then◌else◌}
use Rattle.std.specs.List.{flat_map}
use Rattle.tc_model.specs.Names.{ExpandedName}
use Rattle.tc_model.specs.Trees.{Trees, none, text, element, beside}
use Rattle.tc_model.specs.Views.{name, trees, before}
use Rattle.tc_model.specs.Printed.{escaped_in_text, tag_name, default_within, is_none, printed_in}
use Rattle.tc_model.specs.declared.tree.Node.{Node, Node-F, Elem, Text}
use Rattle.tc_model.specs.declared.tree.Node.TheOpen as parts
use Rattle.tc_model.specs.declared.tree.Node.TheVariants.{rolls-Elem, rolls-Text}
use Rattle.tc_model.specs.declared.tree.Node.TheViews.{roll-Node, out-Node, roll-out-Node}
use Rattle.tc_model.specs.declared.tree.Name.{Name}
use Rattle.tc_model.proofs.Views.{left_one, before_beside, before_elem, before_text}
use Rattle.tc_print.specs.Pieces.{begun_tag, end_tag}

-- what stands in an element behind its begun tag
abbrev pub content : List ℕ → ExpandedName → Trees → List ℕ
content d n kids = if is_none kids then codes "/>" else codes ">" ++ printed_in (default_within d n) kids ++ codes "</" ++ tag_name n ++ codes ">"

pub printed_beside : (d : List ℕ) (h k : Trees) → printed_in d (beside h k) ≡ printed_in d h ++ printed_in d k
printed_beside d none k = refl
printed_beside d (text s rest) k =
    ap (λ x. flat_map escaped_in_text s ++ x) (printed_beside d rest k)
    ∙ sym (append_assoc (flat_map escaped_in_text s) (printed_in d rest) (printed_in d k))
printed_beside d (element n kids rest) k =
    ap (λ x. begun_tag d n ++ content d n kids ++ x) (printed_beside d rest k)
    ∙ sym (append_assoc (begun_tag d n ++ content d n kids) (printed_in d rest) (printed_in d k))

-- what is left begins with the next tree
pub printed_left : (d : List ℕ) (ns : List Node) (i : ℕ) (x : Node) → i < length ns → x ≡ get_or ns i x
    → printed_in d (trees (drop i ns)) ≡ printed_in d (before x none) ++ printed_in d (trees (drop (i + 1) ns))
printed_left d ns i x h e =
    ap (printed_in d) (left_one ns i x h e ∙ sym (before_beside x none (trees (drop (i + 1) ns))))
    ∙ printed_beside d (before x none) (trees (drop (i + 1) ns))

pub text_alone : (d : List ℕ) (x : Node) (s : Bor (List ℕ)) → x ≡ Text s → flat_map escaped_in_text s.now ≡ printed_in d (before x none)
text_alone d x s e = sym (ap (λ y. printed_in d (before y none)) e ∙ (ap (printed_in d) (before_text s none) ∙ append-nil _))

pub element_alone : (d : List ℕ) (x : Node) (n : Name) (kids : Bor (List Node)) → x ≡ Elem n kids → begun_tag d (name n) ++ content d (name n) (trees kids.now) ≡ printed_in d (before x none)
element_alone d x n kids e = sym (ap (λ y. printed_in d (before y none)) e ∙ (ap (printed_in d) (before_elem n kids none) ∙ append-nil _))

-- trees that are some
some_layer : (f : Node-F Node) (rest : Trees) → is_none (before (roll-Node f) rest) ≡ false
some_layer (parts.Elem n kids) rest =
    let P : Node → Type 0 = λ y. is_none (before y rest) ≡ false in
    subst P (sym (rolls-Elem n kids)) (ap is_none (before_elem n kids rest))
some_layer (parts.Text s) rest =
    let P : Node → Type 0 = λ y. is_none (before y rest) ≡ false in
    subst P (sym (rolls-Text s)) (ap is_none (before_text s rest))

some_trees : (ns : List Node) → 0 < length ns → is_none (trees ns) ≡ false
some_trees [] some = absurd (omega (arith, some))
some_trees (n ∷ ns) some =
    let P : Node → Type 0 = λ y. is_none (before y (trees ns)) ≡ false in
    subst P (roll-out-Node n) (some_layer (out-Node n) (trees ns))

no_trees : (ns : List Node) → length ns ≡ 0 → is_none (trees ns) ≡ true
no_trees [] empty = refl
no_trees (n ∷ ns) empty = absurd (omega (arith, empty))

-- an element without children
pub empty_alone : (d : List ℕ) (x : Node) (n : Name) (kids : Bor (List Node)) → x ≡ Elem n kids → length kids.now ≡ 0
    → begun_tag d (name n) ++ codes "/>" ≡ printed_in d (before x none)
empty_alone d x n kids e empty =
    let inside = codes ">" ++ printed_in (default_within d (name n)) (trees kids.now) ++ codes "</" ++ tag_name (name n) ++ codes ">" in
    ap (λ (b : Bool). begun_tag d (name n) ++ (if b then codes "/>" else inside)) (sym (no_trees kids.now empty))
    ∙ element_alone d x n kids e

-- an element with children
pub full_alone : (d : List ℕ) (x : Node) (n : Name) (kids : Bor (List Node)) → x ≡ Elem n kids → 0 < length kids.now
    → begun_tag d (name n) ++ (codes ">" ++ printed_in (default_within d (name n)) (trees kids.now) ++ end_tag (name n)) ≡ printed_in d (before x none)
full_alone d x n kids e some =
    let tag = tag_name (name n) in
    let begun = codes ">" ++ printed_in (default_within d (name n)) (trees kids.now) in
    let inside = begun ++ codes "</" ++ tag ++ codes ">" in
    ap (λ x. begun_tag d (name n) ++ x) (sym (append_assoc (begun ++ codes "</") tag (codes ">") ∙ append_assoc begun (codes "</") (tag ++ codes ">")))
    ∙ (ap (λ (b : Bool). begun_tag d (name n) ++ (if b then codes "/>" else inside)) (sym (some_trees kids.now some))
    ∙ element_alone d x n kids e)
