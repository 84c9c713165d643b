-- Trees that are copied, one after the other.
use Rattle.std.proofs.Common.{◌≡◌, ◌≤◌, ◌<◌, ◌+◌, ◌∙◌, sym, ap, ℕ, List, [], ◌∷◌, ◌++◌, length, get_or, take, Bor}
use Rattle.std.proofs.lemmas.List.{take_more, take_all}
use Rattle.tc_model.specs.Names.{ExpandedName}
use Rattle.tc_model.specs.Trees.{Trees, none, element, text, beside}
use Rattle.tc_model.specs.Views.{name, before, trees}
use Rattle.tc_model.specs.declared.tree.Name.{Name}
use Rattle.tc_model.specs.declared.tree.Node.{Node, Elem, Text}
use Rattle.tc_model.proofs.Views.{before_elem, before_text, trees_append}

pub copied_more : (nodes old new : List Node) (k : ℕ) (made node : Node) → k < length nodes → node ≡ get_or nodes k node → new ≡ old ++ made ∷ [] → ((rest : Trees) → before made rest ≡ before node rest)
    → trees old ≡ trees (take k nodes) → trees new ≡ trees (take (k + 1) nodes)
copied_more nodes old new k made node h is put same so_far =
    ap trees put
    ∙ (trees_append old (made ∷ [])
    ∙ (ap (λ z. beside z (before made none)) so_far
    ∙ (ap (λ z. beside (trees (take k nodes)) z) (same none ∙ ap (λ (y : Node). before y none) is)
    ∙ (sym (trees_append (take k nodes) (get_or nodes k node ∷ [])) ∙ ap trees (sym (take_more nodes k node h))))))

pub copied_end : (nodes made : List Node) (k : ℕ) → length nodes ≤ k → trees made ≡ trees (take k nodes) → trees made ≡ trees nodes
copied_end nodes made k h so_far = so_far ∙ ap trees (take_all k nodes h)

pub copied_elem : (node : Node) (n m : Name) (kids made : Bor (List Node)) → node ≡ Elem n kids → name m ≡ name n → trees made.now ≡ trees kids.now → (rest : Trees) → before (Elem m made) rest ≡ before node rest
copied_elem node n m kids made is same below rest =
    before_elem m made rest
    ∙ (ap (λ (z : ExpandedName). element z (trees made.now) rest) same
    ∙ (ap (λ z. element (name n) z rest) below ∙ (sym (before_elem n kids rest) ∙ ap (λ (z : Node). before z rest) (sym is))))

pub copied_text : (node : Node) (s made : Bor (List ℕ)) → node ≡ Text s → made.now ≡ s.now → (rest : Trees) → before (Text made) rest ≡ before node rest
copied_text node s made is same rest = before_text made rest ∙ (ap (λ z. text z rest) same ∙ (sym (before_text s rest) ∙ ap (λ (z : Node). before z rest) (sym is)))
