-- Trees that are put together from the back.
use Rattle.std.proofs.Common.{◌≡◌, ℕ, ◌+◌, ◌<◌, ◌≤◌, List, [], ◌∷◌, ◌++◌, ap, ◌∙◌, sym, subst, arith, rules, slice_get, reverse, Some}
use Rattle.std.proofs.lemmas.List.{reverse-append}
use Rattle.tc_model.specs.Trees.{Trees, none, beside, node_count}
use Rattle.tc_model.specs.Chains.{Tree}
use Rattle.tc_model.specs.TreesApart.{alone, followed_by}
use Rattle.tc_model.specs.Symbols.{Mention}
use Rattle.tc_model.specs.Views.{before, trees}
use Rattle.tc_model.specs.declared.tree.Node.{Node}
use Rattle.tc_model.proofs.Views.{before_beside}
use Rattle.tc_model.proofs.TreesApart.{before_rest, nodes_beside}
use Rattle.tc_settle.specs.declared.closed.Closed.{Closed}
use Rattle.tc_settle.specs.declared.closed.MadeHedge.{MadeHedge}
use Rattle.tc_settle.specs.declared.closed.MadeTree.{MadeTree}
use Rattle.tc_settle.specs.Held.{Held, IsAppendAt}
use Rattle.tc_settle.specs.Closed.{tree_cost, IsCapped, IsKept, IsHedgeMade, IsTreeMade}
use Rattle.tc_settle.proofs.Derived.{some_node}
use Rattle.tc_settle.specs.Made.{IsMadeHedge, IsMadeTree, made_append}

some_same : {A : Type 0} (x y : A) → Some x ≡ Some y → x ≡ y
some_same x y e = search (rules, e)

-- what a row is made of
pub hedge_part : (s : Held) (c : Closed) (u : ℕ) (m : MadeHedge) → IsKept s c → u < s.hedges → slice_get c.hedges.items u ≡ Some m → IsHedgeMade s c u m
hedge_part s c u m kept low e = let (k, f, is) = kept.hedges_made u low in subst (IsHedgeMade s c u) (some_same k m (sym f ∙ e)) is

pub tree_part : (s : Held) (c : Closed) (u : ℕ) (m : MadeTree) → IsKept s c → u < s.trees → slice_get c.trees.items u ≡ Some m → IsTreeMade s c u m
tree_part s c u m kept low e = let (k, f, is) = kept.trees_made u low in subst (IsTreeMade s c u) (some_same k m (sym f ∙ e)) is

-- one more tree before those that are there from the back
from_back_more : (ks : List Node) (kid : Node) → trees (reverse (ks ++ kid ∷ [])) ≡ beside (before kid none) (trees (reverse ks))
from_back_more ks kid = ap trees (reverse-append ks (kid ∷ [])) ∙ sym (before_beside kid none (trees (reverse ks)))

pub made_more : (s : Held) (symbols : List Mention) (ks : List Node) (kid : Node) (t : Tree) (hedge rest front tree : ℕ) → before kid none ≡ alone t → IsMadeTree s symbols t tree → IsAppendAt s front tree rest
    → ((f : Trees) → IsMadeHedge s symbols f rest → IsMadeHedge s symbols (beside f (trees (reverse ks))) hedge)
    → (f : Trees) → IsMadeHedge s symbols f front → IsMadeHedge s symbols (beside f (trees (reverse (ks ++ kid ∷ [])))) hedge
made_more s symbols ks kid t hedge rest front tree e is at made f there =
    let more : IsMadeHedge s symbols (beside (followed_by f t) (trees (reverse ks))) hedge = made (followed_by f t) (made_append there is at) in
    let same : beside (followed_by f t) (trees (reverse ks)) ≡ beside f (trees (reverse (ks ++ kid ∷ []))) =
    before_rest t f (trees (reverse ks)) ∙ ap (beside f) (ap (λ w. beside w (trees (reverse ks))) (sym e) ∙ sym (from_back_more ks kid)) in
    subst (λ w. IsMadeHedge s symbols w hedge) same more

pub count_more : (ks : List Node) (kid : Node) → node_count (trees (reverse (ks ++ kid ∷ []))) ≡ node_count (before kid none) + node_count (trees (reverse ks))
count_more ks kid = ap node_count (from_back_more ks kid) ∙ nodes_beside (before kid none) (trees (reverse ks))

-- a tree costs something, and what makes up a list of trees makes up its cost
pub tree_costs_some : (s : Held) (c : Closed) (t : ℕ) → IsKept s c → t < s.trees → 1 ≤ tree_cost c t
tree_costs_some s c t kept low = let (n, d, e) = kept.trees_derive t low in at_least n (tree_cost c t) (some_node d) e
  where
    at_least : (n k : ℕ) → 1 ≤ n → IsCapped n k → 1 ≤ k
    at_least n k some e = grind arith
