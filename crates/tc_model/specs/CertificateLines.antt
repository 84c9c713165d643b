-- Lines of a certificate, without their line feeds: outputs, rows of trees and of lists of trees, whole or as changes of the row before.
use Rattle.std.specs.Prelude.{ℕ, ◌+◌, ◌==◌, ◌&&◌, cond, List, [], ◌∷◌, ◌++◌, length, flat_map, Bool, true, false, codes, decimal}
use Rattle.tc_model.specs.declared.lists.TreeLine.{TreeLine}
use Rattle.tc_model.specs.declared.lists.HedgeLine.{HedgeLine}

-- the digit of a truth value
abbrev pub flag : Bool → ℕ
flag false = 48
flag true = 49

-- what stands in order behind commas, and one dash where nothing does
abbrev pub listed : {X : Type 0} → (X → List ℕ) → List X → List ℕ
listed f [] = codes "-"
listed f (x ∷ xs) = f x ++ flat_map (λ y. codes "," ++ f y) xs

abbrev pub numbers : List ℕ → List ℕ
numbers ns = listed decimal ns

-- two output states, the one that leads and the one that is led to, behind a space
abbrev pub pair : ℕ × ℕ → List ℕ
pair p = codes " " ++ decimal p.0 ++ codes ">" ++ decimal p.1

abbrev pub pairs_line : List (ℕ × ℕ) → List ℕ
pairs_line ps = codes "m" ++ flat_map pair ps

-- the front of a row: the letter of its kind, and two truth values, each behind a space
abbrev pub row_front : ℕ → Bool → Bool → List ℕ
row_front kind one other = kind ∷ 32 ∷ flag one ∷ 32 ∷ flag other ∷ []

-- a field behind a space
abbrev pub field : List ℕ → List ℕ
field bytes = codes " " ++ bytes

-- a row, whose outputs and looks are written already
abbrev pub row : ℕ → Bool → Bool → List ℕ → List ℕ → List ℕ → List ℕ
row kind one other members outs looks = row_front kind one other ++ field (numbers members) ++ field outs ++ field looks

abbrev pub tree_line : TreeLine → List ℕ
tree_line t = row 116 t.text t.bears t.patterns (numbers t.outs) (numbers t.looks)

abbrev pub hedge_line : HedgeLine → List ℕ
hedge_line h = row 104 h.ends h.bears h.states (numbers h.outs) (numbers h.looks)

-- a place with what stands there, where that is another number than before
abbrev pub change_at : ℕ → ℕ → ℕ → List (ℕ × ℕ)
change_at place m n = cond (m == n) [] ((place, n) ∷ [])

-- the places, counted from the first, at which a list differs from one of the same length, each with what stands there
abbrev pub changes : ℕ → List ℕ → List ℕ → List (ℕ × ℕ)
changes place [] ns = []
changes place (m ∷ ms) [] = []
changes place (m ∷ ms) (n ∷ ns) = change_at place m n ++ changes (place + 1) ms ns

abbrev pub change : ℕ × ℕ → List ℕ
change c = decimal c.0 ++ codes ":" ++ decimal c.1

abbrev pub changed : List ℕ → List ℕ → List ℕ
changed old new = listed change (changes 0 old new)

-- whether two rows have as many outputs and as many looks
abbrev pub are_alike : List ℕ → List ℕ → List ℕ → List ℕ → Bool
are_alike outs looks other_outs other_looks = (length outs == length other_outs) && (length looks == length other_looks)

-- a row by its changes of another
abbrev pub tree_changes : TreeLine → TreeLine → List ℕ
tree_changes b t = row 84 t.text t.bears t.patterns (changed b.outs t.outs) (changed b.looks t.looks)

abbrev pub hedge_changes : HedgeLine → HedgeLine → List ℕ
hedge_changes b h = row 72 h.ends h.bears h.states (changed b.outs h.outs) (changed b.looks h.looks)

-- a row behind another: by its changes where both have as many outputs and looks
abbrev pub tree_behind : TreeLine → TreeLine → List ℕ
tree_behind b t = cond (are_alike b.outs b.looks t.outs t.looks) (tree_changes b t) (tree_line t)

abbrev pub hedge_behind : HedgeLine → HedgeLine → List ℕ
hedge_behind b h = cond (are_alike b.outs b.looks h.outs h.looks) (hedge_changes b h) (hedge_line h)
