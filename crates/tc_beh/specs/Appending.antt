-- The numbers of what has a tree more behind it: the states to which the tree leads, by flags, and all others.
use Rattle.std.specs.Prelude.{◌≡◌, ◌<◌, ◌≤◌, ◌↔◌, ◌⊎◌, ◌+◌, ◌-◌, ◌==◌, ◌||◌, ℕ, List, length, get_or, Bool, true, false, if◌then◌else◌}
use Rattle.tc_model.specs.States as s
use Rattle.tc_model.specs.Grammars as g
use Rattle.tc_auto.specs.Steps.{leaf}
use Rattle.tc_auto.specs.Stands.{Stands, states}
use Rattle.tc_auto.specs.declared.auto.Auto.{Auto}
use Rattle.tc_auto.specs.declared.auto.Leaf.{Leaf}
use Rattle.tc_auto.specs.declared.auto.Leaf.TheVariants as l
use Rattle.tc_mat.specs.Matrix.{IsComposition}
use Rattle.tc_mat.specs.Held.{Held}
use Rattle.tc_rows.specs.Rows.{or_hit}
use Rattle.tc_beh.specs.Held.{set_at}
use Rattle.tc_beh.specs.Rooms.{flag_at, output_at}

-- a text is taken by text alone, and another tree by an element pattern whose flag is set
abbrev pub IsTaken : Bool → List ℕ → Leaf → Type 0
IsTaken is_text patterns l.Text = is_text ≡ true
IsTaken is_text patterns (l.Ref k) = (is_text ≡ false) × (1 ≤ k) × (get_or patterns (k - 1) 0 ≡ 1)

-- an edge from the state, taken by the tree, leads there
abbrev pub IsStep : s.Side → g.Grammar → ℕ → Bool → List ℕ → ℕ → Type 0
IsStep side x i is_text patterns j = (e : Leaf) × s.IsEdge x side i (leaf e) j × IsTaken is_text patterns e

-- exactly the flags of the states to which the tree leads some state with a flag are set
pub record Puts (a : Auto) (hedge : List ℕ) (is_text : Bool) (patterns new : List ℕ) : Type 0 where
  pub each : (j : ℕ) → j < states a → flag_at new j ≤ 1
  pub exact : (side : s.Side) (x : g.Grammar) → Stands side x a → (j : ℕ) → j < states a
      → (flag_at new j ≡ 1) ↔ ((i : ℕ) × (i < states a) × (get_or hedge i 0 ≡ 1) × IsStep side x i is_text patterns j)

-- the heads, the outputs and the looks of trees with one more behind them. The flags are so many in each of the three
pub record IsBehind (old new : Held) (hedge_flags tree_flags flags entries : ℕ) (hedge tree numbers : List ℕ) : Type 0 where
  pub head : get_or numbers 0 0 ≡ (if get_or tree 0 0 == 1 then 1 else 0)
  pub bears : get_or numbers 1 0 ≡ (if (get_or hedge 1 0 == 1) || (get_or tree 1 0 == 1) then 1 else 0)
  pub outs : (i : ℕ) → i < entries → IsComposition (set_at old (output_at hedge_flags hedge i)) (set_at old (output_at tree_flags tree i)) (set_at new (output_at flags numbers i))
  pub looks : (i : ℕ) → 2 + hedge_flags + entries + i < length hedge
      → get_or numbers (2 + flags + entries + i) 0 ≡ or_hit (get_or hedge (2 + hedge_flags + entries + i) 0) (get_or tree (2 + tree_flags + entries + i) 0)
