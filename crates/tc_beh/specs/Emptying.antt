-- The numbers of what holds no tree.
use Rattle.std.specs.Prelude.{◌≡◌, ◌<◌, ◌≤◌, ◌↔◌, ◌+◌, ℕ, List, get_or}
use Rattle.tc_model.specs.States as s
use Rattle.tc_model.specs.Grammars as g
use Rattle.tc_auto.specs.Stands.{Stands, states, patterns}
use Rattle.tc_auto.specs.declared.auto.Auto.{Auto}
use Rattle.tc_mat.specs.Matrix.{Matrix, IsMatrix, IsIdentity}
use Rattle.tc_mat.specs.Held.{Held, IsHeld}
use Rattle.tc_beh.specs.Held.{set_at}
use Rattle.tc_beh.specs.Rooms.{flag_at, output_at}

-- exactly the flags of the first states of so many contents are set
pub record PutsFirst (a : Auto) (count : ℕ) (numbers : List ℕ) : Type 0 where
  pub each : (j : ℕ) → j < states a → flag_at numbers j ≤ 1
  pub exact : (side : s.Side) (x : g.Grammar) → Stands side x a → (j : ℕ) → j < states a
      → (flag_at numbers j ≡ 1) ↔ ((k : ℕ) × (1 ≤ k) × (k ≤ count) × (j ≡ s.first_state x side k))

-- no text, nothing found, each state led to itself
pub record IsOfNoTree (held : Held) (a : Auto) (flags entries : ℕ) (numbers : List ℕ) : Type 0 where
  pub head : get_or numbers 0 0 ≡ 0
  pub bears : get_or numbers 1 0 ≡ 0
  pub states : PutsFirst a (patterns a) numbers
  pub outs : (i : ℕ) → i < entries → IsIdentity (set_at held (output_at flags numbers i))
  pub looks : (k : ℕ) → 2 + flags + entries ≤ k → get_or numbers k 0 ≡ 0

-- a set of the size that isn't held, and leads each number to itself
abbrev pub IsNewIdentity : Held → Type 0
IsNewIdentity h = (m : Matrix) × (m.size ≡ h.size) × IsMatrix m × IsIdentity m × ¬ IsHeld h m
