-- The arrows of an automaton that stands for a schema.
use Rattle.std.proofs.Common.{◌≡◌, ◌≤◌, ◌↔◌, ℕ, zero, suc, List, Vec, Global, slice_get, Some, refl, sym, subst, arith}
use Rattle.std.specs.List.{Contains}
use Rattle.tc_model.specs.Grammars as g
use Rattle.tc_model.specs.States as s
use Rattle.tc_model.specs.States.{Side, IsEdge}
use Rattle.tc_auto.specs.declared.auto.Auto.{Auto}
use Rattle.tc_auto.specs.declared.arrows.Arrow.{Arrow}
use Rattle.tc_auto.specs.Arrows.{leaf_at}
use Rattle.tc_auto.specs.Steps.{leaf}
use Rattle.tc_auto.specs.Stands.{Stands}
use Rattle.tc_auto.proofs.ArrowLists.{arrows_exact}

pub ref_at : (n : ℕ) → 1 ≤ n → leaf (leaf_at n) ≡ s.ref_leaf n
ref_at zero low = absurd (omega arith)
ref_at (suc n) low = refl

pub arrows_told : (side : Side) (x : g.Grammar) (a : Auto) → Stands side x a → (k : ℕ) (v : Vec Arrow Global) → slice_get a.arrows.items k ≡ Some v → (arrows : List Arrow) → arrows ≡ v.items → (l : s.Leaf) → leaf (leaf_at k) ≡ l
    → (e : Arrow) → Contains arrows e ↔ IsEdge x side e.from l e.to
arrows_told side x a st k v at arrows is l same e =
    subst (λ (w : List Arrow). Contains w e ↔ IsEdge x side e.from l e.to) (sym is)
    (subst (λ w. Contains v.items e ↔ IsEdge x side e.from w e.to) same
    (arrows_exact x side a.firsts.items a.rows.items st.built (leaf_at k) v.items (st.arrows k v at) e))
