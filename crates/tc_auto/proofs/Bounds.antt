-- Where the states of a schema end.
use Rattle.std.proofs.Common.{◌<◌, ◌≤◌, inl, inr, ℕ, zero, suc, List, length, get_or, All, arith}
use Rattle.std.proofs.lemmas.Option.{slice_get-get_or, slice_get_cases}
use Rattle.std.proofs.lemmas.List.Elements.{Contains-get_or}
use Rattle.tc_model.specs.Grammars.{Grammar}
use Rattle.tc_model.specs.States.{Side, a_content, first_state, state_count}
use Rattle.tc_model.proofs.StatesExact.{sound}
use Rattle.tc_model.proofs.StatesParts.{next_first, first_within, edge_within}
use Rattle.tc_auto.specs.declared.auto.Edge.{Edge}
use Rattle.tc_auto.specs.declared.rows.Row.{Row}
use Rattle.tc_auto.specs.Steps.{leaf}
use Rattle.tc_auto.specs.Stands.{Built}

module _ (g : Grammar) (side : Side) (firsts : List ℕ) (rows : List Row) (b : Built g side (suc (length g.elements)) firsts rows) where
  -- no edge leads past the states
  pub edges_within : All (λ (row : Row). All (λ (edge : Edge). edge.to < length rows) row.edges.items) rows
  edges_within = λ k d low m e lower.
      let row : Row = get_or rows k d in
      let edge : Edge = get_or row.edges.items m e in
      let has = Contains-get_or row.edges.items m e lower in
      let leads = ((b.row k row (slice_get-get_or rows k d low)).edge edge).0 has in
      omega (arith, (edge_within g side k edge.to (leaf edge.leaf) leads).1, b.counted)

  first_at_most : (k : ℕ) → first_state g side k ≤ state_count g side
  first_at_most zero = omega arith
  first_at_most (suc k) = first_within g side k

  -- no part begins past the states
  pub begun_within : (k : ℕ) → k < length firsts → get_or firsts k 0 ≤ length rows
  begun_within k low = omega (arith, b.first k (omega (arith, b.begun)), b.counted, first_at_most k)

  content_below : (k : ℕ) → 1 ≤ k → k ≤ length g.elements → first_state g side k < state_count g side
  content_below zero some low = absurd (omega arith)
  content_below (suc k) some low = elim (slice_get_cases g.elements k).1 [
    | inl (e, inside, at, is) ↦
        let states = sound e.content in
        omega (arith, states.some, next_first g side {k = suc k} (a_content {k = suc k} {e = e} at), first_within g side (suc k))
    | inr (past, is) ↦ absurd (omega (arith, low, past))
  ]

  -- each content has a state
  pub begun_below : (k : ℕ) → 1 ≤ k → k < length firsts → get_or firsts k 0 < length rows
  begun_below k some low = omega (arith, b.first k (omega (arith, b.begun)), b.counted, content_below k some (omega (arith, b.begun)))
