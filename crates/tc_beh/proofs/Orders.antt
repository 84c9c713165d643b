-- The named bodies and those that they call, as numbers that lead to numbers.
use Rattle.std.proofs.Common.{◌≡◌, ◌<◌, ◌≤◌, ◌⊎◌, inl, inr, ℕ, List, [], length, map, get_or, Bor, subst, ap, arith, All, Contains}
use Rattle.std.proofs.lemmas.List.{length-map, get_or-map, get_or_past, get_or_default}
use Rattle.std.proofs.lemmas.List.Elements.{All-contains}
use Rattle.std.proofs.lemmas.Bool.{cases_lt}
use Rattle.tc_model.specs.Views as see
use Rattle.tc_model.specs.declared.sheet.Instr.{Instr}
use Rattle.tc_graph.specs.Graph.{Edge, IsGraph}
use Rattle.tc_graph.specs.Walks.{AreComponents, state_at}
use Rattle.tc_graph.specs.declared.cycles.State.{State}
use Rattle.tc_graph.specs.declared.cycles.State.TheVariants.{New, Done}
use Rattle.tc_beh.specs.Callees.{callees_in}

abbrev calls_of : Bor (List Instr) → List ℕ
calls_of b = callees_in (see.body b.now)

abbrev no_body : Bor (List Instr)
no_body = record { ref_ptr = (0, 0); now = [] }

none_in : (xs : List ℕ) (j : ℕ) → xs ≡ [] → Contains xs j → ⊥
none_in xs j e (k, low, is) = absurd (omega (arith, low, ap length e))

pub calls_are_graph : (named : List (Bor (List Instr))) → All (λ (b : Bor (List Instr)). All (λ n. n < length named) (callees_in (see.body b.now))) named → IsGraph (map (λ b. callees_in (see.body b.now)) named)
calls_are_graph named h = λ k j c. by k j c (cases_lt k (length named))
  where
    by : (k j : ℕ) → Edge (map calls_of named) k j → (k < length named) ⊎ (length named ≤ k) → j < length (map calls_of named)
    by k j c (inl low) =
        let is : get_or (map calls_of named) k [] ≡ calls_of (get_or named k no_body) = get_or-map calls_of named k no_body [] low in
        let here : Contains (calls_of (get_or named k no_body)) j = subst (λ xs. Contains xs j) is c in
        let within : j < length named = All-contains (λ n. n < length named) (calls_of (get_or named k no_body)) j (h k no_body low) here in
        omega (arith, within, length-map named calls_of)
    by k j c (inr past) = absurd (none_in (get_or (map calls_of named) k []) j (get_or_past (map calls_of named) k [] (omega (arith, past, length-map named calls_of))) c)

module _ (rows : List (List ℕ)) (states : List State) (order : List ℕ) (are : AreComponents rows states order) where
  -- the order has numbers of rows alone
  pub order_low : (k d : ℕ) → k < length order → get_or order k d < length rows
  order_low k d low = by (cases_lt (get_or order k 0) (length states))
    where
      same : get_or order k d ≡ get_or order k 0
      same = get_or_default order k d 0 low

      by : (get_or order k 0 < length states) ⊎ (length states ≤ get_or order k 0) → get_or order k d < length rows
      by (inl h) = omega (arith, h, same, are.size)
      by (inr h) =
          let new : state_at states (get_or order k 0) ≡ New = get_or_past states (get_or order k 0) New h in
          let done : state_at states (get_or order k 0) ≡ Done k = are.ordered k low in
          absurd (cc)
