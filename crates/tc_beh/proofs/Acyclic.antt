-- Where each chain of calls ends, the components of the named bodies are single bodies.
use Rattle.std.proofs.Common.{◌≡◌, ◌<◌, ◌≤◌, ◌⊎◌, inl, inr, ℕ, zero, suc, ◌+◌, List, [], length, map, get_or, Some, slice_get, subst, sym, ap, ◌∙◌, arith, Contains, All}
use Rattle.std.proofs.lemmas.Bool.{cases_order, cases_lt}
use Rattle.std.proofs.lemmas.List.{length-map, get_or-map, get_or_past}
use Rattle.std.proofs.lemmas.Option.{slice_get-get_or, slice_get_within, same_Some}
use Rattle.std.proofs.lemmas.List.Elements.{All-get_or}
use Rattle.tc_model.specs.Sheets.{Body, no_instruction, Branches, CallFreeBody, p_done, p_text, p_element, p_copy, p_apply, p_call, p_value, p_self, p_choose, p_each, CallFreeBranches, p_otherwise, p_branch, Inlines, u_done, u_text, u_element, u_copy, u_apply, u_call, u_value, u_self, u_choose, u_each, BranchesInline, u_otherwise, u_branch}
use Rattle.tc_alpha.proofs.Members.{Has, has_from_contains, has_either}
use Rattle.tc_graph.specs.Graph.{Edge, Path, edge, further}
use Rattle.tc_graph.specs.Walks.{AreComponents, state_at}
use Rattle.tc_graph.specs.declared.cycles.State.{State}
use Rattle.tc_graph.specs.declared.cycles.State.TheVariants.{New, Done}
use Rattle.tc_beh.specs.Callees.{callees_in, callees_in_branches, AreCalleesFirst}

-- how much a body with calls in place is
abbrev mutual
  weight : CallFreeBody → ℕ
  weight p_done = 0
  weight (p_text s b) = weight b
  weight (p_element n inner b) = weight inner + weight b
  weight (p_copy inner b) = weight inner + weight b
  weight (p_apply p m b) = weight b
  weight (p_call inner b) = weight inner + weight b + 1
  weight (p_value p b) = weight b
  weight (p_self b) = weight b
  weight (p_choose y b) = weight_of_branches y + weight b
  weight (p_each e p inner b) = weight inner + weight b

  weight_of_branches : CallFreeBranches → ℕ
  weight_of_branches (p_otherwise b) = weight b
  weight_of_branches (p_branch t b y) = weight b + weight_of_branches y

module _ (named : List Body) where
  -- a called body that is less than what calls it
  abbrev Lesser : ℕ → ℕ → Type 0
  Lesser n w = (b : Body) × (p : CallFreeBody) × (slice_get named n ≡ Some b) × Inlines named b p × (weight p < w)

  more : (n v w : ℕ) → v ≤ w → Lesser n v → Lesser n w
  more n v w l (b, p, at, u, less) = (b, p, at, u, omega (arith, l, less))

  mutual
    callee_less : {b : Body} {p : CallFreeBody} → Inlines named b p → (n : ℕ) → Has (callees_in b) n → Lesser n (weight p)
    callee_less u_done n h = absurd h
    callee_less (u_text u) n h = callee_less u n h
    callee_less (u_element {i} {b} {o} {p} v u) n h =
        elim (has_either (callees_in i) (callees_in b) n h) [ inl k ↦ more n (weight o) (weight o + weight p) (omega arith) (callee_less v n k) | inr k ↦ more n (weight p) (weight o + weight p) (omega arith) (callee_less u n k) ]
    callee_less (u_copy {i} {b} {o} {p} v u) n h =
        elim (has_either (callees_in i) (callees_in b) n h) [ inl k ↦ more n (weight o) (weight o + weight p) (omega arith) (callee_less v n k) | inr k ↦ more n (weight p) (weight o + weight p) (omega arith) (callee_less u n k) ]
    callee_less (u_apply u) n h = callee_less u n h
    callee_less (u_call {n = m} {i} {b} {o} {p} at v u) n (inl e) = (i, o, subst (λ k. slice_get named k ≡ Some i) e at, v, omega arith)
    callee_less (u_call {n = m} {i} {b} {o} {p} at v u) n (inr k) = more n (weight p) (weight o + weight p + 1) (omega arith) (callee_less u n k)
    callee_less (u_value u) n h = callee_less u n h
    callee_less (u_self u) n h = callee_less u n h
    callee_less (u_choose {x} {b} {y} {p} v u) n h =
        elim (has_either (callees_in_branches x) (callees_in b) n h) [ inl k ↦ more n (weight_of_branches y) (weight_of_branches y + weight p) (omega arith) (callees_less v n k) | inr k ↦ more n (weight p) (weight_of_branches y + weight p) (omega arith) (callee_less u n k) ]
    callee_less (u_each {i} {b} {o} {p} v u) n h =
        elim (has_either (callees_in i) (callees_in b) n h) [ inl k ↦ more n (weight o) (weight o + weight p) (omega arith) (callee_less v n k) | inr k ↦ more n (weight p) (weight o + weight p) (omega arith) (callee_less u n k) ]

    callees_less : {x : Branches} {y : CallFreeBranches} → BranchesInline named x y → (n : ℕ) → Has (callees_in_branches x) n → Lesser n (weight_of_branches y)
    callees_less (u_otherwise u) n h = callee_less u n h
    callees_less (u_branch {b} {x} {p} {y} u v) n h =
        elim (has_either (callees_in b) (callees_in_branches x) n h) [ inl k ↦ more n (weight p) (weight p + weight_of_branches y) (omega arith) (callee_less u n k) | inr k ↦ more n (weight_of_branches y) (weight p + weight_of_branches y) (omega arith) (callees_less v n k) ]

  abbrev rows : List (List ℕ)
  rows = map callees_in named

  edge_of : (n m : ℕ) (b : Body) → slice_get named n ≡ Some b → Edge rows n m → Has (callees_in b) m
  edge_of n m b at c =
      let low : n < length named = slice_get_within named n b at in
      let same : get_or named n no_instruction ≡ b = same_Some _ _ (sym (slice_get-get_or named n no_instruction low) ∙ at) in
      let row : get_or rows n [] ≡ callees_in b = get_or-map callees_in named n no_instruction [] low ∙ ap callees_in same in
      has_from_contains (callees_in b) m (subst (λ xs. Contains xs m) row c)

  -- along steps bodies get less
  path_less : {n m : ℕ} → Path rows n m → (b : Body) (p : CallFreeBody) → slice_get named n ≡ Some b → Inlines named b p → Lesser m (weight p)
  path_less (edge {k} {j} e) b p at u = callee_less u j (edge_of k j b at e)
  path_less (further {k} {j} {i} s e) b p at u =
      let (c, q, there, v, less) = path_less s b p at u in
      more i (weight q) (weight p) (omega (arith, less)) (callee_less v i (edge_of j i c there e))

  -- no body leads back to itself, by ever lesser ones
  no_way_back : (most n : ℕ) (b : Body) (p : CallFreeBody) → slice_get named n ≡ Some b → Inlines named b p → weight p < most → Path rows n n → ⊥
  no_way_back zero n b p at u low s = absurd (omega (arith, low))
  no_way_back (suc most) n b p at u low s = let (c, q, there, v, less) = path_less s b p at u in no_way_back most n c q there v (omega (arith, less, low)) s

  module _ (ends : All (λ b. (p : CallFreeBody) × Inlines named b p) named) where
    never_back : (n : ℕ) → n < length named → Path rows n n → ⊥
    never_back n low s =
        let (p, u) = All-get_or (λ b. (p : CallFreeBody) × Inlines named b p) named n no_instruction low ends in
        no_way_back (suc (weight p)) n (get_or named n no_instruction) p (slice_get-get_or named n no_instruction low) u (omega arith) s

    joined_paths : {n m k : ℕ} → Path rows n m → Path rows m k → Path rows n k
    joined_paths s (edge e) = further s e
    joined_paths s (further t e) = further (joined_paths s t) e

    module _ (states : List State) (order : List ℕ) (are : AreComponents rows states order) where
      within_rows : (v c : ℕ) → state_at states v ≡ Done c → v < length named
      within_rows v c e = by (cases_lt v (length states))
        where
          by : (v < length states) ⊎ (length states ≤ v) → v < length named
          by (inl h) = omega (arith, h, are.size, length-map named callees_in)
          by (inr h) = let new : state_at states v ≡ New = get_or_past states v New h in absurd (cc)

      -- those of one component are one
      alone : (u v c : ℕ) → state_at states u ≡ Done c → state_at states v ≡ Done c → u ≡ v
      alone u v c a b = by (are.joined u v c a b) (are.joined v u c b a)
        where
          by : (u ≡ v) ⊎ Path rows u v → (v ≡ u) ⊎ Path rows v u → u ≡ v
          by (inl e) k = e
          by (inr s) (inl e) = sym e
          by (inr s) (inr t) = absurd (never_back u (within_rows u c a) (joined_paths s t))

      done_at : (i n : ℕ) → slice_get order i ≡ Some n → (i < length order) × (state_at states n ≡ Done i)
      done_at i n at =
          let low : i < length order = slice_get_within order i n at in
          let same : get_or order i 0 ≡ n = same_Some _ _ (sym (slice_get-get_or order i 0 low) ∙ at) in
          (low, subst (λ k. state_at states k ≡ Done i) same (are.ordered i low))

      pub callees_come_first : AreCalleesFirst named order
      callees_come_first = record { within = within; all = every; before = before }
        where
          within : (i n : ℕ) → slice_get order i ≡ Some n → n < length named
          within i n at = let (low, done) = done_at i n at in within_rows n i done

          place_of : (n c : ℕ) → state_at states n ≡ Done c → c < length order → slice_get order c ≡ Some n
          place_of n c done low =
              let same : get_or order c 0 ≡ n = alone (get_or order c 0) n c (are.ordered c low) done in
              slice_get-get_or order c 0 low ∙ ap Some same

          every : (n : ℕ) → n < length named → (i : ℕ) × (slice_get order i ≡ Some n)
          every n low = let (c, done, few) = are.done n (omega (arith, low, length-map named callees_in)) in (c, place_of n c done few)

          before : (i n m : ℕ) (b : Body) → slice_get order i ≡ Some n → slice_get named n ≡ Some b → Contains (callees_in b) m → (j : ℕ) × (j < i) × (slice_get order j ≡ Some m)
          before i n m b at is c =
              let (low, done) = done_at i n at in
              let step : Edge rows n m = subst (λ xs. Contains xs m) (sym (row n b is)) c in
              let (d, there, most) = are.closed n i m done step in
              let apart : (d ≡ i) → ⊥ = λ e. never_back n (within_rows n i done) (back n m i step done (subst (λ k. state_at states m ≡ Done k) e there)) in
              (d, less d i apart most, place_of m d there (omega (arith, most, low)))
            where
              row : (n : ℕ) (b : Body) → slice_get named n ≡ Some b → get_or rows n [] ≡ callees_in b
              row n b is =
                  let l : n < length named = slice_get_within named n b is in
                  let same : get_or named n no_instruction ≡ b = same_Some _ _ (sym (slice_get-get_or named n no_instruction l) ∙ is) in
                  get_or-map callees_in named n no_instruction [] l ∙ ap callees_in same

              back : (n m i : ℕ) → Edge rows n m → state_at states n ≡ Done i → state_at states m ≡ Done i → Path rows n n
              back n m i step done there = subst (λ k. Path rows n k) (sym (alone n m i done there)) (edge step)

              less : (d i : ℕ) → (d ≡ i → ⊥) → d ≤ i → d < i
              less d i apart most = elim (cases_order d i) [ inl e ↦ absurd (apart e) | inr (inl l) ↦ l | inr (inr l) ↦ absurd (omega (arith, most, l)) ]
