-- Too many instructions stand within one another exactly where a height is too great.
use Rattle.std.proofs.Common.{◌≡◌, ◌<◌, ◌≤◌, ◌⊎◌, inl, inr, ℕ, zero, suc, max, min, List, [], ◌∷◌, length, get_or, set, map, Some, slice_get, subst, sym, ap, ◌∙◌, refl, arith}
use Rattle.std.specs.Prelude.{replicate}
use Rattle.std.proofs.lemmas.Bool.{cases_lt}
use Rattle.std.proofs.Math.ListN.{length-set}
use Rattle.std.proofs.lemmas.List.{length-replicate}
use Rattle.std.proofs.lemmas.Option.{slice_get-get_or}
use Rattle.std.proofs.lemmas.List.Elements.{All-get_or, Contains-get_or}
use Rattle.tc_model.specs.Sheets.{Body, no_instruction, put_text, put_element, copy, apply, call, for_each, value, value_of_self, choose, Branches, otherwise, branch, Rule, Sheet, CallFreeBody, Inlines}
use Rattle.tc_model.specs.WellFormed.{IsSheet, IsBody, AreBranches, IsRule}
use Rattle.tc_model.proofs.TotalUnfolds.{body_unfolds}
use Rattle.tc_alpha.proofs.Members.{Has, has_from_contains, contains_from_has, has_either, every_member, every_from_all}
use Rattle.tc_rows.specs.Counts.{instructions_within, PassCalls}
use Rattle.tc_beh.specs.Callees.{callees_in, callees_in_branches, AreCalleesFirst}
use Rattle.tc_beh.specs.Orders.{AreComponentsInOrder}
use Rattle.tc_beh.specs.Heights.{height_in, heights_in, highest, highest_rule, deepest, deepest_rule, depth_in}
use Rattle.tc_beh.proofs.Heights.{IsHeight, height_is, all_heights, depth_most}
use Rattle.tc_beh.proofs.Acyclic.{callees_come_first}

-- bodies call named bodies alone
module _ (s : Sheet) where
  mutual
    pub callees_low : (b : Body) → IsBody s b → (n : ℕ) → Has (callees_in b) n → n < length s.named
    callees_low no_instruction i n h = absurd h
    callees_low (put_text x b) i n h = callees_low b i.1 n h
    callees_low (put_element m inner b) i n h = elim (has_either (callees_in inner) (callees_in b) n h) [ inl k ↦ callees_low inner i.1 n k | inr k ↦ callees_low b i.2 n k ]
    callees_low (copy inner b) i n h = elim (has_either (callees_in inner) (callees_in b) n h) [ inl k ↦ callees_low inner i.0 n k | inr k ↦ callees_low b i.1 n k ]
    callees_low (apply p m b) i n h = callees_low b i.2 n h
    callees_low (call m b) i n (inl e) = subst (λ k. k < length s.named) e i.0
    callees_low (call m b) i n (inr k) = callees_low b i.1 n k
    callees_low (value p b) i n h = callees_low b i.1 n h
    callees_low (value_of_self b) i n h = callees_low b i n h
    callees_low (choose y b) i n h = elim (has_either (callees_in_branches y) (callees_in b) n h) [ inl k ↦ callees_below y i.0 n k | inr k ↦ callees_low b i.1 n k ]
    callees_low (for_each e p inner b) i n h = elim (has_either (callees_in inner) (callees_in b) n h) [ inl k ↦ callees_low inner i.2 n k | inr k ↦ callees_low b i.3 n k ]

    callees_below : (y : Branches) → AreBranches s y → (n : ℕ) → Has (callees_in_branches y) n → n < length s.named
    callees_below (otherwise b) i n h = callees_low b i n h
    callees_below (branch t b y) i n h = elim (has_either (callees_in b) (callees_in_branches y) n h) [ inl k ↦ callees_low b i.1 n k | inr k ↦ callees_below y i.2 n k ]

length_in : (named : List Body) (order heights : List ℕ) → length (heights_in named heights order) ≡ length heights
length_in named [] heights = refl
length_in named (n ∷ order) heights =
    length_in named order (set heights n (height_in heights (get_or named n no_instruction))) ∙ length-set heights n (height_in heights (get_or named n no_instruction))

highest_at : (hs : List ℕ) (n : ℕ) → get_or hs n 0 ≤ highest hs
highest_at [] n = omega arith
highest_at (h ∷ hs) zero = omega arith
highest_at (h ∷ hs) (suc n) = omega (arith, highest_at hs n)

highest_from : (hs : List ℕ) (v : ℕ) → 0 < v → v ≤ highest hs → (n : ℕ) × (n < length hs) × (v ≤ get_or hs n 0)
highest_from [] v p l = absurd (omega (arith, p, l))
highest_from (h ∷ hs) v p l = by (cases_lt h v) (λ m. highest_from hs v p m)
  where
    by : (h < v) ⊎ (v ≤ h) → (v ≤ highest hs → (n : ℕ) × (n < length hs) × (v ≤ get_or hs n 0)) → (n : ℕ) × (n < length (h ∷ hs)) × (v ≤ get_or (h ∷ hs) n 0)
    by (inl low) later = let (n, within, high) = later (omega (arith, l, low)) in (suc n, omega (arith, within), high)
    by (inr high) later = (zero, omega arith, high)

module _ (hs : List ℕ) where
  rule_at : (rules : List Rule) (r : Rule) → Has rules r → height_in hs r.body ≤ highest_rule hs rules
  rule_at [] r h = absurd h
  rule_at (q ∷ rules) r (inl e) = let same : height_in hs q.body ≡ height_in hs r.body = ap (λ (x : Rule). height_in hs x.body) e in omega (arith, same)
  rule_at (q ∷ rules) r (inr h) = omega (arith, rule_at rules r h)

  rule_from : (rules : List Rule) (v : ℕ) → 0 < v → v ≤ highest_rule hs rules → (r : Rule) × Has rules r × (v ≤ height_in hs r.body)
  rule_from [] v p l = absurd (omega (arith, p, l))
  rule_from (q ∷ rules) v p l = by (cases_lt (height_in hs q.body) v) (λ m. rule_from rules v p m)
    where
      by : (height_in hs q.body < v) ⊎ (v ≤ height_in hs q.body) → (v ≤ highest_rule hs rules → (r : Rule) × Has rules r × (v ≤ height_in hs r.body)) → (r : Rule) × Has (q ∷ rules) r × (v ≤ height_in hs r.body)
      by (inl low) later = let (r, h, high) = later (omega (arith, l, low)) in (r, inr h, high)
      by (inr high) later = (q, inl refl, high)

  rules_deep : (rules : List Rule) → deepest_rule rules ≤ highest_rule hs rules
  rules_deep [] = omega arith
  rules_deep (r ∷ rules) = omega (arith, depth_most hs r.body, rules_deep rules)

module _ (s : Sheet) (is : IsSheet s) (order : List ℕ) (are : AreComponentsInOrder (map callees_in s.named) order) where
  pub comes_first : AreCalleesFirst s.named order
  comes_first = callees_come_first s.named is.calls are.states order are.are

  abbrev heights : List ℕ
  heights = heights_in s.named (replicate (length s.named) 0) order

  count : length heights ≡ length s.named
  count = length_in s.named order (replicate (length s.named) 0) ∙ length-replicate (length s.named) 0

  right : (n : ℕ) → n < length s.named → IsHeight s.named heights n
  right = all_heights s.named order comes_first order (replicate (length s.named) 0) 0 refl (length-replicate (length s.named) 0) (λ n (j, low, at). absurd (omega (arith, low)))

  body_right : (b : Body) → IsBody s b → (p : CallFreeBody) → Inlines s.named b p → height_in heights b ≡ min (instructions_within p) 8001
  body_right b i p u = height_is s.named heights u (λ n c. right n (callees_low s b i n (has_from_contains (callees_in b) n c)))

  named_is : (n : ℕ) → n < length s.named → IsBody s (get_or s.named n no_instruction)
  named_is n low = All-get_or (IsBody s) s.named n no_instruction low is.named

  pub too_high : 8000 < max (highest heights) (highest_rule heights s.rules) → PassCalls s 8000
  too_high h = by (cases_lt 8000 (highest heights))
    where
      by : (8000 < highest heights) ⊎ (highest heights ≤ 8000) → PassCalls s 8000
      by (inl high) =
          let (n, low, at) = highest_from heights 8001 (omega arith) (omega (arith, high)) in
          let within : n < length s.named = omega (arith, low, count) in
          let (p, u) = All-get_or (λ b. (p : CallFreeBody) × Inlines s.named b p) s.named n no_instruction within is.calls in
          let exact = right n within (get_or s.named n no_instruction) p (slice_get-get_or s.named n no_instruction within) u in
          (get_or s.named n no_instruction, p, inr (Contains-get_or s.named n no_instruction within), u, omega (arith, exact, at))
      by (inr rest) =
          let (r, there, at) = rule_from heights s.rules 8001 (omega arith) (omega (arith, h, rest)) in
          let body = (every_member (IsRule s) s.rules r (every_from_all (IsRule s) s.rules is.rules) there).body in
          let (p, u) = body_unfolds s is r.body body in
          (r.body, p, inl (r, contains_from_has s.rules r there, refl), u, omega (arith, body_right r.body body p u, at))

  pub high_enough : PassCalls s 8000 → 8000 < max (highest heights) (highest_rule heights s.rules)
  high_enough (b, p, inl (r, there, e), u, more) =
      let has = has_from_contains s.rules r there in
      let body = (every_member (IsRule s) s.rules r (every_from_all (IsRule s) s.rules is.rules) has).body in
      let exact = body_right r.body body p (subst (λ c. Inlines s.named c p) (sym e) u) in
      omega (arith, exact, more, rule_at heights s.rules r has)
  high_enough (b, p, inr (n, low, e), u, more) =
      let at : slice_get s.named n ≡ Some b = slice_get-get_or s.named n b low ∙ ap Some e in
      let exact = right n low b p at u in
      omega (arith, exact, more, highest_at heights n)

  deep_named : (bs : List Body) → ((b : Body) → Has bs b → depth_in b ≤ highest heights) → deepest bs ≤ highest heights
  deep_named [] h = omega arith
  deep_named (b ∷ bs) h = omega (arith, h b (inl refl), deep_named bs (λ c k. h c (inr k)))

  -- elements stand no deeper than instructions
  pub not_deep : max (deepest_rule s.rules) (deepest s.named) ≤ max (highest heights) (highest_rule heights s.rules)
  not_deep = omega (arith, rules_deep heights s.rules, deep_named s.named each)
    where
      each : (b : Body) → Has s.named b → depth_in b ≤ highest heights
      each b h =
          let (n, low, e) = contains_from_has s.named b h in
          let at : slice_get s.named n ≡ Some b = slice_get-get_or s.named n b low ∙ ap Some e in
          let (p, u) = body_unfolds s is b (every_member (IsBody s) s.named b (every_from_all (IsBody s) s.named is.named) h) in
          let same : height_in heights b ≡ get_or heights n 0 = body_right b (every_member (IsBody s) s.named b (every_from_all (IsBody s) s.named is.named) h) p u ∙ sym (right n low b p at u) in
          omega (arith, depth_most heights b, same, highest_at heights n)
