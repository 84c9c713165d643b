-- The heights of named bodies, worked out one after the other, are those of the bodies with calls in place.
use Rattle.std.proofs.Common.{◌≡◌, ◌<◌, ◌≤◌, ◌⊎◌, ◌≢◌, inl, inr, ℕ, suc, min, List, [], ◌∷◌, ◌++◌, length, get_or, set, drop, Some, slice_get, subst, sym, ap, ◌∙◌, refl, arith, Contains}
use Rattle.std.proofs.lemmas.Bool.{cases_order, cases_lt}
use Rattle.std.proofs.Math.Seq.{drop-cons}
use Rattle.std.proofs.lemmas.List.{get_or-set_same, get_or-set_other, length-drop, drop_all}
use Rattle.std.proofs.Math.ListN.{length-set}
use Rattle.std.proofs.lemmas.Option.{slice_get-get_or, slice_get_within, same_Some}
use Rattle.tc_model.specs.Sheets.{Body, no_instruction, put_text, put_element, copy, apply, call, for_each, value, value_of_self, choose, Branches, otherwise, branch, CallFreeBody, CallFreeBranches, Inlines, u_done, u_text, u_element, u_copy, u_apply, u_call, u_value, u_self, u_choose, u_each, BranchesInline, u_otherwise, u_branch}
use Rattle.tc_alpha.proofs.Members.{has_from_contains, contains_from_has, has_front, has_back}
use Rattle.tc_rows.specs.Counts.{instructions_within, instructions_within_branches}
use Rattle.tc_beh.specs.Callees.{callees_in, callees_in_branches, AreCalleesFirst}
use Rattle.tc_beh.specs.Heights.{height_in, height_in_branches, heights_in, depth_in, depth_in_branches}

pub front_of : (xs ys : List ℕ) (n : ℕ) → Contains xs n → Contains (xs ++ ys) n
front_of xs ys n c = contains_from_has (xs ++ ys) n (has_front xs ys n (has_from_contains xs n c))

pub back_of : (xs ys : List ℕ) (n : ℕ) → Contains ys n → Contains (xs ++ ys) n
back_of xs ys n c = contains_from_has (xs ++ ys) n (has_back xs ys n (has_from_contains ys n c))

module _ (named : List Body) where
  -- the height that is kept of a named body is that of the body with calls in place, but for too many
  abbrev pub IsHeight : List ℕ → ℕ → Type 0
  IsHeight heights n = (b : Body) (p : CallFreeBody) → slice_get named n ≡ Some b → Inlines named b p → get_or heights n 0 ≡ min (instructions_within p) 8001

  module _ (heights : List ℕ) where
    mutual
      pub height_is : {b : Body} {p : CallFreeBody} → Inlines named b p → ((n : ℕ) → Contains (callees_in b) n → IsHeight heights n) → height_in heights b ≡ min (instructions_within p) 8001
      height_is u_done h = refl
      height_is (u_text {b} {p} u) h = let rest = height_is u h in omega (arith, rest)
      height_is (u_element {i} {b} {o} {p} v u) h =
          let inner = height_is v (λ n c. h n (front_of (callees_in i) (callees_in b) n c)) in
          let rest = height_is u (λ n c. h n (back_of (callees_in i) (callees_in b) n c)) in
          omega (arith, inner, rest)
      height_is (u_copy {i} {b} {o} {p} v u) h =
          let inner = height_is v (λ n c. h n (front_of (callees_in i) (callees_in b) n c)) in
          let rest = height_is u (λ n c. h n (back_of (callees_in i) (callees_in b) n c)) in
          omega (arith, inner, rest)
      height_is (u_apply {b} {p} u) h = let rest = height_is u h in omega (arith, rest)
      height_is (u_call {n} {i} {b} {o} {p} at v u) h =
          let here : get_or heights n 0 ≡ min (instructions_within o) 8001 = h n (front_of (n ∷ []) (callees_in b) n (0, omega arith, refl)) i o at v in
          let rest = height_is u (λ m c. h m (back_of (n ∷ []) (callees_in b) m c)) in
          omega (arith, here, rest)
      height_is (u_value {b} {p} u) h = let rest = height_is u h in omega (arith, rest)
      height_is (u_self {b} {p} u) h = let rest = height_is u h in omega (arith, rest)
      height_is (u_choose {x} {b} {y} {p} v u) h =
          let inner = heights_are v (λ n c. h n (front_of (callees_in_branches x) (callees_in b) n c)) in
          let rest = height_is u (λ n c. h n (back_of (callees_in_branches x) (callees_in b) n c)) in
          omega (arith, inner, rest)
      height_is (u_each {i} {b} {o} {p} v u) h =
          let inner = height_is v (λ n c. h n (front_of (callees_in i) (callees_in b) n c)) in
          let rest = height_is u (λ n c. h n (back_of (callees_in i) (callees_in b) n c)) in
          omega (arith, inner, rest)

      heights_are : {x : Branches} {y : CallFreeBranches} → BranchesInline named x y → ((n : ℕ) → Contains (callees_in_branches x) n → IsHeight heights n)
          → height_in_branches heights x ≡ min (instructions_within_branches y) 8001
      heights_are (u_otherwise u) h = height_is u h
      heights_are (u_branch {b} {x} {p} {y} u v) h =
          let this = height_is u (λ n c. h n (front_of (callees_in b) (callees_in_branches x) n c)) in
          let later = heights_are v (λ n c. h n (back_of (callees_in b) (callees_in_branches x) n c)) in
          omega (arith, this, later)

  module _ (order : List ℕ) (first : AreCalleesFirst named order) where
    abbrev Before : ℕ → ℕ → Type 0
    Before i n = (j : ℕ) × (j < i) × (slice_get order j ≡ Some n)

    abbrev Ready : ℕ → List ℕ → Type 0
    Ready i heights = (n : ℕ) → Before i n → IsHeight heights n

    ready_value : (i n : ℕ) (heights : List ℕ) → slice_get order i ≡ Some n → Ready i heights
        → (b : Body) (p : CallFreeBody) → slice_get named n ≡ Some b → Inlines named b p → height_in heights (get_or named n no_instruction) ≡ min (instructions_within p) 8001
    ready_value i n heights at ready b p is u =
        let same : get_or named n no_instruction ≡ b = same_Some _ _ (sym (slice_get-get_or named n no_instruction (first.within i n at)) ∙ is) in
        ap (height_in heights) same ∙ height_is heights u (λ k c. ready k (first.before i n k b at is c))

    set_height : (heights : List ℕ) (n v : ℕ) → n < length heights → ((b : Body) (p : CallFreeBody) → slice_get named n ≡ Some b → Inlines named b p → v ≡ min (instructions_within p) 8001) → IsHeight (set heights n v) n
    set_height heights n v low h = λ b p is u. get_or-set_same heights n v 0 low ∙ h b p is u

    keep_height : (heights : List ℕ) (n v m : ℕ) → m ≢ n → IsHeight heights m → IsHeight (set heights n v) m
    keep_height heights n v m other h = λ b p is u. get_or-set_other heights n m v 0 other ∙ h b p is u

    is_before : (i n m : ℕ) → slice_get order i ≡ Some n → m ≢ n → Before (suc i) m → Before i m
    is_before i n m at other (j, low, there) = by (cases_order j i)
      where
        by : (j ≡ i) ⊎ ((j < i) ⊎ (i < j)) → Before i m
        by (inl e) = absurd (other (same_Some m n (sym there ∙ (ap (slice_get order) e ∙ at))))
        by (inr (inl l)) = (j, l, there)
        by (inr (inr l)) = absurd (omega (arith, low, l))

    one_step : (i n : ℕ) (heights : List ℕ) → slice_get order i ≡ Some n → length heights ≡ length named → Ready i heights
        → Ready (suc i) (set heights n (height_in heights (get_or named n no_instruction)))
    one_step i n heights at size ready = λ m bef. by m bef (cases_order m n)
      where
        by : (m : ℕ) → Before (suc i) m → (m ≡ n) ⊎ ((m < n) ⊎ (n < m)) → IsHeight (set heights n (height_in heights (get_or named n no_instruction))) m
        by m bef (inl e) =
            subst (IsHeight (set heights n (height_in heights (get_or named n no_instruction)))) (sym e)
            (set_height heights n (height_in heights (get_or named n no_instruction)) (let w = first.within i n at in omega (arith, size, w)) (ready_value i n heights at ready))
        by m bef (inr (inl l)) = let other : m ≢ n = omega arith in keep_height heights n (height_in heights (get_or named n no_instruction)) m other (ready m (is_before i n m at other bef))
        by m bef (inr (inr l)) = let other : m ≢ n = omega arith in keep_height heights n (height_in heights (get_or named n no_instruction)) m other (ready m (is_before i n m at other bef))

    -- what is left of the order begins with a number
    begins : (i m : ℕ) (rest : List ℕ) → drop i order ≡ m ∷ rest → (slice_get order i ≡ Some m) × (drop (suc i) order ≡ rest)
    begins i m rest e = by (cases_lt i (length order))
      where
        by : (i < length order) ⊎ (length order ≤ i) → (slice_get order i ≡ Some m) × (drop (suc i) order ≡ rest)
        by (inl low) =
            let parts : get_or order i 0 ∷ drop (suc i) order ≡ m ∷ rest = sym (drop-cons order i 0 low) ∙ e in
            let head : get_or order i 0 ≡ m = cc in
            let tail : drop (suc i) order ≡ rest = cc in
            (slice_get-get_or order i 0 low ∙ ap Some head, tail)
        by (inr past) = let none : drop i order ≡ [] = drop_all i order past in absurd (cc)

    pub all_heights : (rest heights : List ℕ) (i : ℕ) → drop i order ≡ rest → length heights ≡ length named → Ready i heights
        → (n : ℕ) → n < length named → IsHeight (heights_in named heights rest) n
    all_heights [] heights i e size ready n low =
        let (j, there) = first.all n low in
        let within : j < length order = slice_get_within order j n there in
        let none : length (drop i order) ≡ 0 = ap length e in
        ready n (j, omega (arith, within, none, length-drop i order), there)
    all_heights (m ∷ rest) heights i e size ready n low =
        let (at, tail) = begins i m rest e in
        all_heights rest (set heights m (height_in heights (get_or named m no_instruction))) (suc i) tail (length-set heights m (height_in heights (get_or named m no_instruction)) ∙ size)
        (one_step i m heights at size ready) n low

-- elements stand within one another no deeper than instructions
mutual
  pub depth_most : (heights : List ℕ) (b : Body) → depth_in b ≤ height_in heights b
  depth_most heights no_instruction = omega arith
  depth_most heights (put_text x b) = omega (arith, depth_most heights b)
  depth_most heights (put_element n inner b) = omega (arith, depth_most heights inner, depth_most heights b)
  depth_most heights (copy inner b) = omega (arith, depth_most heights inner, depth_most heights b)
  depth_most heights (apply p m b) = omega (arith, depth_most heights b)
  depth_most heights (call n b) = omega (arith, depth_most heights b)
  depth_most heights (value p b) = omega (arith, depth_most heights b)
  depth_most heights (value_of_self b) = omega (arith, depth_most heights b)
  depth_most heights (choose x b) = omega (arith, depths_most heights x, depths_few x, depth_most heights b)
  depth_most heights (for_each e p inner b) = omega (arith, depth_most heights inner, depth_few inner, depth_most heights b)

  depths_most : (heights : List ℕ) (x : Branches) → depth_in_branches x ≤ height_in_branches heights x
  depths_most heights (otherwise b) = depth_most heights b
  depths_most heights (branch t b x) = omega (arith, depth_most heights b, depths_most heights x)

  pub depth_few : (b : Body) → depth_in b ≤ 8001
  depth_few no_instruction = omega arith
  depth_few (put_text x b) = depth_few b
  depth_few (put_element n inner b) = omega (arith, depth_few b)
  depth_few (copy inner b) = omega (arith, depth_few b)
  depth_few (apply p m b) = depth_few b
  depth_few (call n b) = depth_few b
  depth_few (value p b) = depth_few b
  depth_few (value_of_self b) = depth_few b
  depth_few (choose x b) = omega (arith, depths_few x, depth_few b)
  depth_few (for_each e p inner b) = omega (arith, depth_few inner, depth_few b)

  depths_few : (x : Branches) → depth_in_branches x ≤ 8001
  depths_few (otherwise b) = depth_few b
  depths_few (branch t b x) = omega (arith, depth_few b, depths_few x)
