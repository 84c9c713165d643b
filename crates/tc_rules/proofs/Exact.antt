-- Path states tell what paths and match patterns say.
use Rattle.std.proofs.Common.{◌≡◌, ℕ, List, [], ◌∷◌, ◌++◌, refl, ap, ◌∙◌, sym, Bool, true, false, ◌&&◌, ◌||◌, zero, suc, map, append_assoc, slice_get, Some, arith, if◌then◌else◌, ◌+◌, ◌*◌, ◌/◌, ◌==◌}
use Rattle.std.specs.Int.{bit_at}
use Rattle.std.proofs.lemmas.Nat.Bits.{bit_at-suc, bit_at_lowest}
use Rattle.tc_model.specs.Trees.{none}
use Rattle.tc_model.specs.Chains.{Tree, Chain, top, under, root_of, down}
use Rattle.tc_model.specs.Sheets.{NodeTest, Steps, no_step, step, Path, no_alternative, alternative, Test, always, never, has, negated, all_of, any_of, MatchPattern, root_pattern, steps_pattern}
use Rattle.tc_model.specs.Paths.{passes, is_end, along, any_along, holds, fits}
use Rattle.tc_model.specs.Machine.{picks}
use Rattle.tc_model.specs.Symbols.{Mention}
use Rattle.tc_model.specs.Letters.{letter_of, is_marked, mark_at, marks_of, fits_letter}
use Rattle.tc_model.specs.PathStates.{Items, State, no_items, first_items, first_state, further, ends, next_state, is_hit, steps_of}
use Rattle.tc_model.proofs.TotalAbove.{holds_above}
use Rattle.tc_rules.specs.Covered.{IsNumbered, IsBlind, AreCovered, IsCovered}

-- laws of truth values
or_right : (a : Bool) → (a || false) ≡ a
or_right true = refl
or_right false = refl

and_right : (a : Bool) → (a && false) ≡ false
and_right true = refl
and_right false = refl

end_last : (b f d : Bool) → ((b && ((f && true) || (d && false))) || false) ≡ (b && f)
end_last true true d = refl
end_last true false true = refl
end_last true false false = refl
end_last false f d = refl

end_more : (b f d r : Bool) → ((b && ((f && false) || (d && false))) || r) ≡ r
end_more true true true r = refl
end_more true true false r = refl
end_more true false true r = refl
end_more true false false r = refl
end_more false f d r = refl

-- an item that stays, an item that comes, and an item that goes on
moves : (b d come f x y r : Bool) → ((((b && d) || come) && x) || (((b && f) && y) || r)) ≡ ((come && x) || ((b && ((f && y) || (d && x))) || r))
moves true true true true true true r = refl
moves true true true true true false r = refl
moves true true true true false true r = refl
moves true true true true false false r = refl
moves true true true false true y r = refl
moves true true true false false y r = refl
moves true true false true true true r = refl
moves true true false true true false r = refl
moves true true false true false true r = refl
moves true true false true false false r = refl
moves true true false false true y r = refl
moves true true false false false y r = refl
moves true false true true true true r = refl
moves true false true true true false r = refl
moves true false true true false true r = refl
moves true false true true false false r = refl
moves true false true false true y r = refl
moves true false true false false y r = refl
moves true false false true x true r = refl
moves true false false true x false r = refl
moves true false false false x y r = refl
moves false d true f x y r = refl
moves false d false f x y r = refl

-- the marks of a list of truth values
halved : (b : Bool) (m : ℕ) → ((if b then 1 else 0) + 2 * m) / 2 ≡ m
halved true m = omega arith
halved false m = omega arith

lowest : (b : Bool) (m : ℕ) → (bit_at ((if b then 1 else 0) + 2 * m) 0 == 1) ≡ b
lowest true m = let e : bit_at (1 + 2 * m) 0 ≡ 1 = bit_at_lowest (1 + 2 * m) ∙ omega arith in ap (λ k. k == 1) e
lowest false m = let e : bit_at (0 + 2 * m) 0 ≡ 0 = bit_at_lowest (0 + 2 * m) ∙ omega arith in ap (λ k. k == 1) e

mark_is : {X : Type 0} (f : X → Bool) (ws : List X) (k : ℕ) (w : X) → slice_get ws k ≡ Some w → mark_at (marks_of (map f ws)) k ≡ f w
mark_is f [] k w e = absurd (cc)
mark_is f (v ∷ ws) zero w e = lowest (f v) (marks_of (map f ws)) ∙ cc
mark_is f (v ∷ ws) (suc k) w e =
    ap (λ n. n == 1) (bit_at-suc ((if f v then 1 else 0) + 2 * marks_of (map f ws)) k ∙ ap (λ n. bit_at n k) (halved (f v) (marks_of (map f ws))))
    ∙ mark_is f ws k w e

module _ (symbols : List Mention) (predicates : List Test) where
  marked_is : (w : Test) → IsNumbered symbols predicates w → (t : Tree) → is_marked symbols predicates w (letter_of symbols predicates t).marks ≡ holds w (under (top none) t)
  marked_is always v t = refl
  marked_is never v t = mark_is (λ p. holds p (under (top none) t)) predicates _ never v
  marked_is (has p) v t = mark_is (λ p. holds p (under (top none) t)) predicates _ (has p) v
  marked_is (negated x) v t = mark_is (λ p. holds p (under (top none) t)) predicates _ (negated x) v
  marked_is (all_of ts) v t = mark_is (λ p. holds p (under (top none) t)) predicates _ (all_of ts) v
  marked_is (any_of ts) v t = mark_is (λ p. holds p (under (top none) t)) predicates _ (any_of ts) v

  fits_is : (nt : NodeTest) (when : Test) → IsBlind symbols predicates nt → IsNumbered symbols predicates when → (c : Chain) (t : Tree)
      → fits_letter symbols predicates nt when (letter_of symbols predicates t) ≡ (passes nt t && holds when (under c t))
  fits_is nt when b v c t =
      ap (λ w. w && is_marked symbols predicates when (letter_of symbols predicates t).marks) (b t)
      ∙ ap (λ w. passes nt t && w) (marked_is when v t ∙ holds_above when (under (top none) t) (under c t) refl)

  -- some item of an alternative leads along the trees
  abbrev reach : Steps → Items → Chain → List Tree → Bool
  reach no_step items c ts = false
  reach (step deep nt when ss) [] c ts = false
  reach (step deep nt when ss) (b ∷ items) c ts = (b && along (step deep nt when ss) c ts) || reach ss items c ts

  reach_empty : (ss : Steps) (c : Chain) (ts : List Tree) → reach ss [] c ts ≡ false
  reach_empty no_step c ts = refl
  reach_empty (step deep nt when ss) c ts = refl

  reach_none : (ss : Steps) (c : Chain) (ts : List Tree) → reach ss (no_items ss) c ts ≡ false
  reach_none no_step c ts = refl
  reach_none (step deep nt when ss) c ts = reach_none ss c ts

  reach_first : (ss : Steps) (c : Chain) (t : Tree) (ts : List Tree) → reach ss (first_items ss) c (t ∷ ts) ≡ along ss c (t ∷ ts)
  reach_first no_step c t ts = refl
  reach_first (step deep nt when ss) c t ts = ap (λ w. along (step deep nt when ss) c (t ∷ ts) || w) (reach_none ss c (t ∷ ts)) ∙ or_right _

  reach_step : (ss : Steps) → AreCovered symbols predicates ss → (items : Items) (comes : Bool) (c : Chain) (t u : Tree) (us : List Tree)
      → reach ss (further symbols predicates ss (letter_of symbols predicates t) comes items) (under c t) (u ∷ us) ≡ (comes && along ss (under c t) (u ∷ us)) || reach ss items c (t ∷ u ∷ us)
  reach_step no_step v items comes c t u us = sym (or_right _ ∙ and_right comes)
  reach_step (step deep nt when ss) v [] comes c t u us =
      ap (λ w. (comes && along (step deep nt when ss) (under c t) (u ∷ us)) || w) (reach_step ss v.2 [] false c t u us ∙ reach_empty ss c (t ∷ u ∷ us))
  reach_step (step deep nt when ss) v (b ∷ items) comes c t u us =
      let l = letter_of symbols predicates t in
      let x = along (step deep nt when ss) (under c t) (u ∷ us) in
      let y = along ss (under c t) (u ∷ us) in
      ap (λ w. (((b && deep) || comes) && x) || w) (reach_step ss v.2 items (b && fits_letter symbols predicates nt when l) c t u us)
      ∙ (moves b deep comes (fits_letter symbols predicates nt when l) x y (reach ss items c (t ∷ u ∷ us))
      ∙ ap (λ w. (comes && x) || ((b && ((w && y) || (deep && x))) || reach ss items c (t ∷ u ∷ us))) (fits_is nt when v.0 v.1 c t))

  reach_end : (ss : Steps) → AreCovered symbols predicates ss → (items : Items) (c : Chain) (t : Tree) → reach ss items c (t ∷ []) ≡ ends symbols predicates ss items (letter_of symbols predicates t)
  reach_end no_step v items c t = refl
  reach_end (step deep nt when ss) v [] c t = refl
  reach_end (step deep nt when no_step) v (b ∷ items) c t =
      end_last b (passes nt t && holds when (under c t)) deep ∙ ap (λ w. b && w) (sym (fits_is nt when v.0 v.1 c t))
  reach_end (step deep nt when (step e u z ss)) v (b ∷ items) c t =
      end_more b (passes nt t && holds when (under c t)) deep (reach (step e u z ss) items c (t ∷ [])) ∙ reach_end (step e u z ss) v.2 items c t

  -- the same of all alternatives
  abbrev any_reach : Path → State → Chain → List Tree → Bool
  any_reach no_alternative state c ts = false
  any_reach (alternative ss p) [] c ts = false
  any_reach (alternative ss p) (items ∷ state) c ts = reach ss items c ts || any_reach p state c ts

  any_first : (p : Path) (c : Chain) (t : Tree) (ts : List Tree) → any_reach p (first_state p) c (t ∷ ts) ≡ any_along p c (t ∷ ts)
  any_first no_alternative c t ts = refl
  any_first (alternative ss p) c t ts =
      ap (λ w. w || any_reach p (first_state p) c (t ∷ ts)) (reach_first ss c t ts) ∙ ap (λ w. along ss c (t ∷ ts) || w) (any_first p c t ts)

  any_step : (p : Path) → IsCovered symbols predicates p → (state : State) (c : Chain) (t u : Tree) (us : List Tree)
      → any_reach p (next_state symbols predicates p state (letter_of symbols predicates t)) (under c t) (u ∷ us) ≡ any_reach p state c (t ∷ u ∷ us)
  any_step no_alternative v state c t u us = refl
  any_step (alternative ss p) v [] c t u us = refl
  any_step (alternative ss p) v (items ∷ state) c t u us =
      ap (λ w. w || any_reach p (next_state symbols predicates p state (letter_of symbols predicates t)) (under c t) (u ∷ us)) (reach_step ss v.0 items false c t u us)
      ∙ ap (λ w. reach ss items c (t ∷ u ∷ us) || w) (any_step p v.1 state c t u us)

  any_end : (p : Path) → IsCovered symbols predicates p → (state : State) (c : Chain) (t : Tree) → any_reach p state c (t ∷ []) ≡ is_hit symbols predicates p state (letter_of symbols predicates t)
  any_end no_alternative v state c t = refl
  any_end (alternative ss p) v [] c t = refl
  any_end (alternative ss p) v (items ∷ state) c t =
      ap (λ w. w || any_reach p state c (t ∷ [])) (reach_end ss v.0 items c t) ∙ ap (λ w. ends symbols predicates ss items (letter_of symbols predicates t) || w) (any_end p v.1 state c t)

  pub picks_is : (p : Path) → IsCovered symbols predicates p → (state : State) (c : Chain) (t : Tree) (ts : List Tree)
      → any_reach p state c (t ∷ ts) ≡ picks (letter_of symbols predicates) (next_state symbols predicates p) (is_hit symbols predicates p) state (t ∷ ts)
  picks_is p v state c t [] = any_end p v state c t
  picks_is p v state c t (u ∷ us) = sym (any_step p v state c t u us) ∙ picks_is p v (next_state symbols predicates p state (letter_of symbols predicates t)) (under c t) u us

  -- a path selects what its states hit
  pub selects : (p : Path) → IsCovered symbols predicates p → (c : Chain) (t : Tree) (ts : List Tree)
      → any_along p c (t ∷ ts) ≡ picks (letter_of symbols predicates) (next_state symbols predicates p) (is_hit symbols predicates p) (first_state p) (t ∷ ts)
  selects p v c t ts = sym (any_first p c t ts) ∙ picks_is p v (first_state p) c t ts

  -- the state of a path at a node, from the root
  abbrev pub state_at : Path → Chain → State
  state_at p (top doc) = first_state p
  state_at p (under c t) = next_state symbols predicates p (state_at p c) (letter_of symbols predicates t)

  -- the items of one alternative at a node, from the root
  abbrev pub items_at : Steps → Chain → Items
  items_at ss (top doc) = first_items ss
  items_at ss (under c t) = further symbols predicates ss (letter_of symbols predicates t) false (items_at ss c)

  steps_reach : (ss : Steps) → AreCovered symbols predicates ss → (c : Chain) (t : Tree) (ts : List Tree) → reach ss (items_at ss c) c (t ∷ ts) ≡ along ss (root_of c) (down c ++ t ∷ ts)
  steps_reach ss v (top doc) t ts = reach_first ss (top doc) t ts
  steps_reach ss v (under c u) t ts =
      reach_step ss v (items_at ss c) false c u t ts
      ∙ (steps_reach ss v c u (t ∷ ts) ∙ ap (along ss (root_of c)) (sym (append_assoc (down c) (u ∷ []) (t ∷ ts))))

  not_end : (ts : List Tree) (t : Tree) → is_end (ts ++ t ∷ []) ≡ false
  not_end [] t = refl
  not_end (u ∷ us) t = refl

  -- a match pattern fits a node where its items end there
  pub items_fit : (p : MatchPattern) → AreCovered symbols predicates (steps_of p) → (c : Chain) (t : Tree) → ends symbols predicates (steps_of p) (items_at (steps_of p) c) (letter_of symbols predicates t) ≡ fits p (under c t)
  items_fit root_pattern v c t = sym (not_end (down c) t)
  items_fit (steps_pattern ss) v c t = sym (reach_end ss v (items_at ss c) c t) ∙ steps_reach ss v c t []
