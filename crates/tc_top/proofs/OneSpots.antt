-- What the texts of a schema and of a stylesheet tell of its spots is one.
use Rattle.std.proofs.Common.{◌≡◌, ◌∙◌, refl, sym, ap, subst, ℕ, suc, List, [], ◌∷◌, map, length, All, Contains, arith}
use Rattle.tc_answer.specs.Answers.{Answer, spots, over_limit, rows_limit}
use Rattle.tc_answer.specs.SpotLines.{Use, unused, used, used_large, SpotUse}
use Rattle.tc_base.specs.declared.Limit.{Limit}
use Rattle.tc_dead.specs.Instantiated.{IsDead}
use Rattle.tc_dead.specs.Spots.{Spot, spots_of}
use Rattle.tc_decide.specs.DeadSpots.{stage, Uses, IsLeastUse, HasLargeUses, PassSpots, by_text, by_calls, by_entries, by_rows}
use Rattle.tc_decide.specs.declared.failure.Kind.TheVariants.{Texts, Rows}
use Rattle.tc_decide.specs.declared.failure.RowCount.{RowCount}
use Rattle.tc_decide.proofs.Sheets.{no_sheet, one_sheet_of}
use Rattle.tc_decide.proofs.SpotLimits.{passes_too}
use Rattle.tc_decide.proofs.Stages.{not_all, same_stage}
use Rattle.tc_model.specs.Grammars.{Grammar}
use Rattle.tc_model.specs.Sheets.{Sheet}
use Rattle.tc_read.specs.Sheets.{IsSheetOf}
use Rattle.tc_top.specs.DeadSpots.{IsUse, AreUses, FindsSpots, spots_pass_before_rows, spots_pass_rows, finds_spots, TellsDead, input_refused, spots_refused, spots_read}
use Rattle.tc_top.specs.OneAnswer.{AreUsedAlike, both_unused, both_used, both_used_large, AreToldAlike, none_told, one_told, AreAlike, same_answer, spots_alike, row_limits}
use Rattle.tc_top.specs.SchemaTexts.{SchemaText}
use Rattle.tc_top.proofs.OneCheck.{one_triple_limit}
use Rattle.tc_top.proofs.OneRefusal.{sheet_refusals}
use Rattle.tc_top.proofs.SchemaTextLaws.{no_schema, one_schema, text_refusals}

module _ (i : Grammar) (s : Sheet) where
  near_or_far : {p : Spot} {document : _} → IsLeastUse i s p document → HasLargeUses i s p → ⊥
  near_or_far l g = let far = g.large _ l.uses in omega (arith, l.few, far)

  dead_or_used : {p : Spot} {document : _} → IsDead i s p → Uses i s p document → ⊥
  dead_or_used h u = h _ u.0 u.1

  -- the same is told of a spot
  use_alike : (p q : Spot) (u v : Use) → p ≡ q → IsUse i s p u → IsUse i s q v → AreUsedAlike u v
  use_alike p q u v e x y = by u v x (subst (λ (r : Spot). IsUse i s r v) (sym e) y)
    where
      by : (u v : Use) → IsUse i s p u → IsUse i s p v → AreUsedAlike u v
      by unused unused x y = both_unused
      by unused (used document) x y = absurd (dead_or_used x y.uses)
      by unused used_large x y = absurd (dead_or_used x y.some.1)
      by (used document) unused x y = absurd (dead_or_used y x.uses)
      by (used document) (used other) x y = both_used
      by (used document) used_large x y = absurd (near_or_far x y)
      by used_large unused x y = absurd (dead_or_used y x.some.1)
      by used_large (used document) x y = absurd (near_or_far y x)
      by used_large used_large x y = both_used_large

  head_is : (p q : Spot) (ps qs : List Spot) → p ∷ ps ≡ q ∷ qs → p ≡ q
  head_is p q ps qs e = cc

  tail_is : (p q : Spot) (ps qs : List Spot) → p ∷ ps ≡ q ∷ qs → ps ≡ qs
  tail_is p q ps qs e = cc

  abbrev AreSo : List SpotUse → Type 0
  AreSo told = All (λ u. IsUse i s u.spot u.found) told

  first_so : (u : SpotUse) (us : List SpotUse) → AreSo (u ∷ us) → IsUse i s u.spot u.found
  first_so u us all = all 0 u (omega arith)

  later_so : (u : SpotUse) (us : List SpotUse) → AreSo (u ∷ us) → AreSo us
  later_so u us all = λ k d h. all (suc k) d (omega (arith, h))

  told_alike : (told other : List SpotUse) → map (λ u. u.spot) told ≡ map (λ u. u.spot) other → AreSo told → AreSo other → AreToldAlike told other
  told_alike [] [] e x y = none_told
  told_alike [] (v ∷ vs) e x y = absurd (cc)
  told_alike (u ∷ us) [] e x y = absurd (cc)
  told_alike (u ∷ us) (v ∷ vs) e x y =
      let same = head_is u.spot v.spot (map (λ w. w.spot) us) (map (λ w. w.spot) vs) e in
      one_told same (use_alike u.spot v.spot u.found v.found same (first_so u us x) (first_so v vs y))
      (told_alike us vs (tail_is u.spot v.spot (map (λ w. w.spot) us) (map (λ w. w.spot) vs) e) (later_so u us x) (later_so v vs y))

  -- the stages of what is passed
  abbrev Passed : Limit → ℕ → Type 0
  Passed kind number = PassSpots i s (spots_of s) (Texts kind) number

  before_rows : {kind : Limit} {number : ℕ} → Passed kind number → stage (Texts kind) ≡ 3 → ⊥
  before_rows (by_text p e c x) h = omega (arith, e, h)
  before_rows (by_calls p each c x) h = omega (arith, h)
  before_rows (by_entries p each c x) h = omega (arith, h)

  pub not_rows : {kind : Limit} {count : RowCount} {number most : ℕ} → Passed kind number → PassSpots i s (spots_of s) (Rows count) most → ⊥
  not_rows x y = before_rows x (same_stage i s (spots_of s) x y)

  -- before rows one limit is passed
  pub one_spot_limit : {kind other : Limit} {number most : ℕ} → Passed kind number → Passed other most → AreAlike (over_limit kind number) (over_limit other most)
  one_spot_limit {kind} {other} {number} {most} x y = by x y (same_stage i s (spots_of s) x y)
    where
      by : {kind other : Limit} {number most : ℕ} → Passed kind number → Passed other most → stage (Texts kind) ≡ stage (Texts other) → AreAlike (over_limit kind number) (over_limit other most)
      by (by_text p e c x) (by_text q f d y) same = one_triple_limit x (passes_too i s q p d c f y)
      by (by_text p e c x) (by_calls q each d y) same = absurd (omega (arith, e, same))
      by (by_text p e c x) (by_entries q each d y) same = absurd (omega (arith, e, same))
      by (by_calls p each c x) (by_text q f d y) same = absurd (omega (arith, f, same))
      by (by_calls p each c x) (by_calls q more d y) same = same_answer
      by (by_calls p each c x) (by_entries q more d y) same = absurd (omega (arith, same))
      by (by_entries p each c x) (by_text q f d y) same = absurd (omega (arith, f, same))
      by (by_entries p each c x) (by_calls q more d y) same = absurd (omega (arith, same))
      by (by_entries p each c x) (by_entries q more d y) same = same_answer

  -- what is found is one
  pub spots_one : {one other : Answer} → FindsSpots i s one → FindsSpots i s other → AreAlike one other
  spots_one (spots_pass_before_rows x) (spots_pass_before_rows y) = one_spot_limit x y
  spots_one (spots_pass_before_rows x) (spots_pass_rows y) = absurd (not_rows x y)
  spots_one (spots_pass_before_rows x) (finds_spots k u) = absurd (not_all i s (spots_of s) k x)
  spots_one (spots_pass_rows x) (spots_pass_before_rows y) = absurd (not_rows y x)
  spots_one (spots_pass_rows x) (spots_pass_rows y) = row_limits
  spots_one (spots_pass_rows x) (finds_spots k u) = absurd (not_all i s (spots_of s) k x)
  spots_one (finds_spots k u) (spots_pass_before_rows y) = absurd (not_all i s (spots_of s) k y)
  spots_one (finds_spots k u) (spots_pass_rows y) = absurd (not_all i s (spots_of s) k y)
  spots_one (finds_spots {told = told} k u) (finds_spots {told = other} l v) = spots_alike (told_alike told other (u.spots ∙ sym v.spots) u.each v.each)

found_same : {i j : Grammar} {s t : Sheet} {answer : Answer} → i ≡ j → s ≡ t → FindsSpots i s answer → FindsSpots j t answer
found_same {i} {j} {s} {t} {answer} a b x = subst (λ (w : Sheet). FindsSpots j w answer) b (subst (λ (w : Grammar). FindsSpots w s answer) a x)

-- what is found, the texts being read
pub found_of : {input sheet b d : List ℕ} {i : Grammar} {s : Sheet} {answer : Answer} → SchemaText input b i → IsSheetOf d s → TellsDead input sheet b d answer → FindsSpots i s answer
found_of x y (input_refused {reason = w} {place = p} r) = absurd (no_schema w p r x)
found_of x y (spots_refused {reason = w} {place = p} g r) = absurd (no_sheet w p r y)
found_of x y (spots_read g z f) = found_same (one_schema g x) (one_sheet_of z y) f

-- the answer that the texts decide is one
pub dead_one : {input sheet b d : List ℕ} {one other : Answer} → TellsDead input sheet b d one → TellsDead input sheet b d other → AreAlike one other
dead_one {input = n} (input_refused r) (input_refused q) = text_refusals n r q
dead_one (input_refused {reason = w} {place = p} r) (spots_refused g q) = absurd (no_schema w p r g)
dead_one (input_refused {reason = w} {place = p} r) (spots_read g z f) = absurd (no_schema w p r g)
dead_one (spots_refused g r) (input_refused {reason = w} {place = p} q) = absurd (no_schema w p q g)
dead_one {sheet = n} {d = d} (spots_refused g r) (spots_refused h q) = sheet_refusals d n r q
dead_one (spots_refused {reason = w} {place = p} g r) (spots_read h z f) = absurd (no_sheet w p r z)
dead_one (spots_read g z f) (input_refused {reason = w} {place = p} q) = absurd (no_schema w p q g)
dead_one (spots_read g z f) (spots_refused {reason = w} {place = p} h q) = absurd (no_sheet w p q z)
dead_one {input = n} {sheet = m} {b = b} {d = d} {other = other} (spots_read {i = i} {s = s} g z f) (spots_read h y e) =
    spots_one i s f (found_of {input = n} {sheet = m} {b = b} {d = d} {answer = other} g z (spots_read h y e))
