-- What the texts of two schemas decide is one.
use Rattle.std.proofs.Common.{◌≡◌, inl, inr, subst, ℕ, List, arith}
use Rattle.tc_answer.specs.Answers.{Answer, included, over_limit}
use Rattle.tc_base.specs.declared.Limit.{Limit}
use Rattle.tc_incl.specs.Counts.{IsRowOfLiveTree, IsRowOfLiveHedge}
use Rattle.tc_model.specs.Grammars.{Grammar}
use Rattle.tc_rows.proofs.Counting.{counts_tell}
use Rattle.tc_decide.specs.Comparing.{Question, inclusion, equality, PassesPairLimit, by_first, by_second, by_symbols, forward}
use Rattle.tc_top.specs.Comparing.{FindsInclusion, inclusion_passes, inclusion_covers, finds_included, finds_not_included, finds_none_shown, FindsEquality, equality_passes, equality_covers_forward, equality_covers_backward, finds_equal, finds_first_only, finds_second_only, finds_no_one_shown, FindsBoth, Compares, first_refused, second_refused, both_schemas}
use Rattle.tc_top.specs.OneAnswer.{AreAlike, same_answer, documents_not_included, documents_of_first, documents_of_second, row_limits}
use Rattle.tc_top.specs.SchemaTexts.{SchemaText}
use Rattle.tc_decide.proofs.Compared.{not_different, over_pair, equal_not_of_one}
use Rattle.tc_decide.proofs.Passing.{over_schema as over}
use Rattle.tc_top.proofs.OneValidity.{one_limit}
use Rattle.tc_top.proofs.SchemaTextLaws.{no_schema, one_schema, text_refusals}

included_alike : {t u h k : ℕ} → t ≡ u → h ≡ k → AreAlike (included t h) (included u k)
included_alike {t} {u} {h} {k} p q = subst (λ n. AreAlike (included t h) (included n k)) p (subst (λ n. AreAlike (included t h) (included t n)) q same_answer)

module _ {a b : Grammar} where
  -- the first limit that is passed is one
  pub one_pair_limit : {kind other : Limit} {number count : ℕ} → PassesPairLimit a b kind number → PassesPairLimit a b other count → AreAlike (over_limit kind number) (over_limit other count)
  one_pair_limit (by_first p) (by_first q) = one_limit p q
  one_pair_limit (by_first p) (by_second v q) = absurd (over p v)
  one_pair_limit (by_first p) (by_symbols v x q) = absurd (over p v)
  one_pair_limit (by_second v p) (by_first q) = absurd (over q v)
  one_pair_limit (by_second v p) (by_second w q) = one_limit p q
  one_pair_limit (by_second v p) (by_symbols w x q) = absurd (over p x)
  one_pair_limit (by_symbols v x p) (by_first q) = absurd (over q v)
  one_pair_limit (by_symbols v x p) (by_second w q) = absurd (over q x)
  one_pair_limit (by_symbols v x p) (by_symbols w y q) = same_answer

  inclusion_one : {one other : Answer} → FindsInclusion a b one → FindsInclusion a b other → AreAlike one other
  inclusion_one (inclusion_passes p1) (inclusion_passes p2) = one_pair_limit p1 p2
  inclusion_one (inclusion_passes p1) (inclusion_covers c2 w2 m2) = absurd (over_pair p1 w2)
  inclusion_one (inclusion_passes p1) (finds_included w2 f2 i2 t2 h2) = absurd (over_pair p1 w2)
  inclusion_one (inclusion_passes p1) (finds_not_included w2 f2 d2 s2 l2) = absurd (over_pair p1 w2)
  inclusion_one (inclusion_passes p1) (finds_none_shown w2 f2 d2 l2) = absurd (over_pair p1 w2)
  inclusion_one (inclusion_covers c1 w1 m1) (inclusion_passes p2) = absurd (over_pair p2 w1)
  inclusion_one (inclusion_covers c1 w1 m1) (inclusion_covers c2 w2 m2) = row_limits
  inclusion_one (inclusion_covers c1 w1 m1) (finds_included w2 f2 i2 t2 h2) = absurd (f2 c1 m1)
  inclusion_one (inclusion_covers c1 w1 m1) (finds_not_included w2 f2 d2 s2 l2) = absurd (f2 c1 m1)
  inclusion_one (inclusion_covers c1 w1 m1) (finds_none_shown w2 f2 d2 l2) = absurd (f2 c1 m1)
  inclusion_one (finds_included w1 f1 i1 t1 h1) (inclusion_passes p2) = absurd (over_pair p2 w1)
  inclusion_one (finds_included w1 f1 i1 t1 h1) (inclusion_covers c2 w2 m2) = absurd (f1 c2 m2)
  inclusion_one (finds_included w1 f1 i1 t1 h1) (finds_included w2 f2 i2 t2 h2) = included_alike ((counts_tell (IsRowOfLiveTree (forward a b))).0 _ _ t1 t2) ((counts_tell (IsRowOfLiveHedge (forward a b))).0 _ _ h1 h2)
  inclusion_one (finds_included w1 f1 i1 t1 h1) (finds_not_included w2 f2 d2 s2 l2) = absurd (not_different i1 d2)
  inclusion_one (finds_included w1 f1 i1 t1 h1) (finds_none_shown w2 f2 d2 l2) = absurd (not_different i1 d2)
  inclusion_one (finds_not_included w1 f1 d1 s1 l1) (inclusion_passes p2) = absurd (over_pair p2 w1)
  inclusion_one (finds_not_included w1 f1 d1 s1 l1) (inclusion_covers c2 w2 m2) = absurd (f1 c2 m2)
  inclusion_one (finds_not_included w1 f1 d1 s1 l1) (finds_included w2 f2 i2 t2 h2) = absurd (not_different i2 d1)
  inclusion_one (finds_not_included w1 f1 d1 s1 l1) (finds_not_included w2 f2 d2 s2 l2) = documents_not_included
  inclusion_one (finds_not_included w1 f1 d1 s1 l1) (finds_none_shown w2 f2 d2 l2) = absurd (let far = l2 _ d1 in omega (arith, far, s1.few))
  inclusion_one (finds_none_shown w1 f1 d1 l1) (inclusion_passes p2) = absurd (over_pair p2 w1)
  inclusion_one (finds_none_shown w1 f1 d1 l1) (inclusion_covers c2 w2 m2) = absurd (f1 c2 m2)
  inclusion_one (finds_none_shown w1 f1 d1 l1) (finds_included w2 f2 i2 t2 h2) = absurd (not_different i2 d1)
  inclusion_one (finds_none_shown w1 f1 d1 l1) (finds_not_included w2 f2 d2 s2 l2) = absurd (let far = l1 _ d2 in omega (arith, far, s2.few))
  inclusion_one (finds_none_shown w1 f1 d1 l1) (finds_none_shown w2 f2 d2 l2) = same_answer

  equality_one : {one other : Answer} → FindsEquality a b one → FindsEquality a b other → AreAlike one other
  equality_one (equality_passes p1) (equality_passes p2) = one_pair_limit p1 p2
  equality_one (equality_passes p1) (equality_covers_forward c2 w2 m2) = absurd (over_pair p1 w2)
  equality_one (equality_passes p1) (equality_covers_backward c2 w2 f2 m2) = absurd (over_pair p1 w2)
  equality_one (equality_passes p1) (finds_equal w2 f2 g2 i2 j2) = absurd (over_pair p1 w2)
  equality_one (equality_passes p1) (finds_first_only w2 f2 g2 d2 s2 l2) = absurd (over_pair p1 w2)
  equality_one (equality_passes p1) (finds_second_only w2 f2 g2 d2 s2 k2 l2) = absurd (over_pair p1 w2)
  equality_one (equality_passes p1) (finds_no_one_shown w2 f2 g2 d2 l2) = absurd (over_pair p1 w2)
  equality_one (equality_covers_forward c1 w1 m1) (equality_passes p2) = absurd (over_pair p2 w1)
  equality_one (equality_covers_forward c1 w1 m1) (equality_covers_forward c2 w2 m2) = row_limits
  equality_one (equality_covers_forward c1 w1 m1) (equality_covers_backward c2 w2 f2 m2) = absurd (f2 c1 m1)
  equality_one (equality_covers_forward c1 w1 m1) (finds_equal w2 f2 g2 i2 j2) = absurd (f2 c1 m1)
  equality_one (equality_covers_forward c1 w1 m1) (finds_first_only w2 f2 g2 d2 s2 l2) = absurd (f2 c1 m1)
  equality_one (equality_covers_forward c1 w1 m1) (finds_second_only w2 f2 g2 d2 s2 k2 l2) = absurd (f2 c1 m1)
  equality_one (equality_covers_forward c1 w1 m1) (finds_no_one_shown w2 f2 g2 d2 l2) = absurd (f2 c1 m1)
  equality_one (equality_covers_backward c1 w1 f1 m1) (equality_passes p2) = absurd (over_pair p2 w1)
  equality_one (equality_covers_backward c1 w1 f1 m1) (equality_covers_forward c2 w2 m2) = absurd (f1 c2 m2)
  equality_one (equality_covers_backward c1 w1 f1 m1) (equality_covers_backward c2 w2 f2 m2) = row_limits
  equality_one (equality_covers_backward c1 w1 f1 m1) (finds_equal w2 f2 g2 i2 j2) = absurd (g2 c1 m1)
  equality_one (equality_covers_backward c1 w1 f1 m1) (finds_first_only w2 f2 g2 d2 s2 l2) = absurd (g2 c1 m1)
  equality_one (equality_covers_backward c1 w1 f1 m1) (finds_second_only w2 f2 g2 d2 s2 k2 l2) = absurd (g2 c1 m1)
  equality_one (equality_covers_backward c1 w1 f1 m1) (finds_no_one_shown w2 f2 g2 d2 l2) = absurd (g2 c1 m1)
  equality_one (finds_equal w1 f1 g1 i1 j1) (equality_passes p2) = absurd (over_pair p2 w1)
  equality_one (finds_equal w1 f1 g1 i1 j1) (equality_covers_forward c2 w2 m2) = absurd (f1 c2 m2)
  equality_one (finds_equal w1 f1 g1 i1 j1) (equality_covers_backward c2 w2 f2 m2) = absurd (g1 c2 m2)
  equality_one (finds_equal w1 f1 g1 i1 j1) (finds_equal w2 f2 g2 i2 j2) = same_answer
  equality_one (finds_equal w1 f1 g1 i1 j1) (finds_first_only w2 f2 g2 d2 s2 l2) = absurd (not_different i1 d2)
  equality_one (finds_equal w1 f1 g1 i1 j1) (finds_second_only w2 f2 g2 d2 s2 k2 l2) = absurd (not_different j1 d2)
  equality_one (finds_equal w1 f1 g1 i1 j1) (finds_no_one_shown w2 f2 g2 d2 l2) = absurd (equal_not_of_one i1 j1 d2)
  equality_one (finds_first_only w1 f1 g1 d1 s1 l1) (equality_passes p2) = absurd (over_pair p2 w1)
  equality_one (finds_first_only w1 f1 g1 d1 s1 l1) (equality_covers_forward c2 w2 m2) = absurd (f1 c2 m2)
  equality_one (finds_first_only w1 f1 g1 d1 s1 l1) (equality_covers_backward c2 w2 f2 m2) = absurd (g1 c2 m2)
  equality_one (finds_first_only w1 f1 g1 d1 s1 l1) (finds_equal w2 f2 g2 i2 j2) = absurd (not_different i2 d1)
  equality_one (finds_first_only w1 f1 g1 d1 s1 l1) (finds_first_only w2 f2 g2 d2 s2 l2) = documents_of_first
  equality_one (finds_first_only w1 f1 g1 d1 s1 l1) (finds_second_only w2 f2 g2 d2 s2 k2 l2) = absurd (let less = k2 _ d1 in let least = l1 _ (inr d2) in omega (arith, less, least))
  equality_one (finds_first_only w1 f1 g1 d1 s1 l1) (finds_no_one_shown w2 f2 g2 d2 l2) = absurd (let far = l2 _ (inl d1) in omega (arith, far, s1.few))
  equality_one (finds_second_only w1 f1 g1 d1 s1 k1 l1) (equality_passes p2) = absurd (over_pair p2 w1)
  equality_one (finds_second_only w1 f1 g1 d1 s1 k1 l1) (equality_covers_forward c2 w2 m2) = absurd (f1 c2 m2)
  equality_one (finds_second_only w1 f1 g1 d1 s1 k1 l1) (equality_covers_backward c2 w2 f2 m2) = absurd (g1 c2 m2)
  equality_one (finds_second_only w1 f1 g1 d1 s1 k1 l1) (finds_equal w2 f2 g2 i2 j2) = absurd (not_different j2 d1)
  equality_one (finds_second_only w1 f1 g1 d1 s1 k1 l1) (finds_first_only w2 f2 g2 d2 s2 l2) = absurd (let less = k1 _ d2 in let least = l2 _ (inr d1) in omega (arith, less, least))
  equality_one (finds_second_only w1 f1 g1 d1 s1 k1 l1) (finds_second_only w2 f2 g2 d2 s2 k2 l2) = documents_of_second
  equality_one (finds_second_only w1 f1 g1 d1 s1 k1 l1) (finds_no_one_shown w2 f2 g2 d2 l2) = absurd (let far = l2 _ (inr d1) in omega (arith, far, s1.few))
  equality_one (finds_no_one_shown w1 f1 g1 d1 l1) (equality_passes p2) = absurd (over_pair p2 w1)
  equality_one (finds_no_one_shown w1 f1 g1 d1 l1) (equality_covers_forward c2 w2 m2) = absurd (f1 c2 m2)
  equality_one (finds_no_one_shown w1 f1 g1 d1 l1) (equality_covers_backward c2 w2 f2 m2) = absurd (g1 c2 m2)
  equality_one (finds_no_one_shown w1 f1 g1 d1 l1) (finds_equal w2 f2 g2 i2 j2) = absurd (equal_not_of_one i2 j2 d1)
  equality_one (finds_no_one_shown w1 f1 g1 d1 l1) (finds_first_only w2 f2 g2 d2 s2 l2) = absurd (let far = l1 _ (inl d2) in omega (arith, far, s2.few))
  equality_one (finds_no_one_shown w1 f1 g1 d1 l1) (finds_second_only w2 f2 g2 d2 s2 k2 l2) = absurd (let far = l1 _ (inr d2) in omega (arith, far, s2.few))
  equality_one (finds_no_one_shown w1 f1 g1 d1 l1) (finds_no_one_shown w2 f2 g2 d2 l2) = same_answer

finds_one : (a b : Grammar) (question : Question) (one other : Answer) → FindsBoth a b question one → FindsBoth a b question other → AreAlike one other
finds_one a b inclusion one other x y = inclusion_one x y
finds_one a b equality one other x y = equality_one x y

finds_same : (question : Question) (a b c d : Grammar) (answer : Answer) → a ≡ c → b ≡ d → FindsBoth a b question answer → FindsBoth c d question answer
finds_same question a b c d answer p q x = subst (λ (g : Grammar). FindsBoth c g question answer) q (subst (λ (g : Grammar). FindsBoth g b question answer) p x)

-- what is decided, the texts being read
pub compared_of : {question : Question} {first second c d : List ℕ} {a b : Grammar} {answer : Answer} → SchemaText first c a → SchemaText second d b → Compares question first second c d answer → FindsBoth a b question answer
compared_of x y (first_refused {reason = w} {place = p} r) = absurd (no_schema w p r x)
compared_of x y (second_refused {reason = w} {place = p} g r) = absurd (no_schema w p r y)
compared_of {question = question} {a = a} {b = b} {answer = answer} x y (both_schemas {a = g} {b = h} k l f) = finds_same question g h a b answer (one_schema k x) (one_schema l y) f

-- the answer that the texts decide is one
pub compares_one : {question : Question} {first second c d : List ℕ} {one other : Answer} → Compares question first second c d one → Compares question first second c d other → AreAlike one other
compares_one {first = n} (first_refused r) (first_refused q) = text_refusals n r q
compares_one (first_refused {reason = w} {place = p} r) (second_refused g q) = absurd (no_schema w p r g)
compares_one (first_refused {reason = w} {place = p} r) (both_schemas g h f) = absurd (no_schema w p r g)
compares_one (second_refused g r) (first_refused {reason = w} {place = p} q) = absurd (no_schema w p q g)
compares_one {second = n} (second_refused g r) (second_refused h q) = text_refusals n r q
compares_one (second_refused {reason = w} {place = p} g r) (both_schemas h k f) = absurd (no_schema w p r k)
compares_one (both_schemas g h f) (first_refused {reason = w} {place = p} q) = absurd (no_schema w p q g)
compares_one (both_schemas g h f) (second_refused {reason = w} {place = p} k q) = absurd (no_schema w p q h)
compares_one {question = question} {first = n} {second = m} {one = one} {other = other} (both_schemas {a = i} {b = j} g h f) (both_schemas k l e) = finds_one i j question one other f (compared_of {question = question} {first = n} {second = m} {answer = other} g h (both_schemas k l e))
