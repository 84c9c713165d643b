-- Pairs that are put behind pairs.
use Rattle.std.proofs.Common.{◌≡◌, ◌<◌, ℕ, ◌+◌, Bool, true, false, not, refl, sym, subst}
use Rattle.tc_model.specs.States.{output, first_state, a_content}
use Rattle.tc_hedge.proofs.Leading.{first_below}
use Rattle.tc_mat.specs.Matrix.{Matrix, HasPair, IsIdentity, IsComposition}
use Rattle.tc_rows.specs.Triples.{Triple, outputs}
use Rattle.tc_rows.specs.PairSets.{PairSet, HaveSamePairs, identity, product, chosen}
use Rattle.tc_rows.specs.Bodies.{stay, around, text_edges}
use Rattle.tc_rows.proofs.PairLaws.{same_self, same_back, same_on, product_same}
use Rattle.tc_beh.specs.Putting.{has, Extends}

pub product_assoc : (r s t : PairSet) → HaveSamePairs (product (product r s) t) (product r (product s t))
product_assoc r s t = λ i j. (λ (k, (l, a, b), c). (l, a, (k, b, c)), λ (l, a, (k, b, c)). (k, (l, a, b), c))

-- what is put, and then the rest
pub then_put : (new old : Matrix) (r rest : PairSet) → Extends old new r → HaveSamePairs (product (has new) rest) (product (has old) (product r rest))
then_put new old r rest e =
    same_on (product (has new) rest) (product (product (has old) r) rest) (product (has old) (product r rest))
    (product_same (has new) (product (has old) r) rest rest e (same_self rest)) (product_assoc (has old) r rest)

-- what is put, said otherwise
pub put_same : (old new : Matrix) (r s : PairSet) → HaveSamePairs r s → Extends old new r → Extends old new s
put_same old new r s f e =
    same_on (has new) (product (has old) r) (product (has old) s) e (product_same (has old) (has old) r s (same_self (has old)) f)

pub has_low : (m : Matrix) (i j : ℕ) → HasPair m i j → (i < m.size) × (j < m.size)
unfolding HasPair
has_low m i j h = (h.0, h.1)

-- behind each number with itself
pub identity_first : (a b : Matrix) → IsIdentity a → b.size ≡ a.size → IsComposition a b b
identity_first a b is e = λ i j. (
  λ h. let low = has_low b i j h in (i, (is i i).1 (subst (λ k. i < k) e low.0, refl), h),
  λ (k, here, h). subst (λ n. HasPair b n j) (sym ((is i k).0 here).1) h,
)

-- and before it
pub identity_last : (a b : Matrix) → IsIdentity b → a.size ≡ b.size → IsComposition a b a
identity_last a b is e = λ i j. (
  λ h. let low = has_low a i j h in (j, h, (is j j).1 (subst (λ k. j < k) e low.1, refl)),
  λ (k, h, here). subst (λ n. HasPair a i n) ((is k j).0 here).1 h,
)

-- nothing is put
pub put_nothing : (m : Matrix) (n : ℕ) → m.size ≡ n → HaveSamePairs (has m) (product (has m) (identity n))
put_nothing m n e = λ i j. (
  λ h. let low = has_low m i j h in (j, h, (subst (λ k. j < k) e low.1, refl)),
  λ (l, h, (low, is)). subst (λ k. HasPair m i k) is h,
)

pub nothing_put : (m : Matrix) (n : ℕ) → m.size ≡ n → HaveSamePairs (product (has m) (identity n)) (has m)
nothing_put m n e = same_back (has m) (product (has m) (identity n)) (put_nothing m n e)

pub chosen_not : (b : Bool) (r s : PairSet) → HaveSamePairs (chosen (not b) r s) (chosen b s r)
chosen_not true r s = same_self s
chosen_not false r s = same_self r

module _ (x : Triple) where
  -- a text, by whether it is put
  pub text_put : (b : Bool) → HaveSamePairs (chosen (not b) (text_edges x) (stay x)) (chosen b (stay x) (text_edges x))
  text_put b = chosen_not b (text_edges x) (stay x)

  pub around_same : (a : ℕ) (r s : PairSet) → HaveSamePairs r s → HaveSamePairs (around x a r) (around x a s)
  around_same a r s e = λ i j. (
    λ (k, p, at, class, (y, led, accepts), edge). (k, p, at, class, (y, (e (first_state x.output output k) (first_state x.output output k + y)).0 led, accepts), edge),
    λ (k, p, at, class, (y, led, accepts), edge). (k, p, at, class, (y, (e (first_state x.output output k) (first_state x.output output k + y)).1 led, accepts), edge),
  )

  -- what begins with nothing, inside an element
  pub around_inside : (a : ℕ) (m : Matrix) (r : PairSet) → m.size ≡ outputs x → IsIdentity m → HaveSamePairs (around x a (product (has m) r)) (around x a r)
  around_inside a m r size is = λ i j. (
    λ (k, p, at, class, (y, (l, here, led), accepts), edge).
        let same = (is (first_state x.output output k) l).0 here in
        (k, p, at, class, (y, subst (λ n. r n (first_state x.output output k + y)) (sym same.1) led, accepts), edge),
    λ (k, p, at, class, (y, led, accepts), edge).
        let low : first_state x.output output k < outputs x = first_below x.output output (a_content at) in
        let here = (is (first_state x.output output k) (first_state x.output output k)).1 (subst (λ n. first_state x.output output k < n) (sym size) low, refl) in
        (k, p, at, class, (y, (first_state x.output output k, here, led), accepts), edge),
  )

  -- what is put, and nothing after it
  pub put_done : (old new : Matrix) (r : PairSet) → new.size ≡ outputs x → Extends old new r → Extends old new (product r (stay x))
  put_done old new r size e =
      same_on (has new) (product (has new) (stay x)) (product (has old) (product r (stay x))) (put_nothing new (outputs x) size) (then_put new old r (stay x) e)
