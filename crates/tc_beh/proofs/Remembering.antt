-- What is remembered of products stays true where more sets are held.
use Rattle.std.proofs.Common.{◌≡◌, ◌<◌, ◌++◌, ◌∷◌, [], ℕ, List, length, get_or, slice_get, Option, None, Some, IfSome, Result, Ok, Err, IfOk, OnErr, subst, sym, ap, ◌∙◌, arith}
use Rattle.std.proofs.lemmas.Option.{get_or_from_slice_get, slice_get_within}
use Rattle.tc_mat.specs.Matrix.{Matrix, IsIdentity, IsComposition}
use Rattle.tc_mat.specs.Held.{Held, AreMatrices}
use Rattle.tc_mat.specs.declared.pools.MatId.{MatId}
use Rattle.tc_mat.specs.declared.pools.PoolFault.{PoolFault}
use Rattle.tc_beh.specs.Held.{Extends, set_at}
use Rattle.tc_beh.specs.Places.{no_matrix}
use Rattle.tc_beh.specs.Remembered.{IsNothing, IsProduct, AreRemembered}
use Rattle.tc_beh.specs.declared.products.Product.{Product}
use Rattle.tc_beh.proofs.Holding.{extends_at, extends_count}
use Rattle.tc_beh.proofs.PutLaws.{identity_first, identity_last}

pub product_on : (a b : Held) → Extends a b → (i j k : ℕ) → IsProduct a i j k → IsProduct b i j k
product_on a b e i j k is =
    let more = extends_count a b e in
    let l = is.first_low in
    let m = is.second_low in
    let n = is.low in
    record {
      first_low = omega (arith, l, more);
      second_low = omega (arith, m, more);
      low = omega (arith, n, more);
      pairs = subst (λ v. IsComposition v (set_at b j) (set_at b k)) (sym (extends_at a b e i l))
          (subst (λ v. IsComposition (set_at a i) v (set_at b k)) (sym (extends_at a b e j m)) (subst (λ v. IsComposition (set_at a i) (set_at a j) v) (sym (extends_at a b e k n)) is.pairs));
    }

one_on : (a b : Held) → Extends a b → (o : Option Product) → IfSome o (λ p. IsProduct a p.first p.second p.product) → IfSome o (λ p. IsProduct b p.first p.second p.product)
one_on a b e None is = is
one_on a b e (Some p) is = product_on a b e p.first p.second p.product is

pub remembered_on : (a b : Held) → Extends a b → (ps : List (Option Product)) → AreRemembered a ps → AreRemembered b ps
remembered_on a b e ps are = λ k d low. one_on a b e (get_or ps k d) (are k d low)

pub remembered_more : (a b : Held) (m : Matrix) (r : Result MatId PoolFault) (ps : List (Option Product)) → IfOk r (λ id. (id.0 ≡ length a.matrices) × (b ≡ record a { matrices = a.matrices ++ m ∷ [] })) → OnErr r (b ≡ a) → AreRemembered a ps
    → AreRemembered b ps
remembered_more a b m (Ok id) ps ok err are = remembered_on a b (record { size = ap (λ (h : Held). h.size) ok.1; more = m ∷ []; all = ap (λ (h : Held). h.matrices) ok.1 }) ps are
remembered_more a b m (Err f) ps ok err are = subst (λ h. AreRemembered h ps) (sym err) are

-- the set of each state with itself stays that
pub nothing_on : (a b : Held) → Extends a b → (k : ℕ) → IsNothing a k → IsNothing b k
nothing_on a b e k is =
    let same : set_at b k ≡ set_at a k = extends_at a b e k is.low in
    let low = is.low in
    record { low = omega (arith, low, extends_count a b e); is = subst IsIdentity (sym same) is.is; size = ap (λ (m : Matrix). m.size) same ∙ (is.size ∙ sym e.size) }

pub nothing_more : (a b : Held) (m : Matrix) (r : Result MatId PoolFault) (o : Option ℕ) → IfOk r (λ id. (id.0 ≡ length a.matrices) × (b ≡ record a { matrices = a.matrices ++ m ∷ [] })) → OnErr r (b ≡ a) → IfSome o (IsNothing a)
    → IfSome o (IsNothing b)
nothing_more a b m r None ok err is = tt
nothing_more a b m (Ok id) (Some k) ok err is = nothing_on a b (record { size = ap (λ (h : Held). h.size) ok.1; more = m ∷ []; all = ap (λ (h : Held). h.matrices) ok.1 }) k is
nothing_more a b m (Err f) (Some k) ok err is = subst (λ h. IsNothing h k) (sym err) is

-- a set that was held is that, if it is it
pub nothing_held : (b : Held) (m : Matrix) (r : Result MatId PoolFault) → IsIdentity m → m.size ≡ b.size → IfOk r (λ id. slice_get b.matrices id.0 ≡ Some m) → IfOk r (λ id. IsNothing b id.0)
nothing_held b m (Ok id) is size at =
    let here : set_at b id.0 ≡ m = get_or_from_slice_get b.matrices id.0 m no_matrix at in
    record { low = slice_get_within b.matrices id.0 m at; is = subst IsIdentity (sym here) is; size = ap (λ (n : Matrix). n.size) here ∙ size }
nothing_held b m (Err f) is size at = tt

pub size_more : (a b : Held) (m : Matrix) (r : Result MatId PoolFault) → IfOk r (λ id. (id.0 ≡ length a.matrices) × (b ≡ record a { matrices = a.matrices ++ m ∷ [] })) → OnErr r (b ≡ a) → b.size ≡ a.size
size_more a b m (Ok id) ok err = ap (λ (h : Held). h.size) ok.1
size_more a b m (Err f) ok err = ap (λ (h : Held). h.size) err

-- a product with it is the other set
module _ (h : Held) (are : AreMatrices h) (z : ℕ) (is : IsNothing h z) where
  pub nothing_first : (k : ℕ) → k < length h.matrices → IsProduct h z k k
  nothing_first k low = record { first_low = is.low; second_low = low; low = low; pairs = identity_first (set_at h z) (set_at h k) is.is ((are k no_matrix low).0 ∙ sym is.size) }

  pub nothing_second : (k : ℕ) → k < length h.matrices → IsProduct h k z k
  nothing_second k low = record { first_low = low; second_low = is.low; low = low; pairs = identity_last (set_at h k) (set_at h z) is.is ((are k no_matrix low).0 ∙ sym is.size) }

-- what is worked out of sets that were held before
pub product_of : (a b : Held) → Extends a b → (i j k : ℕ) → i < length a.matrices → j < length a.matrices → k < length b.matrices → IsComposition (set_at a i) (set_at a j) (set_at b k) → IsProduct b i j k
product_of a b e i j k l m n is =
    let more = extends_count a b e in
    record {
      first_low = omega (arith, l, more);
      second_low = omega (arith, m, more);
      low = n;
      pairs = subst (λ v. IsComposition v (set_at b j) (set_at b k)) (sym (extends_at a b e i l)) (subst (λ v. IsComposition (set_at a i) v (set_at b k)) (sym (extends_at a b e j m)) is);
    }
