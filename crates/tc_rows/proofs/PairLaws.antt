-- Laws of sets of pairs.
use Rattle.std.proofs.Common.{◌≡◌, Bool, true, false}
use Rattle.tc_rows.specs.PairSets.{PairSet, HaveSamePairs, product, chosen}

pub same_self : (r : PairSet) → HaveSamePairs r r
same_self r = λ i j. (λ h. h, λ h. h)

pub same_back : (r s : PairSet) → HaveSamePairs r s → HaveSamePairs s r
same_back r s e = λ i j. ((e i j).1, (e i j).0)

pub same_on : (r s t : PairSet) → HaveSamePairs r s → HaveSamePairs s t → HaveSamePairs r t
same_on r s t e f = λ i j. (λ h. (f i j).0 ((e i j).0 h), λ h. (e i j).1 ((f i j).1 h))

pub product_same : (r r2 s s2 : PairSet) → HaveSamePairs r r2 → HaveSamePairs s s2 → HaveSamePairs (product r s) (product r2 s2)
product_same r r2 s s2 e f = λ i j. (λ h. (h.0, (e i h.0).0 h.1, (f h.0 j).0 h.2), λ h. (h.0, (e i h.0).1 h.1, (f h.0 j).1 h.2))

pub chosen_same : (b c : Bool) (r r2 s s2 : PairSet) → b ≡ c → HaveSamePairs r r2 → HaveSamePairs s s2 → HaveSamePairs (chosen b r s) (chosen c r2 s2)
chosen_same true true r r2 s s2 is e f = e
chosen_same true false r r2 s s2 is e f = cc
chosen_same false true r r2 s s2 is e f = cc
chosen_same false false r r2 s s2 is e f = f

-- what is chosen, where it is known which
pub chosen_first : (b : Bool) (r s : PairSet) → b ≡ true → HaveSamePairs (chosen b r s) r
chosen_first true r s e = same_self r
chosen_first false r s e = cc

pub chosen_second : (b : Bool) (r s : PairSet) → b ≡ false → HaveSamePairs (chosen b r s) s
chosen_second true r s e = cc
chosen_second false r s e = same_self s
