-- What a body puts by the sets of the bodies that it calls is what it puts with calls in place.
use Rattle.std.proofs.Common.{◌+◌, ℕ, List, [], ◌∷◌, refl, arith, Contains}
use Rattle.tc_model.specs.Sheets.{Body, Branches, CallFreeBody, CallFreeBranches, Inlines, u_done, u_text, u_element, u_copy, u_apply, u_call, u_value, u_self, u_choose, u_each, BranchesInline, u_otherwise, u_branch}
use Rattle.tc_model.specs.Symbols.{symbol_of}
use Rattle.tc_rows.specs.Triples.{Triple, sheet}
use Rattle.tc_rows.specs.PairSets.{PairSet, HaveSamePairs}
use Rattle.tc_rows.specs.Rows.{bears_value}
use Rattle.tc_rows.specs.Bodies.{NodeKind, on_root, on_element, on_text, Below, body_pairs, branch_pairs, holds_by, stay, around, text_edges, text_pairs, value_pairs, copied_pairs, self_bears}
use Rattle.tc_rows.proofs.PairLaws.{same_self, product_same, chosen_same}
use Rattle.tc_beh.specs.Callees.{callees_in, callees_in_branches}
use Rattle.tc_beh.specs.Putting.{put_pairs, put_branch_pairs, IsCalled}
use Rattle.tc_beh.proofs.PutLaws.{around_same}
use Rattle.tc_beh.proofs.Heights.{front_of, back_of}

module _ (x : Triple) (k : NodeKind) (w : Below) (called : ℕ → PairSet) where
  abbrev AllCalled : List ℕ → Type 0
  AllCalled ns = (n : ℕ) → Contains ns n → IsCalled x k w called n

  copied_same : (kind : NodeKind) (r s : PairSet) → HaveSamePairs r s → HaveSamePairs (copied_pairs x kind r) (copied_pairs x kind s)
  copied_same on_root r s e = e
  copied_same (on_element a) r s e = around_same x a r s e
  copied_same on_text r s e = same_self (text_edges x)

  abbrev F : Body → PairSet
  F b = put_pairs x k w called b

  abbrev G : CallFreeBody → PairSet
  G p = body_pairs x p k w

  mutual
    pub put_is : {b : Body} {p : CallFreeBody} → Inlines (sheet x).named b p → AllCalled (callees_in b) → HaveSamePairs (F b) (G p)
    put_is u_done h = same_self (stay x)
    put_is (u_text {x = s} {b} {p} u) h = product_same (text_pairs x s) (text_pairs x s) (F b) (G p) (same_self (text_pairs x s)) (put_is u h)
    put_is (u_element {n} {i} {b} {o} {p} v u) h =
        product_same (around x (symbol_of x.symbols n) (F i)) (around x (symbol_of x.symbols n) (G o)) (F b) (G p)
        (around_same x (symbol_of x.symbols n) (F i) (G o) (put_is v (λ m c. h m (front_of (callees_in i) (callees_in b) m c))))
        (put_is u (λ m c. h m (back_of (callees_in i) (callees_in b) m c)))
    put_is (u_copy {i} {b} {o} {p} v u) h =
        product_same (copied_pairs x k (F i)) (copied_pairs x k (G o)) (F b) (G p)
        (copied_same k (F i) (G o) (put_is v (λ m c. h m (front_of (callees_in i) (callees_in b) m c))))
        (put_is u (λ m c. h m (back_of (callees_in i) (callees_in b) m c)))
    put_is (u_apply {w = q} {m} {b} {p} u) h = product_same (w.pairs m q) (w.pairs m q) (F b) (G p) (same_self (w.pairs m q)) (put_is u h)
    put_is (u_call {n} {i} {b} {o} {p} at v u) h =
        product_same (called n) (G o) (F b) (G p) (h n (front_of (n ∷ []) (callees_in b) n (0, omega arith, refl)) i o at v)
        (put_is u (λ m c. h m (back_of (n ∷ []) (callees_in b) m c)))
    put_is (u_value {w = q} {b} {p} u) h =
        product_same (value_pairs x (bears_value (w.look q))) (value_pairs x (bears_value (w.look q))) (F b) (G p) (same_self (value_pairs x (bears_value (w.look q)))) (put_is u h)
    put_is (u_self {b} {p} u) h =
        product_same (value_pairs x (self_bears x k w.bears)) (value_pairs x (self_bears x k w.bears)) (F b) (G p) (same_self (value_pairs x (self_bears x k w.bears))) (put_is u h)
    put_is (u_choose {x = y} {b} {y = z} {p} v u) h =
        product_same (put_branch_pairs x k w called y) (branch_pairs x z k w) (F b) (G p)
        (branches_put v (λ m c. h m (front_of (callees_in_branches y) (callees_in b) m c)))
        (put_is u (λ m c. h m (back_of (callees_in_branches y) (callees_in b) m c)))
    put_is (u_each {e} {w = q} {i} {b} {o} {p} v u) h =
        product_same (w.pairs ((sheet x).modes + e) q) (w.pairs ((sheet x).modes + e) q) (F b) (G p) (same_self (w.pairs ((sheet x).modes + e) q))
        (put_is u (λ m c. h m (back_of (callees_in i) (callees_in b) m c)))

    branches_put : {y : Branches} {z : CallFreeBranches} → BranchesInline (sheet x).named y z → AllCalled (callees_in_branches y) → HaveSamePairs (put_branch_pairs x k w called y) (branch_pairs x z k w)
    branches_put (u_otherwise u) h = put_is u h
    branches_put (u_branch {t} {b} {x = y} {p} {y = z} u v) h =
        chosen_same (holds_by t w.look) (holds_by t w.look) (F b) (G p) (put_branch_pairs x k w called y) (branch_pairs x z k w) refl
        (put_is u (λ m c. h m (front_of (callees_in b) (callees_in_branches y) m c)))
        (branches_put v (λ m c. h m (back_of (callees_in b) (callees_in_branches y) m c)))
