-- What the instructions of a body put, one after the other.
use Rattle.std.proofs.Common.{◌≡◌, ◌+◌, ◌<◌, ◌≤◌, ℕ, max, List, [], ◌∷◌, Bool, true, false, drop, length, get_or, subst, sym, ap, ◌∙◌, arith}
use Rattle.std.proofs.lemmas.List.{drop_all, get_or_default}
use Rattle.tc_model.specs.declared.sheet.Branch.{Branch, roll-Branch}
use Rattle.tc_model.specs.declared.sheet.Test.TheVariants.{True}
use Rattle.tc_model.proofs.ViewsBody.{left_branch}
use Rattle.tc_rules.specs.Parts.{IsPart, IsPartTest, ArePartBranches}
use Rattle.tc_beh.specs.Heights.{depth_in, depth_in_branches}
use Rattle.tc_beh.proofs.Looking.{finds}
use Rattle.tc_beh.proofs.Placed.{look_is}
use Rattle.tc_mat.specs.Matrix.{Matrix}
use Rattle.tc_model.specs.Sheets.{Sheet, Test, Body, Branches, otherwise, no_instruction}
use Rattle.tc_model.specs.Views as see
use Rattle.tc_model.specs.declared.sheet.Instr.{Instr}
use Rattle.tc_rows.specs.Triples.{Triple, outputs}
use Rattle.tc_rows.specs.PairSets.{PairSet, HaveSamePairs, product, chosen}
use Rattle.tc_rows.proofs.PairLaws.{same_self, same_on, same_back, product_same, chosen_first, chosen_second}
use Rattle.tc_rows.specs.Bodies.{stay, holds_by}
use Rattle.tc_beh.specs.Putting.{has, Extends, put_pairs, put_branch_pairs}
use Rattle.tc_beh.specs.Places.{IsPlaceIn, kind_of, below_of, called_by, size_at}
use Rattle.tc_beh.specs.declared.bodies.Place.{Place}
use Rattle.tc_beh.proofs.PutLaws.{put_nothing, nothing_put}

abbrev pub P : Triple → Place → Body → PairSet
P x p b = put_pairs x (kind_of p.node) (below_of x p) (called_by p) b

abbrev pub Q : Triple → Place → Branches → PairSet
Q x p y = put_branch_pairs x (kind_of p.node) (below_of x p) (called_by p) y

-- an instruction by what is seen of it
pub arm : (x : Triple) (p : Place) (i : Instr) (rest b : Body) (old new : Matrix) → see.instruction i rest ≡ b → HaveSamePairs (product (has new) (P x p rest)) (product (has old) (P x p b))
    → HaveSamePairs (product (has new) (P x p rest)) (product (has old) (P x p (see.instruction i rest)))
arm x p i rest b old new e h = subst (λ z. HaveSamePairs (product (has new) (P x p rest)) (product (has old) (P x p z))) (sym e) h

-- what stands past the end of branches
abbrev pub no_branch : Branch
no_branch = roll-Branch (record { test = True; body = record { ref_ptr = (0, 0); now = [] } })

pub branch_is : (bs : List Branch) (k : ℕ) (d : Branch) → k < length bs → get_or bs k d ≡ get_or bs k (get_or bs k d)
branch_is bs k d h = sym (get_or_default bs k (get_or bs k d) d h)

-- the branch that comes next, and those after it
pub branch_part_at : (x : Sheet) (bs : List Branch) (k : ℕ) (b : Branch) (rest : Branches) → k < length bs → b ≡ get_or bs k b → ArePartBranches x (see.branches (drop k bs) rest)
    → IsPartTest x (see.test b.test) × IsPart x (see.body b.body.now) × ArePartBranches x (see.branches (drop (k + 1) bs) rest)
branch_part_at x bs k b rest h e p = subst (ArePartBranches x) (left_branch bs k b rest h e) p

pub branch_depth_at : (bs : List Branch) (k : ℕ) (b : Branch) (rest : Branches) → k < length bs → b ≡ get_or bs k b
    → depth_in_branches (see.branches (drop k bs) rest) ≡ max (depth_in (see.body b.body.now)) (depth_in_branches (see.branches (drop (k + 1) bs) rest))
branch_depth_at bs k b rest h e = ap depth_in_branches (left_branch bs k b rest h e)

-- branches alone, and with the last body
pub branches_part : (x : Sheet) (bs : List Branch) (last : Body) → ArePartBranches x (see.branches bs (otherwise last)) → ArePartBranches x (see.branches bs (otherwise no_instruction)) × IsPart x last
branches_part x [] last h = (tt, h)
branches_part x (b ∷ bs) last h = let (m, l) = branches_part x bs last h.2 in ((h.0, h.1, m), l)

pub branches_depth : (bs : List Branch) (last : Body) → depth_in_branches (see.branches bs (otherwise last)) ≡ max (depth_in_branches (see.branches bs (otherwise no_instruction))) (depth_in last)
branches_depth [] last = omega arith
branches_depth (b ∷ bs) last = omega (arith, branches_depth bs last)

module _ (x : Triple) (p : Place) (ok : IsPlaceIn x p) where
  test_is : (t : Test) (b : Bool) → b ≡ holds_by t (finds x p.looks.now) → b ≡ holds_by t (below_of x p).look
  test_is t b e = e ∙ ap (holds_by t) (λ i w. look_is x p ok w i)

  -- the branch that comes next, by whether its test holds
  pub branch_taken : (bs : List Branch) (k : ℕ) (b : Branch) (rest : Branches) (r : Bool) → k < length bs → b ≡ get_or bs k b → r ≡ holds_by (see.test b.test) (finds x p.looks.now) → r ≡ true
      → HaveSamePairs (P x p (see.body b.body.now)) (Q x p (see.branches (drop k bs) rest))
  branch_taken bs k b rest r h e same is =
      let test : holds_by (see.test b.test) (below_of x p).look ≡ true = sym (test_is (see.test b.test) r same) ∙ is in
      subst (λ y. HaveSamePairs (P x p (see.body b.body.now)) (Q x p y)) (sym (left_branch bs k b rest h e))
      (same_back (chosen (holds_by (see.test b.test) (below_of x p).look) (P x p (see.body b.body.now)) (Q x p (see.branches (drop (k + 1) bs) rest))) (P x p (see.body b.body.now))
      (chosen_first (holds_by (see.test b.test) (below_of x p).look) (P x p (see.body b.body.now)) (Q x p (see.branches (drop (k + 1) bs) rest)) test))

  pub branch_passed : (bs : List Branch) (k : ℕ) (b : Branch) (rest : Branches) (r : Bool) → k < length bs → b ≡ get_or bs k b → r ≡ holds_by (see.test b.test) (finds x p.looks.now) → r ≡ false
      → HaveSamePairs (Q x p (see.branches (drop (k + 1) bs) rest)) (Q x p (see.branches (drop k bs) rest))
  branch_passed bs k b rest r h e same is =
      let test : holds_by (see.test b.test) (below_of x p).look ≡ false = sym (test_is (see.test b.test) r same) ∙ is in
      subst (λ y. HaveSamePairs (Q x p (see.branches (drop (k + 1) bs) rest)) (Q x p y)) (sym (left_branch bs k b rest h e))
      (same_back (chosen (holds_by (see.test b.test) (below_of x p).look) (P x p (see.body b.body.now)) (Q x p (see.branches (drop (k + 1) bs) rest))) (Q x p (see.branches (drop (k + 1) bs) rest))
      (chosen_second (holds_by (see.test b.test) (below_of x p).look) (P x p (see.body b.body.now)) (Q x p (see.branches (drop (k + 1) bs) rest)) test))

-- one was taken, and then nothing more of the branches
pub taken : (x : Triple) (new old : Matrix) (here all rest : PairSet) (b : Bool) → b ≡ true → new.size ≡ outputs x → HaveSamePairs here all → Extends old new here
    → HaveSamePairs (product (has new) (chosen b (stay x) rest)) (product (has old) all)
taken x new old here all rest false e size same put = cc
taken x new old here all rest true e size same put =
    same_on (product (has new) (stay x)) (has new) (product (has old) all) (nothing_put new (outputs x) size)
    (same_on (has new) (product (has old) here) (product (has old) all) put (product_same (has old) (has old) here all (same_self (has old)) same))

pub not_taken : (x : Triple) (old : Matrix) (rest all : PairSet) (b : Bool) → b ≡ false → HaveSamePairs rest all
    → HaveSamePairs (product (has old) (chosen b (stay x) rest)) (product (has old) all)
not_taken x old rest all true e same = cc
not_taken x old rest all false e same = product_same (has old) (has old) rest all (same_self (has old)) same

-- the first branch that holds was put, or else the last
pub first_taken : (x : Triple) (new old : Matrix) (r all : PairSet) (b : Bool) → b ≡ true → new.size ≡ outputs x → HaveSamePairs (product (has new) (chosen b (stay x) r)) (product (has old) all) → Extends old new all
first_taken x new old r all false e size h = cc
first_taken x new old r all true e size h = same_on (has new) (product (has new) (stay x)) (product (has old) all) (put_nothing new (outputs x) size) h

pub last_taken : (x : Triple) (new mid old : Matrix) (r all : PairSet) (b : Bool) → b ≡ false → HaveSamePairs (product (has mid) (chosen b (stay x) r)) (product (has old) all) → Extends mid new r → Extends old new all
last_taken x new mid old r all true e h put = cc
last_taken x new mid old r all false e h put = same_on (has new) (product (has mid) r) (product (has old) all) put h

-- at the end nothing is left
pub put_end : (x : Triple) (p : Place) → IsPlaceIn x p → (is : List Instr) (k : ℕ) (now old : Matrix) → now.size ≡ size_at p → length is ≤ k
    → HaveSamePairs (product (has now) (P x p (see.body (drop k is)))) (product (has old) (P x p (see.body is))) → Extends old now (P x p (see.body is))
put_end x p ok is k now old size past h =
    let none : see.body (drop k is) ≡ no_instruction = ap see.body (drop_all k is past) in
    same_on (has now) (product (has now) (P x p no_instruction)) (product (has old) (P x p (see.body is)))
    (same_back (product (has now) (P x p no_instruction)) (has now) (nothing_put now (outputs x) (size ∙ ok.size)))
    (subst (λ b. HaveSamePairs (product (has now) (P x p b)) (product (has old) (P x p (see.body is)))) none h)
