-- The numbers of a stylesheet are in range.
use Rattle.std.proofs.Common.{◌≡◌, ℕ, ◌+◌, ◌<◌, ◌≤◌, List, [], ◌∷◌, ◌++◌, sym, subst, arith, Option, None, Some, length}
use Rattle.std.specs.List.{AllByRecursion}
use Rattle.tc_model.specs.Names.{ExpandedName, same_name}
use Rattle.tc_model.specs.Numbered.{number_of}
use Rattle.tc_model.specs.Sheets.{Sheet}
use Rattle.tc_model.specs.WellFormed.{IsBody, AreBranches}
use Rattle.tc_model.specs.SheetTextTrees.{WrittenBody, w_nothing, w_text, w_element, w_copy, w_apply, w_call, w_value, w_self, w_choose, w_each, WrittenBranches, w_otherwise, w_branch}
use Rattle.tc_model.specs.SheetText.{one_name, modes_in_body, modes_in_branches, Call, calls_in_body, calls_in_branches, eaches_in, eaches_in_branches, mode_number, numbered, numbered_branches}
use Rattle.tc_sheet.proofs.LawfulBodies.{IsWritten, AreWritten}

pub split : {X : Type 0} (P : X → Type 0) (xs ys : List X) → AllByRecursion P (xs ++ ys) → AllByRecursion P xs × AllByRecursion P ys
split P [] ys a = (tt, a)
split P (x ∷ xs) ys a = let (b, c) = split P xs ys a.1 in ((a.0, b), c)

pub append_all : {X : Type 0} (P : X → Type 0) (xs ys : List X) → AllByRecursion P xs → AllByRecursion P ys → AllByRecursion P (xs ++ ys)
append_all P [] ys a b = b
append_all P (x ∷ xs) ys a b = (a.0, append_all P xs ys a.1 b)

module _ (modes names : List ExpandedName) (s : Sheet) (modes_are : s.modes ≡ 1 + length modes) (named_are : length s.named ≡ length names) where
  abbrev pub HasMode : ExpandedName → Type 0
  HasMode m = number_of same_name m modes < length modes

  abbrev pub HasName : Call → Type 0
  HasName c = number_of same_name c.name names < length names

  pub mode_below : (mode : Option ExpandedName) → AllByRecursion HasMode (one_name mode) → mode_number modes names mode < s.modes
  mode_below None a = subst (λ k. 0 < k) (sym modes_are) (omega arith)
  mode_below (Some m) a = let below = a.0 in subst (λ k. 1 + number_of same_name m modes < k) (sym modes_are) (omega arith)

  name_below : (c : Call) → HasName c → number_of same_name c.name names < length s.named
  name_below c h = subst (λ k. number_of same_name c.name names < k) (sym named_are) h

  mutual
    pub numbered_is : (k : ℕ) (b : WrittenBody) → IsWritten b → AllByRecursion HasMode (modes_in_body b) → AllByRecursion HasName (calls_in_body b) → k + eaches_in b ≤ s.eaches → IsBody s (numbered modes names k b)
    numbered_is k w_nothing w m c l = tt
    numbered_is k (w_text x b) w m c l = (w.0, numbered_is k b w.1 m c l)
    numbered_is k (w_element n inner b) w m c l =
        let (mi, mb) = split HasMode (modes_in_body inner) (modes_in_body b) m in
        let (ci, cb) = split HasName (calls_in_body inner) (calls_in_body b) c in
        (w.0, numbered_is k inner w.1 mi ci (omega arith), numbered_is (k + eaches_in inner) b w.2 mb cb (omega arith))
    numbered_is k (w_copy inner b) w m c l =
        let (mi, mb) = split HasMode (modes_in_body inner) (modes_in_body b) m in
        let (ci, cb) = split HasName (calls_in_body inner) (calls_in_body b) c in
        (numbered_is k inner w.0 mi ci (omega arith), numbered_is (k + eaches_in inner) b w.1 mb cb (omega arith))
    numbered_is k (w_apply q mode b) w m c l =
        let (mi, mb) = split HasMode (one_name mode) (modes_in_body b) m in
        (w.0, mode_below mode mi, numbered_is k b w.1 mb c l)
    numbered_is k (w_call n q b) w m c l = (name_below (record { name = n; place = q }) c.0, numbered_is k b w m c.1 l)
    numbered_is k (w_value q b) w m c l = (w.0, numbered_is k b w.1 m c l)
    numbered_is k (w_self b) w m c l = numbered_is k b w m c l
    numbered_is k (w_choose x b) w m c l =
        let (mi, mb) = split HasMode (modes_in_branches x) (modes_in_body b) m in
        let (ci, cb) = split HasName (calls_in_branches x) (calls_in_body b) c in
        (branches_are k x w.0 mi ci (omega arith), numbered_is (k + eaches_in_branches x) b w.1 mb cb (omega arith))
    numbered_is k (w_each q inner b) w m c l =
        let (mi, mb) = split HasMode (modes_in_body inner) (modes_in_body b) m in
        let (ci, cb) = split HasName (calls_in_body inner) (calls_in_body b) c in
        (omega arith, w.0, numbered_is (k + 1) inner w.1 mi ci (omega arith), numbered_is (k + 1 + eaches_in inner) b w.2 mb cb (omega arith))

    pub branches_are : (k : ℕ) (x : WrittenBranches) → AreWritten x → AllByRecursion HasMode (modes_in_branches x) → AllByRecursion HasName (calls_in_branches x) → k + eaches_in_branches x ≤ s.eaches
        → AreBranches s (numbered_branches modes names k x)
    branches_are k (w_otherwise b) w m c l = numbered_is k b w m c l
    branches_are k (w_branch t b x) w m c l =
        let (mi, mb) = split HasMode (modes_in_body b) (modes_in_branches x) m in
        let (ci, cb) = split HasName (calls_in_body b) (calls_in_branches x) c in
        (w.0, numbered_is k b w.1 mi ci (omega arith), branches_are (k + eaches_in b) x w.2 mb cb (omega arith))
