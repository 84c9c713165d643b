-- Bodies whose calls end can be unfolded.
use Rattle.std.proofs.Common.{◌≡◌, ℕ, List, [], ◌∷◌, ◌++◌, Some, slice_get}
use Rattle.std.specs.List.{AllByRecursion}
use Rattle.tc_model.specs.Sheets as s
use Rattle.tc_model.specs.Sheets.{Body, Branches, CallFreeBody, CallFreeBranches, Inlines, BranchesInline}
use Rattle.tc_sheet.proofs.LawfulNumbers.{split}

abbrev mutual
  -- the numbers of the bodies that a body calls
  pub called_in : Body → List ℕ
  called_in s.no_instruction = []
  called_in (s.put_text x b) = called_in b
  called_in (s.put_element n i b) = called_in i ++ called_in b
  called_in (s.copy i b) = called_in i ++ called_in b
  called_in (s.apply p m b) = called_in b
  called_in (s.call n b) = n ∷ called_in b
  called_in (s.value p b) = called_in b
  called_in (s.value_of_self b) = called_in b
  called_in (s.choose x b) = called_in_branches x ++ called_in b
  called_in (s.for_each e p i b) = called_in i ++ called_in b

  pub called_in_branches : Branches → List ℕ
  called_in_branches (s.otherwise b) = called_in b
  called_in_branches (s.branch t b x) = called_in b ++ called_in_branches x

module _ (named : List Body) where
  abbrev pub HasPlain : Body → Type 0
  HasPlain b = (p : CallFreeBody) × Inlines named b p

  abbrev pub CanCall : ℕ → Type 0
  CanCall n = (b : Body) × (slice_get named n ≡ Some b) × HasPlain b

  mutual
    -- a body unfolds where all that it calls do
    pub unfolds : (b : Body) → AllByRecursion CanCall (called_in b) → HasPlain b
    unfolds s.no_instruction a = (s.p_done, s.u_done)
    unfolds (s.put_text x b) a = let (p, u) = unfolds b a in (s.p_text x p, s.u_text u)
    unfolds (s.put_element n i b) a =
        let (ai, ab) = split CanCall (called_in i) (called_in b) a in
        let (o, v) = unfolds i ai in
        let (p, u) = unfolds b ab in
        (s.p_element n o p, s.u_element v u)
    unfolds (s.copy i b) a =
        let (ai, ab) = split CanCall (called_in i) (called_in b) a in
        let (o, v) = unfolds i ai in
        let (p, u) = unfolds b ab in
        (s.p_copy o p, s.u_copy v u)
    unfolds (s.apply w m b) a = let (p, u) = unfolds b a in (s.p_apply w m p, s.u_apply u)
    unfolds (s.call n b) a =
        let (i, e, h) = a.0 in
        let (p, u) = unfolds b a.1 in
        (s.p_call h.0 p, s.u_call e h.1 u)
    unfolds (s.value w b) a = let (p, u) = unfolds b a in (s.p_value w p, s.u_value u)
    unfolds (s.value_of_self b) a = let (p, u) = unfolds b a in (s.p_self p, s.u_self u)
    unfolds (s.choose x b) a =
        let (ax, ab) = split CanCall (called_in_branches x) (called_in b) a in
        let (y, v) = branches_unfold x ax in
        let (p, u) = unfolds b ab in
        (s.p_choose y p, s.u_choose v u)
    unfolds (s.for_each e w i b) a =
        let (ai, ab) = split CanCall (called_in i) (called_in b) a in
        let (o, v) = unfolds i ai in
        let (p, u) = unfolds b ab in
        (s.p_each e w o p, s.u_each v u)

    branches_unfold : (x : Branches) → AllByRecursion CanCall (called_in_branches x) → (y : CallFreeBranches) × BranchesInline named x y
    branches_unfold (s.otherwise b) a = let (p, u) = unfolds b a in (s.p_otherwise p, s.u_otherwise u)
    branches_unfold (s.branch t b x) a =
        let (ab, ax) = split CanCall (called_in b) (called_in_branches x) a in
        let (p, u) = unfolds b ab in
        let (y, v) = branches_unfold x ax in
        (s.p_branch t p y, s.u_branch u v)
