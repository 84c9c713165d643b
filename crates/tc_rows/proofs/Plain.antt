-- Bodies with calls in place whose paths are moves and looks of a stylesheet.
use Rattle.std.proofs.Common.{◌≡◌, ◌<◌, ◌+◌, ℕ, Some, refl, slice_get, Contains}
use Rattle.tc_model.specs.Sheets.{Body, Branches, Sheet, Inlines, u_done, u_text, u_element, u_copy, u_apply, u_call, u_value, u_self, u_choose, u_each, BranchesInline, u_otherwise, u_branch, CallFreeBody, p_done, p_text, p_element, p_copy, p_apply, p_call, p_value, p_self, p_choose, p_each, CallFreeBranches, p_otherwise, p_branch}
use Rattle.tc_model.specs.Machine.{in_body}
use Rattle.tc_model.specs.Numberings.{moves_of, looks_of}
use Rattle.tc_rules.specs.Parts.{IsPartTest, IsPart, ArePartBranches}
use Rattle.tc_rules.specs.Tasks.{IsTaskOf, of_each}

module _ (s : Sheet) where
  abbrev mutual
    pub HasParts : CallFreeBody → Type 0
    HasParts p_done = Unit {0}
    HasParts (p_text x b) = HasParts b
    HasParts (p_element n inner b) = HasParts inner × HasParts b
    HasParts (p_copy inner b) = HasParts inner × HasParts b
    HasParts (p_apply p m b) = Contains (moves_of s) (record { path = p; mode = m }) × (m < s.modes) × HasParts b
    HasParts (p_call inner b) = HasParts inner × HasParts b
    HasParts (p_value p b) = Contains (looks_of s) p × HasParts b
    HasParts (p_self b) = HasParts b
    HasParts (p_choose y b) = HaveParts y × HasParts b
    HasParts (p_each e p inner b) = Contains (moves_of s) (record { path = p; mode = s.modes + e }) × IsTaskOf s (s.modes + e) (in_body inner) × HasParts inner × HasParts b

    pub HaveParts : CallFreeBranches → Type 0
    HaveParts (p_otherwise b) = HasParts b
    HaveParts (p_branch t b y) = IsPartTest s t × HasParts b × HaveParts y

  module _ (named : (n : ℕ) (i : Body) → slice_get s.named n ≡ Some i → IsPart s i) where
    mutual
      pub parts_of : {b : Body} {p : CallFreeBody} → Inlines s.named b p → IsPart s b → HasParts p
      parts_of u_done i = tt
      parts_of (u_text u) i = parts_of u i
      parts_of (u_element o u) i = (parts_of o i.0, parts_of u i.1)
      parts_of (u_copy o u) i = (parts_of o i.0, parts_of u i.1)
      parts_of (u_apply u) i = (i.0, i.1, parts_of u i.2)
      parts_of (u_call {n} {i = c} at o u) i = (parts_of o (named n c at), parts_of u i.1)
      parts_of (u_value u) i = (i.0, parts_of u i.1)
      parts_of (u_self u) i = parts_of u i
      parts_of (u_choose y u) i = (branch_parts_of y i.0, parts_of u i.1)
      parts_of (u_each o u) i = (i.0, of_each refl i.1 o, parts_of o i.2, parts_of u i.3)

      branch_parts_of : {y : Branches} {p : CallFreeBranches} → BranchesInline s.named y p → ArePartBranches s y → HaveParts p
      branch_parts_of (u_otherwise u) i = parts_of u i
      branch_parts_of (u_branch u y) i = (i.0, parts_of u i.1, branch_parts_of y i.2)
