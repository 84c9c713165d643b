-- The order of rows and outputs, by the first number at which they differ.
use Rattle.std.specs.Prelude.{◌≡◌, ℕ, Bool, List, length, decimal}
use Rattle.std.specs.Ordering.{nat_cmp, ordering_then}
use Rattle.std.specs.declared.cmp.Ordering.{Ordering}
use Rattle.std.specs.Cmp.Lexicographic.{slice_cmp}
use Rattle.tc_model.specs.CertificateLines.{flag, pair, changes}
use Rattle.tc_cert.specs.Fields.{Fields}

-- numbers by the bytes of their digits
abbrev pub number_order : ℕ → ℕ → Ordering
number_order m n = slice_cmp nat_cmp (decimal m) (decimal n)

-- lists of them
abbrev pub numbers_order : List ℕ → List ℕ → Ordering
numbers_order ms ns = slice_cmp number_order ms ns

-- pairs by their bytes
abbrev pub pair_order : ℕ × ℕ → ℕ × ℕ → Ordering
pair_order p q = slice_cmp nat_cmp (pair p) (pair q)

abbrev pub pairs_order : List (ℕ × ℕ) → List (ℕ × ℕ) → Ordering
pairs_order ps qs = slice_cmp pair_order ps qs

-- the first three fields of rows
abbrev pub front_order : Fields → Bool → Bool → List ℕ → Ordering
front_order b one other members = ordering_then (ordering_then (nat_cmp (flag b.one) (flag one)) (nat_cmp (flag b.other) (flag other))) (numbers_order b.members members)

abbrev pub row_order : Fields → Fields → Ordering
row_order b f = ordering_then (ordering_then (front_order b f.one f.other f.members) (numbers_order b.outs f.outs)) (numbers_order b.looks f.looks)

-- that of a list and of what changes make of it
abbrev pub IsOrderOfChanges : List ℕ → List (ℕ × ℕ) → Ordering → Type 0
IsOrderOfChanges old cs order = (new : List ℕ) → length new ≡ length old → changes 0 old new ≡ cs → order ≡ numbers_order old new
