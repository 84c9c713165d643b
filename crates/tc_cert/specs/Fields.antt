-- Rows of either kind: their fields, their lines, and which of them may follow one another.
use Rattle.std.specs.Prelude.{◌≡◌, ◌≤◌, ℕ, Bool, cond, List, [], ◌∷◌, ◌++◌, length, map, All, Option, Some, None}
use Rattle.std.specs.Ordering.{nat_cmp}
use Rattle.std.specs.declared.cmp.Ordering.TheVariants.{Less}
use Rattle.std.specs.Cmp.Lexicographic.{slice_cmp}
use Rattle.tc_model.specs.declared.lists.TreeLine.{TreeLine}
use Rattle.tc_model.specs.declared.lists.HedgeLine.{HedgeLine}
use Rattle.tc_model.specs.CertificateLines.{numbers, row, changed, are_alike}
use Rattle.tc_model.specs.CertificateData.{IsNumber, AreMembers, AreOrdered}
use Rattle.tc_cert.specs.Texts.{Version, whole, by_changes, rows_in}
use Rattle.tc_cert.specs.declared.rows.Row.{Row}
use Rattle.tc_cert.specs.declared.rows.Kind.{Kind}
use Rattle.tc_cert.specs.declared.rows.Kind.TheVariants.{Tree, Hedge}

pub record Fields : Type 0 where
  pub one : Bool
  pub other : Bool
  pub members : List ℕ
  pub outs : List ℕ
  pub looks : List ℕ

abbrev pub tree_of : Fields → TreeLine
tree_of f = record { text = f.one; bears = f.other; patterns = f.members; outs = f.outs; looks = f.looks }

abbrev pub hedge_of : Fields → HedgeLine
hedge_of f = record { ends = f.one; bears = f.other; states = f.members; outs = f.outs; looks = f.looks }

abbrev pub fields_of : Row → Fields
fields_of r = record { one = r.one; other = r.other; members = r.members.items; outs = r.outs.items; looks = r.looks.items }

-- the letters of a kind: of whole rows, and of those by changes
abbrev pub letter : Kind → ℕ
letter Tree = 116
letter Hedge = 104

abbrev pub changes_letter : Kind → ℕ
changes_letter Tree = 84
changes_letter Hedge = 72

abbrev pub row_line : Kind → Fields → List ℕ
row_line k f = row (letter k) f.one f.other f.members (numbers f.outs) (numbers f.looks)

abbrev pub row_changes : Kind → Fields → Fields → List ℕ
row_changes k b f = row (changes_letter k) f.one f.other f.members (changed b.outs f.outs) (changed b.looks f.looks)

abbrev pub are_like : Fields → Fields → Bool
are_like b f = are_alike b.outs b.looks f.outs f.looks

-- a row behind another
abbrev pub row_in : Version → Kind → Fields → Fields → List ℕ
row_in whole k b f = row_line k f
row_in by_changes k b f = cond (are_like b f) (row_changes k b f) (row_line k f)

pub record IsFormedRow (f : Fields) : Type 0 where
  pub members : AreMembers f.members
  pub outs : All IsNumber f.outs
  pub looks : All (λ n. n ≤ 2) f.looks

-- the last of a list
abbrev pub last_of : {X : Type 0} → List X → Option X
last_of [] = None
last_of (x ∷ []) = Some x
last_of (x ∷ (y ∷ ys)) = last_of (y ∷ ys)

-- what stands for one behind this list, by what its first and its later ones are written
abbrev pub line_behind : {X : Type 0} → (X → List ℕ) → (X → X → List ℕ) → Option X → X → List ℕ
line_behind first later None x = first x
line_behind first later (Some b) x = later b x

-- its line is greater than that of the one before
abbrev pub IsBehind : {X : Type 0} → (X → List ℕ) → Option X → X → Type 0
IsBehind line None x = Unit {0}
IsBehind line (Some b) x = slice_cmp nat_cmp (line b) (line x) ≡ Less

-- the next row stands at the front of these bytes
pub record IsNextRow (v : Version) (k : Kind) (before : Option Fields) (bytes : List ℕ) (f : Fields) (rest : List ℕ) : Type 0 where
  pub formed : IsFormedRow f
  pub behind : IsBehind (row_line k) before f
  pub spelled : bytes ≡ line_behind (row_line k) (row_in v k) before f ++ 10 ∷ rest

-- so many rows at most, from the front
pub record AreRows (v : Version) (k : Kind) (count : ℕ) (bytes : List ℕ) (rows : List Fields) (rest : List ℕ) : Type 0 where
  pub few : length rows ≤ count
  pub formed : All IsFormedRow rows
  pub ordered : AreOrdered (map (row_line k) rows)
  pub spelled : bytes ≡ rows_in (row_line k) (row_in v k) rows ++ rest
