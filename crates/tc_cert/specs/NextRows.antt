-- Rows at the front of bytes: the first of a kind, one written whole behind another, one by its changes.
use Rattle.std.specs.Prelude.{◌≡◌, ◌∷◌, ◌++◌, ℕ, List, Bool, true, length, get_or, All, ◌≤◌, ◌<◌, ◌≢◌}
use Rattle.tc_base.specs.declared.limits.TheConstants.{LONGEST_FILE}
use Rattle.tc_model.specs.CertificateLines.{changes}
use Rattle.tc_cert.specs.Fields.{Fields, IsFormedRow, row_line, row_changes, are_like}
use Rattle.tc_cert.specs.Orders.{row_order}
use Rattle.std.specs.declared.cmp.Ordering.TheVariants.{Less}
use Rattle.tc_cert.specs.declared.rows.Kind.{Kind}

-- a row that is written whole
pub record IsWholeAt (k : Kind) (bytes : List ℕ) (f : Fields) (rest : List ℕ) : Type 0 where
  pub formed : IsFormedRow f
  pub spelled : bytes ≡ row_line k f ++ 10 ∷ rest

-- the lists are those that the changes make of the old ones
pub record AreChanged (old : List ℕ) (cs : List (ℕ × ℕ)) (new : List ℕ) : Type 0 where
  pub long : length new ≡ length old
  pub are : changes 0 old new ≡ cs

-- a change that may come next: from a place on, of another number than is there
pub record IsNextChange (now : List ℕ) (next place number : ℕ) : Type 0 where
  pub from : next ≤ place
  pub within : place < length now
  pub differs : get_or now place 0 ≢ number

-- a row that is written by its changes of another
pub record IsChangedAt (k : Kind) (b : Fields) (bytes : List ℕ) (f : Fields) (rest : List ℕ) : Type 0 where
  pub formed : IsFormedRow f
  pub like : are_like b f ≡ true
  pub spelled : bytes ≡ row_changes k b f ++ 10 ∷ rest

-- the row that changes make of another: with these first fields
pub record IsMade (b : Fields) (one other : Bool) (members : List ℕ) (outs looks : List (ℕ × ℕ)) (f : Fields) : Type 0 where
  pub one_is : f.one ≡ one
  pub other_is : f.other ≡ other
  pub members_are : f.members ≡ members
  pub outs_are : AreChanged b.outs outs f.outs
  pub looks_are : AreChanged b.looks looks f.looks
  pub small : All (λ n. n ≤ 2) f.looks

-- it stands behind the other one
abbrev pub IsMadeBehind : Fields → Bool → Bool → List ℕ → List (ℕ × ℕ) → List (ℕ × ℕ) → Bool → Type 0
IsMadeBehind b one other members outs looks result = (f : Fields) → IsMade b one other members outs looks f → (result ≡ true → row_order b f ≡ Less) × (row_order b f ≡ Less → result ≡ true)

-- rows whose lists are no longer than a file
pub record IsShort (f : Fields) : Type 0 where
  pub members : length f.members ≤ LONGEST_FILE
  pub outs : length f.outs ≤ LONGEST_FILE
  pub looks : length f.looks ≤ LONGEST_FILE
  pub small : All (λ n. n ≤ 2) f.looks
