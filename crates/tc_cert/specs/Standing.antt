-- Where reading stands: so many lines from the front were read, each as it must be.
use Rattle.std.specs.Prelude.{◌≡◌, ◌≤◌, ◌+◌, ◌∷◌, ◌++◌, ◌⊎◌, [], ℕ, List, length, codes, Option, Some, None}
use Rattle.std.specs.Borrow.{Bor}
use Rattle.std.specs.Ordering.{nat_cmp}
use Rattle.std.specs.declared.cmp.Ordering.TheVariants.{Less}
use Rattle.std.specs.Cmp.Lexicographic.{slice_cmp}
use Rattle.tc_base.specs.declared.limits.TheConstants.{LONGEST_FILE}
use Rattle.tc_model.specs.CertificateLines.{pairs_line}
use Rattle.tc_cert.specs.Texts.{Version}
use Rattle.tc_cert.specs.Fronts.{Front, line_count, BeginsWith}
use Rattle.tc_cert.specs.Styles.{version_of}
use Rattle.tc_cert.specs.declared.cursor.Reader.{Reader}
use Rattle.tc_cert.specs.declared.faults.CertFault.{CertFault}
use Rattle.tc_cert.specs.declared.faults.CertFault.TheVariants as cert
use Rattle.tc_cert.specs.declared.faults.PieceFault.{PieceFault}
use Rattle.tc_cert.specs.declared.faults.PieceFault.TheVariants as piece

-- a line was read
pub record Passes (line : List ℕ) (old new : Reader) : Type 0 where
  pub read : old.rest.now ≡ line ++ 10 ∷ new.rest.now
  pub lines : new.lines ≡ old.lines + 1
  pub style : new.style ≡ old.style

-- the line of an output is greater than that of another
abbrev pub IsAfter : List (ℕ × ℕ) → List (ℕ × ℕ) → Type 0
IsAfter before ps = slice_cmp nat_cmp (pairs_line before) (pairs_line ps) ≡ Less

abbrev pub IsAfterLent : Option (Bor (List (ℕ × ℕ))) → List (ℕ × ℕ) → Type 0
IsAfterLent None ps = Unit {0}
IsAfterLent (Some b) ps = IsAfter b.now ps

-- a fault of the line behind so many
abbrev pub fault_behind : ℕ → PieceFault → CertFault
fault_behind lines piece.Form = cert.Form (lines + 1)
fault_behind lines piece.NoMemory = cert.NoMemory

-- the next line isn't such a line; memory is free
abbrev pub IsNextFault : ℕ → Type 0 → CertFault → Type 0
IsNextFault lines Piece (cert.Form line) = (line ≡ lines + 1) × (Piece → ⊥)
IsNextFault lines Piece cert.NoMemory = Unit {0}

-- the last line isn't that, or something stands behind it
abbrev pub IsEndFault : Reader → CertFault → Type 0
IsEndFault r (cert.Form line) =
    ((line ≡ r.lines + 1) × ((rest : List ℕ) → r.rest.now ≡ codes "end" ++ 10 ∷ rest → ⊥))
    ⊎ ((line ≡ r.lines + 2) × ((rest : List ℕ) × (r.rest.now ≡ codes "end" ++ 10 ∷ rest) × (rest ≡ [] → ⊥)))
IsEndFault r cert.NoMemory = Unit {0}

-- the front that was read, and the reader behind it
pub record Stands (v : Version) (bytes : List ℕ) (f : Front) (r : Reader) : Type 0 where
  pub short : length bytes ≤ LONGEST_FILE
  pub begins : BeginsWith bytes f r.rest.now
  pub lines : r.lines ≡ line_count f
  pub style : version_of r.style ≡ v
