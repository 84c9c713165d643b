-- What a text becomes when bytes are put at its end, and why they can't be.
use Rattle.std.specs.Prelude.{◌≡◌, ◌<◌, ◌≤◌, ℕ, List, ◌++◌, length}
use Rattle.tc_cert.specs.declared.text.Text.{Text}
use Rattle.tc_cert.specs.declared.text.CertWriteFault.{CertWriteFault}
use Rattle.tc_cert.specs.declared.text.CertWriteFault.TheVariants.{TooLong}

pub record IsPut (old new : Text) (piece : List ℕ) : Type 0 where
  pub bytes : new.bytes.items ≡ old.bytes.items ++ piece
  pub most : new.most ≡ old.most
  pub within : length new.bytes.items ≤ new.most

-- more bytes than there may be
pub record IsLong (old : Text) (piece : List ℕ) : Type 0 where
  pub long : old.most < length (old.bytes.items ++ piece)

-- a text is too long only where the bytes don't fit; memory is free
abbrev pub IsCause : Text → List ℕ → CertWriteFault → Type 0
IsCause old piece fault = fault ≡ TooLong → IsLong old piece

-- so far as a text has come: what it has still to get to have got all that it is to get
pub record IsOn (start now : Text) (rest goal : List ℕ) : Type 0 where
  pub bytes : now.bytes.items ++ rest ≡ start.bytes.items ++ goal
  pub most : now.most ≡ start.most
  pub within : length now.bytes.items ≤ now.most
