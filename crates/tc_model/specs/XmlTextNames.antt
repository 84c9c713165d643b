-- Names in an XML text (Namespaces in XML 1.0, 4).
use Rattle.std.specs.Prelude.{◌≡◌, ℕ, Bool, ◌&&◌, List, [], ◌∷◌, ◌++◌, IsTrue, bytes_eq, encode_utf8}
use Rattle.tc_model.specs.Names.{IsNcName, is_ncname_char}

-- an NCName at the front, as long as it goes, and what follows it (Namespaces, 3, [4])
pub record NcNameAt (bs name after : List ℕ) : Type 0 where
  pub lawful : IsNcName name
  pub parts : bs ≡ name ++ after
  pub longest : (c : ℕ) (r : List ℕ) → after ≡ encode_utf8 c ++ r → IsTrue (is_ncname_char c) → ⊥

-- a name as it is written: its prefix, empty where it has none, and its local part
pub record QualifiedName : Type 0 where
  pub prefix : List ℕ
  pub local : List ℕ

abbrev pub same_written : QualifiedName → QualifiedName → Bool
same_written n m = bytes_eq n.prefix m.prefix && bytes_eq n.local m.local

-- a QName at the front, and what follows it (Namespaces, 4, [7] to [11])
pub data QNameAt : List ℕ → QualifiedName → List ℕ → Type 0 where
  unprefixed : {bs local after : List ℕ} → NcNameAt bs local after → ((r : List ℕ) → after ≡ 0x3A ∷ r → ⊥)
      → QNameAt bs (record { prefix = []; local = local }) after
  prefixed : {bs prefix rest local after : List ℕ} → NcNameAt bs prefix (0x3A ∷ rest) → NcNameAt rest local after
      → QNameAt bs (record { prefix = prefix; local = local }) after
