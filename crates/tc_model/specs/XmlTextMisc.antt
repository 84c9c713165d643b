-- What stands around the root element of an XML text: the XML declaration, comments, processing instructions, a doctype (XML 1.0, Fifth Edition, 2.5 to 2.8).
-- A public identifier takes any character but its quote, more than XML 1.0 allows.
use Rattle.std.specs.Prelude.{◌≡◌, ◌⊎◌, ℕ, List, [], ◌∷◌, ◌++◌, IsTrue, IsFalse, codes, ◌||◌}
use Rattle.std.specs.Str.{str_eq_ignore_ascii_case}
use Rattle.tc_model.specs.XmlTextBytes.{BeginsWithWhite, after_white, UpTo, LiteralAt, EqualsAt}
use Rattle.tc_model.specs.XmlTextNames.{NcNameAt, QualifiedName, QNameAt}

-- a comment, and what follows it: the first `--` in it ends it (XML, 2.5, [15])
pub record CommentAt (bs after : List ℕ) : Type 0 where
  pub rest : List ℕ
  pub inside : List ℕ
  pub opens : bs ≡ codes "<!--" ++ rest
  pub closes : UpTo (codes "--") rest inside (0x3E ∷ after)

-- a processing instruction, and what follows it (XML, 2.6, [16] PI, [17] PITarget; Namespaces, 7)
pub record InstructionAt (bs after : List ℕ) : Type 0 where
  pub rest : List ℕ
  pub target : List ℕ
  pub behind : List ℕ
  pub inside : List ℕ
  pub opens : bs ≡ codes "<?" ++ rest
  pub names : NcNameAt rest target behind
  pub not_xml : IsFalse (str_eq_ignore_ascii_case target (codes "xml"))
  pub apart : (inside ≡ []) ⊎ BeginsWithWhite behind
  pub closes : UpTo (codes "?>") behind inside after

-- white space, a word, an equals sign and a literal, as in an XML declaration (XML, 2.8, [24]; 2.9, [32]; 4.3.3, [80])
pub record SettingAt (word bs value after : List ℕ) : Type 0 where
  pub behind : List ℕ
  pub start : List ℕ
  pub white : BeginsWithWhite bs
  pub names : after_white bs ≡ word ++ behind
  pub equals : EqualsAt behind start
  pub literal : LiteralAt start value after

-- a word doesn't stand here, after white space or none
abbrev pub LacksWord : List ℕ → List ℕ → Type 0
LacksWord word bs = (r : List ℕ) → after_white bs ≡ word ++ r → ⊥

-- the encodings that are read: UTF-8, of which US-ASCII is a part
abbrev pub IsReadEncoding : List ℕ → Type 0
IsReadEncoding value = IsTrue (str_eq_ignore_ascii_case value (codes "UTF-8") || str_eq_ignore_ascii_case value (codes "US-ASCII"))

-- an encoding declaration, or none (XML, 4.3.3, [80])
pub data EncodingAt : List ℕ → List ℕ → Type 0 where
  no_encoding : {bs : List ℕ} → LacksWord (codes "encoding") bs → EncodingAt bs bs
  encoding : {bs value after : List ℕ} → SettingAt (codes "encoding") bs value after → IsReadEncoding value → EncodingAt bs after

-- a standalone declaration, or none (XML, 2.9, [32])
pub data StandaloneAt : List ℕ → List ℕ → Type 0 where
  no_standalone : {bs : List ℕ} → LacksWord (codes "standalone") bs → StandaloneAt bs bs
  standalone : {bs value after : List ℕ} → SettingAt (codes "standalone") bs value after → (value ≡ codes "yes") ⊎ (value ≡ codes "no") → StandaloneAt bs after

-- an XML declaration of version 1.0, or none (XML, 2.8, [23] to [26])
pub data DeclarationAt : List ℕ → List ℕ → Type 0 where
  no_declaration : {bs : List ℕ} → ((r : List ℕ) → bs ≡ codes "<?xml" ++ r → BeginsWithWhite r → ⊥) → DeclarationAt bs bs
  declaration : {bs rest past_version past_encoding past_standalone after : List ℕ} → bs ≡ codes "<?xml" ++ rest
      → SettingAt (codes "version") rest (codes "1.0") past_version → EncodingAt past_version past_encoding
      → StandaloneAt past_encoding past_standalone → after_white past_standalone ≡ codes "?>" ++ after → DeclarationAt bs after

-- neither a comment nor a processing instruction begins here
abbrev pub IsNoMisc : List ℕ → Type 0
IsNoMisc bs = ((r : List ℕ) → bs ≡ codes "<!--" ++ r → ⊥) × ((r : List ℕ) → bs ≡ codes "<?" ++ r → ⊥)

-- white space, comments and processing instructions, as many as there are (XML, 2.8, [27] Misc)
pub data MiscAt : List ℕ → List ℕ → Type 0 where
  no_more : {bs : List ℕ} → IsNoMisc (after_white bs) → MiscAt bs (after_white bs)
  comment : {bs rest after : List ℕ} → CommentAt (after_white bs) rest → MiscAt rest after → MiscAt bs after
  instruction : {bs rest after : List ℕ} → InstructionAt (after_white bs) rest → MiscAt rest after → MiscAt bs after

-- an external identifier, or none where the doctype or its subset follows (XML, 4.2.2, [75])
pub data ExternalIdAt : List ℕ → List ℕ → Type 0 where
  no_id : {bs r : List ℕ} → (after_white bs ≡ 0x3E ∷ r) ⊎ (after_white bs ≡ 0x5B ∷ r) → ExternalIdAt bs bs
  system : {bs rest value after : List ℕ} → BeginsWithWhite bs → after_white bs ≡ codes "SYSTEM" ++ rest
      → BeginsWithWhite rest → LiteralAt (after_white rest) value after → ExternalIdAt bs after
  public : {bs rest value past_first second after : List ℕ} → BeginsWithWhite bs → after_white bs ≡ codes "PUBLIC" ++ rest
      → BeginsWithWhite rest → LiteralAt (after_white rest) value past_first
      → BeginsWithWhite past_first → LiteralAt (after_white past_first) second after → ExternalIdAt bs after

-- a doctype up to where its `>`, or the `[` of a subset, has to stand (XML, 2.8, [28]; Namespaces, 5, [16])
pub record DoctypeFrontAt (bs after : List ℕ) : Type 0 where
  pub rest : List ℕ
  pub name : QualifiedName
  pub past_name : List ℕ
  pub past_id : List ℕ
  pub opens : bs ≡ codes "<!DOCTYPE" ++ rest
  pub white : BeginsWithWhite rest
  pub names : QNameAt (after_white rest) name past_name
  pub external : ExternalIdAt past_name past_id
  pub past : after ≡ after_white past_id

-- a doctype without a subset and misc after it, or neither
pub data DoctypeAt : List ℕ → List ℕ → Type 0 where
  no_doctype : {bs : List ℕ} → ((r : List ℕ) → bs ≡ codes "<!DOCTYPE" ++ r → ⊥) → DoctypeAt bs bs
  doctype : {bs rest after : List ℕ} → DoctypeFrontAt bs (0x3E ∷ rest) → MiscAt rest after → DoctypeAt bs after
