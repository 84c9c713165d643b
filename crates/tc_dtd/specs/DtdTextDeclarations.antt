-- The declarations of a document type definition (XML 1.0, Fifth Edition, 2.8, [29]; 3.2, [45]).
use Rattle.std.specs.Prelude.{◌≡◌, ◌≢◌, ◌⊎◌, ℕ, Bool, true, false, ◌||◌, ◌&&◌, not, ◌==◌, List, [], ◌∷◌, ◌++◌, drop, codes}
use Rattle.std.specs.List.{prefix_len}
use Rattle.tc_base.specs.declared.reasons.Why.TheVariants.{Encoding, XmlVersion, ParameterEntity, ConditionalSection}
use Rattle.tc_model.specs.XmlTextBytes.{place_of, BeginsWithWhite, after_white, IsQuote}
use Rattle.tc_model.specs.XmlTextMisc.{SettingAt, LacksWord, IsReadEncoding, EncodingAt, StandaloneAt, MiscAt}
use Rattle.tc_model.specs.XmlTextRefusals.{Cause, unsupported}
use Rattle.tc_dtd.specs.Declarations.{Declaration}
use Rattle.tc_dtd.specs.Outcomes.{Outcome, read, refused, outcome_map, Then}
use Rattle.tc_dtd.specs.DtdTextContents.{SpaceAt, NameAt, ContentAt}

-- the version of an XML declaration, or none (XML, 2.8, [24]; 4.3.1, [77])
pub data VersionAt : List ℕ → Outcome (Unit {0}) → Type 0 where
  no_version : {bs : List ℕ} → LacksWord (codes "version") bs → VersionAt bs (read tt bs)
  version : {bs after : List ℕ} → SettingAt (codes "version") bs (codes "1.0") after → VersionAt bs (read tt after)
  other_version : {bs value after : List ℕ} → SettingAt (codes "version") bs value after → value ≢ codes "1.0"
      → VersionAt bs (refused (unsupported XmlVersion) (after_white bs))

-- what stands behind the version of an XML declaration, up to its end (XML, 2.8, [23]; 2.9, [32]; 4.3.3, [80])
pub data SettingsAt : List ℕ → Outcome (Unit {0}) → Type 0 where
  settings : {bs past_encoding past_standalone after : List ℕ} → EncodingAt bs past_encoding → StandaloneAt past_encoding past_standalone
      → after_white past_standalone ≡ codes "?>" ++ after → SettingsAt bs (read tt after)
  other_encoding : {bs value after : List ℕ} → SettingAt (codes "encoding") bs value after → (IsReadEncoding value → ⊥)
      → SettingsAt bs (refused (unsupported Encoding) (after_white bs))

-- an XML declaration begins behind `<?xml`, and no processing instruction whose target is longer
abbrev pub IsOpened : List ℕ → Type 0
IsOpened bs = BeginsWithWhite bs ⊎ ((r : List ℕ) × (bs ≡ codes "?>" ++ r))

-- an XML declaration, whose version may be left out, or none (XML, 2.8, [23]; 4.3.1, [77])
pub data TextDeclarationAt : List ℕ → Outcome (Unit {0}) → Type 0 where
  no_declaration : {bs : List ℕ} → ((r : List ℕ) → bs ≡ codes "<?xml" ++ r → IsOpened r → ⊥) → TextDeclarationAt bs (read tt bs)
  declaration : {bs rest : List ℕ} {outcome : Outcome (Unit {0})} → bs ≡ codes "<?xml" ++ rest → IsOpened rest → Then VersionAt (λ _. SettingsAt) rest outcome
      → TextDeclarationAt bs outcome

-- white space, as much as there is, and the `>` that ends a declaration
pub data EndAt : List ℕ → Outcome (Unit {0}) → Type 0 where
  closed : {bs after : List ℕ} → after_white bs ≡ 0x3E ∷ after → EndAt bs (read tt after)
  reference : {bs r : List ℕ} → after_white bs ≡ 0x25 ∷ r → EndAt bs (refused (unsupported ParameterEntity) (0x25 ∷ r))

-- the end of a declaration, behind which that is kept
pub data KeptAt (x : Declaration) : List ℕ → Outcome Declaration → Type 0 where
  kept : {bs : List ℕ} {outcome : Outcome (Unit {0})} {whole : Outcome Declaration} → EndAt bs outcome → whole ≡ outcome_map (λ _. x) outcome → KeptAt x bs whole

-- a declaration of an element behind `<!ELEMENT` (XML, 3.2, [45]), in which parentheses stand at most so deep within one another
abbrev pub ElementAt : ℕ → List ℕ → Outcome Declaration → Type 0
ElementAt deepest =
    Then SpaceAt (λ _. Then NameAt (λ n. Then SpaceAt (λ _. Then (ContentAt deepest) (λ c. KeptAt (record { name = n; content = c })))))

-- what follows the longest run of such bytes at the front
abbrev pub passed : (ℕ → Bool) → List ℕ → List ℕ
passed test bs = drop (prefix_len test bs) bs

-- what a declaration holds that is skipped, outside its literals: any byte but `>`, `%` and the quotes
abbrev pub is_skipped : ℕ → Bool
is_skipped b = not (b == 0x3E || b == 0x25 || b == 0x22 || b == 0x27)

-- what its literals hold: any byte but their quote, and, where references are recognised in them, any but `%`
abbrev pub is_within : Bool → ℕ → ℕ → Bool
is_within references quote b = not (b == quote || (references && b == 0x25))

-- A declaration that isn't read, behind its word: all up to the first `>` outside a literal. References to parameter entities are recognised
-- in the literals of entities (XML, 4.4, 4.4.5), and not in those of attributes and notations.
pub data SkipsAt (references : Bool) : List ℕ → Outcome (Unit {0}) → Type 0 where
  closed : {bs after : List ℕ} → passed is_skipped bs ≡ 0x3E ∷ after → SkipsAt references bs (read tt after)
  reference : {bs r : List ℕ} → passed is_skipped bs ≡ 0x25 ∷ r → SkipsAt references bs (refused (unsupported ParameterEntity) (0x25 ∷ r))
  literal : {bs r rest : List ℕ} {quote : ℕ} {outcome : Outcome (Unit {0})} → passed is_skipped bs ≡ quote ∷ r → IsQuote quote
      → passed (is_within references quote) r ≡ quote ∷ rest → SkipsAt references rest outcome → SkipsAt references bs outcome
  literal_reference : {bs r rest : List ℕ} {quote : ℕ} → passed is_skipped bs ≡ quote ∷ r → IsQuote quote
      → passed (is_within references quote) r ≡ 0x25 ∷ rest → SkipsAt references bs (refused (unsupported ParameterEntity) (0x25 ∷ rest))

-- a declaration of attributes, of a notation or of an entity (XML, 3.3, [52]; 4.7, [82]; 4.2, [70])
pub data SkippedAt : List ℕ → Outcome (Unit {0}) → Type 0 where
  attributes : {bs rest : List ℕ} {outcome : Outcome (Unit {0})} → bs ≡ codes "<!ATTLIST" ++ rest → SkipsAt false rest outcome → SkippedAt bs outcome
  notation : {bs rest : List ℕ} {outcome : Outcome (Unit {0})} → bs ≡ codes "<!NOTATION" ++ rest → SkipsAt false rest outcome → SkippedAt bs outcome
  entity : {bs rest : List ℕ} {outcome : Outcome (Unit {0})} → bs ≡ codes "<!ENTITY" ++ rest → SkipsAt true rest outcome → SkippedAt bs outcome

-- a declaration of an element, and the place of its `<`
pub record Placed : Type 0 where
  pub place : ℕ
  pub declaration : Declaration

abbrev pub placed : ℕ → Declaration → Placed
placed place x = record { place = place; declaration = x }

-- One declaration in a text of so many bytes, and what of it is kept (XML, 2.8, [29]). A reference to a parameter entity ([28a]) and a
-- conditional section (3.4, [61]) may stand in its place, and are refused.
pub data MarkupAt (deepest total : ℕ) : List ℕ → Outcome (List Placed) → Type 0 where
  reference : {bs r : List ℕ} → bs ≡ 0x25 ∷ r → MarkupAt deepest total bs (refused (unsupported ParameterEntity) bs)
  section : {bs r : List ℕ} → bs ≡ codes "<![" ++ r → MarkupAt deepest total bs (refused (unsupported ConditionalSection) bs)
  element : {bs r : List ℕ} {outcome : Outcome Declaration} {whole : Outcome (List Placed)} → bs ≡ codes "<!ELEMENT" ++ r → ElementAt deepest r outcome
      → whole ≡ outcome_map (λ x. placed (place_of total bs) x ∷ []) outcome → MarkupAt deepest total bs whole
  skipped : {bs : List ℕ} {outcome : Outcome (Unit {0})} {whole : Outcome (List Placed)} → SkippedAt bs outcome → whole ≡ outcome_map (λ _. []) outcome
      → MarkupAt deepest total bs whole

-- all declarations up to the end of a text of so many bytes, where misc may stand behind each
pub data DeclarationsAt (deepest total : ℕ) : List ℕ → Outcome (List Placed) → Type 0 where
  end : {bs : List ℕ} → bs ≡ [] → DeclarationsAt deepest total bs (read [] [])
  markup_refused : {bs at : List ℕ} {cause : Cause} → MarkupAt deepest total bs (refused cause at) → DeclarationsAt deepest total bs (refused cause at)
  markup : {bs rest next : List ℕ} {xs : List Placed} {outcome whole : Outcome (List Placed)} → MarkupAt deepest total bs (read xs rest) → MiscAt rest next
      → DeclarationsAt deepest total next outcome → whole ≡ outcome_map (λ ys. xs ++ ys) outcome → DeclarationsAt deepest total bs whole
