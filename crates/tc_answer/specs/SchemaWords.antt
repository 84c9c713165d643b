-- Words in a schema's place. One names the file of a schema in RELAX NG's compact syntax, unless it begins with `dtd:`: then the name of the
-- document's element follows, a colon, and the name of a file with declarations of elements (XML 1.0, 3.2).
use Rattle.std.specs.Prelude.{◌≢◌, ◌==◌, ℕ, Bool, List, [], ◌∷◌, Option, Some, None, IfSome, if◌then◌else◌, codes, unwrap_or}
use Rattle.std.specs.List.{before_first, after_first}
use Rattle.std.specs.Option.{option_map}
use Rattle.tc_model.specs.Names.{IsNcName}

-- what follows a mark, where a word begins with it
abbrev pub behind_mark : List ℕ → List ℕ → Option (List ℕ)
behind_mark [] word = Some word
behind_mark (m ∷ ms) [] = None
behind_mark (m ∷ ms) (c ∷ cs) = if m == c then behind_mark ms cs else None

abbrev pub behind_dtd : List ℕ → Option (List ℕ)
behind_dtd word = behind_mark (codes "dtd:") word

abbrev pub is_colon : ℕ → Bool
is_colon c = c == 58

-- the name of the document's element, up to the next colon
abbrev pub root_of : List ℕ → Option (List ℕ)
root_of word = option_map (before_first is_colon) (behind_dtd word)

-- the name of the file: behind that colon, further colons included
abbrev pub file_of : List ℕ → List ℕ
file_of word = unwrap_or (option_map (after_first is_colon) (behind_dtd word)) word

-- where a word begins with `dtd:`, an NCName follows (Namespaces in XML 1.0, 3, [4]), a colon, and the name of a file, which isn't empty
abbrev pub IsSchemaWord : List ℕ → Type 0
IsSchemaWord word = IfSome (root_of word) (λ root. IsNcName root × (file_of word ≢ []))
