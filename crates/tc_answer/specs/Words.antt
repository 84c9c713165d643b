-- The words of the command line, and the commands that they give.
use Rattle.std.specs.Prelude.{◌≡◌, ◌≢◌, ◌≤◌, ℕ, ◌+◌, ◌*◌, ◌-◌, List, [], ◌∷◌, Option, Some, None, Bool, false, not, ◌==◌, IsTrue, codes, slice_get}
use Rattle.std.specs.Char.{is_ascii_digit}
use Rattle.std.specs.List.{list_all}
use Rattle.tc_base.specs.declared.limits.TheConstants.{GREATEST_LIMIT}
use Rattle.tc_answer.specs.SchemaWords.{file_of, IsSchemaWord}
use Rattle.tc_answer.specs.declared.limits.TheConstants.{LARGEST_PIECE, MOST_DEMO}

-- a command, with its operands in the order of the words; of those in a schema's place SchemaWords says what they name
pub data Command : Type 0 where
  check : (limit : Option ℕ) (input output sheet : List ℕ) → Command
  prove : (limit : Option ℕ) (input output sheet : List ℕ) → Command
  verify : (input output sheet certificate : List ℕ) → Command
  run : (sheet document : List ℕ) → Command
  valid : (schema document : List ℕ) → Command
  valid_in_pieces : (size : ℕ) (schema document : List ℕ) → Command
  demo : (size : ℕ) → Command
  upgrade : (certificate : List ℕ) → Command
  dead : (input sheet : List ℕ) → Command
  include : (first second : List ℕ) → Command
  same : (first second : List ℕ) → Command

-- an operand isn't empty, and doesn't begin with `-`
abbrev pub is_operand : List ℕ → Bool
is_operand [] = false
is_operand (c ∷ cs) = not (c == 45)

abbrev pub AreOperands : List (List ℕ) → Type 0
AreOperands words = IsTrue (list_all is_operand words)

-- words in a schema's place
abbrev pub AreSchemas : List (List ℕ) → Type 0
AreSchemas [] = Unit {0}
AreSchemas (word ∷ words) = IsSchemaWord word × AreSchemas words

-- the number that decimal digits spell, behind digits that spell the value
abbrev pub value_from : ℕ → List ℕ → ℕ
value_from value [] = value
value_from value (digit ∷ digits) = value_from (value * 10 + (digit - 48)) digits

-- decimal digits without a leading zero spell the number, which is from 1 to `most`
pub record IsNumeral (most : ℕ) (word : List ℕ) (number : ℕ) : Type 0 where
  pub digits : IsTrue (list_all is_ascii_digit word)
  pub no_leading_zero : slice_get word 0 ≢ Some 48
  pub value : value_from 0 word ≡ number
  pub at_least : 1 ≤ number
  pub at_most : number ≤ most

-- what stands behind `check` and `prove`: `--limit` and a number, or nothing, and then the operands
abbrev pub Limits : List (List ℕ) → Option ℕ → List (List ℕ) → Type 0
Limits words None operands = words ≡ operands
Limits words (Some limit) operands = (numeral : List ℕ) × (words ≡ codes "--limit" ∷ numeral ∷ operands) × IsNumeral GREATEST_LIMIT numeral limit

-- what stands behind `valid`: `--stream` and the size of pieces, or nothing, and then the operands
abbrev pub PieceSizes : List (List ℕ) → Option ℕ → List (List ℕ) → Type 0
PieceSizes words None operands = words ≡ operands
PieceSizes words (Some size) operands = (numeral : List ℕ) × (words ≡ codes "--stream" ∷ numeral ∷ operands) × IsNumeral LARGEST_PIECE numeral size

-- the words give the command
pub data Words : List (List ℕ) → Command → Type 0 where
  checks : {words rest : List (List ℕ)} {limit : Option ℕ} {input output sheet : List ℕ} → words ≡ codes "check" ∷ rest → Limits rest limit (input ∷ output ∷ sheet ∷ [])
      → AreOperands (input ∷ output ∷ sheet ∷ []) → AreSchemas (input ∷ output ∷ []) → Words words (check limit input output sheet)
  proves : {words rest : List (List ℕ)} {limit : Option ℕ} {input output sheet : List ℕ} → words ≡ codes "prove" ∷ rest → Limits rest limit (input ∷ output ∷ sheet ∷ [])
      → AreOperands (input ∷ output ∷ sheet ∷ []) → AreSchemas (input ∷ output ∷ []) → Words words (prove limit input output sheet)
  verifies : {words : List (List ℕ)} {input output sheet certificate : List ℕ} → words ≡ codes "verify" ∷ input ∷ output ∷ sheet ∷ certificate ∷ []
      → AreOperands (input ∷ output ∷ sheet ∷ certificate ∷ []) → AreSchemas (input ∷ output ∷ []) → Words words (verify input output sheet certificate)
  runs : {words : List (List ℕ)} {sheet document : List ℕ} → words ≡ codes "run" ∷ sheet ∷ document ∷ []
      → AreOperands (sheet ∷ document ∷ []) → Words words (run sheet document)
  validates : {words : List (List ℕ)} {schema document : List ℕ} → words ≡ codes "valid" ∷ schema ∷ document ∷ []
      → AreOperands (schema ∷ document ∷ []) → AreSchemas (schema ∷ []) → Words words (valid schema document)
  validates_in_pieces : {words rest : List (List ℕ)} {size : ℕ} {schema document : List ℕ} → words ≡ codes "valid" ∷ rest → PieceSizes rest (Some size) (schema ∷ document ∷ [])
      → AreOperands (schema ∷ document ∷ []) → AreSchemas (schema ∷ []) → Words words (valid_in_pieces size schema document)
  shows : {words : List (List ℕ)} {numeral : List ℕ} {size : ℕ} → words ≡ codes "demo" ∷ numeral ∷ [] → IsNumeral MOST_DEMO numeral size → Words words (demo size)
  upgrades : {words : List (List ℕ)} {certificate : List ℕ} → words ≡ codes "upgrade" ∷ certificate ∷ [] → AreOperands (certificate ∷ []) → Words words (upgrade certificate)
  asks_dead : {words : List (List ℕ)} {input sheet : List ℕ} → words ≡ codes "dead" ∷ input ∷ sheet ∷ []
      → AreOperands (input ∷ sheet ∷ []) → AreSchemas (input ∷ []) → Words words (dead input sheet)
  includes : {words : List (List ℕ)} {first second : List ℕ} → words ≡ codes "include" ∷ first ∷ second ∷ []
      → AreOperands (first ∷ second ∷ []) → AreSchemas (first ∷ second ∷ []) → Words words (include first second)
  compares : {words : List (List ℕ)} {first second : List ℕ} → words ≡ codes "same" ∷ first ∷ second ∷ []
      → AreOperands (first ∷ second ∷ []) → AreSchemas (first ∷ second ∷ []) → Words words (same first second)

-- no command has these words
abbrev pub IsNoCommand : List (List ℕ) → Type 0
IsNoCommand words = (command : Command) → Words words command → ⊥

-- a list of words gives one command at most
abbrev pub WordsGiveOne : Type 0
WordsGiveOne = (words : List (List ℕ)) (one other : Command) → Words words one → Words words other → one ≡ other

-- the first word of a command
abbrev pub name_of : Command → List ℕ
name_of (check limit input output sheet) = codes "check"
name_of (prove limit input output sheet) = codes "prove"
name_of (verify input output sheet certificate) = codes "verify"
name_of (run sheet document) = codes "run"
name_of (valid schema document) = codes "valid"
name_of (valid_in_pieces size schema document) = codes "valid"
name_of (demo size) = codes "demo"
name_of (upgrade certificate) = codes "upgrade"
name_of (dead input sheet) = codes "dead"
name_of (include first second) = codes "include"
name_of (same first second) = codes "same"

-- a file that a command reads, and the word that names it
pub record Source : Type 0 where
  pub word : List ℕ
  pub file : List ℕ

-- by a word in a schema's place, and by a word elsewhere, which is the name of its file
abbrev pub schema : List ℕ → Source
schema word = record { word = word; file = file_of word }

abbrev pub plain : List ℕ → Source
plain word = record { word = word; file = word }

-- the files that a command reads, in order
abbrev pub operands_of : Command → List Source
operands_of (check limit input output sheet) = schema input ∷ schema output ∷ plain sheet ∷ []
operands_of (prove limit input output sheet) = schema input ∷ schema output ∷ plain sheet ∷ []
operands_of (verify input output sheet certificate) = schema input ∷ schema output ∷ plain sheet ∷ plain certificate ∷ []
operands_of (run sheet document) = plain sheet ∷ plain document ∷ []
operands_of (valid first document) = schema first ∷ plain document ∷ []
operands_of (valid_in_pieces size first document) = schema first ∷ plain document ∷ []
operands_of (demo size) = []
operands_of (upgrade certificate) = plain certificate ∷ []
operands_of (dead input sheet) = schema input ∷ plain sheet ∷ []
operands_of (include first second) = schema first ∷ schema second ∷ []
operands_of (same first second) = schema first ∷ schema second ∷ []
