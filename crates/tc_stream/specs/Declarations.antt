-- The XML declaration goes byte by byte, from the white space behind `<?xml` on (XML 1.0, Fifth Edition, 2.8, [23] to [26]; 2.9, [32]; 4.3.3, [80]).
use Rattle.std.specs.Prelude.{ℕ, suc, Bool, true, false, ◌||◌, ◌==◌, List, [], ◌∷◌, ◌++◌, Option, None, Some, bytes_eq, codes, if◌then◌else◌}
use Rattle.std.specs.Str.{str_eq_ignore_ascii_case}
use Rattle.tc_base.specs.Characters.{is_white}
use Rattle.tc_base.specs.declared.reasons.Why.{Why}
use Rattle.tc_base.specs.declared.reasons.Why.TheVariants.{Encoding, XmlVersion}

-- what a declaration sets
pub data Setting : Type 0 where
  of_version : Setting
  of_encoding : Setting
  of_standalone : Setting

abbrev pub word_of : Setting → List ℕ
word_of of_version = codes "version"
word_of of_encoding = codes "encoding"
word_of of_standalone = codes "standalone"

-- what is known of a declaration that has begun; a place is that of the word of a setting
pub data Declaring : Type 0 where
  -- so much is set, and white space stands behind it or doesn't
  between : Option Setting → Bool → Declaring
  -- what is left of the word of a setting; where nothing is, white space may have followed it
  in_word : Setting → List ℕ → ℕ → Declaring
  -- the word and an equals sign, and white space or none
  equals : Setting → ℕ → Declaring
  -- a literal in these quotes, of which these bytes have come
  in_literal : Setting → ℕ → ℕ → List ℕ → Declaring
  -- a question mark
  at_end : Declaring

-- what one character more makes of it
pub data Declared : Type 0 where
  more : Declaring → Declared
  whole : Declared
  unread : Why → ℕ → Declared
  undeclared : Declared

-- the setting whose word begins so, where it may follow what is set
abbrev pub setting_behind : Option Setting → ℕ → Option Setting
setting_behind None c = if c == 0x76 then Some of_version else None
setting_behind (Some of_version) c = if c == 0x65 then Some of_encoding else (if c == 0x73 then Some of_standalone else None)
setting_behind (Some of_encoding) c = if c == 0x73 then Some of_standalone else None
setting_behind (Some of_standalone) c = None

abbrev pub without_first : List ℕ → List ℕ
without_first [] = []
without_first (b ∷ bs) = bs

abbrev pub begun_word : Option Setting → ℕ → Declared
begun_word None place = undeclared
begun_word (Some setting) place = more (in_word setting (without_first (word_of setting)) place)

-- something must be set before a declaration may end
abbrev pub may_end : Option Setting → Declared
may_end None = undeclared
may_end (Some setting) = more at_end

abbrev pub is_read_encoding : List ℕ → Bool
is_read_encoding value = str_eq_ignore_ascii_case value (codes "UTF-8") || str_eq_ignore_ascii_case value (codes "US-ASCII")

abbrev pub is_yes_or_no : List ℕ → Bool
is_yes_or_no value = bytes_eq value (codes "yes") || bytes_eq value (codes "no")

-- what the value of a setting makes of a declaration
abbrev pub valued : Setting → ℕ → List ℕ → Declared
valued of_version place value = if bytes_eq value (codes "1.0") then more (between (Some of_version) false) else unread XmlVersion place
valued of_encoding place value = if is_read_encoding value then more (between (Some of_encoding) false) else unread Encoding place
valued of_standalone place value = if is_yes_or_no value then more (between (Some of_standalone) false) else undeclared

-- what a character that stands at a place makes of it; these are its bytes
abbrev pub declared_next : Declaring → ℕ → ℕ → List ℕ → Declared
declared_next (between set white) place c bytes =
    if is_white c then more (between set true)
    else (if c == 0x3F then may_end set else (if white then begun_word (setting_behind set c) place else undeclared))
declared_next (in_word setting (b ∷ left) at) place c bytes = if c == b then more (in_word setting left at) else undeclared
declared_next (in_word setting [] at) place c bytes =
    if is_white c then more (in_word setting [] at) else (if c == 0x3D then more (equals setting at) else undeclared)
declared_next (equals setting at) place c bytes =
    if is_white c then more (equals setting at) else (if c == 0x22 || c == 0x27 then more (in_literal setting at c []) else undeclared)
declared_next (in_literal setting at quote value) place c bytes =
    if c == quote then valued setting at value else more (in_literal setting at quote (value ++ bytes))
declared_next at_end place c bytes = if c == 0x3E then whole else undeclared

-- what some bytes make of it
pub data DeclarationScan : Type 0 where
  -- it ends, and these bytes follow
  declared : List ℕ → DeclarationScan
  declaring : Declaring → DeclarationScan
  -- a version or an encoding that isn't read stands at this place
  refuses : Why → ℕ → DeclarationScan
  -- it is none
  no_declaration : DeclarationScan

abbrev pub declaration_on : Declared → (Declaring → DeclarationScan) → List ℕ → DeclarationScan
declaration_on (more known) scan bs = scan known
declaration_on whole scan bs = declared bs
declaration_on (unread why at) scan bs = refuses why at
declaration_on undeclared scan bs = no_declaration

-- the first of these bytes stands at the place
abbrev pub declaration_scan : Declaring → ℕ → List ℕ → DeclarationScan
declaration_scan known place [] = declaring known
declaration_scan known place (b ∷ bs) = declaration_on (declared_next known place b (b ∷ [])) (λ known. declaration_scan known (suc place) bs) bs
