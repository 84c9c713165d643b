-- The document type declaration goes character by character, from behind `<!DOCTYPE` on (XML 1.0, Fifth Edition, 2.8, [28]; 4.2.2, [75]; Namespaces in
-- XML 1.0, 5, [16]).
use Rattle.std.specs.Prelude.{ℕ, suc, Bool, true, false, ◌||◌, ◌==◌, List, [], ◌∷◌, codes, if◌then◌else◌}
use Rattle.tc_base.specs.Characters.{is_white}
use Rattle.tc_model.specs.Names.{is_ncname_start, is_ncname_char}

-- what is known of one that has begun
pub data Typing : Type 0 where
  -- nothing follows yet
  begun : Typing
  -- white space
  before_name : Typing
  -- a part of the name, behind a colon or not
  in_name : Bool → Typing
  -- a name and a colon
  at_colon : Typing
  -- the name, and white space
  named : Typing
  -- what is left of the word of an external identifier, or nothing; then white space and so many literals must come
  in_word : List ℕ → ℕ → Typing
  -- white space, and so many literals to come
  before_literal : ℕ → Typing
  -- a literal in these quotes, and with it so many to come
  in_literal : ℕ → ℕ → Typing
  -- all but the end, and white space or none
  identified : Typing

-- what one character more makes of it
pub data Typed : Type 0 where
  more : Typing → Typed
  whole : Typed
  -- a subset begins with it
  opens_subset : Typed
  untyped : Typed

-- the end may stand here, or this
abbrev pub or_end : ℕ → Typed → Typed
or_end c other = if c == 0x3E then whole else (if c == 0x5B then opens_subset else other)

abbrev pub if_white : ℕ → Typing → Typed → Typed
if_white c known other = if is_white c then more known else other

abbrev pub at_name : Bool → ℕ → Typed
at_name local c = if is_ncname_start c then more (in_name local) else untyped

abbrev pub behind_name : ℕ → Typed → Typed
behind_name c other = if_white c named (or_end c other)

abbrev pub at_word : ℕ → Typed
at_word c = if c == 0x53 then more (in_word (codes "YSTEM") 1) else (if c == 0x50 then more (in_word (codes "UBLIC") 2) else untyped)

-- what follows a literal, with which so many were to come
abbrev pub behind_literal : ℕ → Typing
behind_literal (suc (suc n)) = in_word [] (suc n)
behind_literal _ = identified

abbrev pub typed_next : Typing → ℕ → Typed
typed_next begun c = if_white c before_name untyped
typed_next before_name c = if_white c before_name (at_name false c)
typed_next (in_name local) c =
    if is_ncname_char c then more (in_name local) else behind_name c (if local then untyped else (if c == 0x3A then more at_colon else untyped))
typed_next at_colon c = at_name true c
typed_next named c = behind_name c (at_word c)
typed_next (in_word (b ∷ left) literals) c = if c == b then more (in_word left literals) else untyped
typed_next (in_word [] literals) c = if_white c (before_literal literals) untyped
typed_next (before_literal literals) c = if_white c (before_literal literals) (if c == 0x22 || c == 0x27 then more (in_literal literals c) else untyped)
typed_next (in_literal literals quote) c = if c == quote then more (behind_literal literals) else more (in_literal literals quote)
typed_next identified c = if_white c identified (or_end c untyped)

-- what some characters make of it
pub data TypeScan : Type 0 where
  -- it ends, and these characters follow
  typed : List ℕ → TypeScan
  typing : Typing → TypeScan
  -- a subset begins, and these characters follow its bracket
  subset : List ℕ → TypeScan
  -- it is none
  no_doctype : TypeScan

abbrev pub type_on : Typed → (Typing → TypeScan) → List ℕ → TypeScan
type_on (more known) scan cs = scan known
type_on whole scan cs = typed cs
type_on opens_subset scan cs = subset cs
type_on untyped scan cs = no_doctype

abbrev pub doctype_scan : Typing → List ℕ → TypeScan
doctype_scan known [] = typing known
doctype_scan known (c ∷ cs) = type_on (typed_next known c) (λ known. doctype_scan known cs) cs
