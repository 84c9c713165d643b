-- The raw tree of an XML text (XML 1.0, Fifth Edition; Namespaces in XML 1.0): `XmlText bytes tree`. The modules XmlTextBytes,
-- XmlTextNames, XmlTextReferences, XmlTextMisc, XmlTextScopes and XmlTextContent have the productions that it rests on.
-- A relation `PhraseAt bs value after` says that this phrase stands at the front of the bytes, what it means, and what follows it.
use Rattle.std.specs.Prelude.{◌≡◌, ℕ, Bool, false, List, [], ◌∷◌, drop, length, if◌then◌else◌}
use Rattle.tc_base.specs.declared.limits.TheConstants.{DEEPEST_NESTING}
use Rattle.tc_model.specs.Names.{IsChars}
use Rattle.tc_model.specs.RawTrees.{RawTrees, none}
use Rattle.tc_model.specs.XmlTextBytes.{begins_with}
use Rattle.tc_model.specs.XmlTextMisc.{DeclarationAt, MiscAt, DoctypeAt}
use Rattle.tc_model.specs.XmlTextScopes.{first_scope}
use Rattle.tc_model.specs.XmlTextContent.{Piece, piece_before, ElementAt}

-- the bytes without a byte order mark at their front (XML, 4.3.3)
abbrev pub after_mark : List ℕ → List ℕ
after_mark bytes = if begins_with (0xEF ∷ 0xBB ∷ 0xBF ∷ []) bytes then drop 3 bytes else bytes

-- A document of characters of XML: a declaration or none, misc, a doctype or none, one element, misc, and nothing more (XML, 2.1, [1]; 2.8, [22]).
-- Elements stand at most so deep. Where `others` says so, references to entities other than the predefined ones are read as `&lt;` is.
pub record Reads (others : Bool) (deepest : ℕ) (bytes : List ℕ) (tree : RawTrees) : Type 0 where
  pub past_declaration : List ℕ
  pub past_misc : List ℕ
  pub root : List ℕ
  pub past_root : List ℕ
  pub piece : Piece
  pub characters : IsChars bytes
  pub declaration : DeclarationAt (after_mark bytes) past_declaration
  pub misc : MiscAt past_declaration past_misc
  pub doctype : DoctypeAt past_misc root
  pub element : ElementAt others (length bytes) first_scope deepest root piece past_root
  pub end : MiscAt past_root []
  pub is_tree : tree ≡ piece_before piece none

-- how deep elements may stand within one another
abbrev pub deepest_element : ℕ
deepest_element = DEEPEST_NESTING

abbrev pub XmlText : List ℕ → RawTrees → Type 0
XmlText bytes tree = Reads false deepest_element bytes tree
