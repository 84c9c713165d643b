-- Keywords, declarations and name classes in compact syntax (OASIS, RELAX NG Compact Syntax, 2002, and ISO/IEC 19757-2, Annex C: keyword, identifier,
-- identifierOrKeyword, decl, nameClass, name and exceptNameClass). That a literal is one segment without the escape of a character, and that
-- nothing is inherited, is this project's choice. What each phrase leaves of the tokens stands last.
-- `namespace xml = ..` is malformed, since that prefix is bound in advance and each is bound once; other
-- prefixes may be bound to its namespace. What may not be bound is malformed at the first word of its
-- declaration. `datatypes` has no effect, not even a check of its namespace.
use Rattle.std.specs.Prelude.{◌≡◌, ◌≢◌, ℕ, suc, Bool, List, [], ◌∷◌, Option, None, Some, bytes_eq, codes, if◌then◌else◌}
use Rattle.std.specs.List.{list_any}
use Rattle.tc_model.specs.Names.{ExpandedName, xmlns_uri}
use Rattle.tc_model.specs.RawTrees.{Bound}
use Rattle.tc_model.specs.XmlTextBytes.{Lacks}
use Rattle.tc_model.specs.XmlTextScopes.{uri_of}
use Rattle.tc_model.specs.CompactSyntaxTrees.{SyntaxClass, of_name, of_namespace, any_name, one_of, SyntaxClasses, no_class, class}
use Rattle.tc_model.specs.CompactSyntaxTokens.{Word, a_name, escaped, prefixed, all_of, literal, mark, Token}

abbrev pub keywords : List (List ℕ)
keywords =
    codes "attribute" ∷ codes "default" ∷ codes "datatypes" ∷ codes "div" ∷ codes "element" ∷ codes "empty" ∷ codes "external"
    ∷ codes "grammar" ∷ codes "include" ∷ codes "inherit" ∷ codes "list" ∷ codes "mixed" ∷ codes "namespace" ∷ codes "notAllowed"
    ∷ codes "parent" ∷ codes "start" ∷ codes "string" ∷ codes "text" ∷ codes "token" ∷ []

abbrev pub is_keyword : List ℕ → Bool
is_keyword n = list_any (λ k. bytes_eq k n) keywords

-- this keyword, and this mark
abbrev pub IsWord : List ℕ → Token → Type 0
IsWord s t = t.word ≡ a_name s

abbrev pub IsMark : ℕ → Token → Type 0
IsMark c t = t.word ≡ mark c

-- the name that is an identifier
abbrev pub identifier : Word → Option (List ℕ)
identifier (a_name n) = if is_keyword n then None else Some n
identifier (escaped n) = Some n
identifier _ = None

-- the name that is an identifier or a keyword
abbrev pub identifier_or_keyword : Word → Option (List ℕ)
identifier_or_keyword (a_name n) = Some n
identifier_or_keyword (escaped n) = Some n
identifier_or_keyword _ = None

-- a namespace name in quotes, without the escape of a character
pub record IsLiteral (uri : List ℕ) (t : Token) : Type 0 where
  pub word : t.word ≡ literal uri
  pub no_escape : Lacks (0x5C ∷ 0x78 ∷ 0x7B ∷ []) uri

-- a prefix, or the default namespace as the empty one, may be bound to a namespace name: it isn't bound yet
pub record MayBind (scope : List Bound) (prefix uri : List ℕ) : Type 0 where
  pub once : uri_of scope prefix ≡ None
  pub lawful : uri ≢ xmlns_uri

abbrev pub bound_to : List ℕ → List ℕ → Bound
bound_to prefix uri = record { prefix = prefix; uri = uri }

-- decl: a declaration, and what is bound after it where `scope` is before
pub data DeclarationAt (scope : List Bound) : List Token → List Bound → List Token → Type 0 where
  namespace : {t u v w : Token} {after : List Token} {prefix uri : List ℕ} → IsWord (codes "namespace") t → identifier_or_keyword u.word ≡ Some prefix → IsMark 0x3D v → IsLiteral uri w
      → MayBind scope prefix uri → DeclarationAt scope (t ∷ u ∷ v ∷ w ∷ after) (bound_to prefix uri ∷ scope) after
  default_namespace : {s t u v : Token} {after : List Token} {uri : List ℕ} → IsWord (codes "default") s → IsWord (codes "namespace") t → IsMark 0x3D u → IsLiteral uri v
      → MayBind scope [] uri → DeclarationAt scope (s ∷ t ∷ u ∷ v ∷ after) (bound_to [] uri ∷ scope) after
  both : {s t u v w : Token} {after : List Token} {prefix uri : List ℕ} → IsWord (codes "default") s → IsWord (codes "namespace") t → identifier_or_keyword u.word ≡ Some prefix → IsMark 0x3D v → IsLiteral uri w
      → MayBind scope [] uri → MayBind scope prefix uri → DeclarationAt scope (s ∷ t ∷ u ∷ v ∷ w ∷ after) (bound_to [] uri ∷ bound_to prefix uri ∷ scope) after
  -- has no effect
  datatypes : {t u v w : Token} {after : List Token} {prefix uri : List ℕ} → IsWord (codes "datatypes") t → identifier_or_keyword u.word ≡ Some prefix → IsMark 0x3D v → IsLiteral uri w
      → DeclarationAt scope (t ∷ u ∷ v ∷ w ∷ after) scope after

-- the namespace of names without a prefix: none, where no default is declared
abbrev pub or_none : Option (List ℕ) → List ℕ
or_none None = []
or_none (Some uri) = uri

abbrev pub named_in : Option (List ℕ) → List ℕ → Option ExpandedName
named_in None local = None
named_in (Some uri) local = Some (record { uri = uri; local = local })

-- the name for which a word stands
abbrev pub name_in : List Bound → Word → Option ExpandedName
name_in scope (a_name n) = Some (record { uri = or_none (uri_of scope []); local = n })
name_in scope (escaped n) = Some (record { uri = or_none (uri_of scope []); local = n })
name_in scope (prefixed p n) = named_in (uri_of scope p) n
name_in scope _ = None

-- these tokens don't begin with this mark
abbrev pub LacksMark : ℕ → List Token → Type 0
LacksMark c [] = Unit {0}
LacksMark c (t ∷ tokens) = t.word ≢ mark c

-- name classes; parentheses stand at most so deep
mutual
  -- one simple class, or several with bars between
  pub data ClassAt (scope : List Bound) : ℕ → List Token → SyntaxClass → List Token → Type 0 where
    alone : {deepest : ℕ} {tokens after : List Token} {c : SyntaxClass} → SimpleAt scope deepest tokens c after → LacksMark 0x7C after → ClassAt scope deepest tokens c after
    several : {deepest : ℕ} {bar : Token} {tokens rest after : List Token} {c : SyntaxClass} {cs : SyntaxClasses}
        → SimpleAt scope deepest tokens c (bar ∷ rest) → IsMark 0x7C bar → ClassesAt scope deepest rest cs after → ClassAt scope deepest tokens (one_of (class c cs)) after

  pub data ClassesAt (scope : List Bound) : ℕ → List Token → SyntaxClasses → List Token → Type 0 where
    last : {deepest : ℕ} {tokens after : List Token} {c : SyntaxClass} → SimpleAt scope deepest tokens c after → LacksMark 0x7C after → ClassesAt scope deepest tokens (class c no_class) after
    more : {deepest : ℕ} {bar : Token} {tokens rest after : List Token} {c : SyntaxClass} {cs : SyntaxClasses}
        → SimpleAt scope deepest tokens c (bar ∷ rest) → IsMark 0x7C bar → ClassesAt scope deepest rest cs after → ClassesAt scope deepest tokens (class c cs) after

  pub data SimpleAt (scope : List Bound) : ℕ → List Token → SyntaxClass → List Token → Type 0 where
    name : {deepest : ℕ} {t : Token} {after : List Token} {n : ExpandedName} → name_in scope t.word ≡ Some n → SimpleAt scope deepest (t ∷ after) (of_name n) after
    whole_namespace : {deepest : ℕ} {t : Token} {tokens after : List Token} {prefix uri : List ℕ} {except : SyntaxClasses} → t.word ≡ all_of prefix → uri_of scope prefix ≡ Some uri
        → ExceptAt scope deepest tokens except after → SimpleAt scope deepest (t ∷ tokens) (of_namespace t.place uri except) after
    any : {deepest : ℕ} {t : Token} {tokens after : List Token} {except : SyntaxClasses} → IsMark 0x2A t
        → ExceptAt scope deepest tokens except after → SimpleAt scope deepest (t ∷ tokens) (any_name t.place except) after
    parentheses : {deepest : ℕ} {t u : Token} {tokens after : List Token} {c : SyntaxClass} → IsMark 0x28 t
        → ClassAt scope deepest tokens c (u ∷ after) → IsMark 0x29 u → SimpleAt scope (suc deepest) (t ∷ tokens) c after

  -- a minus sign and a simple class, or nothing
  pub data ExceptAt (scope : List Bound) : ℕ → List Token → SyntaxClasses → List Token → Type 0 where
    nothing : {deepest : ℕ} {after : List Token} → LacksMark 0x2D after → ExceptAt scope deepest after no_class after
    except : {deepest : ℕ} {t : Token} {tokens after : List Token} {c : SyntaxClass} → IsMark 0x2D t → SimpleAt scope deepest tokens c after
        → ExceptAt scope deepest (t ∷ tokens) (class c no_class) after
