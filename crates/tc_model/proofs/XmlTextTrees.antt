-- The raw tree of a text is lawful.
use Rattle.std.proofs.Common.{◌≡◌, ◌≢◌, ◌⊎◌, inl, inr, ℕ, ◌≤◌, Bool, true, false, cond, ◌∷◌, ◌++◌, List, [], refl, ap, ◌∙◌, sym, subst, length, arith, Some, bytes_eq, codes, if◌then◌else◌, take, drop, take-append-drop, ltb}
use Rattle.std.specs.Prelude.{encode_utf8_all}
use Rattle.std.proofs.Math.Utf8.{encode}
use Rattle.std.proofs.lemmas.Str.{encode_ascii}
use Rattle.std.specs.List.{AllByRecursion, list_all}
use Rattle.std.specs.Cmp.Lexicographic.{bytes_decides}
use Rattle.std.proofs.lemmas.Bool.{true≢false, and_parts, ltb-true}
use Rattle.tc_model.specs.Names.{ExpandedName, IsChars, IsNcName, IsNamespaceName, IsName, xmlns_uri}
use Rattle.tc_model.specs.RawTrees.{Attribute, Bound, RawTrees, none, text, element}
use Rattle.tc_model.specs.XmlTextBytes.{begins_with}
use Rattle.tc_model.specs.XmlTextNames.{QualifiedName}
use Rattle.tc_model.specs.XmlTextScopes.{WrittenAttribute, is_empty, is_declaration, is_default_declaration, binding_of, IsLawfulBinding, bound_before, bound_in, scope_within, uri_of, Expands, declaration, plain, prefixed, ElementName, bound, unbound, TagMeans, first_scope, xml_uri}
use Rattle.tc_model.specs.XmlTextScopes as scopes
use Rattle.tc_model.specs.XmlTextContent.{Piece, nothing, characters, whole, characters_before, piece_before, AttributesAt, no_more, attribute, TagAt, ContentAt, at_end_tag, item, ItemAt, character_data, reference, cdata, comment, instruction, child, ElementAt, empty_tag, with_content}
use Rattle.tc_model.specs.XmlText.{after_mark, Reads}
use Rattle.tc_model.specs.XmlTextLaws.{IsLawfulAttribute, IsLawfulBound, AreLawfulWithin, HasLawfulRawTree, HasOneRawTree}
use Rattle.tc_model.proofs.XmlTextUnique.{reads_unique}
use Rattle.tc_model.proofs.XmlTextChars.{no_chars, after_ascii, white_chars, equals_chars}
use Rattle.tc_model.proofs.XmlTextChars as chars
use Rattle.tc_model.proofs.XmlTextLawful.{reference_chars, quoted_chars, character_data_chars, cdata_chars, comment_chars, instruction_chars, declaration_chars, misc_chars, qname_chars, qname_parts, doctype_chars}

-- an attribute as it is written is lawful
record IsLawfulWritten (total : ℕ) (a : WrittenAttribute) : Type 0 where
  prefix : (a.name.prefix ≡ []) ⊎ IsNcName a.name.prefix
  local : IsNcName a.name.local
  value : IsChars a.value
  within : a.place ≤ total

attributes_lawful : {o : Bool} {total : ℕ} {bs after : List ℕ} {written : List WrittenAttribute} → AttributesAt o total bs written after → IsChars bs
    → AllByRecursion (IsLawfulWritten total) written × IsChars after
attributes_lawful {bs = bs} (no_more e) h = (tt, white_chars bs h)
attributes_lawful {total = total} {bs = bs} (attribute {past_name = p} {start = s} w a e v l) h =
    let (prefix, local) = qname_parts a in
    let (value, rest) = quoted_chars v (equals_chars p s e (qname_chars a (white_chars bs h))) in
    let (others, end) = attributes_lawful l rest in
    ((record { prefix = prefix; local = local; value = value; within = omega arith }, others), end)

unequal : (a b : List ℕ) → bytes_eq a b ≡ false → a ≢ b
unequal a b e q = true≢false (sym ((bytes_decides a b).1 q) ∙ e)

binding_lawful : (total : ℕ) (a : WrittenAttribute) → IsLawfulWritten total a → IsLawfulBinding (binding_of a) → IsLawfulBound (binding_of a)
binding_lawful total a l b = record { prefix = by (is_default_declaration a); uri = (l.value, unequal a.value xmlns_uri b.not_to_xmlns) }
  where
    by : (x : Bool) → ((if x then [] else a.name.local) ≡ []) ⊎ IsNcName (if x then [] else a.name.local)
    by true = inl refl
    by false = inr l.local

AllBound : List Bound → Type 0
AllBound scope = AllByRecursion IsLawfulBound scope

before_lawful : (b : Bound) (scope : List Bound) → IsLawfulBound b → AllByRecursion IsLawfulBound scope → AllByRecursion IsLawfulBound (bound_before b scope)
before_lawful b scope l h = by (is_empty b.uri)
  where
    by : (x : Bool) → AllByRecursion IsLawfulBound (if x then scope else b ∷ scope)
    by true = h
    by false = (l, h)

in_lawful : (b : Bound) (scope : List Bound) → IsLawfulBound b → AllByRecursion IsLawfulBound scope → AllByRecursion IsLawfulBound (bound_in b scope)
in_lawful b [] l h = before_lawful b [] l tt
in_lawful b (c ∷ scope) l (k, h) = by (bytes_eq c.prefix b.prefix) (in_lawful b scope l h)
  where
    by : (x : Bool) → AllByRecursion IsLawfulBound (bound_in b scope) → AllByRecursion IsLawfulBound (if x then bound_before b scope else c ∷ bound_in b scope)
    by true later = before_lawful b scope l h
    by false later = (k, later)

scope_lawful : (total : ℕ) (scope outer : List Bound) (written : List WrittenAttribute) (expanded : List Attribute) → Expands scope written expanded
    → AllByRecursion (IsLawfulWritten total) written → AllByRecursion IsLawfulBound outer → AllByRecursion IsLawfulBound (scope_within outer written)
scope_lawful total scope outer [] expanded e l h = h
scope_lawful total scope outer (a ∷ written) expanded (declaration is b e) (k, l) h =
    subst (λ x. AllByRecursion IsLawfulBound (scope_within (if x then bound_in (binding_of a) outer else outer) written)) (sym is)
    (scope_lawful total scope (bound_in (binding_of a) outer) written expanded e l (in_lawful (binding_of a) outer (binding_lawful total a k b) h))
scope_lawful total scope outer (a ∷ written) (x ∷ expanded) (plain is p e) (k, l) h =
    subst (λ x. AllByRecursion IsLawfulBound (scope_within (if x then bound_in (binding_of a) outer else outer) written)) (sym is)
    (scope_lawful total scope outer written expanded e l h)
scope_lawful total scope outer (a ∷ written) (x ∷ expanded) (prefixed is p u e) (k, l) h =
    subst (λ x. AllByRecursion IsLawfulBound (scope_within (if x then bound_in (binding_of a) outer else outer) written)) (sym is)
    (scope_lawful total scope outer written expanded e l h)

pub no_uri : IsNamespaceName []
no_uri = (no_chars, λ e. cc)

uri_lawful : (scope : List Bound) (prefix uri : List ℕ) → AllByRecursion IsLawfulBound scope → uri_of scope prefix ≡ Some uri → IsNamespaceName uri
uri_lawful [] prefix uri h e = absurd (cc)
uri_lawful (b ∷ scope) prefix uri (k, h) e = by (bytes_eq b.prefix prefix) e (uri_lawful scope prefix uri h)
  where
    by : (x : Bool) → (if x then Some b.uri else uri_of scope prefix) ≡ Some uri → (uri_of scope prefix ≡ Some uri → IsNamespaceName uri) → IsNamespaceName uri
    by true e later = let same : b.uri ≡ uri = cc in subst IsNamespaceName same k.uri
    by false e later = later e

name_lawful : (scope : List Bound) (written : QualifiedName) (name : ExpandedName) → AllByRecursion IsLawfulBound scope → IsNcName written.local → ElementName scope written name → IsName name
name_lawful scope written name h l (bound {uri = u} e) = (uri_lawful scope written.prefix u h e, l)
name_lawful scope written name h l (unbound p e) = (no_uri, l)

expanded_lawful : (total : ℕ) (scope : List Bound) (written : List WrittenAttribute) (expanded : List Attribute) → AllByRecursion IsLawfulBound scope
    → AllByRecursion (IsLawfulWritten total) written → Expands scope written expanded → AllByRecursion (IsLawfulAttribute total) expanded
expanded_lawful total scope [] expanded h l scopes.no_more = tt
expanded_lawful total scope (a ∷ written) expanded h (k, l) (declaration is b e) = expanded_lawful total scope written expanded h l e
expanded_lawful total scope (a ∷ written) (x ∷ expanded) h (k, l) (plain is p e) =
    (record { name = (no_uri, k.local); value = k.value; within = k.within }, expanded_lawful total scope written expanded h l e)
expanded_lawful total scope (a ∷ written) (x ∷ expanded) h (k, l) (prefixed {uri = u} is p e f) =
    (record { name = (uri_lawful scope a.name.prefix u h e, k.local); value = k.value; within = k.within }, expanded_lawful total scope written expanded h l f)

-- a tag's name, attributes and scope are lawful
tag_lawful : {o : Bool} {total : ℕ} {outer : List Bound} {bs after : List ℕ} {w : QualifiedName} {scope : List Bound} {n : ExpandedName} {e : List Attribute}
    → TagAt o total outer bs w scope n e after → AllByRecursion IsLawfulBound outer → IsChars bs
    → IsName n × AllByRecursion (IsLawfulAttribute total) e × AllByRecursion IsLawfulBound scope × IsChars after
tag_lawful {o} {total} {outer} {bs} {after} {w} {scope} {n} {e} a h k =
    let start = after_ascii 0x3C a.rest (omega arith) (subst IsChars a.opens k) in
    let (written, end) = attributes_lawful a.lists (qname_chars a.names start) in
    let bounds = subst (AllByRecursion IsLawfulBound) (sym a.means.scopes) (scope_lawful total scope outer a.attributes e a.means.expands written h) in
    (name_lawful scope w n bounds (qname_parts a.names).1 a.means.names, expanded_lawful total scope a.attributes e bounds written a.means.expands, bounds, end)

-- a piece of content that is lawful
IsLawfulPiece : ℕ → Piece → Type 0
IsLawfulPiece total nothing = Unit {0}
IsLawfulPiece total (characters s p) = IsChars s × (p ≤ total)
IsLawfulPiece total (whole n e scope p kids) =
    IsName n × AllByRecursion (IsLawfulAttribute total) e × AllByRecursion IsLawfulBound scope × (p ≤ total) × AreLawfulWithin total kids

some_append : (s t : List ℕ) → t ≢ [] → s ++ t ≢ []
some_append [] t h e = h e
some_append (b ∷ s) t h e = cc

characters_lawful : (total : ℕ) (s : List ℕ) (p : ℕ) (h : RawTrees) → IsChars s → p ≤ total → AreLawfulWithin total h → AreLawfulWithin total (characters_before s p h)
characters_lawful total s p (text t q rest) k l ((some, t_chars), q_within, others) = ((some_append s t some, chars.join_chars s t k t_chars), l, others)
characters_lawful total [] p none k l h = tt
characters_lawful total [] p (element n attributes scope q kids rest) k l h = h
characters_lawful total (c ∷ s) p none k l h = (((λ e. cc), k), l, tt)
characters_lawful total (c ∷ s) p (element n attributes scope q kids rest) k l h = (((λ e. cc), k), l, h)

piece_lawful : (total : ℕ) (p : Piece) (h : RawTrees) → IsLawfulPiece total p → AreLawfulWithin total h → AreLawfulWithin total (piece_before p h)
unfolding IsLawfulPiece
piece_lawful total nothing h l k = k
piece_lawful total (characters s p) h (c, w) k = characters_lawful total s p h c w k
piece_lawful total (whole n e scope p kids) h (a, b, c, d, f) k = (a, b, c, d, f, k)

mutual
  unfolding IsLawfulPiece

  content_lawful : {o : Bool} {total d : ℕ} {outer : List Bound} {bs after : List ℕ} {h : RawTrees} → ContentAt o total outer d bs h after
      → AllByRecursion IsLawfulBound outer → IsChars bs → AreLawfulWithin total h × IsChars after
  content_lawful at_end_tag k c = (tt, c)
  content_lawful {total = total} (item {piece = p} {trees = h} a m) k c =
      let (x, y) = item_lawful a k c in
      let (z, w) = content_lawful m k y in
      (piece_lawful total p h x z, w)

  item_lawful : {o : Bool} {total d : ℕ} {outer : List Bound} {bs after : List ℕ} {p : Piece} → ItemAt o total outer d bs p after
      → AllByRecursion IsLawfulBound outer → IsChars bs → IsLawfulPiece total p × IsChars after
  item_lawful (character_data a) k c = let (x, y) = character_data_chars a c in ((x, omega arith), y)
  item_lawful (reference a) k c = let (x, y) = reference_chars a c in ((x, omega arith), y)
  item_lawful (cdata a) k c = let (x, y) = cdata_chars a c in ((x, omega arith), y)
  item_lawful (comment a) k c = (tt, comment_chars a c)
  item_lawful (instruction a) k c = (tt, instruction_chars a c)
  item_lawful (child a) k c = element_lawful a k c

  element_lawful : {o : Bool} {total d : ℕ} {outer : List Bound} {bs after : List ℕ} {p : Piece} → ElementAt o total outer d bs p after
      → AllByRecursion IsLawfulBound outer → IsChars bs → IsLawfulPiece total p × IsChars after
  element_lawful {after = after} (empty_tag a) k c =
      let (n, e, s, end) = tag_lawful a k c in ((n, e, s, omega arith, tt), chars.after_mark (codes "/>") after refl end)
  element_lawful {after = after} (with_content {inside = i} {end = q} {past_name = p} a m b e) k c =
      let (n, x, s, end) = tag_lawful a k c in
      let (kids, rest) = content_lawful m s (after_ascii 0x3E i (omega arith) end) in
      let behind = qname_chars b (after_ascii 0x2F q (omega arith) (after_ascii 0x3C (0x2F ∷ q) (omega arith) rest)) in
      ((n, x, s, omega arith, kids), after_ascii 0x3E after (omega arith) (subst IsChars e (white_chars p behind)))

ascii_encodes : (bs : List ℕ) → list_all (λ b. ltb b 128) bs ≡ true → encode_utf8_all bs ≡ bs
ascii_encodes [] e = refl
ascii_encodes (b ∷ bs) e =
    let (x, y) = and_parts (ltb b 128) (list_all (λ b. ltb b 128) bs) e in
    ap (λ w. w ++ encode_utf8_all bs) (encode_ascii b (ltb-true b 128 x)) ∙ ap (λ w. b ∷ w) (ascii_encodes bs y)

pub first_lawful : AllByRecursion IsLawfulBound first_scope
first_lawful = (
  record {
    prefix = inr (0x78, 0x6D ∷ 0x6C ∷ [], ascii_encodes (codes "xml") refl, refl, refl);
    uri = ((xml_uri, ascii_encodes xml_uri refl, refl), unequal xml_uri xmlns_uri refl);
  },
  tt,
)

mark_is_chars : IsChars (0xEF ∷ 0xBB ∷ 0xBF ∷ [])
unfolding encode
mark_is_chars = (0xFEFF ∷ [], refl, refl)

pub mark_chars : (bytes : List ℕ) → IsChars bytes → IsChars (after_mark bytes)
mark_chars bytes h = by (begins_with (0xEF ∷ 0xBB ∷ 0xBF ∷ []) bytes) refl
  where
    by : (x : Bool) → begins_with (0xEF ∷ 0xBB ∷ 0xBF ∷ []) bytes ≡ x → IsChars (after_mark bytes)
    by true e =
        let front : (0xEF ∷ 0xBB ∷ 0xBF ∷ []) ≡ take 3 bytes = (bytes_decides (0xEF ∷ 0xBB ∷ 0xBF ∷ []) (take 3 bytes)).0 e in
        let whole : bytes ≡ (0xEF ∷ 0xBB ∷ 0xBF ∷ []) ++ drop 3 bytes = sym (take-append-drop 3 bytes) ∙ ap (λ w. w ++ drop 3 bytes) (sym front) in
        subst IsChars (sym (ap (λ x. cond x (drop 3 bytes) bytes) e)) (chars.behind_chars (0xEF ∷ 0xBB ∷ 0xBF ∷ []) (drop 3 bytes) mark_is_chars (subst IsChars whole h))
    by false e = subst IsChars (sym (ap (λ x. cond x (drop 3 bytes) bytes) e)) h

reads_lawful : {o : Bool} {d : ℕ} {bytes : List ℕ} {h : RawTrees} → Reads o d bytes h → AreLawfulWithin (length bytes) h
unfolding IsLawfulPiece
reads_lawful {bytes = bytes} a =
    let start = declaration_chars a.declaration (mark_chars bytes a.characters) in
    let root = doctype_chars a.doctype (misc_chars a.misc start) in
    let (p, rest) = element_lawful a.element first_lawful root in
    subst (AreLawfulWithin (length bytes)) (sym a.is_tree) (piece_lawful (length bytes) a.piece none p tt)

pub one_raw_tree : HasOneRawTree
one_raw_tree bytes h k a b = reads_unique a b

pub lawful_raw_tree : HasLawfulRawTree
lawful_raw_tree bytes h a = reads_lawful a
