-- Printed trees, read back: tags with their namespaces, elements and their content, and whole documents.
use Rattle.std.proofs.Common.{◌≡◌, ◌≢◌, ◌⊎◌, inl, inr, ℕ, suc, zero, ◌<◌, ◌≤◌, Bool, true, false, ◌||◌, List, [], ◌∷◌, ◌++◌, refl, ap, ◌∙◌, sym, subst, arith, codes, Some, None, bytes_eq, append_assoc, if◌then◌else◌}
use Rattle.std.specs.List.{IsDistinct, flat_map}
use Rattle.std.specs.Cmp.Lexicographic.{bytes_decides}
use Rattle.std.proofs.lemmas.Bool.{true≢false, false≢true}
use Rattle.tc_model.specs.Names.{ExpandedName, IsNcName, IsName, xmlns_uri, is_ncname_start, is_ncname_char}
use Rattle.tc_model.specs.Trees.{Trees, none, text, element, joined, AreLawful}
use Rattle.tc_model.specs.RawTrees as r
use Rattle.tc_model.specs.RawTrees.{Attribute, Bound, RawTrees}
use Rattle.tc_model.specs.Stripped.{bare}
use Rattle.tc_model.specs.Printed as printing
use Rattle.tc_model.specs.Printed.{escaped_in_text, escaped_in_value, tag_name, needs_no_declaration, declaration, default_within, is_none, printed_in, printed}
use Rattle.tc_model.specs.XmlTextBytes.{place_of, EqualsAt}
use Rattle.tc_model.specs.XmlTextNames.{NcNameAt, QualifiedName, QNameAt, unprefixed, prefixed}
use Rattle.tc_model.specs.XmlTextReferences.{QuotedAt}
use Rattle.tc_model.specs.XmlTextScopes as scopes
use Rattle.tc_model.specs.XmlTextScopes.{WrittenAttribute, first_scope, uri_of, bound_in, binding_of, scope_within, is_empty, xml_uri, IsLawfulBinding, Expands, ElementName, bound, unbound, TagMeans}
use Rattle.tc_model.specs.XmlTextContent.{Piece, whole, AttributesAt, no_more, attribute, TagAt, at_end_tag, item, child, ElementAt, empty_tag, with_content}
use Rattle.tc_model.proofs.XmlTextPhrases.{same_others, no_qname}
use Rattle.tc_print.specs.ReadBack.{nesting}
use Rattle.tc_print.proofs.ReadBackChars.{ascii_encodes}
use Rattle.tc_print.proofs.ReadBackText.{stops_name, IsContent, BeginsContent, from_content, to_content, text_before, value_at}

-- the default namespace as a binding
abbrev default_bound : List ℕ → Bound
default_bound uri = record { prefix = []; uri = uri }

-- what is in scope where this default namespace is in force
abbrev pub scope_of : List ℕ → List Bound
scope_of d = bound_in (default_bound d) first_scope

-- another declaration takes the place of the one in force
declared_scope : (d uri : List ℕ) → bound_in (default_bound uri) (scope_of d) ≡ scope_of uri
declared_scope d uri = by (is_empty d)
  where
    by : (x : Bool) → bound_in (default_bound uri) (record { prefix = codes "xml"; uri = xml_uri } ∷ (if x then [] else default_bound d ∷ [])) ≡ scope_of uri
    by true = refl
    by false = refl

equal : (a b : List ℕ) → bytes_eq a b ≡ true → a ≡ b
equal a b e = (bytes_decides a b).0 e

unequal : (a b : List ℕ) → a ≢ b → bytes_eq a b ≡ false
unequal a b h = by (bytes_eq a b) refl
  where
    by : (x : Bool) → bytes_eq a b ≡ x → bytes_eq a b ≡ false
    by true e = absurd (h (equal a b e))
    by false e = e

-- the default namespace that is in force
default_of : (d : List ℕ) → ((uri_of (scope_of d) [] ≡ Some d)) ⊎ ((uri_of (scope_of d) [] ≡ None) × (d ≡ []))
default_of d = by (is_empty d) refl
  where
    by : (x : Bool) → is_empty d ≡ x
        → (uri_of (record { prefix = codes "xml"; uri = xml_uri } ∷ (if x then [] else default_bound d ∷ [])) [] ≡ Some d)
        ⊎ ((uri_of (record { prefix = codes "xml"; uri = xml_uri } ∷ (if x then [] else default_bound d ∷ [])) [] ≡ None) × (d ≡ []))
    by true e = inr (refl, equal d [] e)
    by false e = inl refl

xml_of : (d : List ℕ) → uri_of (scope_of d) (codes "xml") ≡ Some xml_uri
xml_of d = refl

-- what may follow the name in a tag
record EndsName (bs : List ℕ) : Type 0 where
  byte : ℕ
  rest : List ℕ
  is : bs ≡ byte ∷ rest
  small : byte < 128
  stops : is_ncname_char byte ≡ false
  no_colon : byte ≢ 0x3A

name_at : (name bs : List ℕ) → IsNcName name → EndsName bs → NcNameAt (name ++ bs) name bs
name_at name bs lawful ends = record {
  lawful = lawful;
  parts = refl;
  longest = λ c k e. stops_name ends.byte ends.rest ends.small ends.stops c k (sym ends.is ∙ e);
}

unprefixed_at : (name bs : List ℕ) → IsNcName name → EndsName bs → QNameAt (name ++ bs) (record { prefix = []; local = name }) bs
unprefixed_at name bs lawful ends = unprefixed (name_at name bs lawful ends) (λ k e. let same : ends.byte ≡ 0x3A = cc in ends.no_colon same)

is_xml : IsNcName (codes "xml")
is_xml = (0x78, codes "ml", ascii_encodes (codes "xml") refl, refl, refl)

is_xmlns : IsNcName (codes "xmlns")
is_xmlns = (0x78, codes "mlns", ascii_encodes (codes "xmlns") refl, refl, refl)

-- the name as it is written
abbrev written : ExpandedName → QualifiedName
written n = if bytes_eq n.uri printing.xml_uri then record { prefix = codes "xml"; local = n.local } else record { prefix = []; local = n.local }

tag_name_at : (n : ExpandedName) (bs : List ℕ) → IsName n → EndsName bs → QNameAt (tag_name n ++ bs) (written n) bs
tag_name_at n bs h ends = by (bytes_eq n.uri printing.xml_uri)
  where
    by : (x : Bool) → QNameAt ((if x then codes "xml:" ++ n.local else n.local) ++ bs) (if x then record { prefix = codes "xml"; local = n.local } else record { prefix = []; local = n.local }) bs
    by true = prefixed (record { lawful = is_xml; parts = refl; longest = stops_name 0x3A (n.local ++ bs) (omega arith) refl }) (name_at n.local bs h.1 ends)
    by false = unprefixed_at n.local bs h.1 ends

-- what ends a tag
abbrev Closes : ℕ → Type 0
Closes c = (c ≡ 0x3E) ⊎ (c ≡ 0x2F)

closes_name : (c : ℕ) (rest : List ℕ) → Closes c → EndsName (c ∷ rest)
closes_name c rest (inl e) = subst (λ x. EndsName (x ∷ rest)) (sym e) (record { byte = 0x3E; rest = rest; is = refl; small = omega arith; stops = refl; no_colon = omega arith })
closes_name c rest (inr e) = subst (λ x. EndsName (x ∷ rest)) (sym e) (record { byte = 0x2F; rest = rest; is = refl; small = omega arith; stops = refl; no_colon = omega arith })

no_attributes : (total c : ℕ) (rest : List ℕ) → Closes c → AttributesAt false total (c ∷ rest) [] (c ∷ rest)
no_attributes total c rest (inl e) = subst (λ x. AttributesAt false total (x ∷ rest) [] (x ∷ rest)) (sym e) (no_more (inl (rest, refl)))
no_attributes total c rest (inr e) = subst (λ x. AttributesAt false total (x ∷ rest) [] (x ∷ rest)) (sym e) (no_more (inr (rest, refl)))

-- an element's name in its scope
default_name : (d : List ℕ) (n : ExpandedName) → n.uri ≡ d → ElementName (scope_of d) (record { prefix = []; local = n.local }) n
default_name d n same = by (default_of d)
  where
    by : (uri_of (scope_of d) [] ≡ Some d) ⊎ ((uri_of (scope_of d) [] ≡ None) × (d ≡ [])) → ElementName (scope_of d) (record { prefix = []; local = n.local }) n
    by (inl e) = subst (λ u. ElementName (scope_of d) (record { prefix = []; local = n.local }) (record { uri = u; local = n.local })) (sym same) (bound e)
    by (inr (e, none')) = subst (λ u. ElementName (scope_of d) (record { prefix = []; local = n.local }) (record { uri = u; local = n.local })) (sym (same ∙ none')) (unbound refl e)

undeclared_name : (d : List ℕ) (n : ExpandedName) → needs_no_declaration d n ≡ true → ElementName (scope_of d) (written n) n
undeclared_name d n h = by (bytes_eq n.uri printing.xml_uri) refl (bytes_eq n.uri d) refl h
  where
    by : (x : Bool) → bytes_eq n.uri printing.xml_uri ≡ x → (y : Bool) → bytes_eq n.uri d ≡ y → (y || x) ≡ true
        → ElementName (scope_of d) (if x then record { prefix = codes "xml"; local = n.local } else record { prefix = []; local = n.local }) n
    by true e y f k = subst (λ u. ElementName (scope_of d) (record { prefix = codes "xml"; local = n.local }) (record { uri = u; local = n.local })) (sym (equal n.uri xml_uri e)) (bound (xml_of d))
    by false e true f k = default_name d n (equal n.uri d f)
    by false e false f k = absurd (false≢true k)

-- the declaration of the default namespace
abbrev declares : ℕ → List ℕ → List ℕ → WrittenAttribute
declares total uri bs = record { name = record { prefix = []; local = codes "xmlns" }; value = uri; place = place_of total bs }

declaration_at : (total : ℕ) (uri : List ℕ) (c : ℕ) (rest : List ℕ) → Closes c
    → AttributesAt false total (codes " xmlns=\"" ++ (flat_map escaped_in_value uri ++ 0x22 ∷ c ∷ rest)) (declares total uri (codes "xmlns=\"" ++ (flat_map escaped_in_value uri ++ 0x22 ∷ c ∷ rest)) ∷ []) (c ∷ rest)
declaration_at total uri c rest close =
    let behind = flat_map escaped_in_value uri ++ 0x22 ∷ c ∷ rest in
    let ends : EndsName (codes "=\"" ++ behind) = record { byte = 0x3D; rest = 0x22 ∷ behind; is = refl; small = omega arith; stops = refl; no_colon = omega arith } in
    let sign : EqualsAt (codes "=\"" ++ behind) (0x22 ∷ behind) = record { rest = 0x22 ∷ behind; sign = refl; past = refl } in
    let quoted : QuotedAt false (0x22 ∷ behind) uri (c ∷ rest) = record { quote = 0x22; rest = behind; is_quote = inl refl; opens = refl; closes = value_at uri } in
    attribute (omega arith) (unprefixed_at (codes "xmlns") (codes "=\"" ++ behind) is_xmlns ends) sign quoted (no_attributes total c rest close)

lawful_binding : (n : ExpandedName) → IsName n → bytes_eq n.uri xml_uri ≡ false → IsLawfulBinding (default_bound n.uri)
lawful_binding n h e = record { not_xmlns = refl; not_to_xmlns = unequal n.uri xmlns_uri h.0.1; xml_to_its_own = sym e; not_undeclaring = refl }

or_parts : (x y : Bool) → (x || y) ≡ false → (x ≡ false) × (y ≡ false)
or_parts true y e = absurd (true≢false e)
or_parts false y e = (refl, e)

-- a tag up to where it ends
tag_at : (total : ℕ) (d : List ℕ) (n : ExpandedName) (c : ℕ) (rest : List ℕ) → IsName n → Closes c
    → TagAt false total (scope_of d) (0x3C ∷ (tag_name n ++ (declaration d n ++ c ∷ rest))) (written n) (scope_of (default_within d n)) n [] (c ∷ rest)
unfolding IsDistinct
tag_at total d n c rest h close = by (needs_no_declaration d n) refl
  where
    by : (x : Bool) → needs_no_declaration d n ≡ x
        → TagAt false total (scope_of d) (0x3C ∷ (tag_name n ++ ((if x then [] else codes " xmlns=\"" ++ flat_map escaped_in_value n.uri ++ codes "\"") ++ c ∷ rest)))
        (written n) (scope_of (if x then d else n.uri)) n [] (c ∷ rest)
    by true e = record {
      rest = tag_name n ++ c ∷ rest;
      past_name = c ∷ rest;
      attributes = [];
      opens = refl;
      names = tag_name_at n (c ∷ rest) h (closes_name c rest close);
      lists = no_attributes total c rest close;
      means = record { once = tt; no_space = refl; scopes = refl; names = undeclared_name d n e; expands = scopes.no_more; expanded_once = tt };
    }
    by false e =
        let (f, g) = or_parts (bytes_eq n.uri d) (bytes_eq n.uri printing.xml_uri) e in
        let behind = flat_map escaped_in_value n.uri ++ 0x22 ∷ c ∷ rest in
        let whole_declaration : (codes " xmlns=\"" ++ flat_map escaped_in_value n.uri ++ codes "\"") ++ c ∷ rest ≡ codes " xmlns=\"" ++ behind =
        append_assoc (codes " xmlns=\"" ++ flat_map escaped_in_value n.uri) (codes "\"") (c ∷ rest) ∙ append_assoc (codes " xmlns=\"") (flat_map escaped_in_value n.uri) (0x22 ∷ c ∷ rest) in
        let ends : EndsName (codes " xmlns=\"" ++ behind) = record { byte = 0x20; rest = codes "xmlns=\"" ++ behind; is = refl; small = omega arith; stops = refl; no_colon = omega arith } in
        let w = declares total n.uri (codes "xmlns=\"" ++ behind) in
        let plain_name : written n ≡ record { prefix = []; local = n.local } = ap (λ x. if x then record { prefix = codes "xml"; local = n.local } else record { prefix = []; local = n.local }) g in
        let means : TagMeans (scope_of d) (written n) (w ∷ []) (scope_of n.uri) n [] = record {
          once = (tt, tt);
          no_space = refl;
          scopes = sym (declared_scope d n.uri);
          names = subst (λ q. ElementName (scope_of n.uri) q n) (sym plain_name) (default_name n.uri n refl);
          expands = scopes.declaration refl (lawful_binding n h g) scopes.no_more;
          expanded_once = tt;
        } in
        let there : TagAt false total (scope_of d) (0x3C ∷ (tag_name n ++ (codes " xmlns=\"" ++ behind))) (written n) (scope_of n.uri) n [] (c ∷ rest) = record {
          rest = tag_name n ++ (codes " xmlns=\"" ++ behind);
          past_name = codes " xmlns=\"" ++ behind;
          attributes = w ∷ [];
          opens = refl;
          names = tag_name_at n (codes " xmlns=\"" ++ behind) h ends;
          lists = declaration_at total n.uri c rest close;
          means = means;
        } in
        subst (λ z. TagAt false total (scope_of d) (0x3C ∷ (tag_name n ++ z)) (written n) (scope_of n.uri) n [] (c ∷ rest)) (sym whole_declaration) there

-- an element and what follows it, with all parts to the right
abbrev pub element_text : List ℕ → ExpandedName → Trees → List ℕ → List ℕ
element_text d n kids after =
    0x3C ∷ (tag_name n ++ (declaration d n ++ (if is_none kids then 0x2F ∷ 0x3E ∷ after
    else 0x3E ∷ (printed_in (default_within d n) kids ++ 0x3C ∷ 0x2F ∷ (tag_name n ++ 0x3E ∷ after)))))

without_kids : (tag own rest after : List ℕ) → (codes "<" ++ tag ++ own ++ codes "/>" ++ rest) ++ after ≡ 0x3C ∷ (tag ++ (own ++ 0x2F ∷ 0x3E ∷ (rest ++ after)))
without_kids tag own rest after = simp append_assoc

closing : (tag inside w : List ℕ) → (codes ">" ++ inside ++ codes "</" ++ tag ++ codes ">") ++ w ≡ 0x3E ∷ (inside ++ 0x3C ∷ 0x2F ∷ (tag ++ 0x3E ∷ w))
closing tag inside w =
    append_assoc (codes ">" ++ inside ++ codes "</" ++ tag) (codes ">") w
    ∙ (append_assoc (codes ">" ++ inside ++ codes "</") tag (0x3E ∷ w) ∙ append_assoc (codes ">" ++ inside) (codes "</") (tag ++ 0x3E ∷ w))

with_kids : (tag own inside rest after : List ℕ)
    → (codes "<" ++ tag ++ own ++ (codes ">" ++ inside ++ codes "</" ++ tag ++ codes ">") ++ rest) ++ after
    ≡ 0x3C ∷ (tag ++ (own ++ 0x3E ∷ (inside ++ 0x3C ∷ 0x2F ∷ (tag ++ 0x3E ∷ (rest ++ after)))))
with_kids tag own inside rest after =
    let content = codes ">" ++ inside ++ codes "</" ++ tag ++ codes ">" in
    append_assoc (codes "<" ++ tag ++ own ++ content) rest after
    ∙ (append_assoc (codes "<" ++ tag ++ own) content (rest ++ after)
    ∙ (append_assoc (codes "<" ++ tag) own (content ++ (rest ++ after))
    ∙ ap (λ z. 0x3C ∷ (tag ++ (own ++ z))) (closing tag inside (rest ++ after))))

pub text_of_element : (d : List ℕ) (n : ExpandedName) (kids rest : Trees) (after : List ℕ) → printed_in d (element n kids rest) ++ after ≡ element_text d n kids (printed_in d rest ++ after)
text_of_element d n kids rest after = by (is_none kids)
  where
    by : (x : Bool)
        → (codes "<" ++ tag_name n ++ declaration d n ++ (if x then codes "/>" else codes ">" ++ printed_in (default_within d n) kids ++ codes "</" ++ tag_name n ++ codes ">") ++ printed_in d rest) ++ after
        ≡ 0x3C ∷ (tag_name n ++ (declaration d n ++ (if x then 0x2F ∷ 0x3E ∷ (printed_in d rest ++ after)
        else 0x3E ∷ (printed_in (default_within d n) kids ++ 0x3C ∷ 0x2F ∷ (tag_name n ++ 0x3E ∷ (printed_in d rest ++ after))))))
    by true = without_kids (tag_name n) (declaration d n) (printed_in d rest) after
    by false = with_kids (tag_name n) (declaration d n) (printed_in (default_within d n) kids) (printed_in d rest) after

-- an element that means these children
pub record IsElement (total deepest : ℕ) (scope : List Bound) (bs : List ℕ) (n : ExpandedName) (kids : Trees) (after : List ℕ) : Type 0 where
  pub within : List Bound
  pub place : ℕ
  pub raw : RawTrees
  pub content : ElementAt false total scope deepest bs (whole n [] within place raw) after
  pub means : bare raw ≡ kids

full_element : (total deepest : ℕ) (d : List ℕ) (n : ExpandedName) (k : Trees) (inside after : List ℕ) → IsName n
    → BeginsContent total deepest (scope_of (default_within d n)) (inside ++ 0x3C ∷ 0x2F ∷ (tag_name n ++ 0x3E ∷ after)) k (0x3C ∷ 0x2F ∷ (tag_name n ++ 0x3E ∷ after))
    → IsElement total (suc deepest) (scope_of d) (0x3C ∷ (tag_name n ++ (declaration d n ++ 0x3E ∷ (inside ++ 0x3C ∷ 0x2F ∷ (tag_name n ++ 0x3E ∷ after))))) n k after
full_element total deepest d n k inside after h g =
    let c = to_content g in
    let behind = inside ++ 0x3C ∷ 0x2F ∷ (tag_name n ++ 0x3E ∷ after) in
    record {
      within = scope_of (default_within d n);
      place = place_of total (0x3C ∷ (tag_name n ++ (declaration d n ++ 0x3E ∷ behind)));
      raw = c.raw;
      content = with_content (tag_at total d n 0x3E behind h (inl refl)) c.content (tag_name_at n (0x3E ∷ after) h (closes_name 0x3E after (inl refl))) refl;
      means = c.means;
    }

pub element_at : (total deepest : ℕ) (d : List ℕ) (n : ExpandedName) (kids : Trees) (after : List ℕ) → IsName n
    → ((q : List ℕ) → BeginsContent total deepest (scope_of (default_within d n)) (printed_in (default_within d n) kids ++ 0x3C ∷ 0x2F ∷ q) (joined kids) (0x3C ∷ 0x2F ∷ q))
    → IsElement total (suc deepest) (scope_of d) (element_text d n kids after) n (joined kids) after
element_at total deepest d n none after h inner = record {
  within = scope_of (default_within d n);
  place = place_of total (0x3C ∷ (tag_name n ++ (declaration d n ++ 0x2F ∷ 0x3E ∷ after)));
  raw = r.none;
  content = empty_tag (tag_at total d n 0x2F (0x3E ∷ after) h (inr refl));
  means = refl;
}
element_at total deepest d n (text s rest) after h inner =
    full_element total deepest d n (joined (text s rest)) (printed_in (default_within d n) (text s rest)) after h (inner (tag_name n ++ 0x3E ∷ after))
element_at total deepest d n (element m kids rest) after h inner =
    full_element total deepest d n (joined (element m kids rest)) (printed_in (default_within d n) (element m kids rest)) after h (inner (tag_name n ++ 0x3E ∷ after))

-- trees up to an end tag
pub content_of : (total deepest : ℕ) (d : List ℕ) (h : Trees) (q : List ℕ) → AreLawful h → nesting h ≤ deepest
    → BeginsContent total deepest (scope_of d) (printed_in d h ++ 0x3C ∷ 0x2F ∷ q) (joined h) (0x3C ∷ 0x2F ∷ q)
content_of total deepest d none q l depth = from_content 0x3C (0x2F ∷ q) refl (record { raw = r.none; content = at_end_tag; means = refl })
content_of total deepest d (text [] rest) q (t, l) depth = absurd (t.0 refl)
content_of total deepest d (text (b ∷ s) rest) q (t, l) depth =
    subst (λ w. BeginsContent total deepest (scope_of d) w (joined (text (b ∷ s) rest)) (0x3C ∷ 0x2F ∷ q))
    (sym (append_assoc (flat_map escaped_in_text (b ∷ s)) (printed_in d rest) (0x3C ∷ 0x2F ∷ q))) (text_before b s (content_of total deepest d rest q l depth))
content_of total zero d (element n kids rest) q (h, k, l) depth = absurd (omega (arith, depth))
content_of total (suc deepest) d (element n kids rest) q (h, k, l) depth =
    let behind = printed_in d rest ++ 0x3C ∷ 0x2F ∷ q in
    let e = element_at total deepest d n kids behind h (λ z. content_of total deepest (default_within d n) kids z k (omega (arith, depth))) in
    let c = to_content (content_of total (suc deepest) d rest q l (omega (arith, depth))) in
    let there : IsContent total (suc deepest) (scope_of d) (element_text d n kids behind) (joined (element n kids rest)) (0x3C ∷ 0x2F ∷ q) = record {
      raw = r.element n [] e.within e.place e.raw c.raw;
      content = item (child e.content) c.content;
      means = ap (λ z. element n z (bare c.raw)) e.means ∙ ap (element n (joined kids)) c.means;
    } in
    let after_open = tag_name n ++ (declaration d n ++ (if is_none kids then 0x2F ∷ 0x3E ∷ behind else 0x3E ∷ (printed_in (default_within d n) kids ++ 0x3C ∷ 0x2F ∷ (tag_name n ++ 0x3E ∷ behind)))) in
    subst (λ w. BeginsContent total (suc deepest) (scope_of d) w (joined (element n kids rest)) (0x3C ∷ 0x2F ∷ q))
    (sym (text_of_element d n kids rest (0x3C ∷ 0x2F ∷ q))) (from_content 0x3C after_open refl there)

-- a name stands behind the `<` of an element
pub no_name_begins : {o : Bool} {total deepest : ℕ} {outer : List Bound} {rest after : List ℕ} {p : Piece} (b : ℕ) (q : List ℕ) → b < 128 → is_ncname_start b ≡ false → rest ≡ b ∷ q
    → ElementAt o total outer deepest (0x3C ∷ rest) p after → ⊥
no_name_begins b q small is e (empty_tag {written = w} a) = no_qname b small is (subst (λ z. QNameAt z w a.past_name) (same_others (sym a.opens) ∙ e) a.names)
no_name_begins b q small is e (with_content {written = w} a c f g) = no_qname b small is (subst (λ z. QNameAt z w a.past_name) (same_others (sym a.opens) ∙ e) a.names)
