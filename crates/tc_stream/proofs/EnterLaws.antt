-- What is kept of the elements that are open, as one is gone into, and what its tag means.
use Rattle.std.proofs.Common.{◌≡◌, ℕ, ◌+◌, ◌*◌, ◌<◌, ◌≤◌, Bool, true, false, cond, List, [], ◌∷◌, ◌++◌, refl, ap, ◌∙◌, sym, subst, map, length, take, drop, reverse, Some, None, IsUtf8, bytes_eq, codes, arith, append_assoc, length-append}
use Rattle.std.specs.Prelude.{sum_by}
use Rattle.std.specs.List.{AllByRecursion}
use Rattle.std.proofs.lemmas.List.{reverse-append, map-append, length-map, take_at, drop_at}
use Rattle.std.proofs.lemmas.Option.{same_Some, none-some}
use Rattle.tc_model.specs.Names.{ExpandedName, IsChars, xml_uri}
use Rattle.tc_model.specs.RawTrees.{Attribute, Bound}
use Rattle.tc_model.specs.XmlTextContent.{AttributesAt, no_more, attribute}
use Rattle.tc_model.specs.XmlTextNames.{QualifiedName, QNameAt, unprefixed, prefixed}
use Rattle.tc_model.specs.XmlTextScopes.{WrittenAttribute, TagMeans, ElementName, Expands, IsLawfulBinding, is_empty, is_declaration, binding_of, scope_within}
use Rattle.tc_model.proofs.XmlTextChars.{chars_utf8, name_chars, white_chars, after_ascii, equals_chars}
use Rattle.tc_model.proofs.XmlTextLawful.{quoted_chars, qname_chars, qname_parts}
use Rattle.tc_model.proofs.XmlTextTrees.{first_lawful}
use Rattle.tc_tags.specs.Bindings.{Binds, scope_with}
use Rattle.tc_tags.specs.Chained.{first_such}
use Rattle.tc_tags.specs.Forms.{FormRead, IsNameAt}
use Rattle.tc_stream.specs.Goes.{Level, used}
use Rattle.tc_stream.specs.Keeps.{written_bytes, Holds, IsLevel, AreLevels, AreOpen, IsText, IsKept, entered, AreMeantBehind, name_in, AreTexts, IsNamed, IsUnnamed}
use Rattle.tc_tags.specs.Scoped.{declares, meant_by, bound_by, chains_in}
use Rattle.tc_tags.specs.Spans.{at_span}
use Rattle.tc_tags.specs.Written.{AreKept, AreMeant, AreWritten, Adds, StandsWithin, binding_in, bindings_of, declared_bytes}
use Rattle.tc_stream.specs.XmlTextMeasures.{most_names}
use Rattle.tc_tags.specs.XmlTextTags.{WrittenElement, written_length, declared_length, names_length}
use Rattle.tc_tags.specs.declared.attributes.Attribute as listed
use Rattle.tc_stream.specs.declared.elements.Level as code
use Rattle.tc_tags.specs.declared.names.Span.{Span}
use Rattle.tc_tags.specs.declared.names.WrittenName.{WrittenName}
use Rattle.tc_tags.specs.declared.scopes.Declared.{Declared}
use Rattle.tc_tags.specs.declared.tags.Form.{Form}
use Rattle.tc_tags.proofs.AddingLaws.{length_bytes}
use Rattle.tc_tags.proofs.BindingLaws.{binds_more, once_with, scope_of_bindings, span_kept, bindings_kept, all_append}
use Rattle.tc_tags.proofs.CountLaws.{local_some, some_locals, few_names}
use Rattle.tc_stream.proofs.KeepsLaws.{names_used, open_deep}
use Rattle.tc_tags.proofs.MeaningLaws.{Means, means_so, meant_so}
use Rattle.tc_tags.proofs.NameBytes.{name_alone}
use Rattle.tc_tags.proofs.TagReadLaws.{name_some}

-- The name of a tag

-- a name has as many bytes as are counted
pub written_long : (n : QualifiedName) → length (written_bytes n) ≡ written_length n
written_long n = by (bytes_eq n.prefix [])
  where
    by : (b : Bool) → length (cond b n.local (n.prefix ++ 0x3A ∷ n.local)) ≡ cond b (length n.local) (length n.prefix + 1 + length n.local)
    by true = refl
    by false = omega (arith, length-append n.prefix (0x3A ∷ n.local))

pub long_plain : (n : QualifiedName) (l : List ℕ) → true ≡ is_empty n.prefix → l ≡ n.local → length l ≡ written_length n
long_plain n l e f = ap length f ∙ ap (λ b. cond b (length n.local) (length n.prefix + 1 + length n.local)) e

pub long_prefixed : (n : QualifiedName) (p l : List ℕ) → false ≡ is_empty n.prefix → p ≡ n.prefix → l ≡ n.local → length p + 1 + length l ≡ written_length n
long_prefixed n p l e f g =
    ap (λ z. length z + 1 + length l) f ∙ (ap (λ z. length n.prefix + 1 + length z) g ∙ ap (λ b. cond b (length n.local) (length n.prefix + 1 + length n.local)) e)

-- where it stands it is written so
written_before : {bs after : List ℕ} {n : QualifiedName} → QNameAt bs n after → bs ≡ written_bytes n ++ after
written_before (unprefixed a ends) = a.parts
written_before {bs} {after} (prefixed {prefix = p} {rest = rest} {local = l} a b) =
    a.parts ∙ (ap (λ z. p ++ 0x3A ∷ z) b.parts ∙ (sym (append_assoc p (0x3A ∷ l) after)
    ∙ ap (λ x. cond x l (p ++ 0x3A ∷ l) ++ after) (sym (name_some bs p (0x3A ∷ rest) a))))

pub whole_stands : {tag : List ℕ} {f : Form} {e : WrittenElement} (s : Span) → FormRead tag f e → s.start ≡ 1 → s.length ≡ written_length e.name → at_span s tag ≡ written_bytes e.name
whole_stands {tag} {f} {e} s r one long =
    let a = r.form in
    ap (λ k. take s.length (drop k tag)) one
    ∙ (ap (λ z. take s.length (drop 1 z)) a.opens
    ∙ (ap (take s.length) (written_before a.names) ∙ take_at (written_bytes e.name) a.past_name s.length (written_long e.name ∙ sym long)))

-- its parts as they are kept
pub same_name : {tag : List ℕ} {f : WrittenName} {n : QualifiedName} → IsNameAt tag f n → name_in tag f ≡ n
same_name {tag} {f} {n} h =
    let make : List ℕ → List ℕ → QualifiedName = λ x y. record { prefix = x; local = y } in
    ap (λ x. make x (at_span f.local tag)) h.prefix ∙ ap (make n.prefix) h.local

pub local_text : {tag : List ℕ} {f : Form} {e : WrittenElement} → FormRead tag f e → IsUtf8 (at_span f.name.local tag)
local_text {tag} {f} {e} r =
    let parts = qname_parts r.form.names in
    subst IsUtf8 (sym r.name.local) (chars_utf8 e.name.local (name_chars e.name.local parts.1))

-- The names and declarations of an element are added, and its level tells how many there were before

pub record Added (e : WrittenElement) (names now : List ℕ) (declared new : List Declared) (chains : List ℕ) (c : code.Level) : Type 0 where
  pub adds : Adds e.attributes (names ++ written_bytes e.name) now declared new
  pub kept : AreKept now new chains
  pub named : QNameAt (written_bytes e.name) e.name []
  pub start : c.name.start ≡ length names
  pub long : c.name.length ≡ length (written_bytes e.name)
  pub names_before : c.names ≡ length names
  pub declared_before : c.declared ≡ length declared

pub added_so : {tag names now : List ℕ} {declared new : List Declared} {chains : List ℕ} {f : Form} {e : WrittenElement} (s : Span) (c : code.Level) → FormRead tag f e → s.start ≡ 1 → s.length ≡ written_length e.name
    → Adds e.attributes (names ++ at_span s tag) now declared new → AreKept now new chains → c.name.start ≡ length names → c.name.length ≡ length (at_span s tag) → c.names ≡ length names → c.declared ≡ length declared
    → Added e names now declared new chains c
added_so {tag} {names} {now} {declared} {new} {chains} {f} {e} s c r one long a k start has before count =
    let whole = whole_stands s r one long in
    record {
      adds = subst (λ z. Adds e.attributes (names ++ z) now declared new) whole a;
      kept = k;
      named = name_alone (written_bytes e.name) r.form.names (written_before r.form.names);
      start = start;
      long = has ∙ ap length whole;
      names_before = before;
      declared_before = count;
    }

abbrev rest_of : WrittenElement → List ℕ
rest_of e = written_bytes e.name ++ declared_bytes e.attributes

added_whole : {e : WrittenElement} {names now : List ℕ} {declared new : List Declared} {newer : List ℕ} {c : code.Level} → Added e names now declared new newer c → now ≡ names ++ rest_of e
added_whole {e} {names} {now} m = m.adds.bytes ∙ append_assoc names (written_bytes e.name) (declared_bytes e.attributes)

added_front : {e : WrittenElement} {names now : List ℕ} {declared new : List Declared} {newer : List ℕ} {c : code.Level} → Added e names now declared new newer c → take c.names now ≡ names
added_front {e} {names} {now} {declared} {new} {newer} {c} m = ap (take c.names) (added_whole m) ∙ take_at names (rest_of e) c.names (sym m.names_before)

added_before : {e : WrittenElement} {names now : List ℕ} {declared new : List Declared} {newer : List ℕ} {c : code.Level} → Added e names now declared new newer c → take c.declared new ≡ declared
added_before {e} {names} {now} {declared} {new} {newer} {c} m = ap (take c.declared) m.adds.behind ∙ take_at declared m.adds.more c.declared (sym m.declared_before)

added_bindings : {e : WrittenElement} {names now : List ℕ} {declared new : List Declared} {newer : List ℕ} {c : code.Level} → Added e names now declared new newer c
    → map (binding_in now) (drop c.declared new) ≡ bindings_of e.attributes
added_bindings {e} {names} {now} {declared} {new} {newer} {c} m =
    ap (λ z. map (binding_in now) (drop c.declared z)) m.adds.behind ∙ (ap (map (binding_in now)) (drop_at declared m.adds.more c.declared (sym m.declared_before)) ∙ m.adds.bindings)

pub added_names : {e : WrittenElement} {names now : List ℕ} {declared new : List Declared} {newer : List ℕ} {c : code.Level} → Added e names now declared new newer c → length now ≡ names_length e + length names
added_names {e} {names} {now} {declared} {new} {newer} {c} m =
    let all : length now ≡ length names + length (rest_of e) = ap length (added_whole m) ∙ length-append names (rest_of e) in
    let rest : length (rest_of e) ≡ length (written_bytes e.name) + length (declared_bytes e.attributes) = length-append (written_bytes e.name) (declared_bytes e.attributes) in
    let own = written_long e.name in
    let others = length_bytes e.attributes in
    omega (arith, all, rest, own, others)

added_declared : {e : WrittenElement} {names now : List ℕ} {declared new : List Declared} {newer : List ℕ} {c : code.Level} → Added e names now declared new newer c
    → length new ≡ length (bindings_of e.attributes) + length declared
added_declared {e} {names} {now} {declared} {new} {newer} {c} m =
    let all : length new ≡ length declared + length m.adds.more = ap length m.adds.behind ∙ length-append declared m.adds.more in
    let many : length m.adds.more ≡ length (bindings_of e.attributes) = sym (length-map m.adds.more (binding_in now)) ∙ ap length m.adds.bindings in
    omega (arith, all, many)

-- what is in scope then
pub holds_in : {e : WrittenElement} {names now : List ℕ} {declared new : List Declared} {newer : List ℕ} {c : code.Level} (outer : List Bound) → Added e names now declared new newer c → Holds names declared outer
    → AllByRecursion (StandsWithin (length names)) declared → Holds now new (scope_within outer e.attributes)
holds_in {e} {names} {now} {declared} {new} {newer} {c} outer m h w =
    let ws = e.attributes in
    let kept : map (binding_in now) declared ≡ map (binding_in names) declared = ap (λ z. map (binding_in z) declared) (added_whole m) ∙ bindings_kept names (rest_of e) declared w in
    let all : map (binding_in now) new ≡ map (binding_in names) declared ++ bindings_of ws =
    ap (map (binding_in now)) m.adds.behind
    ∙ (map-append (binding_in now) declared m.adds.more
    ∙ (ap (λ z. z ++ map (binding_in now) m.adds.more) kept ∙ ap (λ z. map (binding_in names) declared ++ z) m.adds.bindings)) in
    let binds = binds_more (map (binding_in names) declared) (bindings_of ws) outer h.once h.binds in
    subst (Holds now new) (sym (scope_of_bindings outer ws))
    (record { binds = subst (λ z. Binds z (scope_with outer (bindings_of ws))) (sym all) binds; once = once_with outer (bindings_of ws) h.once })

level_in : {e : WrittenElement} {names now : List ℕ} {declared new : List Declared} {newer : List ℕ} {c : code.Level} (n : ExpandedName) (outer : List Bound) → Added e names now declared new newer c → Holds names declared outer
    → AllByRecursion (StandsWithin (length names)) declared → 2 * length (bindings_of e.attributes) ≤ names_length e + 1 → IsLevel now new (entered e n outer) c
level_in {e} {names} {now} {declared} {new} {newer} {c} n outer m h w few =
    let front = added_front m in
    let before = added_before m in
    let all = added_names m in
    let many = added_declared m in
    let had = m.names_before in
    let count = m.declared_before in
    record {
      written = ap (λ z. take c.name.length (drop c.name.start z)) (added_whole m)
          ∙ (ap (take c.name.length) (drop_at names (rest_of e) c.name.start (sym m.start)) ∙ take_at (written_bytes e.name) (declared_bytes e.attributes) c.name.length (sym m.long));
      named = m.named;
      names_more = omega (arith, all, had);
      declared_more = omega (arith, many, count);
      holds = subst (λ z. Holds z (take c.declared new) outer) (sym front) (subst (λ z. Holds names z outer) (sym before) h);
      within = subst (λ z. AllByRecursion (StandsWithin (length z)) (take c.declared new)) (sym front) (subst (AllByRecursion (StandsWithin (length names))) (sym before) w);
      few = few;
    }

pub goes_in : {e : WrittenElement} {names now : List ℕ} {declared new : List Declared} {chains newer : List ℕ} {cs : List code.Level} {c : code.Level} {ls : List Level} {outer : List Bound} (n : ExpandedName)
    → AreOpen names declared chains cs ls outer → Added e names now declared new newer c → 2 * length (bindings_of e.attributes) ≤ names_length e + 1 → length cs < 2000 → length cs ≡ length ls
    → AreOpen now new newer (cs ++ c ∷ []) (entered e n outer ∷ ls) (scope_within outer e.attributes)
goes_in {e} {names} {now} {declared} {new} {chains} {newer} {cs} {c} {ls} {outer} n k m few low same =
    let level = level_in n outer m k.holds k.kept.within few in
    let others : AreLevels (take c.names now) (take c.declared new) ls (reverse cs) =
    subst (λ z. AreLevels z (take c.declared new) ls (reverse cs)) (sym (added_front m)) (subst (λ z. AreLevels names z ls (reverse cs)) (sym (added_before m)) k.levels_are) in
    let deep : length (entered e n outer ∷ ls) ≤ 2000 = omega (arith, low, same) in
    record {
      levels_are = subst (AreLevels now new (entered e n outer ∷ ls)) (sym (reverse-append cs (c ∷ []))) (level, others);
      holds = holds_in outer m k.holds k.kept.within;
      kept = m.kept;
      deep = deep;
    }

-- Texts

text_bindings : (ws : List WrittenAttribute) → AllByRecursion (λ (w : WrittenAttribute). IsUtf8 w.value) ws → AllByRecursion (λ (b : Bound). IsUtf8 b.uri) (bindings_of ws)
text_bindings [] h = tt
text_bindings (w ∷ ws) h = by (is_declaration w) (text_bindings ws h.1)
  where
    by : (x : Bool) → AllByRecursion (λ (b : Bound). IsUtf8 b.uri) (bindings_of ws) → AllByRecursion (λ (b : Bound). IsUtf8 b.uri) (cond x (binding_of w ∷ bindings_of ws) (bindings_of ws))
    by true more = (h.0, more)
    by false more = more

attribute_texts : {o : Bool} {total : ℕ} {bs after : List ℕ} {ws : List WrittenAttribute} → AttributesAt o total bs ws after → IsChars bs → AllByRecursion (λ (w : WrittenAttribute). IsUtf8 w.value) ws
attribute_texts (no_more e) h = tt
attribute_texts {bs = bs} (attribute {past_name = p} {start = s} {value = x} w a e v l) h =
    let both = quoted_chars v (equals_chars p s e (qname_chars a (white_chars bs h))) in
    (chars_utf8 x both.0, attribute_texts l both.1)

form_texts : {tag : List ℕ} {f : Form} {e : WrittenElement} → FormRead tag f e → IsChars tag → AllByRecursion (λ (w : WrittenAttribute). IsUtf8 w.value) e.attributes
form_texts r h =
    let a = r.form in
    attribute_texts a.lists (qname_chars a.names (after_ascii 0x3C a.rest (omega arith) (subst IsChars a.opens h)))

bound_texts : (names : List ℕ) (ds : List Declared) → AllByRecursion (λ (b : Bound). IsUtf8 b.uri) (map (binding_in names) ds) → AllByRecursion (IsText names) ds
bound_texts names [] h = tt
bound_texts names (d ∷ ds) h = (h.0, bound_texts names ds h.1)

pub texts_kept : (names more : List ℕ) (ds : List Declared) → AllByRecursion (StandsWithin (length names)) ds → AllByRecursion (IsText names) ds → AllByRecursion (IsText (names ++ more)) ds
texts_kept names more [] w h = tt
texts_kept names more (d ∷ ds) w h = (subst IsUtf8 (sym (span_kept d.uri names more w.0.1)) h.0, texts_kept names more ds w.1 h.1)

pub texts_in : {tag names now : List ℕ} {declared new : List Declared} {newer : List ℕ} {f : Form} {e : WrittenElement} {c : code.Level} → Added e names now declared new newer c → FormRead tag f e → IsChars tag
    → AllByRecursion (StandsWithin (length names)) declared → AllByRecursion (IsText names) declared → AllByRecursion (IsText now) new
texts_in {tag} {names} {now} {declared} {new} {newer} {f} {e} {c} m r chars w h =
    let old = subst (λ z. AllByRecursion (IsText z) declared) (sym (added_whole m)) (texts_kept names (rest_of e) declared w h) in
    let own = subst (AllByRecursion (λ (b : Bound). IsUtf8 b.uri)) (sym m.adds.bindings) (text_bindings e.attributes (form_texts r chars)) in
    subst (AllByRecursion (IsText now)) (sym m.adds.behind) (all_append (IsText now) declared m.adds.more old (bound_texts now m.adds.more own))

-- what is bound is text

xml_text : IsUtf8 xml_uri
xml_text = chars_utf8 xml_uri first_lawful.0.uri.0

bound_text : (names p uri : List ℕ) (ds : List Declared) → AllByRecursion (IsText names) ds → bound_by ds names p ≡ Some uri → IsUtf8 uri
bound_text names p uri [] h e = by (bytes_eq (codes "xml") p) e
  where
    by : (x : Bool) → cond x (Some xml_uri) None ≡ Some uri → IsUtf8 uri
    by true e = subst IsUtf8 (same_Some xml_uri uri e) xml_text
    by false e = absurd (none-some uri e)
bound_text names p uri (d ∷ ds) h e = by (bytes_eq (at_span d.prefix names) p) e (bound_text names p uri ds h.1)
  where
    here : (x : Bool) → cond x None (Some (at_span d.uri names)) ≡ Some uri → IsUtf8 uri
    here true e = absurd (none-some uri e)
    here false e = subst IsUtf8 (same_Some (at_span d.uri names) uri e) h.0

    by : (x : Bool) → meant_by names p (cond x (Some d) (first_such (declares names p) ds)) ≡ Some uri → (bound_by ds names p ≡ Some uri → IsUtf8 uri) → IsUtf8 uri
    by true e more = here (is_empty (at_span d.uri names)) e
    by false e more = more e

all_reverse : {A : Type 0} (P : A → Type 0) (xs : List A) → AllByRecursion P xs → AllByRecursion P (reverse xs)
all_reverse P [] h = tt
all_reverse P (x ∷ xs) h = subst (AllByRecursion P) (sym (reverse-append (x ∷ []) xs)) (all_append P (reverse xs) (x ∷ []) (all_reverse P xs h.1) (h.0, tt))

pub all_texts : (names : List ℕ) (declared : List Declared) → AllByRecursion (IsText names) declared → AreTexts names declared
all_texts names declared h p uri e = bound_text names p uri (reverse declared) (all_reverse (IsText names) declared h) e

-- What the tag means

-- the declarations of a tag that means something, by the bytes of its names
few_meant : {tag : List ℕ} {f : Form} {e : WrittenElement} {scope : List Bound} → FormRead tag f e → Means scope e.attributes → AllByRecursion IsLawfulBinding (bindings_of e.attributes)
    → 2 * length (bindings_of e.attributes) ≤ names_length e + 1
few_meant {tag} {f} {e} r m h = few_names e (local_some r.form.names) (some_locals r.form.lists) m.once h

-- a tag by its form, whose names and declarations are added within elements that are open
pub record Tagged (tag : List ℕ) (f : Form) (e : WrittenElement) (list : List listed.Attribute) (names now : List ℕ) (declared new : List Declared) (chains newer : List ℕ) (cs : List code.Level) (c : code.Level)
    (ls : List Level) (outer : List Bound) : Type 0 where
  pub read : FormRead tag f e
  pub written : AreWritten tag list e.attributes
  pub added : Added e names now declared new newer c
  pub around : AreOpen names declared chains cs ls outer

pub tagged : {tag : List ℕ} {f : Form} {e : WrittenElement} {names now : List ℕ} {declared new : List Declared} {chains newer : List ℕ} {cs : List code.Level} {ls : List Level} {outer : List Bound} (list : List listed.Attribute) (s : Span) (c : code.Level)
    → FormRead tag f e → AreWritten tag list e.attributes → AreOpen names declared chains cs ls outer → s.start ≡ 1 → s.length ≡ written_length e.name
    → Adds e.attributes (names ++ at_span s tag) now declared new → AreKept now new newer → c.name.start ≡ length names → c.name.length ≡ length (at_span s tag) → c.names ≡ length names → c.declared ≡ length declared
    → Tagged tag f e list names now declared new chains newer cs c ls outer
tagged list s c r are k one long a kept start has before count = record { read = r; written = are; added = added_so s c r one long a kept start has before count; around = k }

scope_holds : {tag : List ℕ} {f : Form} {e : WrittenElement} {list : List listed.Attribute} {names now : List ℕ} {declared new : List Declared} {chains newer : List ℕ} {cs : List code.Level} {c : code.Level} {ls : List Level} {outer : List Bound}
    → Tagged tag f e list names now declared new chains newer cs c ls outer → Holds now new (scope_within outer e.attributes)
scope_holds {tag} {f} {e} {list} {names} {now} {declared} {new} {chains} {newer} {cs} {c} {ls} {outer} t = holds_in outer t.added t.around.holds t.around.kept.within

tag_meant : {tag : List ℕ} {f : Form} {e : WrittenElement} {list : List listed.Attribute} {names now : List ℕ} {declared new : List Declared} {chains newer : List ℕ} {cs : List code.Level} {c : code.Level} {ls : List Level} {outer : List Bound}
    → Tagged tag f e list names now declared new chains newer cs c ls outer → AreMeantBehind tag now new list c.declared → AreMeant tag now new (bindings_of e.attributes) list
tag_meant {tag} {f} {e} {list} {names} {now} {declared} {new} {chains} {newer} {cs} {c} {ls} {outer} t m = subst (λ z. AreMeant tag now new z list) (added_bindings t.added) m

pub tag_means : {tag : List ℕ} {f : Form} {e : WrittenElement} {list : List listed.Attribute} {names now : List ℕ} {declared new : List Declared} {chains newer : List ℕ} {cs : List code.Level} {c : code.Level} {ls : List Level} {outer : List Bound}
    → Tagged tag f e list names now declared new chains newer cs c ls outer → AreMeantBehind tag now new list c.declared → Means (scope_within outer e.attributes) e.attributes
tag_means {tag} {f} {e} {list} {names} {now} {declared} {new} {chains} {newer} {cs} {c} {ls} {outer} t m =
    means_so tag now new (scope_within outer e.attributes) (scope_holds t).binds list e.attributes t.written (tag_meant t m)

pub tag_open : {tag : List ℕ} {f : Form} {e : WrittenElement} {list : List listed.Attribute} {names now : List ℕ} {declared new : List Declared} {chains newer : List ℕ} {cs : List code.Level} {c : code.Level} {ls : List Level} {outer : List Bound} (n : ExpandedName)
    → Tagged tag f e list names now declared new chains newer cs c ls outer → AreMeantBehind tag now new list c.declared → length cs < 2000 → AreOpen now new newer (cs ++ c ∷ []) (entered e n outer ∷ ls) (scope_within outer e.attributes)
tag_open {tag} {f} {e} {list} {names} {now} {declared} {new} {chains} {newer} {cs} {c} {ls} {outer} n t m low =
    let few = few_meant t.read (tag_means t m) (tag_meant t m).lawful in
    goes_in n t.around t.added few low (open_deep t.around)

pub tag_fits : {tag : List ℕ} {f : Form} {e : WrittenElement} {list : List listed.Attribute} {names now : List ℕ} {declared new : List Declared} {chains newer : List ℕ} {cs : List code.Level} {c : code.Level} {ls : List Level} {outer : List Bound}
    → Tagged tag f e list names now declared new chains newer cs c ls outer → length now ≤ 65536 → names_length e + used ls ≤ most_names
tag_fits {tag} {f} {e} {list} {names} {now} {declared} {new} {chains} {newer} {cs} {c} {ls} {outer} t short =
    let all = added_names t.added in
    let before = names_used t.around in
    omega (arith, all, before, short)

pub tag_texts : {tag : List ℕ} {f : Form} {e : WrittenElement} {list : List listed.Attribute} {names now : List ℕ} {declared new : List Declared} {chains newer : List ℕ} {cs : List code.Level} {c : code.Level} {ls : List Level} {outer : List Bound}
    → Tagged tag f e list names now declared new chains newer cs c ls outer → IsChars tag → AllByRecursion (IsText names) declared → AllByRecursion (IsText now) new
tag_texts {tag} {f} {e} {list} {names} {now} {declared} {new} {chains} {newer} {cs} {c} {ls} {outer} t chars texts = texts_in t.added t.read chars t.around.kept.within texts

pub tag_named : {tag : List ℕ} {f : Form} {e : WrittenElement} {list : List listed.Attribute} {names now : List ℕ} {declared new : List Declared} {chains newer : List ℕ} {cs : List code.Level} {c : code.Level} {ls : List Level} {outer : List Bound} (n : ExpandedName)
    → Tagged tag f e list names now declared new chains newer cs c ls outer → AllByRecursion (IsText now) new → IsNamed tag now new f.name n → ElementName (scope_within outer e.attributes) e.name n
tag_named {tag} {f} {e} {list} {names} {now} {declared} {new} {chains} {newer} {cs} {c} {ls} {outer} n t texts h =
    subst (λ z. ElementName (scope_within outer e.attributes) z n) (same_name t.read.name) (h (scope_within outer e.attributes) (local_text t.read) (all_texts now new texts) (scope_holds t).binds)

pub tag_meaning : {tag : List ℕ} {f : Form} {e : WrittenElement} {list : List listed.Attribute} {names now : List ℕ} {declared new : List Declared} {chains newer : List ℕ} {cs : List code.Level} {c : code.Level} {ls : List Level} {outer : List Bound} {n : ExpandedName}
    (t : Tagged tag f e list names now declared new chains newer cs c ls outer) (m : AreMeantBehind tag now new list c.declared) → ElementName (scope_within outer e.attributes) e.name n
    → TagMeans outer e.name e.attributes (scope_within outer e.attributes) n (tag_means t m).expanded
tag_meaning t m named =
    let means = tag_means t m in
    record { once = means.once; no_space = t.read.form.no_space; scopes = refl; names = named; expands = means.expands; expanded_once = means.expanded_once }

-- and one that means nothing
pub no_meaning : {tag : List ℕ} {f : Form} {e : WrittenElement} {list : List listed.Attribute} {names now : List ℕ} {declared new : List Declared} {chains newer : List ℕ} {cs : List code.Level} {c : code.Level} {ls : List Level} {outer : List Bound}
    → Tagged tag f e list names now declared new chains newer cs c ls outer → IsChars tag → AllByRecursion (IsText names) declared → (AreMeantBehind tag now new list c.declared → IsUnnamed tag now new f.name)
    → (scope : List Bound) (n : ExpandedName) (x : List Attribute) → TagMeans outer e.name e.attributes scope n x → ⊥
no_meaning {tag} {f} {e} {list} {names} {now} {declared} {new} {chains} {newer} {cs} {c} {ls} {outer} t chars texts refuse scope n x k =
    let inside = scope_within outer e.attributes in
    let held = scope_holds t in
    let means : Means inside e.attributes = record { once = k.once; expanded = x; expands = subst (λ z. Expands z e.attributes x) k.scopes k.expands; expanded_once = k.expanded_once } in
    let meant = meant_so tag now new inside held.binds list e.attributes t.written means in
    let named = subst (λ z. ElementName inside z n) (sym (same_name t.read.name)) (subst (λ z. ElementName z e.name n) k.scopes k.names) in
    refuse (subst (λ z. AreMeant tag now new z list) (sym (added_bindings t.added)) meant) inside (local_text t.read) (all_texts now new (tag_texts t chars texts)) held.binds n named

-- names that have no room
pub too_many : {tag : List ℕ} {f : Form} {e : WrittenElement} {names : List ℕ} {declared : List Declared} {chains : List ℕ} {cs : List code.Level} {ls : List Level} {outer : List Bound} (most : ℕ) (s : Span)
    → AreOpen names declared chains cs ls outer → FormRead tag f e → s.start ≡ 1 → s.length ≡ written_length e.name → most ≡ 65536 → most < length names + length (at_span s tag) + sum_by declared_length e.attributes
    → most_names < names_length e + used ls
too_many {e = e} most s k r one long is h =
    let own = ap length (whole_stands s r one long) ∙ written_long e.name in
    let before = names_used k in
    omega (arith, h, is, own, before)

-- What is kept, where the same lists are

pub open_moved : {names now : List ℕ} {declared new : List Declared} {chains newer : List ℕ} {cs ds : List code.Level} {ls : List Level} {scope : List Bound} → now ≡ names → new ≡ declared → newer ≡ chains → ds ≡ cs
    → AreOpen names declared chains cs ls scope → AreOpen now new newer ds ls scope
open_moved {names} {now} {declared} {new} {chains} {newer} {cs} {ds} {ls} {scope} e f g h k =
    subst (λ z. AreOpen z new newer ds ls scope) (sym e)
    (subst (λ z. AreOpen names z newer ds ls scope) (sym f)
    (subst (λ z. AreOpen names declared z ds ls scope) (sym g)
    (subst (λ z. AreOpen names declared chains z ls scope) (sym h) k)))

pub kept_moved : {names now : List ℕ} {declared new : List Declared} {chains newer : List ℕ} {cs ds : List code.Level} {ls : List Level} {scope : List Bound} → now ≡ names → new ≡ declared → newer ≡ chains → ds ≡ cs
    → AreOpen names declared chains cs ls scope → AllByRecursion (IsText names) declared → IsKept now new newer ds ls scope
kept_moved {names} {now} {declared} {new} {chains} {newer} {cs} {ds} {ls} {scope} e f g h k texts = record {
  are_open = open_moved e f g h k;
  texts = subst (λ z. AllByRecursion (IsText z) new) (sym e) (subst (AllByRecursion (IsText names)) (sym f) texts);
}

-- the meaning of a tag, where the same lists are
pub meant_same : {bytes other : List ℕ} (names : List ℕ) (declared : List Declared) (list : List listed.Attribute) (before : ℕ) → other ≡ bytes → AreMeantBehind other names declared list before → AreMeantBehind bytes names declared list before
meant_same names declared list before e h = subst (λ z. AreMeantBehind z names declared list before) e h

pub named_same : {bytes other names now : List ℕ} {declared new : List Declared} (f : WrittenName) (n : ExpandedName) → other ≡ bytes → now ≡ names → new ≡ declared → IsNamed other now new f n → IsNamed bytes names declared f n
named_same {bytes} {other} {names} {now} {declared} {new} f n e g h k =
    subst (λ z. IsNamed z names declared f n) e (subst (λ z. IsNamed other z declared f n) g (subst (λ z. IsNamed other now z f n) h k))

pub unnamed_same : {bytes other names now : List ℕ} {declared new : List Declared} (f : WrittenName) → other ≡ bytes → now ≡ names → new ≡ declared → IsUnnamed other now new f → IsUnnamed bytes names declared f
unnamed_same {bytes} {other} {names} {now} {declared} {new} f e g h k =
    subst (λ z. IsUnnamed z names declared f) e (subst (λ z. IsUnnamed other z declared f) g (subst (λ z. IsUnnamed other now z f) h k))

pub chained_same : {names now : List ℕ} {declared new : List Declared} {chains newer : List ℕ} → now ≡ names → new ≡ declared → newer ≡ chains → chains ≡ chains_in names declared → newer ≡ chains_in now new
chained_same {names} {now} {declared} {new} {chains} {newer} e f g h = g ∙ (h ∙ (ap (λ z. chains_in z declared) (sym e) ∙ ap (chains_in now) (sym f)))
