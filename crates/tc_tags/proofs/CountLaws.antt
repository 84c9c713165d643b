-- How many declarations a tag has that means something: its names have two bytes for each but one.
use Rattle.std.proofs.Common.{◌≡◌, ℕ, suc, ◌+◌, ◌*◌, ◌<◌, ◌≤◌, Bool, true, false, cond, not, ◌||◌, List, [], ◌∷◌, refl, ap, ◌∙◌, sym, subst, length, arith, bytes_eq, codes}
use Rattle.std.specs.Prelude.{sum_by}
use Rattle.std.specs.List.{AllByRecursion, IsDistinct}
use Rattle.std.specs.Cmp.Lexicographic.{bytes_decides}
use Rattle.std.proofs.lemmas.Bool.{true≢false, and_parts, and_from}
use Rattle.std.proofs.lemmas.List.Sums.{sum_by-cons}
use Rattle.tc_model.specs.XmlTextContent.{AttributesAt, no_more, attribute}
use Rattle.tc_model.specs.XmlTextNames.{QualifiedName, QNameAt, unprefixed, prefixed, same_written}
use Rattle.tc_model.specs.XmlTextScopes.{WrittenAttribute, IsLawfulBinding, is_empty, is_declaration, is_default_declaration, binding_of}
use Rattle.tc_tags.specs.Written.{bindings_of}
use Rattle.tc_tags.specs.XmlTextTags.{WrittenElement, written_length, declared_length, names_length}
use Rattle.tc_tags.proofs.MeaningLaws.{names_of}
use Rattle.tc_tags.proofs.TagReadLaws.{name_some}

-- bytes, and none
some_length : (bs : List ℕ) → is_empty bs ≡ false → 0 < length bs
some_length [] e = absurd (true≢false e)
some_length (b ∷ bs) e = omega arith

not_empty : (bs : List ℕ) → 0 < length bs → is_empty bs ≡ false
not_empty [] l = absurd (omega (arith, l))
not_empty (b ∷ bs) l = refl

-- names have a local part
pub local_some : {bs after : List ℕ} {n : QualifiedName} → QNameAt bs n after → 0 < length n.local
local_some (unprefixed {bs = bs} {local = l} {after = after} a ends) = some_length l (name_some bs l after a)
local_some (prefixed {rest = rest} {local = l} {after = after} a b) = some_length l (name_some rest l after b)

abbrev pub HasLocal : WrittenAttribute → Type 0
HasLocal w = 0 < length w.name.local

pub some_locals : {o : Bool} {total : ℕ} {bs after : List ℕ} {ws : List WrittenAttribute} → AttributesAt o total bs ws after → AllByRecursion HasLocal ws
some_locals (no_more e) = tt
some_locals (attribute w a e v l) = (local_some a, some_locals l)

-- a declaration and what others bind
declared_one : (w : WrittenAttribute) (ws : List WrittenAttribute) → is_declaration w ≡ true → length (bindings_of (w ∷ ws)) ≡ suc (length (bindings_of ws))
declared_one w ws e = ap (λ b. length (cond b (binding_of w ∷ bindings_of ws) (bindings_of ws))) e

declared_no : (w : WrittenAttribute) (ws : List WrittenAttribute) → is_declaration w ≡ false → length (bindings_of (w ∷ ws)) ≡ length (bindings_of ws)
declared_no w ws e = ap (λ b. length (cond b (binding_of w ∷ bindings_of ws) (bindings_of ws))) e

lawful_here : (w : WrittenAttribute) (ws : List WrittenAttribute) → is_declaration w ≡ true → AllByRecursion IsLawfulBinding (bindings_of (w ∷ ws)) → IsLawfulBinding (binding_of w)
lawful_here w ws e h =
    let both = subst (λ b. AllByRecursion IsLawfulBinding (cond b (binding_of w ∷ bindings_of ws) (bindings_of ws))) e h in
    both.0

lawful_rest : (w : WrittenAttribute) (ws : List WrittenAttribute) → AllByRecursion IsLawfulBinding (bindings_of (w ∷ ws)) → AllByRecursion IsLawfulBinding (bindings_of ws)
lawful_rest w ws h = by (is_declaration w) h
  where
    by : (b : Bool) → AllByRecursion IsLawfulBinding (cond b (binding_of w ∷ bindings_of ws) (bindings_of ws)) → AllByRecursion IsLawfulBinding (bindings_of ws)
    by true h = h.1
    by false h = h

-- a lawful declaration of a prefix has two bytes
uri_some : (p u : List ℕ) → is_empty p || not (is_empty u) ≡ true → is_empty p ≡ false → 0 < length u
uri_some p u h e = some_length u (by (is_empty p) (is_empty u) h e)
  where
    by : (x y : Bool) → x || not y ≡ true → x ≡ false → y ≡ false
    by true y h e = absurd (true≢false e)
    by false true h e = absurd (true≢false (sym h))
    by false false h e = refl

two_bytes : (w : WrittenAttribute) → is_declaration w ≡ true → is_default_declaration w ≡ false → 0 < length w.name.local → IsLawfulBinding (binding_of w) → 2 ≤ declared_length w
two_bytes w d o l h =
    let all : declared_length w ≡ length (binding_of w).prefix + length (binding_of w).uri = ap (λ b. cond b (length (binding_of w).prefix + length (binding_of w).uri) 0) d in
    let prefix : length (binding_of w).prefix ≡ length w.name.local = ap (λ b. length (cond b [] w.name.local)) o in
    let some : 0 < length (binding_of w).prefix = omega (arith, prefix, l) in
    let uri : 0 < length (binding_of w).uri = uri_some (binding_of w).prefix (binding_of w).uri h.not_undeclaring (not_empty (binding_of w).prefix some) in
    omega (arith, all, some, uri)

-- where no default declaration is among them
few_others : (ws : List WrittenAttribute) → AllByRecursion HasLocal ws → AllByRecursion IsLawfulBinding (bindings_of ws) → AllByRecursion (λ (w : WrittenAttribute). is_default_declaration w ≡ false) ws
    → 2 * length (bindings_of ws) ≤ sum_by declared_length ws
few_others [] a h o = omega arith
few_others (w ∷ ws) a h o = by (is_declaration w) refl (few_others ws a.1 (lawful_rest w ws h) o.1)
  where
    by : (d : Bool) → is_declaration w ≡ d → 2 * length (bindings_of ws) ≤ sum_by declared_length ws → 2 * length (bindings_of (w ∷ ws)) ≤ sum_by declared_length (w ∷ ws)
    by true e r =
        let two = two_bytes w e o.0 a.0 (lawful_here w ws e h) in
        omega (arith, r, declared_one w ws e, two, sum_by-cons declared_length w ws)
    by false e r = omega (arith, r, declared_no w ws e, sum_by-cons declared_length w ws)

-- attributes with two names, one of which declares the default namespace
same_default : (w v : WrittenAttribute) → is_default_declaration w ≡ true → is_default_declaration v ≡ true → same_written w.name v.name ≡ true
same_default w v f g =
    let (a, b) = and_parts (is_empty w.name.prefix) (bytes_eq w.name.local (codes "xmlns")) f in
    let (c, d) = and_parts (is_empty v.name.prefix) (bytes_eq v.name.local (codes "xmlns")) g in
    and_from (bytes_eq w.name.prefix v.name.prefix) (bytes_eq w.name.local v.name.local)
    ((bytes_decides w.name.prefix v.name.prefix).1 ((bytes_decides w.name.prefix []).0 a ∙ sym ((bytes_decides v.name.prefix []).0 c)))
    ((bytes_decides w.name.local v.name.local).1 ((bytes_decides w.name.local (codes "xmlns")).0 b ∙ sym ((bytes_decides v.name.local (codes "xmlns")).0 d)))

no_default : (w : WrittenAttribute) (ws : List WrittenAttribute) → is_default_declaration w ≡ true → AllByRecursion (λ (n : QualifiedName). same_written w.name n ≡ false) (names_of ws)
    → AllByRecursion (λ (v : WrittenAttribute). is_default_declaration v ≡ false) ws
no_default w [] f h = tt
no_default w (v ∷ ws) f h = (by (is_default_declaration v) refl, no_default w ws f h.1)
  where
    by : (x : Bool) → is_default_declaration v ≡ x → is_default_declaration v ≡ false
    by true g = absurd (true≢false (sym (same_default w v f g) ∙ h.0))
    by false g = g

-- all of them
few_bytes : (ws : List WrittenAttribute) → AllByRecursion HasLocal ws → IsDistinct same_written (names_of ws) → AllByRecursion IsLawfulBinding (bindings_of ws) → 2 * length (bindings_of ws) ≤ sum_by declared_length ws + 2
unfolding IsDistinct
few_bytes [] a n h = omega arith
few_bytes (w ∷ ws) a n h = by (is_default_declaration w) refl (is_declaration w) refl (few_bytes ws a.1 n.1 (lawful_rest w ws h))
  where
    by : (x : Bool) → is_default_declaration w ≡ x → (d : Bool) → is_declaration w ≡ d → 2 * length (bindings_of ws) ≤ sum_by declared_length ws + 2
        → 2 * length (bindings_of (w ∷ ws)) ≤ sum_by declared_length (w ∷ ws) + 2
    by true f true e r =
        let rest = few_others ws a.1 (lawful_rest w ws h) (no_default w ws f n.0) in
        omega (arith, rest, declared_one w ws e, sum_by-cons declared_length w ws)
    by true f false e r = omega (arith, r, declared_no w ws e, sum_by-cons declared_length w ws)
    by false f true e r =
        let two = two_bytes w e f a.0 (lawful_here w ws e h) in
        omega (arith, r, declared_one w ws e, two, sum_by-cons declared_length w ws)
    by false f false e r = omega (arith, r, declared_no w ws e, sum_by-cons declared_length w ws)

-- the name of an element has a byte
written_some : (n : QualifiedName) → 0 < length n.local → 0 < written_length n
written_some n l = by (is_empty n.prefix)
  where
    by : (b : Bool) → 0 < cond b (length n.local) (length n.prefix + 1 + length n.local)
    by true = l
    by false = omega (arith, l)

-- the declarations of an element, by the bytes of its names
pub few_names : (e : WrittenElement) → 0 < length e.name.local → AllByRecursion HasLocal e.attributes → IsDistinct same_written (names_of e.attributes) → AllByRecursion IsLawfulBinding (bindings_of e.attributes)
    → 2 * length (bindings_of e.attributes) ≤ names_length e + 1
few_names e l a n h =
    let some = written_some e.name l in
    let few = few_bytes e.attributes a n h in
    omega (arith, some, few)
