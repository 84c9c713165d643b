-- Which word stands at the front of a text.
use Rattle.std.proofs.Common.{◌≡◌, ℕ, Option, None, Some, MatchOption, Bool, true, false, not, cond, ◌&&◌, ◌==◌, suc, ◌+◌, ◌-◌, ◌<◌, get_or, List, [], ◌∷◌, ◌++◌, refl, ap, ◌∙◌, sym, subst, length, take, drop, inl, inr, IsTrue, arith, length-append, append_assoc}
use Rattle.std.specs.Prelude.{encode_utf8, codes}
use Rattle.std.specs.List.{list_all}
use Rattle.std.specs.Str.{NoCharPasses, NonePass}
use Rattle.std.proofs.Math.Seq.{take-length, drop-length, drop-nil, take-append_seam, drop-append_seam}
use Rattle.std.proofs.lemmas.Bool.{true≢false, eqb-true, and_parts}
use Rattle.std.proofs.lemmas.Str.{encode_same, length-encode, len_utf8_bounds, NoCharPasses-byte}
use Rattle.tc_model.specs.Names.{IsNcName, is_ncname_char}
use Rattle.tc_model.specs.XmlTextBytes.{IsQuote, length_before, UpTo, LiteralAt}
use Rattle.tc_model.specs.XmlTextNames.{NcNameAt}
use Rattle.tc_model.specs.CompactSyntaxTokens.{Word, a_name, prefixed, all_of, mark, LongLiteralAt, EscapedAt, is_mark, WordAt, plain_name, prefixed_name, namespace_name, escaped_name, quoted, quoted_long, backslash, other}
use Rattle.tc_model.proofs.XmlTextPhrases.{same_others, ncname_unique, start_is_char}
use Rattle.tc_rnc.specs.Fronts.{IsNoMark, is_in_line}
use Rattle.tc_rnc.proofs.Escapes.{lacks_mark}

pub no_quote : {text : List ℕ} → ((r : List ℕ) → text ≡ 0x22 ∷ r → ⊥) → ((r : List ℕ) → text ≡ 0x27 ∷ r → ⊥) → (value after : List ℕ) → LiteralAt text value after → ⊥
no_quote {text} h k value after a = by a.is_quote
  where
    by : IsQuote a.quote → ⊥
    by (inl e) = h a.rest (a.opens ∙ ap (λ q. q ∷ a.rest) e)
    by (inr e) = k a.rest (a.opens ∙ ap (λ q. q ∷ a.rest) e)

-- what stands nowhere has all before it, and nothing behind
pub all_before : (quotes text : List ℕ) → ((inside after : List ℕ) → UpTo quotes text inside after → ⊥) → text ≡ take (length_before quotes text) text
all_before quotes text h = sym (ap (λ n. take n text) (lacks_mark quotes text h) ∙ take-length text)

pub none_behind : (quotes text : List ℕ) → ((inside after : List ℕ) → UpTo quotes text inside after → ⊥) → [] ≡ drop (length quotes) (drop (length_before quotes text) text)
none_behind quotes text h =
    let none : drop (length_before quotes text) text ≡ [] = ap (λ n. drop n text) (lacks_mark quotes text h) ∙ drop-length text in
    sym (ap (drop (length quotes)) none ∙ drop-nil (length quotes))

pub no_escaped : {text rest name after r : List ℕ} → text ≡ 0x5C ∷ rest → NcNameAt rest name after → name ≡ codes "x" → after ≡ 0x7B ∷ r → (n s : List ℕ) → EscapedAt text n s → ⊥
no_escaped {r = r} e a f g n s b =
    let both = ncname_unique (subst (λ w. NcNameAt w n s) (same_others (sym b.opens ∙ e)) b.names) a in
    b.no_escape (both.0 ∙ f) r (both.1 ∙ g)

pub name_without_colon : {bs name after : List ℕ} → ((r : List ℕ) → after ≡ 0x3A ∷ r → ⊥) → NcNameAt bs name after → WordAt bs (a_name name) after
name_without_colon h a = plain_name a (λ r e. absurd (h r e))

pub name_before_colon : {bs name after behind : List ℕ} → after ≡ 0x3A ∷ behind → ((r : List ℕ) → behind ≡ 0x2A ∷ r → ⊥) → ((n r : List ℕ) → NcNameAt behind n r → ⊥)
    → NcNameAt bs name after → WordAt bs (a_name name) after
name_before_colon {bs} {name} {after} {behind} e h k a = plain_name a (λ r f. by r (same_others (sym e ∙ f)))
  where
    by : (r : List ℕ) → behind ≡ r → ((n s : List ℕ) → NcNameAt r n s → ⊥) × ((s : List ℕ) → r ≡ 0x2A ∷ s → ⊥)
    by r g = (λ n s b. k n s (subst (λ w. NcNameAt w n s) (sym g) b), λ s i. h s (g ∙ i))

pub name_with_asterisk : {bs name after behind rest : List ℕ} → after ≡ 0x3A ∷ behind → behind ≡ 0x2A ∷ rest → NcNameAt bs name after → WordAt bs (all_of name) rest
name_with_asterisk {bs} {name} e f a = namespace_name (subst (λ w. NcNameAt bs name w) (e ∙ ap (λ w. 0x3A ∷ w) f) a)

pub name_with_local : {bs name after behind local rest : List ℕ} → after ≡ 0x3A ∷ behind → NcNameAt behind local rest → NcNameAt bs name after → WordAt bs (prefixed name local) rest
name_with_local {bs} {name} e b a = prefixed_name (subst (λ w. NcNameAt bs name w) e a) b

-- a name lacks colons
none_is_colon : (cs : List ℕ) → IsTrue (list_all is_ncname_char cs) → NonePass (λ c. not (is_ncname_char c)) cs
none_is_colon [] h = tt
none_is_colon (c ∷ cs) h = let both = and_parts (is_ncname_char c) (list_all is_ncname_char cs) h in (ap not both.0, none_is_colon cs both.1)

name_lacks_colon : (name : List ℕ) → IsNcName name → (i : ℕ) → i < length name → get_or name i 0 ≡ 0x3A → ⊥
name_lacks_colon name (c, cs, is, s, k) i l e =
    let none : NoCharPasses (λ c. not (is_ncname_char c)) name = (c ∷ cs, is, (ap not (start_is_char c s), none_is_colon cs k)) in
    let passes : not (is_ncname_char (get_or name i 0)) ≡ false = NoCharPasses-byte (λ c. not (is_ncname_char c)) name i none l (omega arith) in
    true≢false (subst (λ b. not (is_ncname_char b) ≡ false) e passes)

before_colon : (name local : List ℕ) → ((i : ℕ) → i < length name → get_or name i 0 ≡ 0x3A → ⊥) → length_before (0x3A ∷ []) (name ++ 0x3A ∷ local) ≡ length name
before_colon [] local h = refl
before_colon (b ∷ bs) local h = by (0x3A == b) refl (before_colon bs local (λ i l e. h (suc i) (omega (arith, l)) e))
  where
    by : (x : Bool) → (0x3A == b) ≡ x → length_before (0x3A ∷ []) (bs ++ 0x3A ∷ local) ≡ length bs → length_before (0x3A ∷ []) (b ∷ bs ++ 0x3A ∷ local) ≡ suc (length bs)
    by true e there = absurd (h 0 (omega arith) (sym (eqb-true 0x3A b e)))
    by false e there = ap (λ z. cond (z && true) 0 (1 + length_before (0x3A ∷ []) (bs ++ 0x3A ∷ local))) e ∙ omega (arith, there)

pub cut_front : (text rest q front : List ℕ) → q ≡ take (length text - length rest) text → text ≡ front ++ rest → q ≡ front
cut_front text rest q front e is =
    e ∙ (ap (λ n. take n text) (omega (arith, ap length is, length-append front rest)) ∙ (ap (take (length front)) is ∙ take-append_seam front rest))

pub qualified_parts : {text name rest behind local after : List ℕ} → NcNameAt text name rest → rest ≡ 0x3A ∷ behind → NcNameAt behind local after → text ≡ (name ++ 0x3A ∷ local) ++ after
qualified_parts {name = name} {local = local} {after = after} a e b =
    a.parts ∙ (ap (λ w. name ++ w) (e ∙ ap (λ w. 0x3A ∷ w) b.parts) ∙ sym (append_assoc name (0x3A ∷ local) after))

pub qualified_word : {text name rest behind local after q : List ℕ} → NcNameAt text name rest → rest ≡ 0x3A ∷ behind → NcNameAt behind local after → q ≡ name ++ 0x3A ∷ local
    → WordAt text (prefixed (take (length_before (0x3A ∷ []) q) q) (drop 1 (drop (length_before (0x3A ∷ []) q) q))) after
qualified_word {text} {name} {local = local} {after = after} a e b is =
    subst (λ q. WordAt text (prefixed (take (length_before (0x3A ∷ []) q) q) (drop 1 (drop (length_before (0x3A ∷ []) q) q))) after) (sym is)
    (subst (λ n. WordAt text (prefixed (take n (name ++ 0x3A ∷ local)) (drop 1 (drop n (name ++ 0x3A ∷ local)))) after) (sym (before_colon name local (name_lacks_colon name a.lawful)))
    (subst (λ w. WordAt text (prefixed w (drop 1 (drop (length name) (name ++ 0x3A ∷ local)))) after) (sym (take-append_seam name (0x3A ∷ local)))
    (subst (λ w. WordAt text (prefixed name (drop 1 w)) after) (sym (drop-append_seam name (0x3A ∷ local))) (name_with_local e b a))))

pub backslash_word : {text rest : List ℕ} → text ≡ 0x5C ∷ rest → ((n r : List ℕ) → EscapedAt text n r → ⊥) → WordAt text (mark 0x5C) rest
backslash_word {text} {rest} e h =
    subst (λ w. WordAt w (mark 0x5C) rest) (sym e) (backslash (λ n r a. h n r (subst (λ w. EscapedAt w n r) (sym e) a)))

pub some_char : (c : ℕ) (r : List ℕ) → [] ≡ encode_utf8 c ++ r → ⊥
some_char c r e = omega (arith, ap length e, length-append (encode_utf8 c) r, length-encode c, len_utf8_bounds c)

pub no_mark_at_end : {text : List ℕ} → text ≡ [] → IsNoMark text
no_mark_at_end e = record { no_backslash = λ r f. omega (arith, ap length (sym e ∙ f)); no_mark = λ c r f h. some_char c r (sym e ∙ f) }

pub no_mark_at : {text : List ℕ} (c : ℕ) (rest : List ℕ) → ((r : List ℕ) → text ≡ 0x5C ∷ r → ⊥) → text ≡ encode_utf8 c ++ rest → is_mark c ≡ false → IsNoMark text
no_mark_at c rest h e k = record {
  no_backslash = h;
  no_mark = λ d r f m. true≢false (sym m ∙ (ap is_mark (encode_same d c r rest (sym f ∙ e)).0 ∙ k));
}

pub no_word : {text : List ℕ} → ((n r : List ℕ) → NcNameAt text n r → ⊥) → ((value after : List ℕ) → LiteralAt text value after → IsTrue (list_all is_in_line value) → ⊥)
    → ((value after : List ℕ) → LongLiteralAt text value after → ⊥) → ((n r : List ℕ) → EscapedAt text n r → ⊥) → IsNoMark text → (w : Word) (r : List ℕ) → WordAt text w r → ⊥
no_word h k g l m w r (plain_name {name = n} a e) = h n r a
no_word h k g l m w r (prefixed_name {prefix = p} {rest = s} a b) = h p (0x3A ∷ s) a
no_word h k g l m w r (namespace_name {prefix = p} a) = h p (0x3A ∷ 0x2A ∷ r) a
no_word h k g l m w r (escaped_name {name = n} a) = l n r a
no_word h k g l m w r (quoted {value = v} a e n) = k v r a e
no_word h k g l m w r (quoted_long {value = v} a) = g v r a
no_word h k g l m w r (backslash e) = m.no_backslash r refl
no_word h k g l m w r (other {c = c} e i) = m.no_mark c r e i

pub none_map : {T : Type 0} {P R : Type 0} (Q : T → Type 0) (o : Option T) → (P → R) → MatchOption o P Q → MatchOption o R Q
none_map Q None f h = f h
none_map Q (Some x) f h = h
