-- What a scan of a document type declaration tells is what stands there.
use Rattle.std.proofs.Common.{◌≡◌, inl, inr, ◌⊎◌, ℕ, ◌<◌, Bool, true, false, cond, ◌||◌, ◌==◌, if◌then◌else◌, List, [], ◌∷◌, ◌++◌, refl, ap, ◌∙◌, sym, subst, arith, codes}
use Rattle.std.specs.Prelude.{encode_utf8_all}
use Rattle.std.specs.List.{list_all}
use Rattle.std.proofs.lemmas.Bool.{true≢false, and_from, eqb-true, cond-true, cond-false}
use Rattle.tc_base.specs.Characters.{is_white}
use Rattle.tc_model.specs.Names.{is_ncname_start, is_ncname_char}
use Rattle.tc_model.specs.XmlTextBytes.{BeginsWithWhite, after_white, IsQuote, LiteralAt}
use Rattle.tc_model.specs.XmlTextNames.{NcNameAt, QualifiedName, QNameAt, unprefixed, prefixed}
use Rattle.tc_model.specs.XmlTextMisc.{ExternalIdAt, no_id, system, public, DoctypeFrontAt}
use Rattle.tc_model.proofs.XmlTextPhrases.{same_first}
use Rattle.tc_stream.specs.Doctypes.{Typing, begun, before_name, in_name, at_colon, named, in_word, before_literal, in_literal, identified, more, untyped, or_end, at_word, behind_literal, typed_next, TypeScan, typed, typing, subset, no_doctype, type_on, doctype_scan}
use Rattle.tc_stream.proofs.SplitLaws.{Splits, splits_up_to, splits_more, splits_here, IsBare, bare_after}
use Rattle.tc_stream.proofs.EncodedLaws.{first_encoded, mark_encoded, white_encoded, begins_encoded, splits_encoded, EndsName, NameAt, name_encoded}
use Rattle.tc_stream.proofs.DoctypeLaws.{type_step, OnWhite, skip_white, some_white, begun_white, before_white, name_white, named_white, word_white, literal_white, identified_white, white_or_not, IsEnd, TypeEnds, ends, opens, doctype_scanned}

-- the scan tells something
abbrev pub Tells : TypeScan → Type 0
Tells (typed r) = Unit {0}
Tells (typing k) = ⊥
Tells (subset r) = Unit {0}
Tells no_doctype = ⊥

-- by a state that stops at a character
tells_not : (k : Typing) (c : ℕ) (cs : List ℕ) → typed_next k c ≡ untyped → Tells (doctype_scan k (c ∷ cs)) → ⊥
tells_not k c cs e h = subst Tells (type_step k untyped c cs e) h

tells_on : (k j : Typing) (c : ℕ) (cs : List ℕ) → typed_next k c ≡ more j → Tells (doctype_scan k (c ∷ cs)) → Tells (doctype_scan j cs)
tells_on k j c cs e h = subst Tells (type_step k (more j) c cs e) h

-- white space must stand here
white_found : (k j : Typing) (cs : List ℕ) → OnWhite k j → OnWhite j j → ((c : ℕ) → is_white c ≡ false → typed_next k c ≡ untyped) → Tells (doctype_scan k cs)
    → BeginsWithWhite cs × Tells (doctype_scan j (after_white cs))
white_found k j [] w v n h = absurd h
white_found k j (c ∷ cs) w v n h = by (is_white c) refl (white_or_not (c ∷ cs))
  where
    by : (x : Bool) → is_white c ≡ x → BeginsWithWhite (c ∷ cs) ⊎ (after_white (c ∷ cs) ≡ c ∷ cs) → BeginsWithWhite (c ∷ cs) × Tells (doctype_scan j (after_white (c ∷ cs)))
    by true e (inl b) = (b, subst Tells (some_white k j (c ∷ cs) w v b) h)
    by true e (inr same) = absurd (true≢false (sym e ∙ subst IsBare same (bare_after (c ∷ cs))))
    by false e b = absurd (tells_not k c cs (n c e) h)

-- a literal

inside_found : (n q : ℕ) (cs : List ℕ) → Tells (doctype_scan (in_literal n q) cs) → (vs : List ℕ) × (ds : List ℕ) × Splits q cs vs ds × Tells (doctype_scan (behind_literal n) ds)
inside_found n q [] h = absurd h
inside_found n q (c ∷ cs) h = by (c == q) refl (inside_found n q cs)
  where
    by : (x : Bool) → (c == q) ≡ x → (Tells (doctype_scan (in_literal n q) cs) → (vs : List ℕ) × (ds : List ℕ) × Splits q cs vs ds × Tells (doctype_scan (behind_literal n) ds))
        → (vs : List ℕ) × (ds : List ℕ) × Splits q (c ∷ cs) vs ds × Tells (doctype_scan (behind_literal n) ds)
    by true e later = ([], cs, splits_here c cs e, tells_on (in_literal n q) (behind_literal n) c cs (cond-true (c == q) _ _ e) h)
    by false e later =
        let (vs, ds, s, k) = later (tells_on (in_literal n q) (in_literal n q) c cs (cond-false (c == q) _ _ e) h) in
        (c ∷ vs, ds, splits_more c e s, k)

quote_low : (q : ℕ) → IsQuote q → q < 128
quote_low q (inl e) = omega (arith, e)
quote_low q (inr e) = omega (arith, e)

-- what a literal at the front is, and what follows it
record LiteralHere (n : ℕ) (cs : List ℕ) : Type 0 where
  value : List ℕ
  behind : List ℕ
  literal : LiteralAt (encode_utf8_all cs) value (encode_utf8_all behind)
  tells : Tells (doctype_scan (behind_literal n) behind)

literal_found : (n : ℕ) (cs : List ℕ) → IsBare cs → Tells (doctype_scan (before_literal n) cs) → LiteralHere n cs
literal_found n [] bare h = absurd h
literal_found n (c ∷ cs) bare h = by (c == 0x22) (c == 0x27) refl refl
  where
    next : (x y : Bool) → (c == 0x22) ≡ x → (c == 0x27) ≡ y → typed_next (before_literal n) c ≡ cond (x || y) (more (in_literal n c)) untyped
    next x y e k = cond-false (is_white c) _ _ bare ∙ (ap (λ z. cond (z || c == 0x27) (more (in_literal n c)) untyped) e ∙ ap (λ z. cond (x || z) (more (in_literal n c)) untyped) k)

    inside : IsQuote c → typed_next (before_literal n) c ≡ more (in_literal n c) → LiteralHere n (c ∷ cs)
    inside i e =
        let (vs, ds, s, k) = inside_found n c cs (tells_on (before_literal n) (in_literal n c) c cs e h) in
        let low = quote_low c i in
        record {
          value = encode_utf8_all vs;
          behind = ds;
          literal = record { quote = c; rest = encode_utf8_all cs; is_quote = i; opens = first_encoded c cs low; closes = splits_up_to (splits_encoded low s) };
          tells = k;
        }

    by : (x y : Bool) → (c == 0x22) ≡ x → (c == 0x27) ≡ y → LiteralHere n (c ∷ cs)
    by true y e k = inside (inl (eqb-true c 0x22 e)) (next true y e k)
    by false true e k = inside (inr (eqb-true c 0x27 k)) (next false true e k)
    by false false e k = absurd (tells_not (before_literal n) c cs (next false false e k) h)

-- white space and a literal
record SpacedHere (n : ℕ) (cs : List ℕ) : Type 0 where
  value : List ℕ
  behind : List ℕ
  white : BeginsWithWhite (encode_utf8_all cs)
  literal : LiteralAt (after_white (encode_utf8_all cs)) value (encode_utf8_all behind)
  tells : Tells (doctype_scan (behind_literal n) behind)

spaced_found : (n : ℕ) (cs : List ℕ) → Tells (doctype_scan (in_word [] n) cs) → SpacedHere n cs
spaced_found n cs h =
    let w = white_found (in_word [] n) (before_literal n) cs (word_white n) (literal_white n) (λ c e. cond-false (is_white c) _ _ e) h in
    let l = literal_found n (after_white cs) (bare_after cs) w.1 in
    record {
      value = l.value;
      behind = l.behind;
      white = begins_encoded cs w.0;
      literal = subst (λ z. LiteralAt z l.value (encode_utf8_all l.behind)) (sym (white_encoded cs)) l.literal;
      tells = l.tells;
    }

word_found : (n : ℕ) (left cs : List ℕ) → Tells (doctype_scan (in_word left n) cs) → (ds : List ℕ) × (cs ≡ left ++ ds) × Tells (doctype_scan (in_word [] n) ds)
word_found n [] cs h = (cs, refl, h)
word_found n (b ∷ left) [] h = absurd h
word_found n (b ∷ left) (c ∷ cs) h = by (c == b) refl (word_found n left cs)
  where
    by : (x : Bool) → (c == b) ≡ x → (Tells (doctype_scan (in_word left n) cs) → (ds : List ℕ) × (cs ≡ left ++ ds) × Tells (doctype_scan (in_word [] n) ds))
        → (ds : List ℕ) × (c ∷ cs ≡ (b ∷ left) ++ ds) × Tells (doctype_scan (in_word [] n) ds)
    by true e later =
        let (ds, is, k) = later (tells_on (in_word (b ∷ left) n) (in_word left n) c cs (cond-true (c == b) _ _ e) h) in
        (ds, ap (λ z. z ∷ cs) (eqb-true c b e) ∙ ap (λ w. b ∷ w) is, k)
    by false e later = absurd (tells_not (in_word (b ∷ left) n) c cs (cond-false (c == b) _ _ e) h)

-- the end

end_there : (c : ℕ) (cs : List ℕ) → ((c == 0x3E) ≡ true) ⊎ ((c == 0x5B) ≡ true) → IsEnd (encode_utf8_all (c ∷ cs))
end_there c cs (inl e) = inl (encode_utf8_all cs, ap (λ z. encode_utf8_all (z ∷ cs)) (eqb-true c 0x3E e) ∙ first_encoded 0x3E cs (omega arith))
end_there c cs (inr e) = inr (encode_utf8_all cs, ap (λ z. encode_utf8_all (z ∷ cs)) (eqb-true c 0x5B e) ∙ first_encoded 0x5B cs (omega arith))

identified_found : (cs : List ℕ) → Tells (doctype_scan identified cs) → IsEnd (after_white (encode_utf8_all cs))
identified_found cs h = subst IsEnd (sym (white_encoded cs)) (by (after_white cs) (bare_after cs) (subst Tells (skip_white identified cs identified_white) h))
  where
    by : (ds : List ℕ) → IsBare ds → Tells (doctype_scan identified ds) → IsEnd (encode_utf8_all ds)
    by [] bare h = absurd h
    by (d ∷ ds) bare h = which (d == 0x3E) (d == 0x5B) refl refl
      where
        which : (x y : Bool) → (d == 0x3E) ≡ x → (d == 0x5B) ≡ y → IsEnd (encode_utf8_all (d ∷ ds))
        which true y e k = end_there d ds (inl e)
        which false true e k = end_there d ds (inr k)
        which false false e k = absurd (tells_not identified d ds (cond-false (is_white d) _ _ bare ∙ (cond-false (d == 0x3E) _ _ e ∙ cond-false (d == 0x5B) _ _ k)) h)

-- an external identifier or none, and the end
record ExternalHere (cs : List ℕ) : Type 0 where
  past : List ℕ
  external : ExternalIdAt (encode_utf8_all cs) past
  is_end : IsEnd (after_white past)

none_here : (cs ds : List ℕ) → after_white (encode_utf8_all cs) ≡ encode_utf8_all ds → IsEnd (encode_utf8_all ds) → ExternalHere cs
none_here cs ds e (inl (r, is)) = record { past = encode_utf8_all cs; external = no_id (inl (e ∙ is)); is_end = inl (r, e ∙ is) }
none_here cs ds e (inr (r, is)) = record { past = encode_utf8_all cs; external = no_id (inr (e ∙ is)); is_end = inr (r, e ∙ is) }

system_found : (cs ds : List ℕ) → BeginsWithWhite cs → after_white cs ≡ codes "S" ++ ds → Tells (doctype_scan (in_word (codes "YSTEM") 1) ds) → ExternalHere cs
system_found cs ds w is h =
    let (es, k, t) = word_found 1 (codes "YSTEM") ds h in
    let l = spaced_found 1 es t in
    let whole : after_white cs ≡ codes "SYSTEM" ++ es = is ∙ ap (λ z. 0x53 ∷ z) k in
    record {
      past = encode_utf8_all l.behind;
      external = system (begins_encoded cs w) (white_encoded cs ∙ (ap encode_utf8_all whole ∙ mark_encoded (codes "SYSTEM") es refl)) l.white l.literal;
      is_end = identified_found l.behind l.tells;
    }

public_found : (cs ds : List ℕ) → BeginsWithWhite cs → after_white cs ≡ codes "P" ++ ds → Tells (doctype_scan (in_word (codes "UBLIC") 2) ds) → ExternalHere cs
public_found cs ds w is h =
    let (es, k, t) = word_found 2 (codes "UBLIC") ds h in
    let l = spaced_found 2 es t in
    let m = spaced_found 1 l.behind l.tells in
    let whole : after_white cs ≡ codes "PUBLIC" ++ es = is ∙ ap (λ z. 0x50 ∷ z) k in
    record {
      past = encode_utf8_all m.behind;
      external = public (begins_encoded cs w) (white_encoded cs ∙ (ap encode_utf8_all whole ∙ mark_encoded (codes "PUBLIC") es refl)) l.white l.literal m.white m.literal;
      is_end = identified_found m.behind m.tells;
    }

named_found : (cs ds : List ℕ) → BeginsWithWhite cs → after_white cs ≡ ds → IsBare ds → Tells (doctype_scan named ds) → ExternalHere cs
named_found cs [] w is bare h = absurd h
named_found cs (d ∷ ds) w is bare h = by (d == 0x3E) (d == 0x5B) (d == 0x53) (d == 0x50) refl refl refl refl
  where
    there : after_white (encode_utf8_all cs) ≡ encode_utf8_all (d ∷ ds)
    there = white_encoded cs ∙ ap encode_utf8_all is

    word : (d == 0x3E) ≡ false → (d == 0x5B) ≡ false → typed_next named d ≡ at_word d
    word e k = cond-false (is_white d) _ _ bare ∙ (cond-false (d == 0x3E) _ _ e ∙ cond-false (d == 0x5B) _ _ k)

    by : (x y z v : Bool) → (d == 0x3E) ≡ x → (d == 0x5B) ≡ y → (d == 0x53) ≡ z → (d == 0x50) ≡ v → ExternalHere cs
    by true y z v e k i j = none_here cs (d ∷ ds) there (end_there d ds (inl e))
    by false true z v e k i j = none_here cs (d ∷ ds) there (end_there d ds (inr k))
    by false false true v e k i j =
        system_found cs ds w (is ∙ ap (λ z. z ∷ ds) (eqb-true d 0x53 i)) (tells_on named (in_word (codes "YSTEM") 1) d ds (word e k ∙ cond-true (d == 0x53) _ _ i) h)
    by false false false true e k i j =
        public_found cs ds w (is ∙ ap (λ z. z ∷ ds) (eqb-true d 0x50 j)) (tells_on named (in_word (codes "UBLIC") 2) d ds (word e k ∙ (cond-false (d == 0x53) _ _ i ∙ cond-true (d == 0x50) _ _ j)) h)
    by false false false false e k i j = absurd (tells_not named d ds (word e k ∙ (cond-false (d == 0x53) _ _ i ∙ cond-false (d == 0x50) _ _ j)) h)

-- behind a part of a name that goes no further: the rest, or a colon behind the first one
data BehindName (l : Bool) (cs : List ℕ) : Type 0 where
  external_there : ExternalHere cs → BehindName l cs
  colon_there : (ds : List ℕ) → l ≡ false → cs ≡ 0x3A ∷ ds → Tells (doctype_scan at_colon ds) → BehindName l cs

colon_or_none : (l : Bool) (c : ℕ) (cs : List ℕ) (x : Bool) → (c == 0x3A) ≡ x → Tells (type_on (if l then untyped else (if c == 0x3A then more at_colon else untyped)) (λ j. doctype_scan j cs) cs) → BehindName l (c ∷ cs)
colon_or_none true c cs x e h = absurd h
colon_or_none false c cs true e h =
    colon_there cs refl (ap (λ z. z ∷ cs) (eqb-true c 0x3A e)) (subst (λ z. Tells (type_on (cond z (more at_colon) untyped) (λ j. doctype_scan j cs) cs)) e h)
colon_or_none false c cs false e h = absurd (subst (λ z. Tells (type_on (cond z (more at_colon) untyped) (λ j. doctype_scan j cs) cs)) e h)

behind_found : (l : Bool) (cs : List ℕ) → EndsName cs → Tells (doctype_scan (in_name l) cs) → BehindName l cs
behind_found l [] n h = absurd h
behind_found l (c ∷ cs) n h = by (white_or_not (c ∷ cs)) (is_white c) (c == 0x3E) (c == 0x5B) refl refl refl
  where
    other : (is_white c) ≡ false → typed_next (in_name l) c ≡ or_end c (if l then untyped else (if c == 0x3A then more at_colon else untyped))
    other e = cond-false (is_ncname_char c) _ _ n ∙ cond-false (is_white c) _ _ e

    by : BeginsWithWhite (c ∷ cs) ⊎ (after_white (c ∷ cs) ≡ c ∷ cs) → (x y z : Bool) → is_white c ≡ x → (c == 0x3E) ≡ y → (c == 0x5B) ≡ z → BehindName l (c ∷ cs)
    by (inl w) x y z e k i =
        external_there (named_found (c ∷ cs) (after_white (c ∷ cs)) w refl (bare_after (c ∷ cs)) (subst Tells (some_white (in_name l) named (c ∷ cs) (name_white l) named_white w) h))
    by (inr same) true y z e k i = absurd (true≢false (sym e ∙ subst IsBare same (bare_after (c ∷ cs))))
    by (inr same) false true z e k i = external_there (none_here (c ∷ cs) (c ∷ cs) (white_encoded (c ∷ cs) ∙ ap encode_utf8_all same) (end_there c cs (inl k)))
    by (inr same) false false true e k i = external_there (none_here (c ∷ cs) (c ∷ cs) (white_encoded (c ∷ cs) ∙ ap encode_utf8_all same) (end_there c cs (inr i)))
    by (inr same) false false false e k i =
        colon_or_none l c cs (c == 0x3A) refl
        (subst Tells (type_step (in_name l) (if l then untyped else (if c == 0x3A then more at_colon else untyped)) c cs (other e ∙ (cond-false (c == 0x3E) _ _ k ∙ cond-false (c == 0x5B) _ _ i))) h)

-- the characters of a name
record CharsHere (l : Bool) (cs : List ℕ) : Type 0 where
  chars : List ℕ
  behind : List ℕ
  parts : cs ≡ chars ++ behind
  goes : list_all is_ncname_char chars ≡ true
  ends : EndsName behind
  tells : Tells (doctype_scan (in_name l) behind)

chars_found : (l : Bool) (cs : List ℕ) → Tells (doctype_scan (in_name l) cs) → CharsHere l cs
chars_found l [] h = absurd h
chars_found l (c ∷ cs) h = by (is_ncname_char c) refl (chars_found l cs)
  where
    by : (x : Bool) → is_ncname_char c ≡ x → (Tells (doctype_scan (in_name l) cs) → CharsHere l cs) → CharsHere l (c ∷ cs)
    by true e later =
        let k = later (tells_on (in_name l) (in_name l) c cs (cond-true (is_ncname_char c) _ _ e) h) in
        record { chars = c ∷ k.chars; behind = k.behind; parts = ap (λ w. c ∷ w) k.parts; goes = and_from (is_ncname_char c) (list_all is_ncname_char k.chars) e k.goes; ends = k.ends; tells = k.tells }
    by false e later = record { chars = []; behind = c ∷ cs; parts = refl; goes = refl; ends = e; tells = h }

-- a name, and what is told behind it
record NameHere (l : Bool) (cs : List ℕ) : Type 0 where
  behind : List ℕ
  name : NameAt cs behind
  tells : Tells (doctype_scan (in_name l) behind)

name_with : (l : Bool) (c : ℕ) (cs : List ℕ) → is_ncname_start c ≡ true → Tells (doctype_scan (in_name l) cs) → NameHere l (c ∷ cs)
name_with l c cs s h =
    let k = chars_found l cs h in
    record { behind = k.behind; name = record { first = c; others = k.chars; parts = ap (λ w. c ∷ w) k.parts; starts = s; goes = k.goes; ends = k.ends }; tells = k.tells }

name_found : (cs : List ℕ) → IsBare cs → Tells (doctype_scan before_name cs) → NameHere false cs
name_found [] bare h = absurd h
name_found (c ∷ cs) bare h = by (is_ncname_start c) refl
  where
    by : (x : Bool) → is_ncname_start c ≡ x → NameHere false (c ∷ cs)
    by true e = name_with false c cs e (tells_on before_name (in_name false) c cs (cond-false (is_white c) _ _ bare ∙ cond-true (is_ncname_start c) _ _ e) h)
    by false e = absurd (tells_not before_name c cs (cond-false (is_white c) _ _ bare ∙ cond-false (is_ncname_start c) _ _ e) h)

local_found : (cs : List ℕ) → Tells (doctype_scan at_colon cs) → NameHere true cs
local_found [] h = absurd h
local_found (c ∷ cs) h = by (is_ncname_start c) refl
  where
    by : (x : Bool) → is_ncname_start c ≡ x → NameHere true (c ∷ cs)
    by true e = name_with true c cs e (tells_on at_colon (in_name true) c cs (cond-true (is_ncname_start c) _ _ e) h)
    by false e = absurd (tells_not at_colon c cs (cond-false (is_ncname_start c) _ _ e) h)

-- a QName, an external identifier or none, and the end
record NamedHere (cs : List ℕ) : Type 0 where
  qname : QualifiedName
  behind : List ℕ
  names : QNameAt (encode_utf8_all cs) qname (encode_utf8_all behind)
  rest : ExternalHere behind

white_not_colon : {bs r : List ℕ} → bs ≡ 0x3A ∷ r → BeginsWithWhite bs → ⊥
white_not_colon e w = omega (arith, subst BeginsWithWhite e w)

no_colon_at : {bs past r : List ℕ} → ExternalIdAt bs past → bs ≡ 0x3A ∷ r → ⊥
no_colon_at (no_id (inl is)) e = omega (arith, same_first (sym (ap after_white e) ∙ is))
no_colon_at (no_id (inr is)) e = omega (arith, same_first (sym (ap after_white e) ∙ is))
no_colon_at (system w is w' a) e = white_not_colon e w
no_colon_at (public w is w' a w'' b) e = white_not_colon e w

no_colon : (cs : List ℕ) → ExternalHere cs → (r : List ℕ) → encode_utf8_all cs ≡ 0x3A ∷ r → ⊥
no_colon cs x r e = no_colon_at x.external e

qname_found : (cs : List ℕ) → IsBare cs → Tells (doctype_scan before_name cs) → NamedHere cs
qname_found cs bare h =
    let k = name_found cs bare h in
    by k (behind_found false k.behind k.name.ends k.tells)
  where
    local_there : (k : NameHere false cs) (ds : List ℕ) → k.behind ≡ 0x3A ∷ ds → (m : NameHere true ds) → BehindName true m.behind → NamedHere cs
    local_there k ds e m (colon_there es never i t) = absurd (true≢false never)
    local_there k ds e m (external_there x) =
        let (p, a) = name_encoded k.name in
        let (u, b) = name_encoded m.name in
        record {
          qname = record { prefix = p; local = u };
          behind = m.behind;
          names = prefixed (subst (λ z. NcNameAt (encode_utf8_all cs) p z) (ap encode_utf8_all e ∙ first_encoded 0x3A ds (omega arith)) a) b;
          rest = x;
        }

    by : (k : NameHere false cs) → BehindName false k.behind → NamedHere cs
    by k (external_there x) =
        let (p, a) = name_encoded k.name in
        record { qname = record { prefix = []; local = p }; behind = k.behind; names = unprefixed a (no_colon k.behind x); rest = x }
    by k (colon_there ds is e t) = let m = local_found ds t in local_there k ds e m (behind_found true m.behind m.name.ends m.tells)

doctype_found : (cs : List ℕ) → Tells (doctype_scan begun cs) → (after : List ℕ) × DoctypeFrontAt (codes "<!DOCTYPE" ++ encode_utf8_all cs) after × IsEnd after
doctype_found cs h =
    let w = white_found begun before_name cs begun_white before_white (λ c e. cond-false (is_white c) _ _ e) h in
    let k = qname_found (after_white cs) (bare_after cs) w.1 in (
      after_white k.rest.past,
      record {
        rest = encode_utf8_all cs;
        name = k.qname;
        past_name = encode_utf8_all k.behind;
        past_id = k.rest.past;
        opens = refl;
        white = begins_encoded cs w.0;
        names = subst (λ z. QNameAt z k.qname (encode_utf8_all k.behind)) (sym (white_encoded cs)) k.names;
        external = k.rest.external;
        past = refl;
      },
      k.rest.is_end,
    )

-- what the scan tells of characters behind `<!DOCTYPE`
pub data Told (cs : List ℕ) : TypeScan → Type 0 where
  is_typed : {es : List ℕ} → DoctypeFrontAt (codes "<!DOCTYPE" ++ encode_utf8_all cs) (0x3E ∷ encode_utf8_all es) → Told cs (typed es)
  is_subset : {es : List ℕ} → DoctypeFrontAt (codes "<!DOCTYPE" ++ encode_utf8_all cs) (0x5B ∷ encode_utf8_all es) → Told cs (subset es)
  goes_on : {k : Typing} → Told cs (typing k)
  is_none : Told cs no_doctype

told_if : (cs : List ℕ) → Tells (doctype_scan begun cs) → Told cs (doctype_scan begun cs)
told_if cs h = let (after, a, e) = doctype_found cs h in by after a (doctype_scanned cs after a e)
  where
    by : (after : List ℕ) → DoctypeFrontAt (codes "<!DOCTYPE" ++ encode_utf8_all cs) after → TypeEnds (doctype_scan begun cs) after → Told cs (doctype_scan begun cs)
    by after a (ends es i j) = subst (Told cs) (sym i) (is_typed (subst (DoctypeFrontAt (codes "<!DOCTYPE" ++ encode_utf8_all cs)) j a))
    by after a (opens es i j) = subst (Told cs) (sym i) (is_subset (subst (DoctypeFrontAt (codes "<!DOCTYPE" ++ encode_utf8_all cs)) j a))

by_tells : (cs : List ℕ) (x : TypeScan) → (Tells x → Told cs x) → Told cs x
by_tells cs (typed r) h = h tt
by_tells cs (typing k) h = goes_on
by_tells cs (subset r) h = h tt
by_tells cs no_doctype h = is_none

pub told : (cs : List ℕ) → Told cs (doctype_scan begun cs)
told cs = by_tells cs (doctype_scan begun cs) (told_if cs)
