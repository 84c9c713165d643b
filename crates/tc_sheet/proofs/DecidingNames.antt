-- Names at the front of any bytes, by the characters that stand there.
use Rattle.std.proofs.Common.{◌≡◌, ◌⊎◌, inl, inr, ℕ, zero, suc, ◌<◌, ◌≤◌, ◌&&◌, Bool, true, false, cond, List, [], ◌∷◌, ◌++◌, refl, ap, ◌∙◌, sym, subst, length, take, drop, arith, take-append-drop, length-append, append_assoc, leb, ltb}
use Rattle.std.specs.Prelude.{encode_utf8, encode_utf8_all}
use Rattle.std.specs.List.{list_all}
use Rattle.std.proofs.Math.Seq.{take-append_seam}
use Rattle.std.proofs.lemmas.Bool.{cases_lt, and_parts, and_from, ltb-true}
use Rattle.std.proofs.lemmas.Str.{encode_same, length-encode, len_utf8_bounds}
use Rattle.tc_base.specs.Characters.{is_char}
use Rattle.tc_model.specs.Names.{IsChars, is_ncname_start, is_ncname_char}
use Rattle.tc_model.specs.XmlTextNames.{NcNameAt, QualifiedName, QNameAt, unprefixed, prefixed}
use Rattle.tc_model.proofs.XmlTextChars.{char_scalar, name_chars}
use Rattle.tc_model.proofs.XmlTextPhrases.{ncname_unique, same_others, start_is_char}
use Rattle.tc_sheet.proofs.DecidingBytes.{Decided, bytes_are, begins, is_true}

-- a number below another one has this, or none has
exists_below : (P : ℕ → Type 0) → ((c : ℕ) → Decided (P c)) → (n : ℕ) → ((c : ℕ) × P c) ⊎ ((c : ℕ) → c < n → P c → ⊥)
exists_below P decide zero = inr (λ c h p. omega (arith, h))
exists_below P decide (suc n) = by (decide n) (exists_below P decide n)
  where
    by : Decided (P n) → ((c : ℕ) × P c) ⊎ ((c : ℕ) → c < n → P c → ⊥) → ((c : ℕ) × P c) ⊎ ((c : ℕ) → c < suc n → P c → ⊥)
    by (inl p) k = inl (n, p)
    by (inr h) (inl x) = inl x
    by (inr h) (inr k) = inr (λ c l p. at c l p (cases_lt c n))
      where
        at : (c : ℕ) → c < suc n → P c → (c < n) ⊎ (n ≤ c) → ⊥
        at c l p (inl below) = k c below p
        at c l p (inr above) = let same : c ≡ n = omega (arith, l, above) in h (subst P same p)

begins_with_char : (bs : List ℕ) (c : ℕ) → Decided ((r : List ℕ) × (bs ≡ encode_utf8 c ++ r))
begins_with_char bs c = by (bytes_are (take (length (encode_utf8 c)) bs) (encode_utf8 c))
  where
    by : Decided (take (length (encode_utf8 c)) bs ≡ encode_utf8 c) → Decided ((r : List ℕ) × (bs ≡ encode_utf8 c ++ r))
    by (inl e) = inl (drop (length (encode_utf8 c)) bs, sym (take-append-drop (length (encode_utf8 c)) bs) ∙ ap (λ z. z ++ drop (length (encode_utf8 c)) bs) e)
    by (inr h) = inr (λ z. h (ap (take (length (encode_utf8 c))) z.1 ∙ take-append_seam (encode_utf8 c) z.0))

char_small : (c : ℕ) → is_char c ≡ true → c < 1114112
char_small c h = by (ltb c 55296) refl (char_scalar c h)
  where
    by : (x : Bool) → ltb c 55296 ≡ x → cond x true (leb 57344 c && ltb c 1114112) ≡ true → c < 1114112
    by true e k = omega (arith, ltb-true c 55296 e)
    by false e k = ltb-true c 1114112 (and_parts (leb 57344 c) (ltb c 1114112) k).1

-- the first character has this, or none stands there that has
abbrev FirstIs : (ℕ → Bool) → List ℕ → Type 0
FirstIs p bs = (c : ℕ) × (((r : List ℕ) × (bs ≡ encode_utf8 c ++ r)) × (p c ≡ true))

first_is : (p : ℕ → Bool) → ((c : ℕ) → p c ≡ true → is_char c ≡ true) → (bs : List ℕ) → FirstIs p bs ⊎ ((c : ℕ) (r : List ℕ) → bs ≡ encode_utf8 c ++ r → p c ≡ true → ⊥)
first_is p small bs = elim (exists_below (λ c. ((r : List ℕ) × (bs ≡ encode_utf8 c ++ r)) × (p c ≡ true)) (λ c. both c (begins_with_char bs c) (is_true (p c))) 1114112) [
  | inl x ↦ inl x
  | inr h ↦ inr (λ c r e k. h c (char_small c (small c k)) ((r, e), k))
]
  where
    both : (c : ℕ) → Decided ((r : List ℕ) × (bs ≡ encode_utf8 c ++ r)) → Decided (p c ≡ true) → Decided (((r : List ℕ) × (bs ≡ encode_utf8 c ++ r)) × (p c ≡ true))
    both c (inl x) (inl y) = inl (x, y)
    both c (inl x) (inr h) = inr (λ z. h z.1)
    both c (inr h) y = inr (λ z. h z.0)

behind_char_shorter : {bs : List ℕ} (c : ℕ) (r : List ℕ) → bs ≡ encode_utf8 c ++ r → length r < length bs
behind_char_shorter c r e = omega (arith, ap length e, length-append (encode_utf8 c) r, length-encode c, len_utf8_bounds c)

-- by what is shorter
pub by_length : {X : Type 0} (P : List X → Type 0) → ((bs : List X) → ((cs : List X) → length cs < length bs → P cs) → P bs) → (bs : List X) → P bs
by_length {X} P step bs = below (suc (length bs)) bs (omega arith)
  where
    below : (n : ℕ) (bs : List X) → length bs < n → P bs
    below zero bs l = absurd (omega (arith, l))
    below (suc n) bs l = step bs (λ cs h. below n cs (omega (arith, l, h)))

-- as many characters as have it
pub record Run (p : ℕ → Bool) (bs : List ℕ) : Type 0 where
  pub run : List ℕ
  pub after : List ℕ
  pub parts : bs ≡ encode_utf8_all run ++ after
  pub have : list_all p run ≡ true
  pub longest : (c : ℕ) (r : List ℕ) → after ≡ encode_utf8 c ++ r → p c ≡ true → ⊥

pub run_of : (p : ℕ → Bool) → ((c : ℕ) → p c ≡ true → is_char c ≡ true) → (bs : List ℕ) → Run p bs
run_of p small = by_length (Run p) step
  where
    longer : {bs r : List ℕ} (c : ℕ) → bs ≡ encode_utf8 c ++ r → p c ≡ true → Run p r → Run p bs
    longer c e h a = record {
      run = c ∷ a.run;
      after = a.after;
      parts = e ∙ (ap (λ z. encode_utf8 c ++ z) a.parts ∙ sym (append_assoc (encode_utf8 c) (encode_utf8_all a.run) a.after));
      have = and_from (p c) (list_all p a.run) h a.have;
      longest = a.longest;
    }

    step : (bs : List ℕ) → ((cs : List ℕ) → length cs < length bs → Run p cs) → Run p bs
    step bs ih = elim (first_is p small bs) [
      | inl (c, ((r, e), h)) ↦ longer c e h (ih r (behind_char_shorter c r e))
      | inr none ↦ record { run = []; after = bs; parts = refl; have = refl; longest = none }
    ]

-- a character of names is one of texts
name_char_is : (c : ℕ) → is_ncname_char c ≡ true → is_char c ≡ true
name_char_is c h = of_name (name_chars (encode_utf8_all (0x61 ∷ c ∷ [])) (0x61, c ∷ [], refl, refl, and_from (is_ncname_char c) true h refl))
  where
    second : (xs : List ℕ) → encode_utf8_all xs ≡ encode_utf8_all (c ∷ []) → list_all is_char xs ≡ true → is_char c ≡ true
    second [] e k = absurd (omega (arith, ap length e, length-append (encode_utf8 c) [], length-encode c, len_utf8_bounds c))
    second (y ∷ ys) e k = subst (λ z. is_char z ≡ true) (encode_same y c (encode_utf8_all ys) [] e).0 (and_parts (is_char y) (list_all is_char ys) k).0

    of_name : IsChars (encode_utf8_all (0x61 ∷ c ∷ [])) → is_char c ≡ true
    of_name ([], e, k) = absurd (omega (arith, ap length e, length-append (encode_utf8 0x61) (encode_utf8_all (c ∷ [])), length-encode 0x61, len_utf8_bounds 0x61))
    of_name (x ∷ xs, e, k) = second xs (encode_same x 0x61 (encode_utf8_all xs) (encode_utf8_all (c ∷ [])) e).1 (and_parts (is_char x) (list_all is_char xs) k).1

abbrev pub NameHere : List ℕ → Type 0
NameHere bs = ((name : List ℕ) × ((after : List ℕ) × NcNameAt bs name after)) ⊎ ((name after : List ℕ) → NcNameAt bs name after → ⊥)

pub ncname_here : (bs : List ℕ) → NameHere bs
ncname_here bs = elim (first_is is_ncname_start (λ c h. name_char_is c (start_is_char c h)) bs) [
  | inl (c, ((r, e), h)) ↦ inl (named c e h (run_of is_ncname_char name_char_is r))
  | inr none ↦ inr (begins_none none)
]
  where
    named : (c : ℕ) {r : List ℕ} → bs ≡ encode_utf8 c ++ r → is_ncname_start c ≡ true → Run is_ncname_char r → (name : List ℕ) × ((after : List ℕ) × NcNameAt bs name after)
    named c e h a = (
      encode_utf8_all (c ∷ a.run),
      (
        a.after,
        record {
          lawful = (c, a.run, refl, h, a.have);
          parts = e ∙ (ap (λ z. encode_utf8 c ++ z) a.parts ∙ sym (append_assoc (encode_utf8 c) (encode_utf8_all a.run) a.after));
          longest = a.longest;
        },
      ),
    )

    begins_none : ((c : ℕ) (r : List ℕ) → bs ≡ encode_utf8 c ++ r → is_ncname_start c ≡ true → ⊥) → (name after : List ℕ) → NcNameAt bs name after → ⊥
    begins_none none name after a =
        let (c, cs, is, h, k) = a.lawful in
        none c (encode_utf8_all cs ++ after) (a.parts ∙ (ap (λ z. z ++ after) (sym is) ∙ append_assoc (encode_utf8 c) (encode_utf8_all cs) after)) h

-- a QName
abbrev pub QNameHere : List ℕ → Type 0
QNameHere bs = (n : QualifiedName) × ((after : List ℕ) × QNameAt bs n after)

pub qname_here : (bs : List ℕ) → QNameHere bs ⊎ (QNameHere bs → ⊥)
qname_here bs = elim (ncname_here bs) [
  | inr h ↦ inr (λ x. none h x.0 x.1.0 x.1.1)
  | inl (n, (after, a)) ↦ elim (begins 0x3A after) [
    | inr h ↦ inl (record { prefix = []; local = n }, (after, unprefixed a h))
    | inl (rest, e) ↦ elim (ncname_here rest) [
      | inl (local, (behind, b)) ↦ inl (record { prefix = n; local = local }, (behind, prefixed (subst (NcNameAt bs n) e a) b))
      | inr h ↦ inr (λ x. no_local n after rest a e h x.0 x.1.0 x.1.1)
    ]
  ]
]
  where
    none : ((name after : List ℕ) → NcNameAt bs name after → ⊥) → (n : QualifiedName) (after : List ℕ) → QNameAt bs n after → ⊥
    none h n after (unprefixed {local = l} a k) = h l after a
    none h n after (prefixed {prefix = p} {rest = rest} a b) = h p (0x3A ∷ rest) a

    no_local : (n after rest : List ℕ) → NcNameAt bs n after → after ≡ 0x3A ∷ rest → ((name behind : List ℕ) → NcNameAt rest name behind → ⊥) → (m : QualifiedName) (behind : List ℕ) → QNameAt bs m behind → ⊥
    no_local n after rest a e h m behind (unprefixed b k) = k rest ((ncname_unique b a).1 ∙ e)
    no_local n after rest a e h m behind (prefixed {rest = z} {local = l} b c) =
        h l behind (subst (λ y. NcNameAt y l behind) (same_others ((ncname_unique b a).1 ∙ e)) c)
