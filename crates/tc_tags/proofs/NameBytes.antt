-- A name and the bytes with which it is written.
use Rattle.std.proofs.Common.{◌≡◌, ℕ, ◌-◌, ◌<◌, IsTrue, get_or, Bool, true, false, cond, List, [], ◌∷◌, ◌++◌, refl, ap, ◌∙◌, sym, subst, length, take, arith, codes, append_assoc, append-nil, length-append, MatchBool, bytes_eq}
use Rattle.std.specs.Cmp.Lexicographic.{bytes_decides}
use Rattle.std.proofs.lemmas.Bool.{true≢false}
use Rattle.std.specs.Prelude.{encode_utf8}
use Rattle.std.proofs.lemmas.List.{append_cancel_right, append_cancel_left, take_at}
use Rattle.std.proofs.lemmas.Str.{char_from_byte, length-encode, len_utf8_bounds}
use Rattle.tc_model.specs.Names.{IsNcName, is_ncname_char}
use Rattle.tc_model.specs.XmlTextBytes.{after_white}
use Rattle.tc_model.specs.XmlTextNames.{NcNameAt, QualifiedName, QNameAt, unprefixed, prefixed}
use Rattle.tc_model.specs.XmlTextScopes.{is_empty}
use Rattle.tc_model.proofs.XmlTextPhrases.{qname_unique}
use Rattle.tc_tags.specs.XmlTextTags.{EndTagAt}
use Rattle.tc_tags.proofs.TagReadLaws.{qname_behind, name_some}

-- a name with which the text ends
alone : (n : List ℕ) → IsNcName n → NcNameAt n n []
alone n h = record { lawful = h; parts = sym (append-nil n); longest = λ c r e k. omega (arith, ap length e, length-append (encode_utf8 c) r, length-encode c, len_utf8_bounds c) }

no_colon : (r : List ℕ) → [] ≡ 0x3A ∷ r → ⊥
no_colon r e = omega (arith, ap length e)

before_local : {bs p rest l after : List ℕ} → NcNameAt bs p (0x3A ∷ rest) → NcNameAt rest l after → NcNameAt (p ++ 0x3A ∷ l) p (0x3A ∷ l)
before_local {after = after} a b = record {
  lawful = a.lawful;
  parts = refl;
  longest = λ c r e k. a.longest c (r ++ after) (ap (λ z. 0x3A ∷ z) b.parts ∙ (ap (λ z. z ++ after) e ∙ append_assoc (encode_utf8 c) r after)) k;
}

-- a name at the front stands in its bytes alone
pub name_alone : {bs after : List ℕ} {n : QualifiedName} (w : List ℕ) → QNameAt bs n after → bs ≡ w ++ after → QNameAt w n []
name_alone {after = after} w (unprefixed {local = l} a ends) e =
    let same : w ≡ l = append_cancel_right w l after (sym e ∙ a.parts) in
    subst (λ z. QNameAt z (record { prefix = []; local = l }) []) (sym same) (unprefixed (alone l a.lawful) no_colon)
name_alone {after = after} w (prefixed {prefix = p} {rest = rest} {local = l} a b) e =
    let same : w ≡ p ++ 0x3A ∷ l = append_cancel_right w (p ++ 0x3A ∷ l) after (sym e ∙ (a.parts ∙ (ap (λ z. p ++ 0x3A ∷ z) b.parts ∙ sym (append_assoc p (0x3A ∷ l) after)))) in
    subst (λ z. QNameAt z (record { prefix = p; local = l }) []) (sym same) (prefixed (before_local a b) (alone l b.lawful))

-- a byte at which a name ends
pub ends_name : (b : ℕ) (rest : List ℕ) → b < 128 → is_ncname_char b ≡ false → (c : ℕ) (r : List ℕ) → b ∷ rest ≡ encode_utf8 c ++ r → IsTrue (is_ncname_char c) → ⊥
ends_name b rest small is c r e h =
    let same : c ≡ b = char_from_byte (b ∷ rest) r c e small (omega arith) in
    true≢false (sym h ∙ (ap is_ncname_char same ∙ is))

-- a name that is alone stands before a `>` too
before_end : {bs : List ℕ} {n : QualifiedName} → QNameAt bs n [] → QNameAt (bs ++ 0x3E ∷ []) n (0x3E ∷ [])
before_end (unprefixed {local = l} a ends) =
    unprefixed (record { lawful = a.lawful; parts = ap (λ z. z ++ 0x3E ∷ []) (a.parts ∙ append-nil l); longest = ends_name 0x3E [] (omega arith) refl })
    (λ r h. omega (arith, ap (λ w. get_or w 0 0) h))
before_end (prefixed {prefix = p} {rest = rest} {local = l} a b) =
    prefixed (record { lawful = a.lawful; parts = ap (λ z. z ++ 0x3E ∷ []) a.parts ∙ append_assoc p (0x3A ∷ rest) (0x3E ∷ []); longest = ends_name 0x3A (rest ++ 0x3E ∷ []) (omega arith) refl })
    (record { lawful = b.lawful; parts = ap (λ z. z ++ 0x3E ∷ []) (b.parts ∙ append-nil l); longest = ends_name 0x3E [] (omega arith) refl })

pub plain_end : (tag start name end : List ℕ) (written : QualifiedName) → tag ≡ codes "</" ++ start → start ≡ name ++ end → end ≡ codes ">" → QNameAt name written [] → EndTagAt written tag []
plain_end tag start name end written e f g q = record {
  rest = start;
  past_name = 0x3E ∷ [];
  opens = e;
  names = subst (λ z. QNameAt z written (0x3E ∷ [])) (sym (f ∙ ap (λ z. name ++ z) g)) (before_end q);
  closes = refl;
}

abbrev bytes_of_name : QualifiedName → List ℕ
bytes_of_name n = cond (is_empty n.prefix) n.local (n.prefix ++ 0x3A ∷ n.local)

named_bytes : {bs after : List ℕ} {n : QualifiedName} → QNameAt bs n after → bs ≡ bytes_of_name n ++ after
named_bytes (unprefixed a ends) = a.parts
named_bytes {bs} {after} (prefixed {prefix = p} {rest = rest} {local = l} a b) =
    a.parts ∙ (ap (λ z. p ++ 0x3A ∷ z) b.parts ∙ (sym (append_assoc p (0x3A ∷ l) after)
    ∙ ap (λ x. cond x l (p ++ 0x3A ∷ l) ++ after) (sym (name_some bs p (0x3A ∷ rest) a))))

-- and has one way to be written
pub bytes_same : {a b after : List ℕ} {n : QualifiedName} (w : List ℕ) → QNameAt a n after → a ≡ w ++ after → QNameAt b n [] → w ≡ b
bytes_same {a} {b} {after} {n = n} w h e k =
    append_cancel_right w (bytes_of_name n) after (sym e ∙ named_bytes h) ∙ (sym (append-nil (bytes_of_name n)) ∙ sym (named_bytes k))

-- an end tag, by the bytes of the name in it
module _ (tag start behind found : List ℕ) (q : QualifiedName) (opens : tag ≡ codes "</" ++ start) (names : QNameAt start q behind) (is_front : found ≡ take (length start - length behind) start) where
  front_is : found ≡ (qname_behind names).before
  front_is =
      let b = qname_behind names in
      let long : length b.before ≡ length start - length behind = omega (arith, ap length b.parts, length-append b.before behind) in
      is_front ∙ (ap (take (length start - length behind)) b.parts ∙ take_at b.before behind (length start - length behind) long)

  parts : start ≡ found ++ behind
  parts = (qname_behind names).parts ∙ ap (λ z. z ++ behind) (sym front_is)

  pub an_end : (name : List ℕ) → found ≡ name → after_white behind ≡ codes ">" → (written : QualifiedName) (from : List ℕ) → QNameAt from written [] → from ≡ name → EndTagAt written tag []
  an_end name same closes written from w e =
      let alone : QNameAt found q [] = name_alone found names parts in
      let is = qname_unique (subst (λ z. QNameAt z q []) (same ∙ sym e) alone) w in
      record { rest = start; past_name = behind; opens = opens; names = subst (λ z. QNameAt start z behind) is.0 names; closes = closes }

  pub no_end : (name : List ℕ) → (found ≡ name → after_white behind ≡ codes ">" → ⊥) → (written : QualifiedName) (from : List ℕ) → QNameAt from written [] → from ≡ name → EndTagAt written tag [] → ⊥
  no_end name h written from w e t =
      let there = append_cancel_left (codes "</") t.rest start (sym t.opens ∙ opens) in
      let is = qname_unique (subst (λ z. QNameAt z written t.past_name) there t.names) names in
      let same : found ≡ from = bytes_same found (subst (λ z. QNameAt start z behind) (sym is.0) names) parts w in
      h (same ∙ e) (ap after_white (sym is.1) ∙ t.closes)

  pub which_end : (x : Bool) (name : List ℕ) → x ≡ bytes_eq (after_white behind) (codes ">") → found ≡ name → (written : QualifiedName) → QNameAt name written [] → MatchBool x (EndTagAt written tag []) (EndTagAt written tag [] → ⊥)
  which_end true name e same written w = an_end name same ((bytes_decides (after_white behind) (codes ">")).0 (sym e)) written name w refl
  which_end false name e same written w = no_end name (λ s k. true≢false (sym ((bytes_decides (after_white behind) (codes ">")).1 k) ∙ sym e)) written name w refl

  pub other_end : (x : Bool) (name : List ℕ) → x ≡ false → (found ≡ name → ⊥) → (written : QualifiedName) → QNameAt name written [] → MatchBool x (EndTagAt written tag []) (EndTagAt written tag [] → ⊥)
  other_end true name e differs written w = absurd (true≢false e)
  other_end false name e differs written w = no_end name (λ s k. differs s) written name w refl

pub no_end_mark : (tag : List ℕ) → ((r : List ℕ) → tag ≡ codes "</" ++ r → ⊥) → (written : QualifiedName) → EndTagAt written tag [] → ⊥
no_end_mark tag h written t = h t.rest t.opens

pub no_end_name : (tag start : List ℕ) → tag ≡ codes "</" ++ start → ((n : QualifiedName) (after : List ℕ) → QNameAt start n after → ⊥) → (written : QualifiedName) → EndTagAt written tag [] → ⊥
no_end_name tag start opens h written t =
    h written t.past_name (subst (λ z. QNameAt z written t.past_name) (append_cancel_left (codes "</") t.rest start (sym t.opens ∙ opens)) t.names)
