-- End tags that are the bytes of a name.
use Rattle.std.proofs.Common.{◌≡◌, ◌≢◌, ℕ, List, [], ◌∷◌, ◌++◌, refl, ap, ◌∙◌, sym, length, get_or, arith, codes, length-append}
use Rattle.std.specs.Prelude.{encode_utf8, encode_utf8_all, Option, None, Some, MatchOption, IfSome}
use Rattle.std.proofs.lemmas.Str.{length-encode, len_utf8_bounds}
use Rattle.tc_model.specs.Names.{IsNcName}
use Rattle.tc_model.specs.XmlTextNames.{QualifiedName, QNameAt, unprefixed, prefixed}
use Rattle.tc_xml.specs.Reading.{EndTagAt}
use Rattle.tc_model.specs.XmlTextBytes.{after_white}
use Rattle.tc_tags.proofs.NameBytes.{ends_name}

name_some : (bs : List ℕ) → IsNcName bs → bs ≢ []
name_some bs (c, cs, e, h, k) is = omega (arith, ap length e, ap length is, length-append (encode_utf8 c) (encode_utf8_all cs), length-encode c, len_utf8_bounds c)

-- a name that was read stands again, before `>`
pub unprefixed_again : {bs past : List ℕ} {q : QualifiedName} → QNameAt bs q past → (text rest after : List ℕ) → q.prefix ≡ [] → text ≡ q.local ++ rest → rest ≡ 0x3E ∷ after → QNameAt text q rest
unprefixed_again (unprefixed a f) text rest after p e g =
    unprefixed (record { lawful = a.lawful; parts = e; longest = λ c r h. ends_name 0x3E after (omega arith) refl c r (sym g ∙ h) })
    (λ r h. omega (arith, ap (λ w. get_or w 0 0) (sym g ∙ h)))
unprefixed_again (prefixed {prefix = x} a b) text rest after p e g = absurd (name_some x a.lawful p)

pub prefixed_again : {bs past : List ℕ} {q : QualifiedName} → QNameAt bs q past → (text colon local rest after : List ℕ) → q.prefix ≢ [] → text ≡ q.prefix ++ colon → colon ≡ 0x3A ∷ local → local ≡ q.local ++ rest
    → rest ≡ 0x3E ∷ after → QNameAt text q rest
prefixed_again (unprefixed a f) text colon local rest after p e k l g = absurd (p refl)
prefixed_again (prefixed {prefix = x} a b) text colon local rest after p e k l g =
    prefixed (record { lawful = a.lawful; parts = e ∙ ap (λ w. x ++ w) k; longest = ends_name 0x3A local (omega arith) refl })
    (record { lawful = b.lawful; parts = l; longest = λ c r h. ends_name 0x3E after (omega arith) refl c r (sym g ∙ h) })

pub ends_by_bytes : {name : QualifiedName} {text end rest after : List ℕ} → text ≡ codes "</" ++ end → QNameAt end name rest → rest ≡ 0x3E ∷ after → EndTagAt name text after
ends_by_bytes {end = end} {rest = rest} e q g = record { rest = end; past_name = rest; opens = e; names = q; closes = ap after_white g }

-- what holds of each answer
pub if_some : {X : Type 0} (A : Type 0) (P Q : X → Type 0) (o : Option X) → MatchOption o A P → ((x : X) → P x → Q x) → IfSome o Q
if_some A P Q None h f = tt
if_some A P Q (Some x) h f = f x h
