-- The white space and the settings of an XML declaration at the front of any bytes.
use Rattle.std.proofs.Common.{◌≡◌, ◌⊎◌, inl, inr, ℕ, zero, suc, ◌<◌, ◌||◌, List, ◌++◌, refl, ◌∙◌, subst, arith, codes}
use Rattle.std.specs.List.{prefix_len}
use Rattle.std.specs.Str.{str_eq_ignore_ascii_case}
use Rattle.tc_base.specs.Characters.{is_white}
use Rattle.tc_model.specs.XmlTextBytes.{BeginsWithWhite, after_white, LiteralAt, EqualsAt}
use Rattle.tc_model.specs.XmlTextMisc as m
use Rattle.tc_model.specs.XmlTextMisc.{SettingAt, LacksWord, IsReadEncoding, StandaloneAt}
use Rattle.tc_model.proofs.XmlTextPhrases.{equals_unique, setting_unique}
use Rattle.tc_sheet.proofs.DecidingBytes.{Decided, bytes_are, is_true, begins, begins_with, same_after, literal_here}

-- white space
pub some_bytes : (n : ℕ) → Decided (0 < n)
some_bytes zero = inr (λ l. omega (arith, l))
some_bytes (suc n) = inl (omega arith)

pub some_white : (bs : List ℕ) → Decided (BeginsWithWhite bs)
some_white bs = some_bytes (prefix_len is_white bs)

pub equals_here : (bs : List ℕ) → ((after : List ℕ) × EqualsAt bs after) ⊎ ((after : List ℕ) → EqualsAt bs after → ⊥)
equals_here bs = elim (begins 0x3D (after_white bs)) [
  | inl (r, e) ↦ inl (after_white r, record { rest = r; sign = e; past = refl })
  | inr h ↦ inr (λ after a. h a.rest a.sign)
]

-- a setting of an XML declaration
abbrev pub SettingHere : List ℕ → List ℕ → Type 0
SettingHere word bs = ((value : List ℕ) × ((after : List ℕ) × SettingAt word bs value after)) ⊎ ((value after : List ℕ) → SettingAt word bs value after → ⊥)

pub setting_here : (word bs : List ℕ) → SettingHere word bs
setting_here word bs = elim (some_white bs) [
  | inr h ↦ inr (λ value after a. h a.white)
  | inl w ↦ elim (begins_with word (after_white bs)) [
    | inr h ↦ inr (λ value after a. h a.behind a.names)
    | inl (r, e) ↦ elim (equals_here r) [
      | inr h ↦ inr (λ value after a. h a.start (subst (λ z. EqualsAt z a.start) (same_after word (after_white bs) a.behind r a.names e) a.equals))
      | inl (s, f) ↦ elim (literal_here s) [
        | inr h ↦ inr (λ value after a.
            h value after (subst (λ z. LiteralAt z value after) (equals_unique (subst (λ z. EqualsAt z a.start) (same_after word (after_white bs) a.behind r a.names e) a.equals) f) a.literal))
        | inl (value, (after, l)) ↦ inl (value, (after, record { behind = r; start = s; white = w; names = e; equals = f; literal = l }))
      ]
    ]
  ]
]

-- settings of an XML declaration
pub lacks_or : (word bs : List ℕ) → LacksWord word bs ⊎ ((r : List ℕ) × (after_white bs ≡ word ++ r))
lacks_or word bs = elim (begins_with word (after_white bs)) [ inl k ↦ inr k | inr h ↦ inl h ]

pub read_encoding : (value : List ℕ) → Decided (IsReadEncoding value)
read_encoding value = is_true (str_eq_ignore_ascii_case value (codes "UTF-8") || str_eq_ignore_ascii_case value (codes "US-ASCII"))

-- the standalone declaration, and the end
pub standalone_here : (bs : List ℕ) → ((after : List ℕ) × StandaloneAt bs after) ⊎ ((after : List ℕ) → StandaloneAt bs after → ⊥)
standalone_here bs = elim (lacks_or (codes "standalone") bs) [
  | inl l ↦ inl (bs, m.no_standalone l)
  | inr (r, e) ↦ elim (setting_here (codes "standalone") bs) [
    | inr h ↦ inr (λ after a. no_setting r e h after a)
    | inl (value, (after, s)) ↦ elim (bytes_are value (codes "yes")) [
      | inl same ↦ inl (after, m.standalone s (inl same))
      | inr h ↦ elim (bytes_are value (codes "no")) [ inl same ↦ inl (after, m.standalone s (inr same)) | inr k ↦ inr (λ after a. other_word r e value s h k a) ]
    ]
  ]
]
  where
    no_setting : (r : List ℕ) → after_white bs ≡ codes "standalone" ++ r → ((value after : List ℕ) → SettingAt (codes "standalone") bs value after → ⊥) → (after : List ℕ) → StandaloneAt bs after → ⊥
    no_setting r e h after (m.no_standalone l) = l r e
    no_setting r e h after (m.standalone {value = v} s y) = h v after s

    other_word : (r : List ℕ) → after_white bs ≡ codes "standalone" ++ r → (value : List ℕ) {behind after : List ℕ} → SettingAt (codes "standalone") bs value behind → (value ≡ codes "yes" → ⊥) → (value ≡ codes "no" → ⊥)
        → StandaloneAt bs after → ⊥
    other_word r e value s h k (m.no_standalone l) = l r e
    other_word r e value s h k (m.standalone z (inl y)) = h ((setting_unique s z).0 ∙ y)
    other_word r e value s h k (m.standalone z (inr y)) = k ((setting_unique s z).0 ∙ y)
