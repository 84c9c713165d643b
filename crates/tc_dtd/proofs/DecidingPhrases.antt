-- What stands at the front of any bytes, or doesn't: bytes, names, literals, misc and the XML declaration.
use Rattle.std.proofs.Common.{◌≡◌, ◌≢◌, ◌⊎◌, inl, inr, ℕ, zero, suc, ◌<◌, ◌==◌, ◌||◌, Bool, true, false, List, [], ◌∷◌, ◌++◌, refl, ap, ◌∙◌, sym, subst, length, take, arith, bytes_eq, codes, length-drop}
use Rattle.std.specs.List.{prefix_len}
use Rattle.std.specs.Str.{str_eq_ignore_ascii_case}
use Rattle.std.proofs.lemmas.Bool.{false≢true}
use Rattle.std.proofs.lemmas.Bool.Decides.{eqb_tells}
use Rattle.std.proofs.lemmas.List.{append_cancel_left}
use Rattle.std.proofs.lemmas.Slice.Eq.{bytes_eq-Decides}
use Rattle.tc_base.specs.Characters.{is_white}
use Rattle.tc_base.specs.declared.reasons.Why.TheVariants.{Encoding, XmlVersion}
use Rattle.tc_model.specs.XmlTextBytes.{BeginsWithWhite, after_white, length_before, UpTo, IsQuote, LiteralAt, EqualsAt}
use Rattle.tc_model.specs.XmlTextMisc as m
use Rattle.tc_model.specs.XmlTextMisc.{CommentAt, InstructionAt, SettingAt, LacksWord, IsReadEncoding, EncodingAt, StandaloneAt, IsNoMisc, MiscAt}
use Rattle.tc_model.specs.XmlTextRefusals.{unsupported}
use Rattle.tc_model.proofs.CompactSyntaxTokensLawful.{before_text}
use Rattle.tc_model.proofs.XmlTextPhrases.{same_first, same_others, equals_unique, setting_unique, encoding_unique, standalone_unique}
use Rattle.tc_dtd.specs.DtdTextDeclarations as t
use Rattle.tc_dtd.specs.DtdTextDeclarations.{VersionAt, SettingsAt, IsOpened, TextDeclarationAt}
use Rattle.tc_dtd.specs.Outcomes.{Outcome, read, refused, Then, stops, goes_on}
use Rattle.tc_dtd.proofs.DeclarationsUnique.{version_unique}
use Rattle.tc_dtd.proofs.OutcomeLaws.{read_same, read_not}

-- it is so, or not
abbrev pub Decided : Type 0 → Type 0
Decided P = P ⊎ (P → ⊥)

-- reading comes to something, or to nothing
abbrev pub Known : {A : Type 0} → (Outcome A → Type 0) → Type 0
Known {A} P = ((o : Outcome A) × P o) ⊎ ((o : Outcome A) → P o → ⊥)

pub number_is : (i j : ℕ) → Decided (i ≡ j)
number_is i j = by (eqb_tells i j)
  where
    by : (((i == j) ≡ true) × (i ≡ j)) ⊎ (((i == j) ≡ false) × (i ≢ j)) → Decided (i ≡ j)
    by (inl e) = inl e.1
    by (inr e) = inr e.1

pub bytes_are : (xs ys : List ℕ) → Decided (xs ≡ ys)
bytes_are xs ys = by (bytes_eq xs ys) refl
  where
    by : (b : Bool) → bytes_eq xs ys ≡ b → Decided (xs ≡ ys)
    by true e = inl ((bytes_eq-Decides xs ys).0 e)
    by false e = inr (λ same. false≢true (sym e ∙ (bytes_eq-Decides xs ys).1 same))

is_true : (b : Bool) → Decided (b ≡ true)
is_true true = inl refl
is_true false = inr false≢true

is_false : (b : Bool) → Decided (b ≡ false)
is_false true = inr (λ e. false≢true (sym e))
is_false false = inl refl

-- a byte, or a mark, at the front
pub begins : (b : ℕ) (bs : List ℕ) → ((r : List ℕ) × (bs ≡ b ∷ r)) ⊎ ((r : List ℕ) → bs ≡ b ∷ r → ⊥)
begins b [] = inr (λ r e. omega (arith, ap length e))
begins b (c ∷ bs) = elim (number_is c b) [ inl e ↦ inl (bs, ap (λ z. z ∷ bs) e) | inr h ↦ inr (λ r e. h (same_first e)) ]

pub begins_with : (mark bs : List ℕ) → ((r : List ℕ) × (bs ≡ mark ++ r)) ⊎ ((r : List ℕ) → bs ≡ mark ++ r → ⊥)
begins_with [] bs = inl (bs, refl)
begins_with (b ∷ mark) [] = inr (λ r e. omega (arith, ap length e))
begins_with (b ∷ mark) (c ∷ bs) = both (number_is c b) (begins_with mark bs)
  where
    both : Decided (c ≡ b) → ((r : List ℕ) × (bs ≡ mark ++ r)) ⊎ ((r : List ℕ) → bs ≡ mark ++ r → ⊥) → ((r : List ℕ) × (c ∷ bs ≡ b ∷ mark ++ r)) ⊎ ((r : List ℕ) → c ∷ bs ≡ b ∷ mark ++ r → ⊥)
    both (inr h) k = inr (λ r e. h (same_first e))
    both (inl e) (inl (r, f)) = inl (r, ap (λ z. z ∷ bs) e ∙ ap (λ z. b ∷ z) f)
    both (inl e) (inr h) = inr (λ r f. h r (same_others f))

pub same_after : (mark bs r s : List ℕ) → bs ≡ mark ++ r → bs ≡ mark ++ s → r ≡ s
same_after mark bs r s e f = append_cancel_left mark r s (sym e ∙ f)

-- white space
some_bytes : (n : ℕ) → Decided (0 < n)
some_bytes zero = inr (λ l. omega (arith, l))
some_bytes (suc n) = inl (omega arith)

pub some_white : (bs : List ℕ) → Decided (BeginsWithWhite bs)
some_white bs = some_bytes (prefix_len is_white bs)

-- what stands before a mark
abbrev pub UpToHere : List ℕ → List ℕ → Type 0
UpToHere mark bs = ((inside : List ℕ) × ((after : List ℕ) × UpTo mark bs inside after)) ⊎ ((inside after : List ℕ) → UpTo mark bs inside after → ⊥)

pub up_to : (b : ℕ) (mark bs : List ℕ) → UpToHere (b ∷ mark) bs
up_to b mark bs = elim (before_text (b ∷ mark) bs) [
  | inl lacks ↦ inr (λ inside after a. omega (arith, ap length a.back, length-drop (length_before (b ∷ mark) bs) bs, lacks))
  | inr (after, is) ↦ inl (take (length_before (b ∷ mark) bs) bs, (after, record { front = refl; back = is }))
]

pub quote_is : (b : ℕ) → Decided (IsQuote b)
quote_is b = by (number_is b 0x22) (number_is b 0x27)
  where
    by : Decided (b ≡ 0x22) → Decided (b ≡ 0x27) → Decided (IsQuote b)
    by (inl e) k = inl (inl e)
    by (inr h) (inl e) = inl (inr e)
    by (inr h) (inr k) = inr (λ q. elim q [ inl e ↦ h e | inr e ↦ k e ])

abbrev pub LiteralHere : List ℕ → Type 0
LiteralHere bs = ((value : List ℕ) × ((after : List ℕ) × LiteralAt bs value after)) ⊎ ((value after : List ℕ) → LiteralAt bs value after → ⊥)

pub literal_here : (bs : List ℕ) → LiteralHere bs
literal_here [] = inr (λ value after a. omega (arith, ap length a.opens))
literal_here (q ∷ rest) = by (quote_is q) (up_to q [] rest)
  where
    by : Decided (IsQuote q) → UpToHere (q ∷ []) rest → LiteralHere (q ∷ rest)
    by (inr h) k = inr (λ value after a. h (subst IsQuote (sym (same_first a.opens)) a.is_quote))
    by (inl e) (inl (value, (after, u))) = inl (value, (after, record { quote = q; rest = rest; is_quote = e; opens = refl; closes = u }))
    by (inl e) (inr h) = inr (λ value after a. h value after (subst (λ z. UpTo (z ∷ []) rest value after) (sym (same_first a.opens)) (subst (λ z. UpTo (a.quote ∷ []) z value after) (sym (same_others a.opens)) a.closes)))

equals_here : (bs : List ℕ) → ((after : List ℕ) × EqualsAt bs after) ⊎ ((after : List ℕ) → EqualsAt bs after → ⊥)
equals_here bs = elim (begins 0x3D (after_white bs)) [
  | inl (r, e) ↦ inl (after_white r, record { rest = r; sign = e; past = refl })
  | inr h ↦ inr (λ after a. h a.rest a.sign)
]

-- a setting of an XML declaration
abbrev SettingHere : List ℕ → List ℕ → Type 0
SettingHere word bs = ((value : List ℕ) × ((after : List ℕ) × SettingAt word bs value after)) ⊎ ((value after : List ℕ) → SettingAt word bs value after → ⊥)

setting_here : (word bs : List ℕ) → SettingHere word bs
setting_here word bs = elim (some_white bs) [
  | inr h ↦ inr (λ value after a. h a.white)
  | inl w ↦ elim (begins_with word (after_white bs)) [
    | inr h ↦ inr (λ value after a. h a.behind a.names)
    | inl (r, e) ↦ elim (equals_here r) [
      | inr h ↦ inr (λ value after a. h a.start (subst (λ z. EqualsAt z a.start) (same_after word (after_white bs) a.behind r a.names e) a.equals))
      | inl (s, f) ↦ elim (literal_here s) [
        | inr h ↦ inr (λ value after a.
            h value after (subst (λ z. LiteralAt z value after) (equals_unique (subst (λ z. EqualsAt z a.start) (same_after word (after_white bs) a.behind r a.names e) a.equals) f) a.literal))
        | inl (value, (after, l)) ↦ inl (value, (after, record { behind = r; start = s; white = w; names = e; equals = f; literal = l }))
      ]
    ]
  ]
]

-- the version
lacks_or : (word bs : List ℕ) → LacksWord word bs ⊎ ((r : List ℕ) × (after_white bs ≡ word ++ r))
lacks_or word bs = elim (begins_with word (after_white bs)) [ inl k ↦ inr k | inr h ↦ inl h ]

no_version : (bs r : List ℕ) → after_white bs ≡ codes "version" ++ r → ((value after : List ℕ) → SettingAt (codes "version") bs value after → ⊥) → (o : Outcome (Unit {0})) → VersionAt bs o → ⊥
no_version bs r e h o (t.no_version l) = l r e
no_version bs r e h o (t.version {after = a} s) = h (codes "1.0") a s
no_version bs r e h o (t.other_version {value = v} {after = a} s n) = h v a s

version_here : (bs : List ℕ) → Known (VersionAt bs)
version_here bs = elim (lacks_or (codes "version") bs) [
  | inl l ↦ inl (read tt bs, t.no_version l)
  | inr (r, e) ↦ elim (setting_here (codes "version") bs) [
    | inr h ↦ inr (no_version bs r e h)
    | inl (value, (after, s)) ↦ elim (bytes_are value (codes "1.0")) [
      | inl same ↦ inl (read tt after, t.version (subst (λ v. SettingAt (codes "version") bs v after) same s))
      | inr other ↦ inl (refused (unsupported XmlVersion) (after_white bs), t.other_version s other)
    ]
  ]
]

read_encoding : (value : List ℕ) → Decided (IsReadEncoding value)
read_encoding value = is_true (str_eq_ignore_ascii_case value (codes "UTF-8") || str_eq_ignore_ascii_case value (codes "US-ASCII"))

-- the standalone declaration, and the end
standalone_here : (bs : List ℕ) → ((after : List ℕ) × StandaloneAt bs after) ⊎ ((after : List ℕ) → StandaloneAt bs after → ⊥)
standalone_here bs = elim (lacks_or (codes "standalone") bs) [
  | inl l ↦ inl (bs, m.no_standalone l)
  | inr (r, e) ↦ elim (setting_here (codes "standalone") bs) [
    | inr h ↦ inr (λ after a. no_setting r e h after a)
    | inl (value, (after, s)) ↦ elim (bytes_are value (codes "yes")) [
      | inl same ↦ inl (after, m.standalone s (inl same))
      | inr h ↦ elim (bytes_are value (codes "no")) [ inl same ↦ inl (after, m.standalone s (inr same)) | inr k ↦ inr (λ after a. other_word r e value s h k a) ]
    ]
  ]
]
  where
    no_setting : (r : List ℕ) → after_white bs ≡ codes "standalone" ++ r → ((value after : List ℕ) → SettingAt (codes "standalone") bs value after → ⊥) → (after : List ℕ) → StandaloneAt bs after → ⊥
    no_setting r e h after (m.no_standalone l) = l r e
    no_setting r e h after (m.standalone {value = v} s y) = h v after s

    other_word : (r : List ℕ) → after_white bs ≡ codes "standalone" ++ r → (value : List ℕ) {behind after : List ℕ} → SettingAt (codes "standalone") bs value behind → (value ≡ codes "yes" → ⊥) → (value ≡ codes "no" → ⊥)
        → StandaloneAt bs after → ⊥
    other_word r e value s h k (m.no_standalone l) = l r e
    other_word r e value s h k (m.standalone z (inl y)) = h ((setting_unique s z).0 ∙ y)
    other_word r e value s h k (m.standalone z (inr y)) = k ((setting_unique s z).0 ∙ y)

-- an encoding that isn't read is none that is
read_or_not : {bs past value behind : List ℕ} → EncodingAt bs past → SettingAt (codes "encoding") bs value behind → (IsReadEncoding value → ⊥) → ⊥
read_or_not (m.no_encoding l) s h = l s.behind s.names
read_or_not (m.encoding z y) s h = h (subst IsReadEncoding (setting_unique z s).0 y)

-- what follows the encoding
ends_here : (bs past : List ℕ) → EncodingAt bs past → Known (SettingsAt bs)
ends_here bs past en = elim (standalone_here past) [
  | inr h ↦ inr (λ o a. none h o a)
  | inl (behind, s) ↦ elim (begins_with (codes "?>") (after_white behind)) [
    | inl (after, e) ↦ inl (read tt after, t.settings en s e)
    | inr h ↦ inr (λ o a. no_end behind s h o a)
  ]
]
  where
    none : ((after : List ℕ) → StandaloneAt past after → ⊥) → (o : Outcome (Unit {0})) → SettingsAt bs o → ⊥
    none h o (t.settings {past_standalone = p} z s e) = h p (subst (λ w. StandaloneAt w p) (encoding_unique z en) s)
    none h o (t.other_encoding s k) = read_or_not en s k

    no_end : (behind : List ℕ) → StandaloneAt past behind → ((r : List ℕ) → after_white behind ≡ codes "?>" ++ r → ⊥) → (o : Outcome (Unit {0})) → SettingsAt bs o → ⊥
    no_end behind s h o (t.settings {past_standalone = p} {after = r} z y e) =
        h r (ap after_white (standalone_unique s (subst (λ w. StandaloneAt w p) (encoding_unique z en) y)) ∙ e)
    no_end behind s h o (t.other_encoding y k) = read_or_not en y k

no_encoding_word : (bs r : List ℕ) → after_white bs ≡ codes "encoding" ++ r → ((value after : List ℕ) → SettingAt (codes "encoding") bs value after → ⊥) → (o : Outcome (Unit {0})) → SettingsAt bs o → ⊥
no_encoding_word bs r e h o (t.settings (m.no_encoding l) y f) = l r e
no_encoding_word bs r e h o (t.settings {past_encoding = a} (m.encoding {value = v} s z) y f) = h v a s
no_encoding_word bs r e h o (t.other_encoding {value = v} {after = a} s k) = h v a s

settings_here : (bs : List ℕ) → Known (SettingsAt bs)
settings_here bs = elim (lacks_or (codes "encoding") bs) [
  | inl l ↦ ends_here bs bs (m.no_encoding l)
  | inr (r, e) ↦ elim (setting_here (codes "encoding") bs) [
    | inr h ↦ inr (no_encoding_word bs r e h)
    | inl (value, (after, s)) ↦ elim (read_encoding value) [
      | inl y ↦ ends_here bs after (m.encoding s y)
      | inr h ↦ inl (refused (unsupported Encoding) (after_white bs), t.other_encoding s h)
    ]
  ]
]

-- one phrase and then another
pub then_known : {A B : Type 0} (First : List ℕ → Outcome A → Type 0) (Second : A → List ℕ → Outcome B → Type 0) → ((bs : List ℕ) (o p : Outcome A) → First bs o → First bs p → o ≡ p)
    → ((bs : List ℕ) → Known (First bs)) → ((a : A) (bs : List ℕ) → Known (Second a bs)) → (bs : List ℕ) → Known (Then First Second bs)
then_known {A} {B} First Second once f g bs = by (f bs)
  where
    nothing : ((o : Outcome A) → First bs o → ⊥) → (o : Outcome B) → Then First Second bs o → ⊥
    nothing h o (stops {at = at} {cause = c} a) = h (refused c at) a
    nothing h o (goes_on {rest = r} {value = v} a k) = h (read v r) a

    no_second : (v : A) (r : List ℕ) → First bs (read v r) → ((o : Outcome B) → Second v r o → ⊥) → (o : Outcome B) → Then First Second bs o → ⊥
    no_second v r a h o (stops {at = at} {cause = c} b) = read_not (once bs (read v r) (refused c at) a b)
    no_second v r a h o (goes_on {rest = s} {value = w} b k) =
        let e = read_same (once bs (read v r) (read w s) a b) in
        h o (subst (λ x. Second x r o) (sym e.0) (subst (λ y. Second w y o) (sym e.1) k))

    second : (v : A) (r : List ℕ) → First bs (read v r) → Known (Second v r) → Known (Then First Second bs)
    second v r a (inl (o, k)) = inl (o, goes_on a k)
    second v r a (inr h) = inr (no_second v r a h)

    by : Known (First bs) → Known (Then First Second bs)
    by (inr h) = inr (nothing h)
    by (inl (refused c at, a)) = inl (refused c at, stops a)
    by (inl (read v r, a)) = second v r a (g v r)

opened : (bs : List ℕ) → Decided (IsOpened bs)
opened bs = elim (some_white bs) [
  | inl w ↦ inl (inl w)
  | inr h ↦ elim (begins_with (codes "?>") bs) [ inl k ↦ inl (inr k) | inr k ↦ inr (λ z. elim z [ inl w ↦ h w | inr (r, e) ↦ k r e ]) ]
]

not_declared : (bs r : List ℕ) → bs ≡ codes "<?xml" ++ r → IsOpened r → ((o : Outcome (Unit {0})) → Then VersionAt (λ _. SettingsAt) r o → ⊥) → (o : Outcome (Unit {0})) → TextDeclarationAt bs o → ⊥
not_declared bs r e i h o (t.no_declaration n) = n r e i
not_declared bs r e i h o (t.declaration {rest = s} f j k) = h o (subst (λ z. Then VersionAt (λ _. SettingsAt) z o) (same_after (codes "<?xml") bs s r f e) k)

pub text_declaration_here : (bs : List ℕ) → Known (TextDeclarationAt bs)
text_declaration_here bs = elim (begins_with (codes "<?xml") bs) [
  | inr h ↦ inl (read tt bs, t.no_declaration (λ r e i. h r e))
  | inl (r, e) ↦ elim (opened r) [
    | inr h ↦ inl (read tt bs, t.no_declaration (λ s f i. h (subst IsOpened (same_after (codes "<?xml") bs s r f e) i)))
    | inl i ↦ elim (then_known VersionAt (λ _. SettingsAt) version_unique version_here (λ _. settings_here) r) [
      | inl (o, k) ↦ inl (o, t.declaration e i k)
      | inr h ↦ inr (not_declared bs r e i h)
    ]
  ]
]
