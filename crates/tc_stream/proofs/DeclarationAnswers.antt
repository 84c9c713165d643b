-- What the steps over the XML declaration answer.
use Rattle.std.proofs.Common.{◌≡◌, inl, inr, ◌⊎◌, ℕ, zero, suc, ◌≤◌, Bool, true, false, cond, ◌||◌, ◌==◌, List, [], ◌∷◌, ◌++◌, refl, ap, sym, ◌∙◌, Option, length, drop, arith, eq-eqb}
use Rattle.std.specs.Prelude.{encode_utf8}
use Rattle.std.proofs.lemmas.Bool.{ne_eqb, cond-true, cond-false}
use Rattle.tc_base.specs.Characters.{is_white}
use Rattle.tc_stream.specs.Declarations as scan
use Rattle.tc_stream.specs.Declaring.{setting_of, left_of}
use Rattle.tc_stream.specs.declared.declarations.Setting.{Setting}
use Rattle.tc_stream.specs.declared.declarations.Setting.TheVariants as settings

pub drop_none : (n : ℕ) (xs : List ℕ) → length xs ≤ n → drop n xs ≡ []
drop_none zero [] l = refl
drop_none zero (x ∷ xs) l = absurd (omega (arith, l))
drop_none (suc n) [] l = refl
drop_none (suc n) (x ∷ xs) l = drop_none n xs (omega (arith, l))

pub literal_goes_on : (setting : scan.Setting) (at quote c place : ℕ) (value : List ℕ) → (c ≡ quote → ⊥)
    → scan.declared_next (scan.in_literal setting at quote value) place c (encode_utf8 c) ≡ scan.more (scan.in_literal setting at quote (value ++ encode_utf8 c))
literal_goes_on setting at quote c place value n =
    ap (λ x. cond x (scan.valued setting at value) (scan.more (scan.in_literal setting at quote (value ++ encode_utf8 c)))) (ne_eqb c quote n)

is_quote : (c : ℕ) → (c ≡ 34) ⊎ (c ≡ 39) → ((c == 0x22) || (c == 0x27)) ≡ true
is_quote c (inl e) = ap (λ x. x || (c == 0x27)) (eq-eqb c 0x22 e)
is_quote c (inr e) = ap (λ x. (c == 0x22) || x) (eq-eqb c 0x27 e) ∙ by (c == 0x22)
  where
    by : (x : Bool) → (x || true) ≡ true
    by true = refl
    by false = refl

pub literal_begins : (setting : scan.Setting) (at c place : ℕ) (bytes : List ℕ) → is_white c ≡ false → (c ≡ 34) ⊎ (c ≡ 39)
    → scan.declared_next (scan.equals setting at) place c bytes ≡ scan.more (scan.in_literal setting at c [])
literal_begins setting at c place bytes w q =
    ap (λ x. cond x (scan.more (scan.equals setting at)) (cond ((c == 0x22) || (c == 0x27)) (scan.more (scan.in_literal setting at c [])) scan.undeclared)) w
    ∙ ap (λ x. cond x (scan.more (scan.in_literal setting at c [])) scan.undeclared) (is_quote c q)

pub literal_ends : (setting : scan.Setting) (at quote c place : ℕ) (value : List ℕ) → c ≡ quote
    → scan.declared_next (scan.in_literal setting at quote value) place c (encode_utf8 c) ≡ scan.valued setting at value
literal_ends setting at quote c place value e = cond-true (c == quote) _ _ (eq-eqb c quote e)

pub question_between : (set : Option scan.Setting) (white : Bool) (c place : ℕ) (bytes : List ℕ) → is_white c ≡ false → c ≡ 0x3F → scan.declared_next (scan.between set white) place c bytes ≡ scan.may_end set
question_between set white c place bytes w e = cond-false (is_white c) _ _ w ∙ cond-true (c == 0x3F) _ _ (eq-eqb c 0x3F e)

pub bare_between : (set : Option scan.Setting) (white : Bool) (c place : ℕ) (bytes : List ℕ) → is_white c ≡ false → (c ≡ 0x3F → ⊥) → white ≡ false
    → scan.declared_next (scan.between set white) place c bytes ≡ scan.undeclared
bare_between set white c place bytes w n e = cond-false (is_white c) _ _ w ∙ (cond-false (c == 0x3F) _ _ (ne_eqb c 0x3F n) ∙ cond-false white _ _ e)

pub word_between : (set found : Option scan.Setting) (white : Bool) (c place : ℕ) (bytes : List ℕ) → is_white c ≡ false → (c ≡ 0x3F → ⊥) → white ≡ true → found ≡ scan.setting_behind set c
    → scan.declared_next (scan.between set white) place c bytes ≡ scan.begun_word found place
word_between set found white c place bytes w n e is =
    cond-false (is_white c) _ _ w
    ∙ (cond-false (c == 0x3F) _ _ (ne_eqb c 0x3F n) ∙ (cond-true white _ _ e ∙ ap (λ s. scan.begun_word s place) (sym is)))

pub first_left : (setting : Setting) → scan.without_first (scan.word_of (setting_of setting)) ≡ left_of setting 1
first_left settings.Version = refl
first_left settings.Encoding = refl
first_left settings.Standalone = refl
