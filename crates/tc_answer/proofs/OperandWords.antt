-- How many operands there are, and which words they are.
use Rattle.std.proofs.Common.{◌≡◌, ◌↔◌, ◌==◌, ◌∷◌, [], ◌∙◌, sym, ap, subst, ℕ, List, length, get_or, Bool, false, String, string_bytes, arith}
use Rattle.std.specs.Prelude.{IsTrue}
use Rattle.std.proofs.lemmas.List.{length-map}
use Rattle.tc_answer.specs.SchemaWords.{IsSchemaWord}
use Rattle.tc_answer.specs.Words.{AreOperands, AreSchemas, IsNumeral}
use Rattle.tc_answer.specs.WordsSeen.{texts}

-- other words than so many operands
pub not_operands : {Z : Type 0} (words : List (String Z)) (count : ℕ) (parts : List (List ℕ)) (result : Bool) → (IsTrue result ↔ ((length words ≡ count) × AreOperands (texts words))) → result ≡ false
    → texts words ≡ parts → length parts ≡ count → AreOperands (texts words) → ⊥
not_operands words count parts result says denied same many are = let said = says.1 (sym (length-map words string_bytes) ∙ (ap length same ∙ many), are) in absurd (cc)

-- the text of the word at a place
abbrev pub Shows : {Z : Type 0} → List (String Z) → ℕ → List ℕ → Type 0
Shows {Z} words i text = (word : String Z) × (word ≡ get_or words i word) × (text ≡ string_bytes word)

first_shown : {Z : Type 0} (word : String Z) (words : List (String Z)) (text : List ℕ) → Shows (word ∷ words) 0 text → string_bytes word ≡ text
first_shown word words text s = ap string_bytes (sym s.1) ∙ sym s.2

-- the texts of one word, two, three and four
pub one_text : {Z : Type 0} (words : List (String Z)) (a : List ℕ) → length words ≡ 1 → Shows words 0 a → texts words ≡ a ∷ []
one_text [] a n s = absurd (omega (arith, n))
one_text (w ∷ []) a n s = ap (λ x. x ∷ []) (first_shown w [] a s)
one_text (w ∷ v ∷ words) a n s = absurd (omega (arith, n))

pub two_texts : {Z : Type 0} (words : List (String Z)) (a b : List ℕ) → length words ≡ 2 → Shows words 0 a → Shows words 1 b → texts words ≡ a ∷ b ∷ []
two_texts [] a b n s t = absurd (omega (arith, n))
two_texts (w ∷ words) a b n s t = ap (λ x. x ∷ texts words) (first_shown w words a s) ∙ ap (λ ts. a ∷ ts) (one_text words b (omega (arith, n)) t)

pub three_texts : {Z : Type 0} (words : List (String Z)) (a b d : List ℕ) → length words ≡ 3 → Shows words 0 a → Shows words 1 b → Shows words 2 d → texts words ≡ a ∷ b ∷ d ∷ []
three_texts [] a b d n s t u = absurd (omega (arith, n))
three_texts (w ∷ words) a b d n s t u = ap (λ x. x ∷ texts words) (first_shown w words a s) ∙ ap (λ ts. a ∷ ts) (two_texts words b d (omega (arith, n)) t u)

pub four_texts : {Z : Type 0} (words : List (String Z)) (a b d e : List ℕ) → length words ≡ 4 → Shows words 0 a → Shows words 1 b → Shows words 2 d → Shows words 3 e → texts words ≡ a ∷ b ∷ d ∷ e ∷ []
four_texts [] a b d e n s t u v = absurd (omega (arith, n))
four_texts (w ∷ words) a b d e n s t u v = ap (λ x. x ∷ texts words) (first_shown w words a s) ∙ ap (λ ts. a ∷ ts) (three_texts words b d e (omega (arith, n)) t u v)

-- two words that aren't both lawful in a schema's place
pub not_schemas : {Z : Type 0} (words : List (String Z)) (one two a b : List ℕ) (others : List (List ℕ)) → Shows words 0 one → Shows words 1 two → (AreSchemas (one ∷ two ∷ []) → ⊥)
    → texts words ≡ a ∷ b ∷ others → AreSchemas (a ∷ b ∷ []) → ⊥
not_schemas [] one two a b others s t none e x = absurd (cc)
not_schemas (w ∷ []) one two a b others s t none e x = absurd (cc)
not_schemas (w ∷ v ∷ words) one two a b others s t none e x =
    let first : string_bytes w ≡ a = cc in
    let second : string_bytes v ≡ b = cc in
    none (subst IsSchemaWord (sym first ∙ first_shown w (v ∷ words) one s) x.0, (subst IsSchemaWord (sym second ∙ first_shown v words two t) x.1.0, tt))

-- what a test denies
pub denied : (P : Type 0) (result : Bool) → (IsTrue result ↔ P) → result ≡ false → P → ⊥
denied P result says is_false holds = let said = says.1 holds in absurd (cc)

-- no word, and more than one
pub no_text : {Z : Type 0} (words : List (String Z)) (a : List ℕ) (others : List (List ℕ)) → length words ≡ 0 → texts words ≡ a ∷ others → ⊥
no_text [] a others n e = absurd (cc)
no_text (w ∷ words) a others n e = absurd (omega (arith, n))

pub more_texts : {Z : Type 0} (words rest : List (String Z)) (word : String Z) (empty : Bool) (a : List ℕ) → words ≡ word ∷ rest → empty ≡ (length rest == 0) → empty ≡ false → texts words ≡ a ∷ [] → ⊥
more_texts words [] word empty a parts shown is e = absurd (cc)
more_texts words (other ∷ rest) word empty a parts shown is e = let h = sym e ∙ ap texts parts in absurd (cc)

-- one word that is no numeral
pub no_number : (words : List (List ℕ)) (most : ℕ) (numeral : List ℕ) → words ≡ numeral ∷ [] → ((number : ℕ) → IsNumeral most numeral number → ⊥)
    → (spelled : List ℕ) (number : ℕ) → words ≡ spelled ∷ [] → IsNumeral most spelled number → ⊥
no_number words most numeral same none spelled number e h = none number (subst (λ w. IsNumeral most w number) (let whole = sym e ∙ same in cc) h)
