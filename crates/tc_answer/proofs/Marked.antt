-- Words that begin with a mark, and those that don't.
use Rattle.std.proofs.Common.{◌≡◌, ◌∷◌, ◌∙◌, sym, ap, subst, ℕ, List, Bool, true, false, refl, not, bytes_eq, Decides}
use Rattle.std.specs.Prelude.{Option, Some, None, ◌&&◌}
use Rattle.std.specs.List.{list_all}
use Rattle.std.proofs.lemmas.Slice.Eq.{bytes_eq-Decides}
use Rattle.tc_answer.specs.Words.{is_operand, AreOperands, IsNumeral}
use Rattle.tc_answer.specs.Numbered.{Numbered}

-- a mark that is no operand stands before no operands
no_operands : (mark : List ℕ) (rest operands : List (List ℕ)) → is_operand mark ≡ false → mark ∷ rest ≡ operands → AreOperands operands → ⊥
no_operands mark rest operands no_operand same are = let h = sym (ap (λ b. b && list_all is_operand rest) no_operand) ∙ subst AreOperands (sym same) are in absurd (cc)

-- behind a mark stand a numeral and the operands
pub behind_mark : (mark : List ℕ) (most : ℕ) (words rest : List (List ℕ)) → words ≡ mark ∷ rest → is_operand mark ≡ false → (number : Option ℕ) (operands : List (List ℕ)) → Numbered mark most words number operands
    → AreOperands operands → (spelled : ℕ) × (numeral : List ℕ) × (rest ≡ numeral ∷ operands) × IsNumeral most numeral spelled
behind_mark mark most words rest parts no_operand None operands h are = absurd (no_operands mark rest operands no_operand (sym parts ∙ h) are)
behind_mark mark most words rest parts no_operand (Some spelled) operands h are = let whole = sym parts ∙ h.1 in (spelled, h.0, cc, h.2)

-- one word that is the mark, or isn't
pub is_mark : (text mark : List ℕ) (differ : Bool) → differ ≡ not (bytes_eq text mark) → differ ≡ false → text ≡ mark
is_mark text mark differ says same = decided (bytes_eq text mark) (sym says ∙ same) (bytes_eq-Decides text mark)
  where
    decided : (b : Bool) → not b ≡ false → Decides b (text ≡ mark) → text ≡ mark
    decided true e d = d.0 refl
    decided false e d = absurd (cc)

pub is_no_mark : (text mark : List ℕ) (differ : Bool) → differ ≡ not (bytes_eq text mark) → differ ≡ true → text ≡ mark → ⊥
is_no_mark text mark differ says other same = decided (bytes_eq text mark) (sym says ∙ other) (bytes_eq-Decides text mark)
  where
    decided : (b : Bool) → not b ≡ true → Decides b (text ≡ mark) → ⊥
    decided true e d = absurd (cc)
    decided false e d = let h = d.1 same in absurd (cc)

-- words without a mark are the operands
pub unmarked : (mark : List ℕ) (most : ℕ) (words : List (List ℕ)) → ((rest : List (List ℕ)) → words ≡ mark ∷ rest → ⊥) → (number : Option ℕ) (operands : List (List ℕ)) → Numbered mark most words number operands → operands ≡ words
unmarked mark most words bare None operands h = sym h
unmarked mark most words bare (Some number) operands h = absurd (bare (h.0 ∷ operands) h.1)

-- one item of two lists that are the same
pub heads : {text other : List ℕ} {texts others : List (List ℕ)} → text ∷ texts ≡ other ∷ others → text ≡ other
heads same = cc

pub tails : {text other : List ℕ} {texts others : List (List ℕ)} → text ∷ texts ≡ other ∷ others → texts ≡ others
tails same = cc
