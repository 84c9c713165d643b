-- The first word of a list.
use Rattle.std.proofs.Common.{◌≡◌, ◌==◌, Bool, true, arith, ◌∷◌, [], ◌∙◌, sym, ap, ℕ, List, String, string_bytes, length}
use Rattle.tc_answer.specs.WordsSeen.{texts}

-- the first word is the one that was looked for
pub texts-first : {Z : Type 0} (words rest : List (String Z)) (name : String Z) (text bytes : List ℕ) → words ≡ name ∷ rest → text ≡ string_bytes name → text ≡ bytes → texts words ≡ bytes ∷ texts rest
texts-first words rest name text bytes parts shown is = ap texts parts ∙ ap (λ n. n ∷ texts rest) (sym shown ∙ is)

-- the first word, in front of others that are known
pub texts-parts : {Z : Type 0} (words rest : List (String Z)) (name : String Z) (text bytes : List ℕ) (others : List (List ℕ)) → words ≡ name ∷ rest → text ≡ string_bytes name → text ≡ bytes → texts rest ≡ others → texts words ≡ bytes ∷ others
texts-parts words rest name text bytes others parts shown is then = texts-first words rest name text bytes parts shown is ∙ ap (λ o. bytes ∷ o) then

-- one word, and nothing behind it
pub texts-only : {Z : Type 0} (words rest : List (String Z)) (name : String Z) (empty : Bool) → words ≡ name ∷ rest → empty ≡ (length rest == 0) → empty ≡ true → texts words ≡ string_bytes name ∷ []
texts-only words [] name empty parts shown is = ap texts parts
texts-only words (other ∷ rest) name empty parts shown is = absurd (grind (arith, shown, is))
