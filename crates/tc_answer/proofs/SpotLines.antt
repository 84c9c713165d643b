-- The lines of spots by their pieces.
use Rattle.std.proofs.Common.{◌≡◌, ◌∙◌, sym, ap, ℕ, List, [], ◌++◌, append_assoc, length, flat_map, codes, decimal}
use Rattle.std.proofs.lemmas.List.{length-map}
use Rattle.tc_answer.specs.Lines.{line}
use Rattle.tc_answer.specs.SpotLines.{spot_line, dead_count, places_line, spots_lines}
use Rattle.tc_answer.specs.SpotsSeen.{spot_use, spot_uses}
use Rattle.tc_decide.specs.declared.spots.SpotTold.{SpotTold}

-- the line of one, in two pieces
pub one_line : (front name found : List ℕ) → (front ++ name) ++ (found ++ codes "\n") ≡ front ++ line (name ++ found)
one_line front name found = append_assoc front name (found ++ codes "\n") ∙ ap (λ z. front ++ z) (sym (append_assoc name found (codes "\n")))

-- a front and a number
pub numbered : (old front digits : List ℕ) (number : ℕ) → digits ≡ decimal number → (old ++ front) ++ digits ≡ old ++ (front ++ decimal number)
numbered old front digits number e = append_assoc old front digits ∙ ap (λ z. old ++ (front ++ z)) e

-- the last line, in pieces
five : (old a b c d e : List ℕ) → ((((old ++ a) ++ b) ++ c) ++ d) ++ e ≡ old ++ (((a ++ b ++ c ++ d)) ++ e)
five old a b c d e = simp append_assoc

pub places_pieces : (old a b : List ℕ) (places dead : ℕ) → a ≡ decimal places → b ≡ decimal dead
    → ((((old ++ codes "places ") ++ a) ++ codes " dead ") ++ b) ++ codes "\n" ≡ old ++ places_line places dead
places_pieces old a b places dead e f =
    five old (codes "places ") a (codes " dead ") b (codes "\n")
    ∙ (ap (λ w. old ++ line (codes "places " ++ w ++ codes " dead " ++ b)) e ∙ ap (λ w. old ++ line (codes "places " ++ decimal places ++ codes " dead " ++ w)) f)

-- all lines: those of the spots, and the last one
pub whole_lines : (told : List SpotTold) (none front whole : List ℕ) (count dead : ℕ) → none ≡ [] → front ≡ none ++ flat_map spot_line (spot_uses told) → whole ≡ front ++ places_line count dead
    → count ≡ length told → dead ≡ dead_count (spot_uses told) → whole ≡ spots_lines (spot_uses told)
whole_lines told none front whole count dead e f g counted h =
    g
    ∙ (ap (λ z. z ++ places_line count dead) (f ∙ ap (λ z. z ++ flat_map spot_line (spot_uses told)) e)
    ∙ (ap (λ n. flat_map spot_line (spot_uses told) ++ places_line n dead) (counted ∙ sym (length-map told spot_use))
    ∙ ap (λ n. flat_map spot_line (spot_uses told) ++ places_line (length (spot_uses told)) n) h))
