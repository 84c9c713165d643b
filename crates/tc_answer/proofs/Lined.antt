-- Lines by their pieces.
use Rattle.std.proofs.Common.{◌≡◌, ◌++◌, ◌∷◌, [], ◌∙◌, ℕ, List, length, refl, sym, ap, codes, decimal, append_assoc, arith}
use Rattle.std.specs.Prelude.{◌≢◌}
use Rattle.tc_model.specs.Printed.{printed}
use Rattle.tc_model.specs.Trees.{Trees}
use Rattle.tc_answer.specs.Lines.{line, limit_line, safe_line, included_line, unsafe_lines, unsafe_large_lines, namespace_text}

-- texts one behind another, in pieces as they are put together
four : (a b c d e : List ℕ) → a ++ (b ++ (c ++ (d ++ e))) ≡ (a ++ b ++ c ++ d) ++ e
four a b c d e = simp append_assoc

six : (a b c d e f g : List ℕ) → a ++ (b ++ (c ++ (d ++ (e ++ (f ++ g))))) ≡ (a ++ b ++ c ++ d ++ e ++ f) ++ g
six a b c d e f g = simp append_assoc

two_in_two : (a b c d e : List ℕ) → a ++ (b ++ (c ++ (d ++ e))) ≡ (a ++ (b ++ (c ++ d))) ++ e
two_in_two a b c d e = simp append_assoc

braced : (a b c d e f g h : List ℕ) → a ++ (b ++ (c ++ (d ++ (e ++ (f ++ (g ++ h)))))) ≡ (a ++ (b ++ (c ++ ((d ++ e ++ f) ++ g)))) ++ h
braced a b c d e f g h = simp append_assoc

pub limit_pieces : (word digits : List ℕ) (number : ℕ) → digits ≡ decimal number → codes "limit " ++ (word ++ (codes " " ++ (digits ++ codes "\n"))) ≡ limit_line word number
limit_pieces word digits number e = four (codes "limit ") word (codes " ") digits (codes "\n") ∙ ap (λ d. line (codes "limit " ++ word ++ codes " " ++ d)) e

pub safe_pieces : (a b c : List ℕ) (trees hedges outputs : ℕ) → a ≡ decimal trees → b ≡ decimal hedges → c ≡ decimal outputs
    → codes "safe trees " ++ (a ++ (codes " hedges " ++ (b ++ (codes " outputs " ++ (c ++ codes "\n"))))) ≡ safe_line trees hedges outputs
safe_pieces a b c trees hedges outputs e f g =
    six (codes "safe trees ") a (codes " hedges ") b (codes " outputs ") c (codes "\n")
    ∙ (ap (λ w. line (codes "safe trees " ++ w ++ codes " hedges " ++ b ++ codes " outputs " ++ c)) e
    ∙ (ap (λ w. line (codes "safe trees " ++ decimal trees ++ codes " hedges " ++ w ++ codes " outputs " ++ c)) f
    ∙ ap (λ w. line (codes "safe trees " ++ decimal trees ++ codes " hedges " ++ decimal hedges ++ codes " outputs " ++ w)) g))

pub included_pieces : (a b : List ℕ) (trees hedges : ℕ) → a ≡ decimal trees → b ≡ decimal hedges
    → codes "included trees " ++ (a ++ (codes " hedges " ++ (b ++ codes "\n"))) ≡ included_line trees hedges
included_pieces a b trees hedges e f =
    four (codes "included trees ") a (codes " hedges ") b (codes "\n")
    ∙ (ap (λ w. line (codes "included trees " ++ w ++ codes " hedges " ++ b)) e
    ∙ ap (λ w. line (codes "included trees " ++ decimal trees ++ codes " hedges " ++ w)) f)

-- the words of a reason stand in two parts
pub refused_pieces : (name front word digits : List ℕ) (place : ℕ) → digits ≡ decimal place
    → codes "refused " ++ (name ++ (codes " " ++ (front ++ (word ++ (codes " at " ++ (digits ++ codes "\n"))))))
    ≡ line (codes "refused " ++ name ++ codes " " ++ (front ++ word) ++ codes " at " ++ decimal place)
refused_pieces name front word digits place f =
    ap (λ w. codes "refused " ++ (name ++ (codes " " ++ w))) (sym (append_assoc front word (codes " at " ++ (digits ++ codes "\n"))))
    ∙ (six (codes "refused ") name (codes " ") (front ++ word) (codes " at ") digits (codes "\n")
    ∙ ap (λ w. line (codes "refused " ++ name ++ codes " " ++ (front ++ word) ++ codes " at " ++ w)) f)

pub refused_line : (name words reason place : List ℕ) → words ≡ reason
    → line (codes "refused " ++ name ++ codes " " ++ words ++ codes " at " ++ place) ≡ line (codes "refused " ++ name ++ codes " " ++ reason ++ codes " at " ++ place)
refused_line name words reason place e = ap (λ w. line (codes "refused " ++ name ++ codes " " ++ w ++ codes " at " ++ place)) e

pub rule_pieces : (digits rule behind : List ℕ) (number : ℕ) → digits ≡ decimal number
    → codes "rejected " ++ (digits ++ (rule ++ (behind ++ codes "\n"))) ≡ line (codes "rejected " ++ (decimal number ++ (rule ++ behind)))
rule_pieces digits rule behind number e = two_in_two (codes "rejected ") digits rule behind (codes "\n") ∙ ap (λ w. line (codes "rejected " ++ (w ++ (rule ++ behind)))) e

pub behind_number : (number rule rest : List ℕ) → line (codes "rejected " ++ (number ++ (rule ++ rest))) ≡ line (codes "rejected " ++ ((number ++ rule) ++ rest))
behind_number number rule rest = ap (λ w. line (codes "rejected " ++ w)) (sym (append_assoc number rule rest))

-- the name of an element without a namespace
pub around_local : (uri local : List ℕ) → length uri ≡ 0 → local ≡ namespace_text uri ++ local
around_local [] local e = refl
around_local (c ∷ cs) local e = absurd (omega (arith, e))

-- of one with a namespace
pub around_pieces : (digits uri local : List ℕ) (number : ℕ) → digits ≡ decimal number → length uri ≢ 0
    → codes "rejected " ++ (digits ++ (codes " wrap {" ++ (uri ++ (codes "}" ++ (local ++ codes "\n")))))
    ≡ line (codes "rejected " ++ (decimal number ++ (codes " wrap " ++ (namespace_text uri ++ local))))
around_pieces digits [] local number e n = absurd (n refl)
around_pieces digits (c ∷ cs) local number e n =
    braced (codes "rejected ") digits (codes " wrap ") (codes "{") (c ∷ cs) (codes "}") local (codes "\n")
    ∙ ap (λ w. line (codes "rejected " ++ (w ++ (codes " wrap " ++ ((codes "{" ++ (c ∷ cs) ++ codes "}") ++ local))))) e

-- a text, trees and a text are put one behind another
pub put_three : (before front shown behind : List ℕ) → ((before ++ front) ++ shown) ++ behind ≡ before ++ (front ++ (shown ++ behind))
put_three before front shown behind = append_assoc (before ++ front) shown behind ∙ append_assoc before front (shown ++ behind)

-- a counterexample whose result is too large to be shown
pub large_lines : (d : Trees) → codes "unsafe\ndocument " ++ (printed d ++ codes "\noutput-too-large\n") ≡ unsafe_large_lines d
large_lines d = ap (λ w. codes "unsafe\ndocument " ++ w) (sym (append_assoc (printed d) (10 ∷ []) (codes "output-too-large\n")))

-- a counterexample and its result
pub result_lines : (d o : Trees) → (codes "unsafe\ndocument " ++ (printed d ++ codes "\noutput ")) ++ (printed o ++ codes "\n") ≡ unsafe_lines d o
result_lines d o =
    ap (λ w. codes "unsafe\ndocument " ++ w) (append_assoc (printed d) (codes "\noutput ") (printed o ++ codes "\n")
    ∙ sym (append_assoc (printed d) (10 ∷ []) (codes "output " ++ (printed o ++ codes "\n"))))
