-- What is selected below a node, tree by tree.
use Rattle.std.proofs.Common.{◌≡◌, ℕ, List, [], ◌∷◌, ◌++◌, refl, ap, ◌∙◌, map, Bool, true, false, cond, filter}
use Rattle.tc_model.specs.Names.{ExpandedName}
use Rattle.tc_model.specs.Trees.{Trees, text, element}
use Rattle.tc_model.specs.Chains.{Tree, an_element, a_text, Chain, under, below, onto, found}

more : (b : Bool) (c : Chain) (d : List Tree) (xs ys zs : List (List Tree)) → map (λ d. onto c d) xs ≡ map (λ d. onto c d) ys ++ map (λ d. onto c d) zs
    → map (λ d. onto c d) (cond b (d ∷ xs) xs) ≡ map (λ d. onto c d) (cond b (d ∷ ys) ys) ++ map (λ d. onto c d) zs
more true c d xs ys zs e = ap (λ w. onto c d ∷ w) e
more false c d xs ys zs e = e

pub found_append : (p : List Tree → Bool) (c : Chain) (ds es : List (List Tree)) → found p c (ds ++ es) ≡ found p c ds ++ found p c es
found_append p c [] es = refl
found_append p c (d ∷ ds) es = more (p d) c d (filter p (ds ++ es)) (filter p ds) (filter p es) (found_append p c ds es)

deeper : (b : Bool) (c : Chain) (t : Tree) (d : List Tree) (xs ys : List (List Tree)) → map (λ d. onto c d) xs ≡ map (λ d. onto (under c t) d) ys
    → map (λ d. onto c d) (cond b ((t ∷ d) ∷ xs) xs) ≡ map (λ d. onto (under c t) d) (cond b (d ∷ ys) ys)
deeper true c t d xs ys e = ap (λ w. onto (under c t) d ∷ w) e
deeper false c t d xs ys e = e

pub found_under : (p : List Tree → Bool) (c : Chain) (t : Tree) (ds : List (List Tree)) → found p c (map (λ d. t ∷ d) ds) ≡ found (λ d. p (t ∷ d)) (under c t) ds
found_under p c t [] = refl
found_under p c t (d ∷ ds) = deeper (p (t ∷ d)) c t d (filter p (map (λ d. t ∷ d) ds)) (filter (λ d. p (t ∷ d)) ds) (found_under p c t ds)

split_one : (b : Bool) (c : Chain) (t : Tree) (xs : List (List Tree)) → map (λ d. onto c d) (cond b ((t ∷ []) ∷ xs) xs) ≡ cond b (under c t ∷ []) [] ++ map (λ d. onto c d) xs
split_one true c t xs = refl
split_one false c t xs = refl

pub found_text : (p : List Tree → Bool) (c : Chain) (x : List ℕ) (rest : Trees)
    → found p c (below (text x rest)) ≡ cond (p (a_text x ∷ [])) (under c (a_text x) ∷ []) [] ++ found p c (below rest)
found_text p c x rest = split_one (p (a_text x ∷ [])) c (a_text x) (filter p (below rest))

pub found_element : (p : List Tree → Bool) (c : Chain) (n : ExpandedName) (h rest : Trees)
    → found p c (below (element n h rest))
    ≡ cond (p (an_element n h ∷ [])) (under c (an_element n h) ∷ []) [] ++ (found (λ d. p (an_element n h ∷ d)) (under c (an_element n h)) (below h) ++ found p c (below rest))
found_element p c n h rest =
    split_one (p (an_element n h ∷ [])) c (an_element n h) (filter p (map (λ d. an_element n h ∷ d) (below h) ++ below rest))
    ∙ ap (λ w. cond (p (an_element n h ∷ [])) (under c (an_element n h) ∷ []) [] ++ w)
    (found_append p c (map (λ d. an_element n h ∷ d) (below h)) (below rest) ∙ ap (λ w. w ++ found p c (below rest)) (found_under p c (an_element n h) (below h)))
