-- A string-value is empty, or isn't white space alone: where no text of a document is.
use Rattle.std.proofs.Common.{◌≡◌, ℕ, List, [], ◌∷◌, ◌++◌, refl, ap, ◌∙◌, sym, subst, Bool, true, false, cond, ◌&&◌, ◌||◌, Option, Some, None}
use Rattle.tc_base.specs.Characters.{is_white}
use Rattle.tc_model.specs.Trees.{Trees, none, text, element, is_white_space_only}
use Rattle.tc_model.specs.Chains.{an_element, a_text, Node, one, joined_texts, string_value}
use Rattle.tc_model.specs.TreesApart.{bears_text, IsApartAfter}
use Rattle.tc_model.specs.Meaning.{value_of_first}
use Rattle.tc_model.specs.Machine.{Machine, or_else, first_hit}
use Rattle.tc_rows.specs.Rows.{hit_value, bears_value, node_bears, value_of}

white_append : (s t : List ℕ) → is_white_space_only (s ++ t) ≡ is_white_space_only s && is_white_space_only t
white_append [] t = refl
white_append (b ∷ bs) t = go (is_white b) (white_append bs t)
  where
    go : (w : Bool) → is_white_space_only (bs ++ t) ≡ is_white_space_only bs && is_white_space_only t → w && is_white_space_only (bs ++ t) ≡ (w && is_white_space_only bs) && is_white_space_only t
    go true e = e
    go false e = refl

and_false : (a b : Bool) → a ≡ false → (a && b) ≡ false
and_false true b e = cc
and_false false b e = refl

-- a text that bears nothing is empty, and one that does isn't white space alone
abbrev pub Fits : Bool → List ℕ → Type 0
Fits true s = is_white_space_only s ≡ false
Fits false s = s ≡ []

fits_append : (a b : Bool) (s t : List ℕ) → Fits a s → Fits b t → Fits (a || b) (s ++ t)
fits_append true b s t f g = white_append s t ∙ and_false (is_white_space_only s) (is_white_space_only t) f
fits_append false true s t f g = ap (λ w. is_white_space_only (w ++ t)) f ∙ g
fits_append false false s t f g = ap (λ w. w ++ t) f ∙ g

pub string_fits : (b : Bool) (h : Trees) → IsApartAfter b h → Fits (bears_text h) (joined_texts h)
string_fits b none i = refl
string_fits b (text s rest) i = fits_append true (bears_text rest) s (joined_texts rest) i.1 (string_fits true rest i.2)
string_fits b (element n h rest) i = fits_append (bears_text h) (bears_text rest) (joined_texts h) (joined_texts rest) (string_fits false h i.0) (string_fits false rest i.1)

abbrev pub NodeFits : Option Node → Type 0
NodeFits None = Unit {0}
NodeFits (Some n) = Fits (node_bears n) (string_value n)

or_fits : (a b : Option Node) → NodeFits a → NodeFits b → NodeFits (or_else a b)
or_fits None b f g = g
or_fits (Some n) b f g = f

cond_fits : (b : Bool) (n : Node) (x : Option Node) → Fits (node_bears n) (string_value n) → NodeFits x → NodeFits (cond b (Some n) x)
cond_fits true n x f g = f
cond_fits false n x f g = g

pub or_false : (b : Bool) → b || false ≡ b
or_false true = refl
or_false false = refl

hit_fits : (m : Machine) (b : Bool) (h : Trees) (s : m.Look) → IsApartAfter b h → NodeFits (first_hit m h s)
hit_fits m b none s i = tt
hit_fits m b (text x rest) s i =
    or_fits (cond (m.look_hits s (m.letter (a_text x))) (Some (one (a_text x))) None) (first_hit m rest s) (cond_fits (m.look_hits s (m.letter (a_text x))) (one (a_text x)) None i.1 tt) (hit_fits m true rest s i.2)
hit_fits m b (element n h rest) s i =
    let l = m.letter (an_element n h) in
    or_fits (cond (m.look_hits s l) (Some (one (an_element n h))) (first_hit m h (m.look_step s l))) (first_hit m rest s)
    (cond_fits (m.look_hits s l) (one (an_element n h)) (first_hit m h (m.look_step s l)) (subst (λ w. Fits w (joined_texts h)) (sym (or_false (bears_text h))) (string_fits false h i.0)) (hit_fits m false h (m.look_step s l) i.0))
    (hit_fits m false rest s i.1)

value_tells : (b : Bool) → bears_value (hit_value b) ≡ b
value_tells true = refl
value_tells false = refl

seen_fits : (x : Option Node) → NodeFits x → Fits (bears_value (value_of x)) (value_of_first x)
seen_fits None f = refl
seen_fits (Some n) f = subst (λ w. Fits w (string_value n)) (sym (value_tells (node_bears n))) f

pub value_fits : (m : Machine) (b : Bool) (h : Trees) (s : m.Look) → IsApartAfter b h → Fits (bears_value (value_of (first_hit m h s))) (value_of_first (first_hit m h s))
value_fits m b h s i = seen_fits (first_hit m h s) (hit_fits m b h s i)
