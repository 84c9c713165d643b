-- Which reason a name, a call or an attribute step has.
use Rattle.std.proofs.Common.{◌≡◌, ◌⊎◌, inl, inr, ◌∙◌, ℕ, Bool, true, false, cond, not, ◌&&◌, ◌||◌, List, [], ◌∷◌, Option, None, Some, refl, ap, sym, length, bytes_eq, codes, arith}
use Rattle.std.specs.Prelude.{◌==◌}
use Rattle.std.proofs.lemmas.Bool.{eqb-true}
use Rattle.tc_base.specs.declared.reasons.Why.{Why}
use Rattle.tc_base.specs.declared.reasons.Why.TheVariants.{Axis, FunctionCall, AttributeStep}
use Rattle.tc_model.specs.XmlTextNames.{QualifiedName}
use Rattle.tc_model.specs.PathTextTokens.{Mark, star, slash, slashes, bar, open_parenthesis, close_parenthesis, open_bracket, close_bracket, at, dot, dots, colons, comma, comparison, arithmetic, Token, name, all_of_prefix, mark, number, literal, variable}
use Rattle.tc_path.specs.declared.reasons.Context.{Context}
use Rattle.tc_path.specs.declared.reasons.Context.TheVariants.{Value, Test}
use Rattle.tc_path.specs.Reasons.{is_word, is_of_test, attribute_reason, axis_reason, other_node_reason, call_reason}

pub no_bytes : (xs : List ℕ) → (length xs == 0) ≡ bytes_eq xs []
no_bytes [] = refl
no_bytes (x ∷ xs) = by (length (x ∷ xs) == 0) refl
  where
    by : (b : Bool) → (length (x ∷ xs) == 0) ≡ b → (length (x ∷ xs) == 0) ≡ false
    by true e = absurd (omega (arith, eqb-true (length (x ∷ xs)) 0 e))
    by false e = e

pub this_word : (n : QualifiedName) (w : List ℕ) (r e : Bool) → r ≡ (length n.prefix == 0) → r ≡ true → e ≡ bytes_eq n.local w → e ≡ is_word n w
this_word n w r e is t h = h ∙ ap (λ z. z && bytes_eq n.local w) (sym t ∙ (is ∙ no_bytes n.prefix))

pub no_word : (n : QualifiedName) (w : List ℕ) (r : Bool) → r ≡ (length n.prefix == 0) → r ≡ false → r ≡ is_word n w
no_word n w r is f = f ∙ ap (λ z. z && bytes_eq n.local w) (sym f ∙ (is ∙ no_bytes n.prefix))

-- of two tests the first that holds, or none
second : {X : Type 0} (s t : Bool) (a b d : X) → s ≡ false → t ≡ true → b ≡ cond s a (cond t b d)
second s t a b d e f = ap (λ z. cond z b d) (sym f) ∙ ap (λ z. cond z a (cond t b d)) (sym e)

third : {X : Type 0} (s t : Bool) (a b d : X) → s ≡ false → t ≡ false → d ≡ cond s a (cond t b d)
third s t a b d e f = ap (λ z. cond z b d) (sym f) ∙ ap (λ z. cond z a (cond t b d)) (sym e)

or_left : (s t : Bool) → s ≡ true → (s || t) ≡ true
or_left s t e = ap (λ z. z || t) e

or_right : (s t : Bool) → t ≡ true → (s || t) ≡ true
or_right true t e = refl
or_right false t e = e

module _ (c : Context) (n : QualifiedName) (ts : List Token) where
  pub axis_of_attribute : is_word n (codes "attribute") ≡ true → attribute_reason c ts ≡ axis_reason c n ts
  axis_of_attribute e = ap (λ z. cond z (attribute_reason c ts) (cond (is_word n (codes "child") || not (bytes_eq n.prefix [])) None (Some Axis))) (sym e)

  pub axis_of_child : is_word n (codes "attribute") ≡ false → is_word n (codes "child") ≡ true → None ≡ axis_reason c n ts
  axis_of_child e f =
      second (is_word n (codes "attribute")) (is_word n (codes "child") || not (bytes_eq n.prefix [])) (attribute_reason c ts) None (Some Axis) e (or_left (is_word n (codes "child")) (not (bytes_eq n.prefix [])) f)

  pub axis_with_prefix : is_word n (codes "attribute") ≡ false → bytes_eq n.prefix [] ≡ false → None ≡ axis_reason c n ts
  axis_with_prefix e f =
      second (is_word n (codes "attribute")) (is_word n (codes "child") || not (bytes_eq n.prefix [])) (attribute_reason c ts) None (Some Axis) e (or_right (is_word n (codes "child")) (not (bytes_eq n.prefix [])) (ap not f))

  pub another_axis : is_word n (codes "attribute") ≡ false → is_word n (codes "child") ≡ false → bytes_eq n.prefix [] ≡ true → Some Axis ≡ axis_reason c n ts
  another_axis e f g =
      third (is_word n (codes "attribute")) (is_word n (codes "child") || not (bytes_eq n.prefix [])) (attribute_reason c ts) None (Some Axis) e (ap (λ z. z || not (bytes_eq n.prefix [])) f ∙ ap not g)

  pub call_of_other : (is_word n (codes "comment") || is_word n (codes "processing-instruction")) ≡ true → other_node_reason ts ≡ call_reason c n ts
  call_of_other e = ap (λ z. cond z (other_node_reason ts) (cond (is_word n (codes "text") || is_word n (codes "node")) None (cond (is_of_test c n) None (Some FunctionCall)))) (sym e)

  pub call_of_node : (is_word n (codes "comment") || is_word n (codes "processing-instruction")) ≡ false → (is_word n (codes "text") || is_word n (codes "node")) ≡ true → None ≡ call_reason c n ts
  call_of_node e f =
      second (is_word n (codes "comment") || is_word n (codes "processing-instruction")) (is_word n (codes "text") || is_word n (codes "node")) (other_node_reason ts) None (cond (is_of_test c n) None (Some FunctionCall)) e f

pub nothing_closed : (ts : List Token) → ((r : List Token) → ts ≡ mark close_parenthesis ∷ r → ⊥) → None ≡ other_node_reason ts
nothing_closed [] h = refl
nothing_closed (name n ∷ ts) h = refl
nothing_closed (all_of_prefix p ∷ ts) h = refl
nothing_closed (number ∷ ts) h = refl
nothing_closed (literal ∷ ts) h = refl
nothing_closed (variable ∷ ts) h = refl
nothing_closed (mark close_parenthesis ∷ ts) h = absurd (h ts refl)
nothing_closed (mark star ∷ ts) h = refl
nothing_closed (mark slash ∷ ts) h = refl
nothing_closed (mark slashes ∷ ts) h = refl
nothing_closed (mark bar ∷ ts) h = refl
nothing_closed (mark open_parenthesis ∷ ts) h = refl
nothing_closed (mark open_bracket ∷ ts) h = refl
nothing_closed (mark close_bracket ∷ ts) h = refl
nothing_closed (mark at ∷ ts) h = refl
nothing_closed (mark dot ∷ ts) h = refl
nothing_closed (mark dots ∷ ts) h = refl
nothing_closed (mark colons ∷ ts) h = refl
nothing_closed (mark comma ∷ ts) h = refl
nothing_closed (mark comparison ∷ ts) h = refl
nothing_closed (mark arithmetic ∷ ts) h = refl

pub step_of_test : (c : Context) (ts : List Token) → (c ≡ Test) ⊎ (c ≡ Value) → Some AttributeStep ≡ attribute_reason c ts
step_of_test c ts (inl e) = ap (λ z. attribute_reason z ts) (sym e)
step_of_test c ts (inr e) = ap (λ z. attribute_reason z ts) (sym e)
