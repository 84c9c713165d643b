-- What is asked of the attributes of a tag, one by one.
use Rattle.std.proofs.Common.{◌≡◌, ℕ, ◌+◌, ◌<◌, Bool, true, false, ◌||◌, ◌&&◌, List, refl, ap, ◌∙◌, sym, length, drop, get_or, Option, None, Some, MatchOption}
use Rattle.std.specs.Prelude.{is_some}
use Rattle.std.specs.List.{list_all}
use Rattle.std.proofs.lemmas.List.{drop_more}
use Rattle.tc_tags.specs.Scoped.{bound_bytes}
use Rattle.tc_tags.specs.declared.scopes.Bound as code
use Rattle.tc_tags.specs.declared.scopes.Bound.TheVariants as bounds

-- whether an attribute is a declaration is told by whether it declares something
pub declared_is : {T : Type 0} (o : Option T) (b : Bool) (Q : T → Type 0) → MatchOption o (b ≡ false) (λ t. (b ≡ true) × Q t) → b ≡ is_some o
declared_is None b Q h = h
declared_is (Some t) b Q h = h.0

pub bound_is_some : (names : List ℕ) (o : Option code.Bound) → is_some (bound_bytes names o) ≡ is_some o
bound_is_some names None = refl
bound_is_some names (Some bounds.Xml) = refl
bound_is_some names (Some (bounds.Name s)) = refl

pub means_declared : (d e s : Bool) → true ≡ d → true ≡ d || (e || s)
means_declared d e s h = ap (λ x. x || (e || s)) h

pub means_plain : (d e s : Bool) → true ≡ e → true ≡ d || (e || s)
means_plain true e s h = refl
means_plain false e s h = ap (λ x. x || s) h

pub means_named : (d e s r : Bool) → false ≡ d → false ≡ e → r ≡ s → r ≡ d || (e || s)
means_named d e s r f g h = h ∙ (ap (λ x. x || s) g ∙ ap (λ x. x || (e || s)) f)

-- all of those that are left
pub all_step : {A : Type 0} (p : A → Bool) (xs : List A) (i : ℕ) (d : A) → i < length xs → list_all p (drop i xs) ≡ p (get_or xs i d) && list_all p (drop (i + 1) xs)
all_step p xs i d l = ap (list_all p) (drop_more xs i d l)

-- one that isn't, and one that is
pub not_all : {A : Type 0} (p : A → Bool) (xs : List A) (i : ℕ) (d : A) → i < length xs → list_all p (drop i xs) ≡ list_all p xs → false ≡ p (get_or xs i d) → false ≡ list_all p xs
not_all p xs i d l h e = sym (sym h ∙ (all_step p xs i d l ∙ ap (λ b. b && list_all p (drop (i + 1) xs)) (sym e)))

pub all_so_far : {A : Type 0} (p : A → Bool) (xs : List A) (i : ℕ) (d : A) → i < length xs → list_all p (drop i xs) ≡ list_all p xs → true ≡ p (get_or xs i d) → list_all p (drop (i + 1) xs) ≡ list_all p xs
all_so_far p xs i d l h e = sym (all_step p xs i d l ∙ ap (λ b. b && list_all p (drop (i + 1) xs)) (sym e)) ∙ h
