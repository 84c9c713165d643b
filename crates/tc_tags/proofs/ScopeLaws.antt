-- Declarations by the chains of their prefixes.
use Rattle.std.proofs.Common.{◌≡◌, ℕ, suc, Bool, true, false, ◌==◌, List, [], ◌∷◌, refl, ap, ◌∙◌, sym, length, get_or, None, Some, bytes_eq, cond, arith}
use Rattle.std.specs.Cmp.Lexicographic.{bytes_decides}
use Rattle.std.proofs.lemmas.List.{get_or-map, length-map}
use Rattle.tc_model.specs.XmlTextScopes.{is_empty}
use Rattle.tc_tags.specs.Chained.{chain_of, first_such}
use Rattle.tc_tags.specs.Scoped.{chain_in, chains_in, declares, meant_by, bound_by}
use Rattle.tc_tags.specs.Spans.{at_span}
use Rattle.tc_tags.specs.declared.scopes.Declared.{Declared}
use Rattle.tc_tags.proofs.ChainLaws.{Follows}

pub as_many : (names : List ℕ) (ds : List Declared) (chains : List ℕ) → chains ≡ chains_in names ds → length chains ≡ length ds
as_many names ds chains e = ap length e ∙ length-map ds (chain_in names)

pub follows_in : (names prefix : List ℕ) (ds : List Declared) (chains : List ℕ) → chains ≡ chains_in names ds → Follows (declares names prefix) ds chains (chain_of prefix [])
follows_in names prefix ds chains e i d l t =
    ap (λ w. get_or w i 0) e ∙ (get_or-map (chain_in names) ds i d 0 l ∙ ap (λ p. chain_of p []) ((bytes_decides (at_span (get_or ds i d).prefix names) prefix).0 t))

empty_by_length : (bs : List ℕ) (b : Bool) → (length bs == 0) ≡ b → is_empty bs ≡ b
empty_by_length [] b e = e
empty_by_length (c ∷ bs) true e = absurd (no (length bs) e)
  where
    no : (n : ℕ) → (suc n == 0) ≡ true → ⊥
    no n e = grind arith
empty_by_length (c ∷ bs) false e = refl

-- what a list of declarations gives past its end
abbrev pub blank : Declared
blank = record { prefix = record { start = 0; length = 0 }; uri = record { start = 0; length = 0 } }

pub declares_is : (names prefix all found : List ℕ) (d : Declared) (t : Bool) → all ≡ names → found ≡ at_span d.prefix all → t ≡ bytes_eq found prefix → declares names prefix d ≡ t
declares_is names prefix all found d t e f g = ap (λ w. bytes_eq w prefix) (sym (f ∙ ap (at_span d.prefix) e)) ∙ sym g

-- what is bound, by the innermost declaration
pub undeclared : (names prefix : List ℕ) (ds : List Declared) (d : Declared) → Some d ≡ first_such (declares names prefix) ds → (length (at_span d.uri names) == 0) ≡ true → None ≡ bound_by ds names prefix
undeclared names prefix ds d e f =
    sym (ap (meant_by names prefix) (sym e) ∙ ap (λ b. cond b None (Some (at_span d.uri names))) (empty_by_length (at_span d.uri names) true f))

pub declared_to : (names prefix : List ℕ) (ds : List Declared) (d : Declared) → Some d ≡ first_such (declares names prefix) ds → (length (at_span d.uri names) == 0) ≡ false → Some (at_span d.uri names) ≡ bound_by ds names prefix
declared_to names prefix ds d e f =
    sym (ap (meant_by names prefix) (sym e) ∙ ap (λ b. cond b None (Some (at_span d.uri names))) (empty_by_length (at_span d.uri names) false f))
