-- Names by their numbers: what is numbered is declared, and what contents become is the same by names and by numbers.
use Rattle.std.proofs.Common.{◌≡◌, ◌+◌, ◌<◌, ℕ, zero, suc, Bool, true, false, cond, List, [], ◌∷◌, refl, ap, ◌∙◌, sym, subst, arith, Option, Some, None, map, length, bytes_eq, slice_get}
use Rattle.std.specs.List.{AllByRecursion, IsDistinct}
use Rattle.std.specs.Option.{option_map}
use Rattle.tc_model.specs.Grammars as g
use Rattle.tc_model.specs.Grammars.{Pattern, Patterns, ElementPattern}
use Rattle.tc_model.specs.Simplifies.{both}
use Rattle.tc_dtd.specs.Declarations as d
use Rattle.tc_dtd.specs.Declarations.{Particle, Particles, Content, nothing, anything, mixed, children, Declaration, declared}
use Rattle.tc_dtd.specs.DtdGrammar as grammar
use Rattle.tc_dtd.specs.DtdGrammar.{IsReached, Keeps, keeps_none, keeps, leaves, number_of}
use Rattle.tc_dtd.specs.Built as built
use Rattle.tc_dtd.specs.Numbers.{AreApart, number_in, names_of}
use Rattle.tc_dtd.proofs.NamedLaws.{same_bytes, bytes_same}

some_same : {A : Type 0} {a b : A} → Some a ≡ Some b → a ≡ b
some_same {a = a} {b = b} e = cc

-- what is numbered from 0 is numbered from 1

number_shift : (xs : List Declaration) (n : List ℕ) → number_of xs n ≡ option_map (λ k. k + 1) (number_in (names_of xs) n)
number_shift [] n = refl
number_shift (x ∷ xs) n = by (bytes_eq x.name n) refl (number_shift xs n)
  where
    by : (t : Bool) → bytes_eq x.name n ≡ t → number_of xs n ≡ option_map (λ k. k + 1) (number_in (names_of xs) n) → number_of (x ∷ xs) n ≡ option_map (λ k. k + 1) (number_in (names_of (x ∷ xs)) n)
    by true e rec =
        ap (λ t. cond t (Some 1) (option_map (λ k. k + 1) (number_of xs n))) e
        ∙ sym (ap (λ t. option_map (λ k. k + 1) (cond t (Some 0) (option_map (λ k. k + 1) (number_in (names_of xs) n)))) e)
    by false e rec =
        ap (λ t. cond t (Some 1) (option_map (λ k. k + 1) (number_of xs n))) e
        ∙ (ap (option_map (λ k. k + 1)) rec ∙ sym (ap (λ t. option_map (λ k. k + 1) (cond t (Some 0) (option_map (λ k. k + 1) (number_in (names_of xs) n)))) e))

from_zero : Option ℕ → Pattern
from_zero (Some k) = g.ref (k + 1)
from_zero None = g.not_allowed

from_one : Option ℕ → Pattern
from_one (Some k) = g.ref k
from_one None = g.not_allowed

shifted : (o : Option ℕ) → from_zero o ≡ from_one (option_map (λ k. k + 1) o)
unfolding from_zero from_one
shifted (Some k) = refl
shifted None = refl

by_zero : (ns : List (List ℕ)) (n : List ℕ) → built.reference ns n ≡ from_zero (number_in ns n)
unfolding from_zero
by_zero ns n = elim (number_in ns n) as (λ (o : Option ℕ). (◌≡◌ {A = Pattern} (elim o [ Some k ↦ g.ref (k + 1) | None ↦ g.not_allowed ]) (from_zero o))) [ Some k ↦ refl | None ↦ refl ]

by_one : (xs : List Declaration) (n : List ℕ) → grammar.reference xs n ≡ from_one (number_of xs n)
unfolding from_one
by_one xs n = elim (number_of xs n) as (λ (o : Option ℕ). (◌≡◌ {A = Pattern} (elim o [ Some k ↦ g.ref k | None ↦ g.not_allowed ]) (from_one o))) [ Some k ↦ refl | None ↦ refl ]

pub reference_same : (xs : List Declaration) (n : List ℕ) → built.reference (names_of xs) n ≡ grammar.reference xs n
reference_same xs n = by_zero (names_of xs) n ∙ (shifted (number_in (names_of xs) n) ∙ (ap from_one (sym (number_shift xs n)) ∙ sym (by_one xs n)))

references_same : (xs : List Declaration) (ns : List (List ℕ)) → built.references (names_of xs) ns ≡ grammar.references xs ns
references_same xs [] = refl
references_same xs (n ∷ ns) = ap (λ p. g.more p (built.references (names_of xs) ns)) (reference_same xs n) ∙ ap (g.more (grammar.reference xs n)) (references_same xs ns)

mutual
  particle_same : (xs : List Declaration) (p : Particle) → built.particle_pattern (names_of xs) p ≡ grammar.particle_pattern xs p
  particle_same xs (d.named n) = reference_same xs n
  particle_same xs (d.sequence ps) = ap g.group (particles_same xs ps)
  particle_same xs (d.choice ps) = ap g.choice (particles_same xs ps)
  particle_same xs (d.optional p) = ap (λ q. g.choice (both q g.empty)) (particle_same xs p)
  particle_same xs (d.zero_or_more p) = ap (λ q. g.choice (both (g.one_or_more q) g.empty)) (particle_same xs p)
  particle_same xs (d.one_or_more p) = ap g.one_or_more (particle_same xs p)

  particles_same : (xs : List Declaration) (ps : Particles) → built.particle_patterns (names_of xs) ps ≡ grammar.particle_patterns xs ps
  particles_same xs d.no_more = refl
  particles_same xs (d.more p ps) = ap (λ q. g.more q (built.particle_patterns (names_of xs) ps)) (particle_same xs p) ∙ ap (g.more (grammar.particle_pattern xs p)) (particles_same xs ps)

content_same : (xs : List Declaration) (c : Content) → built.content_pattern (names_of xs) c ≡ grammar.content_pattern xs c
content_same xs nothing = refl
content_same xs anything = ap grammar.with_texts (references_same xs (names_of xs))
content_same xs (mixed []) = refl
content_same xs (mixed (n ∷ ns)) = ap grammar.with_texts (references_same xs (n ∷ ns))
content_same xs (children p) = particle_same xs p

element_same : (xs : List Declaration) (x : Declaration) → built.element_pattern (names_of xs) x ≡ grammar.element_pattern xs x
element_same xs x = let f : Pattern → ElementPattern = λ p. record { names = g.of_name (record { uri = []; local = x.name }); content = p } in ap f (content_same xs x.content)

pub elements_same : (xs ys : List Declaration) → map (built.element_pattern (names_of xs)) ys ≡ map (grammar.element_pattern xs) ys
elements_same xs [] = refl
elements_same xs (y ∷ ys) = ap (λ e. e ∷ map (built.element_pattern (names_of xs)) ys) (element_same xs y) ∙ ap (λ es. grammar.element_pattern xs y ∷ es) (elements_same xs ys)

-- the declaration at a number

pub record At (xs : List Declaration) (n : List ℕ) (k : ℕ) : Type 0 where
  pub x : Declaration
  pub stands : slice_get xs k ≡ Some x
  pub named : x.name ≡ n
  pub is_declared : declared xs n ≡ Some x.content
  pub within : k < length xs

pub at_number : (xs : List Declaration) (n : List ℕ) (k : ℕ) → number_in (names_of xs) n ≡ Some k → At xs n k
at_number [] n k e = absurd (cc)
at_number (y ∷ ys) n k e = by (bytes_eq y.name n) refl (λ j i. at_number ys n j i) e
  where
    later : ((j : ℕ) → number_in (names_of ys) n ≡ Some j → At ys n j) → bytes_eq y.name n ≡ false → (o : Option ℕ) → number_in (names_of ys) n ≡ o → option_map (λ k. k + 1) o ≡ Some k → At (y ∷ ys) n k
    later rec b None i e = absurd (cc)
    later rec b (Some j) i e =
        let r = rec j i in
        let is : suc j ≡ k = omega (arith, some_same e) in
        record {
          x = r.x;
          stands = subst (λ m. slice_get (y ∷ ys) m ≡ Some r.x) is r.stands;
          named = r.named;
          is_declared = ap (λ t. cond t (Some y.content) (declared ys n)) b ∙ r.is_declared;
          within = omega (arith, is, r.within);
        }

    by : (t : Bool) → bytes_eq y.name n ≡ t → ((j : ℕ) → number_in (names_of ys) n ≡ Some j → At ys n j) → cond t (Some 0) (option_map (λ k. k + 1) (number_in (names_of ys) n)) ≡ Some k → At (y ∷ ys) n k
    by true b rec e =
        let is : 0 ≡ k = some_same e in
        record {
          x = y;
          stands = subst (λ m. slice_get (y ∷ ys) m ≡ Some y) is refl;
          named = same_bytes y.name n b;
          is_declared = ap (λ t. cond t (Some y.content) (declared ys n)) b;
          within = omega (arith, is);
        }
    by false b rec e = later rec b (number_in (names_of ys) n) refl e

-- what is declared has a number
pub has_place : (xs : List Declaration) (n : List ℕ) (c : Content) → declared xs n ≡ Some c → (k : ℕ) × (number_in (names_of xs) n ≡ Some k)
has_place [] n c e = absurd (cc)
has_place (y ∷ ys) n c e = by (λ i. has_place ys n c i) (bytes_eq y.name n) refl e
  where
    by : (declared ys n ≡ Some c → (k : ℕ) × (number_in (names_of ys) n ≡ Some k)) → (t : Bool) → bytes_eq y.name n ≡ t → cond t (Some y.content) (declared ys n) ≡ Some c → (k : ℕ) × (number_in (names_of (y ∷ ys)) n ≡ Some k)
    by rec true b e = (0, ap (λ t. cond t (Some 0) (option_map (λ k. k + 1) (number_in (names_of ys) n))) b)
    by rec false b e = let (k, i) = rec e in (k + 1, ap (λ t. cond t (Some 0) (option_map (λ k. k + 1) (number_in (names_of ys) n))) b ∙ ap (option_map (λ k. k + 1)) i)

all_get : (P : List ℕ → Type 0) (xs : List Declaration) (k : ℕ) (x : Declaration) → AllByRecursion P (names_of xs) → slice_get xs k ≡ Some x → P x.name
all_get P [] k x a e = absurd (cc)
all_get P (y ∷ ys) zero x a e = let same : y ≡ x = some_same e in subst (λ (z : Declaration). P z.name) same a.0
all_get P (y ∷ ys) (suc k) x a e = all_get P ys k x a.1 e

pub number_at : (xs : List Declaration) (k : ℕ) (x : Declaration) → AreApart (names_of xs) → slice_get xs k ≡ Some x → number_in (names_of xs) x.name ≡ Some k
unfolding IsDistinct
number_at [] k x a e = absurd (cc)
number_at (y ∷ ys) zero x a e =
    let same : y ≡ x = some_same e in
    ap (λ t. cond t (Some 0) (option_map (λ k. k + 1) (number_in (names_of ys) x.name))) (bytes_same y.name x.name (ap (λ (z : Declaration). z.name) same))
number_at (y ∷ ys) (suc k) x a e =
    let other : bytes_eq y.name x.name ≡ false = all_get (λ n. bytes_eq y.name n ≡ false) ys k x a.0 e in
    let next : k + 1 ≡ suc k = omega arith in
    ap (λ t. cond t (Some 0) (option_map (λ k. k + 1) (number_in (names_of ys) x.name))) other ∙ (ap (option_map (λ k. k + 1)) (number_at ys k x a.1 e) ∙ ap Some next)

pub declared_at : (xs : List Declaration) (k : ℕ) (x : Declaration) → AreApart (names_of xs) → slice_get xs k ≡ Some x → declared xs x.name ≡ Some x.content
declared_at xs k x a e =
    let r = at_number xs x.name k (number_at xs k x a e) in
    let same : r.x ≡ x = some_same (sym r.stands ∙ e) in
    r.is_declared ∙ ap (λ (z : Declaration). Some z.content) same

-- what is kept stays apart

kept_names : (P : List ℕ → Type 0) (dtd : List Declaration) (root : List ℕ) (xs kept : List Declaration) → Keeps dtd root xs kept → AllByRecursion P (names_of xs) → AllByRecursion P (names_of kept)
kept_names P dtd root xs kept keeps_none a = tt
kept_names P dtd root xs kept (keeps {xs = ys} {kept = ks} r k) a = (a.0, kept_names P dtd root ys ks k a.1)
kept_names P dtd root xs kept (leaves {xs = ys} left k) a = kept_names P dtd root ys kept k a.1

pub kept_apart : (dtd : List Declaration) (root : List ℕ) (xs kept : List Declaration) → Keeps dtd root xs kept → AreApart (names_of xs) → AreApart (names_of kept)
unfolding IsDistinct
kept_apart dtd root xs kept keeps_none a = tt
kept_apart dtd root xs kept (keeps {x = y} {xs = ys} {kept = ks} r k) a = (kept_names (λ n. bytes_eq y.name n ≡ false) dtd root ys ks k a.0, kept_apart dtd root ys ks k a.1)
kept_apart dtd root xs kept (leaves {xs = ys} left k) a = kept_apart dtd root ys kept k a.1

-- the grammar by numbers is that by names
pub built_is : (kept : List Declaration) (root : List ℕ) (ns : List (List ℕ)) (start : Pattern) (elements : List ElementPattern) → ns ≡ names_of kept → start ≡ built.reference ns root
    → elements ≡ map (built.element_pattern ns) kept → record { start = start; elements = elements } ≡ grammar.grammar_with kept root
built_is kept root ns start elements e f h =
    let first : start ≡ grammar.reference kept root = f ∙ (ap (λ m. built.reference m root) e ∙ reference_same kept root) in
    let others : elements ≡ map (grammar.element_pattern kept) kept = h ∙ (ap (λ m. map (built.element_pattern m) kept) e ∙ elements_same kept kept) in
    let make : Pattern → List ElementPattern → g.Grammar = λ p es. record { start = p; elements = es } in
    ap (λ p. make p elements) first ∙ ap (make (grammar.reference kept root)) others
