-- All definitions by their names.
use Rattle.std.specs.Borrow.{Bor}
use Rattle.std.specs.Prelude.{◌≡◌, ℕ, false, List, [], ◌∷◌, ◌++◌, length, Option, None, Some, bytes_eq, slice_get, slice_set}
use Rattle.std.specs.BTreeMap.{BTreeMap, get_by}
use Rattle.std.specs.Cmp.Lexicographic.{slice_cmp}
use Rattle.std.specs.Ordering.{nat_cmp}
use Rattle.tc_model.specs.CompactSyntaxTrees.{Definition}
use Rattle.tc_model.specs.SimplifiesParts.{definitions_of}
use Rattle.tc_model.specs.SimplifiesFaults.{clash, first_clash}
use Rattle.tc_simple.specs.Places.{or_clash, maybe_place}
use Rattle.tc_simple.specs.Groups.{IsGroup, StartsGroup, any_of}
use Rattle.tc_simple.specs.declared.groups.Group.{Group}
use Rattle.tc_simple.specs.declared.groups.Gathered.{Gathered}

-- the number of a name
abbrev pub number_in : BTreeMap (Bor (List ℕ)) ℕ → List ℕ → Option ℕ
number_in m n = get_by (λ k. slice_cmp nat_cmp n k.now) m

-- these definitions by their names
pub record IsGathered (front : List Definition) (g : Gathered) : Type 0 where
  pub absent : (n : List ℕ) → number_in g.numbers n ≡ None → definitions_of front n ≡ []
  pub present : (n : List ℕ) (k : ℕ) → number_in g.numbers n ≡ Some k → (group : Group) × (slice_get g.groups.items k ≡ Some group) × (group.name.now ≡ n) × IsGroup front group
  pub first : maybe_place g.clash ≡ first_clash [] front

-- a name gets its first definition
pub record Begins (d : Definition) (old new : Gathered) : Type 0 where
  pub group : Group
  pub starts : StartsGroup d group
  pub groups : new.groups.items ≡ old.groups.items ++ group ∷ []
  pub here : number_in new.numbers d.name ≡ Some (length old.groups.items)
  pub others : (n : List ℕ) → bytes_eq d.name n ≡ false → number_in new.numbers n ≡ number_in old.numbers n
  pub first : new.clash ≡ old.clash

-- and one more, which may clash
pub record Grows (number : ℕ) (d : Definition) (old new : Gathered) : Type 0 where
  pub before : Group
  pub group : Group
  pub was : slice_get old.groups.items number ≡ Some before
  pub groups : new.groups.items ≡ slice_set old.groups.items number group
  pub name : group.name ≡ before.name
  pub more : (front : List Definition) → IsGroup front before → before.name.now ≡ d.name → IsGroup (front ++ d ∷ []) group
  pub numbers : new.numbers ≡ old.numbers
  pub first : (front : List Definition) → IsGroup front before → before.name.now ≡ d.name → maybe_place new.clash ≡ or_clash (maybe_place old.clash) (any_of (λ j. clash j d.joins) d.name front) d.place
