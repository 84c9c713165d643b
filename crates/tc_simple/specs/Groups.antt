-- Definitions by their names.
use Rattle.std.specs.Prelude.{◌≡◌, ◌<◌, ℕ, Bool, true, false, ◌&&◌, ◌||◌, List, [], ◌∷◌, length, map, bytes_eq}
use Rattle.std.specs.List.{list_any}
use Rattle.tc_model.specs.CompactSyntaxTrees.{Joins, plain, by_choice, by_interleave, Definition}
use Rattle.tc_model.specs.SimplifiesParts.{definitions_of, is_choice}
use Rattle.tc_rnc.specs.Views.{pattern}
use Rattle.tc_simple.specs.declared.groups.Group.{Group}

abbrev pub is_plain : Joins → Bool
is_plain plain = true
is_plain by_choice = false
is_plain by_interleave = false

abbrev pub is_interleave : Joins → Bool
is_interleave plain = false
is_interleave by_choice = false
is_interleave by_interleave = true

-- a definition of this name has such an operator
abbrev pub any_of : (Joins → Bool) → List ℕ → List Definition → Bool
any_of test n ds = list_any (λ d. bytes_eq d.name n && test d.joins) ds

-- what is kept of these definitions for one name
pub record IsGroup (front : List Definition) (g : Group) : Type 0 where
  pub some : 0 < length g.bodies.items
  pub bodies : map pattern g.bodies.items ≡ map (λ d. d.body) (definitions_of front g.name.now)
  pub plain : g.is_plain ≡ any_of is_plain g.name.now front
  pub choice : g.is_choice ≡ any_of is_choice g.name.now front
  pub interleave : g.is_interleave ≡ any_of is_interleave g.name.now front

-- the operator of one more definition is noted
pub record Notes (j : Joins) (old new : Group) : Type 0 where
  pub plain : new.is_plain ≡ (old.is_plain || is_plain j)
  pub choice : new.is_choice ≡ (old.is_choice || is_choice j)
  pub interleave : new.is_interleave ≡ (old.is_interleave || is_interleave j)
  pub name : new.name ≡ old.name
  pub bodies : new.bodies ≡ old.bodies

-- a group of one definition
pub record StartsGroup (d : Definition) (g : Group) : Type 0 where
  pub name : g.name.now ≡ d.name
  pub bodies : map pattern g.bodies.items ≡ d.body ∷ []
  pub plain : g.is_plain ≡ is_plain d.joins
  pub choice : g.is_choice ≡ is_choice d.joins
  pub interleave : g.is_interleave ≡ is_interleave d.joins
