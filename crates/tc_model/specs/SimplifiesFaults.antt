-- Why a schema that is written well has no grammar, and where: the restrictions of the RELAX NG Specification (OASIS 2001), 4.16 to 4.19 and
-- 7.1, on elements and text. That 4.18 is tried on all definitions, 4.19 on those that are reached, and 7.1.5 on the schema as it is written,
-- before 4.20 and 4.21 take `notAllowed` and `empty` away, is this project's choice, and so are the places and the order of the faults; those
-- of attributes aren't looked at.
-- So `start = a, empty` is `bad-start`.
use Rattle.std.specs.Prelude.{◌≡◌, ◌≤◌, ℕ, Bool, true, false, ◌&&◌, List, [], ◌∷◌, ◌++◌, Option, None, Some, ◌⊎◌, IsFalse, bytes_eq, if◌then◌else◌}
use Rattle.std.specs.List.{list_any}
use Rattle.tc_model.specs.CompactSyntaxTrees.{SyntaxClass, of_name, of_namespace, any_name, one_of, SyntaxClasses, no_class, class, SyntaxPattern, not_allowed, ref, element, choice, Joins, plain, by_choice, by_interleave, Definition, Syntax}
use Rattle.tc_model.specs.SimplifiesParts.{definitions_of, pattern_of, nodes_of, Below, Reached}

-- two operators of one name clash: neither joins, or they join differently
abbrev pub clash : Joins → Joins → Bool
clash plain plain = true
clash by_choice by_interleave = true
clash by_interleave by_choice = true
clash _ _ = false

-- the place of the first definition that clashes with an earlier one of its name (RELAX NG, 4.17)
abbrev pub first_clash : List Definition → List Definition → Option ℕ
first_clash earlier [] = None
first_clash earlier (d ∷ ds) = if list_any (λ e. bytes_eq e.name d.name && clash e.joins d.joins) earlier then Some d.place else first_clash (d ∷ earlier) ds

abbrev pub twice_at : Syntax → Option ℕ
twice_at s = first_clash [] s.definitions

-- the first answer that some pattern gives
abbrev pub first_answer : (SyntaxPattern → Option ℕ) → List SyntaxPattern → Option ℕ → Option ℕ
first_answer f [] otherwise = otherwise
first_answer f (p ∷ ps) otherwise = elim (f p) [ Some place ↦ Some place | None ↦ first_answer f ps otherwise ]

-- the place, unless the name has a definition
abbrev pub unless_defined : Syntax → List ℕ → ℕ → Option ℕ
unless_defined s n place = elim (pattern_of s n) [ Some p ↦ None | None ↦ Some place ]

abbrev pub undefined_reference : Syntax → SyntaxPattern → Option ℕ
undefined_reference s (ref n place) = unless_defined s n place
undefined_reference s _ = None

-- the first reference without a definition; or else, where `start` has none, the text's end (RELAX NG, 4.18)
abbrev pub undefined_at : Syntax → Option ℕ
undefined_at s = first_answer (undefined_reference s) (nodes_of s) (unless_defined s [] s.end)

-- a reference that is reached, and reaches itself without passing an element (RELAX NG, 4.19)
pub record IsCircular (s : Syntax) (place : ℕ) : Type 0 where
  pub name : List ℕ
  pub reached : Reached s (ref name place)
  pub cycle : Below s (ref name place) (ref name place)

-- the first of these
abbrev pub IsLoop : Syntax → ℕ → Type 0
IsLoop s place = IsCircular s place × ((other : ℕ) → IsCircular s other → place ≤ other)

-- there is none
abbrev pub IsAcyclic : Syntax → Type 0
IsAcyclic s = (place : ℕ) → IsCircular s place → ⊥

abbrev mutual
  -- The wildcards that stand where they may not: `*` within an except of `*` or `p:*`, and `p:*` within an except of `p:*` (RELAX NG, 4.16).
  -- The two truth values say that `*`, and that `p:*`, may not stand here.
  pub misplaced : Bool → Bool → SyntaxClass → List ℕ
  misplaced any namespaces (of_name n) = []
  misplaced any namespaces (of_namespace place uri except) = (if namespaces then place ∷ [] else []) ++ misplaced_among true true except
  misplaced any namespaces (any_name place except) = (if any then place ∷ [] else []) ++ misplaced_among true namespaces except
  misplaced any namespaces (one_of classes) = misplaced_among any namespaces classes

  pub misplaced_among : Bool → Bool → SyntaxClasses → List ℕ
  misplaced_among any namespaces no_class = []
  misplaced_among any namespaces (class c classes) = misplaced any namespaces c ++ misplaced_among any namespaces classes

abbrev pub first_place : List ℕ → Option ℕ
first_place [] = None
first_place (place ∷ places) = Some place

abbrev pub misplaced_in : SyntaxPattern → Option ℕ
misplaced_in (element place c p) = first_place (misplaced false false c)
misplaced_in _ = None

-- the first of them in the name class of an element
abbrev pub bad_except_at : Syntax → Option ℕ
bad_except_at s = first_answer misplaced_in (nodes_of s) None

-- what may stand below `start`, down to elements
abbrev pub may_start : SyntaxPattern → Bool
may_start not_allowed = true
may_start (ref n place) = true
may_start (element place c p) = true
may_start (choice ps) = true
may_start _ = false

abbrev pub first_definition : List Definition → Option ℕ
first_definition [] = None
first_definition (d ∷ ds) = Some d.place

-- something else stands there (RELAX NG, 7.1.5); the place is that of the first definition of `start`
pub record IsBadStart (s : Syntax) (place : ℕ) : Type 0 where
  pub start : SyntaxPattern
  pub other : SyntaxPattern
  pub is_start : pattern_of s [] ≡ Some start
  pub below : (other ≡ start) ⊎ Below s start other
  pub bad : IsFalse (may_start other)
  pub first : first_definition (definitions_of s.definitions []) ≡ Some place

-- a fault and its place
pub data Fault : Type 0 where
  twice : ℕ → Fault
  undefined : ℕ → Fault
  loop : ℕ → Fault
  bad_except : ℕ → Fault
  bad_start : ℕ → Fault

-- The fault of a schema: the first of these that it has, in this order.
abbrev pub Fails : Syntax → Fault → Type 0
Fails s (twice place) = twice_at s ≡ Some place
Fails s (undefined place) = (twice_at s ≡ None) × (undefined_at s ≡ Some place)
Fails s (loop place) = (twice_at s ≡ None) × (undefined_at s ≡ None) × IsLoop s place
Fails s (bad_except place) = (twice_at s ≡ None) × (undefined_at s ≡ None) × IsAcyclic s × (bad_except_at s ≡ Some place)
Fails s (bad_start place) = (twice_at s ≡ None) × (undefined_at s ≡ None) × IsAcyclic s × (bad_except_at s ≡ None) × IsBadStart s place

-- none of these
pub record IsFaultless (s : Syntax) : Type 0 where
  pub once : twice_at s ≡ None
  pub defined : undefined_at s ≡ None
  pub acyclic : IsAcyclic s
  pub excepts : bad_except_at s ≡ None
  pub start : (place : ℕ) → IsBadStart s place → ⊥
