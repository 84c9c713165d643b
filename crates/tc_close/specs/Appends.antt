-- Appends that are told from others.
use Rattle.std.specs.Prelude.{◌≡◌, ◌<◌, ◌+◌, ℕ, List, [], length, get_or, drop}
use Rattle.tc_mat.specs.Held as mat
use Rattle.tc_rows.specs.Triples.{Triple}
use Rattle.tc_rows.specs.Arithmetic.{IsAppend, IsLiveAppend}
use Rattle.tc_beh.specs.Machines.{IsShapeOf}
use Rattle.tc_beh.specs.Rooms.{hedge_row, tree_row, output_at}
use Rattle.tc_close.specs.Kinds.{AreAlike}
use Rattle.tc_close.specs.NumberTables.{HasNumber}
use Rattle.tc_close.specs.declared.appends.Appends.{Appends}
use Rattle.tc_close.specs.declared.appends.Classes.{Classes}

pub record AgreeButEntries (flags entries : ℕ) (a b : List ℕ) : Type 0 where
  pub alike : AreAlike flags a b
  pub bears : get_or a 1 0 ≡ get_or b 1 0
  pub looks : drop (2 + flags + entries) a ≡ drop (2 + flags + entries) b

-- the first place of the class of a place
abbrev pub first_of : Classes → ℕ → ℕ
first_of c j = get_or c.firsts.items (get_or c.of.items j 0) 0

pub record IsEvenAt (entries : ℕ) (c : Classes) (flags : ℕ) (row : List ℕ) (j : ℕ) : Type 0 where
  pub class : get_or c.of.items j 0 < length c.firsts.items
  pub low : first_of c j < entries
  pub same : output_at flags row (first_of c j) ≡ output_at flags row j

abbrev pub IsEven : ℕ → Classes → ℕ → List ℕ → Type 0
IsEven entries c flags row = (j : ℕ) → j < entries → IsEvenAt entries c flags row j

-- so many first rows are even
abbrev pub AreEven : ℕ → Classes → ℕ → List (List ℕ) → ℕ → Type 0
AreEven entries c flags rows count = (u : ℕ) → u < count → (u < length rows) × IsEven entries c flags (get_or rows u [])

-- a list of trees, a tree and what they make are remembered
abbrev pub IsMade : Appends → ℕ → ℕ → ℕ → Type 0
IsMade a h t u = HasNumber a.made.places.items h t u

pub record AreKept (hedges trees : List (List ℕ)) (a : Appends) : Type 0 where
  pub even_hedges : AreEven a.shape.entries a.classes a.shape.inputs hedges a.hedges
  pub even_trees : AreEven a.shape.entries a.classes a.shape.patterns trees a.trees
  pub made : (h t u : ℕ) → IsMade a h t u → (h < length hedges) × (t < length trees) × (u < length hedges)

-- rows that are remembered have these numbers at a place of their entries
pub record IsProduct (a : Appends) (hedges trees : List (List ℕ)) (place first second both : ℕ) : Type 0 where
  pub h : ℕ
  pub t : ℕ
  pub u : ℕ
  pub is : IsMade a h t u
  pub of_first : output_at a.shape.inputs (get_or hedges h []) place ≡ first
  pub of_second : output_at a.shape.patterns (get_or trees t []) place ≡ second
  pub of_both : output_at a.shape.inputs (get_or hedges u []) place ≡ both

-- at the first place of each class
abbrev pub AreProducts : Appends → List (List ℕ) → List (List ℕ) → List ℕ → List ℕ → List ℕ → Type 0
AreProducts a hedges trees first second both =
    (k : ℕ) → k < length a.classes.firsts.items
    → (p : ℕ) → p ≡ get_or a.classes.firsts.items k 0 → IsProduct a hedges trees p (output_at a.shape.inputs first p) (output_at a.shape.patterns second p) (output_at a.shape.inputs both p)

-- the third row is what others tell that the two make
pub record IsTold (a : Appends) (hedges trees : List (List ℕ)) (h t u : ℕ) : Type 0 where
  pub low_hedge : h < a.hedges
  pub low_tree : t < a.trees
  pub low_made : u < a.hedges
  pub other : ℕ
  pub another : ℕ
  pub is : IsMade a other another u
  pub hedge : AgreeButEntries a.shape.inputs a.shape.entries (get_or hedges other []) (get_or hedges h [])
  pub tree : AgreeButEntries a.shape.patterns a.shape.entries (get_or trees another []) (get_or trees t [])
  pub products : AreProducts a hedges trees (get_or hedges h []) (get_or trees t []) (get_or hedges u [])

-- over each of these triples what is remembered is so
pub record AreTold (IsOf : Triple → Type 0) (o : mat.Held) (hedges trees : List (List ℕ)) (a : Appends) : Type 0 where
  pub kept : AreKept hedges trees a
  pub shape : (x : Triple) → IsOf x → IsShapeOf x a.shape
  pub made : (h t u : ℕ) → IsMade a h t u → (x : Triple) → IsOf x
      → IsLiveAppend x (hedge_row x o.matrices (get_or hedges h [])) (tree_row x o.matrices (get_or trees t []))
      × IsAppend x (hedge_row x o.matrices (get_or hedges h [])) (tree_row x o.matrices (get_or trees t [])) (hedge_row x o.matrices (get_or hedges u []))
