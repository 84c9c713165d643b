-- The classes of symbols that the steps of a path can't tell apart.
use Rattle.std.specs.Prelude.{◌≡◌, ℕ, ◌^◌, List, [], ◌∷◌, length, map, get_or, slice_get, nat_eq, Option, None, Some}
use Rattle.std.specs.Borrow.{Bor}
use Rattle.std.specs.List.{All}
use Rattle.tc_model.specs.Views as see
use Rattle.tc_model.specs.Sheets.{Path}
use Rattle.tc_model.specs.Symbols.{Mention, symbol_count, fresh_name}
use Rattle.tc_model.specs.Numbered.{numbers_below}
use Rattle.tc_model.specs.PathStates.{State}
use Rattle.tc_model.specs.declared.sheet.Test.{Test}
use Rattle.tc_model.specs.declared.tree.Name.{Name}
use Rattle.tc_rules.specs.Once.{put_all}
use Rattle.tc_rules.specs.Steps.{path_fits, path_having}
use Rattle.tc_rules.specs.declared.rows.Sought.TheVariants.{Passes, Marked, Deep, Inner}
use Rattle.tc_rules.specs.declared.graph.Kinds.{Kinds}
use Rattle.tc_rules.specs.declared.graph.Letters.{Letters}
use Rattle.tc_rules.specs.declared.graph.Source.{Source}
use Rattle.tc_rules.specs.Rows.{words, all_words, fits, texts}
use Rattle.tc_rules.specs.Words.{bit, cut, ends_of, total, IsPadded, IsRow}

-- which steps have predicates in a set, set by set
abbrev pub marked_by : List (Bor Test) → Path → ℕ → List State
marked_by numbered p sets = map (λ m. path_having numbered p (Marked m)) (numbers_below sets)

-- the classes of symbols stand where their kinds are
abbrev pub AreAt : List State → List ℕ → List State → Type 0
AreAt kinds [] [] = Unit {0}
AreAt kinds [] (x ∷ xs) = ⊥
AreAt kinds (c ∷ cs) [] = ⊥
AreAt kinds (c ∷ cs) (x ∷ xs) = (slice_get kinds c ≡ Some x) × AreAt kinds cs xs

-- each symbol has a class, in the order in which classes are first met, and the kind of the class is which node tests pass the symbol
pub record AreKinds (numbered : List (Bor Test)) (p : Path) (names : List Name) (kinds : List State) (classes : List ℕ) : Type 0 where
  pub at : AreAt kinds classes (map (λ n. path_having numbered p (Passes (Some n))) names)
  pub order : put_all nat_eq [] classes ≡ numbers_below (length kinds)

module _ (numbered : List (Bor Test)) (p : Path) (sets : ℕ) where
  -- which steps of a path fit an element of a name, or a text, set by set
  abbrev pub fits_of : Option Name → List State
  fits_of n = map (λ m. path_fits numbered p (record { name = n; marks = m })) (numbers_below sets)

  -- each symbol has a class, in the order in which classes are first met, and the steps fit all symbols of a class alike
  pub record AreClasses (names : List Name) (classes : List ℕ) (fits : List (List State)) : Type 0 where
    pub fit : map (λ c. get_or fits c []) classes ≡ map (λ n. fits_of (Some n)) names
    pub order : put_all nat_eq [] classes ≡ numbers_below (length fits)

-- the same of rows, where alternatives end as those of a path do
abbrev pub path_states : Path → List (List ℕ) → List State
path_states p xs = map (λ ws. cut (bit ws) 0 (ends_of 0 p)) xs

pub record AreKindsOf (numbered : List (Bor Test)) (p : Path) (names : List Name) (k : Kinds) : Type 0 where
  pub kinds : AreKinds numbered p names (path_states p (all_words k.kinds.keys)) k.classes.items
  pub padded : All (IsPadded (total 0 p)) (all_words k.kinds.keys)

-- what the states of a path see of letters
pub record AreLettersOf (numbered : List (Bor Test)) (p : Path) (sets : ℕ) (names : List Name) (l : Letters) : Type 0 where
  pub ends : l.ends.items ≡ ends_of 0 p
  pub deep : IsRow p (path_having numbered p Deep) (words l.deep)
  pub inner : IsRow p (path_having numbered p Inner) (words l.inner)
  pub classes : AreClasses numbered p sets names l.classes.items (fits l)
  pub texts : texts l ≡ fits_of numbered p sets None

-- a name stands for each symbol, and there are as many sets of predicates as there may be
pub record IsSourceOf (symbols : List Mention) (s : Source) : Type 0 where
  pub names : map see.name s.names.items ≡ map (fresh_name symbols) (numbers_below (symbol_count symbols))
  pub sets : s.sets ≡ 2 ^ length s.predicates.items
