-- The first rule that is broken by rows that are listed, by places.
use Rattle.std.specs.Prelude.{◌<◌, ℕ, length}
use Rattle.tc_model.specs.Symbols.{symbol_count}
use Rattle.tc_verify.specs.Listings.{Listing, EmptyHolds, EmptyBreaks, TextHolds, TextBreaks, AppendHolds, AppendBreaks, WrapHolds, WrapBreaks, RootHolds, RootBreaks}
use Rattle.tc_verify.specs.declared.first.Broken.{Broken}
use Rattle.tc_verify.specs.declared.first.Broken.TheVariants as broken

-- of so many numbers the first that breaks a rule
pub record IsFirstAt (Holds Breaks : ℕ → Type 0) (count k : ℕ) : Type 0 where
  pub low : k < count
  pub before : (i : ℕ) → i < k → Holds i
  pub breaks : Breaks k

-- of pairs of numbers the first, by the one and then by the other
pub record IsFirstPair (AllHold : ℕ → Type 0) (Holds Breaks : ℕ → ℕ → Type 0) (rows columns i j : ℕ) : Type 0 where
  pub low : i < rows
  pub earlier : (k : ℕ) → k < i → AllHold k
  pub here : IsFirstAt (Holds i) (Breaks i) columns j

module _ (l : Listing) where
  abbrev pub symbols : ℕ
  symbols = symbol_count l.machine.alphabet

  abbrev pub AppendsHold : ℕ → Type 0
  AppendsHold i = (j : ℕ) → j < length l.trees → AppendHolds l i j

  abbrev pub WrapsHold : ℕ → Type 0
  WrapsHold i = (a : ℕ) → a < symbols → WrapHolds l i a

  pub record ListsHold : Type 0 where
    pub empty : EmptyHolds l
    pub text : TextHolds l

  pub record RowsHold : Type 0 where
    pub lists : ListsHold
    pub appends : (i : ℕ) → i < length l.hedges → AppendsHold i

  pub record WrapsToo : Type 0 where
    pub rows : RowsHold
    pub wraps : (i : ℕ) → i < length l.hedges → WrapsHold i

  pub record AllHold : Type 0 where
    pub rows : WrapsToo
    pub roots : (j : ℕ) → j < length l.trees → RootHolds l j

  -- all before the first hold
  abbrev pub IsFirstOf : Broken → Type 0
  IsFirstOf broken.Empty = EmptyBreaks l
  IsFirstOf broken.Text = EmptyHolds l × TextBreaks l
  IsFirstOf (broken.Append i j) = ListsHold × IsFirstPair AppendsHold (AppendHolds l) (AppendBreaks l) (length l.hedges) (length l.trees) i j
  IsFirstOf (broken.Wrap i a) = RowsHold × IsFirstPair WrapsHold (WrapHolds l) (WrapBreaks l) (length l.hedges) symbols i a
  IsFirstOf (broken.Root j) = WrapsToo × IsFirstAt (RootHolds l) (RootBreaks l) (length l.trees) j
