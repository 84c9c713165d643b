-- Which numbers may stand in the lines of a certificate, by the sizes of two schemas and a stylesheet, and which line is the first
-- that doesn't fit.
use Rattle.std.specs.Prelude.{◌≡◌, ◌<◌, ◌≤◌, ◌+◌, ◌⊎◌, ℕ, List, length, slice_get, Some, All}
use Rattle.tc_model.specs.declared.lists.TreeLine.{TreeLine}
use Rattle.tc_model.specs.declared.lists.HedgeLine.{HedgeLine}
use Rattle.tc_model.specs.declared.lists.CertData.{CertData}

-- the states of the output, the element patterns and the states of the input, and the outputs and the looks of a row
pub record Sizes : Type 0 where
  pub output_states : ℕ
  pub patterns : ℕ
  pub input_states : ℕ
  pub outs : ℕ
  pub looks : ℕ

-- each number is one of so many from the first
abbrev pub AreFrom : ℕ → ℕ → List ℕ → Type 0
AreFrom first count numbers = All (λ k. (first ≤ k) × (k < first + count)) numbers

-- the pairs are of so many states
abbrev pub PairsFit : ℕ → List (ℕ × ℕ) → Type 0
PairsFit states pairs = All (λ p. (p.0 < states) × (p.1 < states)) pairs

-- the lists of a row: members from the first, so many outputs, each one of those that are listed, and so many looks
pub record RowFits (first members outs looks listed : ℕ) (row_members row_outs row_looks : List ℕ) : Type 0 where
  pub members_fit : AreFrom first members row_members
  pub out_count : length row_outs ≡ outs
  pub outs_fit : AreFrom 0 listed row_outs
  pub look_count : length row_looks ≡ looks

module _ (s : Sizes) (c : CertData) where
  abbrev pub OutputFits : List (ℕ × ℕ) → Type 0
  OutputFits = PairsFit s.output_states

  -- element patterns are counted from 1
  abbrev pub TreeFits : TreeLine → Type 0
  TreeFits l = RowFits 1 s.patterns s.outs s.looks (length c.outputs) l.patterns l.outs l.looks

  -- input states are counted from 0
  abbrev pub HedgeFits : HedgeLine → Type 0
  HedgeFits l = RowFits 0 s.input_states s.outs s.looks (length c.outputs) l.states l.outs l.looks

  pub record AllFit : Type 0 where
    pub outputs : All OutputFits c.outputs
    pub trees : All TreeFits c.trees
    pub hedges : All HedgeFits c.hedges

-- The numbers of the lines of a certificate's text, from 1, in both of its versions: the heading is line 1, the number of outputs
-- line 2, and the first output line 3; behind the outputs comes the number of trees, and then the trees; behind them the number of
-- lists of trees, and then these
abbrev pub line_of_output : ℕ → ℕ
line_of_output k = 3 + k

abbrev pub line_of_tree : CertData → ℕ → ℕ
line_of_tree c k = 4 + length c.outputs + k

abbrev pub line_of_hedge : CertData → ℕ → ℕ
line_of_hedge c k = 5 + length c.outputs + length c.trees + k

module _ (s : Sizes) (c : CertData) where
  -- a line whose numbers don't fit
  abbrev pub IsUnfit : ℕ → Type 0
  IsUnfit line =
      ((k : ℕ) × (pairs : List (ℕ × ℕ)) × (line ≡ line_of_output k) × (slice_get c.outputs k ≡ Some pairs) × ¬ OutputFits s c pairs)
      ⊎ (((k : ℕ) × (l : TreeLine) × (line ≡ line_of_tree c k) × (slice_get c.trees k ≡ Some l) × ¬ TreeFits s c l)
      ⊎ ((k : ℕ) × (l : HedgeLine) × (line ≡ line_of_hedge c k) × (slice_get c.hedges k ≡ Some l) × ¬ HedgeFits s c l))

  pub record IsFirstUnfit (line : ℕ) : Type 0 where
    pub unfit : IsUnfit line
    pub least : (l : ℕ) → IsUnfit l → line ≤ l
