-- Rows that are held as lines of a certificate, with the numbers of their outputs as they are held, and by the ranks of these.
use Rattle.std.specs.Prelude.{◌≡◌, ◌==◌, ℕ, List, [], length, map, get_or}
use Rattle.tc_model.specs.Numbered.{numbers_below}
use Rattle.tc_model.specs.States.{input, state_count}
use Rattle.tc_model.specs.CertificateLines.{pairs_line, tree_line, hedge_line}
use Rattle.tc_model.specs.declared.lists.CertData.{CertData}
use Rattle.tc_model.specs.declared.lists.HedgeLine.{HedgeLine}
use Rattle.tc_model.specs.declared.lists.TreeLine.{TreeLine}
use Rattle.tc_rows.specs.Triples.{Triple, entries}
use Rattle.tc_beh.specs.Held.{set_at}
use Rattle.tc_beh.specs.Places.{pairs_of}
use Rattle.tc_beh.specs.Rooms.{flagged, flags_in, outputs_in, looks_in}
use Rattle.tc_close.specs.Orders.{IsOrder, AreRanks, ranked}
use Rattle.tc_close.specs.RowState.{RowState}

module _ (x : Triple) (s : RowState) where
  -- the line of the row of this number, its outputs as they are held
  abbrev pub tree_held : ℕ → TreeLine
  tree_held p = record {
    text = get_or (get_or s.trees p []) 0 0 == 1;
    bears = get_or (get_or s.trees p []) 1 0 == 1;
    patterns = flagged 1 (flags_in (length x.input.elements) (get_or s.trees p []));
    outs = outputs_in (length x.input.elements) (entries x) (get_or s.trees p []);
    looks = looks_in (length x.input.elements) (entries x) (get_or s.trees p []);
  }

  abbrev pub hedge_held : ℕ → HedgeLine
  hedge_held p = record {
    ends = get_or (get_or s.hedges p []) 0 0 == 1;
    bears = get_or (get_or s.hedges p []) 1 0 == 1;
    states = flagged 0 (flags_in (state_count x.input input) (get_or s.hedges p []));
    outs = outputs_in (state_count x.input input) (entries x) (get_or s.hedges p []);
    looks = looks_in (state_count x.input input) (entries x) (get_or s.hedges p []);
  }

  -- its outputs by their ranks
  abbrev pub tree_ranked : List ℕ → ℕ → TreeLine
  tree_ranked ranks p = record (tree_held p) { outs = ranked ranks (tree_held p).outs }

  abbrev pub hedge_ranked : List ℕ → ℕ → HedgeLine
  hedge_ranked ranks p = record (hedge_held p) { outs = ranked ranks (hedge_held p).outs }

  -- all of them, by their numbers
  abbrev pub tree_lines : List ℕ → List (List ℕ)
  tree_lines ranks = map (λ p. tree_line (tree_ranked ranks p)) (numbers_below (length s.trees))

  abbrev pub hedge_lines : List ℕ → List (List ℕ)
  hedge_lines ranks = map (λ p. hedge_line (hedge_ranked ranks p)) (numbers_below (length s.hedges))

-- the lines of all sets of pairs, by their numbers
abbrev pub output_lines : RowState → List (List ℕ)
output_lines s = map (λ n. pairs_line (pairs_of (set_at s.outputs n))) (numbers_below (length s.outputs.matrices))

-- the sets of pairs of these numbers
abbrev pub sets_at : RowState → List ℕ → List (List (ℕ × ℕ))
sets_at s numbers = map (λ n. pairs_of (set_at s.outputs n)) numbers

-- the rows by their ranks, in the order of their lines
pub record AreTreesInOrder (x : Triple) (s : RowState) (ranks : List ℕ) (trees : List TreeLine) : Type 0 where
  pub numbers : List ℕ
  pub order : IsOrder (tree_lines x s ranks) numbers
  pub all : trees ≡ map (tree_ranked x s ranks) numbers

pub record AreHedgesInOrder (x : Triple) (s : RowState) (ranks : List ℕ) (hedges : List HedgeLine) : Type 0 where
  pub numbers : List ℕ
  pub order : IsOrder (hedge_lines x s ranks) numbers
  pub all : hedges ≡ map (hedge_ranked x s ranks) numbers

-- the outputs are the sets of these numbers, and the rows go by their ranks
pub record IsDataBy (x : Triple) (s : RowState) (numbers : List ℕ) (d : CertData) : Type 0 where
  pub ranks : List ℕ
  pub are : AreRanks numbers ranks
  pub outputs : d.outputs ≡ sets_at s numbers
  pub trees : AreTreesInOrder x s ranks d.trees
  pub hedges : AreHedgesInOrder x s ranks d.hedges
