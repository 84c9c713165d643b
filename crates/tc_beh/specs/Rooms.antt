-- What a room's numbers stand for: two flags of the whole, a flag for each state or element pattern, the numbers of the outputs, the looks.
use Rattle.std.specs.Prelude.{◌≡◌, ◌<◌, ◌≤◌, ◌==◌, ◌+◌, ℕ, suc, List, [], ◌∷◌, length, take, drop, get_or, if◌then◌else◌}
use Rattle.tc_model.specs.States.{input, state_count}
use Rattle.tc_mat.specs.Matrix.{Matrix}
use Rattle.tc_rows.specs.Triples.{Triple, entries, looks}
use Rattle.tc_rows.specs.Rows.{HedgeRow, TreeRow}
use Rattle.tc_beh.specs.Places.{entries_by}

-- how many flags, entries and looks there are
pub record Layout : Type 0 where
  pub flags : ℕ
  pub entries : ℕ
  pub looks : ℕ

abbrev pub hedge_layout : Triple → Layout
hedge_layout x = record { flags = state_count x.input input; entries = entries x; looks = looks x }

abbrev pub tree_layout : Triple → Layout
tree_layout x = record { flags = length x.input.elements; entries = entries x; looks = looks x }

-- how many numbers a room has
abbrev pub count_of : Layout → ℕ
count_of s = 2 + s.flags + s.entries + s.looks

-- a flag, the number of an output, and the value of a look, each at its place
abbrev pub flag_at : List ℕ → ℕ → ℕ
flag_at ns i = get_or ns (2 + i) 0

abbrev pub output_at : ℕ → List ℕ → ℕ → ℕ
output_at flags ns i = get_or ns (2 + flags + i) 0

abbrev pub flags_in : ℕ → List ℕ → List ℕ
flags_in flags ns = take flags (drop 2 ns)

abbrev pub outputs_in : ℕ → ℕ → List ℕ → List ℕ
outputs_in flags count ns = take count (drop (2 + flags) ns)

abbrev pub looks_in : ℕ → ℕ → List ℕ → List ℕ
looks_in flags count ns = drop (2 + flags + count) ns

-- the places of the ones, counted from a number
abbrev pub flagged : ℕ → List ℕ → List ℕ
flagged first [] = []
flagged first (v ∷ vs) = if v == 1 then (first ∷ flagged (suc first) vs) else flagged (suc first) vs

-- the numbers are those of a row, whose sets of pairs are held
pub record IsRoom (s : Layout) (held : List Matrix) (ns : List ℕ) : Type 0 where
  pub count : length ns ≡ count_of s
  pub head : get_or ns 0 0 ≤ 1
  pub bears : get_or ns 1 0 ≤ 1
  pub flags : (i : ℕ) → i < s.flags → flag_at ns i ≤ 1
  pub outs : (i : ℕ) → i < s.entries → output_at s.flags ns i < length held
  pub looks : (i : ℕ) → i < s.looks → get_or ns (2 + s.flags + s.entries + i) 0 ≤ 2

abbrev pub hedge_row : Triple → List Matrix → List ℕ → HedgeRow
hedge_row x held ns = record {
  ends = get_or ns 0 0 == 1;
  bears = get_or ns 1 0 == 1;
  states = flagged 0 (flags_in (state_count x.input input) ns);
  entries = entries_by held (outputs_in (state_count x.input input) (entries x) ns);
  looks = looks_in (state_count x.input input) (entries x) ns;
}

abbrev pub tree_row : Triple → List Matrix → List ℕ → TreeRow
tree_row x held ns = record {
  is_text = get_or ns 0 0 == 1;
  bears = get_or ns 1 0 == 1;
  patterns = flagged 1 (flags_in (length x.input.elements) ns);
  entries = entries_by held (outputs_in (length x.input.elements) (entries x) ns);
  looks = looks_in (length x.input.elements) (entries x) ns;
}
