-- The entries of a node, as they come to be held one after the other.
use Rattle.std.specs.Prelude.{◌≡◌, ◌<◌, ◌≤◌, ◌+◌, ◌-◌, ◌*◌, ℕ, List, [], length, get_or, All, true, Option, IfSome}
use Rattle.tc_mat.specs.Matrix.{Matrix, IsMatrix, IsIdentity}
use Rattle.tc_mat.specs.Held.{Held, IsHeld, AreMatrices}
use Rattle.tc_model.specs.Letters as letters
use Rattle.tc_model.specs.Letters.{of_symbol, of_text, IsLetter}
use Rattle.tc_rules.specs.States.{Going, Looking}
use Rattle.tc_rules.specs.Tasks.{IsMoveAt, IsLookAt}
use Rattle.tc_rows.specs.Triples.{Triple, predicates, outputs, entries, moves, looks as looks_of, ancestors, number_below}
use Rattle.tc_rows.specs.PairSets.{HaveSamePairs}
use Rattle.tc_rows.specs.Bodies.{Below}
use Rattle.tc_beh.specs.Above.{letter_of, node_of, pairs_at}
use Rattle.tc_beh.specs.Held.{Extends, Grows, set_at}
use Rattle.tc_beh.specs.Leads.{AreLeads}
use Rattle.tc_beh.specs.LooksAbove.{found_above}
use Rattle.tc_beh.specs.Machines.{IsMachineOf}
use Rattle.tc_beh.specs.Rooms.{output_at}
use Rattle.tc_beh.specs.Places.{kind_of, below_at, entries_by}
use Rattle.tc_beh.specs.Putting.{has, IsCalled}
use Rattle.tc_beh.specs.RowsOf.{IsWork}
use Rattle.tc_beh.specs.Grounds.{called_from}
use Rattle.tc_beh.specs.declared.bodies.Place.{Place}
use Rattle.tc_beh.specs.declared.entries.Node.{Node}
use Rattle.tc_beh.specs.declared.machine.Machine.{Machine}
use Rattle.tc_beh.specs.declared.rows.Work.{Work}
use Rattle.tc_beh.specs.declared.runs.Run.{Run}

-- a node of the triple, whose entries below are numbers of held sets
pub record IsNode (x : Triple) (held : Held) (n : Node) : Type 0 where
  pub letter : IsLetter x.symbols (predicates x) (letter_of n.letter)
  pub outs : All (λ k. k < length held.matrices) n.entries.now
  pub nothing : (letter_of n.letter).kind ≡ of_text → n.looks.now ≡ []
  pub bears : (letter_of n.letter).kind ≡ of_text → n.bears ≡ true
  pub count : ((letter_of n.letter).kind ≡ of_text → ⊥) → length n.entries.now ≡ entries x

-- all that its entries are worked out of
pub record AreGrounds (x : Triple) (m : Machine) (held : Held) (w : Work) (n : Node) : Type 0 where
  pub machine : IsMachineOf x m
  pub size : held.size ≡ outputs x
  pub work : IsWork x m held w
  pub node : IsNode x held n
  pub leads : AreLeads m.rules n.letter n.leads.now

abbrev pub AreSomeGrounds : Machine → Held → Work → Node → Type 0
AreSomeGrounds m held w n = (x : Triple) × AreGrounds x m held w n

-- what stands below it, for an ancestor state
abbrev pub below_node : Triple → Held → Node → ℕ → Below
below_node x held n under = below_at x (node_of (letter_of n.letter).kind) n.bears (entries_by held.matrices n.entries.now) n.looks.now under

-- the sets of all named bodies are right there
abbrev pub AreCalledOn : Triple → Held → Node → ℕ → List Matrix → Type 0
AreCalledOn x held n under sets = (k : ℕ) → IsCalled x (node_of (letter_of n.letter).kind) (below_node x held n under) (called_from sets) k

-- the ancestor state for what stands below a node of a letter: an element steps that above it
pub record IsUnder (x : Triple) (l : letters.Letter) (q under : ℕ) : Type 0 where
  pub low : under < ancestors x
  pub below : (a : ℕ) → l.kind ≡ of_symbol a → under ≡ number_below x q l

-- a place is that of the node, for an ancestor state below it
pub record IsMadeOf (m : Machine) (h : Held) (t : Matrix) (ms : List Matrix) (rs : List (Option Run)) (n : Node) (under : ℕ) (p : Place) : Type 0 where
  pub rules : p.rules.now ≡ m.rules
  pub output : p.output.now ≡ m.output
  pub alphabet : p.alphabet.now ≡ m.alphabet
  pub outputs : p.outputs.now ≡ h
  pub text : p.text.now ≡ t
  pub named : p.named.now ≡ ms
  pub runs : p.runs.now ≡ rs
  pub node : kind_of p.node ≡ node_of (letter_of n.letter).kind
  pub bears : p.bears ≡ n.bears
  pub entries : p.entries.now ≡ n.entries.now
  pub looks : p.looks.now ≡ n.looks.now
  pub above : p.above ≡ under
  pub sets : AreMatrices h

-- the set of each state with itself isn't held
abbrev pub IsNewNothing : Held → Type 0
IsNewNothing h = (m : Matrix) × IsIdentity m × (m.size ≡ h.size) × IsMatrix m × ¬ IsHeld h m

module _ (x : Triple) (es : List (List (ℕ × ℕ))) (n : Node) where
  -- a set of pairs is that of a place among the entries of the node
  abbrev pub IsEntryAt : ℕ → Matrix → Type 0
  IsEntryAt i m = (q k : ℕ) (g : Going) (at : IsMoveAt x.rules k g) → q < ancestors x → i ≡ q * moves x + k
      → HaveSamePairs (has m) (pairs_at x n.bears es n.looks.now q (number_below x q (letter_of n.letter)) at.mode g n.letter.marks.0 (letter_of n.letter).kind)

  -- a set of pairs of that place isn't held
  abbrev pub IsNewEntry : Held → ℕ → Type 0
  IsNewEntry h i = (m : Matrix) × IsEntryAt i m × (m.size ≡ h.size) × IsMatrix m × ¬ IsHeld h m

  -- if there is an ancestor state before: it leads to the same, and what stands at its place is its entry
  abbrev pub IsBefore : Held → ℕ → ℕ → (ℕ → ℕ) → Option ℕ → Type 0
  IsBefore h under s numbers o = IfSome o (λ q. IsUnder x (letter_of n.letter) q under × (q < ancestors x) × IsEntryAt (q * moves x + s) (set_at h (numbers (q * moves x + s))))

  -- what is held has come to hold so many of the entries, and no other sets
  pub record Comes (old new : Held) (numbers : ℕ → ℕ) (count : ℕ) : Type 0 where
    pub grows : Grows old new numbers count
    pub right : (i : ℕ) → i < count → IsEntryAt i (set_at new (numbers i))

  -- one of the entries isn't held, and what came on are others
  pub record ComesPartly (old new : Held) : Type 0 where
    pub held : Extends old new
    pub found : (k : ℕ) → length old.matrices ≤ k → k < length new.matrices → (i : ℕ) × (i < entries x) × IsEntryAt i (set_at new k)
    pub left : (i : ℕ) × (i < entries x) × IsNewEntry new i

-- the numbers of a room have come to hold the looks and the entries of a node
pub record IsNodeRow (x : Triple) (old new : Held) (n : Node) (numbers : List ℕ) : Type 0 where
  pub comes : Comes x (entries_by old.matrices n.entries.now) n old new (output_at (length x.input.elements) numbers) (entries x)
  pub looks : (k : ℕ) (s : Looking) → IsLookAt x.rules k s → get_or numbers (2 + length x.input.elements + entries x + (k - moves x)) 0 ≡ found_above x n.bears n.looks.now (letter_of n.letter) s
  pub few : (i : ℕ) → i < looks_of x → get_or numbers (2 + length x.input.elements + entries x + i) 0 ≤ 2
