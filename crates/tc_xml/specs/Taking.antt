-- What is handed on of the trees of a text, in normal form.
use Rattle.std.specs.Prelude.{◌≡◌, ◌≤◌, ℕ, suc, false, List, [], ◌∷◌, ◌++◌, map, length, take, drop, reverse}
use Rattle.tc_model.specs.Events.{Event, end, Takes, events}
use Rattle.tc_model.specs.Names.{ExpandedName}
use Rattle.tc_model.specs.RawTrees.{RawTrees, Attribute, Bound}
use Rattle.tc_model.specs.Stripped.{bare}
use Rattle.tc_model.specs.Trees.{joined_to, joined, dropped}
use Rattle.tc_model.specs.Views.{bound}
use Rattle.tc_model.specs.declared.tree.Binding.{Binding}
use Rattle.tc_model.specs.XmlTextBytes.{place_of}
use Rattle.tc_model.specs.XmlTextNames.{QualifiedName}
use Rattle.tc_model.specs.XmlTextContent.{Piece, whole, piece_before, TagAt, ContentAt, ElementAt}
use Rattle.tc_model.specs.XmlTextScopes.{first_scope}
use Rattle.tc_scan.specs.Views.{written_name}
use Rattle.tc_xml.specs.Bindings.{Tells, now_bound, hidden}
use Rattle.tc_xml.specs.Spelled.{AreRight}
use Rattle.tc_xml.specs.declared.levels.Open.{Open}
use Rattle.tc_xml.specs.declared.levels.Levels.{Levels}

-- what is to be handed on of a run before trees
abbrev pub waiting : List ℕ → RawTrees → List Event
waiting run h = events (dropped (joined_to run (joined (bare h))))

-- From a state and a run to others over a piece: what was to be handed on, whatever follows the piece, is what was handed on and what is still to be.
pub record Took {S : Type 0} (one : S → Event → S → Type 0) (old : S) (run : List ℕ) (piece : Piece) (new : S) (left : List ℕ) : Type 0 where
  pub handed : List Event
  pub takes : Takes one old handed new
  pub tells : (h : RawTrees) → waiting run (piece_before piece h) ≡ handed ++ waiting left h

-- an element that has started: its name as it is written, and what is in scope and how deep elements may stand around it
pub record Started : Type 0 where
  pub written : QualifiedName
  pub outer : List Bound
  pub depth : ℕ

-- an element more has started, whose tag has this name, where so many declarations were in scope
pub record IsWithin (old : Levels) (written : QualifiedName) (count : ℕ) (new : Levels) : Type 0 where
  pub last : Open
  pub opens : new.open.items ≡ old.open.items ++ last ∷ []
  pub named : written_name last.written ≡ written
  pub counts : last.count ≡ count
  pub deep : last.depth ≡ old.depth
  pub deeper : old.depth ≡ suc new.depth
  pub bindings : new.bindings ≡ old.bindings
  pub spelled : new.spelled ≡ old.spelled

-- what is kept of an element that has started is true of the element, where declarations hid these and this is bound
pub record IsOpen (hid : List Binding) (bounds : List Bound) (o : Open) (e : Started) : Type 0 where
  pub within : o.count ≤ length hid
  pub named : written_name o.written ≡ e.written
  pub deep : o.depth ≡ e.depth
  pub tells : Tells (map bound (drop o.count hid) ++ bounds) e.outer

-- the same of all elements that have started, the innermost one first: once its declarations are taken back, of those around it
abbrev pub AreOpen : List Binding → List Bound → List Open → List Started → Type 0
AreOpen hid bounds [] [] = Unit {0}
AreOpen hid bounds [] (e ∷ es) = ⊥
AreOpen hid bounds (o ∷ opens) [] = ⊥
AreOpen hid bounds (o ∷ opens) (e ∷ es) = IsOpen hid bounds o e × AreOpen (take o.count hid) (map bound (drop o.count hid) ++ bounds) opens es

-- these elements have started, and this is in scope
pub record Shows (levels : Levels) (es : List Started) (scope : List Bound) : Type 0 where
  pub opens : AreOpen (hidden levels.bindings) (now_bound levels.bindings) (reverse levels.open.items) es
  pub tells : Tells (now_bound levels.bindings) scope
  pub right : AreRight (now_bound levels.bindings) levels.spelled

-- The content of an element that has started, from its tag to what is left of it. Over the whole element, with any further content, what was to be
-- handed on is what was handed on, the run with that content, the end, and what follows.
pub record Inside {S : Type 0} (one : S → Event → S → Type 0) (total : ℕ) (before : List ℕ) (mid : S) (waits : List ℕ)
    (e : Started) (scope : List Bound) (depth : ℕ) (rest : List ℕ) (new : S) (run : List ℕ) : Type 0 where
  pub name : ExpandedName
  pub expanded : List Attribute
  pub inside : List ℕ
  pub deeper : e.depth ≡ suc depth
  pub tag : TagAt false total e.outer before e.written scope name expanded (0x3E ∷ inside)
  pub grows : RawTrees → RawTrees
  pub forth : (h : RawTrees) (after : List ℕ) → ContentAt false total scope depth rest h after → ContentAt false total scope depth inside (grows h) after
  pub handed : List Event
  pub takes : Takes one mid handed new
  pub tells : (k h : RawTrees) → waiting waits (piece_before (whole name expanded scope (place_of total before) (grows k)) h) ≡ handed ++ (waiting run k ++ end ∷ waiting [] h)

-- where reading stands: before the root element, or within elements that have started
pub data Standing {S : Type 0} (one : S → Event → S → Type 0) (total deepest : ℕ) (root : List ℕ) (old : S)
    : List Started → List Bound → ℕ → List ℕ → S → List ℕ → Type 0 where
  before_root : Standing one total deepest root old [] first_scope deepest root old []
  within : {es : List Started} {e : Started} {scope : List Bound} {depth : ℕ} {before rest waits run : List ℕ} {mid new : S}
      → Standing one total deepest root old es e.outer e.depth before mid waits → Inside one total before mid waits e scope depth rest new run
      → Standing one total deepest root old (e ∷ es) scope depth rest new run

-- the root element was taken whole
pub record Finished {S : Type 0} (one : S → Event → S → Type 0) (total deepest : ℕ) (root : List ℕ) (old : S) (rest : List ℕ) (new : S) : Type 0 where
  pub piece : Piece
  pub reads : ElementAt false total first_scope deepest root piece rest
  pub took : Took one old [] piece new []

-- where reading stands when a tag was read
abbrev pub After : {S : Type 0} → (S → Event → S → Type 0) → ℕ → ℕ → List ℕ → S → List Started → List Bound → ℕ → List ℕ → S → List ℕ → Type 0
After one total deepest root old [] scope depth rest new run = Finished one total deepest root old rest new
After one total deepest root old (e ∷ es) scope depth rest new run = Standing one total deepest root old (e ∷ es) scope depth rest new run

-- the same with what is kept of elements that have started: where reading stands, and where it stands when a tag was read
pub record StandsAt {S : Type 0} (one : S → Event → S → Type 0) (total deepest : ℕ) (root : List ℕ) (old : S) (levels : Levels) (rest : List ℕ) (new : S) (run : List ℕ) : Type 0 where
  pub started : List Started
  pub scope : List Bound
  pub shows : Shows levels started scope
  pub stands : Standing one total deepest root old started scope levels.depth rest new run

pub record StandsAfter {S : Type 0} (one : S → Event → S → Type 0) (total deepest : ℕ) (root : List ℕ) (old : S) (levels : Levels) (rest : List ℕ) (new : S) (run : List ℕ) : Type 0 where
  pub started : List Started
  pub scope : List Bound
  pub shows : Shows levels started scope
  pub stands : After one total deepest root old started scope levels.depth rest new run
