-- The characters for which a reader stands, by what it keeps.
use Rattle.std.specs.Prelude.{◌≡◌, ◌≢◌, ◌↔◌, ◌-◌, ℕ, List, [], ◌∷◌, ◌++◌, length, take, drop, IsTrue}
use Rattle.tc_model.specs.Grammars.{Grammar}
use Rattle.tc_model.specs.Names.{ExpandedName, IsChars}
use Rattle.tc_model.specs.RawTrees.{Bound}
use Rattle.tc_model.specs.Trees.{Trees}
use Rattle.tc_model.specs.XmlTextScopes.{first_scope}
use Rattle.tc_steps.specs.Led.{IsStarted}
use Rattle.tc_stream.specs.From.{Standing, open_in, ended, StillComes}
use Rattle.tc_stream.specs.Goes.{Level}
use Rattle.tc_stream.specs.Keeps.{AreSteps, IsReady, Keeps}
use Rattle.tc_stream.specs.Outcomes.{Outcome, Comes}
use Rattle.tc_stream.specs.Parts.{MayPend, Pends}
use Rattle.tc_stream.specs.declared.elements.Elements.{Elements}
use Rattle.tc_stream.specs.declared.parts.Part.{Part}
use Rattle.tc_stream.specs.declared.parts.Part.TheVariants as parts
use Rattle.tc_stream.specs.declared.phases.Phase.{Phase}
use Rattle.tc_stream.specs.declared.phases.Phase.TheVariants as phases
use Rattle.tc_stream.specs.declared.reader.Reader.{Reader}

-- the characters that are known of a text that hasn't ended: all of a run, and of a CDATA section all but the brackets that may end it
abbrev pub known_text : Part → List ℕ → List ℕ
known_text (parts.Data brackets) pending = pending
known_text (parts.Cdata brackets) pending = let inside = drop 9 pending in take (length inside - brackets) inside
known_text _ pending = []

-- what is kept of the elements tells how reading stands, before what has begun and hasn't ended
pub data Tells (x : Grammar) (pending : List ℕ) (part : Part) (e : Elements) : Phase → Standing → Type 0 where
  -- the root element hasn't begun
  before : {phase : Phase} → (phase ≢ phases.Content) → (phase ≢ phases.End) → Keeps e [] first_scope → AreSteps x e.validity [] [] → Tells x pending part e phase (open_in [] [] [])
  within : {ls : List Level} {l : Level} {scope : List Bound} {run : List ℕ} → Keeps e (l ∷ ls) scope → AreSteps x e.validity (l ∷ ls) (run ++ known_text part pending) → Tells x pending part e phases.Content (open_in (l ∷ ls) scope run)
  behind : {n : ExpandedName} {kids : Trees} → e.levels.items ≡ [] → (IsTrue e.validity.is_valid ↔ IsStarted x n kids) → Tells x pending part e phases.End (ended n kids)

-- what reading asks of a reader, whatever the schema and the text are: the elements that are kept are some
abbrev pub IsReading : Reader → Type 0
IsReading s = IsReady s.elements

-- These characters have been read so: of them what has begun and hasn't ended is known, and for every continuation what comes of the whole is exactly what still
-- comes of that and the continuation, from where reading stands.
pub record ReadsTo (x : Grammar) (s : Reader) (chars : List ℕ) : Type 0 where
  pub before : List ℕ
  pub pending : List ℕ
  pub parts_are : chars ≡ before ++ pending
  pub before_chars : IsChars before
  pub pending_chars : IsChars pending
  pub begun : pending ≢ [] → s.begun ≡ length before
  pub pends : Pends (length before) s.part s pending
  pub may : MayPend s.phase s.part
  pub standing : Standing
  pub tells : Tells x pending s.part s.elements s.phase standing
  pub comes : (r : List ℕ) (o : Outcome) → Comes (chars ++ r) o ↔ StillComes (length before) s.phase standing (pending ++ r) o
