-- How a reader reads on in a text of characters, and why it doesn't.
use Rattle.std.specs.Prelude.{◌≡◌, ◌⊎◌, ◌+◌, ◌++◌, ℕ, Bool, List, length, encode_utf8, IsTrue}
use Rattle.tc_base.specs.Characters.{is_char}
use Rattle.tc_model.specs.Grammars.{Grammar}
use Rattle.tc_model.specs.Names.{IsChars}
use Rattle.tc_model.specs.RawTrees.{Bound}
use Rattle.tc_model.specs.Trees.{is_white_space_only}
use Rattle.tc_stream.specs.Faults.{IsFaultOfFront}
use Rattle.tc_stream.specs.Goes.{Level}
use Rattle.tc_stream.specs.Keeps.{AreSteps, IsReady, Keeps}
use Rattle.tc_stream.specs.Stands.{IsReading, ReadsTo}
use Rattle.tc_stream.specs.declared.elements.Elements.{Elements}
use Rattle.tc_stream.specs.declared.faults.StreamFault.{StreamFault}
use Rattle.tc_stream.specs.declared.parts.Part.TheVariants as items
use Rattle.tc_stream.specs.declared.phases.Phase.{Phase}
use Rattle.tc_stream.specs.declared.phases.Phase.TheVariants as phases
use Rattle.tc_stream.specs.declared.reader.Reader.{Reader}

-- a text, behind which this place of the whole stands, is read up to what follows
pub record ReadsOn (old new : Reader) (text rest : List ℕ) (end : ℕ) : Type 0 where
  pub used : List ℕ
  pub parts : text ≡ used ++ rest
  pub ready : IsReading new
  pub reads : (x : Grammar) (chars : List ℕ) → IsChars text → length chars + length text ≡ end → ReadsTo x old chars → ReadsTo x new (chars ++ used)

-- whatever follows the text, the whole has this fault
abbrev pub FaultsOn : Reader → List ℕ → ℕ → StreamFault → Type 0
FaultsOn old text end e = (x : Grammar) (chars : List ℕ) → IsChars text → length chars + length text ≡ end → ReadsTo x old chars → IsFaultOfFront (chars ++ text) e

-- the same of one character
pub record ReadsChar (old new : Reader) (c : ℕ) : Type 0 where
  pub ready : IsReading new
  pub reads : (x : Grammar) (chars : List ℕ) → IsTrue (is_char c) → ReadsTo x old chars → ReadsTo x new (chars ++ encode_utf8 c)

abbrev pub FaultsAtChar : Reader → ℕ → StreamFault → Type 0
FaultsAtChar old c e = (x : Grammar) (chars : List ℕ) → IsTrue (is_char c) → ReadsTo x old chars → IsFaultOfFront (chars ++ encode_utf8 c) e

-- what is kept of the elements goes on behind characters, white space alone or not
pub record TakesText (is_white : Bool) (old new : Elements) : Type 0 where
  pub ready : IsReady old → IsReady new
  pub keeps : (ls : List Level) (scope : List Bound) → Keeps old ls scope → Keeps new ls scope
  pub steps : (x : Grammar) (ls : List Level) (run text : List ℕ) → is_white_space_only text ≡ is_white → AreSteps x old.validity ls run → AreSteps x new.validity ls (run ++ text)

-- a byte order mark may no longer come
abbrev pub past_mark : Phase → Phase
past_mark phases.Mark = phases.Front
past_mark phases.Front = phases.Front
past_mark phases.Prolog = phases.Prolog
past_mark phases.Root = phases.Root
past_mark phases.Content = phases.Content
past_mark phases.End = phases.End

-- content, where nothing has begun but character data
abbrev pub IsOpen : Reader → Type 0
IsOpen s = ((s.part ≡ items.Between) × (s.phase ≡ phases.Content)) ⊎ ((brackets : ℕ) × (s.part ≡ items.Data brackets))
