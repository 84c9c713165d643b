-- The text for which a stream stands.
use Rattle.std.specs.Prelude.{◌≡◌, ◌⊎◌, ℕ, List, [], ◌++◌, Option, None, length}
use Rattle.tc_model.specs.Grammars.{Grammar}
use Rattle.tc_model.specs.SimplifiesLaws.{IsStart}
use Rattle.tc_stream.specs.Cuts.{TellsFront, cut_bytes}
use Rattle.tc_stream.specs.Stands.{ReadsTo}
use Rattle.tc_stream.specs.declared.characters.Front.TheVariants as fronts
use Rattle.tc_stream.specs.declared.faults.StreamFault.{StreamFault}
use Rattle.tc_stream.specs.declared.stream.Stream.{Stream}

-- how many bytes have come, and the fault that was found, if there is one
abbrev pub fed_of : Stream → ℕ
fed_of s = s.fed

abbrev pub fault_found : Stream → Option StreamFault
fault_found s = s.fault

-- The stream stands for a text of this schema's documents: of what was read the whole characters are read, and the bytes of a character that is cut off are
-- kept; the bytes behind, of pieces that aren't read yet, are held.
pub record StandsFor (x : Grammar) (s : Stream) (text : List ℕ) : Type 0 where
  pub start : IsStart x.start
  pub no_fault : s.fault ≡ None
  pub fed : s.fed ≡ length text
  pub chars : List ℕ
  pub reads : ReadsTo x s.reader chars
  pub parts_are : text ≡ (chars ++ cut_bytes s.cut) ++ s.held.bytes.items
  pub cut_off : (cut_bytes s.cut ≡ []) ⊎ TellsFront (cut_bytes s.cut) fronts.Short
