-- Where the reads of a call stop.
use Rattle.std.specs.Prelude.{◌≡◌, ℕ, List, [], ◌∷◌, Ok, Err}
use Rattle.tc_io.specs.Store.{Read}
use Rattle.tc_io.specs.declared.StoreFault.{StoreFault}
use Rattle.tc_io.specs.declared.StoreFault.TheVariants.{Missing, Failed, TooLong, NoMemory}
use Rattle.tc_answer.specs.Words.{Source}

-- the sources were read in order, and the read of that with this word was the first that wasn't Ok, for this fault
pub data StopsAt : List Source → List Read → List ℕ → StoreFault → Type 0 where
  at_first : {sources rest : List Source} {reads : List Read} {source : Source} {word : List ℕ} {fault : StoreFault} → sources ≡ source ∷ rest → reads ≡ (source.file, Err fault) ∷ []
      → word ≡ source.word → StopsAt sources reads word fault
  past_first : {sources rest : List Source} {reads more : List Read} {first : Source} {text word : List ℕ} {fault : StoreFault} → sources ≡ first ∷ rest → reads ≡ (first.file, Ok text) ∷ more
      → StopsAt rest more word fault → StopsAt sources reads word fault

-- a file can't be read: there is none of its name, or reading it failed
abbrev pub IsUnreadable : StoreFault → Type 0
IsUnreadable Missing = Unit {0}
IsUnreadable Failed = Unit {0}
IsUnreadable TooLong = ⊥
IsUnreadable NoMemory = ⊥

-- the sources were read in order, each read was Ok, and these are the texts
abbrev pub AreRead : List Source → List (List ℕ) → List Read → Type 0
AreRead [] [] reads = reads ≡ []
AreRead (source ∷ sources) (text ∷ texts) (read ∷ reads) = (read ≡ (source.file, Ok text)) × AreRead sources texts reads
AreRead _ _ _ = ⊥
