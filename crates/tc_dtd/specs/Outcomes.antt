-- What reading a phrase of a text comes to: it is read, or reading comes to a construct that isn't read and stops there.
-- A relation `PhraseAt bs outcome` says that of the phrase at the front of the bytes; where none holds, the text is malformed.
use Rattle.std.specs.Prelude.{ℕ, List}
use Rattle.tc_model.specs.XmlTextRefusals.{Cause}

pub data Outcome (A : Type 0) : Type 0 where
  -- what it means, and what follows it
  read : A → List ℕ → Outcome A
  -- why it is refused, and the bytes from that construct on
  refused : Cause → List ℕ → Outcome A

abbrev pub outcome_map : {A B : Type 0} → (A → B) → Outcome A → Outcome B
outcome_map f (read value after) = read (f value) after
outcome_map f (refused cause at) = refused cause at

-- one phrase and then another, where the first is read
pub data Then {A B : Type 0} (First : List ℕ → Outcome A → Type 0) (Second : A → List ℕ → Outcome B → Type 0) : List ℕ → Outcome B → Type 0 where
  stops : {bs at : List ℕ} {cause : Cause} → First bs (refused cause at) → Then First Second bs (refused cause at)
  goes_on : {bs rest : List ℕ} {value : A} {outcome : Outcome B} → First bs (read value rest) → Second value rest outcome → Then First Second bs outcome

-- a phrase of which nothing is kept, and in which nothing is refused
pub data Past (Phrase : List ℕ → List ℕ → Type 0) : List ℕ → Outcome (Unit {0}) → Type 0 where
  past : {bs after : List ℕ} → Phrase bs after → Past Phrase bs (read tt after)
