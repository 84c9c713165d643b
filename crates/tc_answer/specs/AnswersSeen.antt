-- What contracts see of an answer, and of why an operand isn't read.
use Rattle.std.specs.Prelude.{◌≡◌, ℕ, List, Ok}
use Rattle.tc_answer.specs.Answers as a
use Rattle.tc_answer.specs.Answers.{status_of, text_of}
use Rattle.tc_answer.specs.Reading.{StopsAt, IsUnreadable}
use Rattle.tc_answer.specs.Words as w
use Rattle.tc_answer.specs.declared.answer.Answer.{Answer}
use Rattle.tc_answer.specs.declared.answer.Text as written
use Rattle.tc_answer.specs.declared.answer.Text.TheVariants.{Fixed, Made}
use Rattle.tc_answer.specs.declared.read.Operand.{Operand}
use Rattle.tc_answer.specs.declared.read.Unread.{Unread}
use Rattle.tc_answer.specs.declared.sources.Source.{Source}
use Rattle.tc_answer.specs.declared.read.Unread.TheVariants as u
use Rattle.tc_io.specs.Store.{Read}
use Rattle.tc_io.specs.declared.StoreFault.{StoreFault}
use Rattle.tc_io.specs.declared.StoreFault.TheVariants.{TooLong, NoMemory}

abbrev pub text : written.Text → List ℕ
text (Fixed bytes) = bytes.now
text (Made bytes) = bytes.items

-- the status and the text are those of the answer
pub record Says (said : Answer) (answer : a.Answer) : Type 0 where
  pub status : said.status ≡ status_of answer
  pub written : text said.text ≡ text_of answer

-- what names an operand
abbrev pub source : Source → w.Source
source s = record { word = s.word.now; file = s.file.now }

-- the file of an operand, which was read
abbrev pub read_of : w.Source → Operand → Read
read_of named operand = (named.file, Ok operand.text.items)

-- why the read of an operand isn't Ok
abbrev pub IsUnread : List ℕ → StoreFault → Unread → Type 0
IsUnread word fault (u.Unreadable named) = (named.now ≡ word) × IsUnreadable fault
IsUnread word fault u.TooLong = fault ≡ TooLong
IsUnread word fault u.NoMemory = fault ≡ NoMemory

-- the first of the operands of which the read isn't Ok, and why
abbrev pub IsFirstUnread : List w.Source → List Read → Unread → Type 0
IsFirstUnread sources reads (u.Unreadable named) = (fault : StoreFault) × StopsAt sources reads named.now fault × IsUnreadable fault
IsFirstUnread sources reads u.TooLong = (word : List ℕ) × StopsAt sources reads word TooLong
IsFirstUnread sources reads u.NoMemory = (word : List ℕ) × StopsAt sources reads word NoMemory
