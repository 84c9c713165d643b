-- How many bytes a character has (RFC 3629, 4).
use Rattle.std.specs.Prelude.{◌≡◌, ◌<◌, ℕ, List, ◌++◌, take, length, slice_index, encode_utf8, nat_lt, if◌then◌else◌, IsTrue}
use Rattle.tc_base.specs.Characters.{is_char}
use Rattle.tc_model.specs.Names.{IsChars}
use Rattle.tc_stream.specs.declared.cuts.Cut.{Cut}
use Rattle.tc_stream.specs.declared.characters.Front.{Front}
use Rattle.tc_stream.specs.declared.characters.Front.TheVariants as fronts

-- how many bytes a character has that begins with this byte; one where none begins so
abbrev pub char_length : ℕ → ℕ
char_length b = if nat_lt b 0xC2 then 1 else (if nat_lt b 0xE0 then 2 else (if nat_lt b 0xF0 then 3 else (if nat_lt b 0xF5 then 4 else 1)))

-- no character of XML begins these bytes
abbrev pub BeginsNoChar : List ℕ → Type 0
BeginsNoChar bytes = (c : ℕ) (r : List ℕ) → bytes ≡ encode_utf8 c ++ r → IsTrue (is_char c) → ⊥

-- what these bytes are: a character, some first bytes of one, or such that begin none whatever follows
abbrev pub TellsFront : List ℕ → Front → Type 0
TellsFront bytes (fronts.Whole text) = (text.now ≡ bytes) × IsChars bytes
TellsFront bytes fronts.Short = BeginsNoChar bytes × (length bytes < char_length (slice_index bytes 0))
TellsFront bytes fronts.Bad = (r : List ℕ) → BeginsNoChar (bytes ++ r)

-- the bytes of a character that is cut off
abbrev pub cut_bytes : Cut → List ℕ
cut_bytes cut = take cut.count cut.bytes
