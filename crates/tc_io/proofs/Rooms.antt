-- What a sink in memory appends to the room that it took.
use Rattle.std.proofs.Common.{◌≡◌, ◌≤◌, ◌<◌, ◌+◌, ◌-◌, ◌^◌, ℕ, List, ◌++◌, length, take, min, Bool, true, false, not, ap, ◌∙◌, arith, if◌then◌else◌, inl, inr}
use Rattle.std.proofs.lemmas.List.{length-take}
use Rattle.std.proofs.lemmas.Bool.{cases_lt}
use Rattle.tc_io.specs.Faults.{raised, Rose}
use Rattle.tc_io.specs.MemSink.{SinkState}

-- so many bytes of a piece as fit into the room that is left
pub length_cut : (left n : ℕ) (piece : List ℕ) → n ≡ min (length piece) left → n ≡ length (take n piece)
length_cut left n piece e = omega (arith, length-take n piece)

-- so many items, appended or not, are no more than the room, which the memory has
pub room_kept : (done : Bool) (len new cap held room n : ℕ) (piece : List ℕ) → (len ≤ room) × (room ≤ cap) → n ≡ min (length piece) (room - len)
    → new ≡ (if done then len + length (take n piece) else len) → cap ≤ held → (new ≤ room) × (room ≤ held)
room_kept true len new cap held room n piece a e p q = (omega (arith, length-take n piece), omega arith)
room_kept false len new cap held room n piece a e p q = (omega arith, omega arith)

-- what is cut to the room is appended, for the memory has the room
pub fits_held : {P : Type 0} (len told cap room : ℕ) {n : ℕ} (piece : List ℕ) → (len ≤ room) × (room ≤ cap) → told ≡ len → n ≡ min (length piece) (room - told)
    → (len + length (take n piece) ≤ cap → P) → P
fits_held len told cap room {n} piece a t e f = f (omega (arith, length-take n piece))

-- a piece that is cut is longer than the room that is left, and cut there
pub cut_at_room : {len told : ℕ} (items room n : ℕ) (piece : List ℕ) → len ≡ items → told ≡ len → n ≡ min (length piece) (room - told) → n < length piece → n ≡ room - items
cut_at_room items room n piece i t e h = omega arith

pub no_room : {len told : ℕ} (items room n : ℕ) (piece : List ℕ) → len ≡ items → told ≡ len → n ≡ min (length piece) (room - told) → n < length piece → ¬ (items + length piece ≤ room)
no_room items room n piece i t e h = λ fits. omega arith

pub has_room : {len told : ℕ} (items room n : ℕ) (piece : List ℕ) → len ≡ items → len ≤ room → told ≡ len → n ≡ min (length piece) (room - told) → length piece ≤ n → items + length piece ≤ room
has_room items room n piece i a t e h = omega arith

-- what was appended, where that is no error
pub no_error_done : {done error : Bool} → done ≡ not error → error ≡ false → done ≡ true
no_error_done e f = e ∙ ap not f

pub len_done : {done : Bool} {new : ℕ} (old more : ℕ) → new ≡ (if done then old + more else old) → done ≡ true → new ≡ old + more
len_done old more e d = e ∙ ap (λ b. if b then old + more else old) d

pub items_done : {done : Bool} {new : List ℕ} (old more : List ℕ) → new ≡ (if done then old ++ more else old) → done ≡ true → new ≡ old ++ more
items_done old more e d = e ∙ ap (λ b. if b then old ++ more else old) d

-- a count that is raised rose, and is no less
pub raised_rose : (old new : ℕ) → new ≡ raised old → Rose old new
raised_rose old new e = elim (cases_lt (old + 1) (2 ^ 64 - 1)) [ inl below ↦ inl (omega arith) | inr above ↦ inr (omega arith) ]

pub raised_more : (old new : ℕ) → old < 2 ^ 64 → new ≡ raised old → old ≤ new
raised_more old new r e = omega arith

-- a sink, part by part
abbrev sink : List ℕ → ℕ → ℕ → List ℕ → ℕ → SinkState
sink bytes room calls failing faults = record { bytes = bytes; room = room; calls = calls; failing = failing; faults = faults }

pub sink_is : (bytes bytes' : List ℕ) (room calls calls' : ℕ) (failing failing' : List ℕ) (faults faults' : ℕ) → bytes ≡ bytes' → calls ≡ calls' → failing ≡ failing' → faults ≡ faults'
    → sink bytes room calls failing faults ≡ sink bytes' room calls' failing' faults'
sink_is bytes bytes' room calls calls' failing failing' faults faults' p q r s = cc (p, q, r, s)
