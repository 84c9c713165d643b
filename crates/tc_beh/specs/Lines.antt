-- The numbers of a room as a line of a certificate.
use Rattle.std.specs.Prelude.{◌≡◌, ◌<◌, ◌≤◌, ◌+◌, ◌==◌, ◌↔◌, ℕ, List, length, get_or, All, Bool}
use Rattle.std.specs.List.{Contains}
use Rattle.std.specs.List.Sorted.{IsStrictlySortedBy}
use Rattle.std.specs.Ordering.{nat_cmp}
use Rattle.tc_beh.specs.Rooms.{flag_at, flagged, flags_in, outputs_in, looks_in}
use Rattle.tc_beh.specs.RoomsOf.{IsRoomBeside}
use Rattle.tc_beh.specs.declared.rooms.Room.{Room}

-- the flags of the whole, the places of the set flags, counted from a number, the outputs and the looks
pub record IsLine (first : ℕ) (r : Room) (is_text is_bearing : Bool) (places outputs values : List ℕ) : Type 0 where
  pub head : is_text ≡ (get_or r.numbers.items 0 0 == 1)
  pub bears : is_bearing ≡ (get_or r.numbers.items 1 0 == 1)
  pub set : places ≡ flagged first (flags_in r.flags r.numbers.items)
  pub outs : outputs ≡ outputs_in r.flags r.entries r.numbers.items
  pub looks : values ≡ looks_in r.flags r.entries r.numbers.items

-- the lists have the lengths of the room, and the places ascend among its own
pub record FitsRoom (first : ℕ) (r : Room) (places outputs values : List ℕ) : Type 0 where
  pub ascend : IsStrictlySortedBy nat_cmp places
  pub within : All (λ k. (first ≤ k) × (k < first + r.flags)) places
  pub outs : length outputs ≡ r.entries
  pub looks : 2 + r.flags + r.entries + length values ≡ length r.numbers.items

-- exactly the flags of these places, counted from a number, are set
pub record PutsPlaces (places : List ℕ) (first flags : ℕ) (numbers : List ℕ) : Type 0 where
  pub each : (i : ℕ) → i < flags → flag_at numbers i ≤ 1
  pub exact : (i : ℕ) → i < flags → (flag_at numbers i ≡ 1) ↔ Contains places (first + i)

-- the flags are 0 or 1
pub record AreFlags (r : Room) : Type 0 where
  pub head : get_or r.numbers.items 0 0 ≤ 1
  pub bears : get_or r.numbers.items 1 0 ≤ 1
  pub flags : (i : ℕ) → i < r.flags → flag_at r.numbers.items i ≤ 1

-- rooms of one line have the same numbers
abbrev pub LinesAreOne : Type 0
LinesAreOne =
    (first : ℕ) (r s : Room) (is_text is_bearing : Bool) (places outputs values : List ℕ) → IsRoomBeside r s → AreFlags r → AreFlags s → IsLine first r is_text is_bearing places outputs values
    → IsLine first s is_text is_bearing places outputs values → r.numbers.items ≡ s.numbers.items
