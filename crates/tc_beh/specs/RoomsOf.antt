-- Rooms: how their numbers are parted, and what a change leaves as it was.
use Rattle.std.specs.Prelude.{◌≡◌, ◌≤◌, ℕ, List, length, get_or, Bool, if◌then◌else◌}
use Rattle.tc_beh.specs.Rooms.{Layout, count_of}
use Rattle.tc_beh.specs.declared.rooms.Room.{Room}

-- parted in this way
pub record IsRoomOf (s : Layout) (r : Room) : Type 0 where
  pub flags : r.flags ≡ s.flags
  pub entries : r.entries ≡ s.entries
  pub count : length r.numbers.items ≡ count_of s

-- parted as another
pub record IsRoomBeside (old new : Room) : Type 0 where
  pub flags : new.flags ≡ old.flags
  pub entries : new.entries ≡ old.entries
  pub count : length new.numbers.items ≡ length old.numbers.items

-- the two flags of the whole are put
pub record ChangesHeads (old new : List ℕ) (is_text is_bearing : Bool) : Type 0 where
  pub head : get_or new 0 0 ≡ (if is_text then 1 else 0)
  pub bears : get_or new 1 0 ≡ (if is_bearing then 1 else 0)
  pub others : (k : ℕ) → 2 ≤ k → get_or new k 0 ≡ get_or old k 0

-- both flags of texts are set
abbrev pub AreTexts : Room → Room → Type 0
AreTexts h t = (get_or h.numbers.items 0 0 ≡ 1) × (get_or t.numbers.items 0 0 ≡ 1)
