-- A room that was taken as a line of a certificate.
use Rattle.std.proofs.Common.{◌≡◌, ◌<◌, ◌==◌, ℕ, List, [], length, get_or, All, sym, ap, ◌∙◌, subst}
use Rattle.tc_mat.specs.Matrix.{Matrix}
use Rattle.tc_model.specs.States.{input, state_count}
use Rattle.tc_model.specs.declared.lists.HedgeLine.{HedgeLine}
use Rattle.tc_model.specs.declared.lists.TreeLine.{TreeLine}
use Rattle.tc_rows.specs.Triples.{Triple, entries}
use Rattle.tc_beh.specs.Lines.{IsLine}
use Rattle.tc_beh.specs.Rooms.{Layout, hedge_layout, tree_layout, IsRoom, flagged, flags_in, outputs_in, looks_in}
use Rattle.tc_beh.specs.RoomsOf.{IsRoomOf}
use Rattle.tc_beh.specs.declared.rooms.Room.{Room}
use Rattle.tc_close.specs.Lines.{tree_held, hedge_held}
use Rattle.tc_close.specs.RowState.{RowState}
use Rattle.tc_close.proofs.Certified.{outs_low}

module _ (x : Triple) (s : RowState) (p : ℕ) (room : Room) where
  pub tree_line_is : IsRoomOf (tree_layout x) room → room.numbers.items ≡ get_or s.trees p [] → (l : TreeLine) → IsLine 1 room l.text l.bears l.patterns l.outs l.looks → l ≡ tree_held x s p
  tree_line_is parted items l line =
      let flags : ℕ = length x.input.elements in
      let texts : l.text ≡ (get_or (get_or s.trees p []) 0 0 == 1) = line.head ∙ ap (λ w. get_or w 0 0 == 1) items in
      let bears : l.bears ≡ (get_or (get_or s.trees p []) 1 0 == 1) = line.bears ∙ ap (λ w. get_or w 1 0 == 1) items in
      let patterns : l.patterns ≡ flagged 1 (flags_in flags (get_or s.trees p [])) = line.set ∙ (ap (λ n. flagged 1 (flags_in n room.numbers.items)) parted.flags ∙ ap (λ w. flagged 1 (flags_in flags w)) items) in
      let outs : l.outs ≡ outputs_in flags (entries x) (get_or s.trees p [])
      = line.outs ∙ (ap (λ n. outputs_in n room.entries room.numbers.items) parted.flags ∙ (ap (λ n. outputs_in flags n room.numbers.items) parted.entries ∙ ap (λ w. outputs_in flags (entries x) w) items))
      in
      let looks : l.looks ≡ looks_in flags (entries x) (get_or s.trees p [])
      = line.looks ∙ (ap (λ n. looks_in n room.entries room.numbers.items) parted.flags ∙ (ap (λ n. looks_in flags n room.numbers.items) parted.entries ∙ ap (λ w. looks_in flags (entries x) w) items))
      in
      λ i. record { text = texts i; bears = bears i; patterns = patterns i; outs = outs i; looks = looks i }

  pub hedge_line_is : IsRoomOf (hedge_layout x) room → room.numbers.items ≡ get_or s.hedges p [] → (l : HedgeLine) → IsLine 0 room l.ends l.bears l.states l.outs l.looks → l ≡ hedge_held x s p
  hedge_line_is parted items l line =
      let flags : ℕ = state_count x.input input in
      let ends : l.ends ≡ (get_or (get_or s.hedges p []) 0 0 == 1) = line.head ∙ ap (λ w. get_or w 0 0 == 1) items in
      let bears : l.bears ≡ (get_or (get_or s.hedges p []) 1 0 == 1) = line.bears ∙ ap (λ w. get_or w 1 0 == 1) items in
      let states : l.states ≡ flagged 0 (flags_in flags (get_or s.hedges p [])) = line.set ∙ (ap (λ n. flagged 0 (flags_in n room.numbers.items)) parted.flags ∙ ap (λ w. flagged 0 (flags_in flags w)) items) in
      let outs : l.outs ≡ outputs_in flags (entries x) (get_or s.hedges p [])
      = line.outs ∙ (ap (λ n. outputs_in n room.entries room.numbers.items) parted.flags ∙ (ap (λ n. outputs_in flags n room.numbers.items) parted.entries ∙ ap (λ w. outputs_in flags (entries x) w) items))
      in
      let looks : l.looks ≡ looks_in flags (entries x) (get_or s.hedges p [])
      = line.looks ∙ (ap (λ n. looks_in n room.entries room.numbers.items) parted.flags ∙ (ap (λ n. looks_in flags n room.numbers.items) parted.entries ∙ ap (λ w. looks_in flags (entries x) w) items))
      in
      λ i. record { ends = ends i; bears = bears i; states = states i; outs = outs i; looks = looks i }

-- its outputs are those of sets that are held
pub line_outs_low : (l : Layout) (room : Room) (held : List Matrix) (outs : List ℕ) → IsRoomOf l room → IsRoom l held room.numbers.items → outs ≡ outputs_in room.flags room.entries room.numbers.items → All (λ n. n < length held) outs
line_outs_low l room held outs parted numbers same =
    subst (λ (ns : List ℕ). All (λ n. n < length held) ns) (sym (same ∙ (ap (λ n. outputs_in n room.entries room.numbers.items) parted.flags ∙ ap (λ n. outputs_in l.flags n room.numbers.items) parted.entries)))
    (outs_low l held room.numbers.items numbers)
