-- Lists that grow by one in a loop.
use Rattle.std.proofs.Common.{◌≡◌, ◌+◌, ◌↔◌, inl, inr, ◌++◌, ◌∷◌, [], ℕ, zero, suc, List, length, map, slice_get, Some, subst, sym, ap, ◌∙◌}
use Rattle.std.specs.List.{Contains}
use Rattle.std.proofs.lemmas.List.{map-append, length-append}
use Rattle.tc_beh.specs.Machines.{IsMachineOf}
use Rattle.tc_beh.specs.Lines.{IsLine, AreFlags}
use Rattle.tc_beh.specs.Rooms.{hedge_layout, tree_layout}
use Rattle.tc_beh.specs.RoomsOf.{IsRoomOf, IsRoomBeside}
use Rattle.tc_beh.specs.declared.machine.Machine.{Machine}
use Rattle.tc_beh.specs.declared.rooms.HRow.{HRow}
use Rattle.tc_beh.specs.declared.rooms.TRow.{TRow}
use Rattle.tc_model.specs.declared.lists.TreeLine.{TreeLine}
use Rattle.tc_model.specs.declared.lists.HedgeLine.{HedgeLine}
use Rattle.tc_model.specs.declared.lists.CertData.{CertData}
use Rattle.tc_rows.specs.Triples.{Triple}
use Rattle.tc_verify.specs.Listings.{HasMore}
use Rattle.tc_verify.specs.Rooms.{IsReadHedge, IsReadTree}
use Rattle.tc_verify.proofs.Keys.{one_more}
use Rattle.tc_verify.proofs.Kept.{room_on}

-- what holds of each element at its place holds with one more behind them
pub pushed : {A : Type 0} (P : ℕ → A → Type 0) (xs : List A) (y : A) → ((k : ℕ) (v : A) → slice_get xs k ≡ Some v → P k v) → P (length xs) y → (k : ℕ) (v : A) → slice_get (xs ++ y ∷ []) k ≡ Some v → P k v
pushed P [] y all last zero v e = subst (P zero) (cc) last
pushed P [] y all last (suc k) v e = absurd (cc)
pushed P (x ∷ xs) y all last zero v e = all zero v e
pushed P (x ∷ xs) y all last (suc k) v e = pushed (λ j w. P (suc j) w) xs y (λ j w p. all (suc j) w p) last k v e

module _ {A : Type 0} (numbers : A → List ℕ) (P : ℕ → A → Type 0) where
  -- so many rooms, each of its line, and exactly their numbers
  pub record AreRead (rooms : List A) (lists : List (List ℕ)) (many : ℕ) : Type 0 where
    pub count : length rooms ≡ many
    pub each : (k : ℕ) (r : A) → slice_get rooms k ≡ Some r → P k r
    pub held : (ns : List ℕ) → Contains lists ns ↔ Contains (map numbers rooms) ns

  pub one_read : (old new : List A) (y : A) (place : ℕ) (lists more : List (List ℕ)) → new ≡ old ++ y ∷ [] → length old ≡ place → ((k : ℕ) (r : A) → slice_get old k ≡ Some r → P k r) → P place y
      → ((ns : List ℕ) → Contains lists ns ↔ Contains (map numbers old) ns) → HasMore lists more (numbers y) → AreRead new more (place + 1)
  one_read old new y place lists more e n all last held has = record {
    count = ap length e ∙ (length-append old (y ∷ []) ∙ ap (λ k. k + 1) n);
    each = subst (λ (xs : List A). (k : ℕ) (r : A) → slice_get xs k ≡ Some r → P k r) (sym e) (pushed P old y all (subst (λ k. P k y) (sym n) last));
    held = λ ns. (there ns, back ns);
  }
    where
      longer : HasMore (map numbers old) (map numbers new) (numbers y)
      longer = one_more (map numbers old) (map numbers new) (numbers y) (ap (map numbers) e ∙ map-append numbers old (y ∷ []))

      there : (ns : List ℕ) → Contains more ns → Contains (map numbers new) ns
      there ns c = (longer ns).1 (elim ((has ns).0 c) [ inl a ↦ inl ((held ns).0 a) | inr b ↦ inr b ])

      back : (ns : List ℕ) → Contains (map numbers new) ns → Contains more ns
      back ns c = (has ns).1 (elim ((longer ns).0 c) [ inl a ↦ inl ((held ns).1 a) | inr b ↦ inr b ])

module _ (m : Machine) (c : CertData) (place : ℕ) where
  pub hedge_read : (l : HedgeLine) → slice_get c.hedges place ≡ Some l → (a b : HRow) → ((x : Triple) → IsMachineOf x m → IsRoomOf (hedge_layout x) a.room) → IsRoomBeside a.room b.room
      → IsLine 0 b.room l.ends l.bears l.states l.outs l.looks → AreFlags b.room → IsReadHedge m c place b
  hedge_read l at a b parted beside line flags = record {
    parted = λ x is. room_on (hedge_layout x) a.room b.room (parted x is) beside;
    flags = flags;
    line = λ k e. subst (λ (j : HedgeLine). IsLine 0 b.room j.ends j.bears j.states j.outs j.looks) (cc) line;
  }

  pub tree_read : (l : TreeLine) → slice_get c.trees place ≡ Some l → (a b : TRow) → ((x : Triple) → IsMachineOf x m → IsRoomOf (tree_layout x) a.room) → IsRoomBeside a.room b.room
      → IsLine 1 b.room l.text l.bears l.patterns l.outs l.looks → AreFlags b.room → IsReadTree m c place b
  tree_read l at a b parted beside line flags = record {
    parted = λ x is. room_on (tree_layout x) a.room b.room (parted x is) beside;
    flags = flags;
    line = λ k e. subst (λ (j : TreeLine). IsLine 1 b.room j.text j.bears j.patterns j.outs j.looks) (cc) line;
  }
