use Rattle.std.proofs.Common.{◌≡◌, ℕ, List, length, true, false, Err, subst, sym, ap, ◌∙◌, refl}
use Rattle.tc_settle.specs.Held.{IsHeldAs, Grows}
use Rattle.tc_close.specs.RowState.{RowState, held_of}
use Rattle.tc_close.specs.HeldRows.{state_of, AreHeld, AreKnown}
use Rattle.tc_close.proofs.Growing.{kept, grows_self}
use Rattle.tc_close.proofs.Holding.{worked, same_room, are_rows, refused, grows_as, grows_tree, known_as, known_tree, tree_came, new_tree_parted, full_text, made_text, dead}
use Rattle.tc_close.proofs.held.HeldRowsNumberedRows.text.Goals as goal

pub text_row-requires-clause-rows : goal.text_row-requires-clause-rows
text_row-requires-clause-rows g c = are_rows c.self.invariant.0

pub text_row-requires-clause-room : goal.text_row-requires-clause-room
text_row-requires-clause-room g c = new_tree_parted c.self.invariant.0

-- dead
pub invariant_of-self : goal.invariant_of-self
invariant_of-self g c =
    let w = worked c.if-not-self.false c.self.invariant.0 c.self.view_is c.text_row.new.self c.text_row.ensures.same c.text_row.ensures.rows c.text_row.ensures.held (record { hedge = c.self.inside.rooms.hedge; tree = c.self.inside.rooms.tree; new_hedge = c.self.inside.rooms.new_hedge; new_tree = c.text_row.new.out }) (record { hedge = same_room c.self.inside.rooms.hedge.room; tree = same_room c.self.inside.rooms.tree.room; new_hedge = same_room c.self.inside.rooms.new_hedge.room; new_tree = c.text_row.ensures.room }) in
    (dead w (c.in-Ok-false.ensures.dead c.in-Ok-false.field-0-test).0, known_as w c.self.invariant.1)

pub returns-in-Ok-false-clause-grows : goal.returns-in-Ok-false-clause-grows
returns-in-Ok-false-clause-grows g c =
    let w = worked c.if-not-self.false c.self.invariant.0 c.self.view_is c.text_row.new.self c.text_row.ensures.same c.text_row.ensures.rows c.text_row.ensures.held (record { hedge = c.self.inside.rooms.hedge; tree = c.self.inside.rooms.tree; new_hedge = c.self.inside.rooms.new_hedge; new_tree = c.text_row.new.out }) (record { hedge = same_room c.self.inside.rooms.hedge.room; tree = same_room c.self.inside.rooms.tree.room; new_hedge = same_room c.self.inside.rooms.new_hedge.room; new_tree = c.text_row.ensures.room }) in
    grows_as w true

-- refused
pub invariant_of-self-in-Err : goal.invariant_of-self-in-Err
invariant_of-self-in-Err g c =
    let w = worked c.if-not-self.false c.self.invariant.0 c.self.view_is c.text_row.new.self c.text_row.ensures.same c.text_row.ensures.rows c.text_row.ensures.held (record { hedge = c.self.inside.rooms.hedge; tree = c.self.inside.rooms.tree; new_hedge = c.self.inside.rooms.new_hedge; new_tree = c.text_row.new.out }) (record { hedge = same_room c.self.inside.rooms.hedge.room; tree = same_room c.self.inside.rooms.tree.room; new_hedge = same_room c.self.inside.rooms.new_hedge.room; new_tree = c.text_row.ensures.room }) in
    (refused w, known_as w c.self.invariant.1)

pub returns-in-Err-clause-grows : goal.returns-in-Err-clause-grows
returns-in-Err-clause-grows g c =
    let w = worked c.if-not-self.false c.self.invariant.0 c.self.view_is c.text_row.new.self c.text_row.ensures.same c.text_row.ensures.rows c.text_row.ensures.held (record { hedge = c.self.inside.rooms.hedge; tree = c.self.inside.rooms.tree; new_hedge = c.self.inside.rooms.new_hedge; new_tree = c.text_row.new.out }) (record { hedge = same_room c.self.inside.rooms.hedge.room; tree = same_room c.self.inside.rooms.tree.room; new_hedge = same_room c.self.inside.rooms.new_hedge.room; new_tree = c.text_row.ensures.room }) in
    grows_as w false

pub returns-in-Err-clause-full : goal.returns-in-Err-clause-full
returns-in-Err-clause-full g c = λ f.
    let w = worked c.if-not-self.false c.self.invariant.0 c.self.view_is c.text_row.new.self c.text_row.ensures.same c.text_row.ensures.rows c.text_row.ensures.held (record { hedge = c.self.inside.rooms.hedge; tree = c.self.inside.rooms.tree; new_hedge = c.self.inside.rooms.new_hedge; new_tree = c.text_row.new.out }) (record { hedge = same_room c.self.inside.rooms.hedge.room; tree = same_room c.self.inside.rooms.tree.room; new_hedge = same_room c.self.inside.rooms.new_hedge.room; new_tree = c.text_row.ensures.room }) in
    let is : c.text_row.result ≡ Err c.in-Err.fault = c.in-Err.is in
    let many = (c.text_row.ensures.full (is ∙ ap Err (c.hold_fault.ensures f))).1 in
    full_text w many c.in-Err.ensures.err c.in-Err.ensures.partly

-- no room to keep it
pub invariant_of-self-in_default : goal.invariant_of-self-in_default
invariant_of-self-in_default g c =
    let w = worked c.if-not-self.false c.self.invariant.0 c.self.view_is c.text_row.new.self c.text_row.ensures.same c.text_row.ensures.rows c.text_row.ensures.held (record { hedge = c.self.inside.rooms.hedge; tree = c.self.inside.rooms.tree; new_hedge = c.self.inside.rooms.new_hedge; new_tree = c.text_row.new.out }) (record { hedge = same_room c.self.inside.rooms.hedge.room; tree = same_room c.self.inside.rooms.tree.room; new_hedge = same_room c.self.inside.rooms.new_hedge.room; new_tree = c.text_row.ensures.room }) in
    (subst (λ (l : List (List ℕ)). AreHeld g.K.Over.is_of c.text_row.new.self (state_of c.text_row.new.self c.self.inside.hedges l false) (record { hedge = c.self.inside.rooms.hedge; tree = c.self.inside.rooms.tree; new_hedge = c.self.inside.rooms.new_hedge; new_tree = c.text_row.new.out })) (sym c.in_default.ensures.err) (refused w), subst (λ (l : List (List ℕ)). AreKnown g.K.Over.is_of c.text_row.new.self.outputs c.self.inside.hedges l c.self.inside.kinds c.self.inside.appends) (sym c.in_default.ensures.err) (known_as w c.self.invariant.1))

pub returns-in_default-clause-grows : goal.returns-in_default-clause-grows
returns-in_default-clause-grows g c =
    let w = worked c.if-not-self.false c.self.invariant.0 c.self.view_is c.text_row.new.self c.text_row.ensures.same c.text_row.ensures.rows c.text_row.ensures.held (record { hedge = c.self.inside.rooms.hedge; tree = c.self.inside.rooms.tree; new_hedge = c.self.inside.rooms.new_hedge; new_tree = c.text_row.new.out }) (record { hedge = same_room c.self.inside.rooms.hedge.room; tree = same_room c.self.inside.rooms.tree.room; new_hedge = same_room c.self.inside.rooms.new_hedge.room; new_tree = c.text_row.ensures.room }) in
    subst (λ (l : List (List ℕ)). Grows (held_of g.K.Over.is_of c.args.self.now) (held_of g.K.Over.is_of (state_of c.text_row.new.self c.self.inside.hedges l false))) (sym c.in_default.ensures.err) (grows_as w false)

-- kept
pub invariant_of-self-2 : goal.invariant_of-self-2
invariant_of-self-2 g c =
    let w = worked c.if-not-self.false c.self.invariant.0 c.self.view_is c.text_row.new.self c.text_row.ensures.same c.text_row.ensures.rows c.text_row.ensures.held (record { hedge = c.self.inside.rooms.hedge; tree = c.self.inside.rooms.tree; new_hedge = c.self.inside.rooms.new_hedge; new_tree = c.text_row.new.out }) (record { hedge = same_room c.self.inside.rooms.hedge.room; tree = same_room c.self.inside.rooms.tree.room; new_hedge = same_room c.self.inside.rooms.new_hedge.room; new_tree = c.text_row.ensures.room }) in
    let row = c.in-Ok-true.ensures.row c.in-Ok-true.field-0-test in
    let out = c.text_row.new.out.room in
    let keep = kept c.in-Ok.ensures.place c.in-Ok.ensures.grows c.numbers.ensures in
    (tree_came w keep (λ x i. ((row x i).0.numbers, (row x i).1.row)) out c.text_row.ensures.room (c.in-Ok-true.ensures.grows c.in-Ok-true.field-0-test), known_tree w c.self.invariant.1 keep)

pub returns-clause-grows : goal.returns-clause-grows
returns-clause-grows g c =
    let w = worked c.if-not-self.false c.self.invariant.0 c.self.view_is c.text_row.new.self c.text_row.ensures.same c.text_row.ensures.rows c.text_row.ensures.held (record { hedge = c.self.inside.rooms.hedge; tree = c.self.inside.rooms.tree; new_hedge = c.self.inside.rooms.new_hedge; new_tree = c.text_row.new.out }) (record { hedge = same_room c.self.inside.rooms.hedge.room; tree = same_room c.self.inside.rooms.tree.room; new_hedge = same_room c.self.inside.rooms.new_hedge.room; new_tree = c.text_row.ensures.room }) in
    let row = c.in-Ok-true.ensures.row c.in-Ok-true.field-0-test in
    let out = c.text_row.new.out.room in
    let keep = kept c.in-Ok.ensures.place c.in-Ok.ensures.grows c.numbers.ensures in
    grows_tree w keep

pub returns-clause-made : goal.returns-clause-made
returns-clause-made g c =
    let w = worked c.if-not-self.false c.self.invariant.0 c.self.view_is c.text_row.new.self c.text_row.ensures.same c.text_row.ensures.rows c.text_row.ensures.held (record { hedge = c.self.inside.rooms.hedge; tree = c.self.inside.rooms.tree; new_hedge = c.self.inside.rooms.new_hedge; new_tree = c.text_row.new.out }) (record { hedge = same_room c.self.inside.rooms.hedge.room; tree = same_room c.self.inside.rooms.tree.room; new_hedge = same_room c.self.inside.rooms.new_hedge.room; new_tree = c.text_row.ensures.room }) in
    let row = c.in-Ok-true.ensures.row c.in-Ok-true.field-0-test in
    let out = c.text_row.new.out.room in
    let keep = kept c.in-Ok.ensures.place c.in-Ok.ensures.grows c.numbers.ensures in
    let made = made_text w keep (c.in-Ok-true.ensures.live c.in-Ok-true.field-0-test) (λ x i. (row x i).1) in
    (made, subst (λ n. IsHeldAs n (length c.keep.new.self) c.in-Ok.number) (ap (λ s. length s.trees) w.old) keep.held)

-- a row was refused before
pub returns-then-not-self-clause-grows : goal.returns-then-not-self-clause-grows
returns-then-not-self-clause-grows g c = grows_self (held_of g.K.Over.is_of c.args.self.now)

pub returns-in-Ok-false-clause-hedges : goal.returns-in-Ok-false-clause-hedges
returns-in-Ok-false-clause-hedges g c = ap (λ (s : RowState). length s.hedges) c.self.view_is

pub returns-in-Err-clause-hedges : goal.returns-in-Err-clause-hedges
returns-in-Err-clause-hedges g c = ap (λ (s : RowState). length s.hedges) c.self.view_is

pub returns-in-Err-clause-fault : goal.returns-in-Err-clause-fault
returns-in-Err-clause-fault g c = (ap (λ (s : RowState). length s.trees) c.self.view_is, ap (λ (s : RowState). length s.hedges) c.self.view_is)

pub returns-in_default-clause-hedges : goal.returns-in_default-clause-hedges
returns-in_default-clause-hedges g c = ap (λ (s : RowState). length s.hedges) c.self.view_is

pub returns-in_default-clause-fault : goal.returns-in_default-clause-fault
returns-in_default-clause-fault g c = (ap length c.in_default.ensures.err ∙ ap (λ (s : RowState). length s.trees) c.self.view_is, ap (λ (s : RowState). length s.hedges) c.self.view_is)

pub returns-clause-hedges : goal.returns-clause-hedges
returns-clause-hedges g c = ap (λ (s : RowState). length s.hedges) c.self.view_is

pub returns-then-not-self-clause-hedges : goal.returns-then-not-self-clause-hedges
returns-then-not-self-clause-hedges g c = refl

pub returns-then-not-self-clause-fault : goal.returns-then-not-self-clause-fault
returns-then-not-self-clause-fault g c = (refl, refl)
