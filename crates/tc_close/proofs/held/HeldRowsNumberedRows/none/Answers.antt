use Rattle.std.proofs.Common.{◌≡◌, ℕ, List, length, false, Err, subst, sym, ap, ◌∙◌, refl}
use Rattle.tc_settle.specs.Held.{IsHeldAs, Grows}
use Rattle.tc_close.specs.RowState.{RowState, held_of}
use Rattle.tc_close.specs.HeldRows.{state_of, AreHeld, AreKnown}
use Rattle.tc_close.proofs.Growing.{kept, grows_self}
use Rattle.tc_close.proofs.Holding.{worked, same_room, are_rows, refused, grows_as, grows_hedge, known_as, known_hedge, hedge_came, new_hedge_parted, full_none, made_none}
use Rattle.tc_close.proofs.held.HeldRowsNumberedRows.none.Goals as goal

pub empty_row-requires-clause-rows : goal.empty_row-requires-clause-rows
empty_row-requires-clause-rows g c = are_rows c.self.invariant.0

pub empty_row-requires-clause-room : goal.empty_row-requires-clause-room
empty_row-requires-clause-room g c = new_hedge_parted c.self.invariant.0

-- refused
pub invariant_of-self : goal.invariant_of-self
invariant_of-self g c =
    let w = worked c.if-not-self.false c.self.invariant.0 c.self.view_is c.empty_row.new.self c.empty_row.ensures.same c.empty_row.ensures.rows c.empty_row.ensures.held (record { hedge = c.self.inside.rooms.hedge; tree = c.self.inside.rooms.tree; new_hedge = c.empty_row.new.out; new_tree = c.self.inside.rooms.new_tree }) (record { hedge = same_room c.self.inside.rooms.hedge.room; tree = same_room c.self.inside.rooms.tree.room; new_hedge = c.empty_row.ensures.room; new_tree = same_room c.self.inside.rooms.new_tree.room }) in
    (refused w, known_as w c.self.invariant.1)

pub returns-in-Err-clause-grows : goal.returns-in-Err-clause-grows
returns-in-Err-clause-grows g c =
    let w = worked c.if-not-self.false c.self.invariant.0 c.self.view_is c.empty_row.new.self c.empty_row.ensures.same c.empty_row.ensures.rows c.empty_row.ensures.held (record { hedge = c.self.inside.rooms.hedge; tree = c.self.inside.rooms.tree; new_hedge = c.empty_row.new.out; new_tree = c.self.inside.rooms.new_tree }) (record { hedge = same_room c.self.inside.rooms.hedge.room; tree = same_room c.self.inside.rooms.tree.room; new_hedge = c.empty_row.ensures.room; new_tree = same_room c.self.inside.rooms.new_tree.room }) in
    grows_as w false

pub returns-in-Err-clause-full : goal.returns-in-Err-clause-full
returns-in-Err-clause-full g c = λ f.
    let w = worked c.if-not-self.false c.self.invariant.0 c.self.view_is c.empty_row.new.self c.empty_row.ensures.same c.empty_row.ensures.rows c.empty_row.ensures.held (record { hedge = c.self.inside.rooms.hedge; tree = c.self.inside.rooms.tree; new_hedge = c.empty_row.new.out; new_tree = c.self.inside.rooms.new_tree }) (record { hedge = same_room c.self.inside.rooms.hedge.room; tree = same_room c.self.inside.rooms.tree.room; new_hedge = c.empty_row.ensures.room; new_tree = same_room c.self.inside.rooms.new_tree.room }) in
    let is : c.empty_row.result ≡ Err c.in-Err.fault = c.in-Err.is in
    let many = (c.empty_row.ensures.full (is ∙ ap Err (c.hold_fault.ensures f))).1 in
    full_none w many c.in-Err.ensures.partly

-- no room to keep it
pub invariant_of-self-in_default-keep : goal.invariant_of-self-in_default-keep
invariant_of-self-in_default-keep g c =
    let w = worked c.if-not-self.false c.self.invariant.0 c.self.view_is c.empty_row.new.self c.empty_row.ensures.same c.empty_row.ensures.rows c.empty_row.ensures.held (record { hedge = c.self.inside.rooms.hedge; tree = c.self.inside.rooms.tree; new_hedge = c.empty_row.new.out; new_tree = c.self.inside.rooms.new_tree }) (record { hedge = same_room c.self.inside.rooms.hedge.room; tree = same_room c.self.inside.rooms.tree.room; new_hedge = c.empty_row.ensures.room; new_tree = same_room c.self.inside.rooms.new_tree.room }) in
    (subst (λ (l : List (List ℕ)). AreHeld g.K.Over.is_of c.empty_row.new.self (state_of c.empty_row.new.self l c.self.inside.trees false) (record { hedge = c.self.inside.rooms.hedge; tree = c.self.inside.rooms.tree; new_hedge = c.empty_row.new.out; new_tree = c.self.inside.rooms.new_tree })) (sym c.in_default-keep.ensures.err) (refused w), subst (λ (l : List (List ℕ)). AreKnown g.K.Over.is_of c.empty_row.new.self.outputs l c.self.inside.trees c.self.inside.kinds c.self.inside.appends) (sym c.in_default-keep.ensures.err) (known_as w c.self.invariant.1))

pub returns-in_default-keep-clause-grows : goal.returns-in_default-keep-clause-grows
returns-in_default-keep-clause-grows g c =
    let w = worked c.if-not-self.false c.self.invariant.0 c.self.view_is c.empty_row.new.self c.empty_row.ensures.same c.empty_row.ensures.rows c.empty_row.ensures.held (record { hedge = c.self.inside.rooms.hedge; tree = c.self.inside.rooms.tree; new_hedge = c.empty_row.new.out; new_tree = c.self.inside.rooms.new_tree }) (record { hedge = same_room c.self.inside.rooms.hedge.room; tree = same_room c.self.inside.rooms.tree.room; new_hedge = c.empty_row.ensures.room; new_tree = same_room c.self.inside.rooms.new_tree.room }) in
    subst (λ (l : List (List ℕ)). Grows (held_of g.K.Over.is_of c.args.self.now) (held_of g.K.Over.is_of (state_of c.empty_row.new.self l c.self.inside.trees false))) (sym c.in_default-keep.ensures.err) (grows_as w false)

-- kept
pub invariant_of-self-2 : goal.invariant_of-self-2
invariant_of-self-2 g c =
    let w = worked c.if-not-self.false c.self.invariant.0 c.self.view_is c.empty_row.new.self c.empty_row.ensures.same c.empty_row.ensures.rows c.empty_row.ensures.held (record { hedge = c.self.inside.rooms.hedge; tree = c.self.inside.rooms.tree; new_hedge = c.empty_row.new.out; new_tree = c.self.inside.rooms.new_tree }) (record { hedge = same_room c.self.inside.rooms.hedge.room; tree = same_room c.self.inside.rooms.tree.room; new_hedge = c.empty_row.ensures.room; new_tree = same_room c.self.inside.rooms.new_tree.room }) in
    let row = c.in_default.ensures.row in
    let out = c.empty_row.new.out.room in
    let keep = kept c.in-Ok.ensures.place c.in-Ok.ensures.grows c.numbers.ensures in
    (hedge_came w keep (λ x i. ((row x i).0.numbers, (row x i).1.row)) out c.empty_row.ensures.room (c.in_default.ensures.grows), known_hedge w c.self.invariant.1 keep)

pub returns-clause-grows : goal.returns-clause-grows
returns-clause-grows g c =
    let w = worked c.if-not-self.false c.self.invariant.0 c.self.view_is c.empty_row.new.self c.empty_row.ensures.same c.empty_row.ensures.rows c.empty_row.ensures.held (record { hedge = c.self.inside.rooms.hedge; tree = c.self.inside.rooms.tree; new_hedge = c.empty_row.new.out; new_tree = c.self.inside.rooms.new_tree }) (record { hedge = same_room c.self.inside.rooms.hedge.room; tree = same_room c.self.inside.rooms.tree.room; new_hedge = c.empty_row.ensures.room; new_tree = same_room c.self.inside.rooms.new_tree.room }) in
    let row = c.in_default.ensures.row in
    let out = c.empty_row.new.out.room in
    let keep = kept c.in-Ok.ensures.place c.in-Ok.ensures.grows c.numbers.ensures in
    grows_hedge w keep

pub returns-clause-made : goal.returns-clause-made
returns-clause-made g c =
    let w = worked c.if-not-self.false c.self.invariant.0 c.self.view_is c.empty_row.new.self c.empty_row.ensures.same c.empty_row.ensures.rows c.empty_row.ensures.held (record { hedge = c.self.inside.rooms.hedge; tree = c.self.inside.rooms.tree; new_hedge = c.empty_row.new.out; new_tree = c.self.inside.rooms.new_tree }) (record { hedge = same_room c.self.inside.rooms.hedge.room; tree = same_room c.self.inside.rooms.tree.room; new_hedge = c.empty_row.ensures.room; new_tree = same_room c.self.inside.rooms.new_tree.room }) in
    let row = c.in_default.ensures.row in
    let out = c.empty_row.new.out.room in
    let keep = kept c.in-Ok.ensures.place c.in-Ok.ensures.grows c.numbers.ensures in
    let made = made_none w keep (λ x i. (row x i).1) in
    (made, subst (λ n. IsHeldAs n (length c.keep.new.self) c.in-Ok.number) (ap (λ s. length s.hedges) w.old) keep.held)

-- a row was refused before
pub returns-then-not-self-clause-grows : goal.returns-then-not-self-clause-grows
returns-then-not-self-clause-grows g c = grows_self (held_of g.K.Over.is_of c.args.self.now)

pub returns-in-Err-clause-trees : goal.returns-in-Err-clause-trees
returns-in-Err-clause-trees g c = ap (λ (s : RowState). length s.trees) c.self.view_is

pub returns-in-Err-clause-fault : goal.returns-in-Err-clause-fault
returns-in-Err-clause-fault g c = (ap (λ (s : RowState). length s.trees) c.self.view_is, ap (λ (s : RowState). length s.hedges) c.self.view_is)

pub returns-in_default-keep-clause-trees : goal.returns-in_default-keep-clause-trees
returns-in_default-keep-clause-trees g c = ap (λ (s : RowState). length s.trees) c.self.view_is

pub returns-in_default-keep-clause-fault : goal.returns-in_default-keep-clause-fault
returns-in_default-keep-clause-fault g c = (ap (λ (s : RowState). length s.trees) c.self.view_is, ap length c.in_default-keep.ensures.err ∙ ap (λ (s : RowState). length s.hedges) c.self.view_is)

pub returns-clause-trees : goal.returns-clause-trees
returns-clause-trees g c = ap (λ (s : RowState). length s.trees) c.self.view_is

pub returns-then-not-self-clause-trees : goal.returns-then-not-self-clause-trees
returns-then-not-self-clause-trees g c = refl

pub returns-then-not-self-clause-fault : goal.returns-then-not-self-clause-fault
returns-then-not-self-clause-fault g c = (refl, refl)
