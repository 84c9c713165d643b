use Rattle.std.proofs.Common.{◌≡◌, ◌<◌, [], ℕ, List, length, get_or, true, false, Err, subst, sym, ap, ◌∙◌, refl}
use Rattle.tc_settle.specs.Held.{IsHeldAs, Grows}
use Rattle.tc_rows.specs.Arithmetic.{IsLiveAppend}
use Rattle.tc_close.specs.RowState.{RowState, held_of, hedge_at, tree_at}
use Rattle.tc_close.specs.HeldRows.{state_of, AreHeld, AreKnown}
use Rattle.tc_close.proofs.Growing.{kept, grows_self}
use Rattle.tc_close.proofs.Holding.{worked, same_room, are_rows, refused, grows_as, grows_hedge, known_as, known_hedge, hedge_came, new_hedge_parted, full_append, made_append, taken, taken_row, dead, dead_append, hedge_fits, hedge_stands, tree_fits, tree_stands}
use Rattle.tc_close.specs.Kinds.{IsDeadAppend}
use Rattle.tc_close.proofs.KindLaws.{known_append, live_over, learned_append}
use Rattle.tc_close.proofs.held.HeldRowsNumberedRows.append.Goals as goal

pub load-requires : goal.load-requires
load-requires g c =
    let low : c.args.hedge < length c.self.inside.hedges = subst (λ s. c.args.hedge < length s.hedges) (sym c.self.view_is) c.requires.hedge in
    hedge_fits c.self.invariant.0 c.args.hedge c.get.result.now c.get.ensures low

pub append-requires-clause-rows : goal.append-requires-clause-rows
append-requires-clause-rows g c = are_rows c.self.invariant.0

pub append-requires-clause-hedge : goal.append-requires-clause-hedge
append-requires-clause-hedge g c =
    let low : c.args.hedge < length c.self.inside.hedges = subst (λ s. c.args.hedge < length s.hedges) (sym c.self.view_is) c.requires.hedge in
    hedge_stands c.self.invariant.0 c.args.hedge c.load.new.self low c.load.ensures.beside (taken c.self.inside.hedges c.args.hedge c.get.result.now c.load.new.self.room.numbers.items c.get.ensures c.load.ensures.numbers)

pub load-requires-2 : goal.load-requires-2
load-requires-2 g c =
    let low : c.args.tree < length c.self.inside.trees = subst (λ s. c.args.tree < length s.trees) (sym c.self.view_is) c.requires.tree in
    tree_fits c.self.invariant.0 c.args.tree c.get-2.result.now c.get-2.ensures low

pub append-requires-clause-tree : goal.append-requires-clause-tree
append-requires-clause-tree g c =
    let low : c.args.tree < length c.self.inside.trees = subst (λ s. c.args.tree < length s.trees) (sym c.self.view_is) c.requires.tree in
    tree_stands c.self.invariant.0 c.args.tree c.load-2.new.self low c.load-2.ensures.beside (taken c.self.inside.trees c.args.tree c.get-2.result.now c.load-2.new.self.room.numbers.items c.get-2.ensures c.load-2.ensures.numbers)

pub append-requires-clause-room : goal.append-requires-clause-room
append-requires-clause-room g c = new_hedge_parted c.self.invariant.0

-- dead
pub invariant_of-self : goal.invariant_of-self
invariant_of-self g c =
    let w = worked c.if-not-self.false c.self.invariant.0 c.self.view_is c.append.new.self c.append.ensures.same c.append.ensures.rows c.append.ensures.held (record { hedge = c.load.new.self; tree = c.load-2.new.self; new_hedge = c.append.new.out; new_tree = c.self.inside.rooms.new_tree }) (record { hedge = c.load.ensures.beside; tree = c.load-2.ensures.beside; new_hedge = c.append.ensures.room; new_tree = same_room c.self.inside.rooms.new_tree.room }) in
    let (lh, eh) = taken_row w.old (λ s. s.hedges) c.args.hedge c.requires.hedge c.get.ensures c.load.ensures.numbers in
    let (lt, et) = taken_row w.old (λ s. s.trees) c.args.tree c.requires.tree c.get-2.ensures c.load-2.ensures.numbers in
    let no = c.in-Ok-false.ensures.dead c.in-Ok-false.field-0-test in
    let never = dead_append w c.args.hedge lh eh c.args.tree lt et no.0 no.1 in
    let dead_always : IsDeadAppend g.K.Over.is_of (get_or c.self.inside.hedges c.args.hedge []) (get_or c.self.inside.trees c.args.tree []) = λ x o held live. never x o (live_over x held c.append.new.self.outputs.matrices (get_or c.self.inside.hedges c.args.hedge []) (get_or c.self.inside.trees c.args.tree []) live) in
    (dead w no.0, record { appends = (known_as w c.self.invariant.1).appends; kinds = learned_append c.self.invariant.1.kinds c.learn_append.new.self c.args.hedge c.args.tree c.learn_append.ensures.fit c.learn_append.ensures.append dead_always })

pub returns-in-Ok-false-clause-grows : goal.returns-in-Ok-false-clause-grows
returns-in-Ok-false-clause-grows g c =
    let w = worked c.if-not-self.false c.self.invariant.0 c.self.view_is c.append.new.self c.append.ensures.same c.append.ensures.rows c.append.ensures.held (record { hedge = c.load.new.self; tree = c.load-2.new.self; new_hedge = c.append.new.out; new_tree = c.self.inside.rooms.new_tree }) (record { hedge = c.load.ensures.beside; tree = c.load-2.ensures.beside; new_hedge = c.append.ensures.room; new_tree = same_room c.self.inside.rooms.new_tree.room }) in
    grows_as w true

pub returns-in-Ok-false-clause-made : goal.returns-in-Ok-false-clause-made
returns-in-Ok-false-clause-made g c =
    let w = worked c.if-not-self.false c.self.invariant.0 c.self.view_is c.append.new.self c.append.ensures.same c.append.ensures.rows c.append.ensures.held (record { hedge = c.load.new.self; tree = c.load-2.new.self; new_hedge = c.append.new.out; new_tree = c.self.inside.rooms.new_tree }) (record { hedge = c.load.ensures.beside; tree = c.load-2.ensures.beside; new_hedge = c.append.ensures.room; new_tree = same_room c.self.inside.rooms.new_tree.room }) in
    let (lh, eh) = taken_row w.old (λ s. s.hedges) c.args.hedge c.requires.hedge c.get.ensures c.load.ensures.numbers in
    let (lt, et) = taken_row w.old (λ s. s.trees) c.args.tree c.requires.tree c.get-2.ensures c.load-2.ensures.numbers in
    let no = c.in-Ok-false.ensures.dead c.in-Ok-false.field-0-test in
    (dead_append w c.args.hedge lh eh c.args.tree lt et no.0 no.1, (ap (λ s. length s.trees) w.old, ap (λ s. length s.hedges) w.old))

-- refused
pub invariant_of-self-in-Err : goal.invariant_of-self-in-Err
invariant_of-self-in-Err g c =
    let w = worked c.if-not-self.false c.self.invariant.0 c.self.view_is c.append.new.self c.append.ensures.same c.append.ensures.rows c.append.ensures.held (record { hedge = c.load.new.self; tree = c.load-2.new.self; new_hedge = c.append.new.out; new_tree = c.self.inside.rooms.new_tree }) (record { hedge = c.load.ensures.beside; tree = c.load-2.ensures.beside; new_hedge = c.append.ensures.room; new_tree = same_room c.self.inside.rooms.new_tree.room }) in
    (refused w, known_as w c.self.invariant.1)

pub returns-in-Err-clause-grows : goal.returns-in-Err-clause-grows
returns-in-Err-clause-grows g c =
    let w = worked c.if-not-self.false c.self.invariant.0 c.self.view_is c.append.new.self c.append.ensures.same c.append.ensures.rows c.append.ensures.held (record { hedge = c.load.new.self; tree = c.load-2.new.self; new_hedge = c.append.new.out; new_tree = c.self.inside.rooms.new_tree }) (record { hedge = c.load.ensures.beside; tree = c.load-2.ensures.beside; new_hedge = c.append.ensures.room; new_tree = same_room c.self.inside.rooms.new_tree.room }) in
    grows_as w false

pub returns-in-Err-clause-full : goal.returns-in-Err-clause-full
returns-in-Err-clause-full g c = λ f.
    let w = worked c.if-not-self.false c.self.invariant.0 c.self.view_is c.append.new.self c.append.ensures.same c.append.ensures.rows c.append.ensures.held (record { hedge = c.load.new.self; tree = c.load-2.new.self; new_hedge = c.append.new.out; new_tree = c.self.inside.rooms.new_tree }) (record { hedge = c.load.ensures.beside; tree = c.load-2.ensures.beside; new_hedge = c.append.ensures.room; new_tree = same_room c.self.inside.rooms.new_tree.room }) in
    let (lh, eh) = taken_row w.old (λ s. s.hedges) c.args.hedge c.requires.hedge c.get.ensures c.load.ensures.numbers in
    let (lt, et) = taken_row w.old (λ s. s.trees) c.args.tree c.requires.tree c.get-2.ensures c.load-2.ensures.numbers in
    let is : c.append.result ≡ Err c.in-Err.fault = c.in-Err.is in
    let many = (c.append.ensures.full (is ∙ ap Err (c.hold_fault.ensures f))).1 in
    full_append w c.args.hedge lh eh c.args.tree lt et many c.in-Err.ensures.err c.in-Err.ensures.partly

-- no room to keep it
pub invariant_of-self-in_default : goal.invariant_of-self-in_default
invariant_of-self-in_default g c =
    let w = worked c.if-not-self.false c.self.invariant.0 c.self.view_is c.append.new.self c.append.ensures.same c.append.ensures.rows c.append.ensures.held (record { hedge = c.load.new.self; tree = c.load-2.new.self; new_hedge = c.append.new.out; new_tree = c.self.inside.rooms.new_tree }) (record { hedge = c.load.ensures.beside; tree = c.load-2.ensures.beside; new_hedge = c.append.ensures.room; new_tree = same_room c.self.inside.rooms.new_tree.room }) in
    (subst (λ (l : List (List ℕ)). AreHeld g.K.Over.is_of c.append.new.self (state_of c.append.new.self l c.self.inside.trees false) (record { hedge = c.load.new.self; tree = c.load-2.new.self; new_hedge = c.append.new.out; new_tree = c.self.inside.rooms.new_tree })) (sym c.in_default.ensures.err) (refused w), subst (λ (l : List (List ℕ)). AreKnown g.K.Over.is_of c.append.new.self.outputs l c.self.inside.trees c.self.inside.kinds c.self.inside.appends) (sym c.in_default.ensures.err) (known_as w c.self.invariant.1))

pub returns-in_default-clause-grows : goal.returns-in_default-clause-grows
returns-in_default-clause-grows g c =
    let w = worked c.if-not-self.false c.self.invariant.0 c.self.view_is c.append.new.self c.append.ensures.same c.append.ensures.rows c.append.ensures.held (record { hedge = c.load.new.self; tree = c.load-2.new.self; new_hedge = c.append.new.out; new_tree = c.self.inside.rooms.new_tree }) (record { hedge = c.load.ensures.beside; tree = c.load-2.ensures.beside; new_hedge = c.append.ensures.room; new_tree = same_room c.self.inside.rooms.new_tree.room }) in
    subst (λ (l : List (List ℕ)). Grows (held_of g.K.Over.is_of c.args.self.now) (held_of g.K.Over.is_of (state_of c.append.new.self l c.self.inside.trees false))) (sym c.in_default.ensures.err) (grows_as w false)

-- kept
pub invariant_of-self-2 : goal.invariant_of-self-2
invariant_of-self-2 g c =
    let w = worked c.if-not-self.false c.self.invariant.0 c.self.view_is c.append.new.self c.append.ensures.same c.append.ensures.rows c.append.ensures.held (record { hedge = c.load.new.self; tree = c.load-2.new.self; new_hedge = c.append.new.out; new_tree = c.self.inside.rooms.new_tree }) (record { hedge = c.load.ensures.beside; tree = c.load-2.ensures.beside; new_hedge = c.append.ensures.room; new_tree = same_room c.self.inside.rooms.new_tree.room }) in
    let row = c.in-Ok-true.ensures.row c.in-Ok-true.field-0-test in
    let out = c.append.new.out.room in
    let keep = kept c.in-Ok.ensures.place c.in-Ok.ensures.grows c.numbers.ensures in
    (hedge_came w keep (λ x i. ((row x i).0.numbers, (row x i).1.row)) out c.append.ensures.room (c.in-Ok-true.ensures.grows c.in-Ok-true.field-0-test), known_hedge w c.self.invariant.1 keep)

pub returns-clause-grows : goal.returns-clause-grows
returns-clause-grows g c =
    let w = worked c.if-not-self.false c.self.invariant.0 c.self.view_is c.append.new.self c.append.ensures.same c.append.ensures.rows c.append.ensures.held (record { hedge = c.load.new.self; tree = c.load-2.new.self; new_hedge = c.append.new.out; new_tree = c.self.inside.rooms.new_tree }) (record { hedge = c.load.ensures.beside; tree = c.load-2.ensures.beside; new_hedge = c.append.ensures.room; new_tree = same_room c.self.inside.rooms.new_tree.room }) in
    let row = c.in-Ok-true.ensures.row c.in-Ok-true.field-0-test in
    let out = c.append.new.out.room in
    let keep = kept c.in-Ok.ensures.place c.in-Ok.ensures.grows c.numbers.ensures in
    grows_hedge w keep

pub returns-clause-made : goal.returns-clause-made
returns-clause-made g c =
    let w = worked c.if-not-self.false c.self.invariant.0 c.self.view_is c.append.new.self c.append.ensures.same c.append.ensures.rows c.append.ensures.held (record { hedge = c.load.new.self; tree = c.load-2.new.self; new_hedge = c.append.new.out; new_tree = c.self.inside.rooms.new_tree }) (record { hedge = c.load.ensures.beside; tree = c.load-2.ensures.beside; new_hedge = c.append.ensures.room; new_tree = same_room c.self.inside.rooms.new_tree.room }) in
    let (lh, eh) = taken_row w.old (λ s. s.hedges) c.args.hedge c.requires.hedge c.get.ensures c.load.ensures.numbers in
    let (lt, et) = taken_row w.old (λ s. s.trees) c.args.tree c.requires.tree c.get-2.ensures c.load-2.ensures.numbers in
    let row = c.in-Ok-true.ensures.row c.in-Ok-true.field-0-test in
    let out = c.append.new.out.room in
    let keep = kept c.in-Ok.ensures.place c.in-Ok.ensures.grows c.numbers.ensures in
    let made = made_append w c.args.hedge lh eh c.args.tree lt et keep (c.in-Ok-true.ensures.live c.in-Ok-true.field-0-test) (λ x i. (row x i).1) in
    (made, subst (λ n. IsHeldAs n (length c.keep.new.self) c.in-Ok.number) (ap (λ s. length s.hedges) w.old) keep.held)

-- known to be dead
pub returns-then-is_dead_append-clause-made : goal.returns-then-is_dead_append-clause-made
returns-then-is_dead_append-clause-made g c =
    let h = c.args.hedge in
    let t = c.args.tree in
    let dead_always = known_append c.self.invariant.1.kinds h t (c.is_dead_append.ensures c.if-is_dead_append.true) in
    (λ x o. subst (λ (s : RowState). IsLiveAppend x (hedge_at x s h) (tree_at x s t) → ⊥) c.self.view_is (dead_always x o c.self.inside.rows.outputs.matrices), (refl, refl))

-- a row was refused before
pub returns-then-not-self-clause-grows : goal.returns-then-not-self-clause-grows
returns-then-not-self-clause-grows g c = grows_self (held_of g.K.Over.is_of c.args.self.now)

pub returns-then-is_dead_append-clause-grows : goal.returns-then-is_dead_append-clause-grows
returns-then-is_dead_append-clause-grows g c = grows_self (held_of g.K.Over.is_of c.args.self.now)

pub returns-in-Ok-false-clause-trees : goal.returns-in-Ok-false-clause-trees
returns-in-Ok-false-clause-trees g c = ap (λ (s : RowState). length s.trees) c.self.view_is

pub returns-in-Err-clause-trees : goal.returns-in-Err-clause-trees
returns-in-Err-clause-trees g c = ap (λ (s : RowState). length s.trees) c.self.view_is

pub returns-in-Err-clause-fault : goal.returns-in-Err-clause-fault
returns-in-Err-clause-fault g c = (ap (λ (s : RowState). length s.trees) c.self.view_is, ap (λ (s : RowState). length s.hedges) c.self.view_is)

pub returns-in_default-clause-trees : goal.returns-in_default-clause-trees
returns-in_default-clause-trees g c = ap (λ (s : RowState). length s.trees) c.self.view_is

pub returns-in_default-clause-fault : goal.returns-in_default-clause-fault
returns-in_default-clause-fault g c = (ap (λ (s : RowState). length s.trees) c.self.view_is, ap length c.in_default.ensures.err ∙ ap (λ (s : RowState). length s.hedges) c.self.view_is)

pub returns-clause-trees : goal.returns-clause-trees
returns-clause-trees g c = ap (λ (s : RowState). length s.trees) c.self.view_is

pub returns-then-not-self-clause-trees : goal.returns-then-not-self-clause-trees
returns-then-not-self-clause-trees g c = refl

pub returns-then-not-self-clause-fault : goal.returns-then-not-self-clause-fault
returns-then-not-self-clause-fault g c = (refl, refl)

pub returns-then-is_dead_append-clause-trees : goal.returns-then-is_dead_append-clause-trees
returns-then-is_dead_append-clause-trees g c = refl
