use Rattle.std.proofs.Common.{◌≡◌, ◌<◌, [], ℕ, List, length, get_or, true, false, Err, subst, sym, ap, ◌∙◌, refl}
use Rattle.tc_settle.specs.Held.{IsHeldAs, Grows}
use Rattle.tc_rows.specs.Arithmetic.{IsLiveWrap}
use Rattle.tc_close.specs.RowState.{RowState, held_of, hedge_at}
use Rattle.tc_close.specs.HeldRows.{state_of, AreHeld, AreKnown}
use Rattle.tc_close.proofs.Growing.{kept, grows_self}
use Rattle.tc_close.proofs.Holding.{worked, same_room, are_rows, refused, grows_as, grows_tree, known_as, known_tree, tree_came, new_tree_parted, full_wrap, made_wrap, taken, taken_row, dead, dead_wrap, hedge_fits, hedge_stands, low_symbol}
use Rattle.tc_close.specs.Kinds.{IsDeadWrap}
use Rattle.tc_close.proofs.KindLaws.{known_wrap, around_over, learned_wrap}
use Rattle.tc_close.proofs.held.HeldRowsNumberedRows.wrap.Goals as goal

pub load-requires : goal.load-requires
load-requires g c =
    let low : c.args.hedge < length c.self.inside.hedges = subst (λ s. c.args.hedge < length s.hedges) (sym c.self.view_is) c.requires.hedge in
    hedge_fits c.self.invariant.0 c.args.hedge c.get.result.now c.get.ensures low

pub wrap-requires-clause-rows : goal.wrap-requires-clause-rows
wrap-requires-clause-rows g c = are_rows c.self.invariant.0

pub wrap-requires-clause-hedge : goal.wrap-requires-clause-hedge
wrap-requires-clause-hedge g c =
    let low : c.args.hedge < length c.self.inside.hedges = subst (λ s. c.args.hedge < length s.hedges) (sym c.self.view_is) c.requires.hedge in
    hedge_stands c.self.invariant.0 c.args.hedge c.load.new.self low c.load.ensures.beside (taken c.self.inside.hedges c.args.hedge c.get.result.now c.load.new.self.room.numbers.items c.get.ensures c.load.ensures.numbers)

pub wrap-requires-clause-symbol : goal.wrap-requires-clause-symbol
wrap-requires-clause-symbol g c =
    low_symbol c.self.invariant.0 c.args.symbol (subst (λ s. c.args.symbol < s.symbols) (sym c.self.view_is) c.requires.symbol)

pub wrap-requires-clause-room : goal.wrap-requires-clause-room
wrap-requires-clause-room g c = new_tree_parted c.self.invariant.0

-- dead
pub invariant_of-self : goal.invariant_of-self
invariant_of-self g c =
    let w = worked c.if-not-self.false c.self.invariant.0 c.self.view_is c.wrap.new.self c.wrap.ensures.same c.wrap.ensures.rows c.wrap.ensures.held (record { hedge = c.load.new.self; tree = c.self.inside.rooms.tree; new_hedge = c.self.inside.rooms.new_hedge; new_tree = c.wrap.new.out }) (record { hedge = c.load.ensures.beside; tree = same_room c.self.inside.rooms.tree.room; new_hedge = same_room c.self.inside.rooms.new_hedge.room; new_tree = c.wrap.ensures.room }) in
    let (lh, eh) = taken_row w.old (λ s. s.hedges) c.args.hedge c.requires.hedge c.get.ensures c.load.ensures.numbers in
    let no = c.in-Ok-false.ensures.dead c.in-Ok-false.field-0-test in
    let never = dead_wrap w c.args.hedge lh eh c.args.symbol no.0 no.1 in
    let dead_always : IsDeadWrap g.K.Over.is_of c.args.symbol (get_or c.self.inside.hedges c.args.hedge []) = λ x o held live. never x o (around_over x held c.wrap.new.self.outputs.matrices c.args.symbol (get_or c.self.inside.hedges c.args.hedge []) live) in
    (dead w no.0, record { appends = (known_as w c.self.invariant.1).appends; kinds = learned_wrap c.self.invariant.1.kinds c.learn_wrap.new.self c.args.symbol c.args.hedge c.learn_wrap.ensures.fit c.learn_wrap.ensures.trees c.learn_wrap.ensures.wrap dead_always })

pub returns-in-Ok-false-clause-grows : goal.returns-in-Ok-false-clause-grows
returns-in-Ok-false-clause-grows g c =
    let w = worked c.if-not-self.false c.self.invariant.0 c.self.view_is c.wrap.new.self c.wrap.ensures.same c.wrap.ensures.rows c.wrap.ensures.held (record { hedge = c.load.new.self; tree = c.self.inside.rooms.tree; new_hedge = c.self.inside.rooms.new_hedge; new_tree = c.wrap.new.out }) (record { hedge = c.load.ensures.beside; tree = same_room c.self.inside.rooms.tree.room; new_hedge = same_room c.self.inside.rooms.new_hedge.room; new_tree = c.wrap.ensures.room }) in
    grows_as w true

pub returns-in-Ok-false-clause-made : goal.returns-in-Ok-false-clause-made
returns-in-Ok-false-clause-made g c =
    let w = worked c.if-not-self.false c.self.invariant.0 c.self.view_is c.wrap.new.self c.wrap.ensures.same c.wrap.ensures.rows c.wrap.ensures.held (record { hedge = c.load.new.self; tree = c.self.inside.rooms.tree; new_hedge = c.self.inside.rooms.new_hedge; new_tree = c.wrap.new.out }) (record { hedge = c.load.ensures.beside; tree = same_room c.self.inside.rooms.tree.room; new_hedge = same_room c.self.inside.rooms.new_hedge.room; new_tree = c.wrap.ensures.room }) in
    let (lh, eh) = taken_row w.old (λ s. s.hedges) c.args.hedge c.requires.hedge c.get.ensures c.load.ensures.numbers in
    let no = c.in-Ok-false.ensures.dead c.in-Ok-false.field-0-test in
    (dead_wrap w c.args.hedge lh eh c.args.symbol no.0 no.1, (ap (λ s. length s.trees) w.old, ap (λ s. length s.hedges) w.old))

-- refused
pub invariant_of-self-in-Err : goal.invariant_of-self-in-Err
invariant_of-self-in-Err g c =
    let w = worked c.if-not-self.false c.self.invariant.0 c.self.view_is c.wrap.new.self c.wrap.ensures.same c.wrap.ensures.rows c.wrap.ensures.held (record { hedge = c.load.new.self; tree = c.self.inside.rooms.tree; new_hedge = c.self.inside.rooms.new_hedge; new_tree = c.wrap.new.out }) (record { hedge = c.load.ensures.beside; tree = same_room c.self.inside.rooms.tree.room; new_hedge = same_room c.self.inside.rooms.new_hedge.room; new_tree = c.wrap.ensures.room }) in
    (refused w, known_as w c.self.invariant.1)

pub returns-in-Err-clause-grows : goal.returns-in-Err-clause-grows
returns-in-Err-clause-grows g c =
    let w = worked c.if-not-self.false c.self.invariant.0 c.self.view_is c.wrap.new.self c.wrap.ensures.same c.wrap.ensures.rows c.wrap.ensures.held (record { hedge = c.load.new.self; tree = c.self.inside.rooms.tree; new_hedge = c.self.inside.rooms.new_hedge; new_tree = c.wrap.new.out }) (record { hedge = c.load.ensures.beside; tree = same_room c.self.inside.rooms.tree.room; new_hedge = same_room c.self.inside.rooms.new_hedge.room; new_tree = c.wrap.ensures.room }) in
    grows_as w false

pub returns-in-Err-clause-full : goal.returns-in-Err-clause-full
returns-in-Err-clause-full g c = λ f.
    let w = worked c.if-not-self.false c.self.invariant.0 c.self.view_is c.wrap.new.self c.wrap.ensures.same c.wrap.ensures.rows c.wrap.ensures.held (record { hedge = c.load.new.self; tree = c.self.inside.rooms.tree; new_hedge = c.self.inside.rooms.new_hedge; new_tree = c.wrap.new.out }) (record { hedge = c.load.ensures.beside; tree = same_room c.self.inside.rooms.tree.room; new_hedge = same_room c.self.inside.rooms.new_hedge.room; new_tree = c.wrap.ensures.room }) in
    let (lh, eh) = taken_row w.old (λ s. s.hedges) c.args.hedge c.requires.hedge c.get.ensures c.load.ensures.numbers in
    let la = subst (λ s. c.args.symbol < s.symbols) (sym w.old) c.requires.symbol in
    let is : c.wrap.result ≡ Err c.in-Err.fault = c.in-Err.is in
    let many = (c.wrap.ensures.full (is ∙ ap Err (c.hold_fault.ensures f))).1 in
    full_wrap w c.args.hedge lh eh c.args.symbol la many c.in-Err.ensures.err c.in-Err.ensures.partly

-- no room to keep it
pub invariant_of-self-in_default : goal.invariant_of-self-in_default
invariant_of-self-in_default g c =
    let w = worked c.if-not-self.false c.self.invariant.0 c.self.view_is c.wrap.new.self c.wrap.ensures.same c.wrap.ensures.rows c.wrap.ensures.held (record { hedge = c.load.new.self; tree = c.self.inside.rooms.tree; new_hedge = c.self.inside.rooms.new_hedge; new_tree = c.wrap.new.out }) (record { hedge = c.load.ensures.beside; tree = same_room c.self.inside.rooms.tree.room; new_hedge = same_room c.self.inside.rooms.new_hedge.room; new_tree = c.wrap.ensures.room }) in
    (subst (λ (l : List (List ℕ)). AreHeld g.K.Over.is_of c.wrap.new.self (state_of c.wrap.new.self c.self.inside.hedges l false) (record { hedge = c.load.new.self; tree = c.self.inside.rooms.tree; new_hedge = c.self.inside.rooms.new_hedge; new_tree = c.wrap.new.out })) (sym c.in_default.ensures.err) (refused w), subst (λ (l : List (List ℕ)). AreKnown g.K.Over.is_of c.wrap.new.self.outputs c.self.inside.hedges l c.self.inside.kinds c.self.inside.appends) (sym c.in_default.ensures.err) (known_as w c.self.invariant.1))

pub returns-in_default-clause-grows : goal.returns-in_default-clause-grows
returns-in_default-clause-grows g c =
    let w = worked c.if-not-self.false c.self.invariant.0 c.self.view_is c.wrap.new.self c.wrap.ensures.same c.wrap.ensures.rows c.wrap.ensures.held (record { hedge = c.load.new.self; tree = c.self.inside.rooms.tree; new_hedge = c.self.inside.rooms.new_hedge; new_tree = c.wrap.new.out }) (record { hedge = c.load.ensures.beside; tree = same_room c.self.inside.rooms.tree.room; new_hedge = same_room c.self.inside.rooms.new_hedge.room; new_tree = c.wrap.ensures.room }) in
    subst (λ (l : List (List ℕ)). Grows (held_of g.K.Over.is_of c.args.self.now) (held_of g.K.Over.is_of (state_of c.wrap.new.self c.self.inside.hedges l false))) (sym c.in_default.ensures.err) (grows_as w false)

-- kept
pub invariant_of-self-2 : goal.invariant_of-self-2
invariant_of-self-2 g c =
    let w = worked c.if-not-self.false c.self.invariant.0 c.self.view_is c.wrap.new.self c.wrap.ensures.same c.wrap.ensures.rows c.wrap.ensures.held (record { hedge = c.load.new.self; tree = c.self.inside.rooms.tree; new_hedge = c.self.inside.rooms.new_hedge; new_tree = c.wrap.new.out }) (record { hedge = c.load.ensures.beside; tree = same_room c.self.inside.rooms.tree.room; new_hedge = same_room c.self.inside.rooms.new_hedge.room; new_tree = c.wrap.ensures.room }) in
    let row = c.in-Ok-true.ensures.row c.in-Ok-true.field-0-test in
    let out = c.wrap.new.out.room in
    let keep = kept c.in-Ok.ensures.place c.in-Ok.ensures.grows c.numbers.ensures in
    (tree_came w keep (λ x i. ((row x i).0.numbers, (row x i).1.row)) out c.wrap.ensures.room (c.in-Ok-true.ensures.grows c.in-Ok-true.field-0-test), known_tree w c.self.invariant.1 keep)

pub returns-clause-grows : goal.returns-clause-grows
returns-clause-grows g c =
    let w = worked c.if-not-self.false c.self.invariant.0 c.self.view_is c.wrap.new.self c.wrap.ensures.same c.wrap.ensures.rows c.wrap.ensures.held (record { hedge = c.load.new.self; tree = c.self.inside.rooms.tree; new_hedge = c.self.inside.rooms.new_hedge; new_tree = c.wrap.new.out }) (record { hedge = c.load.ensures.beside; tree = same_room c.self.inside.rooms.tree.room; new_hedge = same_room c.self.inside.rooms.new_hedge.room; new_tree = c.wrap.ensures.room }) in
    let row = c.in-Ok-true.ensures.row c.in-Ok-true.field-0-test in
    let out = c.wrap.new.out.room in
    let keep = kept c.in-Ok.ensures.place c.in-Ok.ensures.grows c.numbers.ensures in
    grows_tree w keep

pub returns-clause-made : goal.returns-clause-made
returns-clause-made g c =
    let w = worked c.if-not-self.false c.self.invariant.0 c.self.view_is c.wrap.new.self c.wrap.ensures.same c.wrap.ensures.rows c.wrap.ensures.held (record { hedge = c.load.new.self; tree = c.self.inside.rooms.tree; new_hedge = c.self.inside.rooms.new_hedge; new_tree = c.wrap.new.out }) (record { hedge = c.load.ensures.beside; tree = same_room c.self.inside.rooms.tree.room; new_hedge = same_room c.self.inside.rooms.new_hedge.room; new_tree = c.wrap.ensures.room }) in
    let (lh, eh) = taken_row w.old (λ s. s.hedges) c.args.hedge c.requires.hedge c.get.ensures c.load.ensures.numbers in
    let row = c.in-Ok-true.ensures.row c.in-Ok-true.field-0-test in
    let out = c.wrap.new.out.room in
    let keep = kept c.in-Ok.ensures.place c.in-Ok.ensures.grows c.numbers.ensures in
    let made = made_wrap w c.args.hedge lh eh c.args.symbol keep (c.in-Ok-true.ensures.live c.in-Ok-true.field-0-test) (λ x i. (row x i).1) in
    (made, subst (λ n. IsHeldAs n (length c.keep.new.self) c.in-Ok.number) (ap (λ s. length s.trees) w.old) keep.held)

-- known to be dead
pub returns-then-is_dead_wrap-clause-made : goal.returns-then-is_dead_wrap-clause-made
returns-then-is_dead_wrap-clause-made g c =
    let a = c.args.symbol in
    let h = c.args.hedge in
    let dead_always = known_wrap c.self.invariant.1.kinds a h (c.is_dead_wrap.ensures c.if-is_dead_wrap.true) in
    (λ x o. subst (λ (s : RowState). IsLiveWrap x a (hedge_at x s h) → ⊥) c.self.view_is (dead_always x o c.self.inside.rows.outputs.matrices), (refl, refl))

-- a row was refused before
pub returns-then-not-self-clause-grows : goal.returns-then-not-self-clause-grows
returns-then-not-self-clause-grows g c = grows_self (held_of g.K.Over.is_of c.args.self.now)

pub returns-then-is_dead_wrap-clause-grows : goal.returns-then-is_dead_wrap-clause-grows
returns-then-is_dead_wrap-clause-grows g c = grows_self (held_of g.K.Over.is_of c.args.self.now)

pub returns-in-Ok-false-clause-hedges : goal.returns-in-Ok-false-clause-hedges
returns-in-Ok-false-clause-hedges g c = ap (λ (s : RowState). length s.hedges) c.self.view_is

pub returns-in-Err-clause-hedges : goal.returns-in-Err-clause-hedges
returns-in-Err-clause-hedges g c = ap (λ (s : RowState). length s.hedges) c.self.view_is

pub returns-in-Err-clause-fault : goal.returns-in-Err-clause-fault
returns-in-Err-clause-fault g c = (ap (λ (s : RowState). length s.trees) c.self.view_is, ap (λ (s : RowState). length s.hedges) c.self.view_is)

pub returns-in_default-clause-hedges : goal.returns-in_default-clause-hedges
returns-in_default-clause-hedges g c = ap (λ (s : RowState). length s.hedges) c.self.view_is

pub returns-in_default-clause-fault : goal.returns-in_default-clause-fault
returns-in_default-clause-fault g c = (ap length c.in_default.ensures.err ∙ ap (λ (s : RowState). length s.trees) c.self.view_is, ap (λ (s : RowState). length s.hedges) c.self.view_is)

pub returns-clause-hedges : goal.returns-clause-hedges
returns-clause-hedges g c = ap (λ (s : RowState). length s.hedges) c.self.view_is

pub returns-then-not-self-clause-hedges : goal.returns-then-not-self-clause-hedges
returns-then-not-self-clause-hedges g c = refl

pub returns-then-not-self-clause-fault : goal.returns-then-not-self-clause-fault
returns-then-not-self-clause-fault g c = (refl, refl)

pub returns-then-is_dead_wrap-clause-hedges : goal.returns-then-is_dead_wrap-clause-hedges
returns-then-is_dead_wrap-clause-hedges g c = refl
