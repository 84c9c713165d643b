use Rattle.std.proofs.Common.{inl, ℕ, Option, refl, sym, subst, length, MatchOption}
use Rattle.tc_settle.specs.Held.{Grows, IsHeldAs, IsUnchanged, IsWrapAt}
use Rattle.tc_close.specs.RowState.{RowState, held_of}
use Rattle.tc_close.proofs.Growing.{grows_self}
use Rattle.tc_close.proofs.OnceLaws.{dead_first, live_first, made_first}
use Rattle.tc_close.proofs.once.OnceRowsNumberedRows.wrap.Goals as goal

-- what is known to be dead
pub returns-then-is_dead-clause-grows : goal.returns-then-is_dead-clause-grows
returns-then-is_dead-clause-grows g c = grows_self (held_of g.K.Over.is_of c.args.self.now)

pub returns-then-is_dead-clause-made : goal.returns-then-is_dead-clause-made
returns-then-is_dead-clause-made g c =
    (dead_first g.K.Over.is_of c.args.self.now c.args.symbol c.args.hedge c.first-first.result c.first-first.ensures.alike (c.is_dead.ensures c.if-is_dead.true), (refl, refl))

-- what is known
pub returns-in-Some-clause-grows : goal.returns-in-Some-clause-grows
returns-in-Some-clause-grows g c =
    let of = g.K.Over.is_of in
    subst (λ (s : RowState). Grows (held_of of c.args.self.now) (held_of of s)) (sym c.known_wrap.ensures.same) (grows_self (held_of of c.args.self.now))

pub returns-in-Some-clause-made : goal.returns-in-Some-clause-made
returns-in-Some-clause-made g c =
    let of = g.K.Over.is_of in
    let old = c.args.self.now in
    let at = live_first of old c.args.symbol c.args.hedge c.first-first.result c.first-first.ensures.alike c.in-Some.tree c.in-Some.ensures.told in
    subst (λ (s : RowState). IsWrapAt (held_of of s) c.args.symbol c.args.hedge c.in-Some.tree × IsHeldAs (length old.trees) (length s.trees) c.in-Some.tree) (sym c.known_wrap.ensures.same) (at, inl (at.0, refl))

-- what is worked out
pub returns-in-Some-made-clause-made : goal.returns-in-Some-made-clause-made
returns-in-Some-made-clause-made g c =
    let of = g.K.Over.is_of in
    let first = c.first-first.result in
    let new = c.wrap_new.new.self in
    let u = c.in-Some-made.tree in
    let Made : RowState → RowState → Type 0 = λ b s. IsWrapAt (held_of of s) c.args.symbol c.args.hedge u × IsHeldAs (length b.trees) (length s.trees) u in
    let told = subst (λ (o : Option ℕ). MatchOption o ((held_of of new).no_wrap first c.args.hedge × IsUnchanged (held_of of c.known_wrap.new.self) (held_of of new)) (λ v. IsWrapAt (held_of of new) first c.args.hedge v × IsHeldAs (length c.known_wrap.new.self.trees) (length new.trees) v))
    c.in-Some-made.is c.in_ok-made.ensures.made
    in
    subst (λ s. Made c.args.self.now s) (sym c.learn_wrap.ensures) (subst (λ b. Made b new) c.known_wrap.ensures.same (live_first of new c.args.symbol c.args.hedge first c.first-first.ensures.alike u told.0, told.1))

pub returns-in_default-made-clause-made : goal.returns-in_default-made-clause-made
returns-in_default-made-clause-made g c =
    let of = g.K.Over.is_of in
    let new = c.wrap_new.new.self in
    let Made : RowState → Type 0 =
    λ b. MatchOption c.in_ok-made.made ((held_of of new).no_wrap c.args.symbol c.args.hedge × IsUnchanged (held_of of b) (held_of of new)) (λ u. IsWrapAt (held_of of new) c.args.symbol c.args.hedge u × IsHeldAs (length b.trees) (length new.trees) u) in
    subst Made c.known_wrap.ensures.same
    (made_first of new c.args.symbol c.args.hedge c.first-first.result c.first-first.ensures.alike (held_of of c.known_wrap.new.self) (length c.known_wrap.new.self.trees) c.in_ok-made.made c.in_ok-made.ensures.made)
