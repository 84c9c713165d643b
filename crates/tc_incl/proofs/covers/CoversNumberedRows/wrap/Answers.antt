use Rattle.std.proofs.Common.{◌<◌, ◌∙◌, sym, subst, ap, length, MatchOption}
use Rattle.tc_settle.specs.Held.{Grows, IsHeldAs, IsUnchanged, IsWrapAt}
use Rattle.tc_incl.specs.Covers.{State, held_of}
use Rattle.tc_incl.proofs.Alike.{told_again, told_of}
use Rattle.tc_incl.proofs.Holding.{grows_itself}
use Rattle.tc_incl.proofs.covers.CoversNumberedRows.wrap.Goals as goal

pub returns-in-Some-clause-grows : goal.returns-in-Some-clause-grows
returns-in-Some-clause-grows g c = grows_itself g.K.Over.is_of c.args.self.now

pub returns-in-Some-clause-made : goal.returns-in-Some-clause-made
returns-in-Some-clause-made g c = told_again (held_of g.K.Over.is_of c.args.self.now) c.args.symbol c.args.hedge c.in-Some.made c.in-Some.ensures

pub learn_wrap-requires-clause-symbol : goal.learn_wrap-requires-clause-symbol
learn_wrap-requires-clause-symbol g c = subst (λ n. c.args.symbol < n) (sym c.wrap_new.ensures.grows.symbols) c.requires.symbol

pub learn_wrap-requires-clause-hedge : goal.learn_wrap-requires-clause-hedge
learn_wrap-requires-clause-hedge g c = subst (λ n. c.args.hedge < n) (sym c.wrap_new.ensures.hedges) c.requires.hedge

pub learn_wrap-requires-clause-told : goal.learn_wrap-requires-clause-told
learn_wrap-requires-clause-told g c =
    let of = g.K.Over.is_of in
    told_of (held_of of c.args.self.now) (held_of of c.wrap_new.new.self) c.args.symbol c.args.hedge c.in-Ok.made c.in-Ok.ensures.made

pub returns-clause-grows : goal.returns-clause-grows
returns-clause-grows g c = let of = g.K.Over.is_of in subst (λ (s : State). Grows (held_of of c.args.self.now) (held_of of s)) (sym c.learn_wrap.ensures) c.in-Ok.ensures.grows

pub returns-clause-hedges : goal.returns-clause-hedges
returns-clause-hedges g c = ap (λ (s : State). length s.hedges) c.learn_wrap.ensures ∙ c.in-Ok.ensures.hedges

pub returns-clause-made : goal.returns-clause-made
returns-clause-made g c =
    let of = g.K.Over.is_of in
    let old = held_of of c.args.self.now in
    subst (λ (s : State). MatchOption c.in-Ok.made ((held_of of s).no_wrap c.args.symbol c.args.hedge × IsUnchanged old (held_of of s)) (λ u. IsWrapAt (held_of of s) c.args.symbol c.args.hedge u × IsHeldAs old.trees (length s.trees) u))
    (sym c.learn_wrap.ensures) c.in-Ok.ensures.made
