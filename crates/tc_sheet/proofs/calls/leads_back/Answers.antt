use Rattle.std.proofs.Common.{◌<◌, ℕ, Option, ap, sym, subst, length, IfSome, ◌∙◌}
use Rattle.tc_sheet.specs.Graphs.{leads_back}
use Rattle.tc_sheet.proofs.calls.leads_back.Goals as goal

pub joins-requires-clause-first : goal.joins-requires-clause-first
joins-requires-clause-first c = subst (λ (o : Option ℕ). IfSome o (λ k. k < length c.args.walk.now.states.items)) c.in-Some.is c.requires.0

pub joins-requires-clause-second : goal.joins-requires-clause-second
joins-requires-clause-second c = c.requires.1

pub returns-in-Some : goal.returns-in-Some
returns-in-Some c = c.joins.ensures ∙ ap (λ (o : Option ℕ). leads_back c.args.walk.now.states.items o c.args.call.now.callee) (sym c.in-Some.is)

pub returns-in-None : goal.returns-in-None
returns-in-None c = ap (λ (o : Option ℕ). leads_back c.args.walk.now.states.items o c.args.call.now.callee) (sym c.in-None.is)
