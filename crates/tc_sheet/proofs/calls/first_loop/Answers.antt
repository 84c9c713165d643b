use Rattle.std.proofs.Common.{◌≡◌, ℕ, ◌+◌, ◌<◌, ◌∙◌, Bool, true, false, Option, Some, List, if◌then◌else◌, ap, drop, get_or, length, map, refl, sym}
use Rattle.std.proofs.lemmas.List.{drop_all, drop_more}
use Rattle.tc_graph.specs.declared.cycles.State.{State}
use Rattle.tc_sheet.specs.Graphs.{NumberedCall, first_back, leads_back}
use Rattle.tc_sheet.specs.SeenCalls.{call}
use Rattle.tc_sheet.specs.declared.calls.Call.{Call}
use Rattle.tc_sheet.proofs.calls.first_loop.Goals as goal

-- one step of the loop over calls
module _ (states : List State) (cs : List Call) (k : ℕ) (d : Call) (lt : k < length cs) where
  abbrev here : NumberedCall
  here = call (get_or cs k d)

  abbrev past : Option ℕ
  past = first_back states (map call (drop (k + 1) cs))

  left : (b : Bool) → b ≡ leads_back states here.caller here.callee → first_back states (map call (drop k cs)) ≡ (if b then Some here.place else past)
  left b e = ap (λ z. first_back states (map call z)) (drop_more cs k d lt) ∙ ap (λ (b : Bool). if b then Some here.place else past) (sym e)

pub loop-call-init : goal.loop-call-init
loop-call-init c = refl

pub loop-call-preserved : goal.loop-call-preserved
loop-call-preserved c = sym (left c.args.walk.now.states.items c.args.calls.now c.loop-call.call-index _ c.loop-call-test.true false c.if-leads_back.ensures) ∙ c.loop-call.invariant

pub returns-then-leads_back : goal.returns-then-leads_back
returns-then-leads_back c = sym (left c.args.walk.now.states.items c.args.calls.now c.loop-call.call-index _ c.loop-call-test.true true c.if-leads_back.ensures) ∙ c.loop-call.invariant

pub returns : goal.returns
returns c = ap (λ z. first_back c.args.walk.now.states.items (map call z)) (sym (drop_all c.loop-call.call-index c.args.calls.now c.loop-call-test.false)) ∙ c.loop-call.invariant
