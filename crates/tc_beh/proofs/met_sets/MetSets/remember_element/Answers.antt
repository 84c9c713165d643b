use Rattle.std.proofs.Common.{Option, Some, IfSome, subst, sym}
use Rattle.tc_beh.specs.Opening.{Met, Remembers, IsElement, AreElements}
use Rattle.std.proofs.lemmas.List.Elements.{All-set}
use Rattle.tc_beh.specs.declared.met_sets.Element.{Element}
use Rattle.tc_beh.proofs.met_sets.MetSets.remember_element.Goals as goal

pub returns-in-Some-Some-clause-remembers : goal.returns-in-Some-Some-clause-remembers
returns-in-Some-Some-clause-remembers c = λ m known made.
    let at = c.in-Some-Some in
    let h = c.self.inside.sets in
    let a = c.args.symbol.0 in
    let one : IsElement m h a at.inner at.element = subst (λ (v : Met). IsElement m v.held a at.inner at.element) (sym c.self.view_is) (made at.inner at.element at.is-0 at.is-1) in
    let all : AreElements m h c.self.inside.elements.items = subst (λ (v : Met). Remembers m v) (sym c.self.view_is) known in
    All-set (λ (o : Option Element). IfSome o (λ e. IsElement m h e.symbol e.inner e.element)) c.self.inside.elements.items c.place_of.result
    (Some (record { symbol = a; inner = at.inner; element = at.element })) one all
