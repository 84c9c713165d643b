use Rattle.std.proofs.Common.{◌≡◌, rules}
use Rattle.tc_auto.proofs.ArrowLists.{gains_this, gains_other}
use Rattle.tc_auto.proofs.arrows.push_arrow.Goals as goal

pub returns-in_ok-push : goal.returns-in_ok-push
returns-in_ok-push c =
    let same : c.args.edge.leaf ≡ c.args.leaf = search rules in
    gains_this c.args.arrows.now.items c.push.new.self.items c.args.from c.args.edge c.args.leaf same c.in_ok-push.ensures.items

pub returns-else-eq : goal.returns-else-eq
returns-else-eq c =
    let differs = λ (same : c.args.edge.leaf ≡ c.args.leaf). let none : ⊥ = search rules in none in
    gains_other c.args.arrows.now.items c.args.from c.args.edge c.args.leaf differs
