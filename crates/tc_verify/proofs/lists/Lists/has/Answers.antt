use Rattle.std.proofs.Common.{◌↔◌, IsTrue, ℕ, List, subst}
use Rattle.std.specs.List.{Contains}
use Rattle.tc_verify.proofs.Keys.{looked_up}
use Rattle.tc_verify.proofs.lists.Lists.has.Goals as goal

pub returns : goal.returns
returns c = subst (λ (p : List (List ℕ)). IsTrue c.contains.result ↔ Contains p c.args.numbers.now) c.self.view_is (looked_up (λ v. v.items) c.args.numbers.now c.self.inside.keys.keys c.contains.result c.contains.ensures)
