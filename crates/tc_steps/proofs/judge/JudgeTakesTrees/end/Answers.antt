use Rattle.std.proofs.Common.{refl, sym, subst}
use Rattle.std.proofs.lemmas.Option.{IfSome_then}
use Rattle.tc_steps.specs.Judged.{Place, IsAt, ended}
use Rattle.tc_steps.proofs.JudgedLaws.{popped}
use Rattle.tc_steps.proofs.judge.JudgeTakesTrees.end.Goals as goal

pub returns : goal.returns
returns c =
    IfSome_then c.pass_element.result c.pass_element.ensures (λ u h x p at.
    let e = popped x c.args.self.now (record c.args.self.now { levels = c.pop.new.self }) c.in_ok-inner.inner p c.in_ok-inner.ensures.items refl refl at in
    subst (λ (q : Place). IsAt x c.pass_element.new.self (ended q)) (sym e.at_is) (h x e.outer e.name e.kids e.element_is e.at))
