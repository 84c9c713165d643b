use Rattle.std.proofs.Common.{ap, ◌∙◌, sym, subst}
use Rattle.tc_sets.specs.Numbers.{Numbers, IsSet}
use Rattle.tc_sets.proofs.Bits.{apart_told}
use Rattle.tc_sets.proofs.sets.Set.is_apart.Goals as goal

pub returns : goal.returns
returns c =
    apart_told c.are_apart.result c.args.self.now c.args.other.now c.deref.result.now c.deref-2.result.now
    (c.deref.ensures.value ∙ ap (λ (s : Numbers). s.words) c.self.view_is) (c.deref-2.ensures.value ∙ ap (λ (s : Numbers). s.words) c.other.view_is) (sym c.requires)
    (subst IsSet c.self.view_is c.self.invariant) (subst IsSet c.other.view_is c.other.invariant) c.are_apart.ensures.yes c.are_apart.ensures.no
