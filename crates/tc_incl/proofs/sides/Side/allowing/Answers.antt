use Rattle.std.proofs.Common.{◌≡◌, inl, inr, ap, ◌∙◌, sym, subst, Some, slice_get}
use Rattle.std.proofs.lemmas.Option.{same_Some, slice_get-get_or}
use Rattle.tc_sets.specs.Numbers.{HaveSameNumbers}
use Rattle.tc_incl.proofs.HandedOn.{no_value}
use Rattle.tc_incl.proofs.sides.Side.allowing.Goals as goal

pub returns-clause-numbers : goal.returns-clause-numbers
returns-clause-numbers c = λ s at.
    let sets = c.args.self.now.allowed.items in
    let here : slice_get sets c.args.symbol ≡ Some c.index.result.now = slice_get-get_or sets c.args.symbol c.index.result.now c.requires ∙ ap Some (sym c.index.ensures) in
    subst (HaveSameNumbers c.add_all.new.self) (same_Some c.index.result.now s (sym here ∙ at)) (λ k. (
      λ h. elim ((c.add_all.ensures.numbers k).0 h) [ inl none ↦ absurd (c.in_ok-allowing.ensures.numbers k none) | inr held ↦ held ],
      λ a. (c.add_all.ensures.numbers k).1 (inr a),
    ))

pub returns-in_err-allowing-clause-size : goal.returns-in_err-allowing-clause-size
returns-in_err-allowing-clause-size c = no_value c.from_residual.result _ _ c.from_residual.ensures.1

pub returns-in_err-allowing-clause-numbers : goal.returns-in_err-allowing-clause-numbers
returns-in_err-allowing-clause-numbers c = no_value c.from_residual.result _ _ c.from_residual.ensures.1
