use Rattle.std.proofs.Common.{◌≡◌, subst}
use Rattle.tc_rules.specs.Asked as asked
use Rattle.tc_rules.specs.declared.rules.Kind.TheVariants.{Elem}
use Rattle.tc_rows.specs.Arithmetic.{letter_around}
use Rattle.tc_beh.proofs.Wrapped.{element_marked}
use Rattle.tc_beh.proofs.wrapping.element_letter.Goals as goal

pub returns : goal.returns
returns c = λ x is.
    let a = c.args.sym.0 in
    subst (λ vs. asked.letter (Elem c.args.sym) c.marks.result ≡ letter_around x a vs) c.looks-looks.ensures.value (element_marked x a c.marks.result.0 c.looks-looks.result.now (c.marks.ensures x is))
