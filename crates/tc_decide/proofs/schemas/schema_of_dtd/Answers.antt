use Rattle.std.proofs.Common.{subst}
use Rattle.tc_dtd.specs.Refused.{Refuses}
use Rattle.tc_dtd.specs.Views.{declarations}
use Rattle.tc_read.specs.Schemas.{passes_pattern, passes_depth, passes_elements}
use Rattle.tc_decide.proofs.schemas.schema_of_dtd.Goals as goal

pub returns-in-Err-TooManyNodes-clause-ok : goal.returns-in-Err-TooManyNodes-clause-ok
returns-in-Err-TooManyNodes-clause-ok c = λ bytes text.
    let large = subst (Refuses (declarations c.args.dtd.now) c.args.root.now) c.in-Err-TooManyNodes.field-0-is c.in-Err-TooManyNodes.ensures.err in
    (large.0, record { declarations = declarations c.args.dtd.now; declared = text; is_grammar = large.1 }, passes_pattern large.2)

pub returns-in-Err-TooNested-clause-ok : goal.returns-in-Err-TooNested-clause-ok
returns-in-Err-TooNested-clause-ok c = λ bytes text.
    let large = subst (Refuses (declarations c.args.dtd.now) c.args.root.now) c.in-Err-TooNested.field-0-is c.in-Err-TooNested.ensures.err in
    (large.0, record { declarations = declarations c.args.dtd.now; declared = text; is_grammar = large.1 }, passes_depth large.2)

pub returns-in-Err-TooManyElements-clause-ok : goal.returns-in-Err-TooManyElements-clause-ok
returns-in-Err-TooManyElements-clause-ok c = λ bytes text.
    let large = subst (Refuses (declarations c.args.dtd.now) c.args.root.now) c.in-Err-TooManyElements.field-0-is c.in-Err-TooManyElements.ensures.err in
    (large.0, record { declarations = declarations c.args.dtd.now; declared = text; is_grammar = large.1 }, passes_elements large.2)
