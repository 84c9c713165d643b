use Rattle.std.proofs.Common.{subst}
use Rattle.tc_model.proofs.SimplifiesLawful.{lawful_grammar}
use Rattle.tc_model.proofs.SimplifiesUnique.{lawful_start}
use Rattle.tc_model.specs.Views as see
use Rattle.tc_read.specs.declared.schemas.Schema.{Schema}
use Rattle.tc_read.specs.Schemas.{IsSchemaOf}
use Rattle.tc_tests_engine.proofs.triples.schema_of.Goals as goal

pub returns-in-Small-clause-grammar : goal.returns-in-Small-clause-grammar
returns-in-Small-clause-grammar c =
    let (rnc, within) = subst (λ (s : Schema). IsSchemaOf c.as_bytes.result.now s) c.in-Small.is c.in-Ok.ensures.ok in
    lawful_grammar c.as_bytes.result.now (see.grammar c.in-Small.grammar) rnc

pub returns-in-Small-clause-start : goal.returns-in-Small-clause-start
returns-in-Small-clause-start c =
    let (rnc, within) = subst (λ (s : Schema). IsSchemaOf c.as_bytes.result.now s) c.in-Small.is c.in-Ok.ensures.ok in
    let (syntax, compact, simplifies) = rnc in
    lawful_start syntax (see.grammar c.in-Small.grammar) simplifies
