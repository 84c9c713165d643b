use Rattle.std.proofs.Common.{sym, subst, IfOk, IfErr}
use Rattle.std.proofs.lemmas.Result.{IfOk-weaker, IfErr-weaker}
use Rattle.tc_decide.specs.Texts.{IsRefused, IsSchemaOf, IsShort}
use Rattle.tc_decide.proofs.SchemaTexts.{read_compact, read_declared, refused_compact, refused_declared}
use Rattle.tc_decide.proofs.schemas.read_schema.Goals as goal
use Rattle.tc_read.specs.Faults.{IsUnaccepted}

pub read_schema-requires : goal.read_schema-requires
read_schema-requires c = subst IsShort c.in-Compact.is c.requires

pub returns-in-Compact-clause-ok : goal.returns-in-Compact-clause-ok
returns-in-Compact-clause-ok c =
    subst (λ w. IfOk c.read_schema.result (IsSchemaOf w)) (sym c.in-Compact.is) (IfOk-weaker c.read_schema.result _ _ (read_compact c.in-Compact.bytes) c.read_schema.ensures.ok)

pub returns-in-Compact-clause-no : goal.returns-in-Compact-clause-no
returns-in-Compact-clause-no c =
    subst (λ w. IfErr c.read_schema.result (IsUnaccepted (IsRefused w))) (sym c.in-Compact.is) (IfErr-weaker c.read_schema.result _ _ (refused_compact c.in-Compact.bytes) c.read_schema.ensures.no)

pub read_declarations-requires : goal.read_declarations-requires
read_declarations-requires c = subst IsShort c.in-Declarations.is c.requires

pub returns-in-Declarations-clause-ok : goal.returns-in-Declarations-clause-ok
returns-in-Declarations-clause-ok c =
    subst (λ w. IfOk c.read_declarations.result (IsSchemaOf w)) (sym c.in-Declarations.is) (IfOk-weaker c.read_declarations.result _ _ (read_declared c.in-Declarations.root c.in-Declarations.bytes) c.read_declarations.ensures.ok)

pub returns-in-Declarations-clause-no : goal.returns-in-Declarations-clause-no
returns-in-Declarations-clause-no c =
    subst (λ w. IfErr c.read_declarations.result (IsUnaccepted (IsRefused w))) (sym c.in-Declarations.is) (IfErr-weaker c.read_declarations.result _ _ (refused_declared c.in-Declarations.root c.in-Declarations.bytes) c.read_declarations.ensures.no)
