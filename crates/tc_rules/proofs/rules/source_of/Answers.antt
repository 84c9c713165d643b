use Rattle.std.proofs.Common.{◌≡◌, length, arith}
use Rattle.std.proofs.lemmas.Result.{IfOk-from_err}
use Rattle.tc_model.specs.Numberings.{predicates_of}
use Rattle.tc_model.specs.Sheets as s
use Rattle.tc_rules.specs.Faults.{IsCause, IsPredicatesCause}
use Rattle.tc_rules.specs.Usages.{usages_of}
use Rattle.tc_rules.specs.Views.{usages}
use Rattle.tc_rules.proofs.Built.{source_is, handed_on, predicates_cause}
use Rattle.tc_rules.proofs.rules.source_of.Goals as goal

pub returns-clause-source : goal.returns-clause-source
returns-clause-source c =
    let size : c.len.result ≡ length c.in_ok-predicates.predicates.items = omega (arith, c.len.ensures, c.in_ok-predicates.predicates.ok.0) in
    source_is c.args.alphabet.now _ c.len.result c.in_ok-names.ensures c.sets_of-sets.ensures size

pub returns-clause-predicates : goal.returns-clause-predicates
returns-clause-predicates c = c.in_ok-predicates.ensures.predicates

pub returns-clause-few : goal.returns-clause-few
returns-clause-few c = c.in_ok-predicates.ensures.few

pub sets_of-sets-requires : goal.sets_of-sets-requires
sets_of-sets-requires c = omega (arith, c.in_ok-predicates.ensures.few)

pub returns-clause-cause : goal.returns-clause-cause
returns-clause-cause c = tt

pub returns-in_err-predicates-clause-source : goal.returns-in_err-predicates-clause-source
returns-in_err-predicates-clause-source c = IfOk-from_err c.from_residual.result _ c.from_residual.ensures.0

pub returns-in_err-predicates-clause-predicates : goal.returns-in_err-predicates-clause-predicates
returns-in_err-predicates-clause-predicates c = IfOk-from_err c.from_residual.result _ c.from_residual.ensures.0

pub returns-in_err-predicates-clause-few : goal.returns-in_err-predicates-clause-few
returns-in_err-predicates-clause-few c = IfOk-from_err c.from_residual.result _ c.from_residual.ensures.0

pub returns-in_err-names-clause-source : goal.returns-in_err-names-clause-source
returns-in_err-names-clause-source c = IfOk-from_err c.from_residual-in_err-names.result _ c.from_residual-in_err-names.ensures.0

pub returns-in_err-names-clause-predicates : goal.returns-in_err-names-clause-predicates
returns-in_err-names-clause-predicates c = IfOk-from_err c.from_residual-in_err-names.result _ c.from_residual-in_err-names.ensures.0

pub returns-in_err-names-clause-few : goal.returns-in_err-names-clause-few
returns-in_err-names-clause-few c = IfOk-from_err c.from_residual-in_err-names.result _ c.from_residual-in_err-names.ensures.0

pub returns-in_err-predicates-clause-cause : goal.returns-in_err-predicates-clause-cause
returns-in_err-predicates-clause-cause c =
    handed_on c.from_residual.result c.in_err-predicates.field-0.0 (λ e. (x : s.Sheet) → usages c.args.used.now ≡ usages_of x → IsPredicatesCause (predicates_of x) e) (λ e. (x : s.Sheet) → usages c.args.used.now ≡ usages_of x → IsCause c.args.alphabet.now x e)
    c.from_residual.ensures.1 (λ e k x u. predicates_cause c.args.alphabet.now x e (k x u)) c.in_err-predicates.ensures.cause
