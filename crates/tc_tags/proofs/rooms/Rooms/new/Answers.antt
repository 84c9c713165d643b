use Rattle.tc_tags.proofs.FailedLaws.{no_value}
use Rattle.tc_tags.proofs.rooms.Rooms.new.Goals as goal

pub returns-in_err-names-clause-names : goal.returns-in_err-names-clause-names
returns-in_err-names-clause-names c = no_value c.from_residual.result _ _ c.from_residual.ensures.1

pub returns-in_err-names-clause-most : goal.returns-in_err-names-clause-most
returns-in_err-names-clause-most c = no_value c.from_residual.result _ _ c.from_residual.ensures.1

pub returns-in_err-names-clause-declared : goal.returns-in_err-names-clause-declared
returns-in_err-names-clause-declared c = no_value c.from_residual.result _ _ c.from_residual.ensures.1

pub returns-in_err-names-clause-chains : goal.returns-in_err-names-clause-chains
returns-in_err-names-clause-chains c = no_value c.from_residual.result _ _ c.from_residual.ensures.1

pub returns-in_err-scopes-clause-names : goal.returns-in_err-scopes-clause-names
returns-in_err-scopes-clause-names c = no_value c.from_residual-in_err-scopes.result _ _ c.from_residual-in_err-scopes.ensures.1

pub returns-in_err-scopes-clause-most : goal.returns-in_err-scopes-clause-most
returns-in_err-scopes-clause-most c = no_value c.from_residual-in_err-scopes.result _ _ c.from_residual-in_err-scopes.ensures.1

pub returns-in_err-scopes-clause-declared : goal.returns-in_err-scopes-clause-declared
returns-in_err-scopes-clause-declared c = no_value c.from_residual-in_err-scopes.result _ _ c.from_residual-in_err-scopes.ensures.1

pub returns-in_err-scopes-clause-chains : goal.returns-in_err-scopes-clause-chains
returns-in_err-scopes-clause-chains c = no_value c.from_residual-in_err-scopes.result _ _ c.from_residual-in_err-scopes.ensures.1

pub returns-in_err-attributes-clause-names : goal.returns-in_err-attributes-clause-names
returns-in_err-attributes-clause-names c = no_value c.from_residual-in_err-attributes.result _ _ c.from_residual-in_err-attributes.ensures.1

pub returns-in_err-attributes-clause-most : goal.returns-in_err-attributes-clause-most
returns-in_err-attributes-clause-most c = no_value c.from_residual-in_err-attributes.result _ _ c.from_residual-in_err-attributes.ensures.1

pub returns-in_err-attributes-clause-declared : goal.returns-in_err-attributes-clause-declared
returns-in_err-attributes-clause-declared c = no_value c.from_residual-in_err-attributes.result _ _ c.from_residual-in_err-attributes.ensures.1

pub returns-in_err-attributes-clause-chains : goal.returns-in_err-attributes-clause-chains
returns-in_err-attributes-clause-chains c = no_value c.from_residual-in_err-attributes.result _ _ c.from_residual-in_err-attributes.ensures.1

pub returns-clause-most : goal.returns-clause-most
returns-clause-most c = c.in_ok-names.ensures.most

pub returns-clause-declared : goal.returns-clause-declared
returns-clause-declared c = c.in_ok-scopes.ensures.declared

pub returns-clause-chains : goal.returns-clause-chains
returns-clause-chains c = c.in_ok-scopes.ensures.chains
