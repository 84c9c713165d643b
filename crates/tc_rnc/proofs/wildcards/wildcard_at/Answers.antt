use Rattle.std.proofs.Common.{refl}
use Rattle.tc_scan.proofs.NamesLaws.{at_none}
use Rattle.tc_rnc.specs.Scopes.{scope_of}
use Rattle.tc_rnc.specs.Views as seen
use Rattle.tc_rnc.specs.Wildcards.{namespace, any}
use Rattle.tc_rnc.proofs.WildcardLaws.{no_token, no_wildcard, not_bound}
use Rattle.tc_rnc.proofs.wildcards.wildcard_at.Goals as goal

pub returns-in_err-first : goal.returns-in_err-first
returns-in_err-first c = at_none _ c.from_residual.ensures (no_token (scope_of c.args.scope.now) c.in_err-first.ensures)

pub returns-then-is_mark : goal.returns-then-is_mark
returns-then-is_mark c = any c.in_ok-first.ensures c.if-is_mark.ensures refl

pub returns-in_err-prefix : goal.returns-in_err-prefix
returns-in_err-prefix c =
    at_none _ c.from_residual-in_err-prefix.ensures (no_wildcard (scope_of c.args.scope.now) c.in_ok-first.ensures c.if-is_mark.ensures (λ p k. absurd (c.in_err-prefix.ensures p k)))

pub returns-in_err-uri : goal.returns-in_err-uri
returns-in_err-uri c =
    at_none _ c.from_residual-in_err-uri.ensures
    (no_wildcard (scope_of c.args.scope.now) c.in_ok-first.ensures c.if-is_mark.ensures (not_bound (scope_of c.args.scope.now) (seen.token c.in_ok-first.first.now) c.in_ok-prefix.prefix.now c.in_ok-prefix.ensures c.in_err-uri.ensures))

pub returns : goal.returns
returns c = namespace c.in_ok-first.ensures c.in_ok-prefix.ensures c.in_ok-uri.ensures refl
