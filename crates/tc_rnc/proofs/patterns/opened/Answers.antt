use Rattle.tc_rnc.specs.Refusals.{too_deep}
use Rattle.tc_rnc.specs.Stops.{no_mark}
use Rattle.tc_rnc.specs.Views as seen
use Rattle.tc_rnc.proofs.RefusalLaws.{refuses_map}
use Rattle.tc_rnc.proofs.PatternLaws.{lacks_at_end, lacks_first, deep_opening}
use Rattle.tc_rnc.proofs.patterns.opened.Goals as goal

pub returns-in_default-clause-no : goal.returns-in_default-clause-no
returns-in_default-clause-no c = refuses_map c.unexpected.ensures (λ v y. no_mark (lacks_at_end c.args.mark (seen.tokens c.args.tokens.now) c.in_default.ensures) y)

pub returns-then-not-is_mark-clause-no : goal.returns-then-not-is_mark-clause-no
returns-then-not-is_mark-clause-no c =
    refuses_map c.unexpected-then-not-is_mark.ensures
    (λ v y. no_mark (lacks_first c.args.mark (seen.token c.in-Some.opening.now) (seen.tokens c.args.tokens.now) (seen.tokens c.in-Some.rest.now) c.in-Some.ensures c.if-not-is_mark.ensures) y)

pub returns-then-deepest-eq0-clause-no : goal.returns-then-deepest-eq0-clause-no
returns-then-deepest-eq0-clause-no c = too_deep (deep_opening c.in-Some.ensures c.if-not-is_mark.ensures c.if-deepest-eq0.true)
