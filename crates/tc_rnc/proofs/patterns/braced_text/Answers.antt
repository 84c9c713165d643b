use Rattle.tc_rnc.specs.Views as seen
use Rattle.tc_rnc.proofs.RefusalLaws.{passed, passes, map_ok}
use Rattle.tc_rnc.proofs.UnreadLaws.{unread_ok}
use Rattle.tc_rnc.proofs.PatternLaws.{a_braced_text, opening_text, text_stops}
use Rattle.tc_rnc.proofs.patterns.braced_text.Goals as goal

pub returns-in_err-inside-clause-no : goal.returns-in_err-inside-clause-no
returns-in_err-inside-clause-no c = passed _ _ c.from_residual.ensures.1 c.in_err-inside.ensures.no (λ v y. opening_text y)

pub returns-clause-ok : goal.returns-clause-ok
returns-clause-ok c =
    map_ok _ _ c.balanced.result
    (λ r m. a_braced_text c.args.deepest c.in_ok-inside.deeper (seen.tokens c.args.tokens.now) (seen.tokens c.in_ok-inside.inside.now) (seen.tokens r.now) c.in_ok-inside.ensures.depth c.in_ok-inside.ensures.ok m) c.balanced.ensures.ok

pub returns-clause-no : goal.returns-clause-no
returns-clause-no c = passes c.balanced.result c.balanced.ensures.no (λ v y. text_stops c.in_ok-inside.ensures.depth c.in_ok-inside.ensures.ok y)

pub returns-in_err-inside-clause-ok : goal.returns-in_err-inside-clause-ok
returns-in_err-inside-clause-ok c = unread_ok _ _ _ c.from_residual.ensures.1
