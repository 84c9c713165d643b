use Rattle.tc_path.proofs.TokenLaws.{marked_twice, marked_once, not_marked, match_map}
use Rattle.tc_path.proofs.token.mark_at.Goals as goal

pub returns-in-Some : goal.returns-in-Some
returns-in-Some c = marked_twice c.in-Some.ensures

pub returns-in-None : goal.returns-in-None
returns-in-None c = match_map c.single_at.result (λ h m after. not_marked c.in-None.ensures h) (λ r h. marked_once c.in-None.ensures h) c.single_at.ensures
