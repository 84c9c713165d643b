use Rattle.std.proofs.Common.{refl}
use Rattle.tc_sheet.proofs.BodyLaws.{body_pushed, body_stays}
use Rattle.tc_sheet.proofs.bodies.put_read.Goals as goal

pub returns-in-None-clause-ok : goal.returns-in-None-clause-ok
returns-in-None-clause-ok c = λ rest. body_stays c.args.found.now.items c.args.found.now.items c.args.read refl c.in-None.is rest

pub returns-in_ok-push-in-Some-clause-ok : goal.returns-in_ok-push-in-Some-clause-ok
returns-in_ok-push-in-Some-clause-ok c = λ rest. body_pushed _ _ c.in-Some.written c.args.read c.in_ok-push-in-Some.ensures.items c.in-Some.is rest

pub returns-in-None-clause-no : goal.returns-in-None-clause-no
returns-in-None-clause-no c = tt

pub returns-in_ok-push-in-Some-clause-no : goal.returns-in_ok-push-in-Some-clause-no
returns-in_ok-push-in-Some-clause-no c = tt
