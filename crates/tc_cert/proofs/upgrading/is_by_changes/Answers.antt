use Rattle.tc_cert.proofs.upgrading.is_by_changes.Goals as goal

pub returns-in-None : goal.returns-in-None
returns-in-None c = λ b. c.in-None.ensures b.rest b.spelled
