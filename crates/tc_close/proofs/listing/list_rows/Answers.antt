use Rattle.tc_close.proofs.listing.list_rows.Goals as goal

pub returns-clause-rows : goal.returns-clause-rows
returns-clause-rows c = c.list_over.ensures.rows

pub returns-clause-cause : goal.returns-clause-cause
returns-clause-cause c = c.list_over.ensures.cause
