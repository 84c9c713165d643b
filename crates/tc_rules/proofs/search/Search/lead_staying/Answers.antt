use Rattle.tc_rules.specs.Rows.{words, all_words}
use Rattle.tc_rules.proofs.Searching.{put_known}
use Rattle.tc_rules.proofs.search.Search.lead_staying.Goals as goal

pub returns-in-Some-clause-done : goal.returns-in-Some-clause-done
returns-in-Some-clause-done c =
    let lead = c.requires.known c.in-Some.number c.in-Some.is in
    (record { put = put_known c.args.self.now.counts (all_words c.args.states.now.keys) c.in-Some.number (words c.args.staying.now) lead; few = c.requires.few }, lead)
