use Rattle.std.proofs.Common.{◌≤◌, ◌-◌, length}
use Rattle.tc_rules.specs.Reached as r
use Rattle.tc_rules.specs.Rows.{words, all_words}
use Rattle.tc_rules.specs.Words.{same_words}
use Rattle.tc_rules.proofs.LeadRows.{words_self}
use Rattle.tc_rules.proofs.Rounds.{IsSoFar}
use Rattle.tc_rules.proofs.search.Search.reached.Given as goal

abbrev pub invariant-loop-from : goal.invariant-loop-from
invariant-loop-from l = record {
  so_far : IsSoFar same_words words_self (r.kept_by l.self.counts) (r.leads_from l.self.letters.now) (words l.fn.first) (all_words l.found.states.keys) l.from;
  few : length (all_words l.found.states.keys) ≤ l.self.most;
  within : l.from ≤ length (all_words l.found.states.keys);
  led : r.AreLed l.self.counts l.self.letters.now l.from l.found;
}

abbrev pub decreases-loop-from : goal.decreases-loop-from
decreases-loop-from l = l.self.most - l.from
