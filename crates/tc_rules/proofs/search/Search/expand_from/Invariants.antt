use Rattle.std.proofs.Common.{◌≤◌, length}
use Rattle.tc_rules.specs.Reached as r
use Rattle.tc_rules.specs.Rows.{all_words}
use Rattle.tc_rules.specs.Words.{same_words}
use Rattle.tc_rules.proofs.LeadRows.{words_self}
use Rattle.tc_rules.proofs.Rounds.{IsExpanding}
use Rattle.tc_rules.proofs.search.Search.expand_from.Given as goal

abbrev pub invariant-loop-number : goal.invariant-loop-number
invariant-loop-number l =
    IsExpanding same_words words_self (r.kept_by l.self.counts) (r.leads_from l.self.letters.now) (all_words l.initial.found.states.keys) l.from l.number (all_words l.found.states.keys)
    × (length (all_words l.found.states.keys) ≤ l.self.most)
    × r.AreLed l.self.counts l.self.letters.now l.number l.found
