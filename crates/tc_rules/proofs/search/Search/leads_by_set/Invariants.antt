use Rattle.std.proofs.Common.{take}
use Rattle.tc_rules.specs.Reached as r
use Rattle.tc_rules.specs.Rows.{words, all_words}
use Rattle.tc_rules.proofs.search.Search.leads_by_set.Given as goal

abbrev pub invariant-loop-number : goal.invariant-loop-number
invariant-loop-number l =
    r.IsGrown l.self.counts l.self.most (all_words l.initial.states.keys) (r.leads_by_set (words l.staying) (words l.moving) (take l.number (all_words l.self.letters.now.marked.items))) (all_words l.states.keys)
    × r.AreLeads l.self.counts (all_words l.states.keys) l.leads.items (r.leads_by_set (words l.staying) (words l.moving) (take l.number (all_words l.self.letters.now.marked.items)))
