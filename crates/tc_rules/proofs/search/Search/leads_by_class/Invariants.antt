use Rattle.std.proofs.Common.{◌≡◌, ℕ, Option, Some, flat_map, take}
use Rattle.tc_rules.specs.Reached as r
use Rattle.tc_rules.specs.Rows.{words, all_words}
use Rattle.tc_rules.specs.Words.{both_words}
use Rattle.tc_rules.proofs.search.Search.leads_by_class.Given as goal

abbrev pub invariant-loop-kind : goal.invariant-loop-kind
invariant-loop-kind l =
    r.IsGrown l.self.counts l.self.most (all_words l.initial.states.keys)
    (flat_map (λ kind. r.leads_by_set (words l.staying) (both_words (words l.waiting) kind) (all_words l.self.letters.now.marked.items)) (take l.kind-index (all_words l.self.letters.now.kinds.keys))) (all_words l.states.keys)
    × r.AreLeadsOfClasses l.self.counts (all_words l.states.keys) l.self.letters.now (words l.staying) (words l.waiting) l.found.items (take l.kind-index (all_words l.self.letters.now.kinds.keys))
    × ((j : Option ℕ) → l.known ≡ Some j → r.IsLead l.self.counts (all_words l.states.keys) j (words l.staying))
