-- Where states of moves go on a node.
use Rattle.std.specs.Prelude.{◌≡◌, ◌<◌, ℕ, List, length, get_or, true, MatchOption}
use Rattle.tc_alpha.specs.declared.alphabet.Sym.{Sym}
use Rattle.tc_model.specs.Letters.{IsLetter}
use Rattle.tc_model.specs.Numberings.{predicates_of}
use Rattle.tc_model.specs.PathStates.{State, is_empty_state}
use Rattle.tc_model.specs.StateCounts.{PathUse}
use Rattle.tc_model.specs.Symbols.{Mention}
use Rattle.tc_rules.specs.Asked as asked
use Rattle.tc_rules.specs.Kept.{IsRulesOf, told}
use Rattle.tc_rules.specs.RulesView.{IsStateOf, is_hit_of, select_below, move_count}
use Rattle.tc_rules.specs.declared.rules.Kind.TheVariants.{Elem}
use Rattle.tc_rules.specs.declared.rules.Rules.{Rules}
use Rattle.tc_beh.specs.Above.{letter_of}
use Rattle.tc_beh.specs.declared.above.Letter.{Letter}
use Rattle.tc_beh.specs.declared.leads.Lead.{Lead}

-- whether a state hits a node of a letter, and where it goes below it
pub record IsLead (r : Rules) (l : Letter) (k : ℕ) (v : Lead) : Type 0 where
  pub hits : (symbols : List Mention) (b : PathUse) (s : State) → IsRulesOf symbols r → IsLetter symbols (predicates_of (told r).sheet) (letter_of l) → IsStateOf (told r) k b s → v.hits ≡ is_hit_of symbols (told r) b s (letter_of l)
  pub below : (a : Sym) → l.kind ≡ Elem a → (symbols : List Mention) (b : PathUse) (s : State) → IsRulesOf symbols r → IsLetter symbols (predicates_of (told r).sheet) (asked.letter (Elem a) l.marks) → IsStateOf (told r) k b s
      → MatchOption v.below (is_empty_state (select_below symbols (told r) b s (asked.letter (Elem a) l.marks)) ≡ true) (λ n. IsStateOf (told r) n b (select_below symbols (told r) b s (asked.letter (Elem a) l.marks)))

-- each is that of the state of its place
abbrev pub AreLeads : Rules → Letter → List Lead → Type 0
AreLeads r l vs = (k : ℕ) (d : Lead) → k < length vs → k < move_count (told r) → IsLead r l k (get_or vs k d)
