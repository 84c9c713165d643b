-- What rules keep, and what they tell.
use Rattle.std.specs.Prelude.{◌≡◌, ℕ, suc, ◌+◌, ◌<◌, List, [], ◌∷◌, length, map, take, Some, slice_get, nat_eq, if◌then◌else◌}
use Rattle.tc_model.specs.Views as see
use Rattle.tc_model.specs.Symbols.{Mention}
use Rattle.tc_model.specs.Numberings.{moves_of, looks_of}
use Rattle.tc_model.specs.Sheets.{Rule}
use Rattle.tc_rules.specs.Graphs.{Graph}
use Rattle.tc_rules.specs.Rows.{graph, graphs, AllKeepEndings}
use Rattle.tc_rules.specs.Jobs.{AreJobs}
use Rattle.tc_rules.specs.Views as seen
use Rattle.tc_rules.specs.RulesView.{RulesView, IsTold, count_states}
use Rattle.tc_rules.specs.declared.rules.Rules.{Rules}

abbrev pub told : Rules → RulesView
told r = record {
  sheet = see.sheet r.sheet;
  predicates = seen.predicates r.predicates.items;
  eaches = map (λ b. see.body b.now) r.eaches.items;
  ancestors = graph r.above;
  selects = graphs r.graphs.items;
}

-- the numbers of the rules of a mode, counted on from a number
abbrev pub numbers_in_mode : ℕ → ℕ → List Rule → List ℕ
numbers_in_mode m i [] = []
numbers_in_mode m i (q ∷ rules) = if nat_eq q.mode m then (i ∷ numbers_in_mode m (suc i) rules) else numbers_in_mode m (suc i) rules

-- they tell the meaning of their stylesheet over these symbols, and its moves, its looks, the rules of its modes and the places of states stand in tables
pub record IsRulesOf (symbols : List Mention) (r : Rules) : Type 0 where
  pub tells : IsTold symbols (told r)
  pub moves : seen.moves r.sheet.modes r.moves.items ≡ moves_of (told r).sheet
  pub looks : seen.looks r.looks.items ≡ looks_of (told r).sheet
  pub jobs : AreJobs (told r).sheet r.moves.items
  pub starts : (i : ℕ) → i < length r.graphs.items + 1 → slice_get r.starts.items i ≡ Some (count_states (take i (told r).selects))
  -- where each select state stands
  pub places : (i : ℕ) (g : Graph) (j : ℕ) → slice_get (told r).selects i ≡ Some g → j < length g.states → slice_get r.selects.items (count_states (take i (told r).selects) + j) ≡ Some (record { graph = i; state = j })
  -- each graph of select states keeps the alternatives of which all steps but the last may have been taken at its states; that of ancestor states is asked
  -- rule by rule, and keeps them unread
  pub ending : AllKeepEndings r.graphs.items
  -- the numbers of the rules of each mode, in order
  pub modes : (m : ℕ) → m < r.sheet.modes → slice_get (map (λ w. w.items) r.modes.items) m ≡ Some (numbers_in_mode m 0 (told r).sheet.rules)
