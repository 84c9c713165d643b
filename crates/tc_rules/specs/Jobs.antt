-- What jobs a stylesheet has: its modes, and its for-eaches by their numbers.
use Rattle.std.specs.Prelude.{ℕ, ◌<◌, ◌++◌, List, flat_map}
use Rattle.std.specs.List.{AllByRecursion}
use Rattle.tc_model.specs.Sheets.{Sheet}
use Rattle.tc_model.specs.Numberings.{Move, moves_in_body}
use Rattle.tc_rules.specs.Gathered.{built_in_moves}
use Rattle.tc_rules.specs.declared.walk.Job.{Job}
use Rattle.tc_rules.specs.declared.walk.Job.TheVariants as jobs
use Rattle.tc_rules.specs.declared.walk.Move.{Move as MoveOf}

abbrev pub IsJob : Sheet → Job → Type 0
IsJob x (jobs.Mode m) = m < x.modes
IsJob x (jobs.Each e) = e < x.eaches

abbrev pub AreJobs : Sheet → List MoveOf → Type 0
AreJobs x ms = AllByRecursion (λ m. IsJob x m.job) ms

-- the moves as they are written, the modes of for-eaches being counted on from a number
abbrev pub written_moves : ℕ → Sheet → List Move
written_moves k x = built_in_moves x.modes ++ (flat_map (λ r. moves_in_body k r.body) x.rules ++ flat_map (moves_in_body k) x.named)
