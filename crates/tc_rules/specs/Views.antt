-- What contracts see of predicates, moves and looks: the same data without addresses.
use Rattle.std.specs.Prelude.{ℕ, ◌+◌, List, map}
use Rattle.std.specs.Borrow.{Bor}
use Rattle.tc_model.specs.Views as see
use Rattle.tc_model.specs.Sheets as s
use Rattle.tc_model.specs.Numberings as n
use Rattle.tc_model.specs.declared.sheet.Test.{Test}
use Rattle.tc_model.specs.declared.sheet.Path.{Path}
use Rattle.tc_rules.specs.declared.walk.Job.{Job}
use Rattle.tc_rules.specs.declared.walk.Job.TheVariants as jobs
use Rattle.tc_rules.specs.declared.walk.Move.{Move}
use Rattle.tc_rules.specs.Usages as u
use Rattle.tc_rules.specs.declared.walk.Usage.{Usage}
use Rattle.tc_rules.specs.declared.walk.Usage.TheVariants as of

abbrev pub predicates : List (Bor Test) → List s.Test
predicates xs = map (λ t. see.test t.now) xs

abbrev pub looks : List (Bor Path) → List s.Path
looks xs = map (λ p. see.path p.now) xs

-- the mode of a job: a for-each has that of its own number, counted on from the modes
abbrev pub mode_of : ℕ → Job → ℕ
mode_of modes (jobs.Mode m) = m
mode_of modes (jobs.Each e) = modes + e

abbrev pub move : ℕ → Move → n.Move
move modes m = record { path = see.path m.path.now; mode = mode_of modes m.job }

abbrev pub moves : ℕ → List Move → List n.Move
moves modes xs = map (move modes) xs

abbrev pub usage : Usage → u.Usage
usage (of.Pattern p) = u.of_pattern (see.match_pattern p.now)
usage (of.Test t) = u.of_test (see.test t.now)
usage (of.Value p) = u.of_value (see.path p.now)
usage (of.Apply p m) = u.of_apply (see.path p.now) m
usage (of.Each e p b) = u.of_each e (see.path p.now) (see.body b.now)

abbrev pub usages : List Usage → List u.Usage
usages xs = map usage xs
