-- What contracts see of spots, and of instructions and branches that are put one after the other.
use Rattle.std.specs.Borrow.{Bor}
use Rattle.std.specs.Prelude.{◌≡◌, ◌+◌, List, [], ◌∷◌, map, Bool}
use Rattle.tc_model.specs.Sheets as s
use Rattle.tc_model.specs.Sheets.{Body, Branches}
use Rattle.tc_model.specs.Views.{instruction, body, branches, rule}
use Rattle.tc_model.specs.declared.sheet.Instr.{Instr}
use Rattle.tc_model.specs.declared.sheet.Branch.{Branch}
use Rattle.tc_model.specs.declared.sheet.Rule.{Rule as ArenaRule}
use Rattle.tc_dead.specs.declared.spots.Spot.{Spot}
use Rattle.tc_dead.specs.declared.spots.Spot.TheVariants as v
use Rattle.tc_dead.specs.declared.marking.Numbers.{Numbers}
use Rattle.tc_dead.specs.Spots as spots
use Rattle.tc_dead.specs.Spots.{same_spot, branches_of, branches_in, eaches_of, eaches_in, branches_of_all, eaches_of_all, rules_from, bodies_from}
use Rattle.tc_dead.specs.Marked.{begun, marked_before, marked_branches, marked_rule, marked_body}

abbrev pub seen : Spot → spots.Spot
seen (v.Rule k) = spots.a_rule k
seen (v.Named k) = spots.a_named_body k
seen (v.Branch k) = spots.a_branch k

-- bodies in an arena
abbrev pub bodies : List (Bor (List Instr)) → List Body
bodies bs = map (λ b. body b.now) bs

-- an instruction alone
abbrev pub alone : Instr → Body
alone i = instruction i s.no_instruction

-- instructions before those after them
abbrev pub placed : List Instr → Body → Body
placed [] rest = rest
placed (i ∷ is) rest = instruction i (placed is rest)

-- branches with an empty body behind them
abbrev pub open_branches : List Branch → Branches
open_branches bs = branches bs (s.otherwise s.no_instruction)

-- the numbers behind a body's
pub record IsPast (b : Body) (old new : Numbers) : Type 0 where
  pub branches : new.branch ≡ old.branch + branches_of b
  pub eaches : new.each ≡ old.each + eaches_of b

-- an instruction that was put, marked, behind others, and the numbers behind its own
pub record IsPut (p : spots.Spot) (i : Instr) (old new : Numbers) (before after : List Instr) : Type 0 where
  pub means : (later rest : Body) → placed after (marked_before p new.branch new.each later rest) ≡ placed before (marked_before p old.branch old.each (instruction i later) rest)
  pub past : IsPast (alone i) old new

-- a body that was put so
pub record IsPutBody (p : spots.Spot) (b : List Instr) (old new : Numbers) (before after : List Instr) : Type 0 where
  pub means : (rest : Body) → placed after rest ≡ placed before (marked_before p old.branch old.each (body b) rest)
  pub past : IsPast (body b) old new

-- a body that was marked by itself, with a mark at its start or not
pub record IsBegunBody (p : spots.Spot) (is_spot : Bool) (b : List Instr) (old new : Numbers) (marked : List Instr) : Type 0 where
  pub means : body marked ≡ begun is_spot (marked_before p old.branch old.each (body b) s.no_instruction)
  pub past : IsPast (body b) old new

-- branches, whatever stands behind them
pub record IsMarkedBranches (p : spots.Spot) (bs : List Branch) (old new : Numbers) (marked : List Branch) : Type 0 where
  pub means : (rest : Branches) → branches marked (marked_branches p new.branch new.each rest) ≡ marked_branches p old.branch old.each (branches bs rest)
  pub branches_past : new.branch ≡ old.branch + branches_in (open_branches bs)
  pub eaches_past : new.each ≡ old.each + eaches_in (open_branches bs)

-- the last branch
pub record IsMarkedLast (p : spots.Spot) (b : List Instr) (old new : Numbers) (marked : List Instr) : Type 0 where
  pub means : s.otherwise (body marked) ≡ marked_branches p old.branch old.each (s.otherwise (body b))
  pub branches_past : new.branch ≡ old.branch + branches_in (s.otherwise (body b))
  pub eaches_past : new.each ≡ old.each + eaches_of (body b)

-- the rules of a stylesheet
pub record IsMarkedRules (p : spots.Spot) (rs : List ArenaRule) (old new : Numbers) (marked : List ArenaRule) : Type 0 where
  pub means : map rule marked ≡ map (marked_rule p) (rules_from 1 old.branch old.each (map rule rs))
  pub branches_past : new.branch ≡ old.branch + branches_of_all (map (λ r. r.body) (map rule rs))
  pub eaches_past : new.each ≡ old.each + eaches_of_all (map (λ r. r.body) (map rule rs))

-- and its named bodies
pub record IsMarkedNamed (p : spots.Spot) (bs : List (Bor (List Instr))) (old new : Numbers) (marked : List (Bor (List Instr))) : Type 0 where
  pub means : bodies marked ≡ map (marked_body p) (bodies_from 1 old.branch old.each (bodies bs))
  pub branches_past : new.branch ≡ old.branch + branches_of_all (bodies bs)
  pub eaches_past : new.each ≡ old.each + eaches_of_all (bodies bs)
