-- What contracts see of lists of rules and of bodies, and the moves of the built-in rules.
use Rattle.std.specs.Prelude.{ℕ, List, [], ◌∷◌, map, slice_set}
use Rattle.std.specs.Borrow.{Bor}
use Rattle.std.specs.Global.{Vec}
use Rattle.tc_model.specs.Views as see
use Rattle.tc_model.specs.Sheets.{Body}
use Rattle.tc_model.specs.Meaning.{all_children}
use Rattle.tc_model.specs.Numbered.{numbers_below}
use Rattle.tc_model.specs.Numberings.{Move}
use Rattle.tc_model.specs.declared.sheet.Instr.{Instr}
use Rattle.tc_rules.specs.Eaches.{Each}

abbrev pub numbers : List (Vec ℕ) → List (List ℕ)
numbers xs = map (λ w. w.items) xs

abbrev pub bodies : List (Bor (List Instr)) → List Body
bodies xs = map (λ b. see.body b.now) xs

-- the body of each for-each goes to its number, one after the other
abbrev pub bodies_with : List Body → List Each → List Body
bodies_with bs [] = bs
bodies_with bs (x ∷ xs) = bodies_with (slice_set bs x.number x.body) xs

-- the moves to all children, one in each of so many modes
abbrev pub built_in_moves : ℕ → List Move
built_in_moves modes = map (λ m. record { path = all_children; mode = m }) (numbers_below modes)
