-- How deep elements stand in a body, part by part.
use Rattle.std.proofs.Common.{◌≡◌, ◌<◌, ◌≤◌, ◌+◌, ℕ, max, min, List, length, get_or, drop, sym, ap, ◌∙◌, arith}
use Rattle.tc_model.specs.Sheets.{Body, no_instruction, put_text, put_element, copy, apply, call, for_each, value, value_of_self, choose, Branches}
use Rattle.tc_model.specs.Views as see
use Rattle.tc_model.specs.declared.sheet.Instr.{Instr}
use Rattle.tc_model.proofs.ViewsBody.{body_then, instruction_then, left_instruction}
use Rattle.tc_beh.specs.Heights.{depth_in, depth_in_branches}
use Rattle.tc_beh.specs.Opening.{Open, IsOpenAt}
use Rattle.tc_beh.specs.declared.bodies.Place.{Place}

pub depth_then : (a b : Body) → depth_in (body_then a b) ≡ max (depth_in a) (depth_in b)
depth_then no_instruction b = omega arith
depth_then (put_text t a) b = depth_then a b
depth_then (put_element n i a) b = omega (arith, depth_then a b)
depth_then (copy i a) b = omega (arith, depth_then a b)
depth_then (apply w m a) b = depth_then a b
depth_then (call n a) b = depth_then a b
depth_then (value w a) b = depth_then a b
depth_then (value_of_self a) b = depth_then a b
depth_then (choose y a) b = omega (arith, depth_then a b)
depth_then (for_each e w i a) b = omega (arith, depth_then a b)

-- an instruction alone, and those after it
pub depth_first : (i : Instr) (rest : Body) → depth_in (see.instruction i rest) ≡ max (depth_in (see.instruction i no_instruction)) (depth_in rest)
depth_first i rest = ap depth_in (sym (instruction_then i no_instruction rest)) ∙ depth_then (see.instruction i no_instruction) rest

-- the instruction that comes next in a loop, and those after it, are no deeper than what is left
pub depth_next : (is : List Instr) (k : ℕ) (i : Instr) → k < length is → i ≡ get_or is k i
    → (depth_in (see.instruction i no_instruction) ≤ depth_in (see.body (drop k is))) × (depth_in (see.body (drop (k + 1) is)) ≤ depth_in (see.body (drop k is)))
depth_next is k i h e =
    let all : depth_in (see.body (drop k is)) ≡ max (depth_in (see.instruction i no_instruction)) (depth_in (see.body (drop (k + 1) is))) = ap depth_in (left_instruction is k i h e) ∙ depth_first i (see.body (drop (k + 1) is)) in
    (omega (arith, all), omega (arith, all))

-- a set may be opened for an element or a copy
pub open_inside : (p : Place) (d : ℕ) (o : Open) → IsOpenAt p (max (min (d + 1) 8001) 0) o → IsOpenAt p (d + 1) o
open_inside p d o is =
    let room = is.room in
    let few = is.few in
    record { size = is.size; text = is.text; remembers = is.remembers; links = is.links; room = omega (arith, room, few); few = few }

-- the branches of a choice
pub open_chosen : (p : Place) (y : Branches) (o : Open) → IsOpenAt p (depth_in (choose y no_instruction)) o → IsOpenAt p (depth_in_branches y) o
open_chosen p y o is =
    let room = is.room in
    record { size = is.size; text = is.text; remembers = is.remembers; links = is.links; room = omega (arith, room); few = is.few }
