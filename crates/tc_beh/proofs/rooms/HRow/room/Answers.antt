use Rattle.std.proofs.Common.{◌∙◌, arith}
use Rattle.tc_beh.proofs.Steps.{no_value}
use Rattle.tc_beh.proofs.rooms.HRow.room.Goals as goal

pub returns : goal.returns
returns c = λ x is.
    let shape = c.shape-shape.ensures x is in
    let room = c.in_ok-room.ensures in
    record { flags = room.flags ∙ shape.input_states; entries = room.entries ∙ shape.entry_number; count = omega (arith, room.count, shape.input_states, shape.entry_number, shape.look_number) }

pub returns-in_err-room : goal.returns-in_err-room
returns-in_err-room c = no_value c.from_residual.result _ _ c.from_residual.ensures.1
