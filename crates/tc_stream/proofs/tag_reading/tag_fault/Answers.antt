use Rattle.tc_stream.specs.TagStands.{formless, whole}
use Rattle.tc_stream.proofs.tag_reading.tag_fault.Goals as goal

pub form-requires : goal.form-requires
form-requires c = c.requires.short

pub returns-in-Ok : goal.returns-in-Ok
returns-in-Ok c = let (w, read, written) = c.in-Ok.ensures.ok in whole read

pub returns-in-Err : goal.returns-in-Err
returns-in-Err c =
    formless c.in-Err.stop c.fault_of.ensures
    (record { none_open = c.in-Err.ensures.no; none_empty = c.in-Err.ensures.no_empty; stands = c.in-Err.ensures.stands; malformed = c.in-Err.ensures.malformed })
