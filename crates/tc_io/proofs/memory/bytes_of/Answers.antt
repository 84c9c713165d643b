use Rattle.std.proofs.Common.{Some, sym, ap, ◌∙◌}
use Rattle.std.proofs.lemmas.Option.{get_or_from_slice_get, slice_get_within}
use Rattle.tc_io.proofs.Files.{file_of_place}
use Rattle.tc_io.proofs.memory.bytes_of.Goals as goal

pub returns-in-Some : goal.returns-in-Some
returns-in-Some c =
    let p = c.in-Some.ensures.place in
    let same = get_or_from_slice_get c.args.files.now c.in-Some.place p.file c.index-files-place.result p.at_place in
    ap Some (c.as_slice.ensures.value ∙ ap (λ file. file.bytes.items) same) ∙ sym (file_of_place c.args.files.now c.args.name.now c.in-Some.place p)

pub bounds-files-place : goal.bounds-files-place
bounds-files-place c = slice_get_within c.args.files.now c.in-Some.place c.in-Some.ensures.place.file c.in-Some.ensures.place.at_place

pub returns-in-None : goal.returns-in-None
returns-in-None c = sym c.in-None.ensures.none
