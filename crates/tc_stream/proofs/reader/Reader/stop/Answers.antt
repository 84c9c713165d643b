use Rattle.std.proofs.Common.{◌≤◌, ◌+◌, refl, arith}
use Rattle.tc_stream.proofs.StopReads.{stop_room, declared_room, typed_room, not_between_at}
use Rattle.tc_stream.proofs.reader.Reader.stop.Goals as goal

pub returns-in-Between : goal.returns-in-Between
returns-in-Between c = λ x chars r here. omega (arith, here)

pub returns-in-Data : goal.returns-in-Data
returns-in-Data c = λ x chars r here. omega (arith, here)

pub returns-in-Declaration : goal.returns-in-Declaration
returns-in-Declaration c = λ x chars r here. declared_room c.stops.result c.args.place r c.in-Declaration.is here c.stops.ensures

pub returns-in-Doctype : goal.returns-in-Doctype
returns-in-Doctype c = λ x chars r here. typed_room c.stops-in-Doctype.result c.args.place r (not_between_at c.in-Doctype.is refl) here c.stops-in-Doctype.ensures

pub returns-in-Markup : goal.returns-in-Markup
returns-in-Markup c = λ x chars r here. stop_room c.no_tag.result r (not_between_at c.in-Markup.is refl) c.no_tag.ensures

pub returns-in-Marked : goal.returns-in-Marked
returns-in-Marked c = λ x chars r here. stop_room c.no_item.result r (not_between_at c.in-Marked.is refl) c.no_item.ensures

pub returns-in-Mark : goal.returns-in-Mark
returns-in-Mark c = λ x chars r here. stop_room c.no_item-in-Mark.result r (not_between_at c.in-Mark.is refl) c.no_item-in-Mark.ensures

pub returns-in_default : goal.returns-in_default
returns-in_default c = λ x chars r here.
    let low : c.args.self.now.begun ≤ c.args.self.now.begun + 1 = omega arith in
    stop_room c.args.self.now.begun r c.in_default.not-Between low
