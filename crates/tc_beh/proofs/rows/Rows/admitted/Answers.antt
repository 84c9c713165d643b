use Rattle.std.proofs.Common.{◌≡◌, length, ap, ◌∙◌, sym, subst}
use Rattle.std.specs.List.{list_any}
use Rattle.tc_auto.specs.Stands.{Stands}
use Rattle.tc_auto.specs.declared.auto.Auto.{Auto}
use Rattle.tc_model.specs.States.{input, is_alternative}
use Rattle.tc_beh.specs.Rooms.{flagged, flags_in}
use Rattle.tc_beh.proofs.rows.Rows.admitted.Goals as goal

pub returns : goal.returns
returns c = λ x are.
    let room = c.args.t.now.room in
    let stands : Stands input x.input c.auto.result.now = subst (λ (a : Auto). Stands input x.input a) (sym c.auto.ensures) are.machine.parts.contents.auto in
    let flags : c.flags.result.now ≡ flags_in (length x.input.elements) room.numbers.items =
    c.flags.ensures.value ∙ ap (λ n. flags_in n room.numbers.items) (c.requires.tree x are).parted.flags
    in
    c.has_start.ensures input x.input stands ∙ ap (λ fs. list_any (λ k. is_alternative k x.input.start) (flagged 1 fs)) flags
