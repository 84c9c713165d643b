use Rattle.std.proofs.Common.{◌∙◌, Bor, Option, ap, option_map, sym}
use Rattle.std.proofs.lemmas.Option.{slice_get-map}
use Rattle.tc_rules.specs.MoveTables.{is_move}
use Rattle.tc_rules.specs.Views.{move}
use Rattle.tc_rules.specs.declared.walk.Move.{Move}
use Rattle.tc_rules.proofs.Searched.{looked}
use Rattle.tc_rules.proofs.move_table.MoveTable.is_move_at.Goals as goal

pub returns-in-Some : goal.returns-in-Some
returns-in-Some c =
    let all = c.args.self.now.moves.items in
    c.same_job.ensures
    ∙ sym (ap (is_move (move c.args.modes c.args.sought.now)) (slice_get-map (move c.args.modes) all c.args.number
    ∙ ap (option_map (move c.args.modes)) (looked all c.deref.result.now c.args.number c.get.result c.deref.ensures.value c.get.ensures.lookup ∙ ap (λ (o : Option (Bor Move)). option_map (λ (b : Bor Move). b.now) o) c.in-Some.is)))

pub returns-in-None : goal.returns-in-None
returns-in-None c =
    let all = c.args.self.now.moves.items in
    sym (ap (is_move (move c.args.modes c.args.sought.now)) (slice_get-map (move c.args.modes) all c.args.number
    ∙ ap (option_map (move c.args.modes)) (looked all c.deref.result.now c.args.number c.get.result c.deref.ensures.value c.get.ensures.lookup ∙ ap (λ (o : Option (Bor Move)). option_map (λ (b : Bor Move). b.now) o) c.in-None.is)))
