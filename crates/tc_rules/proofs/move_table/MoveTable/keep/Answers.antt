use Rattle.std.proofs.Common.{List, refl, subst, sym, arith}
use Rattle.tc_rules.specs.Jobs.{AreJobs}
use Rattle.tc_rules.specs.Views.{predicates, moves, move}
use Rattle.tc_rules.specs.declared.walk.Move.{Move}
use Rattle.tc_rules.proofs.JobsOf.{one_more_job}
use Rattle.tc_rules.proofs.MoveTables.{found_by_number, filed_after, many_after, kept_there, put_moves}
use Rattle.tc_rules.proofs.move_table.MoveTable.keep.Goals as goal

pub place_of-place-requires : goal.place_of-place-requires
place_of-place-requires c = c.requires.some

pub returns-then-has_among-clause-moves : goal.returns-then-has_among-clause-moves
returns-then-has_among-clause-moves c =
    let m = move c.args.modes c.args.sought.now in
    let found = found_by_number (predicates c.args.numbered.now) c.args.modes c.args.self.now m c.mixed_move.result c.place_of-place.result c.numbers_at.result.now c.has_among.result c.requires c.mixed_move.ensures.number c.place_of-place.ensures.place c.numbers_at.ensures c.has_among.ensures in
    kept_there (moves c.args.modes c.args.self.now.moves.items) m c.has_among.result found c.if-has_among.true

pub put-requires : goal.put-requires
put-requires c = record { place = c.place_of-place.ensures.within; few = c.requires.few }

pub returns-then-begun-clause-cause : goal.returns-then-begun-clause-cause
returns-then-begun-clause-cause c =
    let m = move c.args.modes c.args.sought.now in
    let found = found_by_number (predicates c.args.numbered.now) c.args.modes c.args.self.now m c.mixed_move.result c.place_of-place.result c.numbers_at.result.now c.has_among.result c.requires c.mixed_move.ensures.number c.place_of-place.ensures.place c.numbers_at.ensures c.has_among.ensures in
    many_after (predicates c.args.numbered.now) c.args.modes c.args.self.now c.args.sought.now c.first_states.result c.requires c.first_states.ensures.count c.has_among.result found c.if-has_among.false (omega arith)

pub returns-clause-filed : goal.returns-clause-filed
returns-clause-filed c =
    filed_after (predicates c.args.numbered.now) c.args.modes c.args.self.now c.args.sought.now c.first_states.result c.requires c.first_states.ensures.count _ c.mixed_move.result c.place_of-place.result c.mixed_move.ensures.number c.place_of-place.ensures.place
    c.in_ok-put.ensures.moves c.in_ok-put.ensures.count c.in_ok-put.ensures.added c.in_ok-put.ensures.others refl (omega arith)

pub returns-clause-moves : goal.returns-clause-moves
returns-clause-moves c =
    let m = move c.args.modes c.args.sought.now in
    let found = found_by_number (predicates c.args.numbered.now) c.args.modes c.args.self.now m c.mixed_move.result c.place_of-place.result c.numbers_at.result.now c.has_among.result c.requires c.mixed_move.ensures.number c.place_of-place.ensures.place c.numbers_at.ensures c.has_among.ensures in
    put_moves (predicates c.args.numbered.now) c.args.modes c.args.self.now.moves.items _ c.args.sought.now c.has_among.result c.in_ok-put.ensures.moves found c.if-has_among.false

pub returns-clause-jobs : goal.returns-clause-jobs
returns-clause-jobs c = λ x h k.
    subst (λ (ms : List Move). AreJobs x ms) (sym c.in_ok-put.ensures.moves) (one_more_job x c.args.self.now.moves.items c.args.sought.now h k)
