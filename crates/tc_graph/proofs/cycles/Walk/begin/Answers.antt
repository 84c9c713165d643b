use Rattle.std.proofs.Common.{◌∙◌, ◌<◌, refl, ap, sym, subst, arith, length}
use Rattle.tc_graph.specs.Graph.{rows_of}
use Rattle.tc_graph.specs.Walks.{IsWalk, entered, seen}
use Rattle.tc_graph.proofs.Marks.{count_rows, row_at}
use Rattle.tc_graph.proofs.Tops.{on_ok, state_is}
use Rattle.tc_graph.proofs.Walks.{walk_enter}
use Rattle.tc_graph.proofs.cycles.Walk.begin.Goals as goal

pub returns-in-New-clause-walk : goal.returns-in-New-clause-walk
returns-in-New-clause-walk c =
    let rows = c.args.rows.now in
    let s = seen c.args.self.now in
    let small : c.args.number < length (rows_of rows) = subst (λ n. c.args.number < n) (sym (count_rows rows)) c.requires.within in
    let states : c.args.number < length s.states = subst (λ n. c.args.number < n) (sym c.requires.rest.walk.size) small in
    let new = state_is s.states c.args.number _ _ states c.index.ensures c.in-New.is in
    let walks = walk_enter (rows_of rows) s c.args.number c.requires.rest.walk small new (λ i h. absurd (omega (arith, h, ap length c.requires.rest.empty))) in
    on_ok c.enter.result (λ e. subst (IsWalk (rows_of rows)) (sym (e ∙ ap (λ r. entered c.args.number r s) (sym (row_at rows c.args.number _ c.requires.within)))) walks) c.enter.ensures

pub bounds-rows-number : goal.bounds-rows-number
bounds-rows-number c = c.requires.within

pub enter-requires : goal.enter-requires
enter-requires c =
    let small : c.args.number < length (rows_of c.args.rows.now) = subst (λ n. c.args.number < n) (sym (count_rows c.args.rows.now)) c.requires.within in
    subst (λ n. c.args.number < n) (sym c.requires.rest.walk.size) small

pub index-requires : goal.index-requires
index-requires c =
    let small : c.args.number < length (rows_of c.args.rows.now) = subst (λ n. c.args.number < n) (sym (count_rows c.args.rows.now)) c.requires.within in
    subst (λ n. c.args.number < n) (sym (c.args.self.now.states.ok.0 ∙ c.requires.rest.walk.size)) small

pub returns-in_default : goal.returns-in_default
returns-in_default c =
    let small : c.args.number < length (rows_of c.args.rows.now) = subst (λ n. c.args.number < n) (sym (count_rows c.args.rows.now)) c.requires.within in
    let states : c.args.number < length c.args.self.now.states.items = subst (λ n. c.args.number < n) (sym c.requires.rest.walk.size) small in
    record {
      walk = c.requires.rest.walk;
      came = record {
        old = λ v come. come;
        here = λ new. c.in_default.not-New (sym (state_is c.args.self.now.states.items c.args.number _ _ states c.index.ensures refl) ∙ new);
      };
    }
