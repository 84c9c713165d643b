use Rattle.std.proofs.Common.{◌≡◌, ◌∙◌, sym, ap, map, arith, length, Some}
use Rattle.std.proofs.lemmas.List.{length-map}
use Rattle.tc_graph.specs.Graph.{rows_of}
use Rattle.tc_dtd.specs.DtdGrammar.{Keeps}
use Rattle.tc_dtd.specs.Numbers.{number_in, names_of, link_rows, marked_from}
use Rattle.tc_dtd.specs.Views.{declaration}
use Rattle.tc_dtd.proofs.ReaderLaws.{map_ok}
use Rattle.tc_dtd.proofs.ReachLaws.{keeps_nothing, graph_of, from_within, marks_cover, kept_is}
use Rattle.tc_dtd.proofs.schema.kept_by.Goals as goal

pub returns-in_default : goal.returns-in_default
returns-in_default c =
    let dtd = map declaration c.args.decls.now in
    keeps_nothing dtd c.args.root.now (ap (λ ns. number_in ns c.args.root.now) (sym c.requires.found) ∙ (sym c.number_of.ensures ∙ c.in_default.is))

pub reached-requires : goal.reached-requires
reached-requires c =
    let dtd = map declaration c.args.decls.now in
    let rows : rows_of c.as_slice.result.now ≡ link_rows dtd = ap rows_of c.as_slice.ensures.value ∙ c.in_ok-put_links.ensures in
    let at : number_in (names_of dtd) c.args.root.now ≡ Some c.in-Some.number = ap (λ ns. number_in ns c.args.root.now) (sym c.requires.found) ∙ (sym c.number_of.ensures ∙ c.in-Some.is) in
    record { within = from_within dtd c.args.root.now c.in-Some.number c.as_slice.result.now rows at; graph = graph_of dtd (rows_of c.as_slice.result.now) c.requires.declarations.once rows }

pub marked-requires : goal.marked-requires
marked-requires c =
    let dtd = map declaration c.args.decls.now in
    let rows : rows_of c.as_slice.result.now ≡ link_rows dtd = ap rows_of c.as_slice.ensures.value ∙ c.in_ok-put_links.ensures in
    omega (arith, marks_cover dtd (rows_of c.as_slice.result.now) c.in-Some.number c.in_ok-marks.marks.items rows c.in_ok-marks.ensures, ap length c.as_slice-2.ensures.value, length-map c.args.decls.now declaration)

pub returns : goal.returns
returns c =
    let dtd = map declaration c.args.decls.now in
    let rows : rows_of c.as_slice.result.now ≡ link_rows dtd = ap rows_of c.as_slice.ensures.value ∙ c.in_ok-put_links.ensures in
    let at : number_in (names_of dtd) c.args.root.now ≡ Some c.in-Some.number = ap (λ ns. number_in ns c.args.root.now) (sym c.requires.found) ∙ (sym c.number_of.ensures ∙ c.in-Some.is) in
    map_ok _ (λ v. Keeps dtd c.args.root.now dtd (map declaration v.now)) c.marked.result
    (λ v e. kept_is dtd c.args.root.now c.in-Some.number c.in_ok-marks.marks.items (rows_of c.as_slice.result.now) (map declaration v.now) c.requires.declarations.once at rows c.in_ok-marks.ensures
    (e ∙ ap (λ m. marked_from 0 m dtd) c.as_slice-2.ensures.value)) c.marked.ensures
