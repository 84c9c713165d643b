use Rattle.std.proofs.Common.{◌≡◌, ◌∙◌, ap, sym, subst, Some, slice_get}
use Rattle.tc_rules.specs.Graphs.{class_of}
use Rattle.tc_rules.specs.Rows.{all_words, graph, leads}
use Rattle.tc_rules.specs.declared.graph.Leads.{Leads}
use Rattle.tc_rules.proofs.RowPairs.{got_at, lead_told, lead_alike}
use Rattle.tc_rules.proofs.graph.Graph.step.Goals as goal

pub returns-in-Alike : goal.returns-in-Alike
returns-in-Alike c = λ j e.
    let g = c.args.self.now in
    let marked = all_words g.letters.marked.items in
    let k = class_of (graph g) c.args.symbol in
    let v = c.in-Some.of_state.now in
    let l = c.in-Some-get.of_class.now in
    let of_state : slice_get g.next.items c.args.number ≡ Some v = got_at g.next.items c.deref.result.now c.args.number v c.deref.ensures.value c.in-Some.ensures.lookup.3.0 c.in-Some.ensures.lookup.1 in
    let of_class : slice_get v.items k ≡ Some l =
    ap (slice_get v.items) (sym c.class_of.ensures) ∙ got_at v.items c.deref-2.result.now c.class_of.result l c.deref-2.ensures.value c.in-Some-get.ensures.lookup.3.0 c.in-Some-get.ensures.lookup.1 in
    let told = lead_told g.next.items marked c.args.number k c.args.marks v l j of_state of_class e in
    lead_alike marked c.in-Alike.lead c.args.marks j (subst (λ (w : Leads). slice_get (leads marked w) c.args.marks ≡ Some j) c.in-Alike.is told)

pub returns-in-BySet : goal.returns-in-BySet
returns-in-BySet c = λ j e.
    let g = c.args.self.now in
    let marked = all_words g.letters.marked.items in
    let k = class_of (graph g) c.args.symbol in
    let v = c.in-Some.of_state.now in
    let l = c.in-Some-get.of_class.now in
    let of_state : slice_get g.next.items c.args.number ≡ Some v = got_at g.next.items c.deref.result.now c.args.number v c.deref.ensures.value c.in-Some.ensures.lookup.3.0 c.in-Some.ensures.lookup.1 in
    let of_class : slice_get v.items k ≡ Some l =
    ap (slice_get v.items) (sym c.class_of.ensures) ∙ got_at v.items c.deref-2.result.now c.class_of.result l c.deref-2.ensures.value c.in-Some-get.ensures.lookup.3.0 c.in-Some-get.ensures.lookup.1 in
    let told = lead_told g.next.items marked c.args.number k c.args.marks v l j of_state of_class e in
    c.lead_at.ensures j
    (ap (λ w. slice_get w c.args.marks) c.deref-in-BySet.ensures.value ∙ subst (λ (w : Leads). slice_get (leads marked w) c.args.marks ≡ Some j) c.in-BySet.is told)
