use Rattle.std.proofs.Common.{◌≡◌, ◌+◌, ◌<◌, ◌≤◌, ◌^◌, ◌++◌, ◌∷◌, ◌∙◌, ℕ, List, [], ap, append_assoc, drop, get_or, length, subst, sym, arith}
use Rattle.std.proofs.lemmas.List.{drop_all, drop_more}
use Rattle.tc_rules.specs.RulesView.{count_states}
use Rattle.tc_rules.specs.Rows.{graph, graphs}
use Rattle.tc_rules.specs.Selects.{starts_from}
use Rattle.tc_rules.specs.declared.graph.Graph.{Graph}
use Rattle.tc_rules.proofs.SelectStates.{count_cons, graph_few}
use Rattle.tc_rules.proofs.rules.starts_of.Goals as goal

here : (gs : List Graph) (i : ℕ) (g : Graph) → i < length gs → g ≡ get_or gs i g → drop i gs ≡ g ∷ drop (i + 1) gs
here gs i g h is = drop_more gs i g h ∙ ap (λ x. x ∷ drop (i + 1) gs) (sym is)

few_states : (gs : List Graph) (i : ℕ) (g : Graph) → i < length gs → g ≡ get_or gs i g → count_states (graphs gs) ≤ 4096 → length (graph g).states < 2 ^ 32
few_states gs i g h is few = subst (λ (x : Graph). length (graph x).states < 2 ^ 32) (sym is) (graph_few gs i g h few)

counted : (gs : List Graph) (i : ℕ) (g : Graph) → i < length gs → g ≡ get_or gs i g → count_states (graphs (drop i gs)) ≡ length (graph g).states + count_states (graphs (drop (i + 1) gs))
counted gs i g h is = ap (λ (l : List Graph). count_states (graphs l)) (here gs i g h is) ∙ count_cons (graph g) (graphs (drop (i + 1) gs))

one_start : (all old now : List ℕ) (before n : ℕ) (gs : List Graph) (i : ℕ) (g : Graph) → i < length gs → g ≡ get_or gs i g → now ≡ old ++ before ∷ [] → n ≡ length (graph g).states
    → old ++ starts_from before (graphs (drop i gs)) ≡ all → now ++ starts_from (before + n) (graphs (drop (i + 1) gs)) ≡ all
one_start all old now before n gs i g h is put size k =
    let rest = graphs (drop (i + 1) gs) in
    ap (λ w. w ++ starts_from (before + n) rest) put
    ∙ (append_assoc old (before ∷ []) (starts_from (before + n) rest)
    ∙ (ap (λ n. old ++ (before ∷ starts_from (before + n) rest)) size
    ∙ (ap (λ (l : List Graph). old ++ starts_from before (graphs l)) (sym (here gs i g h is)) ∙ k)))

all_starts : (all old now : List ℕ) (before : ℕ) (gs : List Graph) (i : ℕ) → length gs ≤ i → now ≡ old ++ before ∷ [] → old ++ starts_from before (graphs (drop i gs)) ≡ all → now ≡ all
all_starts all old now before gs i h put k = put ∙ (ap (λ (l : List Graph). old ++ starts_from before (graphs l)) (sym (drop_all i gs h)) ∙ k)

pub loop-graph-init : goal.loop-graph-init
loop-graph-init c = (ap (λ (w : List ℕ). w ++ starts_from 0 (graphs c.args.graphs.now)) c.new-starts.ensures.items, omega arith)

pub overflow_add-before : goal.overflow_add-before
overflow_add-before c =
    let gs = c.args.graphs.now in
    let i = c.loop-graph.graph-index in
    let g = c.graph-item.result in
    let size = c.len-before.ensures (few_states gs i g c.loop-graph-test.true c.graph-item.is c.requires) in
    omega (arith, size, counted gs i g c.loop-graph-test.true c.graph-item.is, c.loop-graph.invariant.1, c.requires)

pub loop-graph-preserved : goal.loop-graph-preserved
loop-graph-preserved c =
    let gs = c.args.graphs.now in
    let i = c.loop-graph.graph-index in
    let g = c.graph-item.result in
    let h = c.loop-graph-test.true in
    let size = c.len-before.ensures (few_states gs i g h c.graph-item.is c.requires) in (
      one_start (starts_from 0 (graphs gs)) c.loop-graph.starts.items _ c.loop-graph.before c.len-before.result gs i g h c.graph-item.is c.in_ok-push.ensures.items size c.loop-graph.invariant.0,
      omega (arith, size, counted gs i g h c.graph-item.is, c.loop-graph.invariant.1),
    )

pub returns : goal.returns
returns c = all_starts (starts_from 0 (graphs c.args.graphs.now)) c.loop-graph.starts.items _ c.loop-graph.before c.args.graphs.now c.loop-graph.graph-index c.loop-graph-test.false c.in_ok-push-2.ensures.items c.loop-graph.invariant.0
