use Rattle.std.proofs.Common.{◌≡◌, ℕ, ◌+◌, ◌<◌, ◌≤◌, List, [], ◌∷◌, ◌++◌, length, get_or, drop, sym, ap, ◌∙◌, subst}
use Rattle.std.proofs.lemmas.List.{drop_all}
use Rattle.std.specs.Global.{Vec}
use Rattle.tc_rules.specs.Rows.{state, states, lists, endings_of}
use Rattle.tc_rules.specs.Steps.{ending_alternatives}
use Rattle.tc_rules.specs.declared.rows.Row.{Row}
use Rattle.tc_rules.proofs.HitRows.{one_state_ending}
use Rattle.tc_rules.proofs.RowSteps.{begun, ended}
use Rattle.tc_rules.proofs.graph.endings.Goals as goal

ending_goes : (ends : List ℕ) (all : List (List ℕ)) (old now : List (Vec ℕ)) (w : Vec ℕ) (xs ys : List Row) (i : ℕ) (x : Row) → ys ≡ xs → i < length ys → x ≡ get_or ys i x → w.items ≡ ending_alternatives 0 (state ends x) → now ≡ old ++ w ∷ []
    → all ≡ lists old ++ endings_of (states ends (drop i xs)) → all ≡ lists now ++ endings_of (states ends (drop (i + 1) xs))
ending_goes ends all old now w xs ys i x same h e is put k =
    subst (λ (l : List (Vec ℕ)). all ≡ lists l ++ endings_of (states ends (drop (i + 1) xs))) (sym put)
    (one_state_ending ends all old w xs i x (subst (λ (l : List Row). i < length l) same h) (e ∙ ap (λ (l : List Row). get_or l i x) same) is k)

pub loop-state-init : goal.loop-state-init
loop-state-init c = begun (endings_of (states c.args.ends.now c.args.states.now.keys)) (lists c.new-endings.result.items) (ap lists c.new-endings.ensures.items)

pub loop-state-preserved : goal.loop-state-preserved
loop-state-preserved c =
    ending_goes c.args.ends.now (endings_of (states c.args.ends.now c.args.states.now.keys)) c.loop-state.endings.items c.push.new.self.items c.in_ok-ending.ending c.args.states.now.keys c.as_slice-state-items.result.now c.loop-state.state-index c.state-item.result
    c.as_slice-state-items.ensures.keys c.loop-state-test.true c.state-item.is c.in_ok-ending.ensures c.in_ok-push.ensures.items c.loop-state.invariant

pub returns : goal.returns
returns c =
    let keys = c.args.states.now.keys in
    let i = c.loop-state.state-index in
    let past : length keys ≤ i = subst (λ (l : List Row). length l ≤ i) c.as_slice-state-items.ensures.keys c.loop-state-test.false in
    ended (endings_of (states c.args.ends.now keys)) (lists c.loop-state.endings.items) (endings_of (states c.args.ends.now (drop i keys))) (ap (λ (l : List Row). endings_of (states c.args.ends.now l)) (drop_all i keys past)) c.loop-state.invariant
