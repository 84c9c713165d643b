use Rattle.std.proofs.Common.{◌≡◌, ◌+◌, ◌++◌, ◌∷◌, ◌∙◌, ℕ, List, [], ap, map, sym, append_assoc, add-one, arith}
use Rattle.std.proofs.lemmas.List.{append-nil}
use Rattle.tc_model.specs.Numbered.{numbers_below}
use Rattle.tc_rules.specs.declared.rules.Select.{Select}
use Rattle.tc_rules.proofs.RowSteps.{map_push}
use Rattle.tc_rules.proofs.rules.add_selects.Goals as goal

abbrev at_state : ℕ → ℕ → Select
at_state g j = record { graph = g; state = j }

one_state : (g n : ℕ) (start old now : List Select) → now ≡ old ++ at_state g n ∷ [] → old ≡ start ++ map (λ j. at_state g j) (numbers_below n) → now ≡ start ++ map (λ j. at_state g j) (numbers_below (n + 1))
one_state g n start old now put e =
    put
    ∙ (ap (λ w. w ++ at_state g n ∷ []) e
    ∙ (append_assoc start (map (λ j. at_state g j) (numbers_below n)) (at_state g n ∷ [])
    ∙ (ap (λ w. start ++ w) (sym (map_push (λ j. at_state g j) (numbers_below n) n)) ∙ ap (λ n. start ++ map (λ j. at_state g j) (numbers_below n)) (sym (add-one n)))))

pub loop-state-init : goal.loop-state-init
loop-state-init c = sym (append-nil c.args.selects.now.items)

pub loop-state-preserved : goal.loop-state-preserved
loop-state-preserved c = one_state c.args.graph c.loop-state.state c.args.selects.now.items c.loop-state.selects.items _ c.in_ok-push.ensures.items c.loop-state.invariant

pub returns : goal.returns
returns c =
    let all : c.loop-state.state ≡ c.args.count = omega arith in
    c.loop-state.invariant ∙ ap (λ n. c.args.selects.now.items ++ map (λ j. at_state c.args.graph j) (numbers_below n)) all
