use Rattle.std.proofs.Common.{◌≡◌, ◌+◌, ◌++◌, ◌∷◌, ◌∙◌, ℕ, List, [], ap, sym, refl, append_assoc, add-one, arith}
use Rattle.std.proofs.lemmas.List.{append-nil}
use Rattle.tc_model.specs.Meaning.{all_children}
use Rattle.tc_model.specs.Numbered.{numbers_below}
use Rattle.tc_model.specs.Numberings as n
use Rattle.tc_model.specs.Sheets.{Path}
use Rattle.tc_model.specs.Views as see
use Rattle.tc_rules.specs.Gathered.{built_in_moves}
use Rattle.tc_rules.specs.Views.{move, moves}
use Rattle.tc_rules.specs.declared.walk.Move.{Move}
use Rattle.tc_rules.proofs.RowSteps.{map_push}
use Rattle.tc_rules.proofs.gather.built_in_moves.Goals as goal

abbrev of_mode : Path → ℕ → n.Move
of_mode p m = record { path = p; mode = m }

one_mode : (k n : ℕ) (start old now : List Move) (m : Move) (p : Path) → now ≡ old ++ m ∷ [] → move k m ≡ record { path = p; mode = n } → p ≡ all_children → moves k old ≡ moves k start ++ built_in_moves n → moves k now ≡ moves k start ++ built_in_moves (n + 1)
one_mode k n start old now m p put is path e =
    ap (moves k) put
    ∙ (map_push (move k) old m
    ∙ (ap (λ w. w ++ move k m ∷ []) e
    ∙ (append_assoc (moves k start) (built_in_moves n) (move k m ∷ [])
    ∙ (ap (λ x. moves k start ++ (built_in_moves n ++ x ∷ [])) (is ∙ ap (λ p. of_mode p n) path)
    ∙ (ap (λ w. moves k start ++ w) (sym (map_push (λ m. of_mode all_children m) (numbers_below n) n)) ∙ ap (λ n. moves k start ++ built_in_moves n) (sym (add-one n)))))))

pub loop-mode-init : goal.loop-mode-init
loop-mode-init c = λ k. sym (append-nil (moves k c.args.found.now.items))

pub loop-mode-preserved : goal.loop-mode-preserved
loop-mode-preserved c = λ k. one_mode k c.loop-mode.mode c.args.found.now.items c.loop-mode.found.items _ _ (see.path c.all_children-path.result.now) c.in_ok-push.ensures.items refl c.all_children-path.ensures (c.loop-mode.invariant k)

pub returns : goal.returns
returns c = λ k.
    let all : c.loop-mode.mode ≡ c.args.modes = omega arith in
    c.loop-mode.invariant k ∙ ap (λ n. moves k c.args.found.now.items ++ built_in_moves n) all
