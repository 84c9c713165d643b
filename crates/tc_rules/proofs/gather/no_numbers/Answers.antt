use Rattle.std.proofs.Common.{◌≡◌, ◌++◌, ◌∷◌, ◌∙◌, ℕ, zero, suc, List, [], ap, get_or, refl, length, arith}
use Rattle.std.proofs.lemmas.List.{length_push}
use Rattle.std.specs.Global.{Vec}
use Rattle.tc_rules.specs.Gathered.{numbers}
use Rattle.tc_rules.proofs.gather.no_numbers.Goals as goal

nowhere : (m : ℕ) → get_or (numbers []) m [] ≡ []
nowhere zero = refl
nowhere (suc m) = refl

none_more : (lists : List (Vec ℕ)) (w : Vec ℕ) → w.items ≡ [] → ((m : ℕ) → get_or (numbers lists) m [] ≡ []) → (m : ℕ) → get_or (numbers (lists ++ w ∷ [])) m [] ≡ []
none_more [] w e h zero = e
none_more [] w e h (suc m) = nowhere m
none_more (x ∷ lists) w e h zero = h zero
none_more (x ∷ lists) w e h (suc m) = none_more lists w e (λ m. h (suc m)) m

pub loop-mode-init : goal.loop-mode-init
loop-mode-init c = (
  ap (λ (w : List (Vec ℕ)). length w) c.new-lists.ensures.items,
  λ m. ap (λ (w : List (Vec ℕ)). get_or (numbers w) m []) c.new-lists.ensures.items ∙ nowhere m,
)

pub loop-mode-preserved : goal.loop-mode-preserved
loop-mode-preserved c = (
  omega (arith, c.loop-mode.invariant.0, ap (λ (w : List (Vec ℕ)). length w) c.in_ok-push.ensures.items, length_push c.loop-mode.lists.items c.new.result),
  λ m. ap (λ (w : List (Vec ℕ)). get_or (numbers w) m []) c.in_ok-push.ensures.items ∙ none_more c.loop-mode.lists.items c.new.result c.new.ensures.items c.loop-mode.invariant.1 m,
)

pub returns-clause-count : goal.returns-clause-count
returns-clause-count c =
    let all : c.loop-mode._mode ≡ c.args.modes = omega arith in
    c.loop-mode.invariant.0 ∙ all

pub returns-clause-none : goal.returns-clause-none
returns-clause-none c = c.loop-mode.invariant.1
