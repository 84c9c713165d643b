use Rattle.std.proofs.Common.{◌≡◌, ◌+◌, ◌∷◌, ◌++◌, ◌∙◌, ℕ, List, [], ap, map, sym, add-one, arith}
use Rattle.tc_model.specs.Names.{ExpandedName}
use Rattle.tc_model.specs.Numbered.{numbers_below}
use Rattle.tc_model.specs.Symbols.{fresh_name, symbol_count}
use Rattle.tc_model.specs.Views as see
use Rattle.tc_model.specs.declared.tree.Name.{Name}
use Rattle.tc_rules.proofs.RowSteps.{map_push}
use Rattle.tc_rules.proofs.gather.names_of.Goals as goal

one_name : (f : ℕ → ExpandedName) (n : ℕ) (old : List Name) (m : Name) → see.name m ≡ f n → map see.name old ≡ map f (numbers_below n) → map see.name (old ++ m ∷ []) ≡ map f (numbers_below (n + 1))
one_name f n old m is k =
    map_push see.name old m
    ∙ (ap (λ w. w ++ see.name m ∷ []) k
    ∙ (ap (λ x. map f (numbers_below n) ++ x ∷ []) is
    ∙ (sym (map_push f (numbers_below n) n) ∙ ap (λ n. map f (numbers_below n)) (sym (add-one n)))))

pub loop-number-preserved : goal.loop-number-preserved
loop-number-preserved c =
    ap (map see.name) c.in_ok-push.ensures.items
    ∙ one_name (fresh_name c.args.alphabet.now) c.loop-number.number c.loop-number.names.items c.in_ok-name.name c.in_ok-name.ensures.name c.loop-number.invariant

pub returns : goal.returns
returns c =
    let all : c.loop-number.number ≡ symbol_count c.args.alphabet.now = omega arith in
    c.loop-number.invariant ∙ ap (λ n. map (fresh_name c.args.alphabet.now) (numbers_below n)) all
