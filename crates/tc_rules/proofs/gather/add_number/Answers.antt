use Rattle.std.proofs.Common.{◌∙◌, ap, ◌++◌, ◌∷◌, [], ℕ, get_or, arith}
use Rattle.std.specs.Global.{Vec}
use Rattle.tc_rules.proofs.Collected.{number_put, number_kept}
use Rattle.tc_rules.proofs.gather.add_number.Goals as goal

pub returns-clause-added : goal.returns-clause-added
returns-clause-added c =
    number_put c.args.lists.now.items c.args.mode c.args.number c.push.new.self c.index_mut.result.now (omega arith)
    (c.in_ok-push.ensures.items
    ∙ (ap (λ (v : Vec ℕ). v.items ++ c.in-Ok.number ∷ []) c.index_mut.ensures.value
    ∙ ap (λ n. (get_or c.args.lists.now.items c.args.mode c.index_mut.result.now).items ++ n ∷ []) c.in-Ok.ensures.1))

pub returns-clause-others : goal.returns-clause-others
returns-clause-others c = λ m n. number_kept c.args.lists.now.items c.args.mode m c.push.new.self n
