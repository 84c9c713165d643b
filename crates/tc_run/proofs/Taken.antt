-- What takes what is put out: one after the other, and around.
use Rattle.std.proofs.Common.{refl, ap, ◌∙◌, sym}
use Rattle.tc_model.specs.Names.{ExpandedName}
use Rattle.tc_model.specs.Trees.{Trees, none, element, beside}
use Rattle.tc_model.specs.Views as see
use Rattle.tc_model.proofs.TotalJoin.{beside_assoc, beside_none}
use Rattle.tc_print.specs.Writing.{written_by, with_trees, with_end}
use Rattle.tc_print.proofs.Writing.{written_in_turn}
use Rattle.tc_run.specs.Taken.{Takes, Starts, Ends}
use Rattle.tc_run.specs.declared.output.Taken.{Taken}
use Rattle.tc_run.specs.declared.output.Taken.TheVariants as taken
use Rattle.tc_run.specs.declared.output.Outside.{Outside}

pub takes_nothing : (x : Taken) → Takes x none x
takes_nothing (taken.Trees x) = sym (beside_none (see.trees x.items))
takes_nothing (taken.Text x) = refl

pub takes_both : (x y z : Taken) (a b : Trees) → Takes x a y → Takes y b z → Takes x (beside a b) z
takes_both (taken.Trees x) (taken.Trees y) (taken.Trees z) a b s u = u ∙ (ap (λ h. beside h b) s ∙ beside_assoc (see.trees x.items) a b)
takes_both (taken.Trees x) (taken.Trees y) (taken.Text z) a b s u = u
takes_both (taken.Trees x) (taken.Text y) z a b s u = absurd s
takes_both (taken.Text x) (taken.Trees y) z a b s u = absurd s
takes_both (taken.Text x) (taken.Text y) (taken.Trees z) a b s u = u
takes_both (taken.Text x) (taken.Text y) (taken.Text z) a b s u = u ∙ (ap (λ w. with_trees w b) s ∙ sym (written_in_turn (written_by x) a b))

-- an element around what was taken since it started
pub takes_around : (x inside y z : Taken) (n : ExpandedName) (outside : Outside) (kids : Trees) → Starts x n outside inside → Takes inside kids y → Ends y n outside z → Takes x (element n kids none) z
takes_around (taken.Trees x) (taken.Trees inside) (taken.Trees y) (taken.Trees z) n outside kids s u e =
    e ∙ (ap (λ b. beside (see.trees b) (element n (see.trees y.items) none)) s.0 ∙ ap (λ k. beside (see.trees x.items) (element n k none)) (u ∙ ap (λ k. beside k kids) s.1))
takes_around (taken.Trees x) (taken.Trees inside) (taken.Trees y) (taken.Text z) n outside kids s u e = absurd e
takes_around (taken.Trees x) (taken.Trees inside) (taken.Text y) z n outside kids s u e = absurd u
takes_around (taken.Trees x) (taken.Text inside) y z n outside kids s u e = absurd s
takes_around (taken.Text x) (taken.Trees inside) y z n outside kids s u e = absurd s
takes_around (taken.Text x) (taken.Text inside) (taken.Trees y) z n outside kids s u e = absurd u
takes_around (taken.Text x) (taken.Text inside) (taken.Text y) (taken.Trees z) n outside kids s u e = absurd e
takes_around (taken.Text x) (taken.Text inside) (taken.Text y) (taken.Text z) n outside kids s u e =
    e ∙ (ap (λ d. with_end n d (written_by y)) s.0 ∙ (ap (λ w. with_end n (written_by x).default w) (u ∙ ap (λ w. with_trees w kids) s.1)))
