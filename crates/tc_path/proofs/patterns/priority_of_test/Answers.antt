use Rattle.std.proofs.Common.{◌≡◌, ◌⊎◌, inl, inr, negsuc, sym, ap}
use Rattle.tc_model.specs.PathTextPhrases.{priority_of_test}
use Rattle.tc_model.specs.Views.{node_test}
use Rattle.tc_model.specs.declared.sheet.NodeTest.{NodeTest}
use Rattle.tc_model.specs.declared.sheet.NodeTest.TheVariants.{Any, Text, Node}
use Rattle.tc_path.proofs.patterns.priority_of_test.Goals as goal

least : (t : NodeTest) → (t ≡ Any) ⊎ ((t ≡ Text) ⊎ (t ≡ Node)) → negsuc 4999 ≡ priority_of_test (node_test t)
least t (inl e) = ap (λ z. priority_of_test (node_test z)) (sym e)
least t (inr (inl e)) = ap (λ z. priority_of_test (node_test z)) (sym e)
least t (inr (inr e)) = ap (λ z. priority_of_test (node_test z)) (sym e)

pub returns-in-Name : goal.returns-in-Name
returns-in-Name c = ap (λ z. priority_of_test (node_test z)) (sym c.in-Name.is)

pub returns-in-Ns : goal.returns-in-Ns
returns-in-Ns c = ap (λ z. priority_of_test (node_test z)) (sym c.in-Ns.is)

pub returns-in-Any : goal.returns-in-Any
returns-in-Any c = least c.args.test.now c.in-Any.is

pub returns-in-Any-2 : goal.returns-in-Any-2
returns-in-Any-2 c = least c.args.test.now c.in-Any.is

pub returns-in-Any-3 : goal.returns-in-Any-3
returns-in-Any-3 c = least c.args.test.now c.in-Any.is
