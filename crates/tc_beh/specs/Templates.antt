-- What a template means on a node.
use Rattle.std.specs.Prelude.{◌≡◌, ◌<◌, ◌⊎◌, ℕ, max, List, false}
use Rattle.tc_model.specs.Letters.{Letter}
use Rattle.tc_model.specs.Meaning.{all_children}
use Rattle.tc_model.specs.Sheets.{Sheet, Body, CallFreeBody, p_done, p_apply, p_self, Inlines}
use Rattle.tc_model.specs.Views as see
use Rattle.tc_rules.specs.Parts.{IsPart}
use Rattle.tc_rules.specs.RulesView.{ancestor}
use Rattle.tc_rules.specs.States.{Going, body_by, built_in_at}
use Rattle.tc_rows.specs.Triples.{Triple, sheet, predicates}
use Rattle.tc_rows.specs.Arithmetic.{hits}
use Rattle.tc_rows.specs.Bodies.{NodeKind, on_root, on_element, on_text}
use Rattle.tc_beh.specs.Heights.{depth_in, deepest, deepest_rule}
use Rattle.tc_beh.specs.Places.{kind_of, below_of, called_by}
use Rattle.tc_beh.specs.Putting.{IsCalled}
use Rattle.tc_beh.specs.Runs.{rule_body}
use Rattle.tc_beh.specs.declared.bodies.Place.{Place}
use Rattle.tc_beh.specs.declared.templates.Template.{Template}
use Rattle.tc_beh.specs.declared.templates.Template.TheVariants as t

-- a body with calls in place is what is meant, where the built-in rules have bodies of their own
abbrev pub IsTemplate : List Body → (ℕ → CallFreeBody) → Template → CallFreeBody → Type 0
IsTemplate named own (t.Body b) p = Inlines named (see.body b.now) p
IsTemplate named own (t.Rule n b) p = Inlines named (see.body b.now) p
IsTemplate named own (t.BuiltIn mode) p = p ≡ own mode

-- what is meant on a node of a letter that a move hits, by the ancestor state above the node
abbrev pub IsMeantAt : Triple → Going → ℕ → Letter → Template → Type 0
IsMeantAt x g q l w = IsTemplate (sheet x).named (λ m. built_in_at m l.kind) w (body_by x.symbols (predicates x) (sheet x).rules x.bodies g.task (ancestor x.rules q) l)

-- the body that is meant on a node of a letter that a move hits, by the ancestor state above the node
abbrev pub body_meant : Triple → Going → ℕ → Letter → CallFreeBody
body_meant x g q l = body_by x.symbols (predicates x) (sheet x).rules x.bodies g.task (ancestor x.rules q) l

-- a state doesn't hit a node, or the same is meant there above the one and above the other ancestor state
abbrev pub IsAlike : Triple → Going → Letter → ℕ → ℕ → Type 0
IsAlike x g l q p = (hits x g.path g.state l ≡ false) ⊎ (body_meant x g q l ≡ body_meant x g p l)

-- it is part of the stylesheet
abbrev pub IsPartTemplate : Sheet → Template → Type 0
IsPartTemplate s (t.Body b) = IsPart s (see.body b.now)
IsPartTemplate s (t.Rule n b) = IsPart s (see.body b.now) × (rule_body s n ≡ see.body b.now)
IsPartTemplate s (t.BuiltIn mode) = mode < s.modes

abbrev pub depth_of : Template → ℕ
depth_of (t.Body b) = depth_in (see.body b.now)
depth_of (t.Rule n b) = depth_in (see.body b.now)
depth_of (t.BuiltIn mode) = 0

-- how many elements and copies stand within one another at most in the text of a rule or of a named body
abbrev pub depth_of_sheet : Sheet → ℕ
depth_of_sheet s = max (deepest_rule s.rules) (deepest s.named)

-- the built-in rules on a node
abbrev pub built_in_on : NodeKind → ℕ → CallFreeBody
built_in_on on_root m = p_apply all_children m p_done
built_in_on (on_element a) m = p_apply all_children m p_done
built_in_on on_text m = p_self p_done

-- the sets of all named bodies are right here
abbrev pub AreCalled : Triple → Place → Type 0
AreCalled x p = (n : ℕ) → IsCalled x (kind_of p.node) (below_of x p) (called_by p) n
