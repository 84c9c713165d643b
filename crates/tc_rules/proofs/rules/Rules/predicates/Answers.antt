use Rattle.std.proofs.Common.{◌≡◌, ◌∙◌, ap, length, sym, arith}
use Rattle.std.proofs.lemmas.List.{length-map}
use Rattle.tc_model.specs.Views as see
use Rattle.tc_rules.specs.Views.{predicates}
use Rattle.tc_rules.proofs.rules.Rules.predicates.Goals as goal

pub returns : goal.returns
returns c = λ symbols h.
    let items = c.args.self.now.predicates.items in
    let size : c.len.result ≡ length items = omega (arith, c.len.ensures, c.args.self.now.predicates.ok.0) in
    let told : length (predicates items) ≡ length items = length-map items (λ t. see.test t.now) in
    let few = h.tells.few_predicates in
    c.as_u32.ensures (omega (arith, few, size, told)) ∙ (size ∙ (sym told ∙ ap length h.tells.predicates_are))
