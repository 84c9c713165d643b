use Rattle.std.proofs.Common.{sym, refl, ◌∙◌}
use Rattle.tc_scan.specs.Views.{written_name}
use Rattle.tc_xml.proofs.TagLaws.{bound_name, unbound_name}
use Rattle.tc_xml.proofs.plain_tags.name_within.Goals as goal

pub returns-in-Some : goal.returns-in-Some
returns-in-Some c = λ scope t. bound_name scope (written_name c.args.written) c.in-Some.uri.now c.args.written.local.now (sym (t.tells c.args.written.prefix.now) ∙ sym c.in-Some.ensures) refl

pub returns-then-eq : goal.returns-then-eq
returns-then-eq c = λ scope t.
    unbound_name scope (written_name c.args.written) c.args.written.local.now (sym c.if-eq.ensures) (sym (t.tells c.args.written.prefix.now) ∙ sym c.in-None.ensures) refl
