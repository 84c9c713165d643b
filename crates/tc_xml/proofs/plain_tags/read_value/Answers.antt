use Rattle.std.proofs.lemmas.Option.{IfSome_then}
use Rattle.tc_scan.specs.Views.{written_name}
use Rattle.tc_xml.proofs.PlainTagLaws.{declared_value, other_value}
use Rattle.tc_xml.proofs.plain_tags.read_value.Goals as goal

pub returns-in-Some : goal.returns-in-Some
returns-in-Some c =
    IfSome_then c.declaration.result c.declaration.ensures (λ rest d. declared_value (written_name c.args.name) c.in-Some.ensures.0 c.in-Some.ensures.1 d)

pub returns : goal.returns
returns c =
    IfSome_then c.after_quoted.result c.after_quoted.ensures
    (λ rest (value, q). other_value c.args.bindings.now c.args.text.now value rest.now (written_name c.args.name) c.in_default.ensures q)
