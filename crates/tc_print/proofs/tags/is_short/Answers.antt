use Rattle.std.proofs.Common.{rules, ◌≡◌, bytes_eq, false, sym}
use Rattle.tc_model.specs.Printed.{xml_uri}
use Rattle.tc_model.specs.Views.{name}
use Rattle.tc_print.proofs.Names.{without_prefix}
use Rattle.tc_print.proofs.tags.is_short.Goals as goal

pub returns-clause-local : goal.returns-clause-local
returns-clause-local c =
    let n = name c.args.of.now in
    let xml : bytes_eq n.uri xml_uri ≡ false = search rules in
    λ h. sym (without_prefix n xml)
