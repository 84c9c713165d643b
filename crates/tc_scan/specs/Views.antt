-- What contracts see of a name as it is written.
use Rattle.tc_model.specs.XmlTextNames.{QualifiedName}
use Rattle.tc_scan.specs.declared.names.QualifiedName as code_names

abbrev pub written_name : code_names.QualifiedName → QualifiedName
written_name q = record { prefix = q.prefix.now; local = q.local.now }
