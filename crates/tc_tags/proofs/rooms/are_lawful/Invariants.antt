use Rattle.std.proofs.Common.{map, drop}
use Rattle.std.specs.List.{AllByRecursion}
use Rattle.tc_model.specs.XmlTextScopes.{IsLawfulBinding}
use Rattle.tc_tags.specs.Written.{binding_in}
use Rattle.tc_tags.proofs.rooms.are_lawful.Given as goal

abbrev pub invariant-loop-one : goal.invariant-loop-one
invariant-loop-one l = record {
  forth : AllByRecursion IsLawfulBinding (map (binding_in l.names.bytes.items) (drop l.one-index l.declared)) → AllByRecursion IsLawfulBinding (map (binding_in l.names.bytes.items) l.declared);
  back : AllByRecursion IsLawfulBinding (map (binding_in l.names.bytes.items) l.declared) → AllByRecursion IsLawfulBinding (map (binding_in l.names.bytes.items) (drop l.one-index l.declared));
}
