-- What contracts see of the attributes of a tag, and of why a tag is refused.
use Rattle.std.specs.Prelude.{ℕ, Bool, ◌||◌, ◌&&◌, List, [], map, bytes_eq, codes, if◌then◌else◌}
use Rattle.tc_model.specs.RawTrees.{Bound}
use Rattle.tc_model.specs.Views.{place, bound}
use Rattle.tc_model.specs.XmlTextNames.{QualifiedName}
use Rattle.tc_model.specs.XmlTextScopes.{WrittenAttribute, is_empty}
use Rattle.tc_scan.specs.Views.{written_name}
use Rattle.tc_xml.specs.declared.faults.Stop.{Stop}
use Rattle.tc_xml.specs.declared.faults.Stop.TheVariants.{Malformed, Unsupported, TooDeep, NoMemory}
use Rattle.tc_xml.specs.declared.scopes.Scope.{Scope}
use Rattle.tc_xml.specs.declared.tags.Written.{Written}
pub use Rattle.tc_tags.specs.Forms.{lacks_space}

abbrev pub written : Written → WrittenAttribute
written a = record { name = written_name a.name; value = a.value.now; place = place a.place }

-- the prefixes in scope
abbrev pub in_scope : Scope → List Bound
in_scope s = map bound s.bindings.now

-- Malformed is said only where `broken` holds, and nothing else is said but that memory was refused
abbrev pub Breaks : Stop → Type 0 → Type 0
Breaks (Malformed left) broken = broken
Breaks (Unsupported left why) broken = ⊥
Breaks (TooDeep left) broken = ⊥
Breaks NoMemory broken = Unit {0}

-- whether an attribute with this name declares the default namespace, or is any declaration, and of which prefix: as tc_model's `is_default_declaration`,
-- `is_declaration` and `binding_of`, by the name alone
abbrev pub declares_default : QualifiedName → Bool
declares_default n = is_empty n.prefix && bytes_eq n.local (codes "xmlns")

abbrev pub is_declaring : QualifiedName → Bool
is_declaring n = declares_default n || bytes_eq n.prefix (codes "xmlns")

abbrev pub declared_prefix : QualifiedName → List ℕ
declared_prefix n = if declares_default n then [] else n.local
