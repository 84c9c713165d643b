-- What a tag has, by whether its name has the prefix xml, and whether it declares a namespace.
use Rattle.std.proofs.Common.{◌≡◌, List, ℕ, [], ◌++◌, Bool, true, false, if◌then◌else◌, bytes_eq, codes, sym, ap}
use Rattle.std.specs.List.{flat_map}
use Rattle.tc_model.specs.Names.{ExpandedName}
use Rattle.tc_model.specs.Printed.{escaped_in_value, xml_uri, tag_name, needs_no_declaration, declaration}

pub with_prefix : (n : ExpandedName) → bytes_eq n.uri xml_uri ≡ true → codes "xml:" ++ n.local ≡ tag_name n
with_prefix n h = ap (λ (b : Bool). if b then codes "xml:" ++ n.local else n.local) (sym h)

pub without_prefix : (n : ExpandedName) → bytes_eq n.uri xml_uri ≡ false → n.local ≡ tag_name n
without_prefix n h = ap (λ (b : Bool). if b then codes "xml:" ++ n.local else n.local) (sym h)

pub declared : (d : List ℕ) (n : ExpandedName) → needs_no_declaration d n ≡ false → codes " xmlns=\"" ++ flat_map escaped_in_value n.uri ++ codes "\"" ≡ declaration d n
declared d n h = ap (λ (b : Bool). if b then [] else codes " xmlns=\"" ++ flat_map escaped_in_value n.uri ++ codes "\"") (sym h)
