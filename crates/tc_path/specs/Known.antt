-- Namespace names by prefix, as far as they are known.
use Rattle.std.specs.Borrow.{Bor}
use Rattle.std.specs.BTreeMap.{BTreeMap, get_by}
use Rattle.std.specs.Cmp.Lexicographic.{slice_cmp}
use Rattle.std.specs.Option.{option_map}
use Rattle.std.specs.Ordering.{nat_cmp}
use Rattle.std.specs.Prelude.{◌≡◌, ℕ, List, Option, None, Some}
use Rattle.tc_model.specs.RawTrees.{Bound}
use Rattle.tc_model.specs.XmlTextScopes.{uri_of}

-- the entry of a prefix
abbrev pub found_in : BTreeMap (Bor (List ℕ)) (Option (Bor (List ℕ))) → List ℕ → Option (Option (Bor (List ℕ)))
found_in known prefix = get_by (λ k. slice_cmp nat_cmp prefix k.now) known

-- the namespace name that an entry holds
abbrev pub held : Option (Bor (List ℕ)) → Option (List ℕ)
held v = option_map (λ u. u.now) v

-- an entry, if there is one, holds what is in scope, but for one that holds none, where the rest is still to be walked through
abbrev pub IsRightBefore : List Bound → List Bound → List ℕ → Option (Option (Bor (List ℕ))) → Type 0
IsRightBefore scope rest prefix None = Unit {0}
IsRightBefore scope rest prefix (Some None) = uri_of scope prefix ≡ uri_of rest prefix
IsRightBefore scope rest prefix (Some (Some u)) = uri_of scope prefix ≡ Some u.now

-- the same of each entry
abbrev pub AreRightBefore : List Bound → List Bound → BTreeMap (Bor (List ℕ)) (Option (Bor (List ℕ))) → Type 0
AreRightBefore scope rest known = (prefix : List ℕ) → IsRightBefore scope rest prefix (found_in known prefix)

-- each entry holds what is in scope
abbrev pub AreRight : List Bound → BTreeMap (Bor (List ℕ)) (Option (Bor (List ℕ))) → Type 0
AreRight scope known = (prefix : List ℕ) (v : Option (Bor (List ℕ))) → found_in known prefix ≡ Some v → held v ≡ uri_of scope prefix
