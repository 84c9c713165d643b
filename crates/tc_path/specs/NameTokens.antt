-- Tokens that are names, or `p:*`, and variable references.
use Rattle.std.specs.Prelude.{◌≡◌, ℕ, List, [], ◌∷◌}
use Rattle.tc_model.specs.XmlTextNames.{NcNameAt, QualifiedName, QNameAt}
use Rattle.tc_model.specs.PathTextTokens.{Token, name, all_of_prefix, EndsName}

-- such a token at the front, and what follows it
pub data NameTokenAt : List ℕ → Token → List ℕ → Type 0 where
  unprefixed : {bs local after : List ℕ} → NcNameAt bs local after → EndsName after → NameTokenAt bs (name (record { prefix = []; local = local })) after
  prefixed : {bs prefix rest local after : List ℕ} → NcNameAt bs prefix (0x3A ∷ rest) → NcNameAt rest local after
      → NameTokenAt bs (name (record { prefix = prefix; local = local })) after
  with_star : {bs prefix after : List ℕ} → NcNameAt bs prefix (0x3A ∷ 0x2A ∷ after) → NameTokenAt bs (all_of_prefix prefix) after

-- a variable reference at the front, and what follows it
pub record VariableAt (bs after : List ℕ) : Type 0 where
  pub rest : List ℕ
  pub variable : QualifiedName
  pub opens : bs ≡ 0x24 ∷ rest
  pub named : QNameAt rest variable after
