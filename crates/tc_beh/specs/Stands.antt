-- What rules stand for.
use Rattle.std.specs.Prelude.{◌≡◌}
use Rattle.tc_rules.specs.Kept.{IsRulesOf, told}
use Rattle.tc_rules.specs.declared.rules.Rules.{Rules}
use Rattle.tc_rows.specs.Triples.{Triple, IsTriple}

-- the rules of a triple
pub record IsRulesIn (x : Triple) (r : Rules) : Type 0 where
  pub triple : IsTriple x
  pub rules : IsRulesOf x.symbols r
  pub told : told r ≡ x.rules

-- the rules of some triple
abbrev pub AreRules : Rules → Type 0
AreRules r = (x : Triple) × IsRulesIn x r
