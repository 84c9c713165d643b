-- What is known of tokens before they are read.
use Rattle.std.specs.Prelude.{List, codes}
use Rattle.tc_model.specs.CompactSyntaxNames.{IsWord, LacksMark}
use Rattle.tc_model.specs.CompactSyntaxStops.{LacksWord}
use Rattle.tc_model.specs.CompactSyntaxTokens.{Token}
use Rattle.tc_rnc.specs.Blocks.{DefinesNothing, IsEndOfDefinitions, IsFirst}
use Rattle.tc_rnc.specs.Schemas.{BeginsEquals, LacksDeclaration, LacksDefinitions, StartsWithBoth}

-- a declaration of the default namespace: its words, and what stands behind them. It binds no prefix, or one.
pub record IsDefaultAlone (ts rest : List Token) : Type 0 where
  pub words : StartsWithBoth (codes "default") (codes "namespace") ts rest
  pub alone : BeginsEquals rest

pub record IsDefaultAndPrefix (ts rest : List Token) : Type 0 where
  pub words : StartsWithBoth (codes "default") (codes "namespace") ts rest
  pub both : LacksMark 61 rest

-- where a definition should begin, none does
pub record IsNoDefinition (t : Token) (ts : List Token) : Type 0 where
  pub first : IsFirst t ts
  pub more : IsEndOfDefinitions ts → ⊥
  pub no_div : IsWord (codes "div") t → ⊥
  pub nothing : DefinesNothing t

-- what may be a schema is a pattern
pub record IsPatternAlone (ts : List Token) : Type 0 where
  pub declared : LacksDeclaration ts
  pub alone : LacksWord (codes "grammar") ts
  pub undefined : LacksDefinitions ts
