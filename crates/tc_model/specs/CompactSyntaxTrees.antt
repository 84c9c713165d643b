-- Schemas as they are written in the compact syntax, before simplification. Places count the bytes of the text that stand before.
use Rattle.std.specs.Prelude.{ℕ, List}
use Rattle.tc_model.specs.Names.{ExpandedName}

mutual
  -- a name class; a wildcard has the place of its first byte, and the classes that are excepted, of which there is one or none
  pub data SyntaxClass : Type 0 where
    of_name : ExpandedName → SyntaxClass
    of_namespace : ℕ → List ℕ → SyntaxClasses → SyntaxClass
    any_name : ℕ → SyntaxClasses → SyntaxClass
    one_of : SyntaxClasses → SyntaxClass

  pub data SyntaxClasses : Type 0 where
    no_class : SyntaxClasses
    class : SyntaxClass → SyntaxClasses → SyntaxClasses

mutual
  pub data SyntaxPattern : Type 0 where
    -- of an attribute nothing is kept
    empty not_allowed text attribute : SyntaxPattern
    -- a reference: the name, and its place
    ref : List ℕ → ℕ → SyntaxPattern
    -- the place of the word `element`, the name class and the content
    element : ℕ → SyntaxClass → SyntaxPattern → SyntaxPattern
    mixed optional zero_or_more one_or_more : SyntaxPattern → SyntaxPattern
    -- two or more items under one connector
    group choice interleave : SyntaxPatterns → SyntaxPattern

  pub data SyntaxPatterns : Type 0 where
    no_more : SyntaxPatterns
    more : SyntaxPattern → SyntaxPatterns → SyntaxPatterns

-- the operator of a definition: `=`, `|=` or `&=`
pub data Joins : Type 0 where
  plain by_choice by_interleave : Joins

-- a definition, with the place of its first byte; that of `start` has the empty name, which no reference has
pub record Definition : Type 0 where
  pub name : List ℕ
  pub joins : Joins
  pub body : SyntaxPattern
  pub place : ℕ

-- the definitions in the order of the text, and how many bytes the text has
pub record Syntax : Type 0 where
  pub definitions : List Definition
  pub end : ℕ
