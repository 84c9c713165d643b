-- Stylesheets as they are written: template rules and named templates in one list, modes and templates by their names, for-each instructions
-- without numbers.
use Rattle.std.specs.Prelude.{ℕ, List, [], ◌∷◌, Bool, true, false, ◌||◌, Option, is_some}
use Rattle.tc_model.specs.Names.{ExpandedName}
use Rattle.tc_model.specs.Sheets.{Path, Test}
use Rattle.tc_model.specs.PathTextPhrases.{Alternative}

mutual
  -- each instruction, and those after it
  pub data WrittenBody : Type 0 where
    w_nothing : WrittenBody
    w_text : List ℕ → WrittenBody → WrittenBody
    w_element : ExpandedName → WrittenBody → WrittenBody → WrittenBody
    w_copy : WrittenBody → WrittenBody → WrittenBody
    -- the path that selects, and the mode, unless it is the default one
    w_apply : Path → Option ExpandedName → WrittenBody → WrittenBody
    -- the name of the template, and the place of the call
    w_call : ExpandedName → ℕ → WrittenBody → WrittenBody
    w_value : Path → WrittenBody → WrittenBody
    w_self : WrittenBody → WrittenBody
    w_choose : WrittenBranches → WrittenBody → WrittenBody
    w_each : Path → WrittenBody → WrittenBody → WrittenBody

  pub data WrittenBranches : Type 0 where
    w_otherwise : WrittenBody → WrittenBranches
    w_branch : Test → WrittenBody → WrittenBranches → WrittenBranches

-- an `xsl:template`: the alternatives of its pattern with their priorities, its name, its mode unless it is the default one, its body and its place
pub record Template : Type 0 where
  pub alternatives : List Alternative
  pub name : Option ExpandedName
  pub mode : Option ExpandedName
  pub body : WrittenBody
  pub place : ℕ

abbrev pub makes_rules : Template → Bool
makes_rules t = some_alternative t.alternatives
  where
    some_alternative : List Alternative → Bool
    some_alternative [] = false
    some_alternative (a ∷ alternatives) = true

-- without a name and with no alternative that is kept, a template can't be used
abbrev pub is_used : Template → Bool
is_used t = makes_rules t || is_some t.name
