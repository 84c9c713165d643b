-- The target of a processing instruction goes character by character, from behind its `<?` on (XML 1.0, Fifth Edition, 2.6, [16], [17]).
use Rattle.std.specs.Prelude.{ℕ, ◌==◌, List, ◌++◌, Option, None, Some, encode_utf8, if◌then◌else◌}
use Rattle.tc_base.specs.Characters.{is_white}
use Rattle.tc_model.specs.Names.{is_ncname_start, is_ncname_char}

-- what one character more makes of it
pub data Targeted : Type 0 where
  -- these bytes of a name
  more : List ℕ → Targeted
  -- the name has ended, and white space follows it
  then_white : List ℕ → Targeted
  -- the name has ended, and a question mark follows it
  then_question : List ℕ → Targeted
  untargeted : Targeted

-- behind nothing, or behind these bytes of a name
abbrev pub targeted_next : Option (List ℕ) → ℕ → Targeted
targeted_next None c = if is_ncname_start c then more (encode_utf8 c) else untargeted
targeted_next (Some name) c =
    if is_ncname_char c then more (name ++ encode_utf8 c) else (if is_white c then then_white name else (if c == 0x3F then then_question name else untargeted))
