-- What contracts see of what is asked of two schemas.
use Rattle.tc_decide.specs.Comparing as c
use Rattle.tc_top.specs.declared.compare.Question.{Question}
use Rattle.tc_top.specs.declared.compare.Question.TheVariants.{Inclusion, Equality}

-- what is asked
abbrev pub question : Question → c.Question
question Inclusion = c.inclusion
question Equality = c.equality
