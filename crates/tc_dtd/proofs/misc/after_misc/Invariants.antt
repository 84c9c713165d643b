use Rattle.std.proofs.Common.{List, ℕ, IsUtf8, length}
use Rattle.tc_model.specs.XmlTextMisc.{MiscAt}
use Rattle.tc_dtd.proofs.misc.after_misc.Given as goal

-- misc of what is left is misc of the whole, and the other way round
abbrev pub invariant-loop-after : goal.invariant-loop-after
invariant-loop-after l = record {
  forth : (end : List ℕ) → MiscAt l.rest end → MiscAt l.text end;
  back : (end : List ℕ) → MiscAt l.text end → MiscAt l.rest end;
  text : IsUtf8 l.rest;
}

abbrev pub decreases-loop-after : goal.decreases-loop-after
decreases-loop-after l = length l.rest
