-- Counts that are kept of what has begun and hasn't ended.
use Rattle.std.specs.Prelude.{◌&&◌, Bool, true, length, nat_le, nat_lt}
use Rattle.tc_stream.specs.Marks.{mark_of}
use Rattle.tc_stream.specs.declared.parts.Part.{Part}
use Rattle.tc_stream.specs.declared.parts.Part.TheVariants as parts

-- they are as small as what they count
abbrev pub is_counted : Part → Bool
is_counted (parts.Data brackets) = nat_le brackets 2
is_counted (parts.Mark mark count) = nat_le 3 count && nat_lt count (length (mark_of mark))
is_counted (parts.Comment hyphens) = nat_le hyphens 2
is_counted (parts.Cdata brackets) = nat_le brackets 2
is_counted (parts.Instruction question) = nat_le question 1
is_counted _ = true
