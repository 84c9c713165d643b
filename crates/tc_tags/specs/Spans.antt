-- Where bytes stand among others.
use Rattle.std.specs.Prelude.{ℕ, List, take, drop}
use Rattle.tc_tags.specs.declared.names.Span.{Span}

-- the bytes at a span
abbrev pub at_span : Span → List ℕ → List ℕ
at_span s bytes = take s.length (drop s.start bytes)
