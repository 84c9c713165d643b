use Rattle.std.proofs.Common.{◌∙◌, ◌++◌, [], ap, inl, refl, sym}
use Rattle.tc_tags.proofs.FailedLaws.{no_value}
use Rattle.tc_stream.proofs.stream.Stream.holding.Goals as goal

pub returns-clause-stands : goal.returns-clause-stands
returns-clause-stands c = λ x other sheet st start same. record {
  start = start;
  no_fault = refl;
  fed = refl;
  chars = [];
  reads = c.in_ok-reader.ensures.reads x other sheet st same;
  parts_are = sym (ap (λ z. z ++ c.in_ok-held.held.bytes.items) c.none.ensures.bytes ∙ c.in_ok-held.ensures.bytes);
  cut_off = inl c.none.ensures.bytes;
}

pub returns-in_err-reader-clause-none : goal.returns-in_err-reader-clause-none
returns-in_err-reader-clause-none c = no_value c.from_residual.result _ _ c.from_residual.ensures.1

pub returns-in_err-reader-clause-stands : goal.returns-in_err-reader-clause-stands
returns-in_err-reader-clause-stands c = no_value c.from_residual.result _ _ c.from_residual.ensures.1
