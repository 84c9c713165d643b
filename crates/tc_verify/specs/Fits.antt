-- The sizes by which the numbers of a certificate fit a triple.
use Rattle.std.specs.Prelude.{length}
use Rattle.tc_model.specs.States.{input, state_count}
use Rattle.tc_model.specs.CertificateFits.{Sizes}
use Rattle.tc_rows.specs.Triples.{Triple, outputs, entries}
use Rattle.tc_rows.specs.Triples as t
use Rattle.tc_beh.specs.declared.machine.Shape.{Shape}

abbrev pub sizes : Triple → Sizes
sizes x = record { output_states = outputs x; patterns = length x.input.elements; input_states = state_count x.input input; outs = entries x; looks = t.looks x }

-- those of a machine's shape
abbrev pub shape_sizes : Shape → Sizes
shape_sizes s = record { output_states = s.outputs; patterns = s.patterns; input_states = s.inputs; outs = s.entries; looks = s.looks }
