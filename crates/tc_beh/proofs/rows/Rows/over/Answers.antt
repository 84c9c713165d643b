use Rattle.std.proofs.Common.{◌∙◌, ap}
use Rattle.tc_mat.specs.Held.{Held}
use Rattle.tc_beh.proofs.rows.Rows.over.Goals as goal

pub returns-clause-stands : goal.returns-clause-stands
returns-clause-stands c = λ x is size.
    record {
      machine = is;
      size = ap (λ (h : Held). h.size) c.in_ok-outputs.ensures ∙ size;
      work = c.in_ok-work.ensures x c.in_ok-outputs.outputs is;
    }
