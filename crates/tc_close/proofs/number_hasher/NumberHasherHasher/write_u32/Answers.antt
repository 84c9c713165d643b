use Rattle.std.proofs.Common.{ℕ, ap, sym, ◌∙◌}
use Rattle.tc_close.specs.Hashing.{stepped}
use Rattle.tc_close.specs.declared.number_hasher.NumberHasher.{NumberHasher}
use Rattle.tc_close.proofs.NumberBytes.{number_of_bytes}
use Rattle.tc_close.proofs.number_hasher.NumberHasherHasher.write_u32.Goals as goal

pub returns : goal.returns
returns c =
    let Made : ℕ → NumberHasher = λ n. record { state = n } in
    ap Made (c.step-self.ensures ∙ ap (stepped c.args.self.now.state) (sym (number_of_bytes c.args.i c.ranges.i.fits)))
