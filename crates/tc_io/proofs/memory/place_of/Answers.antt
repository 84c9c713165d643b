use Rattle.std.proofs.Common.{ap, sym, refl, ◌∙◌, bytes_eq}
use Rattle.std.proofs.lemmas.Option.{slice_get_read}
use Rattle.tc_io.proofs.Files.{one_more}
use Rattle.tc_io.proofs.memory.place_of.Goals as goal

pub returns-then-eq-clause-place : goal.returns-then-eq-clause-place
returns-then-eq-clause-place c = record {
  file = c.index-files-place.result;
  at_place = slice_get_read c.args.files.now _ c.loop-place.place c.index-files-place.result refl c.loop-place-test.true c.index-files-place.is;
  named = ap (λ x. bytes_eq c.args.name.now x) (sym c.as_str.ensures.value) ∙ (sym c.eq.ensures ∙ c.if-eq.true);
  none_before = c.loop-place.invariant;
}

pub loop-place-preserved : goal.loop-place-preserved
loop-place-preserved c = one_more c.args.files.now c.args.name.now c.loop-place.place c.index-files-place.result
    (slice_get_read c.args.files.now _ c.loop-place.place c.index-files-place.result refl c.loop-place-test.true c.index-files-place.is)
    (ap (λ x. bytes_eq c.args.name.now x) (sym c.as_str.ensures.value) ∙ (sym c.eq.ensures ∙ c.if-eq.false))
    c.loop-place.invariant
