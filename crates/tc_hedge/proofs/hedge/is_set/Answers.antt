use Rattle.std.proofs.Common.{◌≡◌, ◌∙◌, None, Some, ap, length, refl, slice_get, sym, true}
use Rattle.std.proofs.lemmas.Bool.{true≢false}
use Rattle.std.proofs.lemmas.Option.{slice_get_past, slice_get_read}
use Rattle.tc_hedge.proofs.hedge.is_set.Goals as goal

pub returns-in-Some : goal.returns-in-Some
returns-in-Some c =
    let flags = c.args.flags.now in
    let at = c.in-Some.ensures.lookup in
    let got : slice_get flags c.args.place ≡ Some c.in-Some.flag.now = slice_get_read flags (length flags) c.args.place c.in-Some.flag.now refl at.3.0 at.1 in
    (λ h. got ∙ ap Some h, λ h. let same : Some c.in-Some.flag.now ≡ Some true = sym got ∙ h in cc)

pub returns-in-None : goal.returns-in-None
returns-in-None c = (
  λ h. absurd (true≢false (sym h)),
  λ h.
      let no : None ≡ Some true = sym (slice_get_past c.args.flags.now c.args.place c.in-None.ensures.lookup.3) ∙ h in
      absurd (cc),
)
