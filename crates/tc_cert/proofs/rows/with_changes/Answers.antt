use Rattle.std.proofs.Common.{All, ◌≤◌, refl, subst, sym}
use Rattle.tc_cert.proofs.Numbers.{bool_apart}
use Rattle.tc_cert.proofs.Differing.{changes_keep, changes_put}
use Rattle.tc_cert.proofs.rows.with_changes.Goals as goal

pub returns-then-not-put_looks : goal.returns-then-not-put_looks
returns-then-not-put_looks c = λ f m.
    bool_apart c.put_looks.result (c.put_looks.ensures.1 (subst (All (λ d. d.1 ≤ 2)) m.looks_are.are (changes_put (λ n. n ≤ 2) 0 _ _ m.small))) c.if-not-put_looks.true

pub returns : goal.returns
returns c = record {
  one_is = refl;
  other_is = refl;
  members_are = refl;
  outs_are = c.if-not-apply.ensures;
  looks_are = c.if-not-apply-2.ensures;
  small = changes_keep (λ n. n ≤ 2) 0 c.args.before.looks.items c.apply-2.new.numbers.items c.if-not-apply-2.ensures.long c.requires
      (subst (All (λ d. d.1 ≤ 2)) (sym c.if-not-apply-2.ensures.are) (c.put_looks.ensures.0 c.if-not-put_looks.false));
}
