-- Why data is no certificate doesn't depend on the tables in which states stand, and is one.
use Rattle.std.proofs.Common.{◌≡◌, ◌<◌, ◌≤◌, ◌⊎◌, inl, inr, ◌==◌, ◌*◌, ℕ, refl, sym, ap, ◌∙◌, subst, slice_get, Some, IsTrue, if◌then◌else◌, arith}
use Rattle.std.proofs.lemmas.Bool.{cases_lt}
use Rattle.tc_close.proofs.ArithmeticAlike.{empty_alike, text_alike, append_alike, wrap_alike, text_live_alike, live_append_alike, live_wrap_alike, symbol_alike, admitted_alike, passing_alike, certificate_alike}
use Rattle.tc_close.proofs.Transport.{AreAlike, alike_back, made, bare, rest, same_moves, same_looks}
use Rattle.tc_model.specs.CertificateFits.{Sizes, IsUnfit}
use Rattle.tc_model.specs.declared.lists.CertData.{CertData}
use Rattle.tc_rows.specs.Triples.{Triple, outputs, ancestors}
use Rattle.tc_model.specs.States.{input, state_count}
use Rattle.tc_verify.specs.Fits.{sizes}
use Rattle.tc_verify.specs.Rejects.{IsBroken, IsFirstBroken, IsRejected, rank}
use Rattle.tc_verify.specs.declared.reject.Reject.{Reject}
use Rattle.tc_verify.specs.declared.reject.RejectRule.{RejectRule}
use Rattle.tc_verify.specs.declared.reject.RejectRule.TheVariants as rule

module _ (x y : Triple) (a : AreAlike x y) where
  sizes_alike : sizes x ≡ sizes y
  sizes_alike =
      (λ i. record {
        output_states = outputs x;
        patterns = (sizes x).patterns;
        input_states = state_count x.input input;
        outs = ap (λ n. ancestors x * n) (same_moves (bare x) (rest x) (rest y) a.selects_same) i;
        looks = same_looks (bare x) (rest x) (rest y) a.selects_same i;
      }) ∙ ap (λ b. sizes (made b (rest y))) a.bare_same

  pub broken_alike : (c : CertData) (r : RejectRule) (line other : ℕ) → IsBroken x c r line other → IsBroken y c r line other
  broken_alike c rule.Form line other b = b
  broken_alike c rule.Fit line other (u, e) = (subst (λ (s : Sizes). IsUnfit s c line) sizes_alike u, e)
  broken_alike c rule.Empty line other (n, e, f) = ((λ k. n (λ u is. k u (empty_alike x y a u is))), e, f)
  broken_alike c rule.Text line other (n, e, f) = ((λ k. n (λ live u is. k (text_live_alike x y a live) u (text_alike x y a u is))), e, f)
  broken_alike c rule.Append line other (i, j, li, lj, e, f, n) =
      (i, j, li, lj, e, f, λ k. n (λ h t p q live u is. k h t p q (live_append_alike x y a h t live) u (append_alike x y a h t u is)))
  broken_alike c rule.Wrap line other (i, li, ls, e, n) =
      (i, li, symbol_alike x y a other ls, e, λ k. n (λ h p live u is. k h p (live_wrap_alike x y a other h live) u (wrap_alike x y a other h u is)))
  broken_alike c rule.Root line other (j, lj, e, f, n) =
      (j, lj, e, f, λ k. n (λ t p admitted. passing_alike y x (alike_back x y a) t (k t p (admitted_alike x y a t admitted))))

pub rejected_alike : (x y : Triple) → AreAlike x y → (c : CertData) (r : Reject) → IsRejected x c r → IsRejected y c r
rejected_alike x y a c r k =
    let b : AreAlike y x = alike_back x y a in
    record {
      first = record { broken = broken_alike x y a c r.rule r.line r.other k.first.broken; least = λ l o p. k.first.least l o (broken_alike y x b c r.rule l o p) };
      earlier = λ q l o less p. k.earlier q l o less (broken_alike y x b c q l o p);
      none = λ cert. k.none (certificate_alike y x b c cert);
    }

-- rules are told by their places in the order
rule_at : ℕ → RejectRule
rule_at n =
    if n == 0 then rule.Form else if n == 1 then rule.Fit else if n == 2 then rule.Empty else if n == 3 then rule.Text else if n == 4 then rule.Append else if n == 5 then rule.Wrap else rule.Root

rule_at_rank : (r : RejectRule) → rule_at (rank r) ≡ r
unfolding rule_at
rule_at_rank rule.Form = refl
rule_at_rank rule.Fit = refl
rule_at_rank rule.Empty = refl
rule_at_rank rule.Text = refl
rule_at_rank rule.Append = refl
rule_at_rank rule.Wrap = refl
rule_at_rank rule.Root = refl

pub one_rejected : (x : Triple) (c : CertData) (p q : Reject) → IsRejected x c p → IsRejected x c q → p ≡ q
one_rejected x c p q k m = elim (cases_lt (rank p.rule) (rank q.rule)) [
  | inl less ↦ absurd (m.earlier p.rule p.line p.other less k.first.broken)
  | inr more ↦ by more (cases_lt (rank q.rule) (rank p.rule))
]
  where
    by : rank q.rule ≤ rank p.rule → (rank q.rule < rank p.rule) ⊎ (rank p.rule ≤ rank q.rule) → p ≡ q
    by more (inl less) = absurd (k.earlier q.rule q.line q.other less m.first.broken)
    by more (inr low) = λ i. record { line = lines.0 i; rule = rules i; other = lines.1 i }
      where
        ranks : rank p.rule ≡ rank q.rule
        ranks = omega (arith, more, low)

        rules : p.rule ≡ q.rule
        rules = sym (rule_at_rank p.rule) ∙ (ap rule_at ranks ∙ rule_at_rank q.rule)

        there : (p.line < q.line) ⊎ ((p.line ≡ q.line) × (p.other ≤ q.other))
        there = k.first.least q.line q.other (subst (λ r. IsBroken x c r q.line q.other) (sym rules) m.first.broken)

        back : (q.line < p.line) ⊎ ((q.line ≡ p.line) × (q.other ≤ p.other))
        back = m.first.least p.line p.other (subst (λ r. IsBroken x c r p.line p.other) rules k.first.broken)

        both : (p.line < q.line) ⊎ ((p.line ≡ q.line) × (p.other ≤ q.other)) → (q.line < p.line) ⊎ ((q.line ≡ p.line) × (q.other ≤ p.other)) → (p.line ≡ q.line) × (p.other ≡ q.other)
        both (inl u) (inl v) = absurd (omega (arith, u, v))
        both (inl u) (inr v) = let e = v.0 in absurd (omega (arith, u, e))
        both (inr u) (inl v) = let e = u.0 in absurd (omega (arith, v, e))
        both (inr u) (inr v) = let e = u.0 in let l = u.1 in let m = v.1 in (e, omega (arith, l, m))

        lines : (p.line ≡ q.line) × (p.other ≡ q.other)
        lines = both there back
