-- How puts to a text add up.
use Rattle.std.proofs.Common.{◌≡◌, ◌<◌, ℕ, List, [], ◌++◌, length, sym, ap, ◌∙◌, subst, append_assoc, append-nil, arith, length-append}
use Rattle.tc_cert.specs.declared.text.Text.{Text}
use Rattle.tc_cert.specs.declared.text.CertWriteFault.{CertWriteFault}
use Rattle.tc_cert.specs.Puts.{IsPut, IsCause, IsOn}

pub both : {s t u : Text} {p q : List ℕ} → IsPut s t p → IsPut t u q → IsPut s u (p ++ q)
both {s} {t} {u} {p} {q} a b = record {
  bytes = b.bytes ∙ ap (λ x. x ++ q) a.bytes ∙ append_assoc s.bytes.items p q;
  most = b.most ∙ a.most;
  within = b.within;
}

pub at_first : {s : Text} {e : CertWriteFault} {p : List ℕ} (q : List ℕ) → IsCause s p e → IsCause s (p ++ q) e
at_first {s} {e} {p} q c is = let k = (c is).long in record { long = simp length-append (omega (arith, length-append s.bytes.items p)) }

pub at_second : {s t : Text} {e : CertWriteFault} {p q : List ℕ} → IsPut s t p → IsCause t q e → IsCause s (p ++ q) e
at_second {s} {t} {e} {p} {q} a c is = record {
  long = subst (λ n. n < length (s.bytes.items ++ (p ++ q))) a.most
      (subst (λ x. t.most < length x) (ap (λ x. x ++ q) a.bytes ∙ append_assoc s.bytes.items p q) (c is).long);
}

pub begun : {s t : Text} {p rest goal : List ℕ} → IsPut s t p → p ++ rest ≡ goal → IsOn s t rest goal
begun {s} {t} {p} {rest} {goal} a e = record {
  bytes = ap (λ x. x ++ rest) a.bytes ∙ append_assoc s.bytes.items p rest ∙ ap (λ x. s.bytes.items ++ x) e;
  most = a.most;
  within = a.within;
}

pub further : {s t u : Text} {p rest more goal : List ℕ} → IsOn s t rest goal → IsPut t u p → rest ≡ p ++ more → IsOn s u more goal
further {s} {t} {u} {p} {rest} {more} {goal} o a e = record {
  bytes = ap (λ x. x ++ more) a.bytes ∙ append_assoc t.bytes.items p more ∙ ap (λ x. t.bytes.items ++ x) (sym e) ∙ o.bytes;
  most = a.most ∙ o.most;
  within = a.within;
}

pub ended : {s t : Text} {rest goal : List ℕ} → IsOn s t rest goal → rest ≡ [] → IsPut s t goal
ended {s} {t} {rest} {goal} o e = record {
  bytes = sym (append-nil t.bytes.items) ∙ ap (λ x. t.bytes.items ++ x) (sym e) ∙ o.bytes;
  most = o.most;
  within = o.within;
}

pub at_further : {s t : Text} {e : CertWriteFault} {p rest goal : List ℕ} (more : List ℕ) → IsOn s t rest goal → rest ≡ p ++ more → IsCause t p e → IsCause s goal e
at_further {s} {t} {e} {p} {rest} {goal} more o is c long = record {
  long = subst (λ n. n < length (s.bytes.items ++ goal)) o.most
      (subst (λ x. t.most < length x) (ap (λ x. t.bytes.items ++ x) (sym is) ∙ o.bytes) ((at_first more c) long).long);
}
