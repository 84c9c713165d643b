-- What texts decide of certificates is one.
use Rattle.std.proofs.Common.{◌≡◌, ◌≤◌, ℕ, List, refl, sym, ap, ◌∙◌, subst, length, arith}
use Rattle.tc_answer.specs.Answers.{Answer, certificate, rejected, status_of}
use Rattle.tc_answer.specs.declared.status.Status.TheVariants.{Yes}
use Rattle.tc_base.specs.declared.limits.TheConstants.{LONGEST_FILE}
use Rattle.tc_cert.specs.Texts.{text, by_changes}
use Rattle.tc_cert.proofs.Fronts.{one_fault, no_fault}
use Rattle.tc_cert.proofs.FirstFaults.{one_data}
use Rattle.tc_close.proofs.Agreeing.{are_alike}
use Rattle.tc_close.proofs.Transport.{AreAlike as TriplesAlike}
use Rattle.tc_model.specs.Grammars.{Grammar}
use Rattle.tc_model.specs.Safety.{IsSafe}
use Rattle.tc_model.specs.Sheets.{Sheet}
use Rattle.tc_model.specs.declared.lists.CertData.{CertData}
use Rattle.tc_verify.specs.Rejects.{IsRejected}
use Rattle.tc_verify.specs.declared.reject.Reject.{Reject}
use Rattle.tc_top.specs.Causes.{Finds, passes_before_rows, passes_rows, finds_safe, finds_unsafe, finds_large, finds_none_small, OfTexts}
use Rattle.tc_top.specs.Certifying.{Certifies, as_checked, certifies, overlong, Accepts, stops_before_rows, accepts, no_text, no_certificate, Upgrades, upgrades, too_long, no_form}
use Rattle.tc_decide.specs.Rejections.{Rejection, form_fails, told, told_by, IsRejectedFor}
use Rattle.tc_decide.specs.Checking.{IsWithinTripleLimits, HasFewRows}
use Rattle.tc_top.specs.OneAnswer.{AreAlike, same_answer}
use Rattle.tc_decide.proofs.Passing.{over_triple}
use Rattle.tc_decide.proofs.Proving.{one_least, short_overlong}
use Rattle.tc_decide.proofs.Verifications.{accepted_rejected}
use Rattle.tc_top.proofs.OneCheck.{one_triple_limit, finds_one, texts_one}
use Rattle.tc_decide.proofs.Deciding.{not_both}
use Rattle.tc_top.proofs.RejectedAlike.{rejected_alike, one_rejected}

same_as : {one other : Answer} → one ≡ other → AreAlike one other
same_as {one} e = subst (AreAlike one) e same_answer

-- of what is safe and passes no limit `check` says yes
pub only_yes : {i o : Grammar} {s : Sheet} {most : ℕ} {answer : Answer} → Finds most i o s answer → IsWithinTripleLimits i o s → HasFewRows i o s most → IsSafe i o s → status_of answer ≡ Yes
only_yes (passes_before_rows p) w few safe = absurd (over_triple p w)
only_yes (passes_rows c v p) w few safe = absurd (few c p)
only_yes (finds_safe v f n h) w few safe = refl
only_yes {i} {o} {s} (finds_unsafe v f l k r) w few safe = absurd (not_both i o s safe l.counter)
only_yes {i} {o} {s} (finds_large v f l k) w few safe = absurd (not_both i o s safe l.counter)
only_yes {i} {o} {s} (finds_none_small v f l) w few safe = absurd (not_both i o s safe l.some.1)

module _ {i o : Grammar} {s : Sheet} where
  pub certifies_one : {most : ℕ} {one other : Answer} → Certifies i o s most one → Certifies i o s most other → AreAlike one other
  certifies_one (as_checked f n) (as_checked g m) = finds_one f g
  certifies_one (as_checked f n) (certifies w few safe l short) = absurd (n (only_yes f w few safe))
  certifies_one (as_checked f n) (overlong w few safe l) = absurd (n (only_yes f w few safe))
  certifies_one (certifies w few safe l short) (as_checked f n) = absurd (n (only_yes f w few safe))
  certifies_one (certifies {d} w few safe l short) (certifies {d = e} v g h m k) = same_as (ap (λ (c : CertData). certificate (text by_changes c)) (one_least d e l m))
  certifies_one (certifies {d} w few safe l short) (overlong v g h long) = absurd (short_overlong d l short long)
  certifies_one (overlong w few safe l) (as_checked f n) = absurd (n (only_yes f w few safe))
  certifies_one (overlong w few safe long) (certifies {d} v g h m short) = absurd (short_overlong d m short long)
  certifies_one (overlong w few safe l) (overlong v g h m) = same_answer

  one_why : (d e : CertData) (why other : Rejection) → d ≡ e → IsRejectedFor i o s d why → IsRejectedFor i o s e other → why ≡ other
  one_why d e why other same (x, p, a, k, f) (y, q, b, m, g) =
      let alike : TriplesAlike x y = are_alike i o s x y a b in
      let there : IsRejected y e p = subst (λ (c : CertData). IsRejected y c p) same (rejected_alike x y alike d p k) in
      let rejects : p ≡ q = one_rejected y e p q there m in
      f ∙ (ap (λ z. told_by z.symbols p.rule p.line p.other) alike.bare_same ∙ (ap (λ (r : Reject). told y r.rule r.line r.other) rejects ∙ sym g))

  pub accepts_one : {bytes : List ℕ} {one other : Answer} → length bytes ≤ LONGEST_FILE → Accepts i o s bytes one → Accepts i o s bytes other → AreAlike one other
  accepts_one h (stops_before_rows p) (stops_before_rows q) = one_triple_limit p q
  accepts_one h (stops_before_rows p) (accepts w t c safe) = absurd (over_triple p w)
  accepts_one h (stops_before_rows p) (no_text w f) = absurd (over_triple p w)
  accepts_one h (stops_before_rows p) (no_certificate w t r) = absurd (over_triple p w)
  accepts_one h (accepts w t c safe) (stops_before_rows p) = absurd (over_triple p w)
  accepts_one h (accepts w t c safe) (accepts v u e other) = same_answer
  accepts_one {bytes} h (accepts {d} w t c safe) (no_text {line} v f) = absurd (no_fault bytes d line t f)
  accepts_one {bytes} h (accepts {d} w t c safe) (no_certificate {d = e} {why} v u r) = absurd (accepted_rejected bytes h d e why t u c r)
  accepts_one h (no_text w f) (stops_before_rows p) = absurd (over_triple p w)
  accepts_one {bytes} h (no_text {line} w f) (accepts {d} v t c safe) = absurd (no_fault bytes d line t f)
  accepts_one {bytes} h (no_text {line} w f) (no_text {line = other} v g) = same_as (ap (λ n. rejected (form_fails n)) (one_fault bytes line other f g))
  accepts_one {bytes} h (no_text {line} w f) (no_certificate {d} v t r) = absurd (no_fault bytes d line t f)
  accepts_one h (no_certificate w t r) (stops_before_rows p) = absurd (over_triple p w)
  accepts_one {bytes} h (no_certificate {d} {why} w t r) (accepts {d = e} v u c safe) = absurd (accepted_rejected bytes h e d why u t c r)
  accepts_one {bytes} h (no_certificate {d} w t r) (no_text {line} v f) = absurd (no_fault bytes d line t f)
  accepts_one {bytes} h (no_certificate {d} {why} w t r) (no_certificate {d = e} {why = other} v u q) = same_as (ap rejected (one_why d e why other (one_data bytes h d e t u) r q))

pub one_proof : {most : ℕ} {input output sheet b c d : List ℕ} {one other : Answer} → OfTexts (λ i o s. Certifies i o s most) input output sheet b c d one → OfTexts (λ i o s. Certifies i o s most) input output sheet b c d other → AreAlike one other
one_proof {most} p q = texts_one (λ i o s. Certifies i o s most) (λ i o s one other x y. certifies_one x y) p q

pub one_verification : {bytes input output sheet b c d : List ℕ} {one other : Answer} → length bytes ≤ LONGEST_FILE → OfTexts (λ i o s. Accepts i o s bytes) input output sheet b c d one → OfTexts (λ i o s. Accepts i o s bytes) input output sheet b c d other → AreAlike one other
one_verification {bytes} h p q = texts_one (λ i o s. Accepts i o s bytes) (λ i o s one other x y. accepts_one h x y) p q

pub one_upgrade : {bytes : List ℕ} {one other : Answer} → length bytes ≤ LONGEST_FILE → Upgrades bytes one → Upgrades bytes other → AreAlike one other
one_upgrade {bytes} h (upgrades {d} t short) (upgrades {d = e} u k) = same_as (ap (λ (c : CertData). certificate (text by_changes c)) (one_data bytes h d e t u))
one_upgrade {bytes} h (upgrades {d} t short) (too_long {d = e} u long) = let same = ap (λ (c : CertData). length (text by_changes c)) (one_data bytes h d e t u) in absurd (omega (arith, same, short, long))
one_upgrade {bytes} h (upgrades {d} t short) (no_form {line} f) = absurd (no_fault bytes d line t f)
one_upgrade {bytes} h (too_long {d} t long) (upgrades {d = e} u short) = let same = ap (λ (c : CertData). length (text by_changes c)) (one_data bytes h d e t u) in absurd (omega (arith, same, short, long))
one_upgrade h (too_long t long) (too_long u more) = same_answer
one_upgrade {bytes} h (too_long {d} t long) (no_form {line} f) = absurd (no_fault bytes d line t f)
one_upgrade {bytes} h (no_form {line} f) (upgrades {d} t short) = absurd (no_fault bytes d line t f)
one_upgrade {bytes} h (no_form {line} f) (too_long {d} t long) = absurd (no_fault bytes d line t f)
one_upgrade {bytes} h (no_form {line} f) (no_form {line = other} g) = same_as (ap (λ n. rejected (form_fails n)) (one_fault bytes line other f g))
