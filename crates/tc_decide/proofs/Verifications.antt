-- What is verified decides: each verdict by its cause, and the causes exclude one another; and so does what is written anew.
use Rattle.std.proofs.Common.{◌≡◌, ◌<◌, ◌≤◌, ◌⊎◌, inl, inr, refl, sym, ap, subst, ℕ, List, length, Result, Ok, Err, arith}
use Rattle.tc_base.specs.Reading.{longest_text}
use Rattle.tc_beh.specs.Machines.{IsShapeOf}
use Rattle.tc_beh.specs.declared.machine.Shape.{Shape}
use Rattle.tc_cert.specs.Fronts.{IsFirstFault}
use Rattle.tc_cert.specs.Texts.{text, by_changes, CertificateText}
use Rattle.tc_cert.proofs.Fronts.{no_fault}
use Rattle.tc_cert.proofs.FirstFaults.{one_data}
use Rattle.tc_close.proofs.Agreeing.{are_alike}
use Rattle.tc_close.proofs.ArithmeticAlike.{certificate_alike}
use Rattle.tc_close.proofs.Transport.{AreAlike as TriplesAlike}
use Rattle.tc_decide.specs.Certificates.{IsCertificateOf}
use Rattle.tc_decide.specs.Checking.{IsWithinTripleLimits}
use Rattle.tc_decide.specs.Rejections.{Rejection, fit_fails, rejection, IsRejectedFor, IsRejectionOf, of_form, of_rule}
use Rattle.tc_decide.specs.Verified.{OnAccepted, IsCertificateText, DecidesCertificate, TellsTextLimit, DecidesUpgrade, TellsUpgradeLimit}
use Rattle.tc_decide.specs.VerifiedSeen.{IsVerified, IsVerifiedAs, IsNoForm, IsWrittenAnew}
use Rattle.tc_decide.specs.declared.failure.Failure.{Failure}
use Rattle.tc_decide.specs.declared.failure.Failure.TheVariants.{Refused, Passes, NoMemory}
use Rattle.tc_decide.specs.declared.failure.Kind.TheVariants.{Texts, Rows, Nodes, Certificate, Work, Open, Pieces}
use Rattle.tc_decide.specs.declared.limits.TheConstants.{LONGEST_CERTIFICATE}
use Rattle.tc_decide.specs.declared.verdict.Upgrade.{Upgrade}
use Rattle.tc_decide.specs.declared.verdict.Upgrade.TheVariants.{Text, Malformed}
use Rattle.tc_decide.specs.declared.verdict.Verification.{Verification}
use Rattle.tc_decide.specs.declared.verdict.Verification.TheVariants.{Accepted, Rejected}
use Rattle.tc_decide.proofs.Found.{FindsLimits}
use Rattle.tc_decide.proofs.Passing.{over_triple}
use Rattle.tc_decide.proofs.Triples.{itself, of_triple}
use Rattle.tc_model.specs.CertificateFits.{IsFirstUnfit}
use Rattle.tc_model.specs.Grammars.{Grammar}
use Rattle.tc_model.specs.Safety.{IsSafe}
use Rattle.tc_model.specs.Sheets.{Sheet}
use Rattle.tc_model.specs.declared.lists.CertData.{CertData}
use Rattle.tc_rows.specs.CertificateRows.{IsCertificateData}
use Rattle.tc_rows.specs.Triples as t
use Rattle.tc_rows.specs.Triples.{Triple, IsTriple}
use Rattle.tc_rows.proofs.Derived.{certificate_is_safe}
use Rattle.tc_verify.specs.Fits.{shape_sizes}
use Rattle.tc_verify.specs.declared.reject.Reject.{Reject}
use Rattle.tc_verify.specs.declared.reject.RejectRule.TheVariants as rule
use Rattle.tc_verify.proofs.Verified.{unfit_rejected}

module _ {i o : Grammar} {s : Sheet} where
  -- what has a certificate is safe
  pub safe_certified : (d : CertData) → IsCertificateOf i o s d → IsSafe i o s
  safe_certified d (x, of, c) = of_triple IsSafe of (certificate_is_safe x of.triple d.outputs _ _ c)

  -- bytes aren't both the text of a certificate and that of data that isn't one
  pub accepted_rejected : (bytes : List ℕ) → length bytes ≤ longest_text → (d e : CertData) (why : Rejection) → CertificateText bytes d → CertificateText bytes e → IsCertificateOf i o s d → IsRejectedFor i o s e why → ⊥
  accepted_rejected bytes h d e why p q (x, a, c) (y, reject, b, k, same) =
      let alike : TriplesAlike x y = are_alike i o s x y a b in
      k.none (certificate_alike x y alike e (subst (IsCertificateData x) (one_data bytes h d e p q) c))

  pub not_it : (bytes : List ℕ) → length bytes ≤ longest_text → (why : Rejection) → IsRejectionOf i o s bytes why → IsCertificateText i o s bytes → ⊥
  not_it bytes h why (of_form {line_number} f) (d, spelled, c) = no_fault bytes d line_number spelled f
  not_it bytes h why (of_rule {d} spelled r) (e, u, c) = accepted_rejected bytes h e d why u spelled c r

-- a line that doesn't fit
pub unfit_line : (x : Triple) → IsTriple x → (s : Shape) → IsShapeOf x s → (bytes : List ℕ) (d : CertData) (line : ℕ) → CertificateText bytes d → IsFirstUnfit (shape_sizes s) d line
    → IsRejectionOf x.input x.output (t.sheet x) bytes (fit_fails line)
unfit_line x triple s shaped bytes d line means unfit =
    let reject : Reject = record { line = line; rule = rule.Fit; other = 0 } in
    of_rule means (x, reject, itself x triple, unfit_rejected x s d shaped line reject (record { by_rule = refl; by_line = refl; by_other = refl }) unfit, refl)

module _ (bytes : List ℕ) (i o : Grammar) (s : Sheet) where
  -- what isn't read, and what a rule of certificates fails of
  pub by_no_form : (result : Result Verification Failure) → IsWithinTripleLimits i o s → IsNoForm bytes result → IsVerified bytes i o s result
  by_no_form (Ok Accepted) w f = absurd f
  by_no_form (Ok (Rejected why)) w (line, f, e) = (w, subst (IsRejectionOf i o s bytes) (sym e) (of_form f))
  by_no_form (Err (Refused which reason at)) w f = absurd f
  by_no_form (Err (Passes kind number)) w f = absurd f
  by_no_form (Err NoMemory) w f = tt

  pub by_rule : (told : Rejection) (result : Result Verification Failure) (d : CertData) → IsWithinTripleLimits i o s → CertificateText bytes d → IsRejectedFor i o s d told → IsVerifiedAs told result
      → IsVerified bytes i o s result
  by_rule told (Ok Accepted) d w means r f = absurd f
  by_rule told (Ok (Rejected why)) d w means r e = (w, subst (IsRejectionOf i o s bytes) (sym e) (of_rule means r))
  by_rule told (Err (Refused which reason at)) d w means r f = absurd f
  by_rule told (Err (Passes kind number)) d w means r f = absurd f
  by_rule told (Err NoMemory) d w means r f = tt

  pub says_safe : (result : Result Verification Failure) → IsVerified bytes i o s result → OnAccepted result (IsSafe i o s)
  says_safe (Ok Accepted) f = f.2
  says_safe (Ok (Rejected why)) f = tt
  says_safe (Err failure) f = tt

  pub limits : (result : Result Verification Failure) → IsVerified bytes i o s result → TellsTextLimit i o s result
  limits (Ok verification) f = tt
  limits (Err (Refused which reason at)) f = absurd f
  limits (Err (Passes (Texts kind) number)) f = f
  limits (Err (Passes (Rows count) number)) f = absurd f
  limits (Err (Passes Nodes number)) f = absurd f
  limits (Err (Passes Certificate number)) f = absurd f
  limits (Err (Passes Work number)) f = absurd f
  limits (Err (Passes Open number)) f = absurd f
  limits (Err (Passes (Pieces measure) number)) f = absurd f
  limits (Err NoMemory) f = tt

  pub decides : length bytes ≤ longest_text → (result : Result Verification Failure) → IsVerified bytes i o s result → (result ≡ Err NoMemory) ⊎ DecidesCertificate i o s bytes result
  decides h (Ok Accepted) (w, c, safe) = inr (record {
    yes = (λ _. (w, c), λ _. tt);
    no = (λ e. absurd e, λ x. absurd (x.1 c));
    why = tt;
    limit = (λ e. absurd e, λ (kind, number, p). absurd (over_triple p w));
  })
  decides h (Ok (Rejected told)) (w, r) = inr (record {
    yes = (λ e. absurd e, λ x. absurd (not_it bytes h (rejection told) r x.1));
    no = (λ _. (w, not_it bytes h (rejection told) r), λ _. tt);
    why = r;
    limit = (λ e. absurd e, λ (kind, number, p). absurd (over_triple p w));
  })
  decides h (Err (Refused which reason at)) f = absurd f
  decides h (Err (Passes (Texts kind) number)) p = inr (record {
    yes = (λ e. absurd e, λ x. absurd (over_triple p x.0));
    no = (λ e. absurd e, λ x. absurd (over_triple p x.0));
    why = tt;
    limit = (λ _. (kind, number, p), λ _. tt);
  })
  decides h (Err (Passes (Rows count) number)) f = absurd f
  decides h (Err (Passes Nodes number)) f = absurd f
  decides h (Err (Passes Certificate number)) f = absurd f
  decides h (Err (Passes Work number)) f = absurd f
  decides h (Err (Passes Open number)) f = absurd f
  decides h (Err (Passes (Pieces measure) number)) f = absurd f
  decides h (Err NoMemory) f = inl refl

-- what is verified tells no refusal, and tells each limit that is passed before rows are tried
pub verified_texts : (bytes : List ℕ) → FindsLimits (IsVerified bytes)
verified_texts bytes = record { refused = λ i o s which reason at h. h; passed = λ i o s kind number p. p; memory = λ i o s. tt }

-- what is written anew

module _ (bytes : List ℕ) (h : length bytes ≤ longest_text) where
  -- one text isn't both too long and not
  short_long : (d e : CertData) → CertificateText bytes d → CertificateText bytes e → length (text by_changes d) ≤ LONGEST_CERTIFICATE → LONGEST_CERTIFICATE < length (text by_changes e) → ⊥
  short_long d e p q short long = let same = ap (λ (c : CertData). length (text by_changes c)) (one_data bytes h d e p q) in omega (arith, same, short, long)

  pub upgrade_decides : (result : Result Upgrade Failure) → IsWrittenAnew bytes result → (result ≡ Err NoMemory) ⊎ DecidesUpgrade bytes result
  upgrade_decides (Ok (Text out)) (d, means, short, spelled) = inr (record {
    yes = (λ _. (d, means, short), λ _. tt);
    written = (d, means, spelled);
    no = (λ e. absurd e, λ n. absurd (n d means));
    why = tt;
    limit = (λ e. absurd e, λ (e, other, long). absurd (short_long d e means other short long));
  })
  upgrade_decides (Ok (Malformed line)) f = inr (record {
    yes = (λ e. absurd e, λ (d, means, short). absurd (no_fault bytes d line means f));
    written = tt;
    no = (λ _. λ d means. no_fault bytes d line means f, λ _. tt);
    why = f;
    limit = (λ e. absurd e, λ (d, means, long). absurd (no_fault bytes d line means f));
  })
  upgrade_decides (Err (Refused which reason at)) f = absurd f
  upgrade_decides (Err (Passes Certificate number)) ((d, means, long), same) = inr (record {
    yes = (λ e. absurd e, λ (e, other, short). absurd (short_long e d other means short long));
    written = tt;
    no = (λ e. absurd e, λ n. absurd (n d means));
    why = tt;
    limit = (λ _. (d, means, long), λ _. tt);
  })
  upgrade_decides (Err (Passes (Texts kind) number)) f = absurd f
  upgrade_decides (Err (Passes (Rows count) number)) f = absurd f
  upgrade_decides (Err (Passes Nodes number)) f = absurd f
  upgrade_decides (Err (Passes Work number)) f = absurd f
  upgrade_decides (Err (Passes Open number)) f = absurd f
  upgrade_decides (Err (Passes (Pieces measure) number)) f = absurd f
  upgrade_decides (Err NoMemory) f = inl refl

  pub upgrade_limits : (result : Result Upgrade Failure) → IsWrittenAnew bytes result → TellsUpgradeLimit bytes result
  upgrade_limits (Ok upgrade) f = tt
  upgrade_limits (Err (Refused which reason at)) f = absurd f
  upgrade_limits (Err (Passes Certificate number)) f = f
  upgrade_limits (Err (Passes (Texts kind) number)) f = absurd f
  upgrade_limits (Err (Passes (Rows count) number)) f = absurd f
  upgrade_limits (Err (Passes Nodes number)) f = absurd f
  upgrade_limits (Err (Passes Work number)) f = absurd f
  upgrade_limits (Err (Passes Open number)) f = absurd f
  upgrade_limits (Err (Passes (Pieces measure) number)) f = absurd f
  upgrade_limits (Err NoMemory) f = tt
