-- What is proved decides: each proof and each failure by its cause, and the causes exclude one another.
use Rattle.std.specs.Global.{Vec}
use Rattle.std.proofs.Common.{◌≡◌, ◌<◌, ◌≤◌, ◌⊎◌, inl, inr, refl, ap, subst, ℕ, length, Result, Ok, Err, OnOk, arith}
use Rattle.tc_base.specs.declared.limits.TheConstants.{MOST_SHOWN_NODES}
use Rattle.tc_cert.specs.Texts.{text, by_changes}
use Rattle.tc_cert.specs.declared.text.CertWriteFault.{CertWriteFault}
use Rattle.tc_cert.specs.declared.text.CertWriteFault.TheVariants as write
use Rattle.tc_close.specs.Certified.{IsProved as IsClosed, IsSafeWithin, IsLeastCertificate}
use Rattle.tc_close.specs.Decisions.{IsCloseCause}
use Rattle.tc_close.specs.declared.decision.CloseFault.{CloseFault}
use Rattle.tc_close.specs.declared.decision.CloseFault.TheVariants.{TooManyTrees, TooManyHedges, TooManyOutputs, NoMemory as close_memory}
use Rattle.tc_close.specs.declared.proof.Proof.TheVariants as closed
use Rattle.tc_close.proofs.Agreeing.{triples_agree}
use Rattle.tc_close.proofs.OneCertificate.{one_certificate}
use Rattle.tc_decide.specs.Certificates.{OnCertified, IfRefuted, IsLeastOf, IsOverlong, HasShortCertificate, PassesInProof, DecidesProof, DecidesProofWithin, TellsLimit, IsCountedProof}
use Rattle.tc_decide.specs.Checking.{IsWithinTripleLimits, HasSmallCounter}
use Rattle.tc_decide.specs.Deciding.{IsShownBy, KeepsAll, IsOutputOf}
use Rattle.tc_decide.specs.TextsSeen.{of_close, of_write, IsProved}
use Rattle.tc_decide.specs.declared.failure.Failure.{Failure}
use Rattle.tc_decide.specs.declared.failure.Failure.TheVariants.{Refused, Passes, NoMemory}
use Rattle.tc_decide.specs.declared.failure.Kind.{Kind}
use Rattle.tc_decide.specs.declared.failure.Kind.TheVariants.{Texts, Rows, Nodes, Certificate, Work, Open, Pieces}
use Rattle.tc_decide.specs.declared.limits.TheConstants.{LONGEST_CERTIFICATE}
use Rattle.tc_decide.specs.declared.verdict.Output.{Output}
use Rattle.tc_decide.specs.declared.verdict.Proof.{Proof}
use Rattle.tc_decide.specs.declared.verdict.Proof.TheVariants.{Certified, Unsafe}
use Rattle.tc_decide.proofs.Deciding.{not_both, not_kept, small_of, shown_by}
use Rattle.tc_decide.proofs.Found.{FindsLimits}
use Rattle.tc_decide.proofs.Triples.{itself, few_rows, least_counter}
use Rattle.tc_model.specs.Grammars.{Grammar}
use Rattle.tc_model.specs.Safety.{IsSafe}
use Rattle.tc_model.specs.Sheets.{Sheet}
use Rattle.tc_model.specs.Trees.{none}
use Rattle.tc_model.specs.Views as see
use Rattle.tc_model.specs.declared.lists.CertData.{CertData}
use Rattle.tc_rows.specs.CertificateRows.{IsCertificateData}
use Rattle.tc_rows.specs.Triples as t
use Rattle.tc_rows.specs.Triples.{Triple, IsTriple}

module _ {i o : Grammar} {s : Sheet} where
  -- the certificate with exactly the rows of what is live is one
  pub one_least : (d e : CertData) → IsLeastOf i o s d → IsLeastOf i o s e → d ≡ e
  one_least d e (x, a, l) (y, b, m) = one_certificate x y (triples_agree i o s x y a b) d e l m

  -- what is too long has no shorter text
  pub short_overlong : (d : CertData) → IsLeastOf i o s d → length (text by_changes d) ≤ LONGEST_CERTIFICATE → IsOverlong i o s → ⊥
  short_overlong d l short (e, m, long) = let same = ap (λ (c : CertData). length (text by_changes c)) (one_least d e l m) in omega (arith, same, short, long)

module _ (most : ℕ) (i o : Grammar) (s : Sheet) where
  -- a limit that is passed isn't kept, and then there is neither a certificate nor a counterexample
  not_certified : (kind : Kind) (number : ℕ) → PassesInProof i o s most kind number → KeepsAll i o s most → IsSafe i o s → HasShortCertificate i o s → ⊥
  not_certified Certificate number p k safe (d, l, short) = short_overlong d l short p.2
  not_certified (Texts kind) number p k safe c = not_kept most i o s (Texts kind) number p k (inl safe)
  not_certified (Rows count) number p k safe c = not_kept most i o s (Rows count) number p k (inl safe)
  not_certified Nodes number p k safe c = not_kept most i o s Nodes number p k (inl safe)
  not_certified Work number p k safe c = not_kept most i o s Work number p k (inl safe)
  not_certified Open number p k safe c = not_kept most i o s Open number p k (inl safe)
  not_certified (Pieces measure) number p k safe c = not_kept most i o s (Pieces measure) number p k (inl safe)

  not_refuted : (kind : Kind) (number : ℕ) → PassesInProof i o s most kind number → KeepsAll i o s most → HasSmallCounter i o s → ⊥
  not_refuted Certificate number p k small = not_both i o s p.1 small.1
  not_refuted (Texts kind) number p k small = not_kept most i o s (Texts kind) number p k (inr small)
  not_refuted (Rows count) number p k small = not_kept most i o s (Rows count) number p k (inr small)
  not_refuted Nodes number p k small = not_kept most i o s Nodes number p k (inr small)
  not_refuted Work number p k small = not_kept most i o s Work number p k (inr small)
  not_refuted Open number p k small = not_kept most i o s Open number p k (inr small)
  not_refuted (Pieces measure) number p k small = not_kept most i o s (Pieces measure) number p k (inr small)

  pub decides : (result : Result Proof Failure) → IsProved most i o s result → (result ≡ Err NoMemory) ⊎ DecidesProofWithin i o s most result
  decides (Ok (Certified bytes)) (k, h, c, l) = inr (record {
    yes = (λ _. (k, h, c), λ _. tt);
    certificate = l;
    no = (λ e. absurd e, λ x. absurd (not_both i o s h x.1.1));
    least = tt;
    limit = (λ e. absurd e, λ (kind, number, p). absurd (not_certified kind number p k h c));
  })
  decides (Ok (Unsafe document output)) (k, l, r) = inr (record {
    yes = (λ e. absurd e, λ x. absurd (not_both i o s x.1 l.counter));
    certificate = tt;
    no = (λ _. (k, small_of most i o s l), λ _. tt);
    least = (l, r);
    limit = (λ e. absurd e, λ (kind, number, p). absurd (not_refuted kind number p k (small_of most i o s l)));
  })
  decides (Err (Refused which reason at)) f = absurd f
  decides (Err (Passes kind number)) f = inr (record {
    yes = (λ e. absurd e, λ x. absurd (not_certified kind number f x.0 x.1 x.2));
    certificate = tt;
    no = (λ e. absurd e, λ x. absurd (not_refuted kind number f x.0 x.1));
    least = tt;
    limit = (λ _. (kind, number, f), λ _. tt);
  })
  decides (Err NoMemory) f = inl refl

  pub says_safe : (result : Result Proof Failure) → IsProved most i o s result → OnCertified result (IsSafe i o s)
  says_safe (Ok (Certified bytes)) f = f.1
  says_safe (Ok (Unsafe document output)) f = tt
  says_safe (Err failure) f = tt

  pub shows : (result : Result Proof Failure) → IsProved most i o s result → IfRefuted result (IsShownBy i o s)
  shows (Ok (Certified bytes)) f = tt
  shows (Ok (Unsafe document output)) f = shown_by most i o s (see.before document none) output f.1.counter f.2
  shows (Err failure) f = tt

  pub limits : (result : Result Proof Failure) → IsProved most i o s result → TellsLimit i o s most result
  limits (Ok proof) f = tt
  limits (Err (Refused which reason at)) f = absurd f
  limits (Err (Passes kind number)) f = f
  limits (Err NoMemory) f = tt

  pub counted : (result : Result Proof Failure) → IsProved most i o s result → IsCountedProof i o s most result
  counted result f = record { limits = decides result f; number = limits result f }

  pub proved : (result : Result Proof Failure) → IsProved most i o s result → OnOk result (DecidesProof i o s result)
  proved (Ok (Certified bytes)) f = record { yes = (λ _. f.1, λ _. tt); certificate = f.3; no = (λ e. absurd e, λ x. absurd (not_both i o s f.1 x.1)); least = tt }
  proved (Ok (Unsafe document output)) f = record {
    yes = (λ e. absurd e, λ h. absurd (not_both i o s h f.1.counter));
    certificate = tt;
    no = (λ _. small_of most i o s f.1, λ _. tt);
    least = (shown_by most i o s (see.before document none) output f.1.counter f.2, f.1.fewest);
  }
  proved (Err failure) f = tt

-- what is proved tells no refusal, and tells each limit that is passed before rows are tried
pub proved_texts : (most : ℕ) → FindsLimits (IsProved most)
proved_texts most = record { refused = λ i o s which reason at h. h; passed = λ i o s kind number p. p; memory = λ i o s. tt }

-- what is proved of a machine

module _ (x : Triple) (is : IsTriple x) (w : IsWithinTripleLimits x.input x.output (t.sheet x)) (most : ℕ) where
  -- the text of the least certificate, or why there is none
  pub certified : (d : CertData) → IsSafeWithin x most → IsLeastCertificate x d → IsCertificateData x d → (bytes : Vec ℕ) → bytes.items ≡ text by_changes d → length bytes.items ≤ LONGEST_CERTIFICATE
      → IsProved most x.input x.output (t.sheet x) (Ok (Certified bytes))
  certified d h l cert bytes same short =
      ((w, few_rows x is h.keeps), h.safe, (d, (x, itself x is, l), subst (λ k. length k ≤ LONGEST_CERTIFICATE) same short), (d, (x, itself x is, l), (x, itself x is, cert), short, same))

  pub unwritten : (d : CertData) → IsSafeWithin x most → IsLeastCertificate x d → (fault : CertWriteFault) → (fault ≡ write.TooLong → LONGEST_CERTIFICATE < length (text by_changes d))
      → IsProved most x.input x.output (t.sheet x) (Err (of_write fault))
  unwritten d h l write.TooLong long = ((w, few_rows x is h.keeps), h.safe, (d, (x, itself x is, l), long refl), refl)
  unwritten d h l write.NoMemory long = tt

  pub too_long : IsClosed x most closed.TooLong → IsProved most x.input x.output (t.sheet x) (Err (Passes Certificate LONGEST_CERTIFICATE))
  too_long (h, (d, least, long)) = ((w, few_rows x is h.keeps), h.safe, (d, (x, itself x is, least), long), refl)

  pub refuted : (document : _) (output : Output) → IsClosed x most (closed.Unsafe document) → IsOutputOf (t.sheet x) (see.before document none) output
      → IsProved most x.input x.output (t.sheet x) (Ok (Unsafe document output))
  refuted document output h r = ((w, few_rows x is h.keeps), least_counter x is h, r)

  pub far : IsClosed x most closed.TooManyNodes → IsProved most x.input x.output (t.sheet x) (Err (Passes Nodes MOST_SHOWN_NODES))
  far h = ((w, few_rows x is h.keeps), record { some = h.some; large = h.far }, refl)

  pub many : (fault : CloseFault) → IsCloseCause x most fault → IsProved most x.input x.output (t.sheet x) (Err (of_close most fault))
  many TooManyTrees h = (w, (x, itself x is, h), refl)
  many TooManyHedges h = (w, (x, itself x is, h), refl)
  many TooManyOutputs h = (w, (x, itself x is, h), refl)
  many close_memory h = tt
