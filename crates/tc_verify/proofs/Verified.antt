-- What is verified is a certificate, and shows safety.
use Rattle.std.proofs.Common.{◌≡◌, ℕ, Ok, Err, Result, IfErr, IsErrAnd, map, subst, sym}
use Rattle.tc_model.specs.Safety.{IsSafe}
use Rattle.tc_rows.specs.Triples.{Triple, sheet}
use Rattle.tc_rows.proofs.Derived.{certificate_is_safe, closed_hold_all}
use Rattle.tc_model.specs.declared.lists.CertData.{CertData}
use Rattle.tc_beh.specs.Machines.{IsMachine, IsMachineOf, IsShapeOf}
use Rattle.tc_beh.specs.declared.machine.Shape.{Shape}
use Rattle.tc_beh.specs.declared.machine.Machine.{Machine}
use Rattle.tc_model.specs.CertificateData.{IsFormed}
use Rattle.tc_rows.specs.CertificateRows.{trees_of, hedges_of, numbered_tree, numbered_hedge, IsCertificateData, ListsAllLive}
use Rattle.tc_model.specs.CertificateFits.{AllFit, IsFirstUnfit}
use Rattle.tc_verify.specs.Fits.{sizes, shape_sizes}
use Rattle.tc_verify.specs.Listings.{Listing, hedge_rows, tree_rows}
use Rattle.tc_verify.specs.Firsts.{AllHold, IsFirstOf}
use Rattle.tc_verify.specs.RejectedPlaces.{IsRejectOf, AreIn, Tells}
use Rattle.tc_verify.specs.Rejects.{IsRejected}
use Rattle.tc_verify.specs.declared.first.Broken.{Broken}
use Rattle.tc_verify.specs.declared.reject.Reject.{Reject}
use Rattle.tc_verify.specs.declared.reject.RejectRule.TheVariants as rule
use Rattle.tc_verify.specs.declared.reject.VerifyFault.{VerifyFault}
use Rattle.tc_verify.specs.declared.reject.VerifyFault.TheVariants.{NoMemory}
use Rattle.tc_verify.proofs.Made.{holds}
use Rattle.tc_verify.proofs.Rejecting.{certified, unfit_told, broken_rejected, places_in}

-- the sizes of a machine's shape are those of each triple that the machine is of
pub same_sizes : (x : Triple) (s : Shape) → IsShapeOf x s → shape_sizes s ≡ sizes x
same_sizes x s is = cc (is.output_states, is.input_patterns, is.input_states, is.entry_number, is.look_number)

module _ (x : Triple) (s : Shape) (c : CertData) (is : IsShapeOf x s) where
  pub all_fit : AllFit (shape_sizes s) c → AllFit (sizes x) c
  all_fit f = subst (λ z. AllFit z c) (same_sizes x s is) f

  pub unfit_rejected : (line : ℕ) (r : Reject) → Tells r rule.Fit line 0 → IsFirstUnfit (shape_sizes s) c line → IsRejected x c r
  unfit_rejected line r tells first = unfit_told x c line r tells (subst (λ z. IsFirstUnfit z c line) (same_sizes x s is) first)

-- want of memory
pub lacks : {T : Type 0} (P : VerifyFault → Type 0) (r : Result T VerifyFault) → IsErrAnd r (λ e. e ≡ NoMemory) → P NoMemory → IfErr r P
lacks P (Ok v) e a = tt
lacks P (Err f) e a = subst P (sym e) a

module _ (m : Machine) (c : CertData) (formed : IsFormed c) (fit : (x : Triple) → IsMachineOf x m → AllFit (sizes x) c) (l : Listing) (same : l.machine ≡ m)
    (hs : (x : Triple) → IsMachineOf x m → hedge_rows l x ≡ hedges_of c) (ts : (x : Triple) → IsMachineOf x m → tree_rows l x ≡ trees_of c) where
  on : (x : Triple) → IsMachineOf x m → IsMachineOf x l.machine
  on x is = subst (IsMachineOf x) (sym same) is

  pub is_certified : AllHold l → (x : Triple) → IsMachineOf x m → IsCertificateData x c
  is_certified all x is = holds x c formed (fit x is) l (on x is) (hs x is) (ts x is) all

  pub is_safe : AllHold l → (x : Triple) → IsMachineOf x m → IsSafe x.input x.output (sheet x)
  is_safe all x is = certificate_is_safe x is.parts.are_rules.triple c.outputs (map numbered_tree c.trees) (map numbered_hedge c.hedges) (is_certified all x is)

  pub is_all_live : AllHold l → (x : Triple) → IsMachineOf x m → ListsAllLive x c
  is_all_live all x is =
      let live = closed_hold_all x is.parts.are_rules.triple (trees_of c) (hedges_of c) (certified x c (is_certified all x is)).closed in
      record { trees = live.0; hedges = live.1 }

  -- the first rule that is broken
  pub is_rejected : (b : Broken) (r : Reject) → IsFirstOf l b → IsRejectOf c b r → (x : Triple) → IsMachineOf x m → IsRejected x c r
  is_rejected b r first told x is = broken_rejected x c formed (fit x is) l (on x is) (hs x is) (ts x is) b r first told

  pub are_in : IsMachine m → (b : Broken) → IsFirstOf l b → AreIn c b
  are_in (x, is) b first = places_in x c formed (fit x is) l (on x is) (hs x is) (ts x is) b first
