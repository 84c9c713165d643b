use Rattle.tc_close.proofs.Agreeing.{are_alike, triples_agree}
use Rattle.tc_close.proofs.ArithmeticAlike.{certificate_alike}
use Rattle.tc_close.proofs.LeastHolds.{are_closed, are_least, least_holds}
use Rattle.tc_close.proofs.OneCertificate.{one_certificate}
use Rattle.tc_close.proofs.laws.law_of_certificates.Goals as goal

pub returns : goal.returns
returns c = record {
  agree = λ i o s x y a b d c. certificate_alike x y (are_alike i o s x y a b) d c;
  one = λ i o s x y a b d e one other. one_certificate x y (triples_agree i o s x y a b) d e one other;
  holds = λ x is safe d least. least_holds x is safe d least;
  least = λ x is trees hedges ts hs. (are_closed x is trees hedges ts hs, are_least x is trees hedges ts hs);
}
