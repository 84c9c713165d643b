-- How functions end that put one piece behind another.
use Rattle.std.proofs.Common.{ℕ, List, ◌≡◌, ◌++◌, Result, Ok, Err, IfErr, OnOk, IsErrAnd}
use Rattle.tc_cert.specs.declared.text.Text.{Text}
use Rattle.tc_cert.specs.declared.text.CertWriteFault.{CertWriteFault}
use Rattle.tc_cert.specs.Puts.{IsPut, IsCause}
use Rattle.tc_cert.proofs.Puts.{both, at_first, at_second}
use Rattle.tc_cert.proofs.Steps.{same_error}

pub stops_first : {T : Type 0} (s : Text) (p q : List ℕ) (r : Result T CertWriteFault) (x : CertWriteFault) → IsErrAnd r (λ e. e ≡ x) → IsCause s p x → IfErr r (IsCause s (p ++ q))
stops_first s p q r x e c = same_error (IsCause s (p ++ q)) r x e (at_first q c)

pub last_put : {T : Type 0} (s t u : Text) (p q : List ℕ) (r : Result T CertWriteFault) → IsPut s t p → OnOk r (IsPut t u q) → OnOk r (IsPut s u (p ++ q))
last_put s t u p q (Ok v) a b = both a b
last_put s t u p q (Err e) a b = tt

pub last_fault : {T : Type 0} (s t : Text) (p q : List ℕ) (r : Result T CertWriteFault) → IsPut s t p → IfErr r (IsCause t q) → IfErr r (IsCause s (p ++ q))
last_fault s t p q (Ok v) a c = tt
last_fault s t p q (Err e) a c = at_second a c

-- three pieces
pub first_of_three : {T : Type 0} (s : Text) (p q m : List ℕ) (r : Result T CertWriteFault) (x : CertWriteFault) → IsErrAnd r (λ e. e ≡ x) → IsCause s p x → IfErr r (IsCause s ((p ++ q) ++ m))
first_of_three s p q m r x e c = stops_first s (p ++ q) m r x e (at_first q c)

pub second_of_three : {T : Type 0} (s t : Text) (p q m : List ℕ) (r : Result T CertWriteFault) (x : CertWriteFault) → IsErrAnd r (λ e. e ≡ x) → IsPut s t p → IsCause t q x → IfErr r (IsCause s ((p ++ q) ++ m))
second_of_three s t p q m r x e a c = stops_first s (p ++ q) m r x e (at_second a c)

pub third_put : {T : Type 0} (s t u v : Text) (p q m : List ℕ) (r : Result T CertWriteFault) → IsPut s t p → IsPut t u q → OnOk r (IsPut u v m) → OnOk r (IsPut s v ((p ++ q) ++ m))
third_put s t u v p q m r a b c = last_put s u v (p ++ q) m r (both a b) c

pub third_fault : {T : Type 0} (s t u : Text) (p q m : List ℕ) (r : Result T CertWriteFault) → IsPut s t p → IsPut t u q → IfErr r (IsCause u m) → IfErr r (IsCause s ((p ++ q) ++ m))
third_fault s t u p q m r a b c = last_fault s u (p ++ q) m r (both a b) c
