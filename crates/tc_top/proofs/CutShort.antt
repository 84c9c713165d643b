-- A call that is cut short is neither yes nor no.
use Rattle.std.proofs.Common.{◌≡◌, ◌⊎◌, inl, inr, refl}
use Rattle.tc_answer.specs.declared.status.Status.TheVariants.{Yes, No, WriteFault, NoMemory}
use Rattle.tc_top.specs.Headline.{IsCutShort}

pub memory_not_yes : {P : Type 0} → NoMemory ≡ Yes → P
memory_not_yes e = absurd (cc)

pub memory_not_no : {P : Type 0} → NoMemory ≡ No → P
memory_not_no e = absurd (cc)

pub fault_not_yes : {P : Type 0} → WriteFault ≡ Yes → P
fault_not_yes e = absurd (cc)

pub fault_not_no : {P : Type 0} → WriteFault ≡ No → P
fault_not_no e = absurd (cc)

pub memory_not_told : {P : Type 0} → (NoMemory ≡ Yes) ⊎ (NoMemory ≡ No) → P
memory_not_told (inl e) = memory_not_yes e
memory_not_told (inr e) = memory_not_no e

pub fault_not_told : {P : Type 0} → (WriteFault ≡ Yes) ⊎ (WriteFault ≡ No) → P
fault_not_told (inl e) = fault_not_yes e
fault_not_told (inr e) = fault_not_no e

pub by_memory : {P W Q : Type 0} → IsCutShort NoMemory P W ⊎ Q
by_memory = inl (inl refl)

pub by_fault : {P W Q : Type 0} → W → IsCutShort WriteFault P W ⊎ Q
by_fault rose = inl (inr (inl (refl, rose)))
