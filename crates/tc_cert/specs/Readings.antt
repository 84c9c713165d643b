-- What is answered where bytes aren't the text of a certificate, or where its text in version 2 is too long.
use Rattle.std.specs.Prelude.{◌≡◌, ◌<◌, ◌≤◌, ◌++◌, ℕ, List, length, codes}
use Rattle.tc_base.specs.declared.limits.TheConstants.{LONGEST_FILE}
use Rattle.tc_model.specs.declared.lists.CertData.{CertData}
use Rattle.tc_model.specs.CertificateData.{IsFormed}
use Rattle.tc_cert.specs.Texts.{text, by_changes, CertificateText}
use Rattle.tc_cert.specs.Fronts.{IsFirstFault}
use Rattle.tc_cert.specs.declared.faults.CertFault.{CertFault}
use Rattle.tc_cert.specs.declared.faults.CertFault.TheVariants as fault
use Rattle.tc_cert.specs.declared.faults.UpgradeFault.{UpgradeFault}
use Rattle.tc_cert.specs.declared.faults.UpgradeFault.TheVariants as upgrade
use Rattle.tc_cert.specs.declared.text.CertWriteFault.{CertWriteFault}
use Rattle.tc_cert.specs.declared.text.CertWriteFault.TheVariants as writing

-- why bytes can't be read: they are the text of no certificate, and this line is the first that isn't as it must be; memory is free
abbrev pub IsUnread : List ℕ → CertFault → Type 0
IsUnread bytes (fault.Form line) = IsFirstFault bytes line
IsUnread bytes fault.NoMemory = Unit {0}

-- the data of the bytes has a text in version 2 with more bytes than a file may have
pub record IsLong (bytes : List ℕ) : Type 0 where
  pub held : CertData
  pub means : CertificateText bytes held
  pub long : LONGEST_FILE < length (text by_changes held)

-- why there is no text in version 2
abbrev pub IsNotUpgraded : List ℕ → UpgradeFault → Type 0
IsNotUpgraded bytes (upgrade.Form line) = IsFirstFault bytes line
IsNotUpgraded bytes upgrade.TooLong = IsLong bytes
IsNotUpgraded bytes upgrade.NoMemory = Unit {0}

-- the text in version 2 of the data of the bytes, of no more bytes than a file may have
pub record IsUpgraded (bytes out : List ℕ) : Type 0 where
  pub held : CertData
  pub means : CertificateText bytes held
  pub spelled : out ≡ text by_changes held
  pub within : length out ≤ LONGEST_FILE

-- the first line is that of version 2
pub record BeginsByChanges (bytes : List ℕ) : Type 0 where
  pub rest : List ℕ
  pub spelled : bytes ≡ codes "xslt-typecheck certificate 2\n" ++ rest

-- a fault of reading or of writing, as one of these
abbrev pub upgrade_fault : CertFault → UpgradeFault
upgrade_fault (fault.Form line) = upgrade.Form line
upgrade_fault fault.NoMemory = upgrade.NoMemory

abbrev pub write_fault : CertWriteFault → UpgradeFault
write_fault writing.TooLong = upgrade.TooLong
write_fault writing.NoMemory = upgrade.NoMemory

-- bytes that are no longer than a file are the text of one data at most
abbrev pub OneData : Type 0
OneData = (bytes : List ℕ) → length bytes ≤ LONGEST_FILE → (d e : CertData) → CertificateText bytes d → CertificateText bytes e → d ≡ e

-- what is written of formed data is the text of that data, and of no other
abbrev pub WrittenIsRead : Type 0
WrittenIsRead = (d : CertData) → IsFormed d → length (text by_changes d) ≤ LONGEST_FILE → CertificateText (text by_changes d) d × ((e : CertData) → CertificateText (text by_changes d) e → e ≡ d)
