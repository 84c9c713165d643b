-- A text of version 2 is its own, and what faults of reading and of writing say of an upgrade.
use Rattle.std.proofs.Common.{◌≡◌, ◌<◌, ℕ, List, length, get_or, refl, sym, ap, ◌∙◌, arith}
use Rattle.tc_model.specs.declared.lists.CertData.{CertData}
use Rattle.tc_cert.specs.Texts.{Version, whole, by_changes, text, CertificateText}
use Rattle.tc_cert.specs.Readings.{IsUnread, IsNotUpgraded, BeginsByChanges, upgrade_fault, write_fault}
use Rattle.tc_cert.specs.declared.faults.CertFault.{CertFault}
use Rattle.tc_cert.specs.declared.faults.CertFault.TheVariants as cert
use Rattle.tc_cert.specs.declared.text.CertWriteFault.{CertWriteFault}
use Rattle.tc_cert.specs.declared.text.CertWriteFault.TheVariants as writing

own_text : (v : Version) (bytes : List ℕ) (d : CertData) → BeginsByChanges bytes → bytes ≡ text v d → bytes ≡ text by_changes d
own_text whole bytes d b e = let digit : 50 ≡ 49 = ap (λ l. get_or l 27 0) (sym b.spelled ∙ e) in absurd (omega (arith, digit))
own_text by_changes bytes d b e = e

pub own_of : (bytes : List ℕ) (d : CertData) → BeginsByChanges bytes → CertificateText bytes d → bytes ≡ text by_changes d
own_of bytes d b t = own_text t.version bytes d b t.spelled

pub not_read : (bytes : List ℕ) (e : CertFault) → IsUnread bytes e → IsNotUpgraded bytes (upgrade_fault e)
not_read bytes (cert.Form line) h = h
not_read bytes cert.NoMemory h = tt

pub not_written : (bytes : List ℕ) (d : CertData) (e : CertWriteFault) → CertificateText bytes d → (e ≡ writing.TooLong → 67108864 < length (text by_changes d)) → IsNotUpgraded bytes (write_fault e)
not_written bytes d writing.TooLong t h = record { held = d; means = t; long = h refl }
not_written bytes d writing.NoMemory t h = tt
