-- Elements that must not stand where they stand.
use Rattle.std.proofs.Common.{◌≡◌, Bool, true, false, refl, ap, ◌∙◌, Option, None, Some, bytes_eq, if◌then◌else◌}
use Rattle.std.specs.Prelude.{is_some, option_map}
use Rattle.std.specs.List.{list_any}
use Rattle.std.proofs.lemmas.Bool.{true≢false, false≢true}
use Rattle.std.proofs.lemmas.Slice.Eq.{bytes_eq-Decides}
use Rattle.tc_base.specs.declared.reasons.Why.{Why}
use Rattle.tc_model.specs.Names.{ExpandedName}
use Rattle.tc_model.specs.SheetTextPhrases.{xsl_uri, Instruction, instruction_in, instructions, instruction_of}
use Rattle.tc_sheet.specs.Constructs.{IsRefusedElement, of_reason, IsUnknown, reason_in, reasons, reason_of, parts}

module _ (n : ExpandedName) (u : n.uri ≡ xsl_uri) where
  pub reason_is : {o : Option Why} → reason_in reasons n.local ≡ o → reason_of n ≡ o
  reason_is e = ap (λ (b : Bool). if b then reason_in reasons n.local else None) ((bytes_eq-Decides n.uri xsl_uri).1 u) ∙ e

  pub instruction_is : {o : Option Instruction} → instruction_in instructions n.local ≡ o → instruction_of n ≡ o
  instruction_is e = ap (λ (b : Bool). if b then instruction_in instructions n.local else None) ((bytes_eq-Decides n.uri xsl_uri).1 u) ∙ e

  pub refused_by : (why : Why) → reason_in reasons n.local ≡ Some why → IsRefusedElement n why
  refused_by why e = of_reason (reason_is e)

  pub is_unknown : reason_in reasons n.local ≡ None → instruction_in instructions n.local ≡ None → list_any (bytes_eq n.local) parts ≡ false → IsUnknown n
  is_unknown e f g = record { in_xslt = u; no_reason = reason_is e; no_instruction = instruction_is f; no_part = g }

pub mapped_none : {A B : Type 0} (f : A → B) (o : Option A) → is_some o ≡ false → option_map f o ≡ None
mapped_none f None e = refl
mapped_none f (Some x) e = absurd (true≢false e)

pub mapped_some : {A B : Type 0} (f : A → B) (o : Option A) → is_some o ≡ true → option_map f o ≡ None → ⊥
mapped_some f None e g = false≢true e
mapped_some f (Some x) e g = cc
