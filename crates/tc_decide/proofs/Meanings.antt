-- What holds of the schemas and the stylesheet that accepted texts spell holds of those that they mean.
use Rattle.std.proofs.Common.{◌≡◌, ℕ, List, subst, Result, Ok, Err}
use Rattle.tc_decide.specs.Comparing.{AreSpelled, TellsRefusalOfPair}
use Rattle.tc_decide.specs.Deciding.{AreAccepted, TellsRefusal}
use Rattle.tc_decide.specs.Texts.{Spells, Means}
use Rattle.tc_decide.specs.declared.failure.Failure.{Failure}
use Rattle.tc_decide.specs.declared.schemas.SchemaText.{SchemaText}
use Rattle.tc_decide.specs.declared.schemas.SchemaText.TheVariants.{Compact, Declarations}
use Rattle.tc_model.specs.Grammars.{Grammar}
use Rattle.tc_model.specs.Sheets.{Sheet}
use Rattle.tc_model.proofs.SimplifiesUnique.{one_rnc_meaning, rnc_means}
use Rattle.tc_read.specs.Sheets.{MeansSheet, IsSheetOf}
use Rattle.tc_read.proofs.SheetMeanings.{one_sheet_meaning, sheet_means}

one_meaning : (text : SchemaText) (g h : Grammar) → Spells text g → Means text h → g ≡ h
one_meaning (Compact text) g h a b = one_rnc_meaning text.now g h (rnc_means a) b
one_meaning (Declarations root text) g h a b = absurd b

of_accepted : (P : Grammar → Grammar → Sheet → Type 0) {input output : SchemaText} {sheet : List ℕ} → AreAccepted input output sheet
    → ((i o : Grammar) (s : Sheet) → Spells input i → Spells output o → IsSheetOf sheet s → P i o s)
    → (i o : Grammar) (s : Sheet) → Means input i → Means output o → MeansSheet sheet s → P i o s
of_accepted P {input} {output} {sheet} a f i o s x y z =
    let (g, p) = a.input_spells in
    let (h, q) = a.output_spells in
    let (t, r) = a.sheet_spells in
    subst (λ w. P i o w) (one_sheet_meaning (sheet_means r) z)
    (subst (λ w. P i w t) (one_meaning output h o q y) (subst (λ w. P w h t) (one_meaning input g i p x) (f g h t p q r)))

-- what is told of a verdict, and of a failure nothing
pub of_verdict : {V : Type 0} (P : Result V Failure → Grammar → Grammar → Sheet → Type 0) → ((e : Failure) (i o : Grammar) (s : Sheet) → P (Err e) i o s)
    → (input output : SchemaText) (sheet : List ℕ) (result : Result V Failure) → TellsRefusal input output sheet result
    → ((i o : Grammar) (s : Sheet) → Spells input i → Spells output o → IsSheetOf sheet s → P result i o s)
    → (i o : Grammar) (s : Sheet) → Means input i → Means output o → MeansSheet sheet s → P result i o s
of_verdict P quiet input output sheet (Ok verdict) accepted f i o s x y z = of_accepted (P (Ok verdict)) accepted f i o s x y z
of_verdict P quiet input output sheet (Err failure) refusal f i o s x y z = quiet failure i o s

of_spelled : (P : Grammar → Grammar → Type 0) (first second : SchemaText) → AreSpelled first second
    → ((x y : Grammar) → Spells first x → Spells second y → P x y) → (x y : Grammar) → Means first x → Means second y → P x y
of_spelled P first second a f x y p q =
    let (g, u) = a.0 in
    let (h, v) = a.1 in
    subst (λ w. P x w) (one_meaning second h y v q) (subst (λ w. P w h) (one_meaning first g x u p) (f g h u v))

-- what is told of two schemas
pub of_comparison : {V : Type 0} (P : Result V Failure → Grammar → Grammar → Type 0) → ((e : Failure) (x y : Grammar) → P (Err e) x y)
    → (first second : SchemaText) (result : Result V Failure) → TellsRefusalOfPair first second result
    → ((x y : Grammar) → Spells first x → Spells second y → P result x y) → (x y : Grammar) → Means first x → Means second y → P result x y
of_comparison P quiet first second (Ok verdict) spelled f x y p q = of_spelled (P (Ok verdict)) first second spelled f x y p q
of_comparison P quiet first second (Err failure) refusal f x y p q = quiet failure x y
