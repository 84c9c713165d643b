-- What a schema's text means is one grammar, a well-formed one, and none where it is refused.
use Rattle.std.proofs.Common.{◌≡◌, ℕ, List, Bor, refl, subst}
use Rattle.tc_decide.specs.MachinesSeen.{IsReadOf, IsLawful}
use Rattle.tc_decide.specs.Texts.{DeclaresGrammar, IsRefusedDtd, Spells, IsRefused, IsReadAsOne, IsSchemaOfDtd, IsSchemaOf}
use Rattle.tc_decide.specs.declared.schemas.SchemaText.{SchemaText}
use Rattle.tc_decide.specs.declared.schemas.SchemaText.TheVariants.{Compact, Declarations}
use Rattle.tc_dtd.specs.DtdGrammar.{IsGrammarOfDtd}
use Rattle.tc_dtd.specs.DtdTextLaws.{IsRefusal}
use Rattle.tc_dtd.specs.Faults.{IsFaultOf}
use Rattle.tc_dtd.specs.declared.faults.DtdFault.{DtdFault}
use Rattle.tc_dtd.specs.declared.faults.DtdFault.TheVariants as dtd
use Rattle.tc_dtd.proofs.FaultLaws.{one_dtd, lawful, no_dtd}
use Rattle.tc_dtd.proofs.OneFault.{one_grammar}
use Rattle.tc_dtd.proofs.ValidLaws.{law_of_grammar}
use Rattle.tc_model.specs.Grammars.{Grammar, IsGrammar}
use Rattle.tc_model.specs.RncText.{RncText}
use Rattle.tc_model.specs.SimplifiesLaws.{IsStart}
use Rattle.tc_model.specs.Views as see
use Rattle.tc_model.proofs.SimplifiesLawful.{lawful_grammar}
use Rattle.tc_model.proofs.SimplifiesUnique.{lawful_start, one_rnc_text}
use Rattle.tc_read.specs.Faults.{IsUnaccepted}
use Rattle.tc_read.specs.Refusals.{IsRefusedSchema}
use Rattle.tc_read.specs.Schemas.{IsSchemaOf as IsSchemaOfCompact}
use Rattle.tc_read.specs.declared.faults.Reason.{Reason}
use Rattle.tc_read.specs.declared.faults.Reason.TheVariants.{Malformed, Unsupported, TooDeep, Undefined, Twice, Loop, BadStart, BadExcept, CallLoop}
use Rattle.tc_read.specs.declared.faults.TextFault.{TextFault}
use Rattle.tc_read.specs.declared.faults.TextFault.TheVariants.{Refused, NoMemory}
use Rattle.tc_read.specs.declared.schemas.Schema.{Schema}
use Rattle.tc_read.specs.declared.schemas.Schema.TheVariants.{Small, TooLarge}
use Rattle.tc_read.proofs.SchemaReasons as rnc

-- declarations

pub one_declared : {root bytes : List ℕ} {g h : Grammar} → DeclaresGrammar root bytes g → DeclaresGrammar root bytes h → g ≡ h
one_declared {root} {bytes} {g} {h} a b =
    one_grammar b.declarations root g h (subst (λ ds. IsGrammarOfDtd ds root g) (one_dtd bytes a.declarations b.declarations a.declared b.declared) a.is_grammar) b.is_grammar

-- a refusal is a fault
pub record IsOfFault (bytes : List ℕ) (reason : Reason) (place : ℕ) (reason_of : DtdFault → Reason) (place_in : DtdFault → ℕ) : Type 0 where
  pub fault : DtdFault
  pub refusal : IsRefusal fault
  pub faulty : IsFaultOf bytes fault
  pub reason_is : reason ≡ reason_of fault
  pub place_is : place ≡ place_in fault

abbrev pub reason_by : DtdFault → Reason
reason_by (dtd.Malformed p) = Malformed
reason_by (dtd.Unsupported p why) = Unsupported why
reason_by (dtd.TooDeep p) = TooDeep
reason_by (dtd.Twice p) = Twice
reason_by dtd.NoMemory = Malformed

abbrev pub place_by : DtdFault → ℕ
place_by (dtd.Malformed p) = p.0
place_by (dtd.Unsupported p why) = p.0
place_by (dtd.TooDeep p) = p.0
place_by (dtd.Twice p) = p.0
place_by dtd.NoMemory = 0

pub of_fault : (bytes : List ℕ) (reason : Reason) (place : ℕ) → IsRefusedDtd bytes reason place → IsOfFault bytes reason place reason_by place_by
of_fault bytes Malformed place h = record { fault = dtd.Malformed (record { 0 = place }); refusal = tt; faulty = h; reason_is = refl; place_is = refl }
of_fault bytes (Unsupported why) place h = record { fault = dtd.Unsupported (record { 0 = place }) why; refusal = tt; faulty = h; reason_is = refl; place_is = refl }
of_fault bytes TooDeep place h = record { fault = dtd.TooDeep (record { 0 = place }); refusal = tt; faulty = h; reason_is = refl; place_is = refl }
of_fault bytes Twice place h = record { fault = dtd.Twice (record { 0 = place }); refusal = tt; faulty = h; reason_is = refl; place_is = refl }
of_fault bytes Undefined place h = absurd h
of_fault bytes Loop place h = absurd h
of_fault bytes BadStart place h = absurd h
of_fault bytes BadExcept place h = absurd h
of_fault bytes CallLoop place h = absurd h

pub no_declared : {root bytes : List ℕ} {g : Grammar} (reason : Reason) (place : ℕ) → IsRefusedDtd bytes reason place → DeclaresGrammar root bytes g → ⊥
no_declared {bytes = bytes} reason place h a = let f = of_fault bytes reason place h in no_dtd bytes f.fault a.declarations f.refusal f.faulty a.declared

pub lawful_declared : {root bytes : List ℕ} {g : Grammar} → DeclaresGrammar root bytes g → IsGrammar g × IsStart g.start
lawful_declared {root} {bytes} {g} a = law_of_grammar a.declarations root g (lawful bytes a.declarations a.declared) a.is_grammar

-- texts of both kinds

pub one_schema : (text : SchemaText) (g h : Grammar) → Spells text g → Spells text h → g ≡ h
one_schema (Compact text) g h a b = one_rnc_text text.now g h a b
one_schema (Declarations root text) g h a b = one_declared a b

pub no_schema : (text : SchemaText) (g : Grammar) (reason : Reason) (place : ℕ) → IsRefused text reason place → Spells text g → ⊥
no_schema (Compact text) g reason place r a = rnc.no_schema text.now reason place g r a
no_schema (Declarations root text) g reason place r a = no_declared reason place r a

pub lawful_schema : (text : SchemaText) (g : Grammar) → Spells text g → IsGrammar g × IsStart g.start
lawful_schema (Compact text) g a = (lawful_grammar text.now g a, lawful_start a.0 g a.2)
lawful_schema (Declarations root text) g a = lawful_declared a

-- the grammar that a text spells is that of its schema
pub read_of : (Means : Grammar → Type 0) (x : Schema) → IsReadAsOne Means x → (g : Grammar) × Means g × IsReadOf g x
read_of Means (Small g) h = (see.grammar g, h.0, (refl, h.1))
read_of Means (TooLarge kind number) h = (h.0, h.1, h.2)

-- a schema that is read of a text is lawful
pub lawful_read : (text : SchemaText) (x : Schema) → IsSchemaOf text x → IsLawful x
lawful_read text x h = let (g, spells, read) = read_of (Spells text) x h in let (grammar, start) = lawful_schema text g spells in (g, read, grammar, start)

-- what is read of the bytes of a text

as_one : (P Q : Grammar → Type 0) → ((g : Grammar) → P g → Q g) → (x : Schema) → IsReadAsOne P x → IsReadAsOne Q x
as_one P Q on (Small g) h = (on (see.grammar g) h.0, h.1)
as_one P Q on (TooLarge kind number) h = (h.0, on h.0 h.1, h.2)

of_compact : (bytes : List ℕ) (x : Schema) → IsSchemaOfCompact bytes x → IsReadAsOne (RncText bytes) x
of_compact bytes (Small g) h = h
of_compact bytes (TooLarge kind number) h = h

pub read_compact : (text : Bor (List ℕ)) (x : Schema) → IsSchemaOfCompact text.now x → IsSchemaOf (Compact text) x
read_compact text x h = as_one (RncText text.now) (Spells (Compact text)) (λ g s. s) x (of_compact text.now x h)

pub read_declared : (root text : Bor (List ℕ)) (x : Schema) → IsSchemaOfDtd root.now text.now x → IsSchemaOf (Declarations root text) x
read_declared root text x h = as_one (DeclaresGrammar root.now text.now) (Spells (Declarations root text)) (λ g s. s) x h

unaccepted_on : (P Q : Reason → ℕ → Type 0) → ((reason : Reason) (place : ℕ) → P reason place → Q reason place) → (e : TextFault) → IsUnaccepted P e → IsUnaccepted Q e
unaccepted_on P Q on (Refused reason at) h = on reason (see.place at) h
unaccepted_on P Q on NoMemory h = tt

pub refused_compact : (text : Bor (List ℕ)) (e : TextFault) → IsUnaccepted (IsRefusedSchema text.now) e → IsUnaccepted (IsRefused (Compact text)) e
refused_compact text e h = unaccepted_on (IsRefusedSchema text.now) (IsRefused (Compact text)) (λ reason place r. r) e h

pub refused_declared : (root text : Bor (List ℕ)) (e : TextFault) → IsUnaccepted (IsRefusedDtd text.now) e → IsUnaccepted (IsRefused (Declarations root text)) e
refused_declared root text e h = unaccepted_on (IsRefusedDtd text.now) (IsRefused (Declarations root text)) (λ reason place r. r) e h
