-- A text of a schema spells a grammar, or it is refused.
use Rattle.std.proofs.Common.{ℕ, List, inl, inr}
use Rattle.tc_decide.specs.SchemaTextLaws.{EachIsSpelledOrRefused, NoneIsBoth}
use Rattle.tc_decide.specs.Texts.{IsRefusedDtd}
use Rattle.tc_decide.specs.declared.schemas.SchemaText.TheVariants.{Compact, Declarations}
use Rattle.tc_decide.proofs.SchemaTexts.{no_schema}
use Rattle.tc_dtd.specs.DtdTextLaws.{IsRefusal}
use Rattle.tc_dtd.specs.Faults.{IsFaultOf}
use Rattle.tc_dtd.specs.declared.faults.DtdFault.{DtdFault}
use Rattle.tc_dtd.specs.declared.faults.DtdFault.TheVariants as dtd
use Rattle.tc_dtd.proofs.DecidingGrammars.{grammar_or_fault}
use Rattle.tc_read.specs.declared.faults.Reason.{Reason}
use Rattle.tc_read.specs.declared.faults.Reason.TheVariants.{Malformed, Unsupported, TooDeep, Twice}
use Rattle.tc_read.proofs.SchemaReasons.{schema_or_reason}

-- the reason and the place of a fault of declarations
reason_of_fault : (bytes : List ℕ) (fault : DtdFault) → IsRefusal fault → IsFaultOf bytes fault → (reason : Reason) × ((place : ℕ) × IsRefusedDtd bytes reason place)
reason_of_fault bytes (dtd.Malformed p) i f = (Malformed, (p.0, f))
reason_of_fault bytes (dtd.Unsupported p why) i f = (Unsupported why, (p.0, f))
reason_of_fault bytes (dtd.TooDeep p) i f = (TooDeep, (p.0, f))
reason_of_fault bytes (dtd.Twice p) i f = (Twice, (p.0, f))
reason_of_fault bytes dtd.NoMemory i f = absurd i

pub grammar_or_reason : EachIsSpelledOrRefused
grammar_or_reason (Compact text) = schema_or_reason text.now
grammar_or_reason (Declarations root text) = elim (grammar_or_fault text.now root.now) [
  | inl (ds, (g, (a, b))) ↦ inl (g, record { declarations = ds; declared = a; is_grammar = b })
  | inr (fault, (i, f)) ↦ inr (reason_of_fault text.now fault i f)
]

pub no_grammar : NoneIsBoth
no_grammar text reason place g r a = no_schema text g reason place r a
