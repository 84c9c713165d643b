-- Laws of texts of document type definitions.
use Rattle.std.specs.Prelude.{◌≡◌, ◌⊎◌, ℕ, List}
use Rattle.tc_model.specs.Grammars.{Grammar}
use Rattle.tc_model.specs.XmlTextRefusals.{Cause}
use Rattle.tc_dtd.specs.Declarations.{Declaration, AreDeclarations}
use Rattle.tc_dtd.specs.DtdGrammar.{IsGrammarOfDtd}
use Rattle.tc_dtd.specs.DtdText.{DtdText, DtdTextRefuses}
use Rattle.tc_dtd.specs.Faults.{IsFaultOf}
use Rattle.tc_dtd.specs.declared.faults.DtdFault.{DtdFault}
use Rattle.tc_dtd.specs.declared.faults.DtdFault.TheVariants.{Malformed, Unsupported, TooDeep, Twice, NoMemory}

-- a text declares one thing at most
abbrev pub HasOneDtd : Type 0
HasOneDtd = (bytes : List ℕ) (ds es : List Declaration) → DtdText bytes ds → DtdText bytes es → ds ≡ es

-- which is lawful
abbrev pub HasLawfulDtd : Type 0
HasLawfulDtd = (bytes : List ℕ) (ds : List Declaration) → DtdText bytes ds → AreDeclarations ds

-- a text is refused for one construct, at one place
abbrev pub HasOneRefusal : Type 0
HasOneRefusal = (bytes : List ℕ) (cause other : Cause) (place elsewhere : ℕ) → DtdTextRefuses bytes cause place → DtdTextRefuses bytes other elsewhere → (cause ≡ other) × (place ≡ elsewhere)

-- a refusal, and no want of memory
abbrev pub IsRefusal : DtdFault → Type 0
IsRefusal (Malformed place) = Unit {0}
IsRefusal (Unsupported place why) = Unit {0}
IsRefusal (TooDeep place) = Unit {0}
IsRefusal (Twice place) = Unit {0}
IsRefusal NoMemory = ⊥

-- a text that is refused declares nothing
abbrev pub HasNoDtdWhereRefused : Type 0
HasNoDtdWhereRefused = (bytes : List ℕ) (fault : DtdFault) (ds : List Declaration) → IsRefusal fault → IsFaultOf bytes fault → DtdText bytes ds → ⊥

abbrev pub IsMalformed : DtdFault → Type 0
IsMalformed (Malformed place) = Unit {0}
IsMalformed (Unsupported place why) = ⊥
IsMalformed (TooDeep place) = ⊥
IsMalformed (Twice place) = ⊥
IsMalformed NoMemory = ⊥

-- a text is refused for one fault, but that the place of malformed is left open
abbrev pub HasOneFault : Type 0
HasOneFault = (bytes : List ℕ) (one other : DtdFault) → IsRefusal one → IsRefusal other → IsFaultOf bytes one → IsFaultOf bytes other → (one ≡ other) ⊎ (IsMalformed one × IsMalformed other)

-- declarations have one grammar at most with this element as the document's
abbrev pub HasOneGrammar : Type 0
HasOneGrammar = (ds : List Declaration) (root : List ℕ) (g h : Grammar) → IsGrammarOfDtd ds root g → IsGrammarOfDtd ds root h → g ≡ h

-- any bytes declare elements, or are refused
abbrev pub HasDtdOrFault : Type 0
HasDtdOrFault = (bytes : List ℕ) → ((ds : List Declaration) × DtdText bytes ds) ⊎ ((fault : DtdFault) × (IsRefusal fault × IsFaultOf bytes fault))

-- any bytes have a grammar, with any root, or are refused
abbrev pub HasGrammarOrFault : Type 0
HasGrammarOrFault = (bytes root : List ℕ) → ((ds : List Declaration) × ((g : Grammar) × (DtdText bytes ds × IsGrammarOfDtd ds root g)))
    ⊎ ((fault : DtdFault) × (IsRefusal fault × IsFaultOf bytes fault))
