-- No two reasons have one number, and no two have one word: a reason is found again by either.
use Rattle.std.proofs.Common.{◌≡◌, ℕ, Bool, true, false, ◌&&◌, cond, eqb, List, [], ◌∷◌, refl, sym, ap, ◌∙◌}
use Rattle.tc_base.specs.declared.reasons.Why.{Why}
use Rattle.tc_base.specs.declared.reasons.Why.TheVariants.{DoctypeSubset, EntityReference, Encoding, XmlSpace, XmlVersion, DataPattern, ValuePattern, ListPattern, ExternalPattern, Include, NestedGrammar, ParentReference, InheritedNamespace, Annotation, Escape, TripleQuote, Concatenation, XslVariable, XslParam, XslWithParam, XslImport, XslInclude, XslSort, XslNumber, XslKey, XslMessage, XslComment, XslProcessingInstruction, XslApplyImports, XslAttributeSet, XslNamespaceAlias, XslDecimalFormat, XslFallback, XslPreserveSpace, ExtensionElements, SimplifiedStylesheet, DisableOutputEscaping, ComputedName, XslCopyOf, UseAttributeSets, XsltVersion, UnknownXslt, Axis, Dot, AbsolutePath, FunctionCall, Comparison, Arithmetic, Predicate, AttributeStep, VariableReference, StringLiteral, ParameterEntity, ConditionalSection, QualifiedElementName}
use Rattle.tc_base.specs.Reasons.{number_of, word_of}

all : List Why
all =
    DoctypeSubset ∷ EntityReference ∷ Encoding ∷ XmlSpace ∷ XmlVersion ∷ DataPattern ∷ ValuePattern ∷
    ListPattern ∷ ExternalPattern ∷ Include ∷ NestedGrammar ∷ ParentReference ∷ InheritedNamespace ∷ Annotation ∷
    Escape ∷ TripleQuote ∷ Concatenation ∷ XslVariable ∷ XslParam ∷ XslWithParam ∷ XslImport ∷ XslInclude ∷
    XslSort ∷ XslNumber ∷ XslKey ∷ XslMessage ∷ XslComment ∷ XslProcessingInstruction ∷ XslApplyImports ∷
    XslAttributeSet ∷ XslNamespaceAlias ∷ XslDecimalFormat ∷ XslFallback ∷ XslPreserveSpace ∷ ExtensionElements ∷
    SimplifiedStylesheet ∷ DisableOutputEscaping ∷ ComputedName ∷ XslCopyOf ∷ UseAttributeSets ∷ XsltVersion ∷
    UnknownXslt ∷ Axis ∷ Dot ∷ AbsolutePath ∷ FunctionCall ∷ Comparison ∷ Arithmetic ∷ Predicate ∷
    AttributeStep ∷ VariableReference ∷ StringLiteral ∷ ParameterEntity ∷ ConditionalSection ∷
    QualifiedElementName ∷ []

same : List ℕ → List ℕ → Bool
same [] [] = true
same [] (b ∷ bs) = false
same (a ∷ xs) [] = false
same (a ∷ xs) (b ∷ bs) = eqb a b && same xs bs

first : (Why → Bool) → List Why → Why
first is [] = DoctypeSubset
first is (w ∷ ws) = cond (is w) w (first is ws)

-- the reason of a number
numbered : ℕ → Why
numbered n = first (λ w. eqb (number_of w) n) all

-- the reason of a word
worded : List ℕ → Why
worded word = first (λ w. same (word_of w) word) all

numbered-number : (w : Why) → numbered (number_of w) ≡ w
unfolding numbered first all
numbered-number DoctypeSubset = refl
numbered-number EntityReference = refl
numbered-number Encoding = refl
numbered-number XmlSpace = refl
numbered-number XmlVersion = refl
numbered-number DataPattern = refl
numbered-number ValuePattern = refl
numbered-number ListPattern = refl
numbered-number ExternalPattern = refl
numbered-number Include = refl
numbered-number NestedGrammar = refl
numbered-number ParentReference = refl
numbered-number InheritedNamespace = refl
numbered-number Annotation = refl
numbered-number Escape = refl
numbered-number TripleQuote = refl
numbered-number Concatenation = refl
numbered-number XslVariable = refl
numbered-number XslParam = refl
numbered-number XslWithParam = refl
numbered-number XslImport = refl
numbered-number XslInclude = refl
numbered-number XslSort = refl
numbered-number XslNumber = refl
numbered-number XslKey = refl
numbered-number XslMessage = refl
numbered-number XslComment = refl
numbered-number XslProcessingInstruction = refl
numbered-number XslApplyImports = refl
numbered-number XslAttributeSet = refl
numbered-number XslNamespaceAlias = refl
numbered-number XslDecimalFormat = refl
numbered-number XslFallback = refl
numbered-number XslPreserveSpace = refl
numbered-number ExtensionElements = refl
numbered-number SimplifiedStylesheet = refl
numbered-number DisableOutputEscaping = refl
numbered-number ComputedName = refl
numbered-number XslCopyOf = refl
numbered-number UseAttributeSets = refl
numbered-number XsltVersion = refl
numbered-number UnknownXslt = refl
numbered-number Axis = refl
numbered-number Dot = refl
numbered-number AbsolutePath = refl
numbered-number FunctionCall = refl
numbered-number Comparison = refl
numbered-number Arithmetic = refl
numbered-number Predicate = refl
numbered-number AttributeStep = refl
numbered-number VariableReference = refl
numbered-number StringLiteral = refl
numbered-number ParameterEntity = refl
numbered-number ConditionalSection = refl
numbered-number QualifiedElementName = refl

worded-word : (w : Why) → worded (word_of w) ≡ w
unfolding worded first all same
worded-word DoctypeSubset = refl
worded-word EntityReference = refl
worded-word Encoding = refl
worded-word XmlSpace = refl
worded-word XmlVersion = refl
worded-word DataPattern = refl
worded-word ValuePattern = refl
worded-word ListPattern = refl
worded-word ExternalPattern = refl
worded-word Include = refl
worded-word NestedGrammar = refl
worded-word ParentReference = refl
worded-word InheritedNamespace = refl
worded-word Annotation = refl
worded-word Escape = refl
worded-word TripleQuote = refl
worded-word Concatenation = refl
worded-word XslVariable = refl
worded-word XslParam = refl
worded-word XslWithParam = refl
worded-word XslImport = refl
worded-word XslInclude = refl
worded-word XslSort = refl
worded-word XslNumber = refl
worded-word XslKey = refl
worded-word XslMessage = refl
worded-word XslComment = refl
worded-word XslProcessingInstruction = refl
worded-word XslApplyImports = refl
worded-word XslAttributeSet = refl
worded-word XslNamespaceAlias = refl
worded-word XslDecimalFormat = refl
worded-word XslFallback = refl
worded-word XslPreserveSpace = refl
worded-word ExtensionElements = refl
worded-word SimplifiedStylesheet = refl
worded-word DisableOutputEscaping = refl
worded-word ComputedName = refl
worded-word XslCopyOf = refl
worded-word UseAttributeSets = refl
worded-word XsltVersion = refl
worded-word UnknownXslt = refl
worded-word Axis = refl
worded-word Dot = refl
worded-word AbsolutePath = refl
worded-word FunctionCall = refl
worded-word Comparison = refl
worded-word Arithmetic = refl
worded-word Predicate = refl
worded-word AttributeStep = refl
worded-word VariableReference = refl
worded-word StringLiteral = refl
worded-word ParameterEntity = refl
worded-word ConditionalSection = refl
worded-word QualifiedElementName = refl

pub unique_number : (w other : Why) (n : ℕ) → n ≡ number_of w → number_of other ≡ n → other ≡ w
unique_number w other n is e = sym (numbered-number other) ∙ (ap numbered (e ∙ is) ∙ numbered-number w)

pub unique_word : (w self : Why) → self ≡ w → (other : Why) → word_of other ≡ word_of w → other ≡ self
unique_word w self is other e = sym (worded-word other) ∙ (ap worded e ∙ (worded-word w ∙ sym is))
