use Rattle.std.proofs.Common.{ap, sym}
use Rattle.tc_base.specs.Reasons.{word_of}
use Rattle.tc_base.proofs.Unique.{unique_word}
use Rattle.tc_base.proofs.reasons.Why.word.Goals as goal

pub returns-in-DoctypeSubset : goal.returns-in-DoctypeSubset
returns-in-DoctypeSubset c = record { word = ap word_of (sym c.in-DoctypeSubset.is); unique = unique_word _ _ c.in-DoctypeSubset.is }

pub returns-in-EntityReference : goal.returns-in-EntityReference
returns-in-EntityReference c = record { word = ap word_of (sym c.in-EntityReference.is); unique = unique_word _ _ c.in-EntityReference.is }

pub returns-in-Encoding : goal.returns-in-Encoding
returns-in-Encoding c = record { word = ap word_of (sym c.in-Encoding.is); unique = unique_word _ _ c.in-Encoding.is }

pub returns-in-XmlSpace : goal.returns-in-XmlSpace
returns-in-XmlSpace c = record { word = ap word_of (sym c.in-XmlSpace.is); unique = unique_word _ _ c.in-XmlSpace.is }

pub returns-in-XmlVersion : goal.returns-in-XmlVersion
returns-in-XmlVersion c = record { word = ap word_of (sym c.in-XmlVersion.is); unique = unique_word _ _ c.in-XmlVersion.is }

pub returns-in-DataPattern : goal.returns-in-DataPattern
returns-in-DataPattern c = record { word = ap word_of (sym c.in-DataPattern.is); unique = unique_word _ _ c.in-DataPattern.is }

pub returns-in-ValuePattern : goal.returns-in-ValuePattern
returns-in-ValuePattern c = record { word = ap word_of (sym c.in-ValuePattern.is); unique = unique_word _ _ c.in-ValuePattern.is }

pub returns-in-ListPattern : goal.returns-in-ListPattern
returns-in-ListPattern c = record { word = ap word_of (sym c.in-ListPattern.is); unique = unique_word _ _ c.in-ListPattern.is }

pub returns-in-ExternalPattern : goal.returns-in-ExternalPattern
returns-in-ExternalPattern c = record { word = ap word_of (sym c.in-ExternalPattern.is); unique = unique_word _ _ c.in-ExternalPattern.is }

pub returns-in-Include : goal.returns-in-Include
returns-in-Include c = record { word = ap word_of (sym c.in-Include.is); unique = unique_word _ _ c.in-Include.is }

pub returns-in-NestedGrammar : goal.returns-in-NestedGrammar
returns-in-NestedGrammar c = record { word = ap word_of (sym c.in-NestedGrammar.is); unique = unique_word _ _ c.in-NestedGrammar.is }

pub returns-in-ParentReference : goal.returns-in-ParentReference
returns-in-ParentReference c = record { word = ap word_of (sym c.in-ParentReference.is); unique = unique_word _ _ c.in-ParentReference.is }

pub returns-in-InheritedNamespace : goal.returns-in-InheritedNamespace
returns-in-InheritedNamespace c = record { word = ap word_of (sym c.in-InheritedNamespace.is); unique = unique_word _ _ c.in-InheritedNamespace.is }

pub returns-in-Annotation : goal.returns-in-Annotation
returns-in-Annotation c = record { word = ap word_of (sym c.in-Annotation.is); unique = unique_word _ _ c.in-Annotation.is }

pub returns-in-Escape : goal.returns-in-Escape
returns-in-Escape c = record { word = ap word_of (sym c.in-Escape.is); unique = unique_word _ _ c.in-Escape.is }

pub returns-in-TripleQuote : goal.returns-in-TripleQuote
returns-in-TripleQuote c = record { word = ap word_of (sym c.in-TripleQuote.is); unique = unique_word _ _ c.in-TripleQuote.is }

pub returns-in-Concatenation : goal.returns-in-Concatenation
returns-in-Concatenation c = record { word = ap word_of (sym c.in-Concatenation.is); unique = unique_word _ _ c.in-Concatenation.is }

pub returns-in-XslVariable : goal.returns-in-XslVariable
returns-in-XslVariable c = record { word = ap word_of (sym c.in-XslVariable.is); unique = unique_word _ _ c.in-XslVariable.is }

pub returns-in-XslParam : goal.returns-in-XslParam
returns-in-XslParam c = record { word = ap word_of (sym c.in-XslParam.is); unique = unique_word _ _ c.in-XslParam.is }

pub returns-in-XslWithParam : goal.returns-in-XslWithParam
returns-in-XslWithParam c = record { word = ap word_of (sym c.in-XslWithParam.is); unique = unique_word _ _ c.in-XslWithParam.is }

pub returns-in-XslImport : goal.returns-in-XslImport
returns-in-XslImport c = record { word = ap word_of (sym c.in-XslImport.is); unique = unique_word _ _ c.in-XslImport.is }

pub returns-in-XslInclude : goal.returns-in-XslInclude
returns-in-XslInclude c = record { word = ap word_of (sym c.in-XslInclude.is); unique = unique_word _ _ c.in-XslInclude.is }

pub returns-in-XslSort : goal.returns-in-XslSort
returns-in-XslSort c = record { word = ap word_of (sym c.in-XslSort.is); unique = unique_word _ _ c.in-XslSort.is }

pub returns-in-XslNumber : goal.returns-in-XslNumber
returns-in-XslNumber c = record { word = ap word_of (sym c.in-XslNumber.is); unique = unique_word _ _ c.in-XslNumber.is }

pub returns-in-XslKey : goal.returns-in-XslKey
returns-in-XslKey c = record { word = ap word_of (sym c.in-XslKey.is); unique = unique_word _ _ c.in-XslKey.is }

pub returns-in-XslMessage : goal.returns-in-XslMessage
returns-in-XslMessage c = record { word = ap word_of (sym c.in-XslMessage.is); unique = unique_word _ _ c.in-XslMessage.is }

pub returns-in-XslComment : goal.returns-in-XslComment
returns-in-XslComment c = record { word = ap word_of (sym c.in-XslComment.is); unique = unique_word _ _ c.in-XslComment.is }

pub returns-in-XslProcessingInstruction : goal.returns-in-XslProcessingInstruction
returns-in-XslProcessingInstruction c = record { word = ap word_of (sym c.in-XslProcessingInstruction.is); unique = unique_word _ _ c.in-XslProcessingInstruction.is }

pub returns-in-XslApplyImports : goal.returns-in-XslApplyImports
returns-in-XslApplyImports c = record { word = ap word_of (sym c.in-XslApplyImports.is); unique = unique_word _ _ c.in-XslApplyImports.is }

pub returns-in-XslAttributeSet : goal.returns-in-XslAttributeSet
returns-in-XslAttributeSet c = record { word = ap word_of (sym c.in-XslAttributeSet.is); unique = unique_word _ _ c.in-XslAttributeSet.is }

pub returns-in-XslNamespaceAlias : goal.returns-in-XslNamespaceAlias
returns-in-XslNamespaceAlias c = record { word = ap word_of (sym c.in-XslNamespaceAlias.is); unique = unique_word _ _ c.in-XslNamespaceAlias.is }

pub returns-in-XslDecimalFormat : goal.returns-in-XslDecimalFormat
returns-in-XslDecimalFormat c = record { word = ap word_of (sym c.in-XslDecimalFormat.is); unique = unique_word _ _ c.in-XslDecimalFormat.is }

pub returns-in-XslFallback : goal.returns-in-XslFallback
returns-in-XslFallback c = record { word = ap word_of (sym c.in-XslFallback.is); unique = unique_word _ _ c.in-XslFallback.is }

pub returns-in-XslPreserveSpace : goal.returns-in-XslPreserveSpace
returns-in-XslPreserveSpace c = record { word = ap word_of (sym c.in-XslPreserveSpace.is); unique = unique_word _ _ c.in-XslPreserveSpace.is }

pub returns-in-ExtensionElements : goal.returns-in-ExtensionElements
returns-in-ExtensionElements c = record { word = ap word_of (sym c.in-ExtensionElements.is); unique = unique_word _ _ c.in-ExtensionElements.is }

pub returns-in-SimplifiedStylesheet : goal.returns-in-SimplifiedStylesheet
returns-in-SimplifiedStylesheet c = record { word = ap word_of (sym c.in-SimplifiedStylesheet.is); unique = unique_word _ _ c.in-SimplifiedStylesheet.is }

pub returns-in-DisableOutputEscaping : goal.returns-in-DisableOutputEscaping
returns-in-DisableOutputEscaping c = record { word = ap word_of (sym c.in-DisableOutputEscaping.is); unique = unique_word _ _ c.in-DisableOutputEscaping.is }

pub returns-in-ComputedName : goal.returns-in-ComputedName
returns-in-ComputedName c = record { word = ap word_of (sym c.in-ComputedName.is); unique = unique_word _ _ c.in-ComputedName.is }

pub returns-in-XslCopyOf : goal.returns-in-XslCopyOf
returns-in-XslCopyOf c = record { word = ap word_of (sym c.in-XslCopyOf.is); unique = unique_word _ _ c.in-XslCopyOf.is }

pub returns-in-UseAttributeSets : goal.returns-in-UseAttributeSets
returns-in-UseAttributeSets c = record { word = ap word_of (sym c.in-UseAttributeSets.is); unique = unique_word _ _ c.in-UseAttributeSets.is }

pub returns-in-XsltVersion : goal.returns-in-XsltVersion
returns-in-XsltVersion c = record { word = ap word_of (sym c.in-XsltVersion.is); unique = unique_word _ _ c.in-XsltVersion.is }

pub returns-in-UnknownXslt : goal.returns-in-UnknownXslt
returns-in-UnknownXslt c = record { word = ap word_of (sym c.in-UnknownXslt.is); unique = unique_word _ _ c.in-UnknownXslt.is }

pub returns-in-Axis : goal.returns-in-Axis
returns-in-Axis c = record { word = ap word_of (sym c.in-Axis.is); unique = unique_word _ _ c.in-Axis.is }

pub returns-in-Dot : goal.returns-in-Dot
returns-in-Dot c = record { word = ap word_of (sym c.in-Dot.is); unique = unique_word _ _ c.in-Dot.is }

pub returns-in-AbsolutePath : goal.returns-in-AbsolutePath
returns-in-AbsolutePath c = record { word = ap word_of (sym c.in-AbsolutePath.is); unique = unique_word _ _ c.in-AbsolutePath.is }

pub returns-in-FunctionCall : goal.returns-in-FunctionCall
returns-in-FunctionCall c = record { word = ap word_of (sym c.in-FunctionCall.is); unique = unique_word _ _ c.in-FunctionCall.is }

pub returns-in-Comparison : goal.returns-in-Comparison
returns-in-Comparison c = record { word = ap word_of (sym c.in-Comparison.is); unique = unique_word _ _ c.in-Comparison.is }

pub returns-in-Arithmetic : goal.returns-in-Arithmetic
returns-in-Arithmetic c = record { word = ap word_of (sym c.in-Arithmetic.is); unique = unique_word _ _ c.in-Arithmetic.is }

pub returns-in-Predicate : goal.returns-in-Predicate
returns-in-Predicate c = record { word = ap word_of (sym c.in-Predicate.is); unique = unique_word _ _ c.in-Predicate.is }

pub returns-in-AttributeStep : goal.returns-in-AttributeStep
returns-in-AttributeStep c = record { word = ap word_of (sym c.in-AttributeStep.is); unique = unique_word _ _ c.in-AttributeStep.is }

pub returns-in-VariableReference : goal.returns-in-VariableReference
returns-in-VariableReference c = record { word = ap word_of (sym c.in-VariableReference.is); unique = unique_word _ _ c.in-VariableReference.is }

pub returns-in-StringLiteral : goal.returns-in-StringLiteral
returns-in-StringLiteral c = record { word = ap word_of (sym c.in-StringLiteral.is); unique = unique_word _ _ c.in-StringLiteral.is }

pub returns-in-ParameterEntity : goal.returns-in-ParameterEntity
returns-in-ParameterEntity c = record { word = ap word_of (sym c.in-ParameterEntity.is); unique = unique_word _ _ c.in-ParameterEntity.is }

pub returns-in-ConditionalSection : goal.returns-in-ConditionalSection
returns-in-ConditionalSection c = record { word = ap word_of (sym c.in-ConditionalSection.is); unique = unique_word _ _ c.in-ConditionalSection.is }

pub returns-in-QualifiedElementName : goal.returns-in-QualifiedElementName
returns-in-QualifiedElementName c = record { word = ap word_of (sym c.in-QualifiedElementName.is); unique = unique_word _ _ c.in-QualifiedElementName.is }
