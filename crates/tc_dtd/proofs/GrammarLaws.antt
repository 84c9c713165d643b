-- What the steps of making a grammar show of the whole.
use Rattle.std.proofs.Common.{◌≡◌, ◌∙◌, ◌≤◌, ℕ, List, refl, ap, sym, subst, arith, length, Result, IfErr}
use Rattle.std.specs.Result.{IsErrAnd}
use Rattle.std.proofs.lemmas.Result.{err_from_is_err_and}
use Rattle.std.proofs.lemmas.List.{length-map}
use Rattle.tc_model.specs.Grammars.{Grammar, IsGrammar}
use Rattle.tc_model.specs.SimplifiesCounts.{IsWithinCounts, Passes}
use Rattle.tc_model.specs.SimplifiesCounts as counted
use Rattle.tc_model.specs.SimplifiesLaws.{IsStart}
use Rattle.tc_dtd.specs.Declarations.{Declaration, AreDeclarations}
use Rattle.tc_dtd.specs.DtdGrammar.{Keeps, element_pattern, grammar_with, IsGrammarOfDtd}
use Rattle.tc_dtd.specs.Numbers.{AreApart, names_of}
use Rattle.tc_dtd.specs.Refused.{IsTooLarge, Refuses, FitsCounts, FaultFits, AllowsTheSame}
use Rattle.tc_dtd.specs.declared.schema.DtdGrammarFault.{DtdGrammarFault}
use Rattle.tc_dtd.specs.declared.schema.DtdGrammarFault.TheVariants.{TooManyNodes, TooNested, TooManyElements, NoMemory}
use Rattle.tc_dtd.proofs.NumberLaws.{kept_apart}
use Rattle.tc_dtd.proofs.ValidLaws.{law_of_validity, law_of_grammar}

pub failed_with : {T E : Type 0} (r : Result T E) (Q : E → Type 0) (e : E) → IsErrAnd r (λ x. x ≡ e) → Q e → IfErr r Q
failed_with r Q e h q = let p = err_from_is_err_and r h in subst (λ w. IfErr w Q) (sym p.1) (subst Q (sym p.2) q)

module _ (dtd : List Declaration) (root other : List ℕ) (kept : List Declaration) (same : other ≡ root) (keeps : Keeps dtd other dtd kept) where
  keeps_here : Keeps dtd root dtd kept
  keeps_here = subst (λ r. Keeps dtd r dtd kept) same keeps

  pub once : AreDeclarations dtd → AreApart (names_of kept)
  once are = kept_apart dtd other dtd kept keeps are.once

  too_large : (count : counted.Count) → Passes (grammar_with kept root) count → IsTooLarge dtd root count
  too_large count p = (grammar_with kept root, record { kept = kept; keeps_reached = keeps_here; is_grammar = refl }, p)

  pub refuses : (e : DtdGrammarFault) → FaultFits kept e → Refuses dtd root e
  refuses TooManyNodes h = too_large counted.nodes (h root)
  refuses TooNested h = too_large counted.depth (h root)
  refuses TooManyElements h = too_large counted.elements (h root)
  refuses NoMemory h = tt

  module _ (g : Grammar) (is : g ≡ grammar_with kept other) where
    pub grammar_is : IsGrammarOfDtd dtd root g
    grammar_is = record { kept = kept; keeps_reached = keeps_here; is_grammar = is ∙ ap (grammar_with kept) same }

    pub grammar_within : FitsCounts kept → IsWithinCounts g
    grammar_within h = subst IsWithinCounts (sym is) (h other)

    pub grammar_lawful : AreDeclarations dtd → IsGrammar g × IsStart g.start
    grammar_lawful are = law_of_grammar dtd root g are grammar_is

    pub grammar_valid : AllowsTheSame dtd root g
    grammar_valid d = law_of_validity dtd root g grammar_is d

pub few : (kept : List Declaration) (root : List ℕ) → FitsCounts kept → length kept ≤ 256
few kept root h = let w = h root in omega (arith, w.elements, length-map kept (element_pattern kept))
