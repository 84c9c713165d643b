-- What is found of two schemas decides all that is asked of them.
use Rattle.std.proofs.Common.{◌≡◌, ◌≤◌, ◌<◌, inl, inr, sym, ◌∙◌, ℕ, List, Option, codes, arith}
use Rattle.tc_base.specs.declared.limits.TheConstants.{MOST_SHOWN_NODES}
use Rattle.tc_answer.specs.Answers.{Answer, status_of, text_of, over_limit}
use Rattle.tc_decide.specs.RowCounts.{RowCount}
use Rattle.tc_answer.specs.Lines.{limit_line, count_word}
use Rattle.tc_answer.specs.declared.status.Status.{Status}
use Rattle.tc_answer.specs.declared.status.Status.TheVariants.{Yes, No, Limit}
use Rattle.tc_decide.specs.declared.limits.TheConstants.{MOST_ROWS}
use Rattle.tc_base.specs.declared.Limit as kinds
use Rattle.tc_incl.specs.Schemas.{IsDifference}
use Rattle.tc_io.specs.Sink.{Appended}
use Rattle.tc_model.specs.Grammars.{Grammar}
use Rattle.tc_model.specs.Printed.{printed}
use Rattle.tc_model.specs.Trees.{Trees, none, text, element, node_count, IsDocument}
use Rattle.tc_print.specs.ReadBack.{nesting, IsReadAs}
use Rattle.tc_print.proofs.ReadBack.{read_back}
use Rattle.tc_decide.specs.Comparing.{Question, inclusion, equality, AreWithinPairLimits, PassesPairLimit, IsShown, IsOfOne, AreKept, IsSo, Refutes, HasLargeRefutations, IsLeastRefutation, AreTooMany, in_inclusion, in_first, in_second}
use Rattle.tc_top.specs.Comparing.{FindsInclusion, inclusion_passes, inclusion_covers, finds_included, finds_not_included, finds_none_shown, FindsEquality, equality_passes, equality_covers_forward, equality_covers_backward, finds_equal, finds_first_only, finds_second_only, finds_no_one_shown, FindsBoth}
use Rattle.tc_top.specs.ComparedFiles.{IsLimited, limited_before_rows, limited_in_rows, limited_in_nodes, ShowsSo, Shows, shows_difference, shows_first, shows_second, DecidesComparison}
use Rattle.tc_top.specs.OneAnswer.{AreAlike, same_answer}
use Rattle.tc_top.proofs.OneComparison.{one_pair_limit}
use Rattle.tc_decide.proofs.Compared.{over_pair, within_limits, not_refuted, kept_few, small_large}

-- a document that can be shown is read back
deep_within : (h : Trees) → nesting h ≤ node_count h
deep_within none = omega arith
deep_within (text s rest) = omega (arith, deep_within rest)
deep_within (element n kids rest) = grind (arith, deep_within kids, deep_within rest)

not_no : {status : Status} → status ≡ Yes → status ≡ No → ⊥
not_no e f = absurd (let g = sym e ∙ f in cc)

not_limit : {status : Status} → status ≡ Yes → status ≡ Limit → ⊥
not_limit e f = absurd (let g = sym e ∙ f in cc)

no_limit : {status : Status} → status ≡ No → status ≡ Limit → ⊥
no_limit e f = absurd (let g = sym e ∙ f in cc)

-- the line of the one limit that is told
before_rows_lines : (old new : Option (List ℕ)) {kind other : kinds.Limit} {number count : ℕ} → AreAlike (over_limit kind number) (over_limit other count) → Appended old new (text_of (over_limit kind number))
    → Appended old new (text_of (over_limit other count))
before_rows_lines old new same_answer written = written

module _ (g h : Grammar) where
  of_one_document : {document : Trees} → IsOfOne g h document → IsDocument document
  of_one_document (inl d) = d.0.0
  of_one_document (inr d) = d.0.0

  is_document : (question : Question) (document : Trees) → Refutes g h question document → IsDocument document
  is_document inclusion document d = d.0.0
  is_document equality document d = of_one_document d

  reads_back : (question : Question) (document : Trees) → Refutes g h question document → IsShown g h document → IsReadAs (printed document) document
  reads_back question document refutes shown = read_back document (record { document = is_document question document refutes; shallow = omega (arith, deep_within document, shown.few) })

  module _ (question : Question) (status : Status) (old new : Option (List ℕ)) where
    abbrev Decides : Type 0
    Decides = DecidesComparison g h status old new question

    not_limited : AreKept g h question → (HasLargeRefutations g h question → ⊥) → IsLimited g h question → ⊥
    not_limited k n (limited_before_rows p) = over_pair p (within_limits g h question k)
    not_limited k n (limited_in_rows count w p) = kept_few g h question _ k p
    not_limited k n (limited_in_nodes j l) = n l

    is_yes : status ≡ Yes → AreKept g h question → IsSo g h question → ShowsSo g h question old new → Decides
    is_yes is k so shows = record {
      yes = (λ _. (k, so), λ _. is);
      no = (λ e. absurd (not_no is e), λ x. absurd (not_refuted g h question _ so x.1.1));
      limit = (λ e. absurd (not_limit is e), λ l. absurd (not_limited k (λ x. not_refuted g h question _ so x.some.1) l));
      one = inl is;
      yes_text = λ _. shows;
      no_text = λ e. absurd (not_no is e);
      before_rows_text = λ kind number p. absurd (over_pair p (within_limits g h question k));
      rows_text = λ count w p. absurd (kept_few g h question _ k p);
      nodes_text = λ j l. absurd (not_refuted g h question _ so l.some.1);
    }

    is_no : (document : Trees) → status ≡ No → AreKept g h question → IsLeastRefutation g h question document → IsShown g h document → Shows g h old new document question → Decides
    is_no document is k least shown shows = record {
      yes = (λ e. absurd (not_no e is), λ x. absurd (not_refuted g h question _ x.1 least.refutes));
      no = (λ _. (k, (document, least.refutes, shown.few)), λ _. is);
      limit = (λ e. absurd (no_limit is e), λ l. absurd (not_limited k (λ x. small_large g h question (document, least.refutes, shown.few) x) l));
      one = inr (inl is);
      yes_text = λ e. absurd (not_no e is);
      no_text = λ _. (document, least, shown, reads_back question document least.refutes shown, shows);
      before_rows_text = λ kind number p. absurd (over_pair p (within_limits g h question k));
      rows_text = λ count w p. absurd (kept_few g h question _ k p);
      nodes_text = λ j l. absurd (small_large g h question (document, least.refutes, shown.few) l);
    }

    is_pair_limit : {kind : kinds.Limit} {number : ℕ} → status ≡ Limit → PassesPairLimit g h kind number → Appended old new (text_of (over_limit kind number)) → Decides
    is_pair_limit is p written = record {
      yes = (λ e. absurd (not_limit e is), λ x. absurd (over_pair p (within_limits g h question x.0)));
      no = (λ e. absurd (no_limit e is), λ x. absurd (over_pair p (within_limits g h question x.0)));
      limit = (λ _. limited_before_rows p, λ _. is);
      one = inr (inr is);
      yes_text = λ e. absurd (not_limit e is);
      no_text = λ e. absurd (no_limit e is);
      before_rows_text = λ kind number q. before_rows_lines old new (one_pair_limit p q) written;
      rows_text = λ count w q. absurd (over_pair p w);
      nodes_text = λ j l. absurd (over_pair p (within_limits g h question j));
    }

    is_rows : (count : RowCount) → status ≡ Limit → AreWithinPairLimits g h → AreTooMany g h question count → Appended old new (limit_line (count_word count) MOST_ROWS) → Decides
    is_rows count is w p written = record {
      yes = (λ e. absurd (not_limit e is), λ x. absurd (kept_few g h question _ x.0 p));
      no = (λ e. absurd (no_limit e is), λ x. absurd (kept_few g h question _ x.0 p));
      limit = (λ _. limited_in_rows count w p, λ _. is);
      one = inr (inr is);
      yes_text = λ e. absurd (not_limit e is);
      no_text = λ e. absurd (no_limit e is);
      before_rows_text = λ kind number q. absurd (over_pair q w);
      rows_text = λ other v q. (count, p, written);
      nodes_text = λ j l. absurd (kept_few g h question _ j p);
    }

    is_nodes : status ≡ Limit → AreKept g h question → HasLargeRefutations g h question → Appended old new (limit_line (codes "counterexample") MOST_SHOWN_NODES) → Decides
    is_nodes is k l written = record {
      yes = (λ e. absurd (not_limit e is), λ x. absurd (not_refuted g h question _ x.1 l.some.1));
      no = (λ e. absurd (no_limit e is), λ x. absurd (small_large g h question x.1 l));
      limit = (λ _. limited_in_nodes k l, λ _. is);
      one = inr (inr is);
      yes_text = λ e. absurd (not_limit e is);
      no_text = λ e. absurd (no_limit e is);
      before_rows_text = λ kind number q. absurd (over_pair q (within_limits g h question k));
      rows_text = λ count w q. absurd (kept_few g h question _ k q);
      nodes_text = λ j m. written;
    }

  module _ (status : Status) (old new : Option (List ℕ)) where
    inclusion_decides : {answer : Answer} → status ≡ status_of answer → Appended old new (text_of answer) → FindsInclusion g h answer → DecidesComparison g h status old new inclusion
    inclusion_decides is written (inclusion_passes p) = is_pair_limit inclusion status old new is p written
    inclusion_decides is written (inclusion_covers c w p) = is_rows inclusion status old new c is w (in_inclusion p) written
    inclusion_decides is written (finds_included w f i t u) = is_yes inclusion status old new is (w, f) i (_, _, t, u, written)
    inclusion_decides is written (finds_not_included w f d s l) = is_no inclusion status old new _ is (w, f) (record { refutes = d; least = l }) s (shows_difference written)
    inclusion_decides is written (finds_none_shown {document = x} w f d l) = is_nodes inclusion status old new is (w, f) (record { some = (x, d); large = l }) written

    second_least : (document : Trees) → ((other : Trees) → IsDifference g h other → node_count document < node_count other) → ((other : Trees) → IsDifference h g other → node_count document ≤ node_count other)
        → (other : Trees) → IsOfOne g h other → node_count document ≤ node_count other
    second_least document m l other (inl d) = let k = m other d in omega (arith, k)
    second_least document m l other (inr d) = l other d

    equality_decides : {answer : Answer} → status ≡ status_of answer → Appended old new (text_of answer) → FindsEquality g h answer → DecidesComparison g h status old new equality
    equality_decides is written (equality_passes p) = is_pair_limit equality status old new is p written
    equality_decides is written (equality_covers_forward c w p) = is_rows equality status old new c is w (in_first p) written
    equality_decides is written (equality_covers_backward c w f p) = is_rows equality status old new c is w (in_second f p) written
    equality_decides is written (finds_equal w f e i j) = is_yes equality status old new is (w, f, e) (i, j) written
    equality_decides is written (finds_first_only w f e d s l) = is_no equality status old new _ is (w, f, e) (record { refutes = inl d; least = l }) s (shows_first d written)
    equality_decides is written (finds_second_only {document = x} w f e d s m l) =
        is_no equality status old new _ is (w, f, e) (record { refutes = inr d; least = second_least x m l }) s (shows_second d m written)
    equality_decides is written (finds_no_one_shown {document = x} w f e d l) = is_nodes equality status old new is (w, f, e) (record { some = (x, d); large = l }) written

    -- what is found decides all
    pub decides : (question : Question) (answer : Answer) → status ≡ status_of answer → Appended old new (text_of answer) → FindsBoth g h question answer → DecidesComparison g h status old new question
    decides inclusion answer is written f = inclusion_decides is written f
    decides equality answer is written f = equality_decides is written f
