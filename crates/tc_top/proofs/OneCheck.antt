-- What the texts of two schemas and of a stylesheet decide is one.
use Rattle.std.proofs.Common.{◌≡◌, subst, ℕ, List, arith}
use Rattle.tc_base.specs.declared.Limit.{Limit}
use Rattle.tc_model.specs.Grammars.{Grammar}
use Rattle.tc_model.specs.Sheets.{Sheet}
use Rattle.tc_read.specs.Sheets.{IsSheetOf}
use Rattle.tc_rows.specs.Counts.{IsRowOfLiveTree, IsRowOfLiveHedge, IsOutput}
use Rattle.tc_rows.proofs.Counting.{counts_tell}
use Rattle.tc_answer.specs.Answers.{Answer, safe, over_limit}
use Rattle.tc_top.specs.Causes.{Finds, passes_before_rows, passes_rows, finds_safe, finds_unsafe, finds_large, finds_none_small, Checks, OfTexts, refuses_input, refuses_output, refuses_sheet, all_three}
use Rattle.tc_decide.specs.Checking.{PassesTripleLimit, by_input, by_output, by_sheet, by_calls, by_entries, AreRowCounts}
use Rattle.tc_top.specs.OneAnswer.{AreAlike, same_answer, counterexamples, large_counterexamples, large_or_not, not_large_or_large, row_limits}
use Rattle.tc_top.specs.SchemaTexts.{SchemaText}
use Rattle.tc_top.proofs.OneRefusal.{sheet_refusals}
use Rattle.tc_top.proofs.SchemaTextLaws.{no_schema, one_schema, text_refusals}
use Rattle.tc_top.proofs.OneRun as run
use Rattle.tc_decide.proofs.Deciding.{not_both, near_far}
use Rattle.tc_decide.proofs.Passing.{over_schema, over_sheet, over_triple}
use Rattle.tc_decide.proofs.Sheets.{no_sheet, one_sheet_of}
use Rattle.tc_close.proofs.Agreeing.{triples_agree}
use Rattle.tc_top.proofs.OneValidity as schema

safe_alike : {a b c d e f : ℕ} → (a ≡ d) × (b ≡ e) × (c ≡ f) → AreAlike (safe a b c) (safe d e f)
safe_alike {a} {b} {c} {d} {e} {f} (p, q, r) =
    subst (λ n. AreAlike (safe a b c) (safe n e f)) p (subst (λ n. AreAlike (safe a b c) (safe a n f)) q (subst (λ n. AreAlike (safe a b c) (safe a b n)) r same_answer))

module _ {i o : Grammar} {s : Sheet} where
  -- the first limit that is passed is one
  pub one_triple_limit : {kind other : Limit} {number count : ℕ} → PassesTripleLimit i o s kind number → PassesTripleLimit i o s other count → AreAlike (over_limit kind number) (over_limit other count)
  one_triple_limit (by_input p) (by_input q) = schema.one_limit p q
  one_triple_limit (by_input p) (by_output v q) = absurd (over_schema p v)
  one_triple_limit (by_input p) (by_sheet v x q) = absurd (over_schema p v)
  one_triple_limit (by_input p) (by_calls v x y q) = absurd (over_schema p v)
  one_triple_limit (by_input p) (by_entries v x y n q) = absurd (over_schema p v)
  one_triple_limit (by_output v p) (by_input q) = absurd (over_schema q v)
  one_triple_limit (by_output v p) (by_output w q) = schema.one_limit p q
  one_triple_limit (by_output v p) (by_sheet w x q) = absurd (over_schema p x)
  one_triple_limit (by_output v p) (by_calls w x y q) = absurd (over_schema p x)
  one_triple_limit (by_output v p) (by_entries w x y n q) = absurd (over_schema p x)
  one_triple_limit (by_sheet v x p) (by_input q) = absurd (over_schema q v)
  one_triple_limit (by_sheet v x p) (by_output w q) = absurd (over_schema q x)
  one_triple_limit (by_sheet v x p) (by_sheet w y q) = run.one_limit p q
  one_triple_limit (by_sheet v x p) (by_calls w y z q) = absurd (over_sheet p z)
  one_triple_limit (by_sheet v x p) (by_entries w y z n q) = absurd (over_sheet p z)
  one_triple_limit (by_calls v x y p) (by_input q) = absurd (over_schema q v)
  one_triple_limit (by_calls v x y p) (by_output w q) = absurd (over_schema q x)
  one_triple_limit (by_calls v x y p) (by_sheet w z q) = absurd (over_sheet q y)
  one_triple_limit (by_calls v x y p) (by_calls w z u q) = same_answer
  one_triple_limit (by_calls v x y p) (by_entries w z u n q) = absurd (n p)
  one_triple_limit (by_entries v x y n p) (by_input q) = absurd (over_schema q v)
  one_triple_limit (by_entries v x y n p) (by_output w q) = absurd (over_schema q x)
  one_triple_limit (by_entries v x y n p) (by_sheet w z q) = absurd (over_sheet q y)
  one_triple_limit (by_entries v x y n p) (by_calls w z u q) = absurd (n q)
  one_triple_limit (by_entries v x y n p) (by_entries w z u m q) = same_answer

  -- the numbers of rows are one
  one_count : {a b c d e f : ℕ} → AreRowCounts i o s a b c → AreRowCounts i o s d e f → (a ≡ d) × (b ≡ e) × (c ≡ f)
  one_count {a} {b} {c} {d} {e} {f} x y =
      let agree = triples_agree i o s y.triple x.triple y.of x.of in (
        (counts_tell (IsRowOfLiveTree x.triple)).0 a d x.trees ((agree.live_trees.counts d).0 y.trees),
        (counts_tell (IsRowOfLiveHedge x.triple)).0 b e x.hedges ((agree.live_hedges.counts e).0 y.hedges),
        (counts_tell (IsOutput x.triple)).0 c f x.outputs ((agree.outputs.counts f).0 y.outputs),
      )

  -- what two schemas and a stylesheet decide is one
  pub finds_one : {most : ℕ} {one other : Answer} → Finds most i o s one → Finds most i o s other → AreAlike one other
  finds_one (passes_before_rows p) (passes_before_rows q) = one_triple_limit p q
  finds_one (passes_before_rows p) (passes_rows c w q) = absurd (over_triple p w)
  finds_one (passes_before_rows p) (finds_safe w f c h) = absurd (over_triple p w)
  finds_one (passes_before_rows p) (finds_unsafe w f l k r) = absurd (over_triple p w)
  finds_one (passes_before_rows p) (finds_large w f l k) = absurd (over_triple p w)
  finds_one (passes_before_rows p) (finds_none_small w f l) = absurd (over_triple p w)
  finds_one (passes_rows c w p) (passes_before_rows q) = absurd (over_triple q w)
  finds_one (passes_rows c w p) (passes_rows d v q) = row_limits
  finds_one (passes_rows c w p) (finds_safe v f n h) = absurd (f c p)
  finds_one (passes_rows c w p) (finds_unsafe v f l k r) = absurd (f c p)
  finds_one (passes_rows c w p) (finds_large v f l k) = absurd (f c p)
  finds_one (passes_rows c w p) (finds_none_small v f l) = absurd (f c p)
  finds_one (finds_safe w f c h) (passes_before_rows q) = absurd (over_triple q w)
  finds_one (finds_safe w f n h) (passes_rows c v p) = absurd (f c p)
  finds_one (finds_safe w f n h) (finds_safe v g m j) = safe_alike (one_count n m)
  finds_one (finds_safe w f n h) (finds_unsafe v g l k r) = absurd (not_both i o s h l.counter)
  finds_one (finds_safe w f n h) (finds_large v g l k) = absurd (not_both i o s h l.counter)
  finds_one (finds_safe w f n h) (finds_none_small v g l) = absurd (not_both i o s h l.some.1)
  finds_one (finds_unsafe w f l k r) (passes_before_rows q) = absurd (over_triple q w)
  finds_one (finds_unsafe w f l k r) (passes_rows c v p) = absurd (f c p)
  finds_one (finds_unsafe w f l k r) (finds_safe v g n h) = absurd (not_both i o s h l.counter)
  finds_one (finds_unsafe w f l k r) (finds_unsafe v g m j q) = counterexamples
  finds_one (finds_unsafe w f l k r) (finds_large v g m j) = large_or_not
  finds_one (finds_unsafe w f l k r) (finds_none_small v g m) = absurd (near_far l m)
  finds_one (finds_large w f l k) (passes_before_rows q) = absurd (over_triple q w)
  finds_one (finds_large w f l k) (passes_rows c v p) = absurd (f c p)
  finds_one (finds_large w f l k) (finds_safe v g n h) = absurd (not_both i o s h l.counter)
  finds_one (finds_large w f l k) (finds_unsafe v g m j q) = not_large_or_large
  finds_one (finds_large w f l k) (finds_large v g m j) = large_counterexamples
  finds_one (finds_large w f l k) (finds_none_small v g m) = absurd (near_far l m)
  finds_one (finds_none_small w f l) (passes_before_rows q) = absurd (over_triple q w)
  finds_one (finds_none_small w f l) (passes_rows c v p) = absurd (f c p)
  finds_one (finds_none_small w f l) (finds_safe v g n h) = absurd (not_both i o s h l.some.1)
  finds_one (finds_none_small w f l) (finds_unsafe v g m j q) = absurd (near_far m l)
  finds_one (finds_none_small w f l) (finds_large v g m j) = absurd (near_far m l)
  finds_one (finds_none_small w f l) (finds_none_small v g m) = same_answer

decided_same : (Decided : Grammar → Grammar → Sheet → Answer → Type 0) → {i j o p : Grammar} {s t : Sheet} {answer : Answer} → i ≡ j → o ≡ p → s ≡ t → Decided i o s answer → Decided j p t answer
decided_same Decided {i} {j} {o} {p} {s} {t} {answer} a b c x =
    subst (λ (w : Sheet). Decided j p w answer) c (subst (λ (w : Grammar). Decided j w s answer) b (subst (λ (w : Grammar). Decided w o s answer) a x))

-- what is decided, the texts being read
pub decided_of : {Decided : Grammar → Grammar → Sheet → Answer → Type 0} {input output sheet b c d : List ℕ} {i o : Grammar} {s : Sheet} {answer : Answer} → SchemaText input b i → SchemaText output c o → IsSheetOf d s
    → OfTexts Decided input output sheet b c d answer → Decided i o s answer
decided_of x y z (refuses_input {reason = w} {place = p} r) = absurd (no_schema w p r x)
decided_of x y z (refuses_output {reason = w} {place = p} g r) = absurd (no_schema w p r y)
decided_of x y z (refuses_sheet {reason = w} {place = p} g h r) = absurd (no_sheet w p r z)
decided_of {Decided = Decided} x y z (all_three k l m f) = decided_same Decided (one_schema k x) (one_schema l y) (one_sheet_of m z) f

-- and that is one answer
pub texts_one : (Decided : Grammar → Grammar → Sheet → Answer → Type 0) → ((i o : Grammar) (s : Sheet) (one other : Answer) → Decided i o s one → Decided i o s other → AreAlike one other)
    → {input output sheet b c d : List ℕ} {one other : Answer} → OfTexts Decided input output sheet b c d one → OfTexts Decided input output sheet b c d other → AreAlike one other
texts_one Decided alike {input = n} (refuses_input r) (refuses_input q) = text_refusals n r q
texts_one Decided alike (refuses_input {reason = w} {place = p} r) (refuses_output g q) = absurd (no_schema w p r g)
texts_one Decided alike (refuses_input {reason = w} {place = p} r) (refuses_sheet g h q) = absurd (no_schema w p r g)
texts_one Decided alike (refuses_input {reason = w} {place = p} r) (all_three g h z f) = absurd (no_schema w p r g)
texts_one Decided alike (refuses_output g r) (refuses_input {reason = w} {place = p} q) = absurd (no_schema w p q g)
texts_one Decided alike {output = n} (refuses_output g r) (refuses_output h q) = text_refusals n r q
texts_one Decided alike (refuses_output {reason = w} {place = p} g r) (refuses_sheet h k q) = absurd (no_schema w p r k)
texts_one Decided alike (refuses_output {reason = w} {place = p} g r) (all_three h k z f) = absurd (no_schema w p r k)
texts_one Decided alike (refuses_sheet g h r) (refuses_input {reason = w} {place = p} q) = absurd (no_schema w p q g)
texts_one Decided alike (refuses_sheet g h r) (refuses_output {reason = w} {place = p} k q) = absurd (no_schema w p q h)
texts_one Decided alike {sheet = n} {d = d} (refuses_sheet g h r) (refuses_sheet k l q) = sheet_refusals d n r q
texts_one Decided alike (refuses_sheet {reason = w} {place = p} g h r) (all_three k l z f) = absurd (no_sheet w p r z)
texts_one Decided alike (all_three g h z f) (refuses_input {reason = w} {place = p} q) = absurd (no_schema w p q g)
texts_one Decided alike (all_three g h z f) (refuses_output {reason = w} {place = p} k q) = absurd (no_schema w p q h)
texts_one Decided alike (all_three g h z f) (refuses_sheet {reason = w} {place = p} k l q) = absurd (no_sheet w p q z)
texts_one Decided alike {input = n} {output = m} {sheet = w} (all_three g h z f) (all_three k l y e) = alike _ _ _ _ _ f (decided_of {Decided = Decided} {input = n} {output = m} {sheet = w} g h z (all_three k l y e))

pub one_check : {most : ℕ} {input output sheet b c d : List ℕ} {one other : Answer} → Checks most input output sheet b c d one → Checks most input output sheet b c d other → AreAlike one other
one_check {most} p q = texts_one (λ i o s. Finds most i o s) (λ i o s one other x y. finds_one x y) p q
