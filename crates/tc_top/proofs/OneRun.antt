-- What the texts of a stylesheet and of a document decide is one.
use Rattle.std.proofs.Common.{◌≡◌, ◌<◌, ℕ, List, subst, arith}
use Rattle.tc_base.specs.declared.Limit.{Limit}
use Rattle.tc_model.specs.Outcomes.{Outcome}
use Rattle.tc_model.specs.Safety.{Transforms}
use Rattle.tc_model.specs.Sheets.{Sheet}
use Rattle.tc_model.specs.SheetText as calls
use Rattle.tc_model.specs.Symbols.{Mention}
use Rattle.tc_model.specs.Trees.{Trees}
use Rattle.tc_model.proofs.SheetTextUnique as faults
use Rattle.tc_print.specs.ReadBack.{IsReadAs}
use Rattle.tc_base.specs.declared.limits.TheConstants.{MOST_WORK, MOST_OPEN}
use Rattle.tc_read.specs.Sheets.{IsSheetOf}
use Rattle.tc_decide.specs.Limits.{symbols_of_sheet, IsRunWithin, SheetPasses, sheet_symbols, sheet_predicates, sheet_ancestors, sheet_selects}
use Rattle.tc_answer.specs.Answers.{Answer, over_limit, has_result}
use Rattle.tc_top.specs.Causes.{Runs, sheet_passes, too_much_work, too_open, gives_result, RunsTexts, sheet_refused, source_refused, sheet_and_source}
use Rattle.tc_top.specs.OneAnswer.{AreAlike, same_answer, work_or_open, open_or_work}
use Rattle.tc_top.proofs.OneRefusal.{document_refusals, sheet_refusals}
use Rattle.tc_decide.proofs.Documents.{no_document, one_document}
use Rattle.tc_decide.proofs.Passing.{over_sheet}
use Rattle.tc_decide.proofs.Sheets.{no_sheet, one_sheet_of, one_result, over_work, over_open}

-- the first limit that a stylesheet passes is one
pub one_limit : {symbols : List Mention} {s : Sheet} {kind other : Limit} {number count : ℕ} → SheetPasses symbols s kind number → SheetPasses symbols s other count → AreAlike (over_limit kind number) (over_limit other count)
one_limit (sheet_symbols p) (sheet_symbols q) = same_answer
one_limit (sheet_symbols p) (sheet_predicates q x) = absurd (omega (arith, p, q))
one_limit (sheet_symbols p) (sheet_ancestors q a x) = absurd (omega (arith, p, q))
one_limit (sheet_symbols p) (sheet_selects q a b x) = absurd (omega (arith, p, q))
one_limit (sheet_predicates p x) (sheet_symbols q) = absurd (omega (arith, p, q))
one_limit (sheet_predicates p x) (sheet_predicates q y) = same_answer
one_limit (sheet_predicates p x) (sheet_ancestors q a y) = absurd (a x)
one_limit (sheet_predicates p x) (sheet_selects q a b y) = absurd (a x)
one_limit (sheet_ancestors p a x) (sheet_symbols q) = absurd (omega (arith, p, q))
one_limit (sheet_ancestors p a x) (sheet_predicates q y) = absurd (a y)
one_limit (sheet_ancestors p a x) (sheet_ancestors q b y) = same_answer
one_limit (sheet_ancestors p a x) (sheet_selects q b c y) = absurd (c x)
one_limit (sheet_selects p a b x) (sheet_symbols q) = absurd (omega (arith, p, q))
one_limit (sheet_selects p a b x) (sheet_predicates q y) = absurd (a y)
one_limit (sheet_selects p a b x) (sheet_ancestors q c y) = absurd (b y)
one_limit (sheet_selects p a b x) (sheet_selects q c d y) = same_answer

runs_one : {s : Sheet} {d : Trees} {one other : Answer} → Runs s d one → Runs s d other → AreAlike one other
runs_one (sheet_passes p) (sheet_passes q) = one_limit p q
runs_one (sheet_passes p) (too_much_work w t q) = absurd (over_sheet p w)
runs_one (sheet_passes p) (too_open w t q) = absurd (over_sheet p w)
runs_one (sheet_passes p) (gives_result w r) = absurd (over_sheet p w.sheet)
runs_one (too_much_work w t p) (sheet_passes q) = absurd (over_sheet q w)
runs_one (too_much_work w t p) (too_much_work v u q) = same_answer
runs_one (too_much_work w t p) (too_open v u q) = work_or_open
runs_one {s = s} {d = d} (too_much_work {o = o} w t p) (gives_result v r) = absurd (over_work s d o t p v.keeps)
runs_one (too_open w t p) (sheet_passes q) = absurd (over_sheet q w)
runs_one (too_open w t p) (too_much_work v u q) = open_or_work
runs_one (too_open w t p) (too_open v u q) = same_answer
runs_one {s = s} {d = d} (too_open {o = o} w t p) (gives_result v r) = absurd (over_open s d o t p v.keeps)
runs_one (gives_result w r) (sheet_passes q) = absurd (over_sheet q w.sheet)
runs_one {s = s} {d = d} (gives_result w r) (too_much_work {o = o} v u q) = absurd (over_work s d o u q w.keeps)
runs_one {s = s} {d = d} (gives_result w r) (too_open {o = o} v u q) = absurd (over_open s d o u q w.keeps)
runs_one {s = s} {d = d} (gives_result {result = x} w r) (gives_result {result = y} v q) =
    subst (λ (t : Trees). AreAlike (has_result x) (has_result t)) (one_result s d x y r q) same_answer

runs_same : {s t : Sheet} {c d : Trees} {answer : Answer} → s ≡ t → c ≡ d → Runs s c answer → Runs t d answer
runs_same {s} {t} {c} {d} {answer} p q x = subst (λ (y : Trees). Runs t y answer) q (subst (λ (y : Sheet). Runs y c answer) p x)

-- the answer that the texts decide is one
pub runs_texts_one : {sheet document b c : List ℕ} {one other : Answer} → RunsTexts sheet document b c one → RunsTexts sheet document b c other → AreAlike one other
runs_texts_one {sheet = n} {b = b} (sheet_refused r) (sheet_refused s) = sheet_refusals b n r s
runs_texts_one (sheet_refused {reason = w} {place = p} r) (source_refused x s) = absurd (no_sheet w p r x)
runs_texts_one (sheet_refused {reason = w} {place = p} r) (sheet_and_source x d h) = absurd (no_sheet w p r x)
runs_texts_one (source_refused x r) (sheet_refused {reason = w} {place = p} s) = absurd (no_sheet w p s x)
runs_texts_one {document = n} {c = c} (source_refused x r) (source_refused y s) = document_refusals c n r s
runs_texts_one (source_refused {reason = w} {place = p} x r) (sheet_and_source y d h) = absurd (no_document w p r d)
runs_texts_one (sheet_and_source x d h) (sheet_refused {reason = w} {place = p} s) = absurd (no_sheet w p s x)
runs_texts_one (sheet_and_source x d h) (source_refused {reason = w} {place = p} y s) = absurd (no_document w p s d)
runs_texts_one (sheet_and_source x d h) (sheet_and_source y e i) = runs_one h (runs_same (one_sheet_of y x) (one_document e d) i)

-- what a stylesheet and a document give, their texts being read
pub runs_of : {sheet document b c : List ℕ} {s : Sheet} {d : Trees} {answer : Answer} → IsSheetOf b s → IsReadAs c d → RunsTexts sheet document b c answer → Runs s d answer
runs_of x d (sheet_refused {reason = why} {place = p} r) = absurd (no_sheet why p r x)
runs_of x d (source_refused {reason = why} {place = p} y r) = absurd (no_document why p r d)
runs_of x d (sheet_and_source y e i) = runs_same (one_sheet_of y x) (one_document e d) i

-- a limit that is passed isn't kept
pub not_within : (s : Sheet) (d : Trees) (kind : Limit) (number : ℕ) → SheetPasses (symbols_of_sheet s) s kind number → IsRunWithin s d → ⊥
not_within s d kind number p w = over_sheet p w.sheet

pub not_few : (s : Sheet) (d : Trees) (o : Outcome) → Transforms s d o → MOST_WORK < o.work → IsRunWithin s d → ⊥
not_few s d o t p w = over_work s d o t p w.keeps

pub not_low : (s : Sheet) (d : Trees) (o : Outcome) → Transforms s d o → MOST_OPEN < o.nesting → IsRunWithin s d → ⊥
not_low s d o t p w = over_open s d o t p w.keeps
