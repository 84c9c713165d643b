-- Words and files have one answer, but for what is left open.
use Rattle.std.proofs.Common.{inl, inr}
use Rattle.tc_io.specs.Faults.{Rose}
use Rattle.tc_answer.specs.Answers.{Answer, usage, cannot_read, file_limit, safe, unsafe, unsafe_large, rows_limit, counterexample_limit, certificate, certificate_limit, accepted, rejected, included, not_included, equal, first_only, second_only, spots, refused, over_limit, is_valid, is_invalid, tag_limit, names_limit, has_result, work_limit, open_limit}
use Rattle.tc_top.specs.OneAnswer.{AreAlike, IsOfFault, HasOneAnswer, HasOneAnswerOn, HasAnswerOfCall}
use Rattle.tc_top.proofs.Exact.{Agrees, by_reads, exact}

no_fault : (answer : Answer) → IsOfFault ⊥ answer → ⊥
no_fault (cannot_read name) h = h
no_fault usage h = h
no_fault file_limit h = h
no_fault (safe tree_rows hedge_rows output_sets) h = h
no_fault (unsafe document output) h = h
no_fault (unsafe_large document) h = h
no_fault (rows_limit count number) h = h
no_fault counterexample_limit h = h
no_fault (certificate bytes) h = h
no_fault certificate_limit h = h
no_fault accepted h = h
no_fault (rejected why) h = h
no_fault (included tree_rows hedge_rows) h = h
no_fault (not_included document) h = h
no_fault equal h = h
no_fault (first_only document) h = h
no_fault (second_only document) h = h
no_fault (spots told) h = h
no_fault (refused name reason place) h = h
no_fault (over_limit kind number) h = h
no_fault is_valid h = h
no_fault is_invalid h = h
no_fault tag_limit h = h
no_fault names_limit h = h
no_fault (has_result result) h = h
no_fault work_limit h = h
no_fault open_limit h = h

without_fault : (one other : Answer) → Agrees ⊥ one other → AreAlike one other
without_fault one other (inl alike) = alike
without_fault one other (inr fault) = absurd (no_fault other fault)

pub one_answer : HasOneAnswer
one_answer words reads a b x y = by_reads x y

pub one_answer_on : HasOneAnswerOn
one_answer_on words files a b x y = without_fault a b (exact files ⊥ x.1 x.2 y.1 y.2)

pub answer_of_call : HasAnswerOfCall
answer_of_call words files before after reads a b x t y = exact files (Rose before after) x.1 x.2 t y
