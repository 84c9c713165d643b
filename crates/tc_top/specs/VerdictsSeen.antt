-- What contracts see of the answers that verdicts and failures are.
use Rattle.std.specs.Prelude.{Bool, true, false, ℕ, List}
use Rattle.tc_answer.specs.Answers as a
use Rattle.tc_answer.specs.AnswersSeen.{Says}
use Rattle.tc_answer.specs.declared.answer.Answer.{Answer}
use Rattle.tc_decide.specs.Rejections.{rejection, form_fails}
use Rattle.tc_decide.specs.RowCounts.{row_count}
use Rattle.tc_decide.specs.declared.failure.Failure.{Failure}
use Rattle.tc_decide.specs.declared.failure.Failure.TheVariants.{Refused, Passes, NoMemory}
use Rattle.tc_decide.specs.declared.failure.Kind.{Kind}
use Rattle.tc_decide.specs.declared.failure.Kind.TheVariants.{Texts, Rows, Nodes, Certificate, Work, Open, Pieces}
use Rattle.tc_decide.specs.declared.failure.PieceMeasure.{PieceMeasure}
use Rattle.tc_decide.specs.declared.failure.PieceMeasure.TheVariants.{Tag, Names}
use Rattle.tc_decide.specs.declared.failure.Which.{Which}
use Rattle.tc_decide.specs.declared.failure.Which.TheVariants as which
use Rattle.tc_decide.specs.declared.verdict.Equality.{Equality}
use Rattle.tc_decide.specs.declared.verdict.Equality.TheVariants.{Same, FirstOnly, SecondOnly}
use Rattle.tc_decide.specs.declared.verdict.Inclusion.{Inclusion}
use Rattle.tc_decide.specs.declared.verdict.Inclusion.TheVariants.{Included, Not}
use Rattle.tc_decide.specs.declared.verdict.Output as shown
use Rattle.tc_decide.specs.declared.verdict.Output.TheVariants.{Shown, TooLarge}
use Rattle.tc_decide.specs.declared.verdict.Proof.{Proof}
use Rattle.tc_decide.specs.declared.verdict.Proof.TheVariants as proof
use Rattle.tc_decide.specs.declared.verdict.Upgrade.{Upgrade}
use Rattle.tc_decide.specs.declared.verdict.Upgrade.TheVariants.{Text, Malformed}
use Rattle.tc_decide.specs.declared.verdict.Verification.{Verification}
use Rattle.tc_decide.specs.declared.verdict.Verification.TheVariants.{Accepted, Rejected}
use Rattle.tc_decide.specs.declared.verdict.Verdict.{Verdict}
use Rattle.tc_decide.specs.declared.verdict.Verdict.TheVariants.{Safe, Unsafe}
use Rattle.tc_model.specs.Trees.{Trees, none}
use Rattle.tc_model.specs.Views.{before, trees, place}

abbrev pub unsafe_answer : Trees → shown.Output → a.Answer
unsafe_answer document (Shown output) = a.unsafe document (trees output.now)
unsafe_answer document TooLarge = a.unsafe_large document

abbrev pub verdict_answer : Verdict → a.Answer
verdict_answer (Safe rows) = a.safe rows.trees rows.hedges rows.outputs
verdict_answer (Unsafe document output) = unsafe_answer (before document none) output

abbrev pub proof_answer : Proof → a.Answer
proof_answer (proof.Certified bytes) = a.certificate bytes.items
proof_answer (proof.Unsafe document output) = unsafe_answer (before document none) output

abbrev pub verification_answer : Verification → a.Answer
verification_answer Accepted = a.accepted
verification_answer (Rejected why) = a.rejected (rejection why)

abbrev pub upgrade_answer : Upgrade → a.Answer
upgrade_answer (Text bytes) = a.certificate bytes.items
upgrade_answer (Malformed line) = a.rejected (form_fails line)

abbrev pub inclusion_answer : Inclusion → a.Answer
inclusion_answer (Included tree_rows hedge_rows) = a.included tree_rows hedge_rows
inclusion_answer (Not document) = a.not_included (before document none)

abbrev pub equality_answer : Equality → a.Answer
equality_answer Same = a.equal
equality_answer (FirstOnly document) = a.first_only (before document none)
equality_answer (SecondOnly document) = a.second_only (before document none)

abbrev pub validity_answer : Bool → a.Answer
validity_answer true = a.is_valid
validity_answer false = a.is_invalid

abbrev pub measure_answer : PieceMeasure → a.Answer
measure_answer Tag = a.tag_limit
measure_answer Names = a.names_limit

abbrev pub limit_answer : Kind → ℕ → a.Answer
limit_answer (Texts kind) number = a.over_limit kind number
limit_answer (Rows count) number = a.rows_limit (row_count count) number
limit_answer Nodes number = a.counterexample_limit
limit_answer Certificate number = a.certificate_limit
limit_answer Work number = a.work_limit
limit_answer Open number = a.open_limit
limit_answer (Pieces measure) number = measure_answer measure

-- the name of that operand; no document is among them
abbrev pub name_by : List ℕ → List ℕ → List ℕ → Which → List ℕ
name_by input output sheet which.Input = input
name_by input output sheet which.Output = output
name_by input output sheet which.Sheet = sheet
name_by input output sheet which.Document = sheet

-- the name of that one of two
abbrev pub name_of_two : List ℕ → List ℕ → Which → List ℕ
name_of_two first second which.Input = first
name_of_two first second which.Output = second
name_of_two first second which.Sheet = first
name_of_two first second which.Document = second

-- what is made says why there is no verdict
abbrev pub SaysFailureBy : (Which → List ℕ) → Failure → Answer → Type 0
SaysFailureBy name (Refused which reason at) said = Says said (a.refused (name which) reason (place at))
SaysFailureBy name (Passes kind number) said = Says said (limit_answer kind number)
SaysFailureBy name NoMemory said = ⊥

abbrev pub SaysFailure : List ℕ → List ℕ → List ℕ → Failure → Answer → Type 0
SaysFailure input output sheet failure said = SaysFailureBy (name_by input output sheet) failure said
