-- A check, a validation and a run of held files are exact.
use Rattle.std.proofs.Common.{◌≡◌, ◌≤◌, ◌⊎◌, ◌∷◌, [], ◌∙◌, inl, inr, refl, sym, subst, ap, ℕ, List, Option, Some, Ok, arith}
use Rattle.tc_io.specs.Store.{Files, Read}
use Rattle.tc_io.specs.Reads.{AreTrue}
use Rattle.tc_io.specs.Sink.{Appended, Write}
use Rattle.tc_model.specs.Trees.{Trees, none, text, element, node_count}
use Rattle.tc_model.specs.Validity.{IsValidOutput}
use Rattle.tc_model.specs.Grammars.{Grammar}
use Rattle.tc_model.specs.Sheets.{Sheet}
use Rattle.tc_base.specs.declared.Limit as kinds
use Rattle.tc_model.specs.Printed.{printed}
use Rattle.tc_model.specs.Safety.{IsSafe}
use Rattle.tc_print.specs.ReadBack.{nesting, IsReadAs}
use Rattle.tc_print.proofs.ReadBack.{read_back}
use Rattle.tc_top.specs.Checking.{most_rows}
use Rattle.tc_decide.specs.Checking.{IsWithinTripleLimits, HasFewRows, AreRowCounts, IsLeastCounter, HasSmallCounter, HasLargeCounters}
use Rattle.tc_top.specs.Headline.{IsCutShort, ChecksFiles, ChecksShortFiles, ShowsCounterexample, shows_both, shows_document, ShowsRun, shows_result, shows_large, IsLimited, limited_before_rows, limited_in_rows, limited_in_nodes, DecidesSafety, ValidatesFiles, DecidesValidity, RunsFiles, GivesResult}
use Rattle.tc_answer.specs.Answers.{Answer, usage, cannot_read, file_limit, safe, unsafe, unsafe_large, rows_limit, counterexample_limit, certificate, certificate_limit, accepted, rejected, included, not_included, equal, first_only, second_only, spots, refused, over_limit, is_valid, is_invalid, tag_limit, names_limit, has_result, work_limit, open_limit, status_of, text_of}
use Rattle.tc_top.specs.Answers.{IsAnswerTo, checked, ran, validated, shown, IsAnswer, Ends, KeepsToLimits}
use Rattle.tc_top.specs.Causes.{Finds, passes_before_rows, passes_rows, finds_safe, finds_unsafe, finds_large, finds_none_small, Runs, sheet_passes, too_much_work, too_open, gives_result, Checks, Validates, RunsTexts}
use Rattle.tc_top.specs.AnswersSeen.{IsRightFor}
use Rattle.tc_top.specs.OneAnswer.{AreAlike, same_answer, IsOfFault}
use Rattle.tc_answer.specs.declared.answer.Answer.{Answer as Said}
use Rattle.tc_answer.specs.declared.status.Status.{Status}
use Rattle.tc_answer.specs.declared.status.Status.TheVariants.{Yes, No, Limit}
use Rattle.tc_decide.specs.Limits.{IsRunWithin}
use Rattle.tc_model.specs.RncText.{RncText}
use Rattle.tc_read.specs.Sheets.{IsSheetOf}
use Rattle.tc_top.specs.SchemaTexts.{SchemaText, compact}
use Rattle.tc_top.specs.Demo.{demo_schema, demo_sheet, input_name, output_name, sheet_name}
use Rattle.tc_decide.specs.declared.limits.TheConstants.{MOST_ROWS}
use Rattle.tc_answer.specs.Words.{Words, check, run, valid, demo, schema, plain}
use Rattle.tc_answer.proofs.ReadsOnce.{AreHeld, no_file, holds, AreShort, none_long, is_short}
use Rattle.tc_top.proofs.Exact.{decided_only, shown_reads, read_all, held_decided}
use Rattle.tc_decide.proofs.Deciding.{not_both, near_far}
use Rattle.tc_decide.proofs.Passing.{over_triple}
use Rattle.tc_top.proofs.OneCheck.{one_triple_limit, decided_of}
use Rattle.tc_answer.proofs.OneCommand.{one_command}
use Rattle.tc_top.proofs.OneValidity.{Settles, settles_valid, settles_invalid, settles}
use Rattle.tc_decide.proofs.Sheets.{one_result}
use Rattle.tc_top.proofs.OneRun.{runs_of, not_within, not_few, not_low}

-- a call that tells of a fault of reading is cut short
pub cut_short : {rose wrote : Type 0} (status : Status) (answer : Answer) → status ≡ status_of answer → IsOfFault rose answer → IsCutShort status rose wrote
cut_short status (cannot_read name) e h = inr (inr (e, h))
cut_short status usage e h = absurd h
cut_short status file_limit e h = absurd h
cut_short status (safe tree_rows hedge_rows output_sets) e h = absurd h
cut_short status (unsafe document output) e h = absurd h
cut_short status (unsafe_large document) e h = absurd h
cut_short status (rows_limit count number) e h = absurd h
cut_short status counterexample_limit e h = absurd h
cut_short status (certificate bytes) e h = absurd h
cut_short status certificate_limit e h = absurd h
cut_short status accepted e h = absurd h
cut_short status (rejected why) e h = absurd h
cut_short status (included tree_rows hedge_rows) e h = absurd h
cut_short status (not_included document) e h = absurd h
cut_short status equal e h = absurd h
cut_short status (first_only document) e h = absurd h
cut_short status (second_only document) e h = absurd h
cut_short status (spots told) e h = absurd h
cut_short status (refused name reason place) e h = absurd h
cut_short status (over_limit kind number) e h = absurd h
cut_short status is_valid e h = absurd h
cut_short status is_invalid e h = absurd h
cut_short status tag_limit e h = absurd h
cut_short status names_limit e h = absurd h
cut_short status (has_result result) e h = absurd h
cut_short status work_limit e h = absurd h
cut_short status open_limit e h = absurd h

-- an answer that is right for the same words
pub at_words : {words other : List (List ℕ)} {happened : List Read → Type 0} {said : Said} → words ≡ other → IsRightFor words happened said → IsRightFor other happened said
at_words {words} {other} {happened} {said} same right = subst (λ w. IsRightFor w happened said) same right

-- a call that ends so for the same words
pub ends_at : {words other : List (List ℕ)} {happened : List Read → Type 0} {wrote : List Write → Type 0} {faulted : Type 0} {old new : Option (List ℕ)} {status : Status} → words ≡ other
    → Ends words happened wrote faulted old new status → Ends other happened wrote faulted old new status
ends_at {words} {other} {happened} {wrote} {faulted} {old} {new} {status} same ends = subst (λ w. Ends w happened wrote faulted old new status) same ends

-- where the store tells
pub at_told : {told other : Option Files} (rose : Type 0) (reads : List Read) → told ≡ other → AreTrue told rose reads → AreTrue other rose reads
at_told {told} {other} rose reads same true = subst (λ t. AreTrue t rose reads) same true

-- one that can be shown isn't nested deeper than a text may be, so it is read back
pub deep_within : (t : Trees) → nesting t ≤ node_count t
deep_within none = omega arith
deep_within (text s rest) = omega (arith, deep_within rest)
deep_within (element n kids rest) = grind (arith, deep_within kids, deep_within rest)

reads_back : {i o : Grammar} {s : Sheet} {document : Trees} → IsLeastCounter i o s document → IsReadAs (printed document) document
reads_back {document = document} least = read_back document (record { document = least.counter.1.0.0; shallow = omega (arith, deep_within document, least.fewest.few) })

-- what a status isn't

pub not_no : {status : Status} → status ≡ Yes → status ≡ No → ⊥
not_no e f = absurd (let g = sym e ∙ f in cc)

pub not_limit : {status : Status} → status ≡ Yes → status ≡ Limit → ⊥
not_limit e f = absurd (let g = sym e ∙ f in cc)

pub no_limit : {status : Status} → status ≡ No → status ≡ Limit → ⊥
no_limit e f = absurd (let g = sym e ∙ f in cc)

-- the line of the one limit that is told
pub before_rows_lines : (old new : Option (List ℕ)) {kind other : kinds.Limit} {number count : ℕ} → AreAlike (over_limit kind number) (over_limit other count) → Appended old new (text_of (over_limit kind number))
    → Appended old new (text_of (over_limit other count))
before_rows_lines old new same_answer written = written

small_far : {i o : Grammar} {s : Sheet} → HasSmallCounter i o s → HasLargeCounters i o s → ⊥
small_far (document, counter, few) large = let far = large.large document counter in omega (arith, few, far)

module _ (most : ℕ) (i o : Grammar) (s : Sheet) (status : Status) (old new : Option (List ℕ)) where
  abbrev Decides : Type 0
  Decides = DecidesSafety status old new most i o s

  -- what isn't limited
  pub few_not_limited : IsWithinTripleLimits i o s → HasFewRows i o s most → (HasLargeCounters i o s → ⊥) → IsLimited most i o s → ⊥
  few_not_limited w f n (limited_before_rows p) = over_triple p w
  few_not_limited w f n (limited_in_rows count v p) = f count p
  few_not_limited w f n (limited_in_nodes v g l) = n l

  is_yes : {a b c : ℕ} → status ≡ Yes → Appended old new (text_of (safe a b c)) → IsWithinTripleLimits i o s → HasFewRows i o s most → AreRowCounts i o s a b c → IsSafe i o s → Decides
  is_yes {a} {b} {c} is written w f n h = record {
    yes = (λ _. (w, f, h), λ _. is);
    no = (λ e. absurd (not_no is e), λ x. absurd (not_both i o s h x.2.1));
    limit = (λ e. absurd (not_limit is e), λ l. absurd (few_not_limited w f (λ x. not_both i o s h x.some.1) l));
    one = inl is;
    yes_text = λ _. (a, b, c, n, written);
    no_text = λ e. absurd (not_no is e);
    before_rows_text = λ kind number p. absurd (over_triple p w);
    rows_text = λ count v p. absurd (f count p);
    nodes_text = λ v g l. absurd (not_both i o s h l.some.1);
  }

  is_no : {document : Trees} → status ≡ No → IsWithinTripleLimits i o s → HasFewRows i o s most → IsLeastCounter i o s document → ShowsRun old new s document → Decides
  is_no {document} is w f l display = record {
    yes = (λ e. absurd (not_no e is), λ x. absurd (not_both i o s x.2 l.counter));
    no = (λ _. (w, f, (document, l.counter, l.fewest.few)), λ _. is);
    limit = (λ e. absurd (no_limit is e), λ x. absurd (few_not_limited w f (λ y. near_far l y) x));
    one = inr (inl is);
    yes_text = λ e. absurd (not_no e is);
    no_text = λ _. (document, l, reads_back l, display);
    before_rows_text = λ kind number p. absurd (over_triple p w);
    rows_text = λ count v p. absurd (f count p);
    nodes_text = λ v g x. absurd (near_far l x);
  }

  -- what is found decides all
  pub decides : {answer : Answer} → status ≡ status_of answer → Appended old new (text_of answer) → Finds most i o s answer → Decides
  decides is written (passes_before_rows {kind = k} {number = n} p) = record {
    yes = (λ e. absurd (not_limit e is), λ x. absurd (over_triple p x.0));
    no = (λ e. absurd (no_limit e is), λ x. absurd (over_triple p x.0));
    limit = (λ _. limited_before_rows p, λ _. is);
    one = inr (inr is);
    yes_text = λ e. absurd (not_limit e is);
    no_text = λ e. absurd (no_limit e is);
    before_rows_text = λ kind number q. before_rows_lines old new (one_triple_limit p q) written;
    rows_text = λ count w q. absurd (over_triple p w);
    nodes_text = λ w f l. absurd (over_triple p w);
  }
  decides is written (passes_rows c w p) = record {
    yes = (λ e. absurd (not_limit e is), λ x. absurd (x.1 c p));
    no = (λ e. absurd (no_limit e is), λ x. absurd (x.1 c p));
    limit = (λ _. limited_in_rows c w p, λ _. is);
    one = inr (inr is);
    yes_text = λ e. absurd (not_limit e is);
    no_text = λ e. absurd (no_limit e is);
    before_rows_text = λ kind number q. absurd (over_triple q w);
    rows_text = λ count v q. (c, p, written);
    nodes_text = λ v f l. absurd (f c p);
  }
  decides is written (finds_safe w f n h) = is_yes is written w f n h
  decides is written (finds_unsafe w f l k r) = is_no is w f l (shows_result k r written)
  decides is written (finds_large w f l k) = is_no is w f l (shows_large k written)
  decides is written (finds_none_small w f l) = record {
    yes = (λ e. absurd (not_limit e is), λ x. absurd (not_both i o s x.2 l.some.1));
    no = (λ e. absurd (no_limit e is), λ x. absurd (small_far x.2 l));
    limit = (λ _. limited_in_nodes w f l, λ _. is);
    one = inr (inr is);
    yes_text = λ e. absurd (not_limit e is);
    no_text = λ e. absurd (no_limit e is);
    before_rows_text = λ kind number q. absurd (over_triple q w);
    rows_text = λ count v q. absurd (f count q);
    nodes_text = λ v g m. written;
  }

-- what the answers of commands say of texts

checks_of : {limit : Option ℕ} {input output sheet b c d : List ℕ} {answer : Answer} → IsAnswerTo (check limit input output sheet) (b ∷ c ∷ d ∷ []) answer → Checks (most_rows limit) input output sheet b c d answer
checks_of (checked x) = x

demo_of : {size : ℕ} {texts : List (List ℕ)} {answer : Answer} → IsAnswerTo (demo size) texts answer → Checks MOST_ROWS input_name output_name sheet_name (demo_schema size) (demo_schema size) demo_sheet answer
demo_of (shown x) = x

validates_of : {schema document b c : List ℕ} {answer : Answer} → IsAnswerTo (valid schema document) (b ∷ c ∷ []) answer → Validates schema document b c answer
validates_of (validated x) = x

runs_texts_of : {sheet document b c : List ℕ} {answer : Answer} → IsAnswerTo (run sheet document) (b ∷ c ∷ []) answer → RunsTexts sheet document b c answer
runs_texts_of (ran x) = x

files_of : {words : List (List ℕ)} {files : Files} {limit : Option ℕ} {i o : Grammar} {s : Sheet} (c : ChecksFiles words files limit i o s)
    → AreHeld files (schema c.input ∷ schema c.output ∷ plain c.sheet ∷ []) (c.input_text ∷ c.output_text ∷ c.sheet_text ∷ [])
files_of c = holds c.input_held (holds c.output_held (holds c.sheet_held no_file))

-- a call that tells of a file is neither yes nor no
pub told_of_file : {answer : Answer} → (answer ≡ file_limit) ⊎ ((name : List ℕ) × (answer ≡ cannot_read name)) → (status_of answer ≡ Yes) ⊎ (status_of answer ≡ No) → ⊥
told_of_file (inl e) (inl f) = absurd (let g = sym (ap status_of e) ∙ f in cc)
told_of_file (inl e) (inr f) = absurd (let g = sym (ap status_of e) ∙ f in cc)
told_of_file (inr (name, e)) (inl f) = absurd (let g = sym (ap status_of e) ∙ f in cc)
told_of_file (inr (name, e)) (inr f) = absurd (let g = sym (ap status_of e) ∙ f in cc)

pub headline : {words : List (List ℕ)} {rose wrote : Type 0} {reads : List Read} (files : Files) (limit : Option ℕ) (i o : Grammar) (s : Sheet) (status : Status) (old new : Option (List ℕ)) (answer : Answer)
    → ChecksShortFiles words files limit i o s → AreTrue (Some files) rose reads → IsAnswer words reads answer → status ≡ status_of answer → Appended old new (text_of answer)
    → IsCutShort status rose wrote ⊎ DecidesSafety status old new (most_rows limit) i o s
headline {words} {rose} {wrote} {reads} files limit i o s status old new answer short true right is written =
    by (read_all rose files _ c.words_are (files_of c) (is_short short.input_short (is_short short.output_short (is_short short.sheet_short none_long))) true right)
  where
    c : ChecksFiles words files limit i o s
    c = short.checks

    by : IsOfFault rose answer ⊎ IsAnswerTo (check limit c.input c.output c.sheet) (c.input_text ∷ c.output_text ∷ c.sheet_text ∷ []) answer
        → IsCutShort status rose wrote ⊎ DecidesSafety status old new (most_rows limit) i o s
    by (inl fault) = inl (cut_short status answer is fault)
    by (inr x) = inr (decides (most_rows limit) i o s status old new is written (decided_of c.input_spells c.output_spells c.sheet_spells (checks_of x)))

-- what a check found whose answer is such a one, its files being held
found : (rose : Type 0) {words : List (List ℕ)} {reads : List Read} (files : Files) (limit : Option ℕ) (i o : Grammar) (s : Sheet) {answer : Answer} → ChecksFiles words files limit i o s
    → AreTrue (Some files) rose reads → IsAnswer words reads answer → (status_of answer ≡ Yes) ⊎ (status_of answer ≡ No) → Finds (most_rows limit) i o s answer
found rose files limit i o s {answer} c true right which = by (held_decided rose files _ c.words_are (files_of c) true right)
  where
    by : IsAnswerTo (check limit c.input c.output c.sheet) (c.input_text ∷ c.output_text ∷ c.sheet_text ∷ []) answer ⊎ ((answer ≡ file_limit) ⊎ ((name : List ℕ) × (answer ≡ cannot_read name)))
        → Finds (most_rows limit) i o s answer
    by (inl x) = decided_of c.input_spells c.output_spells c.sheet_spells (checks_of x)
    by (inr told) = absurd (told_of_file told which)

-- yes says that it is safe, and no shows that it isn't

says_safe : {most : ℕ} {i o : Grammar} {s : Sheet} {answer : Answer} → Finds most i o s answer → status_of answer ≡ Yes → IsSafe i o s
says_safe (passes_before_rows p) e = absurd (cc)
says_safe (passes_rows c w p) e = absurd (cc)
says_safe (finds_safe w f n h) e = h
says_safe (finds_unsafe w f l k r) e = absurd (cc)
says_safe (finds_large w f l k) e = absurd (cc)
says_safe (finds_none_small w f l) e = absurd (cc)

shows : {most : ℕ} {i o : Grammar} {s : Sheet} {answer : Answer} (old new : Option (List ℕ)) → Finds most i o s answer → status_of answer ≡ No → Appended old new (text_of answer)
    → ShowsCounterexample old new i o s
shows old new (passes_before_rows p) e written = absurd (cc)
shows old new (passes_rows c w p) e written = absurd (cc)
shows old new (finds_safe w f n h) e written = absurd (cc)
shows {i = i} {o = o} {s = s} old new (finds_unsafe {document = d} {result = r} w f l k is) e written =
    shows_both (l.counter.1.0, is, subst (λ (t : Trees). IsValidOutput o t → ⊥) (one_result s d l.counter.0 r l.counter.1.1 is) l.counter.1.2) written
shows old new (finds_large w f l k) e written = shows_document l.counter.1 written
shows old new (finds_none_small w f l) e written = absurd (cc)

pub safe_is_so : (rose : Type 0) {words : List (List ℕ)} {reads : List Read} (files : Files) (limit : Option ℕ) (i o : Grammar) (s : Sheet) (status : Status) (answer : Answer)
    → ChecksFiles words files limit i o s → AreTrue (Some files) rose reads → IsAnswer words reads answer → status ≡ status_of answer → status ≡ Yes → IsSafe i o s
safe_is_so rose files limit i o s status answer c true right is e = says_safe (found rose files limit i o s c true right (inl (sym is ∙ e))) (sym is ∙ e)

-- the texts of a demonstration are those of schemas in the compact syntax
input_text : (size : ℕ) (g : Grammar) → RncText (demo_schema size) g → SchemaText input_name (demo_schema size) g
input_text size g spells = compact refl spells

output_text : (size : ℕ) (g : Grammar) → RncText (demo_schema size) g → SchemaText output_name (demo_schema size) g
output_text size g spells = compact refl spells

-- what a demonstration finds
demo_found : {words : List (List ℕ)} {reads : List Read} (size : ℕ) (g : Grammar) (s : Sheet) {answer : Answer} → Words words (demo size) → RncText (demo_schema size) g → IsSheetOf demo_sheet s
    → IsAnswer words reads answer → Finds MOST_ROWS g g s answer
demo_found size g s w spells means right = decided_of (input_text size g spells) (output_text size g spells) means (demo_of (decided_only {texts = []} w (shown_reads w right) right))

pub demo_is_safe : {words : List (List ℕ)} {reads : List Read} (size : ℕ) (g : Grammar) (s : Sheet) (status : Status) (answer : Answer) → Words words (demo size)
    → RncText (demo_schema size) g → IsSheetOf demo_sheet s → IsAnswer words reads answer → status ≡ status_of answer → status ≡ Yes → IsSafe g g s
demo_is_safe size g s status answer w spells means right is e = says_safe (demo_found size g s w spells means right) (sym is ∙ e)

pub demo_is_shown : {words : List (List ℕ)} {reads : List Read} (size : ℕ) (g : Grammar) (s : Sheet) (status : Status) (old new : Option (List ℕ)) (answer : Answer) → Words words (demo size)
    → RncText (demo_schema size) g → IsSheetOf demo_sheet s → IsAnswer words reads answer → status ≡ status_of answer → Appended old new (text_of answer) → status ≡ No
    → ShowsCounterexample old new g g s
demo_is_shown size g s status old new answer w spells means right is written e = shows old new (demo_found size g s w spells means right) (sym is ∙ e) written

pub unsafe_is_shown : (rose : Type 0) {words : List (List ℕ)} {reads : List Read} (files : Files) (limit : Option ℕ) (i o : Grammar) (s : Sheet) (status : Status) (old new : Option (List ℕ)) (answer : Answer)
    → ChecksFiles words files limit i o s → AreTrue (Some files) rose reads → IsAnswer words reads answer → status ≡ status_of answer → Appended old new (text_of answer) → status ≡ No
    → ShowsCounterexample old new i o s
unsafe_is_shown rose files limit i o s status old new answer c true right is written e = shows old new (found rose files limit i o s c true right (inr (sym is ∙ e))) (sym is ∙ e) written

-- a demonstration is decided as a check of its texts is
pub demonstrated : {words : List (List ℕ)} {reads : List Read} (size : ℕ) (g : Grammar) (s : Sheet) (status : Status) (old new : Option (List ℕ)) (answer : Answer) → Words words (demo size)
    → RncText (demo_schema size) g → IsSheetOf demo_sheet s → IsAnswer words reads answer → status ≡ status_of answer → Appended old new (text_of answer)
    → DecidesSafety status old new MOST_ROWS g g s
demonstrated size g s status old new answer w spells means right is written =
    decides MOST_ROWS g g s status old new is written (decided_of (input_text size g spells) (output_text size g spells) means (demo_of (decided_only {texts = []} w (shown_reads w right) right)))

settled : {g : Grammar} {d : Trees} {answer : Answer} (status : Status) (old new : Option (List ℕ)) → status ≡ status_of answer → Appended old new (text_of answer) → Settles g d answer
    → DecidesValidity status old new g d
settled status old new is written (settles_valid v) = record {
  yes = (λ _. v, λ _. is);
  no = (λ e. absurd (let k = sym is ∙ e in cc), λ n. absurd (n v));
  yes_text = λ _. written;
  no_text = λ e. absurd (let k = sym is ∙ e in cc);
}
settled status old new is written (settles_invalid n) = record {
  yes = (λ e. absurd (let k = sym is ∙ e in cc), λ v. absurd (n v));
  no = (λ _. n, λ _. is);
  yes_text = λ e. absurd (let k = sym is ∙ e in cc);
  no_text = λ _. written;
}

pub validity : {words : List (List ℕ)} {rose wrote : Type 0} {reads : List Read} (files : Files) (g : Grammar) (d : Trees) (status : Status) (old new : Option (List ℕ)) (answer : Answer) → ValidatesFiles words files g d
    → AreTrue (Some files) rose reads → IsAnswer words reads answer → status ≡ status_of answer → Appended old new (text_of answer)
    → IsCutShort status rose wrote ⊎ DecidesValidity status old new g d
validity {words} {rose} {wrote} {reads} files g d status old new answer c true right is written =
    by (read_all rose files _ c.words_are (holds c.schema_held (holds c.document_held no_file)) (is_short c.schema_short (is_short c.document_short none_long)) true right)
  where
    by : IsOfFault rose answer ⊎ IsAnswerTo (valid c.schema c.document) (c.schema_text ∷ c.document_text ∷ []) answer → IsCutShort status rose wrote ⊎ DecidesValidity status old new g d
    by (inl fault) = inl (cut_short status answer is fault)
    by (inr x) = inr (settled status old new is written (settles c.schema_spells c.document_spells c.within (validates_of x)))

at_limit : (s : Sheet) (d : Trees) (status : Status) (old new : Option (List ℕ)) (answer : Answer) → status_of answer ≡ Limit → status ≡ status_of answer → Appended old new (text_of answer)
    → (IsRunWithin s d → ⊥) → Runs s d answer → KeepsToLimits status old new s d × GivesResult status old new s d
at_limit s d status old new answer limit is written beyond runs = (
  record {
    yes = (λ e. absurd (let k = sym (is ∙ limit) ∙ e in cc), λ w. absurd (beyond w));
    limit = (λ _. beyond, λ _. is ∙ limit);
    limit_text = λ _. (answer, limit, runs, written);
  },
  λ e. absurd (let k = sym (is ∙ limit) ∙ e in cc),
)

given : (s : Sheet) (d : Trees) {answer : Answer} (status : Status) (old new : Option (List ℕ)) → status ≡ status_of answer → Appended old new (text_of answer) → Runs s d answer
    → KeepsToLimits status old new s d × GivesResult status old new s d
given s d status old new is written (sheet_passes {kind = k} {number = n} p) = at_limit s d status old new (over_limit k n) refl is written (not_within s d k n p) (sheet_passes p)
given s d status old new is written (too_much_work {o = o} w t p) = at_limit s d status old new work_limit refl is written (not_few s d o t p) (too_much_work w t p)
given s d status old new is written (too_open {o = o} w t p) = at_limit s d status old new open_limit refl is written (not_low s d o t p) (too_open w t p)
given s d status old new is written (gives_result {result = result} w r) = (
  record {
    yes = (λ _. w, λ _. is);
    limit = (λ e. absurd (let k = sym is ∙ e in cc), λ n. absurd (n w));
    limit_text = λ e. absurd (let k = sym is ∙ e in cc);
  },
  λ _. (result, r, written),
)

-- a call that is cut short isn't yes
not_yes : {rose wrote : Type 0} {status : Status} → IsCutShort status rose wrote → status ≡ Yes → ⊥
not_yes (inl e) y = absurd (let k = sym e ∙ y in cc)
not_yes (inr (inl e)) y = absurd (let k = sym e.0 ∙ y in cc)
not_yes (inr (inr e)) y = absurd (let k = sym e.0 ∙ y in cc)

-- what a call that runs held files decides
run_decides : {words : List (List ℕ)} {rose wrote : Type 0} {reads : List Read} (files : Files) (s : Sheet) (d : Trees) (status : Status) (old new : Option (List ℕ)) (answer : Answer) → RunsFiles words files s d
    → AreTrue (Some files) rose reads → IsAnswer words reads answer → status ≡ status_of answer → Appended old new (text_of answer)
    → IsCutShort status rose wrote ⊎ (KeepsToLimits status old new s d × GivesResult status old new s d)
run_decides {words} {rose} {wrote} {reads} files s d status old new answer c true right is written =
    by (read_all rose files _ c.words_are (holds c.sheet_held (holds c.document_held no_file)) (is_short c.sheet_short (is_short c.document_short none_long)) true right)
  where
    by : IsOfFault rose answer ⊎ IsAnswerTo (run c.sheet c.document) (c.sheet_text ∷ c.document_text ∷ []) answer → IsCutShort status rose wrote ⊎ (KeepsToLimits status old new s d × GivesResult status old new s d)
    by (inl fault) = inl (cut_short status answer is fault)
    by (inr x) = inr (given s d status old new is written (runs_of c.sheet_spells c.document_spells (runs_texts_of x)))

pub running : (rose : Type 0) {words : List (List ℕ)} {reads : List Read} (files : Files) (s : Sheet) (d : Trees) (status : Status) (old new : Option (List ℕ)) (answer : Answer) → RunsFiles words files s d
    → AreTrue (Some files) rose reads → IsAnswer words reads answer → status ≡ status_of answer → Appended old new (text_of answer) → GivesResult status old new s d
running rose files s d status old new answer c true right is written = by (run_decides files s d status old new answer c true right is written)
  where
    by : IsCutShort status rose ⊥ ⊎ (KeepsToLimits status old new s d × GivesResult status old new s d) → GivesResult status old new s d
    by (inl cut) = λ e. absurd (not_yes cut e)
    by (inr decides) = decides.1

pub limited : {words : List (List ℕ)} {rose wrote : Type 0} {reads : List Read} (files : Files) (s : Sheet) (d : Trees) (status : Status) (old new : Option (List ℕ)) (answer : Answer) → RunsFiles words files s d
    → AreTrue (Some files) rose reads → IsAnswer words reads answer → status ≡ status_of answer → Appended old new (text_of answer) → IsCutShort status rose wrote ⊎ KeepsToLimits status old new s d
limited {rose = rose} {wrote = wrote} files s d status old new answer c true right is written = by (run_decides files s d status old new answer c true right is written)
  where
    by : IsCutShort status rose wrote ⊎ (KeepsToLimits status old new s d × GivesResult status old new s d) → IsCutShort status rose wrote ⊎ KeepsToLimits status old new s d
    by (inl cut) = inl cut
    by (inr decides) = inr decides.0
