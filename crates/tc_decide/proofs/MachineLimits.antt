-- The machine of two schemas and a stylesheet: a triple of its parts, and what passes a limit.
use Rattle.std.proofs.Common.{◌≡◌, ◌≤◌, ◌<◌, ◌⊎◌, inl, inr, ◌∙◌, refl, sym, ap, subst, ℕ, List, Result, Ok, Err, IfOk, OnOk}
use Rattle.std.proofs.lemmas.Bool.{cases_lt}
use Rattle.tc_auto.specs.Stands as a
use Rattle.tc_auto.specs.declared.auto.Auto.{Auto}
use Rattle.tc_base.specs.declared.Limit.{Limit}
use Rattle.tc_base.specs.declared.limits.TheConstants.{MOST_INPUT_STATES, MOST_OUTPUT_STATES}
use Rattle.tc_beh.specs.Machines.{AreParts, IsMachineOf, KeepsLimits}
use Rattle.tc_beh.specs.declared.machine.Machine.{Machine}
use Rattle.tc_hedge.specs.Stands as h
use Rattle.tc_hedge.specs.declared.hedge.Hedge.{Hedge}
use Rattle.tc_model.specs.Grammars.{Grammar, IsGrammar}
use Rattle.tc_model.specs.Sheets.{Sheet}
use Rattle.tc_model.specs.SimplifiesCounts.{IsWithinCounts}
use Rattle.tc_model.specs.SimplifiesLaws.{IsStart}
use Rattle.tc_model.specs.StateCounts.{PassNone}
use Rattle.tc_model.specs.States.{Side, input, output, state_count}
use Rattle.tc_model.specs.Symbols.{Mention, symbols_of}
use Rattle.tc_model.specs.Views as see
use Rattle.tc_model.proofs.SchemaStates.{state_counts_agree}
use Rattle.tc_read.specs.declared.schemas.Schema.{Schema}
use Rattle.tc_read.specs.declared.schemas.Schema.TheVariants.{Small, TooLarge}
use Rattle.tc_rows.specs.Counts.{PassCalls}
use Rattle.tc_rows.specs.Triples.{Triple}
use Rattle.tc_rules.specs.Kept.{IsRulesOf, told}
use Rattle.tc_rules.specs.States.{AllInline}
use Rattle.tc_rules.specs.declared.rules.Rules.{Rules}
use Rattle.tc_rules.proofs.Looking.{all_unfold}
use Rattle.tc_decide.specs.Checking.{PassesTripleLimit, by_sheet, by_calls, by_entries}
use Rattle.tc_close.specs.Triples.{IsTripleOf}
use Rattle.tc_decide.specs.MachinesSeen.{IsLawful, IsWellFormed, IsReadOf, IsCauseBy, AreAutomata, PassesMachine, many_calls, many_entries, IsMachineFor}
use Rattle.tc_decide.specs.Limits.{IsWithinLimits, PassesLimit, passes_size, SheetPasses, IsWithinSheetLimits, AreFew, states_on}
use Rattle.tc_decide.specs.declared.machine.LimitFault.{LimitFault}
use Rattle.tc_decide.specs.declared.machine.LimitFault.TheVariants.{Passes, NoMemory}
use Rattle.tc_close.proofs.Agreeing.{triples_agree}
use Rattle.tc_decide.proofs.Passing.{too_large}

-- a fault of one kind is a fault of another
pub cause_on : {P Q : Limit → ℕ → Type 0} (e : LimitFault) → ((kind : Limit) (number : ℕ) → P kind number → Q kind number) → IsCauseBy P e → IsCauseBy Q e
cause_on (Passes kind number) to h = to kind number h
cause_on NoMemory to h = tt

-- a schema that is too large passes its limit on every side
pub size_passes : (side : Side) (most : ℕ) (x : Grammar) (kind : Limit) (number : ℕ) (s : Schema) → s ≡ TooLarge kind number → IsReadOf x s → PassesLimit x side most kind number
size_passes side most x kind number s same h = passes_size (subst (IsReadOf x) same h)

-- what is so of a small schema's grammar
pub small_is : (x : Grammar) (s : Schema) (g : _) → s ≡ Small g → IsReadOf x s → (see.grammar g ≡ x) × IsWithinCounts x
small_is x s g same h = subst (IsReadOf x) same h

-- what isn't over is within
pub within : (m n : ℕ) → (m < n → ⊥) → n ≤ m
within m n h = by (cases_lt m n)
  where
    by : (m < n) ⊎ (n ≤ m) → n ≤ m
    by (inl l) = absurd (h l)
    by (inr l) = l

-- the states of a schema's automaton are those that its patterns tell
same_states : (g : Grammar) (side : Side) → state_count g side ≡ states_on g side
same_states g input = (state_counts_agree g).0
same_states g output = (state_counts_agree g).1

pub few_states : (g : Grammar) (side : Side) (most : ℕ) → state_count g side ≤ most → states_on g side ≤ most
few_states g side most few = subst (λ n. n ≤ most) (same_states g side) few

pub many_states : (g : Grammar) (side : Side) (most : ℕ) → most < state_count g side → most < states_on g side
many_states g side most many = subst (λ n. most < n) (same_states g side) many

-- the triple of schemas, of the rules of a stylesheet and of their symbols

module _ (i o : Grammar) (symbols : List Mention) (r : Rules) (rules : IsRulesOf symbols r) where
  pub bodies : (ps : List _) × AllInline (told r).sheet.named (told r).sheet.rules ps
  bodies = all_unfold (told r).sheet rules.tells.well_formed (told r).sheet.rules rules.tells.well_formed.rules

  abbrev pub triple_by : Triple
  triple_by = record { input = i; output = o; symbols = symbols; rules = told r; bodies = bodies.0 }

module _ (i o : Grammar) (s : Sheet) (contents states : Auto) (symbols : List Mention) (a : AreAutomata i o s contents states symbols) (r : Rules) (rules : IsRulesOf symbols r)
    (same : (told r).sheet ≡ s) where
  pub triple_of : IsTripleOf i o s (triple_by i o symbols r rules)
  triple_of = record {
    triple = record {
      input = a.input_lawful;
      start = a.start;
      output = a.output_lawful;
      symbols = a.symbols_are ∙ ap (symbols_of i o) (sym same);
      rules = rules.tells;
      bodies = (bodies i o symbols r rules).1;
    };
    input = refl;
    output = refl;
    stylesheet = same;
  }

  pub parts_of : (inner outer : Hedge) → h.Stands input i symbols inner → h.Stands output o symbols outer → AreParts (triple_by i o symbols r rules) inner outer r symbols
  parts_of inner outer p q = record { contents = p; states = q; are_rules = record { triple = triple_of.triple; rules = rules; told = refl }; same_symbols = refl }

  sheet_within : PassNone symbols s → IsWithinSheetLimits (symbols_of i o s) s
  sheet_within none = subst (λ (w : List Mention). IsWithinSheetLimits w s) a.symbols_are (record { few = a.few; numbers = none })

  pub machine_for : PassNone symbols s → (m : Machine) → IsMachineOf (triple_by i o symbols r rules) m → KeepsLimits (triple_by i o symbols r rules) → IsMachineFor i o s m
  machine_for none m is keeps = record {
    triple = triple_by i o symbols r rules;
    of = triple_of;
    machine = is;
    within_limits = record {
      input = a.input_within;
      output = a.output_within;
      sheet = sheet_within none;
      calls = λ p. keeps.0 (subst (λ (w : Sheet). PassCalls w 8000) (sym same) p);
      entries = λ (y, of, many). keeps.1 (((triples_agree i o s y (triple_by i o symbols r rules) of triple_of).entries 8192).0 many);
    };
  }

  pub machine_passes : PassNone symbols s → (kind : Limit) (number : ℕ) → PassesMachine (triple_by i o symbols r rules) kind number → PassesTripleLimit i o s kind number
  machine_passes none kind number (many_calls p) = by_calls a.input_within a.output_within (sheet_within none) (subst (λ (w : Sheet). PassCalls w 8000) same p)
  machine_passes none kind number (many_entries n p) =
      by_entries a.input_within a.output_within (sheet_within none) (λ q. n (subst (λ (w : Sheet). PassCalls w 8000) (sym same) q)) (triple_by i o symbols r rules, triple_of, p)

-- what the stylesheet passes by the symbols of all three
pub sheet_passes : (i o : Grammar) (s : Sheet) (contents states : Auto) (symbols : List Mention) → AreAutomata i o s contents states symbols → (kind : Limit) (number : ℕ) → SheetPasses symbols s kind number
    → PassesTripleLimit i o s kind number
sheet_passes i o s contents states symbols a kind number p = by_sheet a.input_within a.output_within (subst (λ (w : List Mention). SheetPasses w s kind number) a.symbols_are p)

-- two facts of what is returned
pub ok_both : {M E : Type 0} {P R : M → Type 0} {Q : Type 0} (r : Result M E) → ((m : M) → P m → Q → R m) → IfOk r P → OnOk r Q → IfOk r R
ok_both (Ok m) both p q = both m p q
ok_both (Err e) both p q = tt

-- a lawful schema has a grammar
pub some_grammar : (s : Schema) → IsLawful s → (x : Grammar) × IsReadOf x s
some_grammar s (x, read, grammar, start) = (x, read)

pub well_formed_grammar : (s : Schema) → IsWellFormed s → (x : Grammar) × IsReadOf x s
well_formed_grammar s (x, read, grammar) = (x, read)

pub well_formed : (s : Schema) → IsLawful s → IsWellFormed s
well_formed s (x, read, grammar, start) = (x, read, grammar)

-- a small one's is well-formed; one that is too large has no automaton, so that it need not be
pub lawful : (x : Grammar) (s : Schema) → IsLawful s → IsReadOf x s → IsWithinCounts x → IsGrammar x × IsStart x.start
lawful x (Small g) (y, other, grammar, start) read w = subst (λ (z : Grammar). IsGrammar z × IsStart z.start) (sym other.0 ∙ read.0) (grammar, start)
lawful x (TooLarge kind number) h read w = absurd (too_large read w)

pub grammar_lawful : (x : Grammar) (s : Schema) → IsWellFormed s → IsReadOf x s → IsWithinCounts x → IsGrammar x
grammar_lawful x (Small g) (y, other, grammar) read w = subst IsGrammar (sym other.0 ∙ read.0) grammar
grammar_lawful x (TooLarge kind number) h read w = absurd (too_large read w)

pub automata : (i o : Grammar) (s : Sheet) (input_schema output_schema : Schema) → IsLawful input_schema → IsWellFormed output_schema → IsReadOf i input_schema → IsReadOf o output_schema
    → (contents states : Auto) (symbols : List Mention) → a.Stands input i contents → a.Stands output o states → IsWithinLimits i input MOST_INPUT_STATES → IsWithinLimits o output MOST_OUTPUT_STATES
    → symbols ≡ symbols_of i o s → AreFew symbols → AreAutomata i o s contents states symbols
automata i o s input_schema output_schema p q read_in read_out contents states symbols stands_in stands_out within_in within_out same few =
    let first = lawful i input_schema p read_in within_in.counts in
    record {
      input_lawful = first.0;
      start = first.1;
      output_lawful = grammar_lawful o output_schema q read_out within_out.counts;
      input_stands = stands_in;
      output_stands = stands_out;
      input_within = within_in;
      output_within = within_out;
      symbols_are = same;
      few = few;
    }
