-- What is meant on a node, and that it is part of the stylesheet.
use Rattle.std.proofs.Common.{◌≡◌, ℕ, ◌+◌, ◌<◌, List, refl, ap, ◌∙◌, sym, subst, length, map, Bool, Option, Some, option_map, slice_get, get_or, Bor, Contains, arith}
use Rattle.std.proofs.lemmas.Option.{slice_get-map, slice_get-get_or, slice_get_within}
use Rattle.std.proofs.lemmas.List.{length-map}
use Rattle.std.specs.Prelude.{IfSome, pos, []}
use Rattle.tc_model.specs.declared.sheet.Pattern.TheVariants.{Root}
use Rattle.tc_model.specs.Letters.{Letter}
use Rattle.tc_model.specs.Machine.{CallFreeJob}
use Rattle.tc_model.specs.PathStates.{State}
use Rattle.tc_model.specs.RuleStates.{IsRuleOf, built_in, best, fits_below}
use Rattle.tc_model.specs.Views as see
use Rattle.tc_model.specs.Sheets.{Sheet, Rule, CallFreeBody, Inlines}
use Rattle.tc_model.specs.Symbols.{Mention}
use Rattle.tc_model.specs.WellFormed.{ForEach, eaches_of}
use Rattle.tc_model.specs.declared.sheet.Instr.{Instr}
use Rattle.tc_model.specs.declared.sheet.Rule.{Rule as RuleOf}
use Rattle.tc_model.specs.declared.sheet.Sheet.{Sheet as SheetOf}
use Rattle.tc_rules.specs.Asked.{found as found_of}
use Rattle.tc_rules.specs.declared.rules.Found.{Found}
use Rattle.tc_rules.specs.declared.rules.Found.TheVariants as founds
use Rattle.tc_rules.specs.declared.rules.Rules.{Rules}
use Rattle.tc_rules.specs.Kept.{IsRulesOf, told}
use Rattle.tc_rules.specs.States.{Chosen, chosen, plain_of, built_in_at, body_by}
use Rattle.tc_rules.specs.Parts.{IsPart}
use Rattle.tc_rules.specs.RulesView.{RulesView}
use Rattle.tc_rules.specs.Tasks.{IsTaskOf}
use Rattle.tc_rules.proofs.PartsOf.{rule_part, each_part}
use Rattle.tc_rules.proofs.RuleOf.{chosen_number, rule_chosen, mode_task, each_task}
use Rattle.tc_rows.specs.Triples.{Triple, sheet, predicates}
use Rattle.tc_beh.specs.Stands.{IsRulesIn}
use Rattle.tc_beh.specs.Templates.{IsTemplate}
use Rattle.tc_beh.specs.declared.templates.Template.{Template}
use Rattle.tc_beh.proofs.Marking.{has_got}

-- what stands past the end of a list of rules
abbrev pub no_rule : RuleOf
no_rule = record { mode = 0; pattern = Root; priority = pos 0; body = record { ref_ptr = (0, 0); now = [] } }

-- an element of a list, by what is seen of it
pub got_seen : {X Y : Type 0} (f : X → Y) (xs : List X) (ys : List Y) (i : ℕ) (d : X) → map f xs ≡ ys → i < length ys → slice_get ys i ≡ Some (f (get_or xs i d))
got_seen f xs ys i d e h =
    let size : length xs ≡ length ys = sym (length-map xs f) ∙ ap length e in
    ap (λ w. slice_get w i) (sym e) ∙ (slice_get-map f xs i ∙ ap (option_map f) (slice_get-get_or xs i d (omega (arith, size, h))))

pub found_low : (f : Found) (i n : ℕ) → f ≡ founds.Rule i → IfSome (found_of f) (λ j. j < n) → i < n
found_low f i n e h = subst (λ g. IfSome (found_of g) (λ j. j < n)) e h

pub found_number : (f : Found) (i : ℕ) (o : Option ℕ) → f ≡ founds.Rule i → o ≡ found_of f → o ≡ Some i
found_number f i o e h = h ∙ ap found_of e

pub rule_got : (s : Sheet) (sh : SheetOf) (i : ℕ) (d : RuleOf) → see.sheet sh ≡ s → i < length s.rules → slice_get s.rules i ≡ Some (see.rule (get_or sh.rules.now i d))
rule_got s sh i d e h = got_seen see.rule sh.rules.now s.rules i d (ap (λ (x : Sheet). x.rules) e) h

module _ (r : Rules) where
  pub rule_part_at : (x : Triple) → IsRulesIn x r → (i : ℕ) (q : RuleOf) → slice_get (told r).sheet.rules i ≡ Some (see.rule q) → IsPart (told r).sheet (see.body q.body.now)
  rule_part_at x is i q e = rule_part (told r).sheet is.rules.tells.well_formed (see.rule q) (has_got (told r).sheet.rules i (see.rule q) e)

  abbrev pub IsEachBody : ℕ → Bor (List Instr) → Type 0
  IsEachBody e b = (symbols : List Mention) (f : ForEach) → IsRulesOf symbols r → Contains (eaches_of (told r).sheet) f → f.number ≡ e → f.body ≡ see.body b.now

  pub each_part_at : (x : Triple) → IsRulesIn x r → (e : ℕ) (b : Bor (List Instr)) → e < (told r).sheet.eaches → IsEachBody e b → IsPart (told r).sheet (see.body b.now)
  each_part_at x is e b h k =
      let (f, there, number) = is.rules.tells.well_formed.each_number e h in
      subst (IsPart (told r).sheet) (k x.symbols f is.rules there number) (each_part (told r).sheet is.rules.tells.well_formed f there)

  pub sheet_told : (x : Triple) → IsRulesIn x r → (told r).sheet ≡ sheet x
  sheet_told x is = ap (λ (v : RulesView). v.sheet) is.told

  pub each_meant : (x : Triple) → IsRulesIn x r → (e : ℕ) (b : Bor (List Instr)) (k : CallFreeJob) (q : State) (l : Letter) → IsEachBody e b → IsTaskOf (sheet x) ((sheet x).modes + e) k
      → Inlines (sheet x).named (see.body b.now) (body_by x.symbols (predicates x) (sheet x).rules x.bodies k q l)
  each_meant x is e b k q l h task =
      let d = each_task (sheet x) ((sheet x).modes + e) e k refl task in
      let there : Contains (eaches_of (told r).sheet) d.found = subst (λ (s : Sheet). Contains (eaches_of s) d.found) (sym (sheet_told x is)) d.there in
      subst (λ j. Inlines (sheet x).named (see.body b.now) (body_by x.symbols (predicates x) (sheet x).rules x.bodies j q l)) (sym d.task)
      (subst (λ y. Inlines (sheet x).named y d.plain) (h x.symbols d.found is.rules there d.number) d.unfolds)

  pub rule_meant : (x : Triple) → IsRulesIn x r → (b : CallFreeBody) (o : Option Chosen) (i : ℕ) (q : RuleOf) → slice_get (told r).sheet.rules i ≡ Some (see.rule q)
      → option_map (λ w. w.number) o ≡ Some i → Inlines (sheet x).named (see.body q.body.now) (plain_of x.bodies b o)
  rule_meant x is b o i q e k =
      rule_chosen (sheet x).named (sheet x).rules x.bodies is.triple.bodies b o i (see.rule q) k (subst (λ (s : Sheet). slice_get s.rules i ≡ Some (see.rule q)) (sheet_told x is) e)

  -- the rule that was found for a letter
  pub mode_meant : (x : Triple) → IsRulesIn x r → (mode : ℕ) (found : Option ℕ) (w : Template) (own : ℕ → CallFreeBody) (k : CallFreeJob) (q : State) (l : Letter)
      → mode < (sheet x).modes → IsTaskOf (sheet x) mode k
      → IsRuleOf (sheet x).rules mode (fits_below x.symbols (predicates x) q l) found
      → ((o : Option Chosen) → option_map (λ y. y.number) o ≡ found → IsTemplate (sheet x).named (λ m. built_in_at m l.kind) w (plain_of x.bodies (built_in_at mode l.kind) o))
      → IsTemplate (sheet x).named (λ m. built_in_at m l.kind) w (body_by x.symbols (predicates x) (sheet x).rules x.bodies k q l)
  mode_meant x is mode found w own k q l h task f ens =
      let o : Option Chosen = chosen (sheet x).rules mode (fits_below x.symbols (predicates x) q l) in
      let same : body_by x.symbols (predicates x) (sheet x).rules x.bodies k q l ≡ plain_of x.bodies (built_in_at mode l.kind) o =
      ap (λ j. body_by x.symbols (predicates x) (sheet x).rules x.bodies j q l) (mode_task (sheet x) mode k h task) in
      subst (IsTemplate (sheet x).named (λ m. built_in_at m l.kind) w) (sym same) (ens o (chosen_number (sheet x).rules mode (fits_below x.symbols (predicates x) q l) found f))

-- a rule that was found is one of the rules
pub rule_low : (rules : List Rule) (m : ℕ) (fits : ℕ → Rule → Bool) (o : Option ℕ) → IsRuleOf rules m fits o → IfSome o (λ i. i < length rules)
rule_low rules m fits o (built_in f) = tt
rule_low rules m fits o (best {i} {r} f g) = slice_get_within rules i r f.at
