-- What is meant on a node, and that it is part of the stylesheet.
use Rattle.std.proofs.Common.{◌≡◌, ℕ, ◌+◌, ◌<◌, List, refl, ap, ◌∙◌, sym, subst, length, map, Option, Some, option_map, slice_get, get_or, Bor, Contains, arith}
use Rattle.std.proofs.lemmas.Option.{slice_get-map, slice_get-get_or}
use Rattle.std.proofs.lemmas.List.{length-map}
use Rattle.std.specs.Prelude.{IfSome, pos, []}
use Rattle.tc_model.specs.declared.sheet.Pattern.TheVariants.{Root}
use Rattle.tc_model.specs.Chains.{Node}
use Rattle.tc_model.specs.Letters.{Letter}
use Rattle.tc_model.specs.Machine.{CallFreeJob}
use Rattle.tc_model.specs.PathStates.{State}
use Rattle.tc_model.specs.RuleStates.{IsRuleOf, fits_below}
use Rattle.tc_model.specs.Views as see
use Rattle.tc_model.specs.Sheets.{Sheet, Body, CallFreeBody, Inlines}
use Rattle.tc_model.specs.Symbols.{Mention}
use Rattle.tc_model.specs.WellFormed.{ForEach, eaches_of}
use Rattle.tc_model.specs.declared.sheet.Instr.{Instr}
use Rattle.tc_model.specs.declared.sheet.Rule.{Rule as RuleOf}
use Rattle.tc_model.specs.declared.sheet.Sheet.{Sheet as SheetOf}
use Rattle.tc_rules.specs.Asked.{found as found_of}
use Rattle.tc_rules.specs.declared.rules.Found.{Found}
use Rattle.tc_rules.specs.declared.rules.Found.TheVariants as founds
use Rattle.tc_rules.specs.Kept.{IsRulesOf}
use Rattle.tc_rules.specs.States.{Chosen, chosen, plain_of, built_in_at}
use Rattle.tc_rules.specs.Parts.{IsPart}
use Rattle.tc_run.specs.Running.{IsRunner, HasBodies, sheet_by, symbols_by, predicates_by, machine}
use Rattle.tc_rules.specs.Tasks.{IsTaskOf}
use Rattle.tc_run.specs.Tasks.{IsMeantBy, built_in}
use Rattle.tc_run.specs.declared.leaves.Bodies.{Bodies}
use Rattle.tc_run.specs.declared.visits.Template.{Template}
use Rattle.tc_run.specs.declared.visits.Template.TheVariants as m
use Rattle.tc_run.specs.declared.runner.Runner.{Runner}
use Rattle.tc_run.proofs.Members.{has_got}
use Rattle.tc_rules.proofs.PartsOf.{rule_part, named_part, each_part}
use Rattle.tc_rules.proofs.RuleOf.{chosen_number, rule_chosen, mode_task, each_task}

-- what stands past the end of a list of rules
abbrev pub no_rule : RuleOf
no_rule = record { mode = 0; pattern = Root; priority = pos 0; body = record { ref_ptr = (0, 0); now = [] } }

-- an element of a list, by what is seen of it
got_seen : {X Y : Type 0} (f : X → Y) (xs : List X) (ys : List Y) (i : ℕ) (d : X) → map f xs ≡ ys → i < length ys → slice_get ys i ≡ Some (f (get_or xs i d))
got_seen f xs ys i d e h =
    let size : length xs ≡ length ys = sym (length-map xs f) ∙ ap length e in
    ap (λ w. slice_get w i) (sym e) ∙ (slice_get-map f xs i ∙ ap (option_map f) (slice_get-get_or xs i d (omega (arith, size, h))))

pub found_low : (f : Found) (i n : ℕ) → f ≡ founds.Rule i → IfSome (found_of f) (λ j. j < n) → i < n
found_low f i n e h = subst (λ g. IfSome (found_of g) (λ j. j < n)) e h

pub found_number : (f : Found) (i : ℕ) (o : Option ℕ) → f ≡ founds.Rule i → o ≡ found_of f → o ≡ Some i
found_number f i o e h = h ∙ ap found_of e

pub rule_got : (s : Sheet) (sh : SheetOf) (i : ℕ) (d : RuleOf) → see.sheet sh ≡ s → i < length s.rules → slice_get s.rules i ≡ Some (see.rule (get_or sh.rules.now i d))
rule_got s sh i d e h = got_seen see.rule sh.rules.now s.rules i d (ap (λ (x : Sheet). x.rules) e) h

pub named_got : (s : Sheet) (sh : SheetOf) (i : ℕ) (d : Bor (List Instr)) → see.sheet sh ≡ s → i < length s.named → slice_get s.named i ≡ Some (see.body (get_or sh.named.now i d).now)
named_got s sh i d e h = got_seen (λ (b : Bor (List Instr)). see.body b.now) sh.named.now s.named i d (ap (λ (x : Sheet). x.named) e) h

-- what stands past the end of bodies
abbrev pub no_body : Bor (List Instr)
no_body = record { ref_ptr = (0, 0); now = [] }

pub named_low : (s : Sheet) (sh : SheetOf) (i : ℕ) → see.sheet sh ≡ s → i < length s.named → i < length sh.named.now
named_low s sh i e h =
    let size : length s.named ≡ length sh.named.now = sym (ap (λ (x : Sheet). length x.named) e) ∙ length-map sh.named.now (λ (b : Bor (List Instr)). see.body b.now) in
    omega (arith, size, h)

module _ (s : List Body) (n : Node) where
  pub meant_body : (w : Template) (b : Bodies) (p : CallFreeBody) → w ≡ m.Body b → IsMeantBy s n w p → Inlines s (see.body b.whole.now) p
  meant_body w b p e h = subst (λ v. IsMeantBy s n v p) e h

  pub meant_built_in : (w : Template) (mode : ℕ) (p : CallFreeBody) → w ≡ m.BuiltIn mode → IsMeantBy s n w p → p ≡ built_in mode n
  meant_built_in w mode p e h = subst (λ v. IsMeantBy s n v p) e h

module _ (r : Runner) where
  module _ (is : IsRunner r) where
    pub rule_part_at : (i : ℕ) (x : RuleOf) → slice_get (sheet_by r).rules i ≡ Some (see.rule x) → IsPart (sheet_by r) (see.body x.body.now)
    rule_part_at i x e = rule_part (sheet_by r) is.tells.well_formed (see.rule x) (has_got (sheet_by r).rules i (see.rule x) e)

    pub named_part_at : (i : ℕ) (b : Bor (List Instr)) → slice_get (sheet_by r).named i ≡ Some (see.body b.now) → IsPart (sheet_by r) (see.body b.now)
    named_part_at i b e = named_part (sheet_by r) is.tells.well_formed (see.body b.now) (has_got (sheet_by r).named i (see.body b.now) e)

    abbrev IsEachBody : ℕ → Bor (List Instr) → Type 0
    IsEachBody e b = (symbols : List Mention) (f : ForEach) → IsRulesOf symbols r.rules.now → Contains (eaches_of (sheet_by r)) f → f.number ≡ e → f.body ≡ see.body b.now

    pub each_part_at : (e : ℕ) (b : Bor (List Instr)) → e < (sheet_by r).eaches → IsEachBody e b → IsPart (sheet_by r) (see.body b.now)
    each_part_at e b h k =
        let (f, there, number) = is.tells.well_formed.each_number e h in
        subst (IsPart (sheet_by r)) (k (symbols_by r) f is there number) (each_part (sheet_by r) is.tells.well_formed f there)

    pub each_meant : (bodies : List CallFreeBody) (e : ℕ) (b : Bor (List Instr)) (k : CallFreeJob) (q : State) (l : Letter) → IsEachBody e b → IsTaskOf (sheet_by r) ((sheet_by r).modes + e) k
        → Inlines (sheet_by r).named (see.body b.now) ((machine r bodies).body_at k q l)
    each_meant bodies e b k q l h t =
        let d = each_task (sheet_by r) ((sheet_by r).modes + e) e k refl t in
        subst (λ j. Inlines (sheet_by r).named (see.body b.now) ((machine r bodies).body_at j q l)) (sym d.task)
        (subst (λ x. Inlines (sheet_by r).named x d.plain) (h (symbols_by r) d.found is d.there d.number) d.unfolds)

  pub rule_meant : (bodies : List CallFreeBody) → HasBodies r bodies → (b : CallFreeBody) (o : Option Chosen) (i : ℕ) (x : RuleOf) → slice_get (sheet_by r).rules i ≡ Some (see.rule x)
      → option_map (λ w. w.number) o ≡ Some i → Inlines (sheet_by r).named (see.body x.body.now) (plain_of bodies b o)
  rule_meant bodies u b o i x e k = rule_chosen (sheet_by r).named (sheet_by r).rules bodies u b o i (see.rule x) k e

  -- the rule that was found for a letter
  pub mode_meant : (bodies : List CallFreeBody) (mode : ℕ) (found : Option ℕ) (w : Template) (n : Node) (k : CallFreeJob) (q : State) (l : Letter) → mode < (sheet_by r).modes → IsTaskOf (sheet_by r) mode k
      → IsRuleOf (sheet_by r).rules mode (fits_below (symbols_by r) (predicates_by r) q l) found
      → ((i : ℕ) → built_in_at i l.kind ≡ built_in i n)
      → ((o : Option Chosen) → option_map (λ y. y.number) o ≡ found → IsMeantBy (sheet_by r).named n w (plain_of bodies (built_in mode n) o))
      → IsMeantBy (sheet_by r).named n w ((machine r bodies).body_at k q l)
  mode_meant bodies mode found w n k q l h t f b ens =
      let o : Option Chosen = chosen (sheet_by r).rules mode (fits_below (symbols_by r) (predicates_by r) q l) in
      let same : (machine r bodies).body_at k q l ≡ plain_of bodies (built_in mode n) o =
      ap (λ j. (machine r bodies).body_at j q l) (mode_task (sheet_by r) mode k h t) ∙ ap (λ y. plain_of bodies y o) (b mode) in
      subst (IsMeantBy (sheet_by r).named n w) (sym same) (ens o (chosen_number (sheet_by r).rules mode (fits_below (symbols_by r) (predicates_by r) q l) found f))
