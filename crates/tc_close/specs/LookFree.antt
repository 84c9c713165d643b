-- Bodies that read no look of what stands below the node on which they are instantiated, and symbols whose elements read none of what stands in them.
use Rattle.std.specs.Prelude.{◌≡◌, ◌<◌, ℕ, List, [], Bool, true, Some, slice_get}
use Rattle.std.specs.List.{Contains}
use Rattle.tc_model.specs.Letters.{Letter, of_symbol}
use Rattle.tc_model.specs.Sheets.{Sheet, Body, no_instruction, put_text, put_element, copy, apply, call, for_each, value, value_of_self, choose, CallFreeBody, p_done, p_text, p_element, p_copy, p_apply, p_call, p_value, p_self, p_choose, p_each}
use Rattle.tc_model.specs.RuleStates.{fits_below}
use Rattle.tc_model.specs.WellFormed.{ForEach, eaches_of}
use Rattle.tc_rules.specs.RulesView.{ancestor}
use Rattle.tc_rules.specs.States.{Going, Looking, body_by, built_in_at, chosen, plain_of}
use Rattle.tc_rules.specs.Tasks.{IsMoveAt, IsLookAt}
use Rattle.tc_rows.specs.Triples.{Triple, sheet, predicates, ancestors, looking}
use Rattle.tc_rows.specs.Rows.{HedgeRow}
use Rattle.tc_rows.specs.Arithmetic.{look_from, step}
use Rattle.tc_beh.specs.Runs.{rule_body}
use Rattle.tc_close.specs.declared.look_free.FreeBodies.{FreeBodies}
use Rattle.tc_close.specs.declared.look_free.FreeSymbols.{FreeSymbols}

-- no value and no choice; what is in a for-each isn't put out on the node itself
abbrev pub IsLookFree : CallFreeBody → Type 0
IsLookFree p_done = Unit {0}
IsLookFree (p_text s b) = IsLookFree b
IsLookFree (p_element n i b) = IsLookFree i × IsLookFree b
IsLookFree (p_copy i b) = IsLookFree i × IsLookFree b
IsLookFree (p_apply p m b) = IsLookFree b
IsLookFree (p_call i b) = IsLookFree i × IsLookFree b
IsLookFree (p_value p b) = ⊥
IsLookFree (p_self b) = IsLookFree b
IsLookFree (p_choose y b) = ⊥
IsLookFree (p_each e p i b) = IsLookFree b

-- the same of a body as it is written, where calls may stand if all named bodies are such
abbrev pub IsFreeBody : Bool → Body → Type 0
IsFreeBody calls no_instruction = Unit {0}
IsFreeBody calls (put_text s b) = IsFreeBody calls b
IsFreeBody calls (put_element n i b) = IsFreeBody calls i × IsFreeBody calls b
IsFreeBody calls (copy i b) = IsFreeBody calls i × IsFreeBody calls b
IsFreeBody calls (apply p m b) = IsFreeBody calls b
IsFreeBody calls (call n b) = (calls ≡ true) × IsFreeBody calls b
IsFreeBody calls (value p b) = ⊥
IsFreeBody calls (value_of_self b) = IsFreeBody calls b
IsFreeBody calls (choose y b) = ⊥
IsFreeBody calls (for_each e p i b) = IsFreeBody calls b

abbrev pub AreFreeNamed : List Body → Type 0
AreFreeNamed named = (n : ℕ) (b : Body) → slice_get named n ≡ Some b → IsFreeBody true b

abbrev pub AreFreeEaches : Bool → Sheet → Type 0
AreFreeEaches calls s = (e : ForEach) → Contains (eaches_of s) e → IsFreeBody calls e.body

-- what is told of the bodies of a stylesheet is so
pub record AreFreeBodies (s : Sheet) (f : FreeBodies) : Type 0 where
  pub calls : f.calls ≡ true → AreFreeNamed s.named
  pub eaches : f.eaches ≡ true → AreFreeEaches f.calls s
  pub rules : (n : ℕ) → slice_get f.rules.items n ≡ Some true → IsFreeBody f.calls (rule_body s n)

-- the letter of an element of a symbol, where no predicate holds
abbrev pub plain_letter : ℕ → Letter
plain_letter a = record { kind = of_symbol a; marks = 0 }

module _ (x : Triple) (a : ℕ) where
  -- a state of a look finds nothing below an element of the symbol
  abbrev pub IsDoneLook : List ℕ → Looking → Type 0
  IsDoneLook vs s = look_from x vs (looking s.path (step x s.path s.state (plain_letter a))) ≡ 0

  -- what the rules of a mode say on an element of the symbol below an ancestor state reads no look; and below all of them
  abbrev pub IsFreeAbove : ℕ → ℕ → Type 0
  IsFreeAbove mode q = IsLookFree (plain_of x.bodies (built_in_at mode (of_symbol a)) (chosen (sheet x).rules mode (fits_below x.symbols (predicates x) (ancestor x.rules q) (plain_letter a))))

  abbrev pub IsFreeMode : ℕ → Type 0
  IsFreeMode mode = (q : ℕ) → q < ancestors x → IsFreeAbove mode q

  -- an element of the symbol reads no look of what stands in it
  pub record IsFreeSymbol : Type 0 where
    pub letters : predicates x ≡ []
    pub bodies : (k : ℕ) (g : Going) (q : ℕ) → IsMoveAt x.rules k g → q < ancestors x
        → IsLookFree (body_by x.symbols (predicates x) (sheet x).rules x.bodies g.task (ancestor x.rules q) (plain_letter a))
    pub looks : (k : ℕ) (s : Looking) (vs : List ℕ) → IsLookAt x.rules k s → IsDoneLook vs s

-- what is known of symbols is so
pub record AreFreeSymbols (x : Triple) (f : FreeSymbols) : Type 0 where
  pub bodies : AreFreeBodies (sheet x) f.bodies
  pub known : (a : ℕ) → slice_get f.known.items a ≡ Some (Some true) → IsFreeSymbol x a

-- two rows of lists of trees that agree in all but their looks, and in whether a text ends them
pub record AgreeButLooks (h k : HedgeRow) : Type 0 where
  pub bears : h.bears ≡ k.bears
  pub states : h.states ≡ k.states
  pub entries : h.entries ≡ k.entries
