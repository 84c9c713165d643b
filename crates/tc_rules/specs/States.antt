-- The machine of path states: what the states of moves, of looks and of all rules' patterns tell of a stylesheet on the trees below a node.
use Rattle.std.specs.Prelude.{ℕ, suc, List, [], ◌∷◌, Bool, ◌&&◌, nat_eq, int_lt, Option, None, Some, slice_get, if◌then◌else◌}
use Rattle.tc_model.specs.Trees.{none}
use Rattle.tc_model.specs.Chains.{top}
use Rattle.tc_model.specs.Sheets.{Path, Test, Body, Rule, CallFreeBody, p_done, p_apply, p_self, Inlines}
use Rattle.tc_model.specs.Paths.{fits}
use Rattle.tc_model.specs.Meaning.{all_children}
use Rattle.tc_model.specs.Machine.{CallFreeJob, in_mode, in_body, known_task, Machine}
use Rattle.tc_model.specs.Symbols.{Mention}
use Rattle.tc_model.specs.Letters.{Kind, of_symbol, of_text, Letter, letter_of}
use Rattle.tc_model.specs.PathStates.{State, first_state, next_state, is_hit, path_of_rules}
use Rattle.tc_model.specs.RuleStates.{fits_below}
use Rattle.tc_rules.specs.Covered.{IsCovered}

-- a rule with its number
pub record Chosen : Type 0 where
  pub number : ℕ
  pub rule : Rule

abbrev pub before_chosen : Bool → Rule → Option Chosen → Option Chosen
before_chosen b r None = if b then Some (record { number = 0; rule = r }) else None
before_chosen b r (Some x) = if b && int_lt x.rule.priority r.priority then Some (record { number = 0; rule = r }) else Some (record { number = suc x.number; rule = x.rule })

-- of the rules of a mode that fit, the last of greatest priority
abbrev pub chosen : List Rule → ℕ → (ℕ → Rule → Bool) → Option Chosen
chosen [] m f = None
chosen (r ∷ rs) m f = before_chosen (nat_eq r.mode m && f 0 r) r (chosen rs m (λ i q. f (suc i) q))

-- each body has the bodies that it calls in place
abbrev pub AllInline : List Body → List Rule → List CallFreeBody → Type 0
AllInline named [] [] = Unit {0}
AllInline named [] (p ∷ ps) = ⊥
AllInline named (r ∷ rs) [] = ⊥
AllInline named (r ∷ rs) (p ∷ ps) = Inlines named r.body p × AllInline named rs ps

abbrev pub or_plain : CallFreeBody → Option CallFreeBody → CallFreeBody
or_plain b None = b
or_plain b (Some p) = p

-- the body of a rule that was chosen, or else a built-in one
abbrev pub plain_of : List CallFreeBody → CallFreeBody → Option Chosen → CallFreeBody
plain_of bodies b None = b
plain_of bodies b (Some x) = or_plain b (slice_get bodies x.number)

abbrev pub built_in_at : ℕ → Kind → CallFreeBody
built_in_at m (of_symbol k) = p_apply all_children m p_done
built_in_at m of_text = p_self p_done

-- a state of a move, and one of a look
pub record Going : Type 0 where
  pub task : CallFreeJob
  pub path : Path
  pub state : State

pub record Looking : Type 0 where
  pub path : Path
  pub state : State

module _ (symbols : List Mention) (predicates : List Test) (rules : List Rule) (bodies : List CallFreeBody) where
  abbrev pub body_by : CallFreeJob → State → Letter → CallFreeBody
  body_by (in_mode m) q l = plain_of bodies (built_in_at m l.kind) (chosen rules m (fits_below symbols predicates q l))
  body_by (in_body p) q l = p

  abbrev pub body_of_root : CallFreeJob → CallFreeBody
  body_of_root (in_mode m) = plain_of bodies (p_apply all_children m p_done) (chosen rules m (λ i r. fits r.pattern (top none)))
  body_of_root (in_body p) = p

  abbrev pub states : Machine
  states = record {
    Letter = Letter;
    letter = letter_of symbols predicates;
    Move = Going;
    KnownMove = λ j p. IsCovered symbols predicates p;
    move_first = λ j p. record { task = j; path = p; state = first_state p };
    move_step = λ s l. record { task = s.task; path = s.path; state = next_state symbols predicates s.path s.state l };
    move_hits = λ s l. is_hit symbols predicates s.path s.state l;
    task_of = λ s. s.task;
    IsMove = λ s. known_task (λ j p. IsCovered symbols predicates p) (IsCovered symbols predicates) s.task;
    Look = Looking;
    KnownLook = IsCovered symbols predicates;
    look_first = λ p. record { path = p; state = first_state p };
    look_step = λ s l. record { path = s.path; state = next_state symbols predicates s.path s.state l };
    look_hits = λ s l. is_hit symbols predicates s.path s.state l;
    IsLook = λ s. Unit {0};
    Above = State;
    start = first_state (path_of_rules rules);
    down_to = λ q l. next_state symbols predicates (path_of_rules rules) q l;
    IsAbove = λ q. Unit {0};
    body_at = body_by;
    root_body = body_of_root;
  }
