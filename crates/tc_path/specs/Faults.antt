-- Why a text isn't read.
-- A text that isn't all tokens is malformed, also where a construct that has its own reason stands in it, or
-- where it nests too deep. `text()`, `not()` and the like count their own parentheses.
use Rattle.std.specs.Prelude.{◌≡◌, ℕ, List, Option, None, Some}
use Rattle.tc_base.specs.declared.reasons.Why.{Why}
use Rattle.tc_model.specs.PathTextTokens.{Token, Tokens, IsTooDeep}
use Rattle.tc_path.specs.declared.PathFault.{PathFault}
use Rattle.tc_path.specs.declared.PathFault.TheVariants.{Malformed, Unsupported, TooDeep, NoMemory}
use Rattle.tc_path.specs.declared.reasons.Context.{Context}
use Rattle.tc_path.specs.Reasons.{first_reason, Renamed}

-- the fault is want of memory, or this holds
abbrev pub OrNoMemory : PathFault → Type 0 → Type 0
OrNoMemory Malformed P = P
OrNoMemory (Unsupported why) P = P
OrNoMemory TooDeep P = P
OrNoMemory NoMemory P = Unit {0}

-- tokens that aren't too deep, and the first refused construct in them
pub record Shallow (c : Context) (text : List ℕ) (reason : Option Why) : Type 0 where
  pub tokens : List Token
  pub are_tokens : Tokens text tokens
  pub not_too_deep : IsTooDeep tokens → ⊥
  pub is_first : first_reason c tokens ≡ reason

-- parentheses and brackets stand too deep in the text
pub record Deep (text : List ℕ) : Type 0 where
  pub tokens : List Token
  pub are_tokens : Tokens text tokens
  pub too_deep : IsTooDeep tokens

-- the cause of a fault: malformed is a text that doesn't stand too deep and has no construct of a reason of its own
abbrev pub IsCause : Context → List ℕ → PathFault → Type 0
IsCause c text Malformed = (Deep text → ⊥) × ((why : Why) → Shallow c text (Some why) → ⊥)
IsCause c text (Unsupported why) = Shallow c text (Some why)
IsCause c text TooDeep = Deep text
IsCause c text NoMemory = Unit {0}

-- why a text has no tokens, or stands too deep
abbrev pub IsUnread : List ℕ → PathFault → Type 0
IsUnread text Malformed = (ts : List Token) → Tokens text ts → ⊥
IsUnread text (Unsupported why) = ⊥
IsUnread text TooDeep = Deep text
IsUnread text NoMemory = Unit {0}

-- the fault of a text that isn't of its form, by the first refused construct in it
abbrev pub fault_of : Option Why → PathFault
fault_of None = Malformed
fault_of (Some why) = Unsupported why

-- the fault of such tokens, unless it is want of memory
abbrev pub refused_as : Context → List Token → PathFault → PathFault
refused_as c ts Malformed = fault_of (first_reason c ts)
refused_as c ts (Unsupported why) = fault_of (first_reason c ts)
refused_as c ts TooDeep = fault_of (first_reason c ts)
refused_as c ts NoMemory = NoMemory

-- the text is of the form once some of its variable references, literals and numbers are taken as the name `a`
pub record FormsOnceRenamed (IsPhrase : List Token → Type 0) (text : List ℕ) : Type 0 where
  pub tokens : List Token
  pub are_tokens : Tokens text tokens
  pub renamed : List Token
  pub is_renamed : Renamed tokens renamed
  pub not_too_deep : IsTooDeep renamed → ⊥
  pub phrase : IsPhrase renamed

-- then the fault is that such a construct stands in it, or want of memory
abbrev pub IsUnsupported : PathFault → Type 0
IsUnsupported Malformed = ⊥
IsUnsupported (Unsupported why) = Unit {0}
IsUnsupported TooDeep = ⊥
IsUnsupported NoMemory = Unit {0}
