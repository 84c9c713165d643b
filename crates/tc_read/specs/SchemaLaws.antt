-- Laws of schemas: which are refused.
use Rattle.std.specs.Prelude.{◌≡◌, ◌⊎◌, ℕ, List}
use Rattle.tc_model.specs.Grammars.{Grammar}
use Rattle.tc_model.specs.RncText.{RncText}
use Rattle.tc_read.specs.Refusals.{IsRefusedSchema}
use Rattle.tc_read.specs.declared.faults.Reason.{Reason}

-- a schema's text is refused for one reason, at one place
abbrev pub HasOneReason : Type 0
HasOneReason = (bytes : List ℕ) (r q : Reason) (k m : ℕ) → IsRefusedSchema bytes r k → IsRefusedSchema bytes q m → (r ≡ q) × (k ≡ m)

-- and then has no grammar
abbrev pub HasNoGrammar : Type 0
HasNoGrammar = (bytes : List ℕ) (r : Reason) (k : ℕ) (g : Grammar) → IsRefusedSchema bytes r k → RncText bytes g → ⊥

-- any bytes have a grammar, or are refused
abbrev pub HasGrammarOrReason : Type 0
HasGrammarOrReason = (bytes : List ℕ) → ((g : Grammar) × RncText bytes g) ⊎ ((r : Reason) × ((k : ℕ) × IsRefusedSchema bytes r k))
