-- Laws of documents: which texts are refused.
use Rattle.std.specs.Prelude.{◌⊎◌, ℕ, List}
use Rattle.tc_model.specs.Trees.{Trees}
use Rattle.tc_print.specs.ReadBack.{IsReadAs}
use Rattle.tc_read.specs.Refusals.{IsRefusedDocument}
use Rattle.tc_read.specs.declared.faults.Reason.{Reason}

-- a text that is refused has no document
abbrev pub HasNoDocument : Type 0
HasNoDocument = (bytes : List ℕ) (r : Reason) (k : ℕ) (d : Trees) → IsRefusedDocument bytes r k → IsReadAs bytes d → ⊥

-- any bytes have a document, or are refused
abbrev pub HasDocumentOrReason : Type 0
HasDocumentOrReason = (bytes : List ℕ) → ((d : Trees) × IsReadAs bytes d) ⊎ ((r : Reason) × ((k : ℕ) × IsRefusedDocument bytes r k))
