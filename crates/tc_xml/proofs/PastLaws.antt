-- What is refused in a phrase whose first part is read is refused behind that part.
use Rattle.std.proofs.Common.{ℕ, false, List, subst}
use Rattle.tc_model.specs.RawTrees.{Bound}
use Rattle.tc_model.specs.XmlTextContent.{Piece, ItemAt}
use Rattle.tc_model.specs.XmlTextRefusals.{Cause, ValueRefuses, past_run, past_reference, QuotedRefuses, xml_space, AttributesRefuse, space, value, past_attribute, ContentRefuses, child, past_item}
use Rattle.tc_model.specs.XmlTextRefusals as r
use Rattle.tc_model.proofs.XmlTextPhrases.{run_unique, reference_unique, reference_no_run}
use Rattle.tc_model.proofs.XmlTextUnique.{item_unique}
use Rattle.tc_model.proofs.XmlTextRefused.{as_reference, other_no_reference, other_no_item, element_no_item}
use Rattle.tc_tags.specs.Values as pieces
use Rattle.tc_tags.specs.Values.{PieceAt}

pub past_piece : {q : ℕ} {bs piece rest : List ℕ} → PieceAt false q bs piece rest → (at : List ℕ) → ValueRefuses q bs at → ValueRefuses q rest at
past_piece {q} (pieces.plain a) at (r.entity o) = absurd (reference_no_run q a (as_reference o))
past_piece {q} (pieces.plain a) at (past_run b k) = subst (λ z. ValueRefuses q z at) (run_unique b a).1 k
past_piece {q} (pieces.plain a) at (past_reference b k) = absurd (reference_no_run q a b)
past_piece (pieces.reference a) at (r.entity o) = absurd (other_no_reference o a)
past_piece {q} (pieces.reference a) at (past_run b k) = absurd (reference_no_run q b a)
past_piece {q} (pieces.reference a) at (past_reference b k) = subst (λ z. ValueRefuses q z at) (reference_unique b a).1 k

pub past_one_item : (total : ℕ) (outer : List Bound) (d : ℕ) (rest after : List ℕ) (p : Piece) → ItemAt false total outer d rest p after → (cause : Cause) (at : List ℕ)
    → ContentRefuses total outer d rest cause at → ContentRefuses total outer d after cause at
past_one_item total outer d rest after p a cause at (r.entity o) = absurd (other_no_item o a)
past_one_item total outer d rest after p a cause at (child k) = absurd (element_no_item k a)
past_one_item total outer d rest after p a cause at (past_item b k) = subst (λ z. ContentRefuses total outer d z cause at) (item_unique b a).1 k
