-- A text has a document or is refused, and not both.
use Rattle.std.proofs.Common.{◌⊎◌, ◌<◌, inl, inr, refl, ℕ, true, false, List, arith}
use Rattle.std.proofs.lemmas.Bool.{false≢true}
use Rattle.tc_model.specs.RawTrees.{RawTrees}
use Rattle.tc_model.specs.Stripped.{stripped}
use Rattle.tc_model.specs.XmlText.{Reads, XmlText, deepest_element}
use Rattle.tc_model.specs.XmlTextLaws.{IsBeyond}
use Rattle.tc_model.specs.XmlTextRefusals.{Cause, unsupported, too_deep, XmlTextRefuses}
use Rattle.tc_model.proofs.XmlTextReadable.{tree_or_refusal, refused_for_more}
use Rattle.tc_read.specs.DocumentLaws.{HasNoDocument, HasDocumentOrReason}
use Rattle.tc_read.specs.Refusals.{IsRefusedDocument}
use Rattle.tc_read.specs.declared.faults.Reason.{Reason}
use Rattle.tc_read.specs.declared.faults.Reason.TheVariants.{Malformed, Unsupported, TooDeep, Undefined, Twice, Loop, BadStart, BadExcept, CallLoop}
use Rattle.tc_read.proofs.DecidingDocuments.{TreeOrRefusal, tree_or_refusal_here}
use Rattle.tc_read.proofs.OtherEntities.{with_others}

-- a text that is refused has no raw tree
pub no_raw_tree : (bytes : List ℕ) (r : Reason) (k : ℕ) (h : RawTrees) → IsRefusedDocument bytes r k → XmlText bytes h → ⊥
no_raw_tree bytes Malformed k h x m = x.1 deepest_element h (with_others m)
no_raw_tree bytes (Unsupported why) k h x m = x.1 deepest_element h m
no_raw_tree bytes TooDeep k h x m = x.1 h (with_others m)
no_raw_tree bytes Undefined k h x m = x
no_raw_tree bytes Twice k h x m = x
no_raw_tree bytes Loop k h x m = x
no_raw_tree bytes BadStart k h x m = x
no_raw_tree bytes BadExcept k h x m = x
no_raw_tree bytes CallLoop k h x m = x

pub no_document : HasNoDocument
no_document bytes r k d x m = no_raw_tree bytes r k m.raw x m.spells

-- what reading stops at is a reason
refusal_reason : (bytes : List ℕ) (cause : Cause) (place : ℕ) → XmlTextRefuses bytes cause place → (r : Reason) × IsRefusedDocument bytes r place
refusal_reason bytes (unsupported why) place x = (Unsupported why, (x, λ deepest h m. read_with_them (refused_for_more false deepest bytes h (unsupported why) place m x)))
  where
    read_with_them : IsBeyond false deepest_element deepest_element (unsupported why) → ⊥
    read_with_them e = false≢true e
refusal_reason bytes too_deep place x = (TooDeep, (x, λ h m. not_below (refused_for_more true deepest_element bytes h too_deep place m x)))
  where
    not_below : deepest_element < deepest_element → ⊥
    not_below l = omega (arith, l)

-- where there is no tree, and reading stops at nothing, nothing is read with other entities either
unread : (bytes : List ℕ) → ((h : RawTrees) → XmlText bytes h → ⊥) → ((cause : Cause) (place : ℕ) → XmlTextRefuses bytes cause place → ⊥) → (deepest : ℕ) (h : RawTrees) → Reads true deepest bytes h → ⊥
unread bytes no_tree not_refused deepest h m = by (tree_or_refusal true deepest bytes h m)
  where
    by : XmlText bytes h ⊎ ((cause : Cause) × (place : ℕ) × XmlTextRefuses bytes cause place × IsBeyond true deepest deepest_element cause) → ⊥
    by (inl t) = no_tree h t
    by (inr (cause, place, x, e)) = not_refused cause place x

-- a text has a raw tree or is refused
pub raw_tree_or_reason : (bytes : List ℕ) → ((h : RawTrees) × XmlText bytes h) ⊎ ((r : Reason) × ((k : ℕ) × IsRefusedDocument bytes r k))
raw_tree_or_reason bytes = by (tree_or_refusal_here bytes)
  where
    by : TreeOrRefusal bytes → ((h : RawTrees) × XmlText bytes h) ⊎ ((r : Reason) × ((k : ℕ) × IsRefusedDocument bytes r k))
    by (inl (h, t)) = inl (h, t)
    by (inr (inl (c, (k, x)))) = let (r, y) = refusal_reason bytes c k x in inr (r, (k, y))
    by (inr (inr (no_tree, not_refused))) = inr (Malformed, (0, (omega arith, unread bytes no_tree not_refused, not_refused)))

pub document_or_reason : HasDocumentOrReason
document_or_reason bytes = elim (raw_tree_or_reason bytes) [ inl (h, t) ↦ inl (stripped h, record { raw = h; spells = t; document = refl }) | inr x ↦ inr x ]
