-- Where a tag stands before the root element, it is the root element's.
use Rattle.std.proofs.Common.{◌≡◌, ℕ, List, [], ap, ◌∙◌, sym, subst}
use Rattle.std.specs.Prelude.{◌↔◌}
use Rattle.tc_model.specs.XmlText.{after_mark}
use Rattle.tc_model.specs.XmlTextBytes.{after_white}
use Rattle.tc_model.specs.XmlTextMisc.{MiscAt, no_more, IsNoMisc, DoctypeAt, no_doctype}
use Rattle.tc_model.specs.XmlTextScopes.{first_scope}
use Rattle.tc_model.proofs.XmlTextPhrases.{same_first, same_others, misc_unique, doctype_unique}
use Rattle.tc_tags.specs.Begins.{BeginsTag}
use Rattle.tc_stream.specs.Outcomes.{Outcome}
use Rattle.tc_stream.specs.Goes.{Goes}
use Rattle.tc_stream.specs.From.{Standing, FromRoot, FromProlog, subset, root, FromFront, FromPhase}
use Rattle.tc_stream.specs.declared.phases.Phase.TheVariants as phases
use Rattle.tc_stream.proofs.MiscSteps.{no_declaration_here}

no_white : {bs : List ℕ} → BeginsTag bs → after_white bs ≡ bs
no_white b = ap after_white b.opens ∙ sym b.opens

no_misc : {bs : List ℕ} → BeginsTag bs → IsNoMisc bs
no_misc b = (λ r e. b.no_mark (same_first (same_others (sym b.opens ∙ e))), λ r e. b.no_instruction (same_first (same_others (sym b.opens ∙ e))))

misc_here : {bs : List ℕ} → BeginsTag bs → MiscAt bs bs
misc_here {bs} b = subst (λ z. MiscAt bs z) (no_white b) (no_more (subst IsNoMisc (sym (no_white b)) (no_misc b)))

doctype_here : {bs : List ℕ} → BeginsTag bs → DoctypeAt bs bs
doctype_here b = no_doctype (λ r e. b.no_mark (same_first (same_others (sym b.opens ∙ e))))

root_past : {total : ℕ} {bs : List ℕ} {o : Outcome} → BeginsTag bs → FromProlog total bs o → FromRoot total bs o
root_past b (subset {past_misc = p} m a) =
    absurd (b.no_mark (same_first (same_others (sym b.opens ∙ (misc_unique (misc_here b) m ∙ a.opens)))))
root_past {total} {o = o} b (root {past_misc = p} {root = place} m d g) =
    subst (λ z. FromRoot total z o) (doctype_unique (subst (λ z. DoctypeAt z place) (misc_unique m (misc_here b)) d) (doctype_here b)) g

pub root_in_prolog : (total : ℕ) (bs : List ℕ) (o : Outcome) → BeginsTag bs → FromProlog total bs o ↔ Goes total [] first_scope [] bs o
root_in_prolog total bs o b = (λ p. root_past b p, λ g. root (misc_here b) (doctype_here b) g)

pub root_in_root : (total : ℕ) (s : Standing) (bs : List ℕ) (o : Outcome) → BeginsTag bs → FromPhase total phases.Root s bs o ↔ Goes total [] first_scope [] bs o
root_in_root total s bs o b = (λ p. subst (λ z. FromRoot total z o) (misc_unique p.1 (misc_here b)) p.2, λ g. (bs, misc_here b, g))

pub root_in_front : (total : ℕ) (bs : List ℕ) (o : Outcome) → BeginsTag bs → FromFront total bs o ↔ Goes total [] first_scope [] bs o
root_in_front total bs o b =
    let none = no_declaration_here bs (λ r e w. b.no_instruction (same_first (same_others (sym b.opens ∙ e)))) total o in
    let there = root_in_prolog total bs o b in
    (λ p. there.0 (none.0 p), λ g. none.1 (there.1 g))

-- no byte order mark stands before a tag
pub no_mark_here : (bs : List ℕ) → BeginsTag bs → after_mark bs ≡ bs
no_mark_here bs b = ap after_mark b.opens ∙ sym b.opens

pub root_in_mark : (total : ℕ) (s : Standing) (bs : List ℕ) (o : Outcome) → BeginsTag bs → FromPhase total phases.Mark s bs o ↔ Goes total [] first_scope [] bs o
root_in_mark total s bs o b =
    let same = no_mark_here bs b in
    let there = root_in_front total bs o b in
    (λ p. there.0 (subst (λ z. FromFront total z o) same p), λ g. subst (λ z. FromFront total z o) (sym same) (there.1 g))
