-- What comes of a text that ends between two items.
use Rattle.std.proofs.Common.{◌≡◌, ◌≢◌, ℕ, ◌+◌, List, [], refl, ap, ◌∙◌, sym, subst, length, arith, length-append}
use Rattle.std.specs.Prelude.{◌↔◌, encode_utf8}
use Rattle.std.proofs.lemmas.Str.{length-encode, len_utf8_bounds}
use Rattle.tc_model.specs.Names.{ExpandedName}
use Rattle.tc_model.specs.Trees.{Trees, none, element}
use Rattle.tc_model.specs.XmlTextBytes.{FrontOf, after_white}
use Rattle.tc_model.specs.XmlTextMisc.{CommentAt, InstructionAt, MiscAt, no_more, comment, instruction, DoctypeFrontAt, DoctypeAt, no_doctype, doctype}
use Rattle.tc_model.specs.XmlTextMisc as m
use Rattle.tc_model.specs.XmlTextRefusals.{version, encoding}
use Rattle.tc_model.proofs.XmlTextUnique.{kind}
use Rattle.tc_model.proofs.XmlTextChars.{no_chars}
use Rattle.tc_stream.specs.Cuts.{BeginsNoChar}
use Rattle.tc_stream.specs.Outcomes.{Outcome, document}
use Rattle.tc_stream.specs.Goes.{end}
use Rattle.tc_stream.specs.From.{Standing, ended, FromRoot, FromProlog, subset, root, FromFront, declaration, prolog, FromPhase, IsWhole, StillComes}
use Rattle.tc_stream.specs.declared.phases.Phase.{Phase}
use Rattle.tc_stream.specs.declared.phases.Phase.TheVariants as phases
use Rattle.tc_stream.proofs.HopelessSteps.{root_none}
use Rattle.tc_stream.proofs.NothingSteps.{front_nothing}

-- nothing stands in no bytes

misc_of_nothing : {bs past : List ℕ} → MiscAt bs past → bs ≡ [] → past ≡ []
misc_of_nothing (no_more h) e = ap after_white e
misc_of_nothing (comment a k) e = absurd (omega (arith, ap length (sym (ap after_white e) ∙ a.opens)))
misc_of_nothing (instruction a k) e = absurd (omega (arith, ap length (sym (ap after_white e) ∙ a.opens)))

doctype_of_nothing : {bs after : List ℕ} → DoctypeAt bs after → bs ≡ [] → after ≡ []
doctype_of_nothing (no_doctype h) e = e
doctype_of_nothing (doctype a k) e = absurd (omega (arith, ap length (sym e ∙ a.opens)))

no_root : {total : ℕ} {bs : List ℕ} {o : Outcome} → FromRoot total bs o → bs ≡ [] → ⊥
unfolding kind
no_root g e = root_none (λ k. omega (arith, sym (ap kind e) ∙ k)) g

prolog_of_nothing : {total : ℕ} {bs : List ℕ} {o : Outcome} → FromProlog total bs o → bs ≡ [] → ⊥
prolog_of_nothing (subset k a) e = omega (arith, ap length (sym (misc_of_nothing k e) ∙ a.opens))
prolog_of_nothing (root k d g) e = no_root g (doctype_of_nothing d (misc_of_nothing k e))

front_of_nothing : {total : ℕ} {bs : List ℕ} {o : Outcome} → FromFront total bs o → bs ≡ [] → ⊥
front_of_nothing (declaration (version is v n)) e = omega (arith, ap length (sym e ∙ is))
front_of_nothing (declaration (encoding is v s n)) e = omega (arith, ap length (sym e ∙ is))
front_of_nothing (prolog (m.no_declaration h) p) e = prolog_of_nothing p e
front_of_nothing (prolog (m.declaration is v k t q) p) e = omega (arith, ap length (sym e ∙ is))

none_at_all : (total : ℕ) (phase : Phase) (s : Standing) (o : Outcome) → phase ≢ phases.Content → phase ≢ phases.End → FromPhase total phase s [] o → ⊥
none_at_all total phases.Mark s o h k g = front_of_nothing g refl
none_at_all total phases.Front s o h k g = front_of_nothing g refl
none_at_all total phases.Prolog s o h k g = prolog_of_nothing g refl
none_at_all total phases.Root s o h k (after, i, g) = no_root g (misc_of_nothing i refl)
none_at_all total phases.Content s o h k g = h refl
none_at_all total phases.End s o h k g = k refl

-- before the root element the text doesn't end
pub root_missing : (n : ℕ) (r : List ℕ) (phase : Phase) (s : Standing) (o : Outcome) → phase ≢ phases.Content → phase ≢ phases.End → BeginsNoChar r → StillComes n phase s r o → ⊥
root_missing n r phase s o h k last (front, i, go, whole) = none_at_all (n + length front) phase s o h k (subst (λ z. FromPhase (n + length front) phase s z o) (front_nothing last i) go)

-- behind it it may, and then a document comes

pub nothing_begins : BeginsNoChar []
nothing_begins c r e h = omega (arith, ap length e, length-append (encode_utf8 c) r, length-encode c, len_utf8_bounds c)

empty_front : FrontOf [] []
empty_front = record { after = []; parts = refl; characters = no_chars; longest = nothing_begins }

ends_as : {total : ℕ} {name : ExpandedName} {kids : Trees} {o : Outcome} (bs : List ℕ) → FromPhase total phases.End (ended name kids) bs o → o ≡ document (element name kids none)
ends_as bs (end k) = refl

no_misc : MiscAt [] []
no_misc = no_more ((λ r e. omega (arith, ap length e)), (λ r e. omega (arith, ap length e)))

pub document_step : (n : ℕ) (name : ExpandedName) (kids : Trees) (o : Outcome) → StillComes n phases.End (ended name kids) [] o ↔ (o ≡ document (element name kids none))
document_step n name kids o = (past, back)
  where
    past : StillComes n phases.End (ended name kids) [] o → o ≡ document (element name kids none)
    past (front, k, go, whole) = ends_as front go

    back : o ≡ document (element name kids none) → StillComes n phases.End (ended name kids) [] o
    back e = subst (λ z. StillComes n phases.End (ended name kids) [] z) (sym e) ([], empty_front, end no_misc, refl)

-- but not before what is no character
pub bad_behind : (n : ℕ) (r : List ℕ) (name : ExpandedName) (kids : Trees) (o : Outcome) → r ≢ [] → BeginsNoChar r → StillComes n phases.End (ended name kids) r o → ⊥
bad_behind n r name kids o some last (front, k, go, whole) =
    let is : IsWhole (document (element name kids none)) front r = subst (λ z. IsWhole z front r) (ends_as front go) whole in
    some (sym is ∙ front_nothing last k)
