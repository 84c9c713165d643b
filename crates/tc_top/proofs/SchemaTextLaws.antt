-- What texts of schemas mean is one grammar, and none where they are refused.
use Rattle.std.proofs.Common.{◌≡◌, ◌≤◌, inl, inr, ◌∙◌, ℕ, List, length, Some, None, refl, sym, ap, subst}
use Rattle.tc_base.specs.Reading.{longest_text}
use Rattle.tc_dtd.specs.DtdTextLaws.{IsMalformed}
use Rattle.tc_dtd.specs.declared.faults.DtdFault.{DtdFault}
use Rattle.tc_dtd.specs.declared.faults.DtdFault.TheVariants as dtd
use Rattle.tc_dtd.proofs.OneFault.{one_fault}
use Rattle.tc_model.specs.Grammars.{Grammar}
use Rattle.tc_model.specs.RncText.{RncText}
use Rattle.tc_read.specs.Refusals.{IsRefusedSchema}
use Rattle.tc_model.proofs.SimplifiesUnique.{one_rnc_text}
use Rattle.tc_read.specs.declared.faults.Reason.{Reason}
use Rattle.tc_read.specs.declared.faults.Reason.TheVariants.{Malformed, Unsupported, TooDeep, Twice}
use Rattle.tc_read.proofs.SchemaReasons as rnc
use Rattle.tc_answer.specs.Answers.{refused}
use Rattle.tc_answer.specs.SchemaWords.{root_of}
use Rattle.tc_top.specs.OneAnswer.{AreAlike, same_answer, open_reasons, IsPlaced, HasOneReasonOfDtd}
use Rattle.tc_decide.specs.Texts.{DeclaresGrammar, IsRefusedDtd, Spells, IsRefused, IsShort}
use Rattle.tc_decide.specs.declared.schemas.SchemaText.{SchemaText as Text}
use Rattle.tc_decide.specs.declared.schemas.SchemaText.TheVariants.{Compact, Declarations}
use Rattle.tc_decide.proofs.SchemaTexts.{IsOfFault, reason_by, place_by, of_fault, one_declared, no_declared}
use Rattle.tc_top.specs.SchemaTexts.{SchemaText, compact, declares, IsRefusedText, refuses_compact, refuses_declarations, IsTextOf}
use Rattle.tc_top.proofs.OneRefusal.{schema_refusals}

-- a word has a root or none, and one

no_root : (word root : List ℕ) → root_of word ≡ None → root_of word ≡ Some root → ⊥
no_root word root e f = absurd (let h = sym e ∙ f in cc)

some_is : (x y : List ℕ) → Some x ≡ Some y → x ≡ y
some_is x y e = cc

one_root : (word root other : List ℕ) → root_of word ≡ Some root → root_of word ≡ Some other → root ≡ other
one_root word root other e f = some_is root other (sym e ∙ f)

-- declarations

reason_malformed : (f : DtdFault) → IsMalformed f → reason_by f ≡ Malformed
reason_malformed (dtd.Malformed p) h = refl
reason_malformed (dtd.Unsupported p why) h = absurd h
reason_malformed (dtd.TooDeep p) h = absurd h
reason_malformed (dtd.Twice p) h = absurd h
reason_malformed dtd.NoMemory h = absurd h

pub one_reason_of_dtd : HasOneReasonOfDtd
one_reason_of_dtd bytes r q k m x y = by (of_fault bytes r k x) (of_fault bytes q m y)
  where
    by : IsOfFault bytes r k reason_by place_by → IsOfFault bytes q m reason_by place_by → (r ≡ q) × (IsPlaced r → k ≡ m)
    by a b = elim (one_fault bytes a.fault b.fault a.refusal b.refusal a.faulty b.faulty) [
      | inl s ↦ (a.reason_is ∙ (ap reason_by s ∙ sym b.reason_is), λ _. a.place_is ∙ (ap place_by s ∙ sym b.place_is))
      | inr s ↦
          let first = a.reason_is ∙ reason_malformed a.fault s.0 in
          (first ∙ sym (b.reason_is ∙ reason_malformed b.fault s.1), λ p. absurd (subst IsPlaced first p))
    ]

alike_at : (name : List ℕ) (reason : Reason) (k m : ℕ) → (IsPlaced reason → k ≡ m) → AreAlike (refused name reason k) (refused name reason m)
alike_at name Malformed k m h = open_reasons tt tt
alike_at name reason k m h = subst (λ p. AreAlike (refused name reason k) (refused name reason p)) (h tt) same_answer

dtd_refusals : (bytes name : List ℕ) {r q : Reason} {k m : ℕ} → IsRefusedDtd bytes r k → IsRefusedDtd bytes q m → AreAlike (refused name r k) (refused name q m)
dtd_refusals bytes name {r} {q} {k} {m} x y =
    let one = one_reason_of_dtd bytes r q k m x y in
    subst (λ w. AreAlike (refused name r k) (refused name w m)) one.0 (alike_at name r k m one.1)

-- texts of both kinds

pub one_schema : {word bytes : List ℕ} {g h : Grammar} → SchemaText word bytes g → SchemaText word bytes h → g ≡ h
one_schema {bytes = bytes} {g = g} {h = h} (compact e a) (compact f b) = one_rnc_text bytes g h a b
one_schema {word = w} (compact e a) (declares {root = r} f b) = absurd (no_root w r e f)
one_schema {word = w} (declares {root = r} e a) (compact f b) = absurd (no_root w r f e)
one_schema {word = w} {bytes = bytes} {h = h} (declares {root = r} e a) (declares {root = q} f b) = one_declared a (subst (λ x. DeclaresGrammar x bytes h) (one_root w q r f e) b)

pub no_schema : {word bytes : List ℕ} {g : Grammar} (reason : Reason) (place : ℕ) → IsRefusedText word bytes reason place → SchemaText word bytes g → ⊥
no_schema {bytes = bytes} {g = g} reason place (refuses_compact e x) (compact f a) = rnc.no_schema bytes reason place g x a
no_schema {word = w} reason place (refuses_compact e x) (declares {root = r} f a) = absurd (no_root w r e f)
no_schema {word = w} reason place (refuses_declarations {root = r} e x) (compact f a) = absurd (no_root w r f e)
no_schema reason place (refuses_declarations e x) (declares f a) = no_declared reason place x a

pub text_refusals : {word bytes : List ℕ} {r q : Reason} {k m : ℕ} (name : List ℕ) → IsRefusedText word bytes r k → IsRefusedText word bytes q m → AreAlike (refused name r k) (refused name q m)
text_refusals {bytes = bytes} name (refuses_compact e x) (refuses_compact f y) = schema_refusals bytes name x y
text_refusals {word = w} name (refuses_compact e x) (refuses_declarations {root = r} f y) = absurd (no_root w r e f)
text_refusals {word = w} name (refuses_declarations {root = r} e x) (refuses_compact f y) = absurd (no_root w r f e)
text_refusals {bytes = bytes} name (refuses_declarations e x) (refuses_declarations f y) = dtd_refusals bytes name x y

-- the text of an operand is that behind its word

pub spelled_as_text : (word bytes : List ℕ) (text : Text) → IsTextOf word bytes text → (g : Grammar) → Spells text g → SchemaText word bytes g
spelled_as_text word bytes (Compact text) is g h = compact is.0 (subst (λ w. RncText w g) is.1 h)
spelled_as_text word bytes (Declarations root text) is g h = declares is.0 (subst (λ w. DeclaresGrammar root.now w g) is.1 h)

-- and so is why there is none

pub refused_as_text : (word bytes : List ℕ) (text : Text) → IsTextOf word bytes text → (reason : Reason) (place : ℕ) → IsRefused text reason place → IsRefusedText word bytes reason place
refused_as_text word bytes (Compact text) is reason place h = refuses_compact is.0 (subst (λ w. IsRefusedSchema w reason place) is.1 h)
refused_as_text word bytes (Declarations root text) is reason place h = refuses_declarations is.0 (subst (λ w. IsRefusedDtd w reason place) is.1 h)

-- it is as long
pub short_text : (word bytes : List ℕ) (text : Text) → IsTextOf word bytes text → length bytes ≤ longest_text → IsShort text
short_text word bytes (Compact text) is short = subst (λ w. length w ≤ longest_text) (sym is.1) short
short_text word bytes (Declarations root text) is short = subst (λ w. length w ≤ longest_text) (sym is.1) short
