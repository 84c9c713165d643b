-- What the fault of a text says of it.
use Rattle.std.proofs.Common.{◌≡◌, ◌⊎◌, inl, inr, ℕ, ◌<◌, List, ◌∷◌, refl, ap, ◌∙◌, sym, subst, max, Option, None, Some, Result, Ok, Err, IfErr, IfOk}
use Rattle.std.specs.Result.{IsErrAnd}
use Rattle.tc_base.specs.declared.reasons.Why.{Why}
use Rattle.tc_base.specs.declared.reasons.Why.TheVariants.{Arithmetic, VariableReference, StringLiteral}
use Rattle.tc_model.specs.PathTextTokens.{Token, Tokens, most_open, open_behind, IsTooDeep}
use Rattle.tc_model.specs.PathText.{Forms}
use Rattle.tc_model.proofs.PathTextLexing.{tokens_unique}
use Rattle.tc_path.specs.declared.PathFault.{PathFault}
use Rattle.tc_path.specs.declared.PathFault.TheVariants.{Malformed, Unsupported, TooDeep, NoMemory}
use Rattle.tc_path.specs.declared.reasons.Context.{Context}
use Rattle.tc_path.specs.declared.reasons.Before.{Before}
use Rattle.tc_path.specs.declared.reasons.Before.TheVariants.{Nothing}
use Rattle.tc_path.specs.Reasons.{first_from, first_reason, reason_at, within, behind, brackets_behind, or_else, Renamed, no_more, as_it_is, a_number, a_literal, a_variable}
use Rattle.tc_path.specs.Faults.{OrNoMemory, IsCause, IsUnread, fault_of, refused_as, FormsOnceRenamed, IsUnsupported}

some_none : {X : Type 0} {c : X} {o : Option X} → o ≡ Some c → o ≡ None → ⊥
some_none p q = cc

-- renaming changes no nesting
renamed_open : {ts us : List Token} (n : ℕ) → Renamed ts us → most_open n ts ≡ most_open n us
renamed_open n no_more = refl
renamed_open n (as_it_is {t = t} r) = ap (max n) (renamed_open (open_behind n t) r)
renamed_open n (a_number r) = ap (max n) (renamed_open n r)
renamed_open n (a_literal r) = ap (max n) (renamed_open n r)
renamed_open n (a_variable r) = ap (max n) (renamed_open n r)

renamed_deep : {ts us : List Token} → Renamed ts us → IsTooDeep ts → IsTooDeep us
renamed_deep r d = subst (λ n. 2000 < n) (renamed_open 0 r) d

-- what is renamed is refused for a reason of its own
one_of_two : (o p : Option Why) → (why : Why) × (p ≡ Some why) → (why : Why) × (or_else o p ≡ Some why)
one_of_two None p h = h
one_of_two (Some why) p h = (why, refl)

abbrev HasReason : List Token → Type 0
HasReason ts = (c : Context) (n : ℕ) (b : Before) → (why : Why) × (first_from c n b ts ≡ Some why)

renamed_reason : {ts us : List Token} → Renamed ts us → (us ≡ ts) ⊎ HasReason ts
renamed_reason no_more = inl refl
renamed_reason (as_it_is {t = t} {ts = ts} r) = by (renamed_reason r)
  where
    by : {us : List Token} → (us ≡ ts) ⊎ HasReason ts → (t ∷ us ≡ t ∷ ts) ⊎ HasReason (t ∷ ts)
    by (inl e) = inl (ap (λ w. t ∷ w) e)
    by (inr h) = inr (λ c n b. one_of_two (reason_at (within c n) b t ts) (first_from c (brackets_behind n t) (behind b t) ts) (h c (brackets_behind n t) (behind b t)))
renamed_reason (a_number r) = inr (λ c n b. (Arithmetic, refl))
renamed_reason (a_literal r) = inr (λ c n b. (StringLiteral, refl))
renamed_reason (a_variable r) = inr (λ c n b. (VariableReference, refl))

fault_none : {P : Type 0} (o : Option Why) → P → OrNoMemory (fault_of o) P
fault_none None a = a
fault_none (Some why) a = a

not_malformed : {why : Why} → Unsupported why ≡ Malformed → ⊥
not_malformed e = cc

not_too_deep : TooDeep ≡ Malformed → ⊥
not_too_deep e = cc

-- a text without tokens is unread
pub unread_tokens : (text : List ℕ) (e : PathFault) → OrNoMemory e ((e ≡ Malformed) × ((ts : List Token) → Tokens text ts → ⊥)) → IsUnread text e
unread_tokens text Malformed h = h.1
unread_tokens text (Unsupported why) h = not_malformed h.0
unread_tokens text TooDeep h = absurd (not_too_deep h.0)
unread_tokens text NoMemory h = tt

module _ (c : Context) (text : List ℕ) where
  pub unread_cause : (e : PathFault) → IsUnread text e → IsCause c text e
  unread_cause Malformed h = (λ d. h d.tokens d.are_tokens, λ why s. h s.tokens s.are_tokens)
  unread_cause (Unsupported why) h = absurd h
  unread_cause TooDeep h = h
  unread_cause NoMemory h = tt

  fault_cause : {ts : List Token} → Tokens text ts → (IsTooDeep ts → ⊥) → (o : Option Why) → first_reason c ts ≡ o → IsCause c text (fault_of o)
  fault_cause a h None e =
      (λ d. h (subst IsTooDeep (tokens_unique d.are_tokens a) d.too_deep), λ why s. some_none (ap (first_reason c) (tokens_unique a s.are_tokens) ∙ s.is_first) e)
  fault_cause {ts} a h (Some why) e = record { tokens = ts; are_tokens = a; not_too_deep = h; is_first = e }

  pub refused_cause : {ts : List Token} → Tokens text ts → (IsTooDeep ts → ⊥) → (fault e : PathFault) → e ≡ refused_as c ts fault → IsCause c text e
  refused_cause {ts} a h Malformed e f = subst (IsCause c text) (sym f) (fault_cause a h (first_reason c ts) refl)
  refused_cause {ts} a h (Unsupported why) e f = subst (IsCause c text) (sym f) (fault_cause a h (first_reason c ts) refl)
  refused_cause {ts} a h TooDeep e f = subst (IsCause c text) (sym f) (fault_cause a h (first_reason c ts) refl)
  refused_cause {ts} a h NoMemory e f = subst (IsCause c text) (sym f) tt

  module _ (V : Type 0) (IsPhrase : V → List Token → Type 0) where
    pub unread_no : (e : PathFault) → IsUnread text e → OrNoMemory e ((v : V) → Forms (IsPhrase v) text → ⊥)
    unread_no Malformed h = λ v f. h f.tokens f.are_tokens
    unread_no (Unsupported why) h = absurd h
    unread_no TooDeep h = λ v f. f.not_too_deep (subst IsTooDeep (tokens_unique h.are_tokens f.are_tokens) h.too_deep)
    unread_no NoMemory h = tt

    not_formed : {ts : List Token} → Tokens text ts → ((v : V) → IsPhrase v ts → ⊥) → (v : V) → Forms (IsPhrase v) text → ⊥
    not_formed a h v f = h v (subst (IsPhrase v) (tokens_unique f.are_tokens a) f.phrase)

    pub refused_no : {ts : List Token} → Tokens text ts → (fault e : PathFault) → e ≡ refused_as c ts fault → OrNoMemory fault ((v : V) → IsPhrase v ts → ⊥) → OrNoMemory e ((v : V) → Forms (IsPhrase v) text → ⊥)
    refused_no {ts} a Malformed e f h = subst (λ w. OrNoMemory w ((v : V) → Forms (IsPhrase v) text → ⊥)) (sym f) (fault_none (first_reason c ts) (not_formed a h))
    refused_no {ts} a (Unsupported why) e f h = subst (λ w. OrNoMemory w ((v : V) → Forms (IsPhrase v) text → ⊥)) (sym f) (fault_none (first_reason c ts) (not_formed a h))
    refused_no {ts} a TooDeep e f h = subst (λ w. OrNoMemory w ((v : V) → Forms (IsPhrase v) text → ⊥)) (sym f) (fault_none (first_reason c ts) (not_formed a h))
    refused_no {ts} a NoMemory e f h = subst (λ w. OrNoMemory w ((v : V) → Forms (IsPhrase v) text → ⊥)) (sym f) tt

    pub unread_renamed : (v : V) (e : PathFault) → IsUnread text e → FormsOnceRenamed (IsPhrase v) text → IsUnsupported e
    unread_renamed v Malformed h r = h r.tokens r.are_tokens
    unread_renamed v (Unsupported why) h r = tt
    unread_renamed v TooDeep h r = r.not_too_deep (renamed_deep r.is_renamed (subst IsTooDeep (tokens_unique h.are_tokens r.are_tokens) h.too_deep))
    unread_renamed v NoMemory h r = tt

    reason_given : (ts : List Token) (v : V) → Tokens text ts → ((v : V) → IsPhrase v ts → ⊥) → FormsOnceRenamed (IsPhrase v) text → IsUnsupported (fault_of (first_reason c ts))
    reason_given ts v a h r = by (renamed_reason r.is_renamed)
      where
        by : (r.renamed ≡ r.tokens) ⊎ HasReason r.tokens → IsUnsupported (fault_of (first_reason c ts))
        by (inl e) = absurd (h v (subst (IsPhrase v) (e ∙ tokens_unique r.are_tokens a) r.phrase))
        by (inr k) = let (why, e) = k c 0 Nothing in subst (λ o. IsUnsupported (fault_of o)) (sym (ap (first_reason c) (tokens_unique a r.are_tokens) ∙ e)) tt

    pub refused_renamed : {ts : List Token} (v : V) → Tokens text ts → (fault e : PathFault) → e ≡ refused_as c ts fault → OrNoMemory fault ((v : V) → IsPhrase v ts → ⊥) → FormsOnceRenamed (IsPhrase v) text → IsUnsupported e
    refused_renamed {ts} v a Malformed e f h r = subst IsUnsupported (sym f) (reason_given ts v a h r)
    refused_renamed {ts} v a (Unsupported why) e f h r = subst IsUnsupported (sym f) (reason_given ts v a h r)
    refused_renamed {ts} v a TooDeep e f h r = subst IsUnsupported (sym f) (reason_given ts v a h r)
    refused_renamed {ts} v a NoMemory e f h r = subst IsUnsupported (sym f) tt

-- an error that is handed on
pub same_error : {T : Type 0} (P : PathFault → Type 0) (r : Result T PathFault) (x : PathFault) → IsErrAnd r (λ e. e ≡ x) → P x → IfErr r P
same_error P (Ok v) x h a = tt
same_error P (Err e) x h a = subst P (sym h) a

pub failed_ok : {T : Type 0} (r : Result T PathFault) (P : T → Type 0) (x : PathFault) → IsErrAnd r (λ e. e ≡ x) → IfOk r P
failed_ok (Ok v) P x h = absurd h
failed_ok (Err e) P x h = tt

pub no_memory : (e : PathFault) (P : Type 0) → e ≡ NoMemory → OrNoMemory e P
no_memory e P h = subst (λ w. OrNoMemory w P) (sym h) tt
