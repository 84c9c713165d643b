-- Where a mark, a comment, a processing instruction, a CDATA section or character data can't go on, or the text ends in one, nothing comes.
use Rattle.std.proofs.Common.{◌≡◌, ◌≢◌, inl, inr, ◌⊎◌, ℕ, suc, ◌<◌, ◌+◌, Bool, true, false, cond, not, ◌||◌, ◌==◌, List, [], ◌∷◌, ◌++◌, refl, ap, ◌∙◌, sym, subst, length, take, drop, arith, codes, IsTrue, IsFalse, append_assoc, length-append, length-drop}
use Rattle.std.specs.Prelude.{zero, encode_utf8, encode_utf8_all}
use Rattle.std.specs.List.{list_all}
use Rattle.std.specs.Str.{str_eq_ignore_ascii_case}
use Rattle.std.proofs.lemmas.Bool.{true≢false, and_parts, eqb-true}
use Rattle.std.proofs.lemmas.List.{append_cancel_left}
use Rattle.std.proofs.lemmas.Str.{encode_same}
use Rattle.tc_base.specs.Characters.{is_white}
use Rattle.tc_model.specs.Names.{ExpandedName, IsChars, IsNcName, is_ncname_start, is_ncname_char}
use Rattle.tc_model.specs.RawTrees.{Bound}
use Rattle.tc_model.specs.Trees.{Trees}
use Rattle.tc_model.specs.XmlTextBytes.{BeginsWithWhite, after_white, UpTo, length_before}
use Rattle.tc_model.specs.XmlTextNames.{NcNameAt}
use Rattle.tc_model.specs.XmlTextReferences.{is_plain, CdataAt}
use Rattle.tc_model.specs.XmlTextMisc.{CommentAt, InstructionAt, MiscAt, no_more, DoctypeFrontAt}
use Rattle.tc_model.specs.XmlTextMisc as m
use Rattle.tc_model.proofs.XmlTextPhrases.{same_first, same_others, ncname_unique}
use Rattle.tc_model.proofs.XmlTextUnique.{kind, markup, bang, cdata_kind}
use Rattle.tc_stream.specs.Cuts.{BeginsNoChar}
use Rattle.tc_stream.specs.Outcomes.{Outcome}
use Rattle.tc_stream.specs.Goes.{Level, Goes, GoesBehind, finished, end}
use Rattle.tc_stream.specs.From.{Standing, open_in, ended, StillComes}
use Rattle.tc_stream.specs.Scans.{before, going, broken, comment_scan, instruction_scan, cdata_scan}
use Rattle.tc_stream.specs.declared.phases.Phase.{Phase}
use Rattle.tc_stream.specs.declared.phases.Phase.TheVariants as phases
use Rattle.tc_stream.proofs.OneOutcome.{AtText, words, at_text}
use Rattle.tc_stream.proofs.ScanLaws.{up_to_found, comment_exact, instruction_exact, cdata_exact}
use Rattle.tc_stream.proofs.StepLaws.{no_comment}
use Rattle.tc_stream.proofs.TextLaws.{no_text}
use Rattle.tc_stream.proofs.SplitLaws.{white_none}
use Rattle.tc_stream.proofs.NothingSteps.{nothing_step, front_nothing}
use Rattle.tc_stream.proofs.HopelessSteps.{content_other, Hopeless, IsNoOther, StandsIn, in_front, in_prolog, in_root, in_content, past_root, hopeless_step, hopeless_last}

pub too_short : (bs mark r : List ℕ) → length bs < length mark → bs ≡ mark ++ r → ⊥
too_short bs mark r low e = omega (arith, low, ap length e, length-append mark r)

-- what `<!` begins

bang_kinds : (x : List ℕ) → 3 < bang x
unfolding bang
bang_kinds [] = omega arith
bang_kinds (b ∷ x) = by (b == 0x5B) (b == 0x2D)
  where
    by : (y z : Bool) → 3 < cond y 4 (cond z 5 6)
    by true z = omega arith
    by false true = omega arith
    by false false = omega arith

bang_kind : (x : List ℕ) → kind (0x3C ∷ 0x21 ∷ x) ≡ bang x
unfolding kind markup
bang_kind x = refl

pub hopeless_bang : (x : List ℕ) → ((r : List ℕ) → 0x3C ∷ 0x21 ∷ x ≡ codes "<!--" ++ r → ⊥) → Hopeless (0x3C ∷ 0x21 ∷ x)
hopeless_bang x n = record {
  bare = refl;
  some = λ e. omega (arith, ap length e);
  no_tag = λ e. omega (arith, bang_kinds x, sym (bang_kind x) ∙ e);
  no_comment = λ r a. n a.rest a.opens;
  no_instruction = λ r a. omega (arith, same_first (same_others a.opens));
}

-- no other mark that may stand in this part
abbrev pub IsNoMark : Phase → List ℕ → Type 0
IsNoMark phases.Mark bs = ⊥
IsNoMark phases.Front bs = (r : List ℕ) → bs ≡ codes "<!DOCTYPE" ++ r → ⊥
IsNoMark phases.Prolog bs = (r : List ℕ) → bs ≡ codes "<!DOCTYPE" ++ r → ⊥
IsNoMark phases.Root bs = Unit {0}
IsNoMark phases.Content bs = (r : List ℕ) → bs ≡ codes "<![CDATA[" ++ r → ⊥
IsNoMark phases.End bs = Unit {0}

bang_others : (phase : Phase) (x : List ℕ) → IsNoMark phase (0x3C ∷ 0x21 ∷ x) → IsNoOther phase (0x3C ∷ 0x21 ∷ x)
bang_others phases.Mark x n = n
bang_others phases.Front x n = (λ after a. n a.rest a.opens, λ r e w. omega (arith, same_first (same_others e)))
bang_others phases.Prolog x n = λ after a. n a.rest a.opens
bang_others phases.Root x n = tt
bang_others phases.Content x n = (
  λ e. omega (arith, bang_kinds x, sym (bang_kind x) ∙ e),
  λ e. omega (arith, bang_kinds x, sym (bang_kind x) ∙ e),
  λ s r a. n a.rest a.opens,
)
bang_others phases.End x n = tt

pub bang_step : (n : ℕ) (x r : List ℕ) (phase : Phase) (s : Standing) (o : Outcome) → StandsIn phase s → IsChars (0x3C ∷ 0x21 ∷ x)
    → ((f r : List ℕ) → 0x3C ∷ 0x21 ∷ (x ++ f) ≡ codes "<!--" ++ r → ⊥) → ((f : List ℕ) → IsNoMark phase (0x3C ∷ 0x21 ∷ (x ++ f)))
    → StillComes n phase s ((0x3C ∷ 0x21 ∷ x) ++ r) o → ⊥
bang_step n x r phase s o at chars none others =
    hopeless_step n (0x3C ∷ 0x21 ∷ x) r phase s o at chars (λ f. hopeless_bang (x ++ f) (none f)) (λ f. bang_others phase (x ++ f) (others f))

pub bang_last : (n : ℕ) (x r : List ℕ) (phase : Phase) (s : Standing) (o : Outcome) → StandsIn phase s → IsChars (0x3C ∷ 0x21 ∷ x) → BeginsNoChar r
    → ((r : List ℕ) → 0x3C ∷ 0x21 ∷ x ≡ codes "<!--" ++ r → ⊥) → IsNoMark phase (0x3C ∷ 0x21 ∷ x) → StillComes n phase s ((0x3C ∷ 0x21 ∷ x) ++ r) o → ⊥
bang_last n x r phase s o at chars last none others =
    hopeless_last n (0x3C ∷ 0x21 ∷ x) r phase s o at chars last (hopeless_bang x none) (bang_others phase x others)

-- comments

hopeless_comment : (x : List ℕ) → ((r : List ℕ) → CommentAt (codes "<!--" ++ x) r → ⊥) → Hopeless (codes "<!--" ++ x)
unfolding kind markup bang
hopeless_comment x n = record {
  bare = refl;
  some = λ e. omega (arith, ap length e);
  no_tag = λ e. omega (arith, e);
  no_comment = n;
  no_instruction = λ r a. omega (arith, same_first (same_others a.opens));
}

comment_others : (phase : Phase) (x : List ℕ) → phase ≢ phases.Mark → IsNoMark phase (codes "<!--" ++ x)
comment_others phases.Mark x n = absurd (n refl)
comment_others phases.Front x n = λ r e. omega (arith, same_first (same_others (same_others e)))
comment_others phases.Prolog x n = λ r e. omega (arith, same_first (same_others (same_others e)))
comment_others phases.Root x n = tt
comment_others phases.Content x n = λ r e. omega (arith, same_first (same_others (same_others e)))
comment_others phases.End x n = tt

not_mark : {phase : Phase} {s : Standing} → StandsIn phase s → phase ≢ phases.Mark
not_mark in_front e = cc
not_mark in_prolog e = cc
not_mark in_root e = cc
not_mark in_content e = cc
not_mark past_root e = cc

-- two hyphens and no `>`
pub comment_broken_in : (n : ℕ) (w r : List ℕ) (phase : Phase) (s : Standing) (o : Outcome) → StandsIn phase s → IsChars (codes "<!--" ++ w) → comment_scan 0 w ≡ broken
    → StillComes n phase s ((codes "<!--" ++ w) ++ r) o → ⊥
comment_broken_in n w r phase s o at chars e =
    hopeless_step n (codes "<!--" ++ w) r phase s o at chars
    (λ f. hopeless_comment (w ++ f) (λ after a. no_comment w f after e a))
    (λ f. bang_others phase (codes "--" ++ (w ++ f)) (comment_others phase (w ++ f) (not_mark at)))

pub comment_unended : (n : ℕ) (w r : List ℕ) (k : ℕ) (phase : Phase) (s : Standing) (o : Outcome) → StandsIn phase s → IsChars (codes "<!--" ++ w) → BeginsNoChar r → comment_scan 0 w ≡ going k
    → StillComes n phase s ((codes "<!--" ++ w) ++ r) o → ⊥
comment_unended n w r k phase s o at chars last e =
    hopeless_last n (codes "<!--" ++ w) r phase s o at chars last (hopeless_comment w none) (bang_others phase (codes "--" ++ w) (comment_others phase w (not_mark at)))
  where
    not_both : {after : List ℕ} → before after ≡ going k → ⊥
    not_both h = cc

    none : (after : List ℕ) → CommentAt (codes "<!--" ++ w) after → ⊥
    none after a =
        let same : a.rest ≡ w = append_cancel_left (codes "<!--") a.rest w (sym a.opens) in
        not_both (sym ((comment_exact w after).1 (up_to_found (subst (λ z. UpTo (codes "--") z a.inside (0x3E ∷ after)) same a.closes))) ∙ e)

-- CDATA sections

pub section_unended : (n : ℕ) (w r : List ℕ) (k : ℕ) (l : Level) (ls : List Level) (scope : List Bound) (run : List ℕ) (o : Outcome) → IsChars (codes "<![CDATA[" ++ w) → BeginsNoChar r → cdata_scan 0 w ≡ going k
    → StillComes n phases.Content (open_in (l ∷ ls) scope run) ((codes "<![CDATA[" ++ w) ++ r) o → ⊥
section_unended n w r k l ls scope run o chars last e =
    hopeless_last n (codes "<![CDATA[" ++ w) r phases.Content (open_in (l ∷ ls) scope run) o in_content chars last
    (hopeless_bang (codes "[CDATA[" ++ w) (λ r e. omega (arith, same_first (same_others (same_others e))))) (
      λ e. omega (arith, bang_kinds (codes "[CDATA[" ++ w), sym (bang_kind (codes "[CDATA[" ++ w)) ∙ e),
      λ e. omega (arith, bang_kinds (codes "[CDATA[" ++ w), sym (bang_kind (codes "[CDATA[" ++ w)) ∙ e),
      none,
    )
  where
    not_both : {after : List ℕ} → before after ≡ going k → ⊥
    not_both h = cc

    none : (s after : List ℕ) → CdataAt (codes "<![CDATA[" ++ w) s after → ⊥
    none s after a =
        let same : a.rest ≡ w = append_cancel_left (codes "<![CDATA[") a.rest w (sym a.opens) in
        not_both (sym ((cdata_exact w after).1 (up_to_found (subst (λ z. UpTo (codes "]]>") z s after) same a.closes))) ∙ e)

-- character data

plain_begins : (w f : List ℕ) → 0 < length w → list_all is_plain w ≡ true → kind (w ++ f) ≡ 0
unfolding kind markup
plain_begins [] f some h = absurd (omega (arith, some))
plain_begins (b ∷ w) f some h = by (b == 0x3C) (b == 0x26) (and_parts (is_plain b) (list_all is_plain w) h).0
  where
    by : (x y : Bool) → not (x || y) ≡ true → cond y 1 (cond x (markup (w ++ f)) 0) ≡ 0
    by true y k = absurd (true≢false (sym k))
    by false true k = absurd (true≢false (sym k))
    by false false k = refl

-- the end of a CDATA section in it
pub text_broken : (n : ℕ) (w found r : List ℕ) (l : Level) (ls : List Level) (scope : List Bound) (run : List ℕ) (o : Outcome) → IsChars w → 0 < length w → list_all is_plain w ≡ true
    → cdata_scan 0 w ≡ before found → StillComes n phases.Content (open_in (l ∷ ls) scope run) (w ++ r) o → ⊥
text_broken n w found r l ls scope run o chars some plain e =
    nothing_step n w r phases.Content (open_in (l ∷ ls) scope run) o chars (λ f k g. by f (at_text (plain_begins w f some plain) g))
  where
    by : {total : ℕ} (f : List ℕ) → AtText total l ls scope run (w ++ f) o → ⊥
    by f (words {s = s} {rest = rest} a g) = no_text w f s rest found plain e a

-- behind an open element the text doesn't end

nothing_left : {total : ℕ} {l : Level} {ls : List Level} {scope : List Bound} {run : List ℕ} {o : Outcome} → Goes total (l ∷ ls) scope run [] o → ⊥
unfolding kind
nothing_left g = content_other refl g

pub content_ended : (n : ℕ) (r : List ℕ) (l : Level) (ls : List Level) (scope : List Bound) (run : List ℕ) (o : Outcome) → BeginsNoChar r
    → StillComes n phases.Content (open_in (l ∷ ls) scope run) r o → ⊥
content_ended n r l ls scope run o last (front, k, go, whole) = nothing_left (subst (λ z. Goes (n + length z) (l ∷ ls) scope run z o) (front_nothing last k) go)

-- processing instructions

question_kind : (x : List ℕ) → kind (0x3C ∷ 0x3F ∷ x) ≡ 2
unfolding kind markup
question_kind x = refl

pub hopeless_question : (x : List ℕ) → ((r : List ℕ) → InstructionAt (0x3C ∷ 0x3F ∷ x) r → ⊥) → Hopeless (0x3C ∷ 0x3F ∷ x)
hopeless_question x n = record {
  bare = refl;
  some = λ e. omega (arith, ap length e);
  no_tag = λ e. omega (arith, sym (question_kind x) ∙ e);
  no_comment = λ r a. omega (arith, same_first (same_others a.opens));
  no_instruction = n;
}

-- no XML declaration, where one may stand
abbrev pub IsNoDeclaration : Phase → List ℕ → Type 0
IsNoDeclaration phases.Mark x = ⊥
IsNoDeclaration phases.Front x = (r : List ℕ) → x ≡ codes "xml" ++ r → BeginsWithWhite r → ⊥
IsNoDeclaration phases.Prolog x = Unit {0}
IsNoDeclaration phases.Root x = Unit {0}
IsNoDeclaration phases.Content x = Unit {0}
IsNoDeclaration phases.End x = Unit {0}

question_others : (phase : Phase) (x : List ℕ) → IsNoDeclaration phase x → IsNoOther phase (0x3C ∷ 0x3F ∷ x)
question_others phases.Mark x n = n
question_others phases.Front x n = (λ after a. omega (arith, same_first (same_others a.opens)), λ r e w. n r (append_cancel_left (codes "<?") x (codes "xml" ++ r) e) w)
question_others phases.Prolog x n = λ after a. omega (arith, same_first (same_others a.opens))
question_others phases.Root x n = tt
question_others phases.Content x n = (
  λ e. omega (arith, sym (question_kind x) ∙ e),
  λ e. omega (arith, sym (question_kind x) ∙ e),
  λ s r a. omega (arith, sym (question_kind x) ∙ cdata_kind a),
)
question_others phases.End x n = tt

pub question_step : (n : ℕ) (x r : List ℕ) (phase : Phase) (s : Standing) (o : Outcome) → StandsIn phase s → IsChars (0x3C ∷ 0x3F ∷ x)
    → ((f r : List ℕ) → InstructionAt (codes "<?" ++ (x ++ f)) r → ⊥) → ((f : List ℕ) → IsNoDeclaration phase (x ++ f)) → StillComes n phase s ((0x3C ∷ 0x3F ∷ x) ++ r) o → ⊥
question_step n x r phase s o at chars none others =
    hopeless_step n (0x3C ∷ 0x3F ∷ x) r phase s o at chars (λ f. hopeless_question (x ++ f) (none f)) (λ f. question_others phase (x ++ f) (others f))

pub question_last : (n : ℕ) (x r : List ℕ) (phase : Phase) (s : Standing) (o : Outcome) → StandsIn phase s → IsChars (0x3C ∷ 0x3F ∷ x) → BeginsNoChar r
    → ((r : List ℕ) → InstructionAt (codes "<?" ++ x) r → ⊥) → IsNoDeclaration phase x → StillComes n phase s ((0x3C ∷ 0x3F ∷ x) ++ r) o → ⊥
question_last n x r phase s o at chars last none others =
    hopeless_last n (0x3C ∷ 0x3F ∷ x) r phase s o at chars last (hopeless_question x none) (question_others phase x others)

-- a name, and a character that isn't one of a name
pub name_then : (name : List ℕ) (c : ℕ) (f : List ℕ) → IsNcName name → is_ncname_char c ≡ false → NcNameAt (name ++ (encode_utf8 c ++ f)) name (encode_utf8 c ++ f)
name_then name c f lawful h = record {
  lawful = lawful;
  parts = refl;
  longest = λ d r e k. true≢false (sym k ∙ (ap is_ncname_char (sym (encode_same c d f r e).0) ∙ h));
}

-- what an instruction is behind its target
pub record BehindTarget (name behind after : List ℕ) : Type 0 where
  pub inside : List ℕ
  pub not_xml : IsFalse (str_eq_ignore_ascii_case name (codes "xml"))
  pub apart : (inside ≡ []) ⊎ BeginsWithWhite behind
  pub closes : UpTo (codes "?>") behind inside after

pub behind_target : {x name behind after : List ℕ} → NcNameAt x name behind → InstructionAt (codes "<?" ++ x) after → BehindTarget name behind after
behind_target {x} {name} {behind} {after} k a =
    let same : a.rest ≡ x = append_cancel_left (codes "<?") a.rest x (sym a.opens) in
    let both = ncname_unique (subst (λ z. NcNameAt z a.target a.behind) same a.names) k in
    record {
      inside = a.inside;
      not_xml = subst (λ z. IsFalse (str_eq_ignore_ascii_case z (codes "xml"))) both.0 a.not_xml;
      apart = moved both.1 a.apart;
      closes = subst (λ z. UpTo (codes "?>") z a.inside after) both.1 a.closes;
    }
  where
    moved : {bs cs inside : List ℕ} → bs ≡ cs → (inside ≡ []) ⊎ BeginsWithWhite bs → (inside ≡ []) ⊎ BeginsWithWhite cs
    moved e (inl i) = inl i
    moved e (inr w) = inr (subst BeginsWithWhite e w)

-- no name begins it
pub no_target : (c : ℕ) (f r : List ℕ) → is_ncname_start c ≡ false → InstructionAt (codes "<?" ++ (encode_utf8 c ++ f)) r → ⊥
no_target c f r h a =
    let same : a.rest ≡ encode_utf8 c ++ f = append_cancel_left (codes "<?") a.rest (encode_utf8 c ++ f) (sym a.opens) in
    let (d, ds, is, starts, goes) = a.names.lawful in
    let e : encode_utf8 c ++ f ≡ encode_utf8 d ++ (encode_utf8_all ds ++ a.behind) = sym same ∙ (a.names.parts ∙ (ap (λ w. w ++ a.behind) (sym is) ∙ append_assoc (encode_utf8 d) (encode_utf8_all ds) a.behind)) in
    true≢false (sym starts ∙ (ap is_ncname_start (sym (encode_same c d f (encode_utf8_all ds ++ a.behind) e).0) ∙ h))

-- the target is one that is reserved
pub reserved_target : {x name behind : List ℕ} (r : List ℕ) → NcNameAt x name behind → IsTrue (str_eq_ignore_ascii_case name (codes "xml")) → InstructionAt (codes "<?" ++ x) r → ⊥
reserved_target r k h a = true≢false (sym h ∙ (behind_target k a).not_xml)

-- neither white space nor the end follows the target

at_zero : (bs r : List ℕ) (n : ℕ) → [] ≡ take n bs → drop n bs ≡ codes "?>" ++ r → bs ≡ codes "?>" ++ r
at_zero [] r n e h = absurd (omega (arith, ap length h, length-append (codes "?>") r, length-drop {A = ℕ} n []))
at_zero (b ∷ bs) r zero e h = h
at_zero (b ∷ bs) r (suc n) e h = absurd (omega (arith, ap length e))

end_begins : {inside behind r : List ℕ} → inside ≡ [] → UpTo (codes "?>") behind inside r → behind ≡ codes "?>" ++ r
end_begins {behind = behind} {r = r} e u = at_zero behind r (length_before (codes "?>") behind) (sym e ∙ u.front) u.back

pub target_not_apart : {x name behind : List ℕ} (r : List ℕ) → NcNameAt x name behind → (BeginsWithWhite behind → ⊥) → ((t : List ℕ) → behind ≡ codes "?>" ++ t → ⊥) → InstructionAt (codes "<?" ++ x) r → ⊥
target_not_apart {x} {name} {behind} r k no_white no_end a = by (behind_target k a)
  where
    which : {inside : List ℕ} → (inside ≡ []) ⊎ BeginsWithWhite behind → UpTo (codes "?>") behind inside r → ⊥
    which (inr w) u = no_white w
    which (inl e) u = no_end r (end_begins e u)

    by : BehindTarget name behind r → ⊥
    by b = which b.apart b.closes

-- the text ends in an instruction
pub instruction_unended : (name w r : List ℕ) (q : ℕ) → NcNameAt (name ++ w) name w → instruction_scan 0 w ≡ going q → InstructionAt (codes "<?" ++ (name ++ w)) r → ⊥
instruction_unended name w r q k e a =
    let b = behind_target k a in not_both (sym ((instruction_exact w r).1 (up_to_found b.closes)) ∙ e)
  where
    not_both : {after : List ℕ} → before after ≡ going q → ⊥
    not_both h = cc

-- what is no item around the root element

stray_kind : (b : ℕ) (x : List ℕ) → (b ≡ 0x3C → ⊥) → kind (b ∷ x) ≡ 3 → ⊥
unfolding kind
stray_kind b x n e = by (b == 0x26) (b == 0x3C) refl e
  where
    by : (y z : Bool) → (b == 0x3C) ≡ z → cond y 1 (cond z (markup x) 0) ≡ 3 → ⊥
    by true z i h = omega (arith, h)
    by false true i h = n (eqb-true b 0x3C i)
    by false false i h = omega (arith, h)

pub hopeless_stray : (b : ℕ) (x : List ℕ) → is_white b ≡ false → (b ≡ 0x3C → ⊥) → Hopeless (b ∷ x)
hopeless_stray b x h n = record {
  bare = white_none b x h;
  some = λ e. omega (arith, ap length e);
  no_tag = stray_kind b x n;
  no_comment = λ r a. n (same_first a.opens);
  no_instruction = λ r a. n (same_first a.opens);
}

stray_others : (phase : Phase) (b : ℕ) (x : List ℕ) → phase ≢ phases.Mark → phase ≢ phases.Content → (b ≡ 0x3C → ⊥) → IsNoOther phase (b ∷ x)
stray_others phases.Mark b x p q n = absurd (p refl)
stray_others phases.Front b x p q n = (λ after a. n (same_first a.opens), λ r e w. n (same_first e))
stray_others phases.Prolog b x p q n = λ after a. n (same_first a.opens)
stray_others phases.Root b x p q n = tt
stray_others phases.Content b x p q n = absurd (q refl)
stray_others phases.End b x p q n = tt

pub stray_step : (n : ℕ) (b : ℕ) (x r : List ℕ) (phase : Phase) (s : Standing) (o : Outcome) → StandsIn phase s → phase ≢ phases.Content → IsChars (b ∷ x) → is_white b ≡ false → (b ≡ 0x3C → ⊥)
    → StillComes n phase s ((b ∷ x) ++ r) o → ⊥
stray_step n b x r phase s o at p chars h k =
    hopeless_step n (b ∷ x) r phase s o at chars (λ f. hopeless_stray b (x ++ f) h k) (λ f. stray_others phase b (x ++ f) (not_mark at) p k)

-- behind the root element no tag stands

no_more_misc : {b : ℕ} {x bs past : List ℕ} → (b ≡ 0x21 → ⊥) → (b ≡ 0x3F → ⊥) → MiscAt bs past → bs ≡ 0x3C ∷ b ∷ x → past ≡ [] → ⊥
no_more_misc h k (no_more e) is none = omega (arith, ap length (sym (ap after_white is) ∙ none))
no_more_misc {b} {x} h k (m.comment {rest = r} a i) is none = h (same_first (same_others (sym (ap after_white is) ∙ a.opens)))
no_more_misc {b} {x} h k (m.instruction {rest = r} a i) is none = k (same_first (same_others (sym (ap after_white is) ∙ a.opens)))

no_tag_behind : {total b : ℕ} {x bs : List ℕ} {name : ExpandedName} {kids : Trees} {scope : List Bound} {o : Outcome} → (b ≡ 0x21 → ⊥) → (b ≡ 0x3F → ⊥) → GoesBehind total (finished name kids) scope bs o → bs ≡ 0x3C ∷ b ∷ x → ⊥
no_tag_behind h k (end i) is = no_more_misc h k i is refl

pub tag_behind : (n : ℕ) (b : ℕ) (x r : List ℕ) (name : ExpandedName) (kids : Trees) (o : Outcome) → IsChars (0x3C ∷ b ∷ x) → (b ≡ 0x21 → ⊥) → (b ≡ 0x3F → ⊥)
    → StillComes n phases.End (ended name kids) ((0x3C ∷ b ∷ x) ++ r) o → ⊥
tag_behind n b x r name kids o chars h k = nothing_step n (0x3C ∷ b ∷ x) r phases.End (ended name kids) o chars (λ f c g. no_tag_behind {x = x ++ f} h k g refl)

-- the text ends in a `<`

markup_alone : Hopeless (0x3C ∷ [])
unfolding kind markup
markup_alone = record {
  bare = refl;
  some = λ e. omega (arith, ap length e);
  no_tag = λ e. omega (arith, e);
  no_comment = λ r a. omega (arith, ap length a.opens);
  no_instruction = λ r a. omega (arith, ap length a.opens);
}

markup_others : (phase : Phase) → phase ≢ phases.Mark → IsNoOther phase (0x3C ∷ [])
unfolding kind markup
markup_others phases.Mark p = absurd (p refl)
markup_others phases.Front p = (λ after a. omega (arith, ap length a.opens), λ r e w. omega (arith, ap length e))
markup_others phases.Prolog p = λ after a. omega (arith, ap length a.opens)
markup_others phases.Root p = tt
markup_others phases.Content p = (λ e. omega (arith, e), λ e. omega (arith, e), λ s r a. omega (arith, ap length a.opens))
markup_others phases.End p = tt

pub markup_last : (n : ℕ) (r : List ℕ) (phase : Phase) (s : Standing) (o : Outcome) → StandsIn phase s → BeginsNoChar r → IsChars (0x3C ∷ []) → StillComes n phase s ((0x3C ∷ []) ++ r) o → ⊥
markup_last n r phase s o at last chars = hopeless_last n (0x3C ∷ []) r phase s o at chars last markup_alone (markup_others phase (not_mark at))
