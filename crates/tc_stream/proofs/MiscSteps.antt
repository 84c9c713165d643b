-- What stands around the root element goes on behind white space, comments and processing instructions.
use Rattle.std.proofs.Common.{◌≡◌, ℕ, suc, ◌+◌, true, cond, List, [], ◌∷◌, ◌++◌, refl, ap, ◌∙◌, sym, subst, drop, arith, codes}
use Rattle.std.specs.Prelude.{◌↔◌}
use Rattle.std.specs.List.{prefix_len, list_all}
use Rattle.std.proofs.lemmas.Bool.{and_parts}
use Rattle.tc_base.specs.Characters.{is_white}
use Rattle.tc_model.specs.XmlTextBytes.{after_white, BeginsWithWhite}
use Rattle.tc_model.specs.XmlTextMisc.{CommentAt, InstructionAt, MiscAt, no_more, comment, instruction, DeclarationAt, no_declaration, DoctypeAt, DoctypeFrontAt}
use Rattle.tc_model.specs.XmlTextMisc as m
use Rattle.tc_model.specs.XmlTextRefusals.{version, encoding}
use Rattle.tc_model.proofs.XmlTextPhrases.{comment_unique, instruction_unique, comment_no_instruction}
use Rattle.tc_model.specs.Names.{ExpandedName}
use Rattle.tc_model.specs.RawTrees.{Bound}
use Rattle.tc_model.specs.Trees.{Trees}
use Rattle.tc_stream.specs.Outcomes.{Outcome}
use Rattle.tc_stream.specs.Goes.{finished, GoesBehind, end}
use Rattle.tc_stream.specs.From.{FromProlog, subset, root, FromFront, declaration, prolog}

-- bytes behind which nothing is lost of misc: white space, a comment or a processing instruction
pub data IsMisc (item f : List ℕ) : Type 0 where
  is_space : list_all is_white item ≡ true → IsMisc item f
  is_comment : CommentAt (item ++ f) f → IsMisc item f
  is_instruction : InstructionAt (item ++ f) f → IsMisc item f

-- white space

drop_more_by_one : (n b : ℕ) (bs : List ℕ) → drop (1 + n) (b ∷ bs) ≡ drop n bs
drop_more_by_one n b bs = let one : 1 + n ≡ suc n = omega arith in ap (λ k. drop k (b ∷ bs)) one

pub white_skipped : (w f : List ℕ) → list_all is_white w ≡ true → after_white (w ++ f) ≡ after_white f
white_skipped [] f h = refl
white_skipped (b ∷ w) f h =
    let both = and_parts (is_white b) (list_all is_white w) h in
    ap (λ x. drop (cond x (1 + prefix_len is_white (w ++ f)) 0) (b ∷ (w ++ f))) both.0 ∙ (drop_more_by_one (prefix_len is_white (w ++ f)) b (w ++ f) ∙ white_skipped w f both.1)

misc_same : {bs cs r : List ℕ} → after_white bs ≡ after_white cs → MiscAt bs r → MiscAt cs r
misc_same {bs} {cs} e (no_more h) = subst (λ z. MiscAt cs z) (sym e) (no_more (subst (λ z. m.IsNoMisc z) e h))
misc_same e (comment {rest = rest} a k) = comment (subst (λ z. CommentAt z rest) e a) k
misc_same e (instruction {rest = rest} a k) = instruction (subst (λ z. InstructionAt z rest) e a) k

-- no white space stands before a mark
at_mark : {bs r : List ℕ} → bs ≡ 0x3C ∷ r → after_white bs ≡ bs
at_mark e = ap after_white e ∙ sym e

comment_mark : {bs f : List ℕ} → CommentAt bs f → after_white bs ≡ bs
comment_mark a = at_mark a.opens

instruction_mark : {bs f : List ℕ} → InstructionAt bs f → after_white bs ≡ bs
instruction_mark a = at_mark a.opens

behind_comment : {bs f r : List ℕ} → CommentAt bs f → MiscAt bs r → MiscAt f r
behind_comment a (no_more h) = absurd (h.0 a.rest (comment_mark a ∙ a.opens))
behind_comment {r = r} a (comment {rest = rest} b k) = subst (λ z. MiscAt z r) (comment_unique (subst (λ z. CommentAt z rest) (comment_mark a) b) a) k
behind_comment a (instruction {rest = rest} b k) = absurd (comment_no_instruction a (subst (λ z. InstructionAt z rest) (comment_mark a) b))

behind_instruction : {bs f r : List ℕ} → InstructionAt bs f → MiscAt bs r → MiscAt f r
behind_instruction a (no_more h) = absurd (h.1 a.rest (instruction_mark a ∙ a.opens))
behind_instruction a (comment {rest = rest} b k) = absurd (comment_no_instruction (subst (λ z. CommentAt z rest) (instruction_mark a) b) a)
behind_instruction {r = r} a (instruction {rest = rest} b k) = subst (λ z. MiscAt z r) (instruction_unique (subst (λ z. InstructionAt z rest) (instruction_mark a) b) a) k

pub misc_past : (item f r : List ℕ) → IsMisc item f → MiscAt (item ++ f) r → MiscAt f r
misc_past item f r (is_space h) k = misc_same (white_skipped item f h) k
misc_past item f r (is_comment a) k = behind_comment a k
misc_past item f r (is_instruction a) k = behind_instruction a k

pub misc_back : (item f r : List ℕ) → IsMisc item f → MiscAt f r → MiscAt (item ++ f) r
misc_back item f r (is_space h) k = misc_same (sym (white_skipped item f h)) k
misc_back item f r (is_comment a) k = comment (subst (λ z. CommentAt z f) (sym (comment_mark a)) a) k
misc_back item f r (is_instruction a) k = instruction (subst (λ z. InstructionAt z f) (sym (instruction_mark a)) a) k

-- before the root element and behind it

prolog_past : {total : ℕ} {bs f : List ℕ} {o : Outcome} → ((r : List ℕ) → MiscAt bs r → MiscAt f r) → FromProlog total bs o → FromProlog total f o
prolog_past step (subset {past_misc = p} k a) = subset (step p k) a
prolog_past step (root {past_misc = p} k d g) = root (step p k) d g

pub over_prolog : (item : List ℕ) (total : ℕ) (f : List ℕ) (o : Outcome) → IsMisc item f → FromProlog total (item ++ f) o ↔ FromProlog total f o
over_prolog item total f o i = (prolog_past (λ r k. misc_past item f r i k), prolog_past (λ r k. misc_back item f r i k))

end_past : {total : ℕ} {n : ExpandedName} {kids : Trees} {scope : List Bound} {bs f : List ℕ} {o : Outcome} → (MiscAt bs [] → MiscAt f []) → GoesBehind total (finished n kids) scope bs o
    → GoesBehind total (finished n kids) scope f o
end_past step (end k) = end (step k)

pub over_end : (item : List ℕ) (total : ℕ) (n : ExpandedName) (kids : Trees) (scope : List Bound) (f : List ℕ) (o : Outcome) → IsMisc item f
    → GoesBehind total (finished n kids) scope (item ++ f) o ↔ GoesBehind total (finished n kids) scope f o
over_end item total n kids scope f o i = (end_past (λ k. misc_past item f [] i k), end_past (λ k. misc_back item f [] i k))

-- where an XML declaration may stand, and none begins

front_past : {total : ℕ} {bs : List ℕ} {o : Outcome} → ((r : List ℕ) → bs ≡ codes "<?xml" ++ r → BeginsWithWhite r → ⊥) → FromFront total bs o → FromProlog total bs o
front_past nowhere (declaration (version {rest = r} e v n)) = absurd (nowhere r e v.white)
front_past nowhere (declaration (encoding {rest = r} e v s n)) = absurd (nowhere r e v.white)
front_past nowhere (prolog (no_declaration h) p) = p
front_past nowhere (prolog (m.declaration {rest = r} e v k t q) p) = absurd (nowhere r e v.white)

pub no_declaration_here : (bs : List ℕ) → ((r : List ℕ) → bs ≡ codes "<?xml" ++ r → BeginsWithWhite r → ⊥) → (total : ℕ) (o : Outcome)
    → FromFront total bs o ↔ FromProlog total bs o
no_declaration_here bs nowhere total o = (front_past nowhere, λ p. prolog (no_declaration nowhere) p)
