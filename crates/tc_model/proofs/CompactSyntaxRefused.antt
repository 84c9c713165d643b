-- A text has one refusal as a schema, which has no syntax then.
use Rattle.std.proofs.Common.{not, ◌≡◌, ◌⊎◌, inl, inr, ℕ, ◌≤◌, Bool, false, List, [], ◌∷◌, refl, ap, ◌∙◌, sym, subst, length, arith, length-append, length-take, length-drop}
use Rattle.std.specs.List.{prefix_len, AllByRecursion}
use Rattle.std.proofs.lemmas.Bool.{false≢true}
use Rattle.tc_model.specs.XmlText.{after_mark}
use Rattle.tc_model.specs.XmlTextBytes.{place_of}
use Rattle.tc_model.specs.XmlTextScopes.{first_scope}
use Rattle.tc_model.specs.CompactSyntaxTrees.{Syntax}
use Rattle.tc_model.specs.CompactSyntaxTokens.{Word, Token, is_line_end, after_line, WordAt, TokensAt}
use Rattle.tc_model.specs.CompactSyntaxTokens as m
use Rattle.tc_model.specs.CompactSyntax.{SchemaAt, Spells, deepest_nesting}
use Rattle.tc_model.specs.CompactSyntaxUnread.{Refusal, malformed, Unexpected}
use Rattle.tc_model.specs.CompactSyntaxStops.{SchemaStops}
use Rattle.tc_model.specs.CompactSyntaxRefused.{TokensUpTo, so_far, white, comment, token, BeginsNoSpace, TokensOf, line, end_before, IsRefused, in_tokens, past_tokens}
use Rattle.tc_model.specs.CompactSyntaxRefusedLaws.{Excludes, HasOneRefusal, HasNoSyntax, IsMalformedWithin}
use Rattle.tc_model.proofs.XmlTextRefused.{front_unique, whole_front}
use Rattle.tc_model.proofs.CompactSyntaxTokensUnique.{nothing_begins, byte_begins, no_word, word_begins, white_is, word_unique, kind, other_kind}
use Rattle.tc_model.proofs.CompactSyntaxOrdered.{word_shorter, mark_shorter}
use Rattle.tc_model.proofs.CompactSyntaxBehind.{Behind, none_yet, past}
use Rattle.tc_model.proofs.CompactSyntaxUnread.{unexpected_unique}
use Rattle.tc_model.proofs.CompactSyntaxStopsExclude.{excludes_same}
use Rattle.tc_model.proofs.CompactSyntaxStopsSchemas.{schema_excludes}
use Rattle.tc_model.proofs.CompactSyntaxStopsUnique.{schema_once}
use Rattle.tc_model.proofs.CompactSyntaxStopsWithin.{AtToken, IsThere, schema_there, unexpected_stands}

-- The tokens up to where none follows.

record Ends (rest : List ℕ) : Type 0 where
  no_space : BeginsNoSpace rest
  no_word : (word : Word) (after : List ℕ) → WordAt rest word after → ⊥

up_to_unique : {total : ℕ} {bs r s : List ℕ} {ts us : List Token} → TokensUpTo total bs ts r → TokensUpTo total bs us s → Ends r → Ends s → (ts ≡ us) × (r ≡ s)
unfolding kind other_kind
up_to_unique so_far so_far e f = (refl, refl)
up_to_unique so_far (white {b = b} {bs = bs} h l) e f = absurd (e.no_space.no_white b bs refl h)
up_to_unique so_far (comment {bs = bs} l) e f = absurd (e.no_space.no_comment bs refl)
up_to_unique so_far (token {after = a} {word = w} k l) e f = absurd (e.no_word w a k)
up_to_unique (white {b = b} {bs = bs} h l) so_far e f = absurd (f.no_space.no_white b bs refl h)
up_to_unique (comment {bs = bs} l) so_far e f = absurd (f.no_space.no_comment bs refl)
up_to_unique (token {after = a} {word = w} k l) so_far e f = absurd (f.no_word w a k)
up_to_unique (white h l) (white k n) e f = up_to_unique l n e f
up_to_unique (white h l) (comment n) e f = absurd (false≢true h)
up_to_unique (comment n) (white h l) e f = absurd (false≢true h)
up_to_unique (white {b = b} h l) (token a n) e f = let is = white_is b h in absurd (no_word (inl refl) (byte_begins b is.0 is.1) a)
up_to_unique (token a n) (white {b = b} h l) e f = let is = white_is b h in absurd (no_word (inl refl) (byte_begins b is.0 is.1) a)
up_to_unique (comment l) (comment n) e f = up_to_unique l n e f
up_to_unique (comment l) (token a n) e f = absurd (no_word (inr refl) (byte_begins 0x23 (omega arith) refl) a)
up_to_unique (token a n) (comment l) e f = absurd (no_word (inr refl) (byte_begins 0x23 (omega arith) refl) a)
up_to_unique {total} {bs} {s = s} (token {word = w} {tokens = ts} a l) (token {word = v} {tokens = vs} b n) e f =
    let both = word_unique a b in
    let rest = up_to_unique l (subst (λ z. TokensUpTo total z vs s) (sym both.1) n) e f in
    let one : Word → Token = λ z. record { word = z; place = place_of total bs } in
    (ap (λ z. one z ∷ ts) both.0 ∙ ap (λ z. one v ∷ z) rest.0, rest.1)

all_up_to : {total : ℕ} {bs : List ℕ} {ts : List Token} → TokensAt total bs ts → TokensUpTo total bs ts []
all_up_to m.at_end = so_far
all_up_to (m.white h l) = white h (all_up_to l)
all_up_to (m.comment l) = comment (all_up_to l)
all_up_to (m.token w l) = token w (all_up_to l)

no_empty_word : (word : Word) (after : List ℕ) → WordAt [] word after → ⊥
no_empty_word word after a = nothing_begins (word_begins a)

record Same (f g : List ℕ) (ts us : List Token) (r s : List ℕ) : Type 0 where
  fronts : f ≡ g
  tokens : ts ≡ us
  rests : r ≡ s

same_tokens : {bytes f g r s : List ℕ} {ts us : List Token} → TokensOf bytes f ts r → TokensOf bytes g us s → Same f g ts us r s
same_tokens {f = f} {s = s} {us = us} a b =
    let fronts = front_unique a.is_front b.is_front in
    let words : TokensUpTo (length f) (after_mark f) us s = subst (λ z. TokensUpTo (length z) (after_mark z) us s) (sym fronts) b.words in
    let both = up_to_unique a.words words (record { no_space = a.no_space; no_word = a.no_word }) (record { no_space = b.no_space; no_word = b.no_word }) in
    record { fronts = fronts; tokens = both.0; rests = both.1 }

-- what holds of the tokens of a text holds of its tokens, as they were found otherwise
moved : {bytes f g r s : List ℕ} {ts us : List Token} (P : List ℕ → List Token → List ℕ → Type 0) → TokensOf bytes f ts r → TokensOf bytes g us s → P g us s → P f ts r
moved {f = f} {g = g} {r = r} {s = s} {ts = ts} {us = us} P a b h =
    let same = same_tokens a b in
    subst (λ z. P z ts r) (sym same.fronts) (subst (λ z. P g z r) (sym same.tokens) (subst (P g us) (sym same.rests) h))

pub one_refusal : HasOneRefusal
one_refusal bytes r v a b = by a b
  where
    by : {r v : Refusal} → IsRefused bytes r → IsRefused bytes v → r ≡ v
    by {v = v} (in_tokens t y) (in_tokens t' z) = schema_once y (moved (λ f ts s. SchemaStops (end_before (length f) s) first_scope deepest_nesting ts v) t t' z)
    by {r = r} (in_tokens t y) (past_tokens {ds = ds} t' l h z) =
        absurd (schema_excludes y (moved (λ f ts s. SchemaAt false first_scope deepest_nesting ts ds) t t' l) (excludes_same r deepest_nesting))
    by {v = v} (past_tokens {ds = ds} t' l h z) (in_tokens t y) =
        absurd (schema_excludes y (moved (λ f ts s. SchemaAt false first_scope deepest_nesting ts ds) t t' l) (excludes_same v deepest_nesting))
    by {v = v} (past_tokens t l h y) (past_tokens t' l' h' z) = unexpected_unique y (moved (λ f ts s. Unexpected (end_before (length f) s) [] v) t t' z)

-- a text that is a schema has its tokens
spelled : {o : Bool} {d : ℕ} {bytes : List ℕ} {s : Syntax} (a : Spells o d bytes s) → TokensOf bytes bytes a.tokens []
spelled {bytes = bytes} a = record {
  is_front = whole_front a.characters;
  words = all_up_to a.words;
  no_space = record { no_white = λ b r e h. omega (arith, ap length e); no_comment = λ r e. omega (arith, ap length e) };
  no_word = no_empty_word;
}

pub no_syntax : HasNoSyntax
no_syntax bytes r o d s a x y = by a x
  where
    by : {r : Refusal} → IsRefused bytes r → Excludes r deepest_nesting o d → ⊥
    by (in_tokens t z) x = schema_excludes z (moved (λ f ts e. SchemaAt o first_scope d ts s.definitions) t (spelled y) y.schema) (record { it = x })
    by (past_tokens t l h z) x = let same = same_tokens t (spelled y) in h same.rests same.fronts

-- Places.

line_shorter : (rest : List ℕ) → length (line rest) ≤ length rest
line_shorter rest = omega (arith, length-take (prefix_len (λ b. not (is_line_end b)) rest) rest)

up_to_shorter : {total : ℕ} {bs r : List ℕ} {ts : List Token} → TokensUpTo total bs ts r → length r ≤ length bs
up_to_shorter so_far = omega arith
up_to_shorter (white h l) = omega (arith, up_to_shorter l)
up_to_shorter (comment {bs = bs} l) = omega (arith, up_to_shorter l, length-drop (prefix_len (λ b. not (is_line_end b)) bs) bs)
up_to_shorter (token w l) = omega (arith, up_to_shorter l, word_shorter w)

places_within : {total : ℕ} {bs r : List ℕ} {ts : List Token} → TokensUpTo total bs ts r → AllByRecursion (λ t. t.place ≤ total) ts
places_within so_far = tt
places_within (white h a) = places_within a
places_within (comment a) = places_within a
places_within (token w a) = (omega arith, places_within a)

behind_within : {total : ℕ} {t : Token} {ts us : List Token} → Behind ts (t ∷ us) → AllByRecursion (λ t. t.place ≤ total) ts → t.place ≤ total
behind_within none_yet h = h.0
behind_within (past b) h = behind_within b h.1

end_within : {total : ℕ} (rest : List ℕ) → length rest ≤ total → (end_before total rest).place ≤ total
end_within rest h = omega (arith, h, line_shorter rest)

within : {bytes f r : List ℕ} {ts : List Token} (p : ℕ) → TokensOf bytes f ts r → (p ≡ (end_before (length f) r).place) ⊎ AtToken ts p → p ≤ length bytes
within {f = f} {r = r} p t (inl e) =
    omega (arith, e, end_within {total = length f} r (omega (arith, up_to_shorter t.words, mark_shorter f)), ap length t.is_front.parts, length-append f t.is_front.after)
within {f = f} p t (inr a) = omega (arith, a.there, behind_within a.behind (places_within t.words), ap length t.is_front.parts, length-append f t.is_front.after)

no_tokens : {p : ℕ} → AtToken [] p → ⊥
no_tokens a = by a.behind
  where
    by : {t : Token} {us : List Token} → Behind [] (t ∷ us) → ⊥
    by b = elim b [ ]

pub malformed_within : IsMalformedWithin
malformed_within bytes p a = by (malformed p) refl a
  where
    by : (r : Refusal) → r ≡ malformed p → IsRefused bytes r → p ≤ length bytes
    by r e (in_tokens {front = f} {rest = s} {tokens = ts} t y) =
        let h : IsThere (end_before (length f) s) ts (malformed p) = subst (IsThere (end_before (length f) s) ts) e (schema_there y).it in within p t h
    by r e (past_tokens {front = f} {rest = s} {tokens = ts} t l n y) =
        let h : IsThere (end_before (length f) s) [] (malformed p) = subst (IsThere (end_before (length f) s) []) e (unexpected_stands y).it in over t h
      where
        over : TokensOf bytes f ts s → (p ≡ (end_before (length f) s).place) ⊎ AtToken [] p → p ≤ length bytes
        over t (inl k) = within p t (inl k)
        over t (inr k) = absurd (no_tokens k)
