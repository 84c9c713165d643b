-- Each phrase of an XML text has one reading: what it means and what follows it.
use Rattle.std.proofs.Common.{◌≡◌, ◌≢◌, ◌⊎◌, inl, inr, ℕ, ◌+◌, ◌<◌, Bool, true, false, cond, ◌||◌, not, ◌==◌, List, [], ◌∷◌, ◌++◌, refl, ap, ◌∙◌, sym, subst, arith, Option, None, Some, IsTrue, append_assoc}
use Rattle.std.specs.Prelude.{encode_utf8, encode_utf8_all, codes}
use Rattle.std.specs.List.{prefix_len, list_all}
use Rattle.std.specs.Str.Parse.{digits_value}
use Rattle.std.proofs.lemmas.Bool.{true≢false, false≢true, and_parts, and_from, eq-eqb}
use Rattle.std.proofs.lemmas.List.{append_cancel_left}
use Rattle.std.proofs.lemmas.Str.{encode_same, char_from_byte}
use Rattle.tc_base.specs.Characters.{is_name_start, is_name_char, is_between}
use Rattle.tc_model.specs.Names.{is_ncname_start, is_ncname_char}
use Rattle.tc_model.specs.XmlTextBytes.{RunAt, after_white, UpTo, LiteralAt, EqualsAt}
use Rattle.tc_model.specs.XmlTextNames.{NcNameAt, QualifiedName, QNameAt, unprefixed, prefixed}
use Rattle.tc_model.specs.XmlTextReferences.{predefined, is_digit, EntityAt, ReferenceAt, decimal, hexadecimal, entity, other, CharacterDataAt, CdataAt, is_plain_within, ValueAt, closed, plain, reference, QuotedAt}
use Rattle.tc_model.specs.XmlTextMisc.{CommentAt, InstructionAt, SettingAt, EncodingAt, no_encoding, encoding, StandaloneAt, no_standalone, standalone, DeclarationAt, no_declaration, declaration, MiscAt, no_more, comment, instruction, ExternalIdAt, no_id, system, public, DoctypeFrontAt, DoctypeAt, no_doctype, doctype}

-- the first byte and the others of equal bytes
pub first : List ℕ → ℕ
first [] = 0
first (b ∷ bs) = b

pub others : List ℕ → List ℕ
others [] = []
others (b ∷ bs) = bs

pub same_first : {b c : ℕ} {bs cs : List ℕ} → b ∷ bs ≡ c ∷ cs → b ≡ c
unfolding first
same_first e = ap first e

pub same_others : {b c : ℕ} {bs cs : List ℕ} → b ∷ bs ≡ c ∷ cs → bs ≡ cs
unfolding others
same_others e = ap others e

pub run_unique : {p : ℕ → Bool} {bs n r m s : List ℕ} → RunAt p bs n r → RunAt p bs m s → (n ≡ m) × (r ≡ s)
run_unique a b = (a.front ∙ sym b.front, a.back ∙ sym b.back)

pub up_to_unique : {mark bs n r m s : List ℕ} → UpTo mark bs n r → UpTo mark bs m s → (n ≡ m) × (r ≡ s)
up_to_unique {mark} {r = r} {s = s} a b = (a.front ∙ sym b.front, append_cancel_left mark r s (sym a.back ∙ b.back))

pub equals_unique : {bs r s : List ℕ} → EqualsAt bs r → EqualsAt bs s → r ≡ s
equals_unique a b = a.past ∙ (ap after_white (same_others (sym a.sign ∙ b.sign)) ∙ sym b.past)

pub literal_unique : {bs n r m s : List ℕ} → LiteralAt bs n r → LiteralAt bs m s → (n ≡ m) × (r ≡ s)
literal_unique {m = m} {s = s} a b =
    let e = sym b.opens ∙ a.opens in
    let other : UpTo (a.quote ∷ []) b.rest m s = subst (λ q. UpTo (q ∷ []) b.rest m s) (same_first e) b.closes in
    up_to_unique a.closes (subst (λ w. UpTo (a.quote ∷ []) w m s) (same_others e) other)

-- what begins a name may stand in it
pub start_is_char : (c : ℕ) → IsTrue (is_ncname_start c) → IsTrue (is_ncname_char c)
start_is_char c h = and_from (is_name_char c) (not (c == 0x3A)) (inside (is_name_start c) (and_parts (is_name_start c) (not (c == 0x3A)) h).0) (and_parts (is_name_start c) (not (c == 0x3A)) h).1
  where
    inside : (x : Bool) → x ≡ true → (x || c == 0x2D || c == 0x2E || is_between 0x30 0x39 c || c == 0xB7 || is_between 0x300 0x36F c || is_between 0x203F 0x2040 c) ≡ true
    inside true e = refl
    inside false e = absurd (false≢true e)

Stops : List ℕ → Type 0
Stops after = (c : ℕ) (r : List ℕ) → after ≡ encode_utf8 c ++ r → IsTrue (is_ncname_char c) → ⊥

names_unique : (cs ds r s : List ℕ) → encode_utf8_all cs ++ r ≡ encode_utf8_all ds ++ s → IsTrue (list_all is_ncname_char cs) → IsTrue (list_all is_ncname_char ds)
    → Stops r → Stops s → (encode_utf8_all cs ≡ encode_utf8_all ds) × (r ≡ s)
unfolding Stops
names_unique [] [] r s e h k stop stop' = (refl, e)
names_unique [] (d ∷ ds) r s e h k stop stop' =
    absurd (stop d (encode_utf8_all ds ++ s) (e ∙ append_assoc (encode_utf8 d) (encode_utf8_all ds) s) (and_parts (is_ncname_char d) (list_all is_ncname_char ds) k).0)
names_unique (c ∷ cs) [] r s e h k stop stop' =
    absurd (stop' c (encode_utf8_all cs ++ r) (sym e ∙ append_assoc (encode_utf8 c) (encode_utf8_all cs) r) (and_parts (is_ncname_char c) (list_all is_ncname_char cs) h).0)
names_unique (c ∷ cs) (d ∷ ds) r s e h k stop stop' =
    let both = encode_same c d (encode_utf8_all cs ++ r) (encode_utf8_all ds ++ s)
    (sym (append_assoc (encode_utf8 c) (encode_utf8_all cs) r) ∙ (e ∙ append_assoc (encode_utf8 d) (encode_utf8_all ds) s)) in
    let rest = names_unique cs ds r s both.1 (and_parts (is_ncname_char c) (list_all is_ncname_char cs) h).1 (and_parts (is_ncname_char d) (list_all is_ncname_char ds) k).1 stop stop' in
    (ap (λ x. encode_utf8 x ++ encode_utf8_all cs) both.0 ∙ ap (λ w. encode_utf8 d ++ w) rest.0, rest.1)

pub ncname_unique : {bs n r m s : List ℕ} → NcNameAt bs n r → NcNameAt bs m s → (n ≡ m) × (r ≡ s)
unfolding Stops
ncname_unique {bs} {n} {r} {m} {s} a b =
    let (c, cs, is_n, c_start, cs_chars) = a.lawful in
    let (d, ds, is_m, d_start, ds_chars) = b.lawful in
    let both = names_unique (c ∷ cs) (d ∷ ds) r s
    (ap (λ w. w ++ r) is_n ∙ (sym a.parts ∙ (b.parts ∙ ap (λ w. w ++ s) (sym is_m))))
    (and_from (is_ncname_char c) (list_all is_ncname_char cs) (start_is_char c c_start) cs_chars)
    (and_from (is_ncname_char d) (list_all is_ncname_char ds) (start_is_char d d_start) ds_chars)
    a.longest b.longest in
    (sym is_n ∙ (both.0 ∙ is_m), both.1)

-- a name begins with what begins names
pub no_name : {bs n r : List ℕ} (b : ℕ) → b < 128 → is_ncname_start b ≡ false → NcNameAt (b ∷ bs) n r → ⊥
no_name {bs} {n} {r} b small is a =
    let (c, cs, is_n, c_start, cs_chars) = a.lawful in
    let e : b ∷ bs ≡ encode_utf8 c ++ (encode_utf8_all cs ++ r) = a.parts ∙ (ap (λ w. w ++ r) (sym is_n) ∙ append_assoc (encode_utf8 c) (encode_utf8_all cs) r) in
    let same : c ≡ b = char_from_byte (b ∷ bs) (encode_utf8_all cs ++ r) c e small (omega arith) in
    true≢false (sym c_start ∙ (ap is_ncname_start same ∙ is))

pub no_qname : {bs r : List ℕ} {n : QualifiedName} (b : ℕ) → b < 128 → is_ncname_start b ≡ false → QNameAt (b ∷ bs) n r → ⊥
no_qname b small is (unprefixed a ends) = no_name b small is a
no_qname b small is (prefixed a rest) = no_name b small is a

pub qname_unique : {bs r s : List ℕ} {n m : QualifiedName} → QNameAt bs n r → QNameAt bs m s → (n ≡ m) × (r ≡ s)
qname_unique (unprefixed a ends) (unprefixed b ends') =
    let both = ncname_unique a b in
    let name : List ℕ → QualifiedName = λ w. record { prefix = []; local = w } in (ap name both.0, both.1)
qname_unique (unprefixed a ends) (prefixed {rest = rest} b b') = absurd (ends rest (ncname_unique a b).1)
qname_unique (prefixed {rest = rest} a a') (unprefixed b ends) = absurd (ends rest (ncname_unique b a).1)
qname_unique {s = s} (prefixed {prefix = p} {rest = rest} {local = k} a a') (prefixed {prefix = q} {local = l} b b') =
    let both = ncname_unique a b in
    let local = ncname_unique a' (subst (λ w. NcNameAt w l s) (sym (same_others both.1)) b') in
    let name : List ℕ → List ℕ → QualifiedName = λ v w. record { prefix = v; local = w } in
    (ap (λ v. name v k) both.0 ∙ ap (name q) local.0, local.1)

pub entity_unique : {bs n r m s : List ℕ} → EntityAt bs n r → EntityAt bs m s → (n ≡ m) × (r ≡ s)
entity_unique {m = m} {s = s} a b =
    let both = ncname_unique a.names (subst (λ w. NcNameAt w m (0x3B ∷ s)) (same_others (sym b.opens ∙ a.opens)) b.names) in
    (both.0, same_others both.1)

-- a character reference is no reference to an entity
pub entity_no_hash : {bs n r : List ℕ} → EntityAt (0x26 ∷ 0x23 ∷ bs) n r → ⊥
entity_no_hash {bs} {n} {r} a = no_name 0x23 (omega arith) refl (subst (λ w. NcNameAt w n (0x3B ∷ r)) (sym (same_others a.opens)) a.names)

pub no_x_digit : {bs n r : List ℕ} → RunAt (is_digit 10) (0x78 ∷ bs) n r → ⊥
no_x_digit a = omega (arith, a.some)

pub some_none : {c : ℕ} {o : Option ℕ} → o ≡ Some c → o ≡ None → ⊥
some_none p q = cc

pub same_some : {c d : ℕ} {o : Option ℕ} → o ≡ Some c → o ≡ Some d → c ≡ d
same_some p q = cc

pub reference_unique : {o : Bool} {bs n r m s : List ℕ} → ReferenceAt o bs n r → ReferenceAt o bs m s → (n ≡ m) × (r ≡ s)
reference_unique (decimal a h) (decimal b k) = let both = run_unique a b in (ap (λ d. encode_utf8 (digits_value 10 d)) both.0, same_others both.1)
reference_unique (decimal a h) (hexadecimal b k) = absurd (no_x_digit a)
reference_unique (decimal a h) (entity b k) = absurd (entity_no_hash b)
reference_unique (decimal a h) (other k b l) = absurd (entity_no_hash b)
reference_unique (hexadecimal a h) (decimal b k) = absurd (no_x_digit b)
reference_unique (hexadecimal a h) (hexadecimal b k) = let both = run_unique a b in (ap (λ d. encode_utf8 (digits_value 16 d)) both.0, same_others both.1)
reference_unique (hexadecimal a h) (entity b k) = absurd (entity_no_hash b)
reference_unique (hexadecimal a h) (other k b l) = absurd (entity_no_hash b)
reference_unique (entity a h) (decimal b k) = absurd (entity_no_hash a)
reference_unique (entity a h) (hexadecimal b k) = absurd (entity_no_hash a)
reference_unique (entity a h) (entity b k) =
    let both = entity_unique a b in (ap (λ c. c ∷ []) (same_some h (ap predefined both.0 ∙ k)), both.1)
reference_unique (entity a h) (other k b l) = absurd (some_none h (ap predefined (entity_unique a b).0 ∙ l))
reference_unique (other h a k) (decimal b l) = absurd (entity_no_hash a)
reference_unique (other h a k) (hexadecimal b l) = absurd (entity_no_hash a)
reference_unique (other h a k) (entity b l) = absurd (some_none l (ap predefined (entity_unique b a).0 ∙ k))
reference_unique (other h a k) (other l b m) = (refl, (entity_unique a b).1)

-- a reference begins with `&`
pub reference_first : {o : Bool} {bs n r : List ℕ} → ReferenceAt o bs n r → (rest : List ℕ) × (bs ≡ 0x26 ∷ rest)
reference_first (decimal {rest = rest} a h) = (0x23 ∷ rest, refl)
reference_first (hexadecimal {rest = rest} a h) = (0x23 ∷ 0x78 ∷ rest, refl)
reference_first (entity a h) = (a.rest, a.opens)
reference_first (other h a k) = (a.rest, a.opens)

-- a run begins with a byte that passes
pub run_first : (p : ℕ → Bool) (bs n r : List ℕ) → RunAt p bs n r → (b : ℕ) × (rest : List ℕ) × (bs ≡ b ∷ rest) × (p b ≡ true)
run_first p [] n r a = absurd (omega (arith, a.some))
run_first p (b ∷ bs) n r a = (b, bs, refl, passes (p b) refl)
  where
    passes : (x : Bool) → p b ≡ x → p b ≡ true
    passes true e = e
    passes false e = absurd (let none : prefix_len p (b ∷ bs) ≡ 0 = ap (λ x. cond x (1 + prefix_len p bs) 0) e in omega (arith, a.some, none))

-- a run stops before a byte that fails
pub run_unless : {p : ℕ → Bool} {bs n r : List ℕ} (b : ℕ) → p b ≡ false → RunAt p (b ∷ bs) n r → ⊥
run_unless {p} {bs} {n} {r} b e a =
    let (c, rest, is, h) = run_first p (b ∷ bs) n r a in
    true≢false (sym h ∙ (ap p (sym (same_first is)) ∙ e))

pub reference_no_quote : {o : Bool} {q : ℕ} {bs n r rest : List ℕ} → (q ≡ 0x22) ⊎ (q ≡ 0x27) → bs ≡ q ∷ rest → ReferenceAt o bs n r → ⊥
reference_no_quote (inl e) at a = let (rest, is) = reference_first a in omega (arith, e, same_first (sym at ∙ is))
reference_no_quote (inr e) at a = let (rest, is) = reference_first a in omega (arith, e, same_first (sym at ∙ is))

pub fails_at : (q : ℕ) → is_plain_within q q ≡ false
fails_at q = ap (λ x. not (x || q == 0x3C || q == 0x26)) (eq-eqb q q refl)

pub no_run_at_quote : (q : ℕ) {bs n r rest : List ℕ} → bs ≡ q ∷ rest → RunAt (is_plain_within q) bs n r → ⊥
no_run_at_quote q {bs} {n} {r} is a = run_unless q (fails_at q) (subst (λ w. RunAt (is_plain_within q) w n r) is a)

pub reference_no_run : {o : Bool} (q : ℕ) {bs n r m s : List ℕ} → RunAt (is_plain_within q) bs m s → ReferenceAt o bs n r → ⊥
reference_no_run {o} q {bs} {n} {r} {m} {s} a b =
    let (rest, is) = reference_first b in
    run_unless 0x26 (amp (0x26 == q)) (subst (λ w. RunAt (is_plain_within q) w m s) is a)
  where
    amp : (x : Bool) → not (x || false || true) ≡ false
    amp true = refl
    amp false = refl

pub value_unique : {o : Bool} {q : ℕ} {bs n r m s : List ℕ} → (q ≡ 0x22) ⊎ (q ≡ 0x27) → ValueAt o q bs n r → ValueAt o q bs m s → (n ≡ m) × (r ≡ s)
value_unique k (closed e) (closed f) = (refl, same_others (sym e ∙ f))
value_unique {q = q} k (closed e) (plain a v) = absurd (no_run_at_quote q e a)
value_unique k (closed e) (reference a v) = absurd (reference_no_quote k e a)
value_unique {q = q} k (plain a v) (closed e) = absurd (no_run_at_quote q e a)
value_unique {o} {q} {s = s} k (plain a v) (plain {value = value'} b w) =
    let both = run_unique a b in
    let rest = value_unique k v (subst (λ z. ValueAt o q z value' s) (sym both.1) w) in
    (cc, rest.1)
value_unique {q = q} k (plain a v) (reference b w) = absurd (reference_no_run q a b)
value_unique k (reference a v) (closed e) = absurd (reference_no_quote k e a)
value_unique {q = q} k (reference a v) (plain b w) = absurd (reference_no_run q b a)
value_unique {o} {q} {s = s} k (reference a v) (reference {value = value'} b w) =
    let both = reference_unique a b in
    let rest = value_unique k v (subst (λ z. ValueAt o q z value' s) (sym both.1) w) in
    (cc, rest.1)

pub quoted_unique : {o : Bool} {bs n r m s : List ℕ} → QuotedAt o bs n r → QuotedAt o bs m s → (n ≡ m) × (r ≡ s)
quoted_unique {o} {m = m} {s = s} a b =
    let e = sym b.opens ∙ a.opens in
    let other : ValueAt o a.quote b.rest m s = subst (λ q. ValueAt o q b.rest m s) (same_first e) b.closes in
    value_unique a.is_quote a.closes (subst (λ w. ValueAt o a.quote w m s) (same_others e) other)

pub character_data_unique : {bs n r m s : List ℕ} → CharacterDataAt bs n r → CharacterDataAt bs m s → (n ≡ m) × (r ≡ s)
character_data_unique a b = run_unique a.plain b.plain

pub cdata_unique : {bs n r m s : List ℕ} → CdataAt bs n r → CdataAt bs m s → (n ≡ m) × (r ≡ s)
cdata_unique {m = m} {s = s} a b =
    up_to_unique a.closes (subst (λ w. UpTo (codes "]]>") w m s) (append_cancel_left (codes "<![CDATA[") b.rest a.rest (sym b.opens ∙ a.opens)) b.closes)

pub comment_unique : {bs r s : List ℕ} → CommentAt bs r → CommentAt bs s → r ≡ s
comment_unique {s = s} a b =
    let same = append_cancel_left (codes "<!--") b.rest a.rest (sym b.opens ∙ a.opens) in
    same_others (up_to_unique a.closes (subst (λ w. UpTo (codes "--") w b.inside (0x3E ∷ s)) same b.closes)).1

pub instruction_unique : {bs r s : List ℕ} → InstructionAt bs r → InstructionAt bs s → r ≡ s
instruction_unique {s = s} a b =
    let same = append_cancel_left (codes "<?") b.rest a.rest (sym b.opens ∙ a.opens) in
    let names = ncname_unique a.names (subst (λ w. NcNameAt w b.target b.behind) same b.names) in
    (up_to_unique a.closes (subst (λ w. UpTo (codes "?>") w b.inside s) (sym names.1) b.closes)).1

pub setting_unique : {word bs n r m s : List ℕ} → SettingAt word bs n r → SettingAt word bs m s → (n ≡ m) × (r ≡ s)
setting_unique {word} {m = m} {s = s} a b =
    let behind = append_cancel_left word b.behind a.behind (sym b.names ∙ a.names) in
    let start = equals_unique (subst (λ w. EqualsAt w b.start) behind b.equals) a.equals in
    literal_unique a.literal (subst (λ w. LiteralAt w m s) start b.literal)

pub encoding_unique : {bs r s : List ℕ} → EncodingAt bs r → EncodingAt bs s → r ≡ s
encoding_unique (no_encoding h) (no_encoding k) = refl
encoding_unique (no_encoding h) (encoding a k) = absurd (h a.behind a.names)
encoding_unique (encoding a k) (no_encoding h) = absurd (h a.behind a.names)
encoding_unique (encoding a h) (encoding b k) = (setting_unique a b).1

pub standalone_unique : {bs r s : List ℕ} → StandaloneAt bs r → StandaloneAt bs s → r ≡ s
standalone_unique (no_standalone h) (no_standalone k) = refl
standalone_unique (no_standalone h) (standalone a k) = absurd (h a.behind a.names)
standalone_unique (standalone a k) (no_standalone h) = absurd (h a.behind a.names)
standalone_unique (standalone a h) (standalone b k) = (setting_unique a b).1

pub declaration_unique : {bs r s : List ℕ} → DeclarationAt bs r → DeclarationAt bs s → r ≡ s
declaration_unique (no_declaration h) (no_declaration k) = refl
declaration_unique (no_declaration h) (declaration {rest = rest} is v e t q) = absurd (h rest is v.white)
declaration_unique (declaration {rest = rest} is v e t q) (no_declaration h) = absurd (h rest is v.white)
declaration_unique {bs} {r} {s} (declaration {rest = rest} {past_version = n} is v e t q) (declaration {rest = rest'} {past_version = n'} {past_encoding = m'} {past_standalone = k'} is' v' e' t' q') =
    let start = append_cancel_left (codes "<?xml") rest' rest (sym is' ∙ is) in
    let version = (setting_unique v (subst (λ w. SettingAt (codes "version") w (codes "1.0") n') start v')).1 in
    let encodings = encoding_unique e (subst (λ w. EncodingAt w m') (sym version) e') in
    let standing = standalone_unique t (subst (λ w. StandaloneAt w k') (sym encodings) t') in
    append_cancel_left (codes "?>") r s (sym q ∙ (ap after_white standing ∙ q'))

pub comment_no_instruction : {bs r s : List ℕ} → CommentAt bs r → InstructionAt bs s → ⊥
comment_no_instruction a b = omega (arith, same_first (same_others (sym a.opens ∙ b.opens)))

pub misc_unique : {bs r s : List ℕ} → MiscAt bs r → MiscAt bs s → r ≡ s
misc_unique (no_more h) (no_more k) = refl
misc_unique (no_more h) (comment a m) = absurd (h.0 a.rest a.opens)
misc_unique (no_more h) (instruction a m) = absurd (h.1 a.rest a.opens)
misc_unique (comment a m) (no_more h) = absurd (h.0 a.rest a.opens)
misc_unique {s = s} (comment a m) (comment b n) = misc_unique m (subst (λ w. MiscAt w s) (sym (comment_unique a b)) n)
misc_unique (comment a m) (instruction b n) = absurd (comment_no_instruction a b)
misc_unique (instruction a m) (no_more h) = absurd (h.1 a.rest a.opens)
misc_unique (instruction a m) (comment b n) = absurd (comment_no_instruction b a)
misc_unique {s = s} (instruction a m) (instruction b n) = misc_unique m (subst (λ w. MiscAt w s) (sym (instruction_unique a b)) n)

pub no_word_end : {bs r rest : List ℕ} (c : ℕ) → c ≢ 0x3E → c ≢ 0x5B → (bs ≡ 0x3E ∷ r) ⊎ (bs ≡ 0x5B ∷ r) → bs ≡ c ∷ rest → ⊥
no_word_end c h k (inl e) is = h (same_first (sym is ∙ e))
no_word_end c h k (inr e) is = k (same_first (sym is ∙ e))

pub external_unique : {bs r s : List ℕ} → ExternalIdAt bs r → ExternalIdAt bs s → r ≡ s
external_unique (no_id h) (no_id k) = refl
external_unique (no_id h) (system w is w' l) = absurd (no_word_end 0x53 (omega arith) (omega arith) h is)
external_unique (no_id h) (public w is w' l w'' l') = absurd (no_word_end 0x50 (omega arith) (omega arith) h is)
external_unique (system w is w' l) (no_id h) = absurd (no_word_end 0x53 (omega arith) (omega arith) h is)
external_unique {s = s} (system {rest = rest} w is w' l) (system {rest = rest'} {value = v} x is' x' k) =
    let same = append_cancel_left (codes "SYSTEM") rest' rest (sym is' ∙ is) in
    (literal_unique l (subst (λ z. LiteralAt (after_white z) v s) same k)).1
external_unique (system w is w' l) (public x is' x' k x'' k') = absurd (omega (arith, same_first (sym is ∙ is')))
external_unique (public w is w' l w'' l') (no_id h) = absurd (no_word_end 0x50 (omega arith) (omega arith) h is)
external_unique (public w is w' l w'' l') (system x is' x' k) = absurd (omega (arith, same_first (sym is ∙ is')))
external_unique {s = s} (public {rest = rest} w is w' l w'' l') (public {rest = rest'} {value = v} {past_first = n} {second = u} x is' x' k x'' k') =
    let same = append_cancel_left (codes "PUBLIC") rest' rest (sym is' ∙ is) in
    let first = (literal_unique l (subst (λ z. LiteralAt (after_white z) v n) same k)).1 in
    (literal_unique l' (subst (λ z. LiteralAt (after_white z) u s) (sym first) k')).1

pub doctype_front_unique : {bs r s : List ℕ} → DoctypeFrontAt bs r → DoctypeFrontAt bs s → r ≡ s
doctype_front_unique a b =
    let same = append_cancel_left (codes "<!DOCTYPE") b.rest a.rest (sym b.opens ∙ a.opens) in
    let names = (qname_unique a.names (subst (λ w. QNameAt (after_white w) b.name b.past_name) same b.names)).1 in
    let ids = external_unique a.external (subst (λ w. ExternalIdAt w b.past_id) (sym names) b.external) in
    a.past ∙ (ap after_white ids ∙ sym b.past)

pub doctype_unique : {bs r s : List ℕ} → DoctypeAt bs r → DoctypeAt bs s → r ≡ s
doctype_unique (no_doctype h) (no_doctype k) = refl
doctype_unique (no_doctype h) (doctype a m) = absurd (h a.rest a.opens)
doctype_unique (doctype a m) (no_doctype h) = absurd (h a.rest a.opens)
doctype_unique {s = s} (doctype a m) (doctype b n) = misc_unique m (subst (λ w. MiscAt w s) (sym (same_others (doctype_front_unique a b))) n)
