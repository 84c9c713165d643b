-- What a fault says, from why reading stops; and declarations that are read.
use Rattle.std.proofs.Common.{◌≡◌, ◌≢◌, ◌⊎◌, inl, inr, ℕ, ◌-◌, ◌≤◌, false, not, List, [], ◌∷◌, ◌++◌, refl, ap, ◌∙◌, sym, subst, length, map, arith, length-append, bytes_eq}
use Rattle.std.specs.List.{IsDistinct, Contains, AllByRecursion}
use Rattle.std.proofs.lemmas.Bool.{true≢false}
use Rattle.tc_model.specs.Names.{IsNcName}
use Rattle.tc_model.specs.XmlText.{after_mark}
use Rattle.tc_model.specs.XmlTextBytes.{place_of, FrontOf, after_white}
use Rattle.tc_model.specs.XmlTextMisc.{MiscAt}
use Rattle.tc_model.specs.XmlTextRefusals.{Cause, unsupported, too_deep}
use Rattle.tc_model.proofs.XmlTextRefused.{front_unique, whole_front}
use Rattle.tc_base.specs.declared.Place.{Place}
use Rattle.tc_dtd.specs.Declarations as d
use Rattle.tc_dtd.specs.Declarations.{Particle, Particles, Content, Declaration, IsParticle, AreParticles, IsContent, AreDeclarations}
use Rattle.tc_dtd.specs.Outcomes.{Outcome, read, refused, outcome_map, Then, stops, goes_on, Past}
use Rattle.tc_dtd.specs.DtdTextContents as c
use Rattle.tc_dtd.specs.DtdTextContents.{SpaceAt, NameAt, SuffixAt, ParticleAt, GroupAt, ListAt, RestAt, MixedAt, ContentAt}
use Rattle.tc_dtd.specs.DtdTextDeclarations as t
use Rattle.tc_dtd.specs.DtdTextDeclarations.{KeptAt, ElementAt, Placed, placed, MarkupAt, DeclarationsAt}
use Rattle.tc_dtd.specs.DtdText.{TextAt, deepest_parenthesis, HasForm, names_of, DtdText, DtdTextRefuses, IsNotRefused}
use Rattle.tc_dtd.specs.Faults.{IsFaultOf, fault_of, IsDeclaredOnce, IsAgain}
use Rattle.tc_dtd.specs.Stops.{Stops}
use Rattle.tc_dtd.specs.declared.faults.Stop.{Stop}
use Rattle.tc_dtd.specs.declared.faults.Stop.TheVariants.{Malformed, Unsupported, TooDeep, NoMemory}
use Rattle.tc_dtd.specs.declared.faults.DtdFault.{DtdFault}
use Rattle.tc_dtd.specs.declared.faults.DtdFault.TheVariants as faults
use Rattle.tc_dtd.proofs.OutcomeLaws.{read_same, read_not}
use Rattle.tc_dtd.proofs.NamedLaws.{in_cons, in_none, bytes_same}
use Rattle.tc_dtd.specs.DtdTextLaws.{IsRefusal}
use Rattle.tc_dtd.proofs.DeclarationsUnique.{Behind_name, With_content, text_unique, text_kept}

front_within : {bytes front : List ℕ} → FrontOf bytes front → length front ≤ length bytes
front_within {front = front} f = omega (arith, ap length f.parts, length-append front f.after)

front_form : {deepest : ℕ} {bytes front : List ℕ} {found : List Placed} → FrontOf bytes front → HasForm deepest bytes found → bytes ≡ front
front_form f m = front_unique (whole_front m.characters) f

form_front : {deepest : ℕ} {bytes front : List ℕ} {found : List Placed} → FrontOf bytes front → HasForm deepest bytes found → TextAt deepest front (read found [])
form_front {deepest} {found = found} f m = subst (λ w. TextAt deepest w (read found [])) (front_form f m) m.reads

-- a reading at another depth is one here, or parentheses stand too deep
pub here_or_deep : (deepest : ℕ) (front : List ℕ) (found : List Placed) → TextAt deepest front (read found [])
    → TextAt deepest_parenthesis front (read found []) ⊎ ((at : List ℕ) × TextAt deepest_parenthesis front (refused too_deep at))
here_or_deep deepest front found m = text_kept deepest_parenthesis deepest front (read found []) m tt

not_refused : {bytes front : List ℕ} → FrontOf bytes front → ((cause : Cause) (at : List ℕ) → TextAt deepest_parenthesis front (refused cause at) → ⊥) → IsNotRefused bytes
not_refused f h cause place x = h cause x.at (subst (λ w. TextAt deepest_parenthesis w (refused cause x.at)) (front_unique x.is_front f) x.refuses)

pub fault_is : (bytes front : List ℕ) (e : Stop) → FrontOf bytes front → Stops e (TextAt deepest_parenthesis front) → IsFaultOf bytes (fault_of (length front) e)
fault_is bytes front (Malformed left) f s = (
  omega (arith, front_within f),
  (λ deepest found m. elim (here_or_deep deepest front found (form_front f m)) [ inl k ↦ s (read found []) k | inr (at, k) ↦ s (refused too_deep at) k ]),
  not_refused f (λ cause at k. s (refused cause at) k),
)
fault_is bytes front (Unsupported left why) f (at, l, k) = (
  record { front = front; at = at; is_front = f; refuses = k; stands = ap (λ n. length front - n) l },
  (λ deepest found m. by found (here_or_deep deepest front found (form_front f m))),
)
  where
    by : (found : List Placed) → TextAt deepest_parenthesis front (read found []) ⊎ ((at : List ℕ) × TextAt deepest_parenthesis front (refused too_deep at)) → ⊥
    by found (inl m) = read_not (text_unique deepest_parenthesis front (read found []) (refused (unsupported why) at) m k)
    by found (inr (at', m)) = let e = text_unique deepest_parenthesis front (refused too_deep at') (refused (unsupported why) at) m k in cc
fault_is bytes front (TooDeep left) f (at, l, k) = (
  record { front = front; at = at; is_front = f; refuses = k; stands = ap (λ n. length front - n) l },
  (λ found m. read_not (text_unique deepest_parenthesis front (read found []) (refused too_deep at) (form_front f m) k)),
)
fault_is bytes front NoMemory f s = tt

-- other bytes behind declarations
pub others_behind : (bytes front : List ℕ) (found : List Placed) (p : Place) → FrontOf bytes front → TextAt deepest_parenthesis front (read found []) → length front ≢ length bytes → p.0 ≡ length front - 0
    → IsFaultOf bytes (faults.Malformed p)
others_behind bytes front found p f m other e = (
  omega (arith, front_within f, e),
  (λ deepest xs k. other (ap length (sym (front_form f k)))),
  not_refused f (λ cause at k. read_not (text_unique deepest_parenthesis front (read found []) (refused cause at) m k)),
)

-- the whole text is read
whole_text : {bytes front : List ℕ} → FrontOf bytes front → length front ≡ length bytes → bytes ≡ front
whole_text {bytes} {front} f e = f.parts ∙ (ap (λ w. front ++ w) (no_bytes f.after (omega (arith, e, ap length f.parts, length-append front f.after))) ∙ nothing_behind front)
  where
    no_bytes : (w : List ℕ) → length w ≡ 0 → w ≡ []
    no_bytes [] e = refl
    no_bytes (b ∷ w) e = absurd (omega (arith, e))

    nothing_behind : (w : List ℕ) → w ++ [] ≡ w
    nothing_behind [] = refl
    nothing_behind (b ∷ w) = ap (λ z. b ∷ z) (nothing_behind w)

pub has_form : (bytes front : List ℕ) (found : List Placed) → FrontOf bytes front → length front ≡ length bytes → TextAt deepest_parenthesis front (read found []) → HasForm deepest_parenthesis bytes found
has_form bytes front found f e m =
    subst (λ w. HasForm deepest_parenthesis w found) (sym (whole_text f e)) (record { characters = f.characters; reads = m })

pub is_text : (bytes front : List ℕ) (found : List Placed) (ds : List Declaration) → FrontOf bytes front → length front ≡ length bytes → TextAt deepest_parenthesis front (read found [])
    → IsDeclaredOnce found ds → DtdText bytes ds
is_text bytes front found ds f e m (once, are) = record { found = found; form = has_form bytes front found f e m; once = once; are = are }

pub is_again : (bytes front : List ℕ) (found : List Placed) (e : DtdFault) → FrontOf bytes front → length front ≡ length bytes → TextAt deepest_parenthesis front (read found [])
    → IsAgain found e → IsFaultOf bytes e
is_again bytes front found (faults.Malformed p) f e m h = absurd h
is_again bytes front found (faults.Unsupported p why) f e m h = absurd h
is_again bytes front found (faults.TooDeep p) f e m h = absurd h
is_again bytes front found (faults.Twice p) f e m h = (found, has_form bytes front found f e m, h)
is_again bytes front found faults.NoMemory f e m h = tt

-- what is read is lawful

abbrev IsGood : {A : Type 0} → (A → Type 0) → Outcome A → Type 0
IsGood P (read a rest) = P a
IsGood P (refused cause at) = Unit {0}

good_map : {A B : Type 0} (P : A → Type 0) (Q : B → Type 0) (f : A → B) (o : Outcome A) (w : Outcome B) → w ≡ outcome_map f o → ((a : A) → P a → Q (f a)) → IsGood P o → IsGood Q w
good_map P Q f (read a rest) w e h g = subst (IsGood Q) (sym e) (h a g)
good_map P Q f (refused cause at) w e h g = subst (IsGood Q) (sym e) tt

not_none : (p : Particle) (ps : Particles) → d.more p ps ≢ d.no_more
not_none p ps e = cc

good_suffix : (p w : Particle) (bs r : List ℕ) → SuffixAt p bs w r → IsParticle p → IsParticle w
good_suffix p w bs r (c.no_suffix h) i = i
good_suffix p w bs r (c.question e) i = i
good_suffix p w bs r (c.asterisk e) i = i
good_suffix p w bs r (c.plus e) i = i

mutual
  good_particle : (deepest : ℕ) (bs : List ℕ) (o : Outcome Particle) → ParticleAt deepest bs o → IsGood IsParticle o
  good_particle deepest bs o (c.a_name {n = n} {rest = x} {after = r} {p = w} a s) = good_suffix (d.named n) w x r s tt
  good_particle deepest bs o (c.a_name_refused a) = tt
  good_particle deepest bs o (c.a_group {rest = x} {after = r} {g = g} {p = w} a s) = good_suffix g w x r s (good_group deepest bs (read g x) a)
  good_particle deepest bs o (c.a_group_refused a) = tt

  good_group : (deepest : ℕ) (bs : List ℕ) (o : Outcome Particle) → GroupAt deepest bs o → IsGood IsParticle o
  good_group deepest bs o (c.depth e) = tt
  good_group deepest bs o (c.inside {deepest = n} {r = r} e a) = good_list n (after_white r) o a

  good_list : (deepest : ℕ) (bs : List ℕ) (o : Outcome Particle) → ListAt deepest bs o → IsGood IsParticle o
  good_list deepest bs o (c.first_refused a) = tt
  good_list deepest bs o (c.a_sequence {rest = x} {p = q} {outcome = u} a l w) =
      let i = good_particle deepest bs (read q x) a in
      good_map AreParticles IsParticle (λ ps. d.sequence (d.more q ps)) u o w (λ ps k. (not_none q ps, (i, k))) (good_rest c.comma deepest x u l)
  good_list deepest bs o (c.a_choice {rest = x} {p = q} {outcome = u} a e l w) =
      let i = good_particle deepest bs (read q x) a in
      good_map AreParticles IsParticle (λ ps. d.choice (d.more q ps)) u o w (λ ps k. (not_none q ps, (i, k))) (good_rest c.bar deepest x u l)

  good_rest : (k deepest : ℕ) (bs : List ℕ) (o : Outcome Particles) → RestAt k deepest bs o → IsGood AreParticles o
  good_rest k deepest bs o (c.closed e) = tt
  good_rest k deepest bs o (c.next_refused e a) = tt
  good_rest k deepest bs o (c.next {r = r} {rest = x} {p = q} {outcome = u} e a b w) =
      let i = good_particle deepest (after_white r) (read q x) a in
      good_map AreParticles AreParticles (d.more q) u o w (λ ps j. (i, j)) (good_rest k deepest x u b)
  good_rest k deepest bs o (c.reference e) = tt

good_mixed : (bs : List ℕ) (o : Outcome Content) → MixedAt bs o → IsGood IsContent o
good_mixed bs o (c.no_names a h) = tt
good_mixed bs o (c.repeated a) = tt
good_mixed bs o (c.names_refused a) = tt
good_mixed bs o (c.reference a) = tt

good_content : (deepest : ℕ) (bs : List ℕ) (o : Outcome Content) → ContentAt deepest bs o → IsGood IsContent o
good_content deepest bs o (c.empty e) = tt
good_content deepest bs o (c.any e) = tt
good_content deepest bs o (c.mixed {rest = x} e f a) = good_mixed x o a
good_content deepest bs o (c.children {rest = x} {after = r} {g = g} {p = w} a s) = good_suffix g w x r s (good_group deepest bs (read g x) a)
good_content deepest bs o (c.children_refused a) = tt
good_content deepest bs o (c.reference e) = tt

abbrev IsGoodDeclaration : Declaration → Type 0
IsGoodDeclaration x = IsNcName x.name × IsContent x.content

good_name : (bs : List ℕ) (o : Outcome (List ℕ)) → NameAt bs o → IsGood IsNcName o
good_name bs o (c.name a h) = a.lawful
good_name bs o (c.prefix a) = tt
good_name bs o (c.colon e) = tt
good_name bs o (c.reference e) = tt

good_then : {A B : Type 0} (P : A → Type 0) (Q : B → Type 0) (First : List ℕ → Outcome A → Type 0) (Second : A → List ℕ → Outcome B → Type 0) → ((bs : List ℕ) (o : Outcome A) → First bs o → IsGood P o)
    → ((a : A) (bs : List ℕ) (o : Outcome B) → P a → Second a bs o → IsGood Q o) → (bs : List ℕ) (o : Outcome B) → Then First Second bs o → IsGood Q o
good_then P Q First Second f g bs o (stops a) = tt
good_then P Q First Second f g bs o (goes_on {rest = r} {value = v} a k) = g v r o (f bs (read v r) a) k

good_unit : (P : List ℕ → Outcome (Unit {0}) → Type 0) (bs : List ℕ) (o : Outcome (Unit {0})) → P bs o → IsGood (λ _. Unit {0}) o
good_unit P bs (read u r) a = tt
good_unit P bs (refused cause at) a = tt

good_kept : (x : Declaration) (bs : List ℕ) (o : Outcome Declaration) → IsGoodDeclaration x → KeptAt x bs o → IsGood IsGoodDeclaration o
good_kept x bs o i (t.kept {outcome = u} a w) = good_map (λ _. Unit {0}) IsGoodDeclaration (λ _. x) u o w (λ _ _. i) (good_unit t.EndAt bs u a)

good_element : (deepest : ℕ) (bs : List ℕ) (o : Outcome Declaration) → ElementAt deepest bs o → IsGood IsGoodDeclaration o
good_element deepest =
    good_then (λ _. Unit {0}) IsGoodDeclaration SpaceAt (λ _. Then NameAt (Behind_name deepest)) (good_unit SpaceAt) (λ _ bs o _.
    good_then IsNcName IsGoodDeclaration NameAt (Behind_name deepest) good_name (λ n bs o i.
    good_then (λ _. Unit {0}) IsGoodDeclaration SpaceAt (λ _. With_content deepest n) (good_unit SpaceAt) (λ _ bs o _.
    good_then IsContent IsGoodDeclaration (ContentAt deepest) (λ x. KeptAt (record { name = n; content = x })) (good_content deepest) (λ x bs o k.
    good_kept (record { name = n; content = x }) bs o (i, k)) bs o) bs o) bs o)

abbrev AreGood : List Placed → Type 0
AreGood xs = AllByRecursion (λ x. IsGoodDeclaration x.declaration) xs

good_markup : (deepest total : ℕ) (bs : List ℕ) (o : Outcome (List Placed)) → MarkupAt deepest total bs o → IsGood AreGood o
good_markup deepest total bs o (t.reference e) = tt
good_markup deepest total bs o (t.section e) = tt
good_markup deepest total bs o (t.element {r = r} {outcome = u} e a w) =
    good_map IsGoodDeclaration AreGood (λ x. placed (place_of total bs) x ∷ []) u o w (λ x i. (i, tt)) (good_element deepest r u a)
good_markup deepest total bs o (t.skipped {outcome = u} a w) = good_map (λ _. Unit {0}) AreGood (λ _. []) u o w (λ _ _. tt) (good_unit t.SkippedAt bs u a)

good_append : (xs ys : List Placed) → AreGood xs → AreGood ys → AreGood (xs ++ ys)
good_append [] ys a b = b
good_append (x ∷ xs) ys a b = (a.0, good_append xs ys a.1 b)

good_all : (deepest total : ℕ) (bs : List ℕ) (o : Outcome (List Placed)) → DeclarationsAt deepest total bs o → IsGood AreGood o
good_all deepest total bs o (t.end e) = tt
good_all deepest total bs o (t.markup_refused a) = tt
good_all deepest total bs o (t.markup {rest = r} {next = x} {xs = xs} {outcome = u} a m l w) =
    good_map AreGood AreGood (λ ys. xs ++ ys) u o w (λ ys k. good_append xs ys (good_markup deepest total bs (read xs r) a) k) (good_all deepest total x u l)

good_text : (deepest : ℕ) (bytes : List ℕ) (found : List Placed) → TextAt deepest bytes (read found []) → AreGood found
good_text deepest bytes found m =
    good_then (λ _. Unit {0}) AreGood t.TextDeclarationAt (λ _. Then (Past MiscAt) (λ _. DeclarationsAt deepest (length bytes))) (good_unit t.TextDeclarationAt) (λ _ bs o _.
    good_then (λ _. Unit {0}) AreGood (Past MiscAt) (λ _. DeclarationsAt deepest (length bytes)) (good_unit (Past MiscAt)) (λ _ bs o _ k. good_all deepest (length bytes) bs o k) bs o)
    (after_mark bytes) (read found []) m

all_names : (xs : List Placed) → AreGood xs → AllByRecursion (λ x. IsNcName x.name) (map (λ x. x.declaration) xs)
all_names [] a = tt
all_names (x ∷ xs) a = (a.0.0, all_names xs a.1)

all_contents : (xs : List Placed) → AreGood xs → AllByRecursion (λ x. IsContent x.content) (map (λ x. x.declaration) xs)
all_contents [] a = tt
all_contents (x ∷ xs) a = (a.0.1, all_contents xs a.1)

same_names : (xs : List Placed) → map (λ x. x.name) (map (λ x. x.declaration) xs) ≡ names_of xs
same_names [] = refl
same_names (x ∷ xs) = ap (λ w. x.declaration.name ∷ w) (same_names xs)

-- a text of declarations is lawful
pub lawful : (bytes : List ℕ) (ds : List Declaration) → DtdText bytes ds → AreDeclarations ds
lawful bytes ds m =
    let good = good_text deepest_parenthesis bytes m.found m.form.reads in
    subst AreDeclarations (sym m.are)
    (record { names = all_names m.found good; contents = all_contents m.found good; once = subst (IsDistinct bytes_eq) (sym (same_names m.found)) m.once })

-- laws of texts

pub one_dtd : (bytes : List ℕ) (ds es : List Declaration) → DtdText bytes ds → DtdText bytes es → ds ≡ es
one_dtd bytes ds es m n =
    let same : m.found ≡ n.found = (read_same (text_unique deepest_parenthesis bytes (read m.found []) (read n.found []) m.form.reads n.form.reads)).0 in
    m.are ∙ (ap (map (λ x. x.declaration)) same ∙ sym n.are)

refused_same : {A : Type 0} (o p : Outcome A) (c c' : Cause) (at at' : List ℕ) → o ≡ refused c at → p ≡ refused c' at' → o ≡ p → (c ≡ c') × (at ≡ at')
refused_same o p c c' at at' e f g = (cc, cc)

pub one_refusal : (bytes : List ℕ) (cause other : Cause) (place elsewhere : ℕ) → DtdTextRefuses bytes cause place → DtdTextRefuses bytes other elsewhere → (cause ≡ other) × (place ≡ elsewhere)
one_refusal bytes cause other place elsewhere x y =
    let front = front_unique x.is_front y.is_front in
    let same = text_unique deepest_parenthesis y.front (refused cause x.at) (refused other y.at) (subst (λ w. TextAt deepest_parenthesis w (refused cause x.at)) front x.refuses) y.refuses in
    let both = refused_same (refused cause x.at) (refused other y.at) cause other x.at y.at refl refl same in
    (both.0, x.stands ∙ (ap (λ w. place_of (length w) x.at) front ∙ (ap (place_of (length y.front)) both.1 ∙ sym y.stands)))

all_left : (P : List ℕ → Type 0) (xs ys : List Placed) (n : Placed) → AllByRecursion P (names_of (xs ++ n ∷ ys)) → P n.declaration.name
all_left P [] ys n a = a.0
all_left P (x ∷ xs) ys n a = all_left P xs ys n a.1

pub not_once : (xs ys : List Placed) (n : Placed) → IsDistinct bytes_eq (names_of (xs ++ n ∷ ys)) → Contains (names_of xs) n.declaration.name → ⊥
unfolding IsDistinct
not_once [] ys n u i = in_none n.declaration.name i
not_once (x ∷ xs) ys n u i = by (λ k. not_once xs ys n u.1 k) (in_cons x.declaration.name (names_of xs) n.declaration.name i)
  where
    by : (Contains (names_of xs) n.declaration.name → ⊥) → (x.declaration.name ≡ n.declaration.name) ⊎ Contains (names_of xs) n.declaration.name → ⊥
    by rec (inl e) =
        let other : bytes_eq x.declaration.name n.declaration.name ≡ false = all_left (λ m. bytes_eq x.declaration.name m ≡ false) xs ys n u.0 in
        true≢false (sym (bytes_same x.declaration.name n.declaration.name e) ∙ other)
    by rec (inr k) = rec k

pub no_dtd : (bytes : List ℕ) (fault : DtdFault) (ds : List Declaration) → IsRefusal fault → IsFaultOf bytes fault → DtdText bytes ds → ⊥
no_dtd bytes (faults.Malformed p) ds i (l, none, not) m = none deepest_parenthesis m.found m.form
no_dtd bytes (faults.Unsupported p why) ds i (x, none) m = none deepest_parenthesis m.found m.form
no_dtd bytes (faults.TooDeep p) ds i (x, none) m = none m.found m.form
no_dtd bytes (faults.Twice p) ds i (found, form, again) m =
    let same : m.found ≡ found = (read_same (text_unique deepest_parenthesis bytes (read m.found []) (read found []) m.form.reads form.reads)).0 in
    not_once again.before again.behind again.again (subst (λ w. IsDistinct bytes_eq (names_of w)) (same ∙ again.parts) m.once) again.twice
no_dtd bytes faults.NoMemory ds i f m = i
