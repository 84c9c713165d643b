-- Names, particles and contents are read in one way; and what parentheses that stand deeper allow is read, or they stand too deep.
use Rattle.std.proofs.Common.{◌≡◌, inl, inr, ◌<◌, ◌≤◌, ℕ, zero, suc, List, [], ◌∷◌, ◌++◌, refl, ap, ◌∙◌, sym, subst, arith, length, length-append, codes}
use Rattle.std.proofs.lemmas.List.{append_cancel_left}
use Rattle.tc_base.specs.declared.reasons.Why.TheVariants.{ParameterEntity, QualifiedElementName}
use Rattle.tc_model.specs.XmlTextBytes.{after_white}
use Rattle.tc_model.specs.XmlTextRefusals.{unsupported}
use Rattle.tc_model.proofs.XmlTextPhrases.{same_first, same_others, ncname_unique}
use Rattle.tc_dtd.specs.Declarations as d
use Rattle.tc_dtd.specs.Declarations.{Particle, Particles, Content}
use Rattle.tc_dtd.specs.Outcomes.{Outcome, read, refused, outcome_map}
use Rattle.tc_dtd.specs.DtdTextContents as t
use Rattle.tc_dtd.specs.DtdTextContents.{SpaceAt, white, NameAt, name, prefix, colon, SuffixAt, no_suffix, question, asterisk, plus, bar, comma, ParticleAt, a_name, a_name_refused, a_group, a_group_refused, GroupAt, depth, inside, ListAt, first_refused, a_sequence, a_choice, RestAt, closed, next_refused, next, NamesAt, MixedAt, no_names, repeated, names_refused, ContentAt, empty, any, mixed, children, children_refused}
use Rattle.tc_dtd.proofs.OutcomeLaws.{read_same, read_not, left_of, left_map, IsRead, read_under, Kept, other_byte, same_behind, not_named, white_left, behind_left, behind_white_left, name_left, no_white}

pub space_unique : (bs : List ℕ) (o p : Outcome (Unit {0})) → SpaceAt bs o → SpaceAt bs p → o ≡ p
space_unique bs o p (white a) (white b) = refl
space_unique bs o p (white a) (t.reference {r = r} e) = absurd (no_white 0x25 bs r refl e a)
space_unique bs o p (t.reference {r = r} e) (white a) = absurd (no_white 0x25 bs r refl e a)
space_unique bs o p (t.reference e) (t.reference f) = refl

pub name_unique : (bs : List ℕ) (o p : Outcome (List ℕ)) → NameAt bs o → NameAt bs p → o ≡ p
name_unique bs o p (name {n = n} {after = r} a h) (name {n = m} {after = s} b k) = let e = ncname_unique a b in ap (λ w. read w r) e.0 ∙ ap (read m) e.1
name_unique bs o p (name a h) (prefix {r = r} b) = absurd (h r (ncname_unique a b).1)
name_unique bs o p (name {n = n} {after = s} a h) (colon {r = r} e) = absurd (not_named 0x3A bs r n s (omega arith) refl e a)
name_unique bs o p (name {n = n} {after = s} a h) (t.reference {r = r} e) = absurd (not_named 0x25 bs r n s (omega arith) refl e a)
name_unique bs o p (prefix {r = r} a) (name b h) = absurd (h r (ncname_unique b a).1)
name_unique bs o p (prefix a) (prefix b) = ap (refused (unsupported QualifiedElementName)) (ncname_unique a b).1
name_unique bs o p (prefix {n = n} {r = s} a) (colon {r = r} e) = absurd (not_named 0x3A bs r n (0x3A ∷ s) (omega arith) refl e a)
name_unique bs o p (prefix {n = n} {r = s} a) (t.reference {r = r} e) = absurd (not_named 0x25 bs r n (0x3A ∷ s) (omega arith) refl e a)
name_unique bs o p (colon {r = r} e) (name {n = n} {after = s} a h) = absurd (not_named 0x3A bs r n s (omega arith) refl e a)
name_unique bs o p (colon {r = r} e) (prefix {n = n} {r = s} a) = absurd (not_named 0x3A bs r n (0x3A ∷ s) (omega arith) refl e a)
name_unique bs o p (colon e) (colon f) = refl
name_unique bs o p (colon e) (t.reference f) = absurd (omega (arith, other_byte e f))
name_unique bs o p (t.reference {r = r} e) (name {n = n} {after = s} a h) = absurd (not_named 0x25 bs r n s (omega arith) refl e a)
name_unique bs o p (t.reference {r = r} e) (prefix {n = n} {r = s} a) = absurd (not_named 0x25 bs r n (0x3A ∷ s) (omega arith) refl e a)
name_unique bs o p (t.reference e) (colon f) = absurd (omega (arith, other_byte e f))
name_unique bs o p (t.reference e) (t.reference f) = refl

pub no_parenthesis : (bs r : List ℕ) (o : Outcome (List ℕ)) → bs ≡ 0x28 ∷ r → NameAt bs o → ⊥
no_parenthesis bs r o e (name {n = n} {after = s} a h) = not_named 0x28 bs r n s (omega arith) refl e a
no_parenthesis bs r o e (prefix {n = n} {r = s} a) = not_named 0x28 bs r n (0x3A ∷ s) (omega arith) refl e a
no_parenthesis bs r o e (colon f) = omega (arith, other_byte e f)
no_parenthesis bs r o e (t.reference f) = omega (arith, other_byte e f)

pub suffix_unique : (p : Particle) (bs : List ℕ) (w v : Particle) (r s : List ℕ) → SuffixAt p bs w r → SuffixAt p bs v s → read w r ≡ read v s
suffix_unique p bs w v r s (no_suffix h) (no_suffix k) = refl
suffix_unique p bs w v r s (no_suffix h) (question e) = absurd (h s (inl e))
suffix_unique p bs w v r s (no_suffix h) (asterisk e) = absurd (h s (inr (inl e)))
suffix_unique p bs w v r s (no_suffix h) (plus e) = absurd (h s (inr (inr e)))
suffix_unique p bs w v r s (question e) (no_suffix h) = absurd (h r (inl e))
suffix_unique p bs w v r s (question e) (question f) = ap (read (d.optional p)) (same_behind e f)
suffix_unique p bs w v r s (question e) (asterisk f) = absurd (omega (arith, other_byte e f))
suffix_unique p bs w v r s (question e) (plus f) = absurd (omega (arith, other_byte e f))
suffix_unique p bs w v r s (asterisk e) (no_suffix h) = absurd (h r (inr (inl e)))
suffix_unique p bs w v r s (asterisk e) (question f) = absurd (omega (arith, other_byte e f))
suffix_unique p bs w v r s (asterisk e) (asterisk f) = ap (read (d.zero_or_more p)) (same_behind e f)
suffix_unique p bs w v r s (asterisk e) (plus f) = absurd (omega (arith, other_byte e f))
suffix_unique p bs w v r s (plus e) (no_suffix h) = absurd (h r (inr (inr e)))
suffix_unique p bs w v r s (plus e) (question f) = absurd (omega (arith, other_byte e f))
suffix_unique p bs w v r s (plus e) (asterisk f) = absurd (omega (arith, other_byte e f))
suffix_unique p bs w v r s (plus e) (plus f) = ap (read (d.one_or_more p)) (same_behind e f)

pub suffix_left : (p w : Particle) (bs r : List ℕ) → SuffixAt p bs w r → length r ≤ length bs
suffix_left p w bs r (no_suffix h) = omega arith
suffix_left p w bs r (question e) = let k = behind_left 0x3F bs r e in omega (arith, k)
suffix_left p w bs r (asterisk e) = let k = behind_left 0x2A bs r e in omega (arith, k)
suffix_left p w bs r (plus e) = let k = behind_left 0x2B bs r e in omega (arith, k)

-- the same particle, with what stands behind it
then_suffix : (p q w v : Particle) (x y r s : List ℕ) → read p x ≡ read q y → SuffixAt p x w r → SuffixAt q y v s → read w r ≡ read v s
then_suffix p q w v x y r s e a b =
    let both = read_same e in
    suffix_unique p x w v r s a (subst (λ z. SuffixAt z x v s) (sym both.0) (subst (λ z. SuffixAt q z v s) (sym both.1) b))

pub group_opens : (deepest : ℕ) (bs : List ℕ) (o : Outcome Particle) → GroupAt deepest bs o → (r : List ℕ) × (bs ≡ 0x28 ∷ r)
group_opens deepest bs o (depth {r = r} e) = (r, e)
group_opens deepest bs o (inside {r = r} e l) = (r, e)

name_no_group : (deepest : ℕ) (bs : List ℕ) (o : Outcome (List ℕ)) (p : Outcome Particle) → NameAt bs o → GroupAt deepest bs p → ⊥
name_no_group deepest bs o p a b = let (r, e) = group_opens deepest bs p b in no_parenthesis bs r o e a

-- behind a particle stands a bar, and so no comma joins another to it
pub rest_no_bar : (k deepest : ℕ) (bs r : List ℕ) (o : Outcome Particles) → k ≡ comma → RestAt k deepest bs o → after_white bs ≡ bar ∷ r → ⊥
rest_no_bar k deepest bs r o is (closed e) f = omega (arith, other_byte e f)
rest_no_bar k deepest bs r o is (next_refused e a) f = omega (arith, is, other_byte e f)
rest_no_bar k deepest bs r o is (next e a b w) f = omega (arith, is, other_byte e f)
rest_no_bar k deepest bs r o is (t.reference e) f = omega (arith, other_byte e f)

-- what is read first, and then what stands behind it
rest_at : (k deepest : ℕ) (p q : Particle) (x y : List ℕ) (o : Outcome Particles) → read p x ≡ read q y → RestAt k deepest y o → RestAt k deepest x o
rest_at k deepest p q x y o e a = subst (λ z. RestAt k deepest z o) (sym (read_same e).1) a

pub whole_same : {A B : Type 0} (f g : A → B) (o o' : Outcome A) (w w' : Outcome B) → w ≡ outcome_map f o → w' ≡ outcome_map g o' → f ≡ g → o ≡ o' → w ≡ w'
whole_same f g o o' w w' e e' i j = e ∙ (ap (outcome_map f) j ∙ (ap (λ h. outcome_map h o') i ∙ sym e'))

particle_at : (deepest : ℕ) (k : ℕ) (bs r s : List ℕ) (o : Outcome Particle) → after_white bs ≡ k ∷ r → after_white bs ≡ k ∷ s → ParticleAt deepest (after_white s) o → ParticleAt deepest (after_white r) o
particle_at deepest k bs r s o e f a = subst (λ z. ParticleAt deepest (after_white z) o) (sym (same_behind e f)) a

mutual
  pub particle_unique : (deepest : ℕ) (bs : List ℕ) (o p : Outcome Particle) → ParticleAt deepest bs o → ParticleAt deepest bs p → o ≡ p
  particle_unique deepest bs o p (a_name {n = n} {rest = x} {after = r} {p = w} a s) (a_name {n = m} {rest = y} {after = r'} {p = v} b u) =
      let e = read_same (name_unique bs (read n x) (read m y) a b) in
      then_suffix (d.named n) (d.named m) w v x y r r' (ap (λ z. read (d.named z) x) e.0 ∙ ap (read (d.named m)) e.1) s u
  particle_unique deepest bs o p (a_name {n = n} {rest = x} a s) (a_name_refused {at = at} {cause = c} b) = absurd (read_not (name_unique bs (read n x) (refused c at) a b))
  particle_unique deepest bs o p (a_name {n = n} {rest = x} a s) (a_group {rest = y} {g = g} b u) = absurd (name_no_group deepest bs (read n x) (read g y) a b)
  particle_unique deepest bs o p (a_name {n = n} {rest = x} a s) (a_group_refused {at = at} {cause = c} b) = absurd (name_no_group deepest bs (read n x) (refused c at) a b)
  particle_unique deepest bs o p (a_name_refused {at = at} {cause = c} a) (a_name {n = n} {rest = x} b s) = absurd (read_not (name_unique bs (read n x) (refused c at) b a))
  particle_unique deepest bs o p (a_name_refused {at = at} {cause = c} a) (a_name_refused {at = at'} {cause = c'} b) = let e = name_unique bs (refused c at) (refused c' at') a b in cc
  particle_unique deepest bs o p (a_name_refused {at = at} {cause = c} a) (a_group {rest = y} {g = g} b u) = absurd (name_no_group deepest bs (refused c at) (read g y) a b)
  particle_unique deepest bs o p (a_name_refused {at = at} {cause = c} a) (a_group_refused {at = at'} {cause = c'} b) = absurd (name_no_group deepest bs (refused c at) (refused c' at') a b)
  particle_unique deepest bs o p (a_group {rest = y} {g = g} a s) (a_name {n = n} {rest = x} b u) = absurd (name_no_group deepest bs (read n x) (read g y) b a)
  particle_unique deepest bs o p (a_group {rest = y} {g = g} a s) (a_name_refused {at = at} {cause = c} b) = absurd (name_no_group deepest bs (refused c at) (read g y) b a)
  particle_unique deepest bs o p (a_group {rest = x} {after = r} {g = g} {p = w} a s) (a_group {rest = y} {after = r'} {g = h} {p = v} b u) =
      then_suffix g h w v x y r r' (group_unique deepest bs (read g x) (read h y) a b) s u
  particle_unique deepest bs o p (a_group {rest = x} {g = g} a s) (a_group_refused {at = at} {cause = c} b) = absurd (read_not (group_unique deepest bs (read g x) (refused c at) a b))
  particle_unique deepest bs o p (a_group_refused {at = at} {cause = c} a) (a_name {n = n} {rest = x} b u) = absurd (name_no_group deepest bs (read n x) (refused c at) b a)
  particle_unique deepest bs o p (a_group_refused {at = at} {cause = c} a) (a_name_refused {at = at'} {cause = c'} b) = absurd (name_no_group deepest bs (refused c' at') (refused c at) b a)
  particle_unique deepest bs o p (a_group_refused {at = at} {cause = c} a) (a_group {rest = x} {g = g} b u) =
      absurd (read_not (sym (group_unique deepest bs (refused c at) (read g x) a b)))
  particle_unique deepest bs o p (a_group_refused {at = at} {cause = c} a) (a_group_refused {at = at'} {cause = c'} b) = group_unique deepest bs (refused c at) (refused c' at') a b

  pub group_unique : (deepest : ℕ) (bs : List ℕ) (o p : Outcome Particle) → GroupAt deepest bs o → GroupAt deepest bs p → o ≡ p
  group_unique deepest bs o p (depth e) (depth f) = refl
  group_unique deepest bs o p (inside {deepest = n} {r = r} e a) (inside {r = s} f b) =
      list_unique n (after_white r) o p a (subst (λ z. ListAt n (after_white z) p) (sym (same_behind e f)) b)

  pub list_unique : (deepest : ℕ) (bs : List ℕ) (o p : Outcome Particle) → ListAt deepest bs o → ListAt deepest bs p → o ≡ p
  list_unique deepest bs o p (first_refused {at = at} {cause = c} a) (first_refused {at = at'} {cause = c'} b) = particle_unique deepest bs (refused c at) (refused c' at') a b
  list_unique deepest bs o p (first_refused {at = at} {cause = c} a) (a_sequence {rest = x} {p = q} b l w) = absurd (read_not (sym (particle_unique deepest bs (refused c at) (read q x) a b)))
  list_unique deepest bs o p (first_refused {at = at} {cause = c} a) (a_choice {rest = x} {p = q} b e l w) = absurd (read_not (sym (particle_unique deepest bs (refused c at) (read q x) a b)))
  list_unique deepest bs o p (a_sequence {rest = x} {p = q} a l w) (first_refused {at = at} {cause = c} b) = absurd (read_not (particle_unique deepest bs (read q x) (refused c at) a b))
  list_unique deepest bs o p (a_sequence {rest = x} {p = q} {outcome = u} a l w) (a_sequence {rest = y} {p = q'} {outcome = u'} b l' w') =
      let e = particle_unique deepest bs (read q x) (read q' y) a b in
      let f : Particle → Particles → Particle = λ z ps. d.sequence (d.more z ps) in
      whole_same (f q) (f q') u u' o p w w' (ap f (read_same e).0) (rest_unique comma deepest x u u' (omega arith) l (rest_at comma deepest q q' x y u' e l'))
  list_unique deepest bs o p (a_sequence {rest = x} {p = q} {outcome = u} a l w) (a_choice {rest = y} {r = r} {p = q'} b k l' w') =
      let e = (read_same (particle_unique deepest bs (read q x) (read q' y) a b)).1 in
      absurd (rest_no_bar comma deepest x r u refl l (ap after_white e ∙ k))
  list_unique deepest bs o p (a_choice {rest = x} {p = q} a k l w) (first_refused {at = at} {cause = c} b) = absurd (read_not (particle_unique deepest bs (read q x) (refused c at) a b))
  list_unique deepest bs o p (a_choice {rest = x} {r = r} {p = q} a k l w) (a_sequence {rest = y} {p = q'} {outcome = u'} b l' w') =
      let e = (read_same (particle_unique deepest bs (read q x) (read q' y) a b)).1 in
      absurd (rest_no_bar comma deepest y r u' refl l' (ap after_white (sym e) ∙ k))
  list_unique deepest bs o p (a_choice {rest = x} {p = q} {outcome = u} a k l w) (a_choice {rest = y} {p = q'} {outcome = u'} b k' l' w') =
      let e = particle_unique deepest bs (read q x) (read q' y) a b in
      let f : Particle → Particles → Particle = λ z ps. d.choice (d.more z ps) in
      whole_same (f q) (f q') u u' o p w w' (ap f (read_same e).0) (rest_unique bar deepest x u u' (omega arith) l (rest_at bar deepest q q' x y u' e l'))

  pub rest_unique : (k deepest : ℕ) (bs : List ℕ) (o p : Outcome Particles) → 0x29 < k → RestAt k deepest bs o → RestAt k deepest bs p → o ≡ p
  rest_unique k deepest bs o p big (closed e) (closed f) = ap (read d.no_more) (same_behind e f)
  rest_unique k deepest bs o p big (closed e) (next_refused f b) = absurd (omega (arith, big, other_byte e f))
  rest_unique k deepest bs o p big (closed e) (next f b l w) = absurd (omega (arith, big, other_byte e f))
  rest_unique k deepest bs o p big (closed e) (t.reference f) = absurd (omega (arith, other_byte e f))
  rest_unique k deepest bs o p big (next_refused e a) (closed f) = absurd (omega (arith, big, other_byte e f))
  rest_unique k deepest bs o p big (next_refused {r = r} {at = at} {cause = c} e a) (next_refused {r = s} {at = at'} {cause = c'} f b) =
      let same = particle_unique deepest (after_white r) (refused c at) (refused c' at') a (particle_at deepest k bs r s (refused c' at') e f b) in cc
  rest_unique k deepest bs o p big (next_refused {r = r} {at = at} {cause = c} e a) (next {r = s} {rest = x} {p = q} f b l w) =
      absurd (read_not (sym (particle_unique deepest (after_white r) (refused c at) (read q x) a (particle_at deepest k bs r s (read q x) e f b))))
  rest_unique k deepest bs o p big (next_refused e a) (t.reference f) = absurd (omega (arith, big, other_byte e f))
  rest_unique k deepest bs o p big (next e a l w) (closed f) = absurd (omega (arith, big, other_byte e f))
  rest_unique k deepest bs o p big (next {r = r} {rest = x} {p = q} e a l w) (next_refused {r = s} {at = at} {cause = c} f b) =
      absurd (read_not (particle_unique deepest (after_white r) (read q x) (refused c at) a (particle_at deepest k bs r s (refused c at) e f b)))
  rest_unique k deepest bs o p big (next {r = r} {rest = x} {p = q} {outcome = u} e a l w) (next {r = s} {rest = y} {p = q'} {outcome = u'} f b l' w') =
      let same = particle_unique deepest (after_white r) (read q x) (read q' y) a (particle_at deepest k bs r s (read q' y) e f b) in
      let g : Particle → Particles → Particles = λ z ps. d.more z ps in
      whole_same (g q) (g q') u u' o p w w' (ap g (read_same same).0) (rest_unique k deepest x u u' big l (rest_at k deepest q q' x y u' same l'))
  rest_unique k deepest bs o p big (next e a l w) (t.reference f) = absurd (omega (arith, big, other_byte e f))
  rest_unique k deepest bs o p big (t.reference e) (closed f) = absurd (omega (arith, other_byte e f))
  rest_unique k deepest bs o p big (t.reference e) (next_refused f b) = absurd (omega (arith, big, other_byte e f))
  rest_unique k deepest bs o p big (t.reference e) (next f b l w) = absurd (omega (arith, big, other_byte e f))
  rest_unique k deepest bs o p big (t.reference e) (t.reference f) = ap (refused (unsupported ParameterEntity)) (ap (λ z. 0x25 ∷ z) (same_behind e f))

pub name_at_left : (bs : List ℕ) (o : Outcome (List ℕ)) → NameAt bs o → left_of o ≤ length bs
name_at_left bs o (name {n = n} {after = r} a h) = name_left bs n r a
name_at_left bs o (prefix {n = n} {r = r} a) = name_left bs n (0x3A ∷ r) a
name_at_left bs o (colon e) = omega arith
name_at_left bs o (t.reference e) = omega arith

-- nothing is put back
mutual
  pub particle_left : (deepest : ℕ) (bs : List ℕ) (o : Outcome Particle) → ParticleAt deepest bs o → left_of o ≤ length bs
  particle_left deepest bs o (a_name {n = n} {rest = x} {after = r} {p = w} a s) = let k = name_at_left bs (read n x) a in let l = suffix_left (d.named n) w x r s in omega (arith, k, l)
  particle_left deepest bs o (a_name_refused {at = at} {cause = c} a) = name_at_left bs (refused c at) a
  particle_left deepest bs o (a_group {rest = x} {after = r} {g = g} {p = w} a s) = let k = group_left deepest bs (read g x) a in let l = suffix_left g w x r s in omega (arith, k, l)
  particle_left deepest bs o (a_group_refused {at = at} {cause = c} a) = group_left deepest bs (refused c at) a

  pub group_left : (deepest : ℕ) (bs : List ℕ) (o : Outcome Particle) → GroupAt deepest bs o → left_of o ≤ length bs
  group_left deepest bs o (depth e) = omega arith
  group_left deepest bs o (inside {deepest = n} {r = r} e a) =
      let k = list_left n (after_white r) o a in let l = white_left r in let m = behind_left 0x28 bs r e in omega (arith, k, l, m)

  pub list_left : (deepest : ℕ) (bs : List ℕ) (o : Outcome Particle) → ListAt deepest bs o → left_of o ≤ length bs
  list_left deepest bs o (first_refused {at = at} {cause = c} a) = particle_left deepest bs (refused c at) a
  list_left deepest bs o (a_sequence {rest = x} {p = q} {outcome = u} a l w) =
      let k = particle_left deepest bs (read q x) a in let m = rest_left comma deepest x u l in
      omega (arith, k, m, ap left_of w, left_map (λ ps. d.sequence (d.more q ps)) u)
  list_left deepest bs o (a_choice {rest = x} {p = q} {outcome = u} a e l w) =
      let k = particle_left deepest bs (read q x) a in let m = rest_left bar deepest x u l in
      omega (arith, k, m, ap left_of w, left_map (λ ps. d.choice (d.more q ps)) u)

  pub rest_left : (k deepest : ℕ) (bs : List ℕ) (o : Outcome Particles) → RestAt k deepest bs o → left_of o ≤ length bs
  rest_left k deepest bs o (closed {after = r} e) = let l = behind_white_left 0x29 bs r e in omega (arith, l)
  rest_left k deepest bs o (next_refused {r = r} {at = at} {cause = c} e a) =
      let l = behind_white_left k bs r e in let m = white_left r in let n = particle_left deepest (after_white r) (refused c at) a in omega (arith, l, m, n)
  rest_left k deepest bs o (next {r = r} {rest = x} {p = q} {outcome = u} e a b w) =
      let l = behind_white_left k bs r e in let m = white_left r in let n = particle_left deepest (after_white r) (read q x) a in let i = rest_left k deepest x u b in
      omega (arith, l, m, n, i, ap left_of w, left_map (d.more q) u)
  rest_left k deepest bs o (t.reference {r = r} e) = let l = behind_white_left 0x25 bs r e in omega (arith, l)

-- at another depth
mutual
  pub particle_kept : (e : ℕ) (deepest : ℕ) (bs : List ℕ) (o : Outcome Particle) → ParticleAt deepest bs o → IsRead o → Kept (ParticleAt e) bs o
  particle_kept e deepest bs o (a_name a s) i = inl (a_name a s)
  particle_kept e deepest bs o (a_name_refused a) i = absurd i
  particle_kept e deepest bs o (a_group {rest = x} {g = g} a s) i =
      elim (group_kept e deepest bs (read g x) a tt) [ inl b ↦ inl (a_group b s) | inr (at, b) ↦ inr (at, a_group_refused b) ]
  particle_kept e deepest bs o (a_group_refused a) i = absurd i

  pub group_kept : (e : ℕ) (deepest : ℕ) (bs : List ℕ) (o : Outcome Particle) → GroupAt deepest bs o → IsRead o → Kept (GroupAt e) bs o
  group_kept e deepest bs o (depth f) i = absurd i
  group_kept zero deepest bs o (inside f a) i = inr (bs, depth f)
  group_kept (suc e) deepest bs o (inside {deepest = n} {r = r} f a) i =
      elim (list_kept e n (after_white r) o a i) [ inl b ↦ inl (inside f b) | inr (at, b) ↦ inr (at, inside f b) ]

  pub list_kept : (e : ℕ) (deepest : ℕ) (bs : List ℕ) (o : Outcome Particle) → ListAt deepest bs o → IsRead o → Kept (ListAt e) bs o
  list_kept e deepest bs o (first_refused a) i = absurd i
  list_kept e deepest bs o (a_sequence {rest = x} {p = q} {outcome = u} a l w) i =
      elim (particle_kept e deepest bs (read q x) a tt) [
        | inl b ↦ elim (rest_kept e comma deepest x u l (read_under (λ ps. d.sequence (d.more q ps)) u o w i)) [
          | inl m ↦ inl (a_sequence b m w)
          | inr (at, m) ↦ inr (at, a_sequence b m refl)
        ]
        | inr (at, b) ↦ inr (at, first_refused b)
      ]
  list_kept e deepest bs o (a_choice {rest = x} {p = q} {outcome = u} a k l w) i =
      elim (particle_kept e deepest bs (read q x) a tt) [
        | inl b ↦ elim (rest_kept e bar deepest x u l (read_under (λ ps. d.choice (d.more q ps)) u o w i)) [
          | inl m ↦ inl (a_choice b k m w)
          | inr (at, m) ↦ inr (at, a_choice b k m refl)
        ]
        | inr (at, b) ↦ inr (at, first_refused b)
      ]

  pub rest_kept : (e : ℕ) (k deepest : ℕ) (bs : List ℕ) (o : Outcome Particles) → RestAt k deepest bs o → IsRead o → Kept (RestAt k e) bs o
  rest_kept e k deepest bs o (closed f) i = inl (closed f)
  rest_kept e k deepest bs o (next_refused f a) i = absurd i
  rest_kept e k deepest bs o (next {r = r} {rest = x} {p = q} {outcome = u} f a l w) i =
      elim (particle_kept e deepest (after_white r) (read q x) a tt) [
        | inl b ↦ elim (rest_kept e k deepest x u l (read_under (d.more q) u o w i)) [
          | inl m ↦ inl (next f b m w)
          | inr (at, m) ↦ inr (at, next f b m refl)
        ]
        | inr (at, b) ↦ inr (at, next_refused f b)
      ]
  rest_kept e k deepest bs o (t.reference f) i = inl (t.reference f)

-- mixed content

pub names_unique : (bs : List ℕ) (o p : Outcome (List (List ℕ))) → NamesAt bs o → NamesAt bs p → o ≡ p
names_unique bs o p (t.closed e) (t.closed f) = ap (read []) (same_behind e f)
names_unique bs o p (t.closed e) (t.next_refused f b) = absurd (omega (arith, other_byte e f))
names_unique bs o p (t.closed e) (t.next f b l w) = absurd (omega (arith, other_byte e f))
names_unique bs o p (t.closed e) (t.reference f) = absurd (omega (arith, other_byte e f))
names_unique bs o p (t.next_refused e a) (t.closed f) = absurd (omega (arith, other_byte e f))
names_unique bs o p (t.next_refused {r = r} {at = at} {cause = c} e a) (t.next_refused {r = s} {at = at'} {cause = c'} f b) =
    let same = name_unique (after_white r) (refused c at) (refused c' at') a (subst (λ z. NameAt (after_white z) (refused c' at')) (sym (same_behind e f)) b) in cc
names_unique bs o p (t.next_refused {r = r} {at = at} {cause = c} e a) (t.next {r = s} {n = n} {rest = x} f b l w) =
    absurd (read_not (sym (name_unique (after_white r) (refused c at) (read n x) a (subst (λ z. NameAt (after_white z) (read n x)) (sym (same_behind e f)) b))))
names_unique bs o p (t.next_refused e a) (t.reference f) = absurd (omega (arith, other_byte e f))
names_unique bs o p (t.next e a l w) (t.closed f) = absurd (omega (arith, other_byte e f))
names_unique bs o p (t.next {r = r} {n = n} {rest = x} e a l w) (t.next_refused {r = s} {at = at} {cause = c} f b) =
    absurd (read_not (name_unique (after_white r) (read n x) (refused c at) a (subst (λ z. NameAt (after_white z) (refused c at)) (sym (same_behind e f)) b)))
names_unique bs o p (t.next {r = r} {n = n} {rest = x} {outcome = u} e a l w) (t.next {r = s} {n = m} {rest = y} {outcome = u'} f b l' w') =
    let same = read_same (name_unique (after_white r) (read n x) (read m y) a (subst (λ z. NameAt (after_white z) (read m y)) (sym (same_behind e f)) b)) in
    let g : List ℕ → List (List ℕ) → List (List ℕ) = λ z ns. z ∷ ns in
    whole_same (g n) (g m) u u' o p w w' (ap g same.0) (names_unique x u u' l (subst (λ z. NamesAt z u') (sym same.1) l'))
names_unique bs o p (t.next e a l w) (t.reference f) = absurd (omega (arith, other_byte e f))
names_unique bs o p (t.reference e) (t.closed f) = absurd (omega (arith, other_byte e f))
names_unique bs o p (t.reference e) (t.next_refused f b) = absurd (omega (arith, other_byte e f))
names_unique bs o p (t.reference e) (t.next f b l w) = absurd (omega (arith, other_byte e f))
names_unique bs o p (t.reference e) (t.reference f) = ap (refused (unsupported ParameterEntity)) (ap (λ z. 0x25 ∷ z) (same_behind e f))

pub names_left : (bs : List ℕ) (o : Outcome (List (List ℕ))) → NamesAt bs o → left_of o ≤ length bs
names_left bs o (t.closed {after = r} e) = let l = behind_white_left 0x29 bs r e in omega (arith, l)
names_left bs o (t.next_refused {r = r} {at = at} {cause = c} e a) =
    let l = behind_white_left bar bs r e in let m = white_left r in let n = name_at_left (after_white r) (refused c at) a in omega (arith, l, m, n)
names_left bs o (t.next {r = r} {n = q} {rest = x} {outcome = u} e a b w) =
    let l = behind_white_left bar bs r e in let m = white_left r in let n = name_at_left (after_white r) (read q x) a in let i = names_left x u b in
    omega (arith, l, m, n, i, ap left_of w, left_map (λ ns. q ∷ ns) u)
names_left bs o (t.reference {r = r} e) = let l = behind_white_left 0x25 bs r e in omega (arith, l)

pub mixed_unique : (bs : List ℕ) (o p : Outcome Content) → MixedAt bs o → MixedAt bs p → o ≡ p
mixed_unique bs o p (no_names {after = r} a h) (no_names {after = s} b k) = ap (read (d.mixed [])) (read_same (names_unique bs (read [] r) (read [] s) a b)).1
mixed_unique bs o p (no_names {after = r} a h) (repeated {after = s} {ns = ns} b) = absurd (h s (read_same (names_unique bs (read [] r) (read ns (0x2A ∷ s)) a b)).1)
mixed_unique bs o p (no_names {after = r} a h) (names_refused {at = at} {cause = c} b) = absurd (read_not (names_unique bs (read [] r) (refused c at) a b))
mixed_unique bs o p (no_names {after = r} a h) (t.reference {n = n} {r = s} {ns = ns} b) = let e = (read_same (names_unique bs (read [] r) (read (n ∷ ns) (0x25 ∷ s)) a b)).0 in absurd (cc)
mixed_unique bs o p (repeated {after = s} {ns = ns} b) (no_names {after = r} a h) = absurd (h s (read_same (names_unique bs (read [] r) (read ns (0x2A ∷ s)) a b)).1)
mixed_unique bs o p (repeated {after = r} {ns = ns} a) (repeated {after = s} {ns = ms} b) =
    let e = read_same (names_unique bs (read ns (0x2A ∷ r)) (read ms (0x2A ∷ s)) a b) in
    ap (λ w. read (d.mixed w) r) e.0 ∙ ap (read (d.mixed ms)) (same_others e.1)
mixed_unique bs o p (repeated {after = r} {ns = ns} a) (names_refused {at = at} {cause = c} b) = absurd (read_not (names_unique bs (read ns (0x2A ∷ r)) (refused c at) a b))
mixed_unique bs o p (repeated {after = r} {ns = ns} a) (t.reference {n = n} {r = s} {ns = ms} b) =
    absurd (omega (arith, same_first (read_same (names_unique bs (read ns (0x2A ∷ r)) (read (n ∷ ms) (0x25 ∷ s)) a b)).1))
mixed_unique bs o p (names_refused {at = at} {cause = c} b) (no_names {after = r} a h) = absurd (read_not (names_unique bs (read [] r) (refused c at) a b))
mixed_unique bs o p (names_refused {at = at} {cause = c} b) (repeated {after = r} {ns = ns} a) = absurd (read_not (names_unique bs (read ns (0x2A ∷ r)) (refused c at) a b))
mixed_unique bs o p (names_refused {at = at} {cause = c} a) (names_refused {at = at'} {cause = c'} b) = let e = names_unique bs (refused c at) (refused c' at') a b in cc
mixed_unique bs o p (names_refused {at = at} {cause = c} b) (t.reference {n = n} {r = s} {ns = ms} a) = absurd (read_not (names_unique bs (read (n ∷ ms) (0x25 ∷ s)) (refused c at) a b))
mixed_unique bs o p (t.reference {n = n} {r = s} {ns = ns} b) (no_names {after = r} a h) = let e = (read_same (names_unique bs (read [] r) (read (n ∷ ns) (0x25 ∷ s)) a b)).0 in absurd (cc)
mixed_unique bs o p (t.reference {n = n} {r = s} {ns = ms} b) (repeated {after = r} {ns = ns} a) =
    absurd (omega (arith, same_first (read_same (names_unique bs (read ns (0x2A ∷ r)) (read (n ∷ ms) (0x25 ∷ s)) a b)).1))
mixed_unique bs o p (t.reference {n = n} {r = s} {ns = ms} a) (names_refused {at = at} {cause = c} b) = absurd (read_not (names_unique bs (read (n ∷ ms) (0x25 ∷ s)) (refused c at) a b))
mixed_unique bs o p (t.reference {n = n} {r = s} {ns = ns} a) (t.reference {n = m} {r = s'} {ns = ms} b) =
    ap (refused (unsupported ParameterEntity)) (read_same (names_unique bs (read (n ∷ ns) (0x25 ∷ s)) (read (m ∷ ms) (0x25 ∷ s')) a b)).1

pub mixed_left : (bs : List ℕ) (o : Outcome Content) → MixedAt bs o → left_of o ≤ length bs
mixed_left bs o (no_names {after = r} a h) = names_left bs (read [] r) a
mixed_left bs o (repeated {after = r} {ns = ns} a) = let k = names_left bs (read ns (0x2A ∷ r)) a in omega (arith, k)
mixed_left bs o (names_refused {at = at} {cause = c} a) = names_left bs (refused c at) a
mixed_left bs o (t.reference {n = n} {r = r} {ns = ns} a) = names_left bs (read (n ∷ ns) (0x25 ∷ r)) a

-- contents

no_hash : (deepest : ℕ) (bs r : List ℕ) (o : Outcome Particle) → bs ≡ 0x23 ∷ r → ParticleAt deepest bs o → ⊥
no_hash deepest bs r o e (a_name {n = n} {rest = x} a s) = hash_no_name bs r (read n x) e a
  where
    hash_no_name : (bs r : List ℕ) (o : Outcome (List ℕ)) → bs ≡ 0x23 ∷ r → NameAt bs o → ⊥
    hash_no_name bs r o e (name {n = n} {after = s} a h) = not_named 0x23 bs r n s (omega arith) refl e a
    hash_no_name bs r o e (prefix {n = n} {r = s} a) = not_named 0x23 bs r n (0x3A ∷ s) (omega arith) refl e a
    hash_no_name bs r o e (colon f) = omega (arith, other_byte e f)
    hash_no_name bs r o e (t.reference f) = omega (arith, other_byte e f)
no_hash deepest bs r o e (a_name_refused {at = at} {cause = c} a) = hash_no_name bs r (refused c at) e a
  where
    hash_no_name : (bs r : List ℕ) (o : Outcome (List ℕ)) → bs ≡ 0x23 ∷ r → NameAt bs o → ⊥
    hash_no_name bs r o e (name {n = n} {after = s} a h) = not_named 0x23 bs r n s (omega arith) refl e a
    hash_no_name bs r o e (prefix {n = n} {r = s} a) = not_named 0x23 bs r n (0x3A ∷ s) (omega arith) refl e a
    hash_no_name bs r o e (colon f) = omega (arith, other_byte e f)
    hash_no_name bs r o e (t.reference f) = omega (arith, other_byte e f)
no_hash deepest bs r o e (a_group {rest = x} {g = g} a s) = let (q, f) = group_opens deepest bs (read g x) a in omega (arith, other_byte e f)
no_hash deepest bs r o e (a_group_refused {at = at} {cause = c} a) = let (q, f) = group_opens deepest bs (refused c at) a in omega (arith, other_byte e f)

list_no_hash : (deepest : ℕ) (bs r : List ℕ) (o : Outcome Particle) → bs ≡ 0x23 ∷ r → ListAt deepest bs o → ⊥
list_no_hash deepest bs r o e (first_refused {at = at} {cause = c} a) = no_hash deepest bs r (refused c at) e a
list_no_hash deepest bs r o e (a_sequence {rest = x} {p = q} a l w) = no_hash deepest bs r (read q x) e a
list_no_hash deepest bs r o e (a_choice {rest = x} {p = q} a k l w) = no_hash deepest bs r (read q x) e a

-- mixed content is no group
pub mixed_no_group : (n deepest : ℕ) (bs r rest : List ℕ) (o : Outcome Particle) → n ≡ suc deepest → bs ≡ 0x28 ∷ r → after_white r ≡ codes "#PCDATA" ++ rest → GroupAt n bs o → ⊥
mixed_no_group n deepest bs r rest o is e f (depth g) = omega (arith, is)
mixed_no_group n deepest bs r rest o is e f (inside {deepest = m} {r = s} g a) =
    list_no_hash m (after_white s) (codes "PCDATA" ++ rest) o (ap after_white (same_behind g e) ∙ f) a

-- which kind of content stands at the front
kind_of : (deepest : ℕ) (bs : List ℕ) (o : Outcome Content) → ContentAt deepest bs o → ℕ
kind_of deepest bs o (empty e) = 0x45
kind_of deepest bs o (any e) = 0x41
kind_of deepest bs o (mixed e f a) = 0x28
kind_of deepest bs o (children a s) = 0x28
kind_of deepest bs o (children_refused a) = 0x28
kind_of deepest bs o (t.reference e) = 0x25

begins : (deepest : ℕ) (bs : List ℕ) (o : Outcome Content) (a : ContentAt deepest bs o) → (r : List ℕ) × (bs ≡ kind_of deepest bs o a ∷ r)
unfolding kind_of
begins deepest bs o (empty {after = r} e) = (codes "MPTY" ++ r, e)
begins deepest bs o (any {after = r} e) = (codes "NY" ++ r, e)
begins deepest bs o (mixed {r = r} e f a) = (r, e)
begins deepest bs o (children {rest = x} {g = g} a s) = group_opens deepest bs (read g x) a
begins deepest bs o (children_refused {at = at} {cause = c} a) = group_opens deepest bs (refused c at) a
begins deepest bs o (t.reference {r = r} e) = (r, e)

same_kind : (deepest : ℕ) (bs : List ℕ) (o p : Outcome Content) (a : ContentAt deepest bs o) (b : ContentAt deepest bs p) → kind_of deepest bs o a ≡ kind_of deepest bs p b
same_kind deepest bs o p a b = let (r, e) = begins deepest bs o a in let (s, f) = begins deepest bs p b in other_byte e f

pub content_unique : (deepest : ℕ) (bs : List ℕ) (o p : Outcome Content) → ContentAt deepest bs o → ContentAt deepest bs p → o ≡ p
unfolding kind_of
content_unique deepest bs o p a b = by deepest bs o p a b (same_kind deepest bs o p a b)
  where
    by : (n : ℕ) (bs : List ℕ) (o p : Outcome Content) (a : ContentAt n bs o) (b : ContentAt n bs p) → kind_of n bs o a ≡ kind_of n bs p b → o ≡ p
    by n bs o p (empty {after = r} e) (empty {after = s} f) i = ap (read d.nothing) (append_cancel_left (codes "EMPTY") r s (sym e ∙ f))
    by n bs o p (empty e) (any f) i = absurd (omega (arith, i))
    by n bs o p (empty e) (mixed f g b) i = absurd (omega (arith, i))
    by n bs o p (empty e) (children b s) i = absurd (omega (arith, i))
    by n bs o p (empty e) (children_refused b) i = absurd (omega (arith, i))
    by n bs o p (empty e) (t.reference f) i = absurd (omega (arith, i))
    by n bs o p (any e) (empty f) i = absurd (omega (arith, i))
    by n bs o p (any {after = r} e) (any {after = s} f) i = ap (read d.anything) (append_cancel_left (codes "ANY") r s (sym e ∙ f))
    by n bs o p (any e) (mixed f g b) i = absurd (omega (arith, i))
    by n bs o p (any e) (children b s) i = absurd (omega (arith, i))
    by n bs o p (any e) (children_refused b) i = absurd (omega (arith, i))
    by n bs o p (any e) (t.reference f) i = absurd (omega (arith, i))
    by n bs o p (mixed f g b) (empty e) i = absurd (omega (arith, i))
    by n bs o p (mixed f g b) (any e) i = absurd (omega (arith, i))
    by n bs o p (mixed {r = r} {rest = x} e f a) (mixed {r = s} {rest = y} g h b) i =
        let same : x ≡ y = append_cancel_left (codes "#PCDATA") x y (sym f ∙ (ap after_white (same_behind e g) ∙ h)) in
        mixed_unique x o p a (subst (λ z. MixedAt z p) (sym same) b)
    by n bs o p (mixed {deepest = m} {r = r} {rest = x} e f a) (children {rest = y} {g = g} b s) i = absurd (mixed_no_group n m bs r x (read g y) refl e f b)
    by n bs o p (mixed {deepest = m} {r = r} {rest = x} e f a) (children_refused {at = at} {cause = c} b) i = absurd (mixed_no_group n m bs r x (refused c at) refl e f b)
    by n bs o p (mixed f g b) (t.reference e) i = absurd (omega (arith, i))
    by n bs o p (children b s) (empty e) i = absurd (omega (arith, i))
    by n bs o p (children b s) (any e) i = absurd (omega (arith, i))
    by n bs o p (children {rest = y} {g = g} b s) (mixed {deepest = m} {r = r} {rest = x} e f a) i = absurd (mixed_no_group n m bs r x (read g y) refl e f b)
    by n bs o p (children {rest = x} {after = r} {g = g} {p = w} a s) (children {rest = y} {after = r'} {g = h} {p = v} b u) i =
        let e = read_same (then_suffix g h w v x y r r' (group_unique n bs (read g x) (read h y) a b) s u) in
        ap (λ z. read (d.children z) r) e.0 ∙ ap (read (d.children v)) e.1
    by n bs o p (children {rest = x} {g = g} a s) (children_refused {at = at} {cause = c} b) i = absurd (read_not (group_unique n bs (read g x) (refused c at) a b))
    by n bs o p (children b s) (t.reference e) i = absurd (omega (arith, i))
    by n bs o p (children_refused b) (empty e) i = absurd (omega (arith, i))
    by n bs o p (children_refused b) (any e) i = absurd (omega (arith, i))
    by n bs o p (children_refused {at = at} {cause = c} b) (mixed {deepest = m} {r = r} {rest = x} e f a) i = absurd (mixed_no_group n m bs r x (refused c at) refl e f b)
    by n bs o p (children_refused {at = at} {cause = c} b) (children {rest = x} {g = g} a s) i = absurd (read_not (group_unique n bs (read g x) (refused c at) a b))
    by n bs o p (children_refused {at = at} {cause = c} a) (children_refused {at = at'} {cause = c'} b) i = let e = group_unique n bs (refused c at) (refused c' at') a b in cc
    by n bs o p (children_refused b) (t.reference e) i = absurd (omega (arith, i))
    by n bs o p (t.reference e) (empty f) i = absurd (omega (arith, i))
    by n bs o p (t.reference e) (any f) i = absurd (omega (arith, i))
    by n bs o p (t.reference e) (mixed f g b) i = absurd (omega (arith, i))
    by n bs o p (t.reference e) (children b s) i = absurd (omega (arith, i))
    by n bs o p (t.reference e) (children_refused b) i = absurd (omega (arith, i))
    by n bs o p (t.reference e) (t.reference f) i = refl

pub content_left : (deepest : ℕ) (bs : List ℕ) (o : Outcome Content) → ContentAt deepest bs o → left_of o ≤ length bs
content_left deepest bs o (empty {after = r} e) = omega (arith, ap length e, length-append (codes "EMPTY") r)
content_left deepest bs o (any {after = r} e) = omega (arith, ap length e, length-append (codes "ANY") r)
content_left deepest bs o (mixed {r = r} {rest = x} e f a) =
    let k = mixed_left x o a in let l = white_left r in let m = behind_left 0x28 bs r e in omega (arith, k, l, m, ap length f, length-append (codes "#PCDATA") x)
content_left deepest bs o (children {rest = x} {after = r} {g = g} {p = w} a s) =
    let k = group_left deepest bs (read g x) a in let l = suffix_left g w x r s in omega (arith, k, l)
content_left deepest bs o (children_refused {at = at} {cause = c} a) = group_left deepest bs (refused c at) a
content_left deepest bs o (t.reference e) = omega arith

pub content_kept : (e : ℕ) (deepest : ℕ) (bs : List ℕ) (o : Outcome Content) → ContentAt deepest bs o → IsRead o → Kept (ContentAt e) bs o
content_kept e deepest bs o (empty f) i = inl (empty f)
content_kept e deepest bs o (any f) i = inl (any f)
content_kept zero deepest bs o (mixed f g a) i = inr (bs, children_refused (depth f))
content_kept (suc e) deepest bs o (mixed f g a) i = inl (mixed f g a)
content_kept e deepest bs o (children {rest = x} {g = g} a s) i =
    elim (group_kept e deepest bs (read g x) a tt) [ inl b ↦ inl (children b s) | inr (at, b) ↦ inr (at, children_refused b) ]
content_kept e deepest bs o (children_refused a) i = absurd i
content_kept e deepest bs o (t.reference f) i = absurd i
