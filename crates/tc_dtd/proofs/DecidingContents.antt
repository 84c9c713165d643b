-- The contents at the front of any bytes.
use Rattle.std.proofs.Common.{◌≡◌, inl, inr, ℕ, zero, suc, ◌<◌, ◌≤◌, List, [], ◌∷◌, ◌++◌, refl, ap, sym, subst, length, arith, codes}
use Rattle.tc_base.specs.declared.reasons.Why.TheVariants.{ParameterEntity, QualifiedElementName}
use Rattle.tc_model.specs.XmlTextBytes.{BeginsWithWhite, after_white}
use Rattle.tc_model.specs.XmlTextNames.{NcNameAt}
use Rattle.tc_model.specs.XmlTextRefusals.{unsupported, too_deep}
use Rattle.tc_dtd.specs.Declarations as d
use Rattle.tc_dtd.specs.Declarations.{Particle, Particles, Content}
use Rattle.tc_dtd.specs.DtdTextContents as t
use Rattle.tc_dtd.specs.DtdTextContents.{SpaceAt, NameAt, LacksSuffix, SuffixAt, bar, comma, ParticleAt, GroupAt, ListAt, RestAt, NamesAt, MixedAt, ContentAt}
use Rattle.tc_dtd.specs.Outcomes.{Outcome, read, refused, outcome_map}
use Rattle.tc_dtd.proofs.ContentsUnique.{name_unique, group_opens, particle_unique, particle_left, name_at_left, names_unique, mixed_no_group}
use Rattle.tc_dtd.proofs.DecidingNames.{ncname_here, by_length}
use Rattle.tc_dtd.proofs.DecidingPhrases.{Known, begins, begins_with, same_after, some_white}
use Rattle.tc_dtd.proofs.OutcomeLaws.{read_same, read_not, same_behind, white_left, behind_left, behind_white_left}

pub space_here : (bs : List ℕ) → Known (SpaceAt bs)
space_here bs = elim (some_white bs) [
  | inl w ↦ inl (read tt (after_white bs), t.white w)
  | inr h ↦ elim (begins 0x25 bs) [ inl (r, e) ↦ inl (refused (unsupported ParameterEntity) bs, t.reference e) | inr k ↦ inr (none h k) ]
]
  where
    none : (BeginsWithWhite bs → ⊥) → ((r : List ℕ) → bs ≡ 0x25 ∷ r → ⊥) → (o : Outcome (Unit {0})) → SpaceAt bs o → ⊥
    none h k o (t.white w) = h w
    none h k o (t.reference {r = r} e) = k r e

pub name_here : (bs : List ℕ) → Known (NameAt bs)
name_here bs = elim (ncname_here bs) [
  | inl (n, (after, a)) ↦ elim (begins 0x3A after) [
    | inl (r, e) ↦ inl (refused (unsupported QualifiedElementName) (0x3A ∷ r), t.prefix (subst (NcNameAt bs n) e a))
    | inr h ↦ inl (read n after, t.name a h)
  ]
  | inr h ↦ elim (begins 0x3A bs) [
    | inl (r, e) ↦ inl (refused (unsupported QualifiedElementName) bs, t.colon e)
    | inr k ↦ elim (begins 0x25 bs) [ inl (r, e) ↦ inl (refused (unsupported ParameterEntity) bs, t.reference e) | inr i ↦ inr (none h k i) ]
  ]
]
  where
    none : ((n after : List ℕ) → NcNameAt bs n after → ⊥) → ((r : List ℕ) → bs ≡ 0x3A ∷ r → ⊥) → ((r : List ℕ) → bs ≡ 0x25 ∷ r → ⊥) → (o : Outcome (List ℕ)) → NameAt bs o → ⊥
    none h k i o (t.name {n = n} {after = after} a l) = h n after a
    none h k i o (t.prefix {n = n} {r = r} a) = h n (0x3A ∷ r) a
    none h k i o (t.colon {r = r} e) = k r e
    none h k i o (t.reference {r = r} e) = i r e

suffix_here : (p : Particle) (bs : List ℕ) → (w : Particle) × ((r : List ℕ) × SuffixAt p bs w r)
suffix_here p bs = elim (begins 0x3F bs) [
  | inl (r, e) ↦ (d.optional p, (r, t.question e))
  | inr h ↦ elim (begins 0x2A bs) [
    | inl (r, e) ↦ (d.zero_or_more p, (r, t.asterisk e))
    | inr k ↦ elim (begins 0x2B bs) [ inl (r, e) ↦ (d.one_or_more p, (r, t.plus e)) | inr i ↦ (p, (bs, t.no_suffix (lacks h k i))) ]
  ]
]
  where
    lacks : ((r : List ℕ) → bs ≡ 0x3F ∷ r → ⊥) → ((r : List ℕ) → bs ≡ 0x2A ∷ r → ⊥) → ((r : List ℕ) → bs ≡ 0x2B ∷ r → ⊥) → LacksSuffix bs
    lacks h k i r (inl e) = h r e
    lacks h k i r (inr (inl e)) = k r e
    lacks h k i r (inr (inr e)) = i r e

-- a particle: a name, or a group
particle_of_name : (deepest : ℕ) (bs : List ℕ) (o : Outcome (List ℕ)) → NameAt bs o → (q : Outcome Particle) × ParticleAt deepest bs q
particle_of_name deepest bs (read n x) a = let (w, (r, s)) = suffix_here (d.named n) x in (read w r, t.a_name a s)
particle_of_name deepest bs (refused cause at) a = (refused cause at, t.a_name_refused a)

particle_of_group : (deepest : ℕ) (bs : List ℕ) (o : Outcome Particle) → GroupAt deepest bs o → (q : Outcome Particle) × ParticleAt deepest bs q
particle_of_group deepest bs (read g x) a = let (w, (r, s)) = suffix_here g x in (read w r, t.a_group a s)
particle_of_group deepest bs (refused cause at) a = (refused cause at, t.a_group_refused a)

no_particle : (deepest : ℕ) (bs : List ℕ) → ((o : Outcome (List ℕ)) → NameAt bs o → ⊥) → ((o : Outcome Particle) → GroupAt deepest bs o → ⊥) → (o : Outcome Particle) → ParticleAt deepest bs o → ⊥
no_particle deepest bs h k o (t.a_name {n = n} {rest = x} a s) = h (read n x) a
no_particle deepest bs h k o (t.a_name_refused {at = at} {cause = c} a) = h (refused c at) a
no_particle deepest bs h k o (t.a_group {rest = x} {g = g} a s) = k (read g x) a
no_particle deepest bs h k o (t.a_group_refused {at = at} {cause = c} a) = k (refused c at) a

particle_by : (deepest : ℕ) (bs : List ℕ) → Known (NameAt bs) → Known (GroupAt deepest bs) → Known (ParticleAt deepest bs)
particle_by deepest bs (inl (o, a)) k = inl (particle_of_name deepest bs o a)
particle_by deepest bs (inr h) (inl (o, a)) = inl (particle_of_group deepest bs o a)
particle_by deepest bs (inr h) (inr k) = inr (no_particle deepest bs h k)

-- particles in parentheses, by what is known of shorter bytes
module _ (n : ℕ) (particles : (deepest : ℕ) (bs : List ℕ) → length bs < n → Known (ParticleAt deepest bs)) (rests : (k deepest : ℕ) (bs : List ℕ) → length bs < n → Known (RestAt k deepest bs)) where
  no_list : (deepest : ℕ) (bs : List ℕ) → ((o : Outcome Particle) → ParticleAt deepest bs o → ⊥) → (o : Outcome Particle) → ListAt deepest bs o → ⊥
  no_list deepest bs h o (t.first_refused {at = at} {cause = c} a) = h (refused c at) a
  no_list deepest bs h o (t.a_sequence {rest = x} {p = q} a l w) = h (read q x) a
  no_list deepest bs h o (t.a_choice {rest = x} {p = q} a e l w) = h (read q x) a

  no_others : (deepest : ℕ) (bs : List ℕ) (q : Particle) (x : List ℕ) → ParticleAt deepest bs (read q x) → ((o : Outcome Particles) → RestAt comma deepest x o → ⊥)
      → ((r : List ℕ) (o : Outcome Particles) → after_white x ≡ bar ∷ r → RestAt bar deepest x o → ⊥) → (o : Outcome Particle) → ListAt deepest bs o → ⊥
  no_others deepest bs q x a h k o (t.first_refused {at = at} {cause = c} b) = read_not (particle_unique deepest bs (read q x) (refused c at) a b)
  no_others deepest bs q x a h k o (t.a_sequence {rest = y} {p = p} {outcome = u} b l w) =
      h u (subst (λ z. RestAt comma deepest z u) (sym (read_same (particle_unique deepest bs (read q x) (read p y) a b)).1) l)
  no_others deepest bs q x a h k o (t.a_choice {rest = y} {r = r} {p = p} {outcome = u} b e l w) =
      let same = sym (read_same (particle_unique deepest bs (read q x) (read p y) a b)).1 in
      k r u (subst (λ z. after_white z ≡ bar ∷ r) same e) (subst (λ z. RestAt bar deepest z u) same l)

  list_behind : (deepest : ℕ) (bs : List ℕ) (q : Particle) (x : List ℕ) → length x < n → ParticleAt deepest bs (read q x) → Known (ListAt deepest bs)
  list_behind deepest bs q x l a = elim (rests comma deepest x l) [
    | inl (u, m) ↦ inl (outcome_map (λ ps. d.sequence (d.more q ps)) u, t.a_sequence a m refl)
    | inr h ↦ elim (begins bar (after_white x)) [
      | inr i ↦ inr (no_others deepest bs q x a h (λ r o e m. i r e))
      | inl (r, e) ↦ elim (rests bar deepest x l) [
        | inl (u, m) ↦ inl (outcome_map (λ ps. d.choice (d.more q ps)) u, t.a_choice a e m refl)
        | inr k ↦ inr (no_others deepest bs q x a h (λ s o f m. k o m))
      ]
    ]
  ]

  list_here : (deepest : ℕ) (bs : List ℕ) → length bs < n → Known (ListAt deepest bs)
  list_here deepest bs l = by (particles deepest bs l)
    where
      by : Known (ParticleAt deepest bs) → Known (ListAt deepest bs)
      by (inr h) = inr (no_list deepest bs h)
      by (inl (refused c at, a)) = inl (refused c at, t.first_refused a)
      by (inl (read q x, a)) = let m = particle_left deepest bs (read q x) a in list_behind deepest bs q x (omega (arith, l, m)) a

  no_inside : (deepest : ℕ) (bs r : List ℕ) → bs ≡ 0x28 ∷ r → ((o : Outcome Particle) → ListAt deepest (after_white r) o → ⊥) → (o : Outcome Particle) → GroupAt (suc deepest) bs o → ⊥
  no_inside deepest bs r e h o (t.inside {r = s} f b) = h o (subst (λ z. ListAt deepest (after_white z) o) (sym (same_behind e f)) b)

  group_within : (deepest : ℕ) (bs r : List ℕ) → bs ≡ 0x28 ∷ r → length (after_white r) < n → Known (GroupAt deepest bs)
  group_within zero bs r e l = inl (refused too_deep bs, t.depth e)
  group_within (suc deepest) bs r e l = elim (list_here deepest (after_white r) l) [
    | inl (o, a) ↦ inl (o, t.inside e a)
    | inr h ↦ inr (no_inside deepest bs r e h)
  ]

  group_below : (deepest : ℕ) (bs : List ℕ) → length bs ≤ n → Known (GroupAt deepest bs)
  group_below deepest bs l = elim (begins 0x28 bs) [
    | inl (r, e) ↦ let i = white_left r in let j = behind_left 0x28 bs r e in group_within deepest bs r e (omega (arith, i, j, l))
    | inr h ↦ inr (λ o a. let (r, e) = group_opens deepest bs o a in h r e)
  ]

  particle_below : (deepest : ℕ) (bs : List ℕ) → length bs ≤ n → Known (ParticleAt deepest bs)
  particle_below deepest bs l = particle_by deepest bs (name_here bs) (group_below deepest bs l)

  -- what a byte joins to a particle
  module _ (k deepest : ℕ) (bs : List ℕ) where
    abbrev NotClosed : Type 0
    NotClosed = (r : List ℕ) → after_white bs ≡ 0x29 ∷ r → ⊥

    abbrev NotReferred : Type 0
    NotReferred = (r : List ℕ) → after_white bs ≡ 0x25 ∷ r → ⊥

    no_connector : NotClosed → NotReferred → ((r : List ℕ) → after_white bs ≡ k ∷ r → ⊥) → (o : Outcome Particles) → RestAt k deepest bs o → ⊥
    no_connector h g f o (t.closed {after = r} e) = h r e
    no_connector h g f o (t.next_refused {r = r} e a) = f r e
    no_connector h g f o (t.next {r = r} e a l w) = f r e
    no_connector h g f o (t.reference {r = r} e) = g r e

    module _ (r : List ℕ) (e : after_white bs ≡ k ∷ r) (h : NotClosed) (g : NotReferred) where
      moved : (s : List ℕ) → after_white bs ≡ k ∷ s → (o : Outcome Particle) → ParticleAt deepest (after_white s) o → ParticleAt deepest (after_white r) o
      moved s f o a = subst (λ z. ParticleAt deepest (after_white z) o) (sym (same_behind e f)) a

      no_next : ((o : Outcome Particle) → ParticleAt deepest (after_white r) o → ⊥) → (o : Outcome Particles) → RestAt k deepest bs o → ⊥
      no_next i o (t.closed {after = s} f) = h s f
      no_next i o (t.next_refused {r = s} {at = at} {cause = c} f a) = i (refused c at) (moved s f (refused c at) a)
      no_next i o (t.next {r = s} {rest = x} {p = q} f a l w) = i (read q x) (moved s f (read q x) a)
      no_next i o (t.reference {r = s} f) = g s f

      no_later : (q : Particle) (x : List ℕ) → ParticleAt deepest (after_white r) (read q x) → ((o : Outcome Particles) → RestAt k deepest x o → ⊥) → (o : Outcome Particles) → RestAt k deepest bs o → ⊥
      no_later q x a i o (t.closed {after = s} f) = h s f
      no_later q x a i o (t.next_refused {r = s} {at = at} {cause = c} f b) = read_not (particle_unique deepest (after_white r) (read q x) (refused c at) a (moved s f (refused c at) b))
      no_later q x a i o (t.next {r = s} {rest = y} {p = p} {outcome = u} f b l w) =
          i u (subst (λ z. RestAt k deepest z u) (sym (read_same (particle_unique deepest (after_white r) (read q x) (read p y) a (moved s f (read p y) b))).1) l)
      no_later q x a i o (t.reference {r = s} f) = g s f

      next_here : length (after_white r) < n → Known (RestAt k deepest bs)
      next_here l = by (particles deepest (after_white r) l)
        where
          later : (q : Particle) (x : List ℕ) → ParticleAt deepest (after_white r) (read q x) → Known (RestAt k deepest x) → Known (RestAt k deepest bs)
          later q x a (inl (u, m)) = inl (outcome_map (d.more q) u, t.next e a m refl)
          later q x a (inr i) = inr (no_later q x a i)

          by : Known (ParticleAt deepest (after_white r)) → Known (RestAt k deepest bs)
          by (inr i) = inr (no_next i)
          by (inl (refused c at, a)) = inl (refused c at, t.next_refused e a)
          by (inl (read q x, a)) = let m = particle_left deepest (after_white r) (read q x) a in later q x a (rests k deepest x (omega (arith, l, m)))

    rest_below : length bs ≤ n → Known (RestAt k deepest bs)
    rest_below l = elim (begins 0x29 (after_white bs)) [
      | inl (r, e) ↦ inl (read d.no_more r, t.closed e)
      | inr h ↦ elim (begins 0x25 (after_white bs)) [
        | inl (r, e) ↦ inl (refused (unsupported ParameterEntity) (0x25 ∷ r), t.reference e)
        | inr g ↦ elim (begins k (after_white bs)) [
          | inl (r, e) ↦ let i = white_left r in let j = behind_white_left k bs r e in next_here r e h g (omega (arith, i, j, l))
          | inr f ↦ inr (no_connector h g f)
        ]
      ]
    ]

-- of bytes of any length
record Level (n : ℕ) : Type 0 where
  particles : (deepest : ℕ) (bs : List ℕ) → length bs ≤ n → Known (ParticleAt deepest bs)
  rests : (k deepest : ℕ) (bs : List ℕ) → length bs ≤ n → Known (RestAt k deepest bs)
  groups : (deepest : ℕ) (bs : List ℕ) → length bs ≤ n → Known (GroupAt deepest bs)

level : (n : ℕ) → Level n
level zero =
    let ps : (deepest : ℕ) (bs : List ℕ) → length bs < 0 → Known (ParticleAt deepest bs) = λ deepest bs l. absurd (omega (arith, l)) in
    let rs : (k deepest : ℕ) (bs : List ℕ) → length bs < 0 → Known (RestAt k deepest bs) = λ k deepest bs l. absurd (omega (arith, l)) in
    record { particles = particle_below 0 ps rs; rests = rest_below 0 ps rs; groups = group_below 0 ps rs }
level (suc n) =
    let below = level n in
    let ps : (deepest : ℕ) (bs : List ℕ) → length bs < suc n → Known (ParticleAt deepest bs) = λ deepest bs l. below.particles deepest bs (omega (arith, l)) in
    let rs : (k deepest : ℕ) (bs : List ℕ) → length bs < suc n → Known (RestAt k deepest bs) = λ k deepest bs l. below.rests k deepest bs (omega (arith, l)) in
    record { particles = particle_below (suc n) ps rs; rests = rest_below (suc n) ps rs; groups = group_below (suc n) ps rs }

group_here : (deepest : ℕ) (bs : List ℕ) → Known (GroupAt deepest bs)
group_here deepest bs = let all = level (length bs) in all.groups deepest bs (omega arith)

-- the names of mixed content
module _ (bs : List ℕ) where
  abbrev NoEnd : Type 0
  NoEnd = (r : List ℕ) → after_white bs ≡ 0x29 ∷ r → ⊥

  abbrev NoReference : Type 0
  NoReference = (r : List ℕ) → after_white bs ≡ 0x25 ∷ r → ⊥

  no_bar : NoEnd → NoReference → ((r : List ℕ) → after_white bs ≡ bar ∷ r → ⊥) → (o : Outcome (List (List ℕ))) → NamesAt bs o → ⊥
  no_bar h g f o (t.closed {after = r} e) = h r e
  no_bar h g f o (t.next_refused {r = r} e a) = f r e
  no_bar h g f o (t.next {r = r} e a l w) = f r e
  no_bar h g f o (t.reference {r = r} e) = g r e

  module _ (r : List ℕ) (e : after_white bs ≡ bar ∷ r) (h : NoEnd) (g : NoReference) where
    name_moved : (s : List ℕ) → after_white bs ≡ bar ∷ s → (o : Outcome (List ℕ)) → NameAt (after_white s) o → NameAt (after_white r) o
    name_moved s f o a = subst (λ z. NameAt (after_white z) o) (sym (same_behind e f)) a

    no_name : ((o : Outcome (List ℕ)) → NameAt (after_white r) o → ⊥) → (o : Outcome (List (List ℕ))) → NamesAt bs o → ⊥
    no_name i o (t.closed {after = s} f) = h s f
    no_name i o (t.next_refused {r = s} {at = at} {cause = c} f a) = i (refused c at) (name_moved s f (refused c at) a)
    no_name i o (t.next {r = s} {n = n} {rest = x} f a l w) = i (read n x) (name_moved s f (read n x) a)
    no_name i o (t.reference {r = s} f) = g s f

    no_names : (n x : List ℕ) → NameAt (after_white r) (read n x) → ((o : Outcome (List (List ℕ))) → NamesAt x o → ⊥) → (o : Outcome (List (List ℕ))) → NamesAt bs o → ⊥
    no_names n x a i o (t.closed {after = s} f) = h s f
    no_names n x a i o (t.next_refused {r = s} {at = at} {cause = c} f b) = read_not (name_unique (after_white r) (read n x) (refused c at) a (name_moved s f (refused c at) b))
    no_names n x a i o (t.next {r = s} {n = m} {rest = y} {outcome = u} f b l w) =
        i u (subst (λ z. NamesAt z u) (sym (read_same (name_unique (after_white r) (read n x) (read m y) a (name_moved s f (read m y) b))).1) l)
    no_names n x a i o (t.reference {r = s} f) = g s f

    names_behind : ((x : List ℕ) → length x ≤ length (after_white r) → Known (NamesAt x)) → Known (NameAt (after_white r)) → Known (NamesAt bs)
    names_behind ih (inr i) = inr (no_name i)
    names_behind ih (inl (refused c at, a)) = inl (refused c at, t.next_refused e a)
    names_behind ih (inl (read n x, a)) = later (ih x (name_at_left (after_white r) (read n x) a))
      where
        later : Known (NamesAt x) → Known (NamesAt bs)
        later (inl (u, m)) = inl (outcome_map (λ ns. n ∷ ns) u, t.next e a m refl)
        later (inr i) = inr (no_names n x a i)

names_here : (bs : List ℕ) → Known (NamesAt bs)
names_here = by_length (λ bs. Known (NamesAt bs)) step
  where
    step : (bs : List ℕ) → ((cs : List ℕ) → length cs < length bs → Known (NamesAt cs)) → Known (NamesAt bs)
    step bs ih = elim (begins 0x29 (after_white bs)) [
      | inl (r, e) ↦ inl (read [] r, t.closed e)
      | inr h ↦ elim (begins 0x25 (after_white bs)) [
        | inl (r, e) ↦ inl (refused (unsupported ParameterEntity) (0x25 ∷ r), t.reference e)
        | inr g ↦ elim (begins bar (after_white bs)) [
          | inl (r, e) ↦ let i = white_left r in let j = behind_white_left bar bs r e in names_behind bs r e h g (λ x m. ih x (omega (arith, i, j, m))) (name_here (after_white r))
          | inr f ↦ inr (no_bar bs h g f)
        ]
      ]
    ]

-- mixed content
mixed_here : (bs : List ℕ) → Known (MixedAt bs)
mixed_here bs = by (names_here bs)
  where
    none : ((o : Outcome (List (List ℕ))) → NamesAt bs o → ⊥) → (o : Outcome Content) → MixedAt bs o → ⊥
    none h o (t.no_names {after = r} a i) = h (read [] r) a
    none h o (t.repeated {after = r} {ns = ns} a) = h (read ns (0x2A ∷ r)) a
    none h o (t.names_refused {at = at} {cause = c} a) = h (refused c at) a
    none h o (t.reference {n = n} {r = r} {ns = ns} a) = h (read (n ∷ ns) (0x25 ∷ r)) a

    some_name : {n : List ℕ} {ns : List (List ℕ)} → n ∷ ns ≡ [] → ⊥
    some_name e = omega (arith, ap length e)

    no_star : (n : List ℕ) (ns : List (List ℕ)) (x : List ℕ) → NamesAt bs (read (n ∷ ns) x) → ((r : List ℕ) → x ≡ 0x2A ∷ r → ⊥) → ((r : List ℕ) → x ≡ 0x25 ∷ r → ⊥) → (o : Outcome Content) → MixedAt bs o → ⊥
    no_star n ns x a h k o (t.no_names {after = y} b i) = some_name (read_same (names_unique bs (read (n ∷ ns) x) (read [] y) a b)).0
    no_star n ns x a h k o (t.repeated {after = y} {ns = us} b) = h y (read_same (names_unique bs (read (n ∷ ns) x) (read us (0x2A ∷ y)) a b)).1
    no_star n ns x a h k o (t.names_refused {at = at} {cause = c} b) = read_not (names_unique bs (read (n ∷ ns) x) (refused c at) a b)
    no_star n ns x a h k o (t.reference {n = m} {r = r} {ns = us} b) = k r (read_same (names_unique bs (read (n ∷ ns) x) (read (m ∷ us) (0x25 ∷ r)) a b)).1

    unstarred : (ns : List (List ℕ)) (x : List ℕ) → NamesAt bs (read ns x) → ((r : List ℕ) → x ≡ 0x2A ∷ r → ⊥) → Known (MixedAt bs)
    unstarred [] x a h = inl (read (d.mixed []) x, t.no_names a h)
    unstarred (n ∷ ns) x a h = elim (begins 0x25 x) [
      | inl (r, e) ↦ inl (refused (unsupported ParameterEntity) (0x25 ∷ r), t.reference (subst (λ z. NamesAt bs (read (n ∷ ns) z)) e a))
      | inr k ↦ inr (no_star n ns x a h k)
    ]

    by : Known (NamesAt bs) → Known (MixedAt bs)
    by (inr h) = inr (none h)
    by (inl (refused c at, a)) = inl (refused c at, t.names_refused a)
    by (inl (read ns x, a)) = elim (begins 0x2A x) [
      | inl (r, e) ↦ inl (read (d.mixed ns) r, t.repeated (subst (λ z. NamesAt bs (read ns z)) e a))
      | inr h ↦ unstarred ns x a h
    ]

-- a content
abbrev NoMixed : ℕ → List ℕ → Type 0
NoMixed deepest bs = (n : ℕ) (r rest : List ℕ) → deepest ≡ suc n → bs ≡ 0x28 ∷ r → after_white r ≡ codes "#PCDATA" ++ rest → ⊥

record NoWord (bs : List ℕ) : Type 0 where
  empty : (r : List ℕ) → bs ≡ codes "EMPTY" ++ r → ⊥
  any : (r : List ℕ) → bs ≡ codes "ANY" ++ r → ⊥
  reference : (r : List ℕ) → bs ≡ 0x25 ∷ r → ⊥

no_children : (deepest : ℕ) (bs : List ℕ) → NoWord bs → NoMixed deepest bs → ((o : Outcome Particle) → GroupAt deepest bs o → ⊥) → (o : Outcome Content) → ContentAt deepest bs o → ⊥
no_children deepest bs w n h o (t.empty {after = r} e) = w.empty r e
no_children deepest bs w n h o (t.any {after = r} e) = w.any r e
no_children deepest bs w n h o (t.mixed {deepest = m} {r = r} {rest = x} e f a) = n m r x refl e f
no_children deepest bs w n h o (t.children {rest = x} {g = g} a s) = h (read g x) a
no_children deepest bs w n h o (t.children_refused {at = at} {cause = c} a) = h (refused c at) a
no_children deepest bs w n h o (t.reference {r = r} e) = w.reference r e

children_here : (deepest : ℕ) (bs : List ℕ) → NoWord bs → NoMixed deepest bs → Known (GroupAt deepest bs) → Known (ContentAt deepest bs)
children_here deepest bs w n (inr h) = inr (no_children deepest bs w n h)
children_here deepest bs w n (inl (refused c at, a)) = inl (refused c at, t.children_refused a)
children_here deepest bs w n (inl (read g x, a)) = let (v, (r, s)) = suffix_here g x in inl (read (d.children v) r, t.children a s)

no_mixed_content : (deepest : ℕ) (bs r rest : List ℕ) → NoWord bs → bs ≡ 0x28 ∷ r → after_white r ≡ codes "#PCDATA" ++ rest → ((o : Outcome Content) → MixedAt rest o → ⊥)
    → (o : Outcome Content) → ContentAt (suc deepest) bs o → ⊥
no_mixed_content deepest bs r rest w e f h o (t.empty {after = s} i) = w.empty s i
no_mixed_content deepest bs r rest w e f h o (t.any {after = s} i) = w.any s i
no_mixed_content deepest bs r rest w e f h o (t.mixed {r = s} {rest = x} i j a) =
    h o (subst (λ z. MixedAt z o) (same_after (codes "#PCDATA") (after_white r) x rest (subst (λ z. after_white z ≡ codes "#PCDATA" ++ x) (same_behind i e) j) f) a)
no_mixed_content deepest bs r rest w e f h o (t.children {rest = x} {g = g} a s) = mixed_no_group (suc deepest) deepest bs r rest (read g x) refl e f a
no_mixed_content deepest bs r rest w e f h o (t.children_refused {at = at} {cause = c} a) = mixed_no_group (suc deepest) deepest bs r rest (refused c at) refl e f a
no_mixed_content deepest bs r rest w e f h o (t.reference {r = s} i) = w.reference s i

wordless : (deepest : ℕ) (bs : List ℕ) → NoWord bs → Known (ContentAt deepest bs)
wordless zero bs w = children_here zero bs w (λ n r rest e i j. omega (arith, e)) (group_here zero bs)
wordless (suc deepest) bs w = elim (begins 0x28 bs) [
  | inr h ↦ children_here (suc deepest) bs w (λ n r rest e i j. h r i) (group_here (suc deepest) bs)
  | inl (r, e) ↦ elim (begins_with (codes "#PCDATA") (after_white r)) [
    | inr h ↦ children_here (suc deepest) bs w (λ n s rest i j k. h rest (subst (λ z. after_white z ≡ codes "#PCDATA" ++ rest) (same_behind j e) k)) (group_here (suc deepest) bs)
    | inl (rest, f) ↦ elim (mixed_here rest) [
      | inl (o, a) ↦ inl (o, t.mixed e f a)
      | inr h ↦ inr (no_mixed_content deepest bs r rest w e f h)
    ]
  ]
]

pub content_here : (deepest : ℕ) (bs : List ℕ) → Known (ContentAt deepest bs)
content_here deepest bs = elim (begins_with (codes "EMPTY") bs) [
  | inl (r, e) ↦ inl (read d.nothing r, t.empty e)
  | inr h ↦ elim (begins_with (codes "ANY") bs) [
    | inl (r, e) ↦ inl (read d.anything r, t.any e)
    | inr k ↦ elim (begins 0x25 bs) [
      | inl (r, e) ↦ inl (refused (unsupported ParameterEntity) bs, t.reference e)
      | inr g ↦ wordless deepest bs (record { empty = h; any = k; reference = g })
    ]
  ]
]
