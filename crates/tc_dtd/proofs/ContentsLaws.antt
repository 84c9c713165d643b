-- What the steps of reading names and contents show of the whole.
use Rattle.std.proofs.Common.{◌≡◌, ◌≢◌, ◌⊎◌, inl, inr, ℕ, suc, ◌-◌, ◌<◌, List, [], ◌∷◌, ◌++◌, refl, ap, ◌∙◌, sym, subst, length, arith, codes, Bor}
use Rattle.std.proofs.lemmas.List.{append_cancel_left}
use Rattle.tc_base.specs.declared.reasons.Why.TheVariants.{ParameterEntity, QualifiedElementName}
use Rattle.tc_model.specs.XmlTextBytes.{BeginsWithWhite, after_white}
use Rattle.tc_model.specs.XmlTextNames.{NcNameAt}
use Rattle.tc_model.specs.XmlTextRefusals.{Cause, unsupported, too_deep}
use Rattle.tc_dtd.specs.Declarations as d
use Rattle.tc_dtd.specs.Declarations.{Particle, Particles, Content}
use Rattle.tc_dtd.specs.Outcomes.{Outcome, read, refused, outcome_map}
use Rattle.tc_dtd.specs.DtdTextContents as t
use Rattle.tc_dtd.specs.DtdTextContents.{SpaceAt, white, NameAt, name, prefix, colon, SuffixAt, no_suffix, question, asterisk, plus, bar, comma, ParticleAt, a_name, a_name_refused, a_group, a_group_refused, GroupAt, depth, inside, ListAt, first_refused, a_sequence, a_choice, RestAt, closed, next_refused, next, NamesAt, MixedAt, no_names, repeated, names_refused, ContentAt, empty, any, mixed, children, children_refused}
use Rattle.tc_dtd.specs.Stops.{Stops, IsUnexpected}
use Rattle.tc_dtd.specs.Views as see
use Rattle.tc_dtd.specs.declared.faults.Stop.{Stop}
use Rattle.tc_dtd.proofs.OutcomeLaws.{read_same, read_not, other_byte, same_behind, white_left, behind_white_left}
use Rattle.tc_dtd.proofs.ContentsUnique.{name_unique, no_parenthesis, group_opens, particle_unique, rest_no_bar, names_unique, name_at_left, particle_left, mixed_no_group}
use Rattle.tc_dtd.proofs.ReaderLaws.{stops_map, unexpected_stops}
use Rattle.tc_dtd.proofs.ViewsLaws.{particles_then, particles_then_none, particles_then_assoc}

-- white space and names

pub some_space : (bs rest : List ℕ) → BeginsWithWhite bs → rest ≡ after_white bs → SpaceAt bs (read tt rest)
some_space bs rest w e = subst (λ z. SpaceAt bs (read tt z)) (sym e) (white w)

pub no_space : (bs : List ℕ) (e : Stop) → (BeginsWithWhite bs → ⊥) → IsUnexpected bs e → Stops e (SpaceAt bs)
no_space bs e h = unexpected_stops (SpaceAt bs) bs e none (λ r f. t.reference f)
  where
    none : ((r : List ℕ) → bs ≡ 0x25 ∷ r → ⊥) → (o : Outcome (Unit {0})) → SpaceAt bs o → ⊥
    none k o (white w) = h w
    none k o (t.reference {r = r} f) = k r f

pub a_colon : (bs r : List ℕ) → bs ≡ 0x3A ∷ r → (at : List ℕ) × (length bs ≡ length at) × NameAt bs (refused (unsupported QualifiedElementName) at)
a_colon bs r e = (bs, refl, colon e)

pub no_name_stops : (bs : List ℕ) (e : Stop) → ((n after : List ℕ) → NcNameAt bs n after → ⊥) → ((r : List ℕ) → bs ≡ 0x3A ∷ r → ⊥) → IsUnexpected bs e → Stops e (NameAt bs)
no_name_stops bs e h c = unexpected_stops (NameAt bs) bs e none (λ r f. t.reference f)
  where
    none : ((r : List ℕ) → bs ≡ 0x25 ∷ r → ⊥) → (o : Outcome (List ℕ)) → NameAt bs o → ⊥
    none k o (name {n = n} {after = a} x y) = h n a x
    none k o (prefix {n = n} {r = r} x) = h n (0x3A ∷ r) x
    none k o (colon {r = r} f) = c r f
    none k o (t.reference {r = r} f) = k r f

pub a_prefix : (bs n rest r : List ℕ) → NcNameAt bs n rest → rest ≡ 0x3A ∷ r → (at : List ℕ) × (length rest ≡ length at) × NameAt bs (refused (unsupported QualifiedElementName) at)
a_prefix bs n rest r a e = (0x3A ∷ r, ap length e, prefix (subst (NcNameAt bs n) e a))

pub this_name : (bs n m rest : List ℕ) → NcNameAt bs n rest → ((r : List ℕ) → rest ≡ 0x3A ∷ r → ⊥) → m ≡ n → NameAt bs (read m rest)
this_name bs n m rest a h e = subst (λ w. NameAt bs (read w rest)) (sym e) (name a h)

-- suffixes

pub a_question : (p w : Particle) (bs r : List ℕ) → bs ≡ 0x3F ∷ r → w ≡ d.optional p → SuffixAt p bs w r
a_question p w bs r e f = subst (λ x. SuffixAt p bs x r) (sym f) (question e)

pub an_asterisk : (p w : Particle) (bs r : List ℕ) → bs ≡ 0x2A ∷ r → w ≡ d.zero_or_more p → SuffixAt p bs w r
an_asterisk p w bs r e f = subst (λ x. SuffixAt p bs x r) (sym f) (asterisk e)

pub a_plus : (p w : Particle) (bs r : List ℕ) → bs ≡ 0x2B ∷ r → w ≡ d.one_or_more p → SuffixAt p bs w r
a_plus p w bs r e f = subst (λ x. SuffixAt p bs x r) (sym f) (plus e)

pub lacks_suffix : (p : Particle) (bs : List ℕ) → ((r : List ℕ) → bs ≡ 0x3F ∷ r → ⊥) → ((r : List ℕ) → bs ≡ 0x2A ∷ r → ⊥) → ((r : List ℕ) → bs ≡ 0x2B ∷ r → ⊥) → SuffixAt p bs p bs
lacks_suffix p bs f g h = no_suffix none
  where
    none : (r : List ℕ) → (bs ≡ 0x3F ∷ r) ⊎ ((bs ≡ 0x2A ∷ r) ⊎ (bs ≡ 0x2B ∷ r)) → ⊥
    none r (inl e) = f r e
    none r (inr (inl e)) = g r e
    none r (inr (inr e)) = h r e

-- particles

pub named_stops : (deepest : ℕ) (bs : List ℕ) (e : Stop) → ((r : List ℕ) → bs ≡ 0x28 ∷ r → ⊥) → Stops e (NameAt bs) → Stops e (ParticleAt deepest bs)
named_stops deepest bs e h = stops_map (NameAt bs) (ParticleAt deepest bs) e back (λ c at a. a_name_refused a)
  where
    opens : (o : Outcome Particle) → GroupAt deepest bs o → ⊥
    opens o a = let (r, f) = group_opens deepest bs o a in h r f

    back : (o : Outcome Particle) → ParticleAt deepest bs o → (p : Outcome (List ℕ)) × NameAt bs p
    back o (a_name {n = n} {rest = r} a s) = (read n r, a)
    back o (a_name_refused {at = at} {cause = c} a) = (refused c at, a)
    back o (a_group {rest = r} {g = g} a s) = absurd (opens (read g r) a)
    back o (a_group_refused {at = at} {cause = c} a) = absurd (opens (refused c at) a)

pub group_stops : (deepest : ℕ) (bs r : List ℕ) (e : Stop) → bs ≡ 0x28 ∷ r → Stops e (GroupAt deepest bs) → Stops e (ParticleAt deepest bs)
group_stops deepest bs r e f = stops_map (GroupAt deepest bs) (ParticleAt deepest bs) e back (λ c at a. a_group_refused a)
  where
    back : (o : Outcome Particle) → ParticleAt deepest bs o → (p : Outcome Particle) × GroupAt deepest bs p
    back o (a_name {n = n} {rest = x} a s) = absurd (no_parenthesis bs r (read n x) f a)
    back o (a_name_refused {at = at} {cause = c} a) = absurd (no_parenthesis bs r (refused c at) f a)
    back o (a_group {rest = x} {g = g} a s) = (read g x, a)
    back o (a_group_refused {at = at} {cause = c} a) = (refused c at, a)

pub named : (deepest : ℕ) (p w : Particle) (bs n rest after : List ℕ) → NameAt bs (read n rest) → p ≡ d.named n → SuffixAt p rest w after → ParticleAt deepest bs (read w after)
named deepest p w bs n rest after a e s = a_name a (subst (λ x. SuffixAt x rest w after) e s)

pub no_group : (deepest : ℕ) (bs : List ℕ) → ((r : List ℕ) → bs ≡ 0x28 ∷ r → ⊥) → (o : Outcome Particle) → GroupAt deepest bs o → ⊥
no_group deepest bs h o a = let (r, f) = group_opens deepest bs o a in h r f

pub too_nested : (deepest : ℕ) (bs r : List ℕ) → bs ≡ 0x28 ∷ r → deepest ≡ 0 → (at : List ℕ) × (length bs ≡ length at) × GroupAt deepest bs (refused too_deep at)
too_nested deepest bs r e f = (bs, refl, subst (λ n. GroupAt n bs (refused too_deep bs)) (sym f) (depth e))

pub inside_stops : (deepest : ℕ) (bs r : List ℕ) (start : List ℕ) (e : Stop) → bs ≡ 0x28 ∷ r → deepest ≢ 0 → start ≡ after_white r → Stops e (ListAt (deepest - 1) start) → Stops e (GroupAt deepest bs)
inside_stops deepest bs r start e f some g = stops_map (ListAt (deepest - 1) start) (GroupAt deepest bs) e back forth
  where
    less : suc (deepest - 1) ≡ deepest
    less = omega (arith, some)

    forth : (c : Cause) (at : List ℕ) → ListAt (deepest - 1) start (refused c at) → GroupAt deepest bs (refused c at)
    forth c at a = subst (λ n. GroupAt n bs (refused c at)) less (inside f (subst (λ w. ListAt (deepest - 1) w (refused c at)) g a))

    by : (n : ℕ) → n ≡ deepest → (o : Outcome Particle) → GroupAt n bs o → (p : Outcome Particle) × ListAt (deepest - 1) start p
    by n i o (depth h) = absurd (some (sym i))
    by n i o (inside {deepest = m} {r = s} h a) =
        let one : m ≡ deepest - 1 = omega (arith, i) in
        (o, subst (λ k. ListAt k start o) one (subst (λ w. ListAt m w o) (ap after_white (same_behind h f) ∙ sym g) a))

    back : (o : Outcome Particle) → GroupAt deepest bs o → (p : Outcome Particle) × ListAt (deepest - 1) start p
    back = by deepest refl

pub a_list : (deepest : ℕ) (bs r start after : List ℕ) (p : Particle) → bs ≡ 0x28 ∷ r → deepest ≢ 0 → start ≡ after_white r → ListAt (deepest - 1) start (read p after) → GroupAt deepest bs (read p after)
a_list deepest bs r start after p f some g a =
    let less : suc (deepest - 1) ≡ deepest = omega (arith, some) in
    subst (λ n. GroupAt n bs (read p after)) less (inside f (subst (λ w. ListAt (deepest - 1) w (read p after)) g a))

-- lists

pub first_stops : (deepest : ℕ) (bs : List ℕ) (e : Stop) → Stops e (ParticleAt deepest bs) → Stops e (ListAt deepest bs)
first_stops deepest bs e = stops_map (ParticleAt deepest bs) (ListAt deepest bs) e back (λ c at a. first_refused a)
  where
    back : (o : Outcome Particle) → ListAt deepest bs o → (p : Outcome Particle) × ParticleAt deepest bs p
    back o (first_refused {at = at} {cause = c} a) = (refused c at, a)
    back o (a_sequence {rest = r} {p = p} a l w) = (read p r, a)
    back o (a_choice {rest = r} {p = p} a f l w) = (read p r, a)

pub choice_stops : (deepest : ℕ) (bs rest found r : List ℕ) (p : Particle) (e : Stop) → ParticleAt deepest bs (read p rest) → found ≡ after_white rest → found ≡ bar ∷ r
    → Stops e (RestAt bar deepest rest) → Stops e (ListAt deepest bs)
choice_stops deepest bs rest found r p e a i j = stops_map (RestAt bar deepest rest) (ListAt deepest bs) e back (λ c at k. a_choice a (sym i ∙ j) k refl)
  where
    back : (o : Outcome Particle) → ListAt deepest bs o → (u : Outcome Particles) × RestAt bar deepest rest u
    back o (first_refused {at = at} {cause = c} b) = absurd (read_not (particle_unique deepest bs (read p rest) (refused c at) a b))
    back o (a_sequence {rest = x} {p = q} {outcome = u} b l w) =
        let same = (read_same (particle_unique deepest bs (read q x) (read p rest) b a)).1 in
        absurd (rest_no_bar comma deepest x r u refl l (ap after_white same ∙ (sym i ∙ j)))
    back o (a_choice {rest = x} {p = q} {outcome = u} b f l w) =
        (u, subst (λ z. RestAt bar deepest z u) (read_same (particle_unique deepest bs (read q x) (read p rest) b a)).1 l)

pub sequence_stops : (deepest : ℕ) (bs rest found : List ℕ) (p : Particle) (e : Stop) → ParticleAt deepest bs (read p rest) → found ≡ after_white rest → ((r : List ℕ) → found ≡ bar ∷ r → ⊥)
    → Stops e (RestAt comma deepest rest) → Stops e (ListAt deepest bs)
sequence_stops deepest bs rest found p e a i h = stops_map (RestAt comma deepest rest) (ListAt deepest bs) e back (λ c at k. a_sequence a k refl)
  where
    back : (o : Outcome Particle) → ListAt deepest bs o → (u : Outcome Particles) × RestAt comma deepest rest u
    back o (first_refused {at = at} {cause = c} b) = absurd (read_not (particle_unique deepest bs (read p rest) (refused c at) a b))
    back o (a_sequence {rest = x} {p = q} {outcome = u} b l w) =
        (u, subst (λ z. RestAt comma deepest z u) (read_same (particle_unique deepest bs (read q x) (read p rest) b a)).1 l)
    back o (a_choice {rest = x} {r = r} {p = q} {outcome = u} b f l w) =
        let same = (read_same (particle_unique deepest bs (read q x) (read p rest) b a)).1 in
        absurd (h r (i ∙ (ap after_white (sym same) ∙ f)))

pub of_choice : (deepest : ℕ) (bs rest found r after : List ℕ) (p whole : Particle) (all : Particles) → ParticleAt deepest bs (read p rest) → found ≡ after_white rest → found ≡ bar ∷ r
    → (ps : Particles) × (all ≡ d.more p ps) × RestAt bar deepest rest (read ps after) → whole ≡ d.choice all → ListAt deepest bs (read whole after)
of_choice deepest bs rest found r after p whole all a i j (ps, e, l) f = a_choice a (sym i ∙ j) l (ap (λ w. read w after) (f ∙ ap d.choice e))

pub of_sequence : (deepest : ℕ) (bs rest after : List ℕ) (p whole : Particle) (all : Particles) → ParticleAt deepest bs (read p rest)
    → (ps : Particles) × (all ≡ d.more p ps) × RestAt comma deepest rest (read ps after) → whole ≡ d.sequence all → ListAt deepest bs (read whole after)
of_sequence deepest bs rest after p whole all a (ps, e, l) f = a_sequence a l (ap (λ w. read w after) (f ∙ ap d.sequence e))

-- the particles so far, from the front of the text to what is left of it
pub record Joins (k deepest : ℕ) (text rest : List ℕ) (first : Particle) (all : Particles) : Type 0 where
  pub others : Particles
  pub so_far : all ≡ d.more first others
  pub forth : (o : Outcome Particles) → RestAt k deepest rest o → RestAt k deepest text (outcome_map (λ ps. particles_then others ps) o)
  pub back : (o : Outcome Particles) → RestAt k deepest text o → (p : Outcome Particles) × RestAt k deepest rest p

map_nothing : (o : Outcome Particles) → outcome_map (λ ps. particles_then d.no_more ps) o ≡ o
map_nothing (read ps r) = refl
map_nothing (refused c at) = refl

pub joins_first : (k deepest : ℕ) (text : List ℕ) (first : Particle) (all : Particles) → all ≡ d.more first d.no_more → Joins k deepest text text first all
joins_first k deepest text first all e = record {
  others = d.no_more;
  so_far = e;
  forth = λ o a. subst (RestAt k deepest text) (sym (map_nothing o)) a;
  back = λ o a. (o, a);
}

map_twice : (others : Particles) (q : Particle) (o : Outcome Particles)
    → outcome_map (λ ps. particles_then others ps) (outcome_map (d.more q) o) ≡ outcome_map (λ ps. particles_then (particles_then others (d.more q d.no_more)) ps) o
map_twice others q (read ps r) = ap (λ w. read w r) (sym (particles_then_assoc others (d.more q d.no_more) ps))
map_twice others q (refused c at) = refl

pub joins_more : (k deepest : ℕ) (text rest found ahead start after : List ℕ) (first q : Particle) (all whole : Particles) → Joins k deepest text rest first all
    → 0x29 < k → found ≡ after_white rest → found ≡ k ∷ ahead → start ≡ after_white ahead → ParticleAt deepest start (read q after) → whole ≡ particles_then all (d.more q d.no_more)
    → Joins k deepest text after first whole
joins_more k deepest text rest found ahead start after first q all whole s big i j l a e = record {
  others = particles_then s.others (d.more q d.no_more);
  so_far = e ∙ ap (λ w. particles_then w (d.more q d.no_more)) s.so_far;
  forth = λ o m. subst (RestAt k deepest text) (map_twice s.others q o) (s.forth (outcome_map (d.more q) o) (t.next (sym i ∙ j) here m refl));
  back = λ o m. let (p, n) = s.back o m in behind p n;
}
  where
    here : ParticleAt deepest (after_white ahead) (read q after)
    here = subst (λ w. ParticleAt deepest w (read q after)) l a

    at_same : (r : List ℕ) (o : Outcome Particle) → after_white rest ≡ k ∷ r → ParticleAt deepest (after_white r) o → ParticleAt deepest (after_white ahead) o
    at_same r o f b = subst (λ w. ParticleAt deepest (after_white w) o) (same_behind f (sym i ∙ j)) b

    behind : (p : Outcome Particles) → RestAt k deepest rest p → (u : Outcome Particles) × RestAt k deepest after u
    behind p (closed f) = absurd (omega (arith, big, other_byte f (sym i ∙ j)))
    behind p (next_refused {r = r} {at = at} {cause = c} f b) = absurd (read_not (particle_unique deepest (after_white ahead) (read q after) (refused c at) here (at_same r (refused c at) f b)))
    behind p (t.next {r = r} {rest = x} {p = q'} {outcome = u} f b m w) =
        (u, subst (λ z. RestAt k deepest z u) (read_same (particle_unique deepest (after_white ahead) (read q' x) (read q after) (at_same r (read q' x) f b) here)).1 m)
    behind p (t.reference f) = absurd (omega (arith, big, other_byte f (sym i ∙ j)))

pub joins_stops : (k deepest : ℕ) (text rest found ahead start : List ℕ) (first : Particle) (all : Particles) (e : Stop) → Joins k deepest text rest first all
    → 0x29 < k → found ≡ after_white rest → found ≡ k ∷ ahead → start ≡ after_white ahead → Stops e (ParticleAt deepest start) → Stops e (RestAt k deepest text)
joins_stops k deepest text rest found ahead start first all e s big i j l =
    stops_map (ParticleAt deepest start) (RestAt k deepest text) e (λ o m. let (p, n) = s.back o m in by p n)
    (λ c at a. s.forth (refused c at) (next_refused (sym i ∙ j) (subst (λ w. ParticleAt deepest w (refused c at)) l a)))
  where
    there : (r : List ℕ) (o : Outcome Particle) → after_white rest ≡ k ∷ r → ParticleAt deepest (after_white r) o → ParticleAt deepest start o
    there r o f b = subst (λ w. ParticleAt deepest w o) (ap after_white (same_behind f (sym i ∙ j)) ∙ sym l) b

    by : (p : Outcome Particles) → RestAt k deepest rest p → (o : Outcome Particle) × ParticleAt deepest start o
    by p (closed f) = absurd (omega (arith, big, other_byte f (sym i ∙ j)))
    by p (next_refused {r = r} {at = at} {cause = c} f b) = (refused c at, there r (refused c at) f b)
    by p (t.next {r = r} {rest = x} {p = q} f b m w) = (read q x, there r (read q x) f b)
    by p (t.reference f) = absurd (omega (arith, big, other_byte f (sym i ∙ j)))

pub joins_end : (k deepest : ℕ) (text rest found after : List ℕ) (first : Particle) (all : Particles) → Joins k deepest text rest first all → found ≡ after_white rest → found ≡ 0x29 ∷ after
    → (ps : Particles) × (all ≡ d.more first ps) × RestAt k deepest text (read ps after)
joins_end k deepest text rest found after first all s i j =
    (s.others, s.so_far, subst (λ w. RestAt k deepest text (read w after)) (particles_then_none s.others) (s.forth (read d.no_more after) (closed (sym i ∙ j))))

pub joins_unexpected : (k deepest : ℕ) (text rest found : List ℕ) (first : Particle) (all : Particles) (e : Stop) → Joins k deepest text rest first all → found ≡ after_white rest
    → ((r : List ℕ) → found ≡ k ∷ r → ⊥) → ((r : List ℕ) → found ≡ 0x29 ∷ r → ⊥) → IsUnexpected found e → Stops e (RestAt k deepest text)
joins_unexpected k deepest text rest found first all e s i h c =
    unexpected_stops (RestAt k deepest text) found e (λ f o m. let (p, n) = s.back o m in by f p n)
    (λ r f. subst (λ w. RestAt k deepest text (refused (unsupported ParameterEntity) w)) (sym f) (s.forth (refused (unsupported ParameterEntity) (0x25 ∷ r)) (t.reference (sym i ∙ f))))
  where
    by : ((r : List ℕ) → found ≡ 0x25 ∷ r → ⊥) → (p : Outcome Particles) → RestAt k deepest rest p → ⊥
    by f p (closed {after = r} g) = c r (i ∙ g)
    by f p (next_refused {r = r} g b) = h r (i ∙ g)
    by f p (t.next {r = r} g b m w) = h r (i ∙ g)
    by f p (t.reference {r = r} g) = f r (i ∙ g)

pub joins_shorter : (k deepest : ℕ) (rest found ahead start after : List ℕ) (q : Particle) → found ≡ after_white rest → found ≡ k ∷ ahead → start ≡ after_white ahead
    → ParticleAt deepest start (read q after) → length after < length rest
joins_shorter k deepest rest found ahead start after q i j l a =
    let m = particle_left deepest start (read q after) a in let n = white_left ahead in let o = behind_white_left k rest ahead (sym i ∙ j) in
    omega (arith, m, n, o, ap length l)

-- names of mixed content

pub record Lists (text rest : List ℕ) (all : List (List ℕ)) : Type 0 where
  pub forth : (o : Outcome (List (List ℕ))) → NamesAt rest o → NamesAt text (outcome_map (λ ns. all ++ ns) o)
  pub back : (o : Outcome (List (List ℕ))) → NamesAt text o → (p : Outcome (List (List ℕ))) × NamesAt rest p

names_nothing : (o : Outcome (List (List ℕ))) → outcome_map (λ ns. [] ++ ns) o ≡ o
names_nothing (read ns r) = refl
names_nothing (refused c at) = refl

pub lists_first : (text : List ℕ) (all : List (List ℕ)) → all ≡ [] → Lists text text all
lists_first text all e = subst (Lists text text) (sym e) (record { forth = λ o a. subst (NamesAt text) (sym (names_nothing o)) a; back = λ o a. (o, a) })

assoc : (xs ys zs : List (List ℕ)) → (xs ++ ys) ++ zs ≡ xs ++ (ys ++ zs)
assoc [] ys zs = refl
assoc (x ∷ xs) ys zs = ap (λ w. x ∷ w) (assoc xs ys zs)

names_twice : (all : List (List ℕ)) (n : List ℕ) (o : Outcome (List (List ℕ))) → outcome_map (λ ns. all ++ ns) (outcome_map (λ ns. n ∷ ns) o) ≡ outcome_map (λ ns. (all ++ n ∷ []) ++ ns) o
names_twice all n (read ns r) = ap (λ w. read w r) (sym (assoc all (n ∷ []) ns))
names_twice all n (refused c at) = refl

pub lists_more : (text rest found ahead start after n : List ℕ) (all whole : List (List ℕ)) → Lists text rest all → found ≡ after_white rest → found ≡ bar ∷ ahead → start ≡ after_white ahead
    → NameAt start (read n after) → whole ≡ all ++ n ∷ [] → Lists text after whole
lists_more text rest found ahead start after n all whole s i j l a e = record {
  forth = λ o m. subst (λ w. NamesAt text (outcome_map (λ ns. w ++ ns) o)) (sym e) (subst (NamesAt text) (names_twice all n o) (s.forth (outcome_map (λ ns. n ∷ ns) o) (t.next (sym i ∙ j) here m refl)));
  back = λ o m. let (p, k) = s.back o m in behind p k;
}
  where
    here : NameAt (after_white ahead) (read n after)
    here = subst (λ w. NameAt w (read n after)) l a

    at_same : (r : List ℕ) (o : Outcome (List ℕ)) → after_white rest ≡ bar ∷ r → NameAt (after_white r) o → NameAt (after_white ahead) o
    at_same r o f b = subst (λ w. NameAt (after_white w) o) (same_behind f (sym i ∙ j)) b

    behind : (p : Outcome (List (List ℕ))) → NamesAt rest p → (u : Outcome (List (List ℕ))) × NamesAt after u
    behind p (t.closed f) = absurd (omega (arith, other_byte f (sym i ∙ j)))
    behind p (t.next_refused {r = r} {at = at} {cause = c} f b) = absurd (read_not (name_unique (after_white ahead) (read n after) (refused c at) here (at_same r (refused c at) f b)))
    behind p (t.next {r = r} {n = m} {rest = x} {outcome = u} f b k w) =
        (u, subst (λ z. NamesAt z u) (read_same (name_unique (after_white ahead) (read m x) (read n after) (at_same r (read m x) f b) here)).1 k)
    behind p (t.reference f) = absurd (omega (arith, other_byte f (sym i ∙ j)))

pub lists_stops : (text rest found ahead start : List ℕ) (all : List (List ℕ)) (e : Stop) → Lists text rest all → found ≡ after_white rest → found ≡ bar ∷ ahead → start ≡ after_white ahead
    → Stops e (NameAt start) → Stops e (NamesAt text)
lists_stops text rest found ahead start all e s i j l =
    stops_map (NameAt start) (NamesAt text) e (λ o m. let (p, n) = s.back o m in by p n)
    (λ c at a. s.forth (refused c at) (t.next_refused (sym i ∙ j) (subst (λ w. NameAt w (refused c at)) l a)))
  where
    there : (r : List ℕ) (o : Outcome (List ℕ)) → after_white rest ≡ bar ∷ r → NameAt (after_white r) o → NameAt start o
    there r o f b = subst (λ w. NameAt w o) (ap after_white (same_behind f (sym i ∙ j)) ∙ sym l) b

    by : (p : Outcome (List (List ℕ))) → NamesAt rest p → (o : Outcome (List ℕ)) × NameAt start o
    by p (t.closed f) = absurd (omega (arith, other_byte f (sym i ∙ j)))
    by p (t.next_refused {r = r} {at = at} {cause = c} f b) = (refused c at, there r (refused c at) f b)
    by p (t.next {r = r} {n = n} {rest = x} f b m w) = (read n x, there r (read n x) f b)
    by p (t.reference f) = absurd (omega (arith, other_byte f (sym i ∙ j)))

nothing_behind : (xs : List (List ℕ)) → xs ++ [] ≡ xs
nothing_behind [] = refl
nothing_behind (x ∷ xs) = ap (λ w. x ∷ w) (nothing_behind xs)

pub lists_end : (text rest found after : List ℕ) (all : List (List ℕ)) → Lists text rest all → found ≡ after_white rest → found ≡ 0x29 ∷ after → NamesAt text (read all after)
lists_end text rest found after all s i j = subst (λ w. NamesAt text (read w after)) (nothing_behind all) (s.forth (read [] after) (t.closed (sym i ∙ j)))

pub lists_unexpected : (text rest found : List ℕ) (all : List (List ℕ)) (e : Stop) → Lists text rest all → found ≡ after_white rest
    → ((r : List ℕ) → found ≡ bar ∷ r → ⊥) → ((r : List ℕ) → found ≡ 0x29 ∷ r → ⊥) → IsUnexpected found e → Stops e (NamesAt text)
lists_unexpected text rest found all e s i h c =
    unexpected_stops (NamesAt text) found e (λ f o m. let (p, n) = s.back o m in by f p n)
    (λ r f. subst (λ w. NamesAt text (refused (unsupported ParameterEntity) w)) (sym f) (s.forth (refused (unsupported ParameterEntity) (0x25 ∷ r)) (t.reference (sym i ∙ f))))
  where
    by : ((r : List ℕ) → found ≡ 0x25 ∷ r → ⊥) → (p : Outcome (List (List ℕ))) → NamesAt rest p → ⊥
    by f p (t.closed {after = r} g) = c r (i ∙ g)
    by f p (t.next_refused {r = r} g b) = h r (i ∙ g)
    by f p (t.next {r = r} g b m w) = h r (i ∙ g)
    by f p (t.reference {r = r} g) = f r (i ∙ g)

pub lists_shorter : (rest found ahead start after n : List ℕ) → found ≡ after_white rest → found ≡ bar ∷ ahead → start ≡ after_white ahead → NameAt start (read n after) → length after < length rest
lists_shorter rest found ahead start after n i j l a =
    let m = name_at_left start (read n after) a in let k = white_left ahead in let o = behind_white_left bar rest ahead (sym i ∙ j) in
    omega (arith, m, k, o, ap length l)

-- contents

pub names_stop : (bs : List ℕ) (e : Stop) → Stops e (NamesAt bs) → Stops e (MixedAt bs)
names_stop bs e = stops_map (NamesAt bs) (MixedAt bs) e back (λ c at a. names_refused a)
  where
    back : (o : Outcome Content) → MixedAt bs o → (p : Outcome (List (List ℕ))) × NamesAt bs p
    back o (no_names {after = r} a h) = (read [] r, a)
    back o (repeated {after = r} {ns = ns} a) = (read ns (0x2A ∷ r), a)
    back o (names_refused {at = at} {cause = c} a) = (refused c at, a)
    back o (t.reference {n = n} {r = r} {ns = ns} a) = (read (n ∷ ns) (0x25 ∷ r), a)

pub with_asterisk : (bs rest after : List ℕ) (ns : List (List ℕ)) → NamesAt bs (read ns rest) → rest ≡ 0x2A ∷ after → MixedAt bs (read (d.mixed ns) after)
with_asterisk bs rest after ns a e = repeated (subst (λ w. NamesAt bs (read ns w)) e a)

pub without_names : (bs rest : List ℕ) (ns : List (List ℕ)) → NamesAt bs (read ns rest) → ((r : List ℕ) → rest ≡ 0x2A ∷ r → ⊥) → ns ≡ [] → MixedAt bs (read (d.mixed ns) rest)
without_names bs rest ns a h e = subst (λ w. MixedAt bs (read (d.mixed w) rest)) (sym e) (no_names (subst (λ w. NamesAt bs (read w rest)) e a) h)

pub no_members : (ns : List (Bor (List ℕ))) → length ns ≡ 0 → see.names ns ≡ []
no_members [] e = refl
no_members (n ∷ ns) e = absurd (omega (arith, e))

pub some_members : (ns : List (Bor (List ℕ))) → length ns ≢ 0 → see.names ns ≢ []
some_members [] n e = n refl
some_members (m ∷ ns) n e = cc

pub no_asterisk : (bs rest : List ℕ) (ns : List (List ℕ)) (e : Stop) → NamesAt bs (read ns rest) → ((r : List ℕ) → rest ≡ 0x2A ∷ r → ⊥) → ns ≢ [] → IsUnexpected rest e → Stops e (MixedAt bs)
no_asterisk bs rest ns e a h some = unexpected_stops (MixedAt bs) rest e none (λ r f. there ns a some r f)
  where
    there : (ms : List (List ℕ)) → NamesAt bs (read ms rest) → ms ≢ [] → (r : List ℕ) → rest ≡ 0x25 ∷ r → MixedAt bs (refused (unsupported ParameterEntity) rest)
    there [] b n r f = absurd (n refl)
    there (m ∷ ms) b n r f = subst (λ w. MixedAt bs (refused (unsupported ParameterEntity) w)) (sym f) (t.reference (subst (λ w. NamesAt bs (read (m ∷ ms) w)) f b))

    none : ((r : List ℕ) → rest ≡ 0x25 ∷ r → ⊥) → (o : Outcome Content) → MixedAt bs o → ⊥
    none f o (no_names {after = r} b k) = some (read_same (names_unique bs (read ns rest) (read [] r) a b)).0
    none f o (repeated {after = r} {ns = ms} b) = h r (read_same (names_unique bs (read ns rest) (read ms (0x2A ∷ r)) a b)).1
    none f o (names_refused {at = at} {cause = c} b) = read_not (names_unique bs (read ns rest) (refused c at) a b)
    none f o (t.reference {n = m} {r = r} {ns = ms} b) = f r (read_same (names_unique bs (read ns rest) (read (m ∷ ms) (0x25 ∷ r)) a b)).1

pub a_mixed : (deepest : ℕ) (bs rest after : List ℕ) (x : Content) → 0 < deepest → (r : List ℕ) × (bs ≡ 0x28 ∷ r) × (after_white r ≡ codes "#PCDATA" ++ rest) → MixedAt rest (read x after)
    → ContentAt deepest bs (read x after)
a_mixed deepest bs rest after x some (r, e, f) a =
    let less : suc (deepest - 1) ≡ deepest = omega (arith, some) in subst (λ n. ContentAt n bs (read x after)) less (mixed e f a)

pub mixed_stops : (deepest : ℕ) (bs rest : List ℕ) (e : Stop) → 0 < deepest → (r : List ℕ) × (bs ≡ 0x28 ∷ r) × (after_white r ≡ codes "#PCDATA" ++ rest) → Stops e (MixedAt rest)
    → Stops e (ContentAt deepest bs)
mixed_stops deepest bs rest e some (r, f, g) = stops_map (MixedAt rest) (ContentAt deepest bs) e (by deepest refl) forth
  where
    forth : (c : Cause) (at : List ℕ) → MixedAt rest (refused c at) → ContentAt deepest bs (refused c at)
    forth c at a = let less : suc (deepest - 1) ≡ deepest = omega (arith, some) in subst (λ n. ContentAt n bs (refused c at)) less (mixed f g a)

    by : (n : ℕ) → n ≡ deepest → (o : Outcome Content) → ContentAt n bs o → (p : Outcome Content) × MixedAt rest p
    by n i o (empty h) = absurd (omega (arith, other_byte h f))
    by n i o (any h) = absurd (omega (arith, other_byte h f))
    by n i o (mixed {r = s} {rest = x} h k a) =
        (o, subst (λ w. MixedAt w o) (append_cancel_left (codes "#PCDATA") x rest (sym k ∙ (ap after_white (same_behind h f) ∙ g))) a)
    by n i o (children {rest = x} {g = q} a s) = absurd (mixed_no_group n (deepest - 1) bs r rest (read q x) (omega (arith, some, i)) f g a)
    by n i o (children_refused {at = at} {cause = c} a) = absurd (mixed_no_group n (deepest - 1) bs r rest (refused c at) (omega (arith, some, i)) f g a)
    by n i o (t.reference h) = absurd (omega (arith, other_byte h f))

pub no_content : (deepest : ℕ) (bs : List ℕ) (e : Stop) → ((r : List ℕ) → bs ≡ codes "EMPTY" ++ r → ⊥) → ((r : List ℕ) → bs ≡ codes "ANY" ++ r → ⊥) → ((r : List ℕ) → bs ≡ 0x28 ∷ r → ⊥)
    → IsUnexpected bs e → Stops e (ContentAt deepest bs)
no_content deepest bs e f g h = unexpected_stops (ContentAt deepest bs) bs e (none deepest) (λ r i. t.reference i)
  where
    none : (n : ℕ) → ((r : List ℕ) → bs ≡ 0x25 ∷ r → ⊥) → (o : Outcome Content) → ContentAt n bs o → ⊥
    none n k o (empty {after = r} i) = f r i
    none n k o (any {after = r} i) = g r i
    none n k o (mixed {r = r} i j a) = h r i
    none n k o (children {rest = x} {g = q} a s) = no_group n bs h (read q x) a
    none n k o (children_refused {at = at} {cause = c} a) = no_group n bs h (refused c at) a
    none n k o (t.reference {r = r} i) = k r i

pub children_stop : (deepest : ℕ) (bs r : List ℕ) (e : Stop) → bs ≡ 0x28 ∷ r → ((r rest : List ℕ) → bs ≡ 0x28 ∷ r → after_white r ≡ codes "#PCDATA" ++ rest → ⊥)
    → Stops e (GroupAt deepest bs) → Stops e (ContentAt deepest bs)
children_stop deepest bs r e f h = stops_map (GroupAt deepest bs) (ContentAt deepest bs) e (back deepest) (λ c at a. children_refused a)
  where
    back : (n : ℕ) → (o : Outcome Content) → ContentAt n bs o → (p : Outcome Particle) × GroupAt n bs p
    back n o (empty i) = absurd (omega (arith, other_byte i f))
    back n o (any i) = absurd (omega (arith, other_byte i f))
    back n o (mixed {r = s} {rest = x} i j a) = absurd (h s x i j)
    back n o (children {rest = x} {g = q} a s) = (read q x, a)
    back n o (children_refused {at = at} {cause = c} a) = (refused c at, a)
    back n o (t.reference i) = absurd (omega (arith, other_byte i f))
