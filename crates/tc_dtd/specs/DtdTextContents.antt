-- Names and contents in a document type definition (XML 1.0, Fifth Edition, 3.2). A `%`, with which a reference to a parameter entity begins
-- (XML, 4.1, [69]), is refused where reading comes to it.
use Rattle.std.specs.Prelude.{◌≡◌, ◌⊎◌, ℕ, suc, List, [], ◌∷◌, ◌++◌, codes}
use Rattle.tc_base.specs.declared.reasons.Why.TheVariants.{ParameterEntity, QualifiedElementName}
use Rattle.tc_model.specs.XmlTextBytes.{BeginsWithWhite, after_white}
use Rattle.tc_model.specs.XmlTextNames.{NcNameAt}
use Rattle.tc_model.specs.XmlTextRefusals.{Cause, unsupported, too_deep}
use Rattle.tc_dtd.specs.Declarations as d
use Rattle.tc_dtd.specs.Declarations.{Particle, Particles, Content}
use Rattle.tc_dtd.specs.Outcomes.{Outcome, read, refused, outcome_map}

-- white space of which there must be some (XML, 2.3, [3] S)
pub data SpaceAt : List ℕ → Outcome (Unit {0}) → Type 0 where
  white : {bs : List ℕ} → BeginsWithWhite bs → SpaceAt bs (read tt (after_white bs))
  reference : {bs r : List ℕ} → bs ≡ 0x25 ∷ r → SpaceAt bs (refused (unsupported ParameterEntity) bs)

-- the name of an element: an NCName, as long as it goes (Namespaces in XML 1.0, 3, [4]; 4). A colon in front of it or behind it is refused
pub data NameAt : List ℕ → Outcome (List ℕ) → Type 0 where
  name : {bs n after : List ℕ} → NcNameAt bs n after → ((r : List ℕ) → after ≡ 0x3A ∷ r → ⊥) → NameAt bs (read n after)
  prefix : {bs n r : List ℕ} → NcNameAt bs n (0x3A ∷ r) → NameAt bs (refused (unsupported QualifiedElementName) (0x3A ∷ r))
  colon : {bs r : List ℕ} → bs ≡ 0x3A ∷ r → NameAt bs (refused (unsupported QualifiedElementName) bs)
  reference : {bs r : List ℕ} → bs ≡ 0x25 ∷ r → NameAt bs (refused (unsupported ParameterEntity) bs)

-- none of these bytes stands at the front
abbrev pub LacksSuffix : List ℕ → Type 0
LacksSuffix bs = (r : List ℕ) → (bs ≡ 0x3F ∷ r) ⊎ ((bs ≡ 0x2A ∷ r) ⊎ (bs ≡ 0x2B ∷ r)) → ⊥

-- a suffix behind a particle, or none (XML, 3.2.1, [47], [48])
pub data SuffixAt (p : Particle) : List ℕ → Particle → List ℕ → Type 0 where
  no_suffix : {bs : List ℕ} → LacksSuffix bs → SuffixAt p bs p bs
  question : {bs after : List ℕ} → bs ≡ 0x3F ∷ after → SuffixAt p bs (d.optional p) after
  asterisk : {bs after : List ℕ} → bs ≡ 0x2A ∷ after → SuffixAt p bs (d.zero_or_more p) after
  plus : {bs after : List ℕ} → bs ≡ 0x2B ∷ after → SuffixAt p bs (d.one_or_more p) after

-- the bytes of `|` and of `,`, which join particles
abbrev pub bar : ℕ
bar = 0x7C

abbrev pub comma : ℕ
comma = 0x2C

-- Particles, in which parentheses stand at most so deep within one another.
mutual
  -- a particle with a suffix or none ([48])
  pub data ParticleAt : ℕ → List ℕ → Outcome Particle → Type 0 where
    a_name : {deepest : ℕ} {bs n rest after : List ℕ} {p : Particle} → NameAt bs (read n rest) → SuffixAt (d.named n) rest p after → ParticleAt deepest bs (read p after)
    a_name_refused : {deepest : ℕ} {bs at : List ℕ} {cause : Cause} → NameAt bs (refused cause at) → ParticleAt deepest bs (refused cause at)
    a_group : {deepest : ℕ} {bs rest after : List ℕ} {g p : Particle} → GroupAt deepest bs (read g rest) → SuffixAt g rest p after → ParticleAt deepest bs (read p after)
    a_group_refused : {deepest : ℕ} {bs at : List ℕ} {cause : Cause} → GroupAt deepest bs (refused cause at) → ParticleAt deepest bs (refused cause at)

  -- a choice or a sequence in its parentheses ([49], [50])
  pub data GroupAt : ℕ → List ℕ → Outcome Particle → Type 0 where
    depth : {bs r : List ℕ} → bs ≡ 0x28 ∷ r → GroupAt 0 bs (refused too_deep bs)
    inside : {deepest : ℕ} {bs r : List ℕ} {outcome : Outcome Particle} → bs ≡ 0x28 ∷ r → ListAt deepest (after_white r) outcome → GroupAt (suc deepest) bs outcome

  -- what stands behind the parenthesis that opens a choice or a sequence: a choice has two particles at least
  pub data ListAt : ℕ → List ℕ → Outcome Particle → Type 0 where
    first_refused : {deepest : ℕ} {bs at : List ℕ} {cause : Cause} → ParticleAt deepest bs (refused cause at) → ListAt deepest bs (refused cause at)
    a_sequence : {deepest : ℕ} {bs rest : List ℕ} {p : Particle} {outcome : Outcome Particles} {whole : Outcome Particle} → ParticleAt deepest bs (read p rest)
        → RestAt comma deepest rest outcome → whole ≡ outcome_map (λ ps. d.sequence (d.more p ps)) outcome → ListAt deepest bs whole
    a_choice : {deepest : ℕ} {bs rest r : List ℕ} {p : Particle} {outcome : Outcome Particles} {whole : Outcome Particle} → ParticleAt deepest bs (read p rest)
        → after_white rest ≡ bar ∷ r → RestAt bar deepest rest outcome → whole ≡ outcome_map (λ ps. d.choice (d.more p ps)) outcome → ListAt deepest bs whole

  -- the particles that this byte joins to the one before, and the parenthesis that closes
  pub data RestAt : ℕ → ℕ → List ℕ → Outcome Particles → Type 0 where
    closed : {connector deepest : ℕ} {bs after : List ℕ} → after_white bs ≡ 0x29 ∷ after → RestAt connector deepest bs (read d.no_more after)
    next_refused : {connector deepest : ℕ} {bs r at : List ℕ} {cause : Cause} → after_white bs ≡ connector ∷ r → ParticleAt deepest (after_white r) (refused cause at)
        → RestAt connector deepest bs (refused cause at)
    next : {connector deepest : ℕ} {bs r rest : List ℕ} {p : Particle} {outcome whole : Outcome Particles} → after_white bs ≡ connector ∷ r
        → ParticleAt deepest (after_white r) (read p rest) → RestAt connector deepest rest outcome → whole ≡ outcome_map (d.more p) outcome
        → RestAt connector deepest bs whole
    reference : {connector deepest : ℕ} {bs r : List ℕ} → after_white bs ≡ 0x25 ∷ r → RestAt connector deepest bs (refused (unsupported ParameterEntity) (0x25 ∷ r))

-- the names of mixed content, each behind a bar, and the parenthesis that closes (XML, 3.2.2, [51])
pub data NamesAt : List ℕ → Outcome (List (List ℕ)) → Type 0 where
  closed : {bs after : List ℕ} → after_white bs ≡ 0x29 ∷ after → NamesAt bs (read [] after)
  next_refused : {bs r at : List ℕ} {cause : Cause} → after_white bs ≡ bar ∷ r → NameAt (after_white r) (refused cause at) → NamesAt bs (refused cause at)
  next : {bs r n rest : List ℕ} {outcome whole : Outcome (List (List ℕ))} → after_white bs ≡ bar ∷ r → NameAt (after_white r) (read n rest) → NamesAt rest outcome
      → whole ≡ outcome_map (λ ns. n ∷ ns) outcome → NamesAt bs whole
  reference : {bs r : List ℕ} → after_white bs ≡ 0x25 ∷ r → NamesAt bs (refused (unsupported ParameterEntity) (0x25 ∷ r))

-- mixed content behind `#PCDATA` ([51]): an asterisk may stand behind it, and must where it has names
pub data MixedAt : List ℕ → Outcome Content → Type 0 where
  no_names : {bs after : List ℕ} → NamesAt bs (read [] after) → ((r : List ℕ) → after ≡ 0x2A ∷ r → ⊥) → MixedAt bs (read (d.mixed []) after)
  repeated : {bs after : List ℕ} {ns : List (List ℕ)} → NamesAt bs (read ns (0x2A ∷ after)) → MixedAt bs (read (d.mixed ns) after)
  names_refused : {bs at : List ℕ} {cause : Cause} → NamesAt bs (refused cause at) → MixedAt bs (refused cause at)
  reference : {bs n r : List ℕ} {ns : List (List ℕ)} → NamesAt bs (read (n ∷ ns) (0x25 ∷ r)) → MixedAt bs (refused (unsupported ParameterEntity) (0x25 ∷ r))

-- a content, in which parentheses stand at most so deep within one another (XML, 3.2, [46]; 3.2.1, [47])
pub data ContentAt : ℕ → List ℕ → Outcome Content → Type 0 where
  empty : {deepest : ℕ} {bs after : List ℕ} → bs ≡ codes "EMPTY" ++ after → ContentAt deepest bs (read d.nothing after)
  any : {deepest : ℕ} {bs after : List ℕ} → bs ≡ codes "ANY" ++ after → ContentAt deepest bs (read d.anything after)
  mixed : {deepest : ℕ} {bs r rest : List ℕ} {outcome : Outcome Content} → bs ≡ 0x28 ∷ r → after_white r ≡ codes "#PCDATA" ++ rest → MixedAt rest outcome
      → ContentAt (suc deepest) bs outcome
  children : {deepest : ℕ} {bs rest after : List ℕ} {g p : Particle} → GroupAt deepest bs (read g rest) → SuffixAt g rest p after
      → ContentAt deepest bs (read (d.children p) after)
  children_refused : {deepest : ℕ} {bs at : List ℕ} {cause : Cause} → GroupAt deepest bs (refused cause at) → ContentAt deepest bs (refused cause at)
  reference : {deepest : ℕ} {bs r : List ℕ} → bs ≡ 0x25 ∷ r → ContentAt deepest bs (refused (unsupported ParameterEntity) bs)
