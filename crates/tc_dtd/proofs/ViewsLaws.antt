-- What a layer of a particle is, seen as plain data.
use Rattle.std.proofs.Common.{◌≡◌, ℕ, ◌+◌, ◌<◌, List, [], ◌∷◌, ◌++◌, refl, ap, ◌∙◌, sym, map, Bor, length, get_or, drop}
use Rattle.std.proofs.lemmas.List.{drop_more}
use Rattle.tc_dtd.specs.Declarations as t
use Rattle.tc_dtd.specs.Views.{particle_list, particle_layer, particle, particles}
use Rattle.tc_dtd.specs.declared.declarations.Particle.{Particle}
use Rattle.tc_dtd.specs.declared.declarations.Particle.TheOpen as parts
use Rattle.tc_dtd.specs.declared.declarations.Particle.TheVariants as v
use Rattle.tc_dtd.specs.declared.declarations.Particle.TheFolds.{fold-roll-Particle}

pub particles_map : (ps : List Particle) → particle_list (map particle ps) ≡ particles ps
particles_map [] = refl
particles_map (q ∷ qs) = ap (t.more (particle q)) (particles_map qs)

pub see_name : (n : Bor (List ℕ)) → particle (v.Name n) ≡ t.named n.now
see_name n = ap particle (sym (v.rolls-Name n)) ∙ fold-roll-Particle t.Particle particle_layer (parts.Name n)

pub see_seq : (ps : Bor (List Particle)) → particle (v.Seq ps) ≡ t.sequence (particles ps.now)
see_seq ps = ap particle (sym (v.rolls-Seq ps)) ∙ (fold-roll-Particle t.Particle particle_layer (parts.Seq ps) ∙ ap t.sequence (particles_map ps.now))

pub see_choice : (ps : Bor (List Particle)) → particle (v.Choice ps) ≡ t.choice (particles ps.now)
see_choice ps = ap particle (sym (v.rolls-Choice ps)) ∙ (fold-roll-Particle t.Particle particle_layer (parts.Choice ps) ∙ ap t.choice (particles_map ps.now))

pub see_optional : (p : Bor Particle) → particle (v.Optional p) ≡ t.optional (particle p.now)
see_optional p = ap particle (sym (v.rolls-Optional p)) ∙ fold-roll-Particle t.Particle particle_layer (parts.Optional p)

pub see_star : (p : Bor Particle) → particle (v.Star p) ≡ t.zero_or_more (particle p.now)
see_star p = ap particle (sym (v.rolls-Star p)) ∙ fold-roll-Particle t.Particle particle_layer (parts.Star p)

pub see_plus : (p : Bor Particle) → particle (v.Plus p) ≡ t.one_or_more (particle p.now)
see_plus p = ap particle (sym (v.rolls-Plus p)) ∙ fold-roll-Particle t.Particle particle_layer (parts.Plus p)

pub ruleset see_particle = (see_name, see_seq, see_choice, see_optional, see_star, see_plus)

-- one step of a loop over a slice: what is left begins with the particle x
pub left_particle : (ps : List Particle) (i : ℕ) (x : Particle) → i < length ps → x ≡ get_or ps i x → particles (drop i ps) ≡ t.more (particle x) (particles (drop (i + 1) ps))
left_particle ps i x h e = ap particles (drop_more ps i x h) ∙ ap (λ y. t.more (particle y) (particles (drop (i + 1) ps))) (sym e)

-- the particles of the first, and then those of the second
abbrev pub particles_then : t.Particles → t.Particles → t.Particles
particles_then t.no_more qs = qs
particles_then (t.more p ps) qs = t.more p (particles_then ps qs)

pub particles_append : (ps qs : List Particle) → particles (ps ++ qs) ≡ particles_then (particles ps) (particles qs)
particles_append [] qs = refl
particles_append (p ∷ ps) qs = ap (t.more (particle p)) (particles_append ps qs)

pub pushed_particle : (ps : List Particle) (x : Particle) → particles (ps ++ x ∷ []) ≡ particles_then (particles ps) (t.more (particle x) t.no_more)
pushed_particle ps x = particles_append ps (x ∷ [])

pub particles_then_none : (ps : t.Particles) → particles_then ps t.no_more ≡ ps
particles_then_none t.no_more = refl
particles_then_none (t.more x ps) = ap (t.more x) (particles_then_none ps)

pub particles_then_assoc : (a b d : t.Particles) → particles_then (particles_then a b) d ≡ particles_then a (particles_then b d)
particles_then_assoc t.no_more b d = refl
particles_then_assoc (t.more x a) b d = ap (t.more x) (particles_then_assoc a b d)
