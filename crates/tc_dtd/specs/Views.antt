-- What contracts see of declarations in an arena: the same data without addresses.
use Rattle.std.specs.Borrow.{Bor}
use Rattle.std.specs.Prelude.{ℕ, List, [], ◌∷◌, map}
use Rattle.tc_dtd.specs.Declarations as t
use Rattle.tc_dtd.specs.declared.declarations.Particle.{Particle, Particle-F}
use Rattle.tc_dtd.specs.declared.declarations.Particle.TheFolds.{fold-Particle}
use Rattle.tc_dtd.specs.declared.declarations.Particle.TheOpen as particles_of
use Rattle.tc_dtd.specs.declared.declarations.Content.{Content}
use Rattle.tc_dtd.specs.declared.declarations.Content.TheVariants as contents
use Rattle.tc_dtd.specs.declared.declarations.Decl.{Decl}
use Rattle.tc_dtd.specs.declared.declarations.Dtd.{Dtd}

abbrev pub particle_list : List t.Particle → t.Particles
particle_list [] = t.no_more
particle_list (p ∷ ps) = t.more p (particle_list ps)

abbrev pub particle_layer : Particle-F t.Particle → t.Particle
particle_layer (particles_of.Name n) = t.named n.now
particle_layer (particles_of.Seq ps) = t.sequence (particle_list ps.now)
particle_layer (particles_of.Choice ps) = t.choice (particle_list ps.now)
particle_layer (particles_of.Optional p) = t.optional p.now
particle_layer (particles_of.Star p) = t.zero_or_more p.now
particle_layer (particles_of.Plus p) = t.one_or_more p.now

abbrev pub particle : Particle → t.Particle
particle = fold-Particle t.Particle particle_layer

abbrev pub particles : List Particle → t.Particles
particles [] = t.no_more
particles (p ∷ ps) = t.more (particle p) (particles ps)

-- names without addresses
abbrev pub names : List (Bor (List ℕ)) → List (List ℕ)
names ns = map (λ n. n.now) ns

abbrev pub content : Content → t.Content
content contents.Nothing = t.nothing
content contents.Any = t.anything
content (contents.Mixed ns) = t.mixed (names ns.now)
content (contents.Children p) = t.children (particle p)

abbrev pub declaration : Decl → t.Declaration
declaration x = record { name = x.name.now; content = content x.content }

abbrev pub declarations : Dtd → List t.Declaration
declarations x = map declaration x.decls.now
