use Rattle.std.proofs.Common.{◌≡◌, ◌⊎◌, inl, inr, ◌++◌, ◌∙◌, Bor, List, ap, refl, sym}
use Rattle.std.specs.List.{filter_map}
use Rattle.std.proofs.lemmas.List.{append-nil, drop_all}
use Rattle.std.proofs.lemmas.Result.{on_ok_weaker}
use Rattle.tc_dtd.specs.Declarations.{names_in, names_in_all}
use Rattle.tc_dtd.specs.Numbers.{number_in}
use Rattle.tc_dtd.specs.Views as see
use Rattle.tc_dtd.specs.declared.declarations.Particle.{Particle}
use Rattle.tc_dtd.specs.declared.declarations.Particle.TheVariants as v
use Rattle.tc_dtd.proofs.BuiltLaws.{links_next}
use Rattle.tc_dtd.proofs.ViewsLaws.{see_name, see_seq, see_choice, see_optional, see_star, see_plus}
use Rattle.tc_dtd.proofs.links.+links.Goals as goal

of_list : (x : Particle) (ps : Bor (List Particle)) → (x ≡ v.Seq ps) ⊎ (x ≡ v.Choice ps) → names_in_all (see.particles ps.now) ≡ names_in (see.particle x)
of_list x ps (inl e) = sym (ap names_in (ap see.particle e ∙ see_seq ps))
of_list x ps (inr e) = sym (ap names_in (ap see.particle e ∙ see_choice ps))

of_part : (x : Particle) (p : Bor Particle) → (x ≡ v.Optional p) ⊎ ((x ≡ v.Star p) ⊎ (x ≡ v.Plus p)) → names_in (see.particle p.now) ≡ names_in (see.particle x)
of_part x p (inl e) = sym (ap names_in (ap see.particle e ∙ see_optional p))
of_part x p (inr (inl e)) = sym (ap names_in (ap see.particle e ∙ see_star p))
of_part x p (inr (inr e)) = sym (ap names_in (ap see.particle e ∙ see_plus p))

pub add_all_links-loop-particle-preserved : goal.add_all_links-loop-particle-preserved
add_all_links-loop-particle-preserved t c =
    links_next (number_in (see.names c.args.found.now.keys)) c.args.particles.now c.loop-particle.particle-index c.particle-item.result c.loop-particle.row.items c.add_links.new.row.items c.loop-particle-test.true c.particle-item.is
    c.in_ok-add_links.ensures
    ∙ c.loop-particle.invariant

pub add_all_links-loop-particle-init : goal.add_all_links-loop-particle-init
add_all_links-loop-particle-init t c = refl

pub add_all_links-returns : goal.add_all_links-returns
add_all_links-returns t c =
    let row = c.loop-particle.row.items in
    sym (append-nil row)
    ∙ (ap (λ (l : List Particle). row ++ filter_map (number_in (see.names c.args.found.now.keys)) (names_in_all (see.particles l))) (sym (drop_all c.loop-particle.particle-index c.args.particles.now c.loop-particle-test.false))
    ∙ c.loop-particle.invariant)

pub add_links-returns-in-Name : goal.add_links-returns-in-Name
add_links-returns-in-Name t c =
    on_ok_weaker c.add_link.result
    (λ e. e ∙ ap (λ w. c.args.row.now.items ++ filter_map (number_in (see.names c.args.found.now.keys)) w) (sym (ap names_in (ap see.particle c.in-Name.is ∙ see_name _)))) c.add_link.ensures

pub add_links-returns-in-Seq : goal.add_links-returns-in-Seq
add_links-returns-in-Seq t c =
    on_ok_weaker c.add_all_links.result
    (λ e. e ∙ ap (λ w. c.args.row.now.items ++ filter_map (number_in (see.names c.args.found.now.keys)) w) (of_list c.args.particle.now _ c.in-Seq.is)) c.add_all_links.ensures

pub add_links-returns-in-Optional : goal.add_links-returns-in-Optional
add_links-returns-in-Optional t c =
    on_ok_weaker c.add_links.result
    (λ e. e ∙ ap (λ w. c.args.row.now.items ++ filter_map (number_in (see.names c.args.found.now.keys)) w) (of_part c.args.particle.now _ c.in-Optional.is)) c.add_links.ensures
