use Rattle.std.proofs.Common.{◌≡◌, ℕ, Option, MatchOption, sym}
use Rattle.std.proofs.lemmas.Result.{IfOk-weaker}
use Rattle.tc_close.specs.Certified.{HasLongCertificate, IsLeastCertificate}
use Rattle.tc_close.specs.Decisions.{KeepsCounts}
use Rattle.tc_close.specs.Settling.{IsSettled}
use Rattle.tc_close.proofs.Verdicts.{keeps}
use Rattle.tc_model.specs.declared.lists.CertData.{CertData}
use Rattle.tc_rows.specs.Triples.{Triple}
use Rattle.tc_close.proofs.proof.certified.Goals as goal

pub cert_data-requires-clause-all : goal.cert_data-requires-clause-all
cert_data-requires-clause-all g c =
    let settled = c.requires in
    record {
      closed = settled.closure.closed;
      derive = record {
        hedges = λ u l. let (n, d, capped) = settled.closure.kept.hedges_derive u l in (n, d);
        trees = λ u l. let (n, d, capped) = settled.closure.kept.trees_derive u l in (n, d);
      };
      trees = settled.trees;
      hedges = settled.hedges;
    }

pub returns-clause-same : goal.returns-clause-same
returns-clause-same g c = c.cert_data.ensures.same

pub returns-clause-data : goal.returns-clause-data
returns-clause-data g c = c.cert_data.ensures.data

pub returns-clause-keeps : goal.returns-clause-keeps
returns-clause-keeps g c =
    IfOk-weaker c.cert_data.result (λ (o : Option CertData). (x : Triple) → g.K.Over.is_of x → MatchOption o (HasLongCertificate x) (IsLeastCertificate x))
    (λ (o : Option CertData). (x : Triple) (most : ℕ) → g.K.Over.is_of x → IsSettled g.K.Over.is_of c.args.rows.now c.args.closed.now most → KeepsCounts x most)
    (λ o _ x most is settled. keeps x c.args.rows.now g.K.Over.is_of is c.cert_data.ensures.known c.args.closed.now settled.closure most (sym c.if-not-is_whole.ensures) settled.trees settled.hedges)
    c.cert_data.ensures.data
