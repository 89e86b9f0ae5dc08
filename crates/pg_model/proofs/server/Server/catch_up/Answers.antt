use Rattle.std.proofs.Common.{rules, IsSome, ap}
use Rattle.pg_model.specs.Facts.{ServerFacts}
use Rattle.pg_model.proofs.News.{caught_up}
use Rattle.pg_model.proofs.server.Server.catch_up.Goals as goal

pub returns-clause-ok : goal.returns-clause-ok
returns-clause-ok c =
    let there : IsSome c.args.self.now.log = search rules in
    caught_up c.in_ok-met.met c.args.self.now c.args.upstream.now c.meet.new.self c.args.most c.news.result
    c.self.inside.diverged c.is_current-current.result c.has_received.result there c.in_ok-met.ensures.met
    c.in_ok-met.ensures.ok
    (ap (λ (s : ServerFacts). s.diverged) c.self.view_is) c.is_current-current.ensures c.news.ensures
    c.has_received.ensures
