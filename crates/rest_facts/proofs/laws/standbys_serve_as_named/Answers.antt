use Rattle.std.proofs.lemmas.Bool.Decides.{Decides-and, Decides-not, Decides-like}
use Rattle.rest_facts.proofs.Served.{ok-where, load-decides, lag-decides, standby-decides}
use Rattle.rest_facts.proofs.laws.standbys_serve_as_named.Goals as goal

pub returns-clause-named : goal.returns-clause-named
returns-clause-named c = λ view seen lag. ok-where _ (Decides-and _ _ (load-decides view) (standby-decides view seen))

pub returns-clause-unnamed : goal.returns-clause-unnamed
returns-clause-unnamed c = λ view seen lag.
    let unnamed = Decides-and _ _ (load-decides view) (Decides-not _ (standby-decides view seen)) in
    ok-where _
    (Decides-like _ (λ all. (all.0.0, all.0.1, all.1)) (λ all. ((all.0, all.1), all.2))
    (Decides-and _ _ unnamed (lag-decides view seen lag)))
