use Rattle.std.proofs.Common.{◌≡◌, Some, false, true, arith, ap, rules, sym, subst, ◌∙◌}
use Rattle.std.specs.Prelude.{slice_get}
use Rattle.std.proofs.lemmas.Option.{slice_get_read}
use Rattle.pg_cluster.specs.Servers.{entry_at}
use Rattle.pg_model.specs.CatchingUp.{log_position_of, IsBehind}
use Rattle.pg_cluster.proofs.Clusters.{committed, without_spare-at, moved-at}
use Rattle.pg_cluster.proofs.Sights.{behind-after_entry}
use Rattle.pg_cluster.proofs.servers.Servers.commit.Goals as goal

no : false ≡ true → ⊥
no e = cc

pub invariant_of-self-2 : goal.invariant_of-self-2
invariant_of-self-2 c =
    let found : slice_get c.self.inside.servers.items c.args.place ≡ Some c.index_mut-server.result.now =
    slice_get_read c.self.inside.servers.items c.len.result c.args.place c.index_mut-server.result.now
    (search rules) (omega arith) c.index_mut-server.ensures.value in
    moved-at c.self.inside.in_step.items c.self.inside.servers.items c.args.place
    c.index_mut-server.result.now c.commit_entry.new.server false c.self.invariant found
    (subst (λ s. IsBehind (log_position_of c.index_mut-server.result.now) (log_position_of s))
    (sym c.in_ok-entry.ensures.ok)
    (behind-after_entry (entry_at (Some c.index_mut-server.result.now) c.args.serial c.args.bytes)
    c.index_mut-server.result.now))
    (λ e. absurd (no e))

pub returns-clause-entry : goal.returns-clause-entry
returns-clause-entry c =
    let found : slice_get c.self.inside.servers.items c.args.place ≡ Some c.index_mut-server.result.now =
    slice_get_read c.self.inside.servers.items c.len.result c.args.place c.index_mut-server.result.now
    (search rules) (omega arith) c.index_mut-server.ensures.value in
    sym c.in-Some.is ∙ c.in_ok-entry.ensures.entry
    ∙ sym (ap (λ s. entry_at s c.args.serial c.args.bytes) (without_spare-at _ _ _ _ c.self.view_is found))

pub returns-in_default-clause-ok : goal.returns-in_default-clause-ok
returns-in_default-clause-ok c =
    let found : slice_get c.self.inside.servers.items c.args.place ≡ Some c.index_mut-server.result.now =
    slice_get_read c.self.inside.servers.items c.len.result c.args.place c.index_mut-server.result.now
    (search rules) (omega arith) c.index_mut-server.ensures.value in
    committed _ _ _ c.index_mut-server.result.now _ c.args.serial c.args.bytes c.self.view_is found
    c.in_ok-entry.ensures.ok

pub returns-clause-ok : goal.returns-clause-ok
returns-clause-ok c =
    let found : slice_get c.self.inside.servers.items c.args.place ≡ Some c.index_mut-server.result.now =
    slice_get_read c.self.inside.servers.items c.len.result c.args.place c.index_mut-server.result.now
    (search rules) (omega arith) c.index_mut-server.ensures.value in
    committed _ _ _ c.index_mut-server.result.now _ c.args.serial c.args.bytes c.self.view_is found
    c.in_ok-entry.ensures.ok
