use Rattle.std.proofs.Common.{◌≡◌, ◌∙◌, List, None, ap, subst, sym}
use Rattle.member_options.specs.declared.member_option.MemberOptions.{MemberOptions}
use Rattle.event_book.specs.declared.member.Member.{Member}
use Rattle.cluster_model.specs.Cluster.{cluster_after}
use Rattle.cluster_model.specs.State.{Cluster}
use Rattle.world_model.specs.Apart.{agents_apart}
use Rattle.world_stage.proofs.Comings.{changed, changed-is, remote-absent, sent-same}
use Rattle.world_flight.proofs.Tending.{numbered-fewer, tended-after, tended-looser}
use Rattle.world_stage.proofs.Worlds.{seen}
use Rattle.world_stage.proofs.stage.Stage.change.Goals as goal

pub invariant_of-self : goal.invariant_of-self
invariant_of-self c =
    let w = c.self.inside in (
      c.self.invariant.0,
      c.self.invariant.1,
      tended-looser w.index c.stir.new.self w.flight w.processes.items w.cuts c.stir.ensures.looser c.self.invariant.2,
      c.self.invariant.3,
      c.self.invariant.4,
    )

pub invariant_of-self-in_err-change_servers : goal.invariant_of-self-in_err-change_servers
invariant_of-self-in_err-change_servers c =
    let w = c.self.inside in (
      c.self.invariant.0,
      c.self.invariant.1,
      tended-looser w.index c.stir.new.self w.flight w.processes.items w.cuts c.stir.ensures.looser c.self.invariant.2,
      c.self.invariant.3,
      c.self.invariant.4,
    )

pub invariant_of-self-in_err-change_acknowledged : goal.invariant_of-self-in_err-change_acknowledged
invariant_of-self-in_err-change_acknowledged c =
    let w = c.self.inside in (
      c.self.invariant.0,
      c.self.invariant.1,
      tended-looser w.index c.stir.new.self w.flight w.processes.items w.cuts c.stir.ensures.looser c.self.invariant.2,
      c.self.invariant.3,
      c.self.invariant.4,
    )

pub invariant_of-self-2 : goal.invariant_of-self-2
invariant_of-self-2 c =
    let w = c.self.inside in
    let kind = c.args.kind.now in (
      c.self.invariant.0,
      rw (c.sent_after-self-inside.ensures, sent-same w.sent kind c.requires.comes.bare)
          (numbered-fewer w.sent w.flight c.change_flight.new.flight c.change_flight.ensures.others c.self.invariant.1),
      rw (c.change_links.ensures, c.change_processes.ensures)
          (tended-after w.index c.stir.new.self w.flight c.change_flight.new.flight w.processes.items w.cuts kind
          c.stir.ensures.looser c.in_ok-stir.ensures.woken c.change_flight.ensures.others c.self.invariant.2),
      c.self.invariant.3,
      c.self.invariant.4,
    )

pub returns : goal.returns
returns c =
    let w = c.self.inside in
    let before = seen w in
    let kind = c.args.kind.now in
    let agents = c.change_agents.ensures
    ∙ ap (λ (options : List MemberOptions).
    agents_apart w.scope options c.deref-2.result.now w.clock.0 w.agents.items kind)
    c.deref.ensures.value
    ∙ ap (λ (members : List Member). agents_apart w.scope w.options.items members w.clock.0 w.agents.items kind)
    c.deref-2.ensures.value in
    subst
    (λ (b : Cluster).
    changed before c.now_after-now.result.0 c.change_keys.new.store c.change_processes.new.processes.items
    c.change_links.new.cuts c.change_flight.new.flight c.sent_after-self-inside.result c.change_servers.new.servers
    None c.change_frozen.new.frozen.items c.change_deadlines.new.deadlines.items
    c.change_failsafe_deadlines.new.failsafe_deadlines.items c.change_holds.new.holds.items
    c.commits_after-self-inside.result c.change_acknowledged.new.told c.change_agents.new.agents.items
    ≡ cluster_after b kind)
    c.self.view_is
    (changed-is before kind c.now_after-now.result.0 c.change_keys.new.store c.change_processes.new.processes.items
    c.change_links.new.cuts c.change_flight.new.flight c.sent_after-self-inside.result c.change_servers.new.servers
    None c.change_frozen.new.frozen.items c.change_deadlines.new.deadlines.items
    c.change_failsafe_deadlines.new.failsafe_deadlines.items c.change_holds.new.holds.items
    c.commits_after-self-inside.result c.change_acknowledged.new.told c.change_agents.new.agents.items
    c.requires.comes.bare
    c.now_after-now.ensures c.change_keys.ensures c.change_processes.ensures c.change_links.ensures
    (c.change_flight.ensures.flight before.facts.clock before.facts.keys) c.sent_after-self-inside.ensures
    c.in_ok-change_servers.ensures (sym (remote-absent kind))
    c.change_frozen.ensures c.change_deadlines.ensures c.change_failsafe_deadlines.ensures
    c.change_holds.ensures c.commits_after-self-inside.ensures c.in_ok-change_acknowledged.ensures agents)
