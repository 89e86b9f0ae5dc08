-- What agents send that is an action of its own: messages of which
-- commits read nothing, and answers to members that ask.
use Rattle.std.proofs.Common.{ℕ, ◌≡◌, ◌+◌, nat_le, Bool, true, false, List, length, slice_get, Option, Some, None, option_map, refl, ◌∙◌, ap, sym}
use Rattle.std.specs.Option.{ForSome}
use Rattle.pat_base.specs.declared.lsn.Lsn.{Lsn}
use Rattle.pat_base.specs.declared.member_id.MemberId.{MemberId}
use Rattle.pat_base.specs.declared.peer_answer.PeerAnswer.{PeerAnswer}
use Rattle.wal_model.specs.declared.entry.Entry.{Entry}
use Rattle.wal_model.specs.Log.{end_of}
use Rattle.pg_model.specs.Facts.{entries_of}
use Rattle.event_book.specs.declared.agent_process.AgentProcess.{AgentProcess}
use Rattle.event_book.specs.declared.event.EventKind.{EventKind}
use Rattle.event_book.specs.declared.event.EventKind.TheVariants as kinds
use Rattle.event_book.specs.declared.event.MessageEvent.TheVariants.{Lost, Sent}
use Rattle.event_book.specs.declared.link.LinkEnd.TheVariants as ends
use Rattle.event_book.specs.declared.member.Member.{Member}
use Rattle.event_book.specs.declared.message.Body.{Body}
use Rattle.event_book.specs.declared.message.Body.TheVariants as bodies
use Rattle.event_book.specs.declared.message.Message.{Message}
use Rattle.event_book.specs.Functions.{put_at}
use Rattle.agent_model.specs.declared.output.Target.TheVariants as targets
use Rattle.agent_commit_law.specs.Committing.{IsQuietBody}
use Rattle.agent_roles.specs.Asks.{IsAsk}
use Rattle.cluster_model.specs.Cluster.{cluster_after}
use Rattle.cluster_model.specs.Limits.{most_in_flight}
use Rattle.cluster_model.specs.Messages.{agent_message, lost_at_once, receiver_of, replying_events, send_events, sending_events}
use Rattle.cluster_model.specs.Parts.{event_of, events_of}
use Rattle.cluster_model.specs.State.{Cluster}
use Rattle.commit_actions.specs.Actions.{AnswerRace, IsNumbered, Lose}
use Rattle.commit_actions.specs.Flights.{Flying}
use Rattle.commit_actions.specs.Past.{Past, Setup, flying_of, past_over, race_answer_of, state_of}
use Rattle.commit_actions.specs.States.{State}
use Rattle.commit_showing.proofs.ShownMessages.{lost-shown, race-answer-shown}
use Rattle.commit_servers.specs.Acting.{Fits}
use Rattle.commit_parts.specs.Reading.{volatile_of}
use Rattle.commit_outputs.proofs.Covering.{failsafe-says, SaysNothing, ask-says, quiet-says}
use Rattle.commit_outputs.specs.Answering.{LogEndsAt}
use Rattle.commit_parts.proofs.Moving.{moves-none, moves-one, moves-then}
use Rattle.commit_parts.specs.Moving.{Moves}

module _ (setup : Setup) where
  pub lost-moves : (past : Past) (cluster : Cluster) (test : Bool) (number : ℕ)
      → Fits past cluster.facts (volatile_of cluster)
      → Moves setup past cluster (events_of cluster (lost_at_once test number))
  lost-moves past cluster true number fits =
      moves-one setup past (volatile_of cluster) cluster (kinds.Message (Lost number)) (Lose number) fits.same
      fits.sound tt tt tt (lost-shown setup past (volatile_of cluster) (record { 0 = cluster.facts.clock }) number)
  lost-moves past cluster false number fits = moves-none setup past cluster fits

  -- what is sent may be lost at once
  pub send-moves : (past : Past) (cluster : Cluster) (message : Message)
      → Moves setup past cluster (event_of cluster (kinds.Message (Sent (cluster.facts.sent + 1) message)))
      → Moves setup past cluster (send_events cluster message)
  send-moves past cluster message sent =
      let kind : EventKind = kinds.Message (Sent (cluster.facts.sent + 1) message) in
      let later : Cluster = cluster_after cluster kind in
      let test : Bool = nat_le most_in_flight (length cluster.facts.flight) in
      moves-then setup past cluster (event_of cluster kind)
      (events_of later (lost_at_once test (cluster.facts.sent + 1))) sent
      (λ fits. lost-moves (past_over past (event_of cluster kind)) later test (cluster.facts.sent + 1) fits)

  -- a message of which commits read nothing is one that is lost
  pub silent-moves : (past : Past) (cluster : Cluster) (message : Message)
      → Fits past cluster.facts (volatile_of cluster) → SaysNothing past message
      → Moves setup past cluster (send_events cluster message)
  silent-moves past cluster message fits says =
      let number : ℕ = cluster.facts.sent + 1 in
      let flying : Option Flying =
      flying_of past message.from message.to message.incarnation message.sequence message.body in
      let before : State = state_of setup past (volatile_of cluster) in
      send-moves past cluster message
      (moves-one setup past (volatile_of cluster) cluster (kinds.Message (Sent number message))
      (Lose number) fits.same fits.sound tt tt tt
      (ap (λ (live : Bool). record before { holder_was_live = live; flight = put_at past.flight number flying })
      says.live
      ∙ ap (λ (o : Option Flying). record before { flight = put_at past.flight number o }) says.flying))

  module _ (member : Member) where
    -- ---- questions
    pub question-moves : (past : Past) (cluster : Cluster) (found : Option AgentProcess) (sequence : ℕ) (body : Body)
        → Fits past cluster.facts (volatile_of cluster) → IsQuietBody body
        → Moves setup past cluster (sending_events cluster member found (Some ends.Store) sequence body)
    question-moves past cluster None sequence body fits quiet = moves-none setup past cluster fits
    question-moves past cluster (Some process) sequence body fits quiet =
        silent-moves past cluster (agent_message member ends.Store process.incarnation sequence body) fits
        (quiet-says past member process.incarnation sequence body quiet)

    -- members send others nothing but asks
    pub member-moves : (past : Past) (cluster : Cluster) (found : Option AgentProcess) (peer : Option Member)
        (sequence : ℕ) (body : Body) → Fits past cluster.facts (volatile_of cluster) → IsAsk body
        → Moves setup past cluster
        (sending_events cluster member found (option_map (λ (p : Member). ends.Member p) peer) sequence body)
    member-moves past cluster None peer sequence body fits ask = moves-none setup past cluster fits
    member-moves past cluster (Some process) None sequence body fits ask = moves-none setup past cluster fits
    member-moves past cluster (Some process) (Some peer) sequence body fits ask =
        silent-moves past cluster (agent_message member (ends.Member peer) process.incarnation sequence body) fits
        (ask-says past member peer process.incarnation sequence body ask)

    -- what a member answers one that asks to stay primary
    pub failsafe-moves : (past : Past) (cluster : Cluster) (peer : Option Member) (incarnation sequence : ℕ)
        (accepted : Bool) → Fits past cluster.facts (volatile_of cluster)
        → Moves setup past cluster
        (replying_events cluster member (option_map (λ (p : Member). ends.Member p) peer) incarnation sequence
        (bodies.FailsafeAnswer accepted))
    failsafe-moves past cluster None incarnation sequence accepted fits = moves-none setup past cluster fits
    failsafe-moves past cluster (Some peer) incarnation sequence accepted fits =
        silent-moves past cluster
        (agent_message member (ends.Member peer) incarnation sequence (bodies.FailsafeAnswer accepted)) fits
        (failsafe-says past member peer incarnation sequence accepted)

    -- ---- an answer to a member that asks
    replied-moves : (past : Past) (cluster : Cluster) (peer : Member) (incarnation sequence : ℕ)
        (answer : PeerAnswer) (end : Option Lsn) → answer.end ≡ end → Fits past cluster.facts (volatile_of cluster)
        → IsNumbered ((state_of setup past (volatile_of cluster)).members peer.id.number) incarnation sequence
        → ForSome end (LogEndsAt (state_of setup past (volatile_of cluster)) member.id.number)
        → Moves setup past cluster
        (send_events cluster (agent_message member (ends.Member peer) incarnation sequence (bodies.Answer answer)))
    replied-moves past cluster peer incarnation sequence answer None is fits numbered ends_at =
        silent-moves past cluster
        (agent_message member (ends.Member peer) incarnation sequence (bodies.Answer answer)) fits
        (record {
          flying = ap (λ (o : Option Lsn). race_answer_of member.id.number peer.id.number incarnation sequence o) is;
          live = refl;
          ordered = λ later. tt;
        })
    replied-moves past cluster peer incarnation sequence answer (Some end) is fits numbered ends_at =
        let number : ℕ = cluster.facts.sent + 1 in
        let message : Message = agent_message member (ends.Member peer) incarnation sequence (bodies.Answer answer) in
        let at : LogEndsAt (state_of setup past (volatile_of cluster)) member.id.number end = ends_at end refl in
        send-moves past cluster message
        (moves-one setup past (volatile_of cluster) cluster (kinds.Message (Sent number message))
        (AnswerRace member.id.number peer.id.number incarnation sequence number) fits.same fits.sound tt tt
        (at.log, numbered)
        (race-answer-shown setup past (volatile_of cluster)
        (record { 0 = cluster.facts.clock }) number member peer incarnation sequence answer end is
        (at.end_is ∙ ap (λ (o : Option (List Entry)). end_of (entries_of o)) (sym at.log.is))))

    replying-moves : (past : Past) (cluster : Cluster) (peer : Option Member) (incarnation sequence : ℕ)
        (answer : PeerAnswer) → Fits past cluster.facts (volatile_of cluster)
        → ((m : Member) → peer ≡ Some m →
        IsNumbered ((state_of setup past (volatile_of cluster)).members m.id.number) incarnation sequence)
        → ForSome answer.end (LogEndsAt (state_of setup past (volatile_of cluster)) member.id.number)
        → Moves setup past cluster
        (replying_events cluster member (option_map (λ (m : Member). ends.Member m) peer) incarnation sequence
        (bodies.Answer answer))
    replying-moves past cluster None incarnation sequence answer fits numbered ends_at =
        moves-none setup past cluster fits
    replying-moves past cluster (Some peer) incarnation sequence answer fits numbered ends_at =
        replied-moves past cluster peer incarnation sequence answer answer.end refl fits (numbered peer refl) ends_at

    -- the answer to a member that asked under this number of its
    -- incarnation tells where the log ends of who answers, if that has one
    pub answer-moves : (past : Past) (cluster : Cluster) (to : MemberId) (incarnation sequence : ℕ)
        (answer : PeerAnswer) → Fits past cluster.facts (volatile_of cluster)
        → ((peer : Member) → slice_get cluster.facts.members to.number ≡ Some peer →
        IsNumbered ((state_of setup past (volatile_of cluster)).members peer.id.number) incarnation sequence)
        → ForSome answer.end (LogEndsAt (state_of setup past (volatile_of cluster)) member.id.number)
        → Moves setup past cluster
        (replying_events cluster member
        (receiver_of cluster.facts.members (targets.Member to)) incarnation sequence (bodies.Answer answer))
    answer-moves past cluster to incarnation sequence answer fits numbered ends_at = replying-moves past cluster
        (slice_get cluster.facts.members to.number) incarnation sequence answer fits numbered ends_at
