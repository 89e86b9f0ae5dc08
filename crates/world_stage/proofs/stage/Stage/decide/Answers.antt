use Rattle.std.proofs.Common.{◌≡◌, ◌∙◌, [], ◌∷◌, Bool, Err, arith, refl, ap, sym, subst}
use Rattle.std.proofs.lemmas.Result.{on_ok_weaker}
use Rattle.event_list.specs.Listed.{◌+++◌}
use Rattle.lease_store.specs.declared.granted.Granted.{Granted}
use Rattle.lease_store.specs.Decision.{decision_on, Grant, Refusal}
use Rattle.lease_store.specs.Keys.{Keys}
use Rattle.store_keys.specs.declared.txn.Txn.{Txn}
use Rattle.store_keys.specs.declared.txn_kind.TxnKind.{TxnKind}
use Rattle.lease_store.specs.Writes.{is_lease}
use Rattle.event_book.specs.declared.event.Event.{Event}
use Rattle.event_book.specs.declared.event.EventKind.TheVariants as kinds
use Rattle.event_book.specs.declared.event.StoreEvent.TheVariants as stores
use Rattle.event_book.specs.declared.message.Body.TheVariants as bodies
use Rattle.event_book.specs.declared.message.Message.{Message}
use Rattle.cluster_model.specs.State.{Cluster}
use Rattle.cluster_model.specs.Messages.{decision_events, published_names, send_events, answer_message}
use Rattle.world_model.specs.Room.{HasRoom}
use Rattle.world_model.specs.Emits.{Emits}
use Rattle.world_model.proofs.Deciding.{granted-took, refused-took, granted-event}
use Rattle.world_model.proofs.Rooms.{HasRoom-fewer, HasRoom-cluster_after}
use Rattle.world_stage.proofs.Worlds.{seen}
use Rattle.world_stage.proofs.stage.Stage.decide.Goals as goal

pub send-requires-clause-room : goal.send-requires-clause-room
send-requires-clause-room c =
    let before = seen c.self.inside in
    let by = c.in-Member.by in
    let written = c.in-Ok.ensures.written in
    let state = ap
    (λ (keys : Keys). let g : Cluster = record before { facts = record before.facts { keys = keys } } in g) written in
    let room : HasRoom before 3 = subst (λ (b : Cluster). HasRoom b 3) (sym c.self.view_is) c.requires.room in
    subst (λ (b : Cluster). HasRoom b 2) (sym state)
    (HasRoom-cluster_after before
    (kinds.Store (stores.Granted c.args.number by c.get-asked.result.now
    (published_names before.facts.members c.get-asked.result.now)))
    2 tt room)

pub send-requires-in-Err-Mismatch-clause-room : goal.send-requires-in-Err-Mismatch-clause-room
send-requires-in-Err-Mismatch-clause-room c =
    let before = seen c.self.inside in
    let state =
    ap (λ (keys : Keys). let g : Cluster = record before { facts = record before.facts { keys = keys } } in g)
    c.in-Err-Mismatch.ensures.err in
    let room : HasRoom before 3 = subst (λ (b : Cluster). HasRoom b 3) (sym c.self.view_is) c.requires.room in
    subst (λ (b : Cluster). HasRoom b 2) (sym state) (HasRoom-fewer before 3 2 (omega arith) room)

pub returns-in_ok-write_down-in-Ok : goal.returns-in_ok-write_down-in-Ok
returns-in_ok-write_down-in-Ok c =
    let before = seen c.self.inside in
    let txn = c.get-asked.result.now in
    let message = c.args.message.now in
    let by = c.in-Member.by in
    let granting : Cluster = record before { facts = record before.facts { keys = c.apply.new.self } } in
    let decision : decision_on before.facts.keys before.facts.clock txn ≡ Grant = c.in-Ok.ensures.granted in
    let written = c.in-Ok.ensures.written in
    let state = ap
    (λ (keys : Keys). let g : Cluster = record before { facts = record before.facts { keys = keys } } in g) written in
    let leased : c.leased.result ≡ is_lease txn = c.leased.ensures
    ∙ ap (λ (g : Granted). g.leased) c.in-Ok.ensures.told in
    let answer = c.answer_message.ensures
    ∙ ap (λ (l : Bool). answer_message message (bodies.Granted c.args.number l)) leased in
    let named = c.in_ok-published_names-in-Ok.ensures
    ∙ ap (λ members. published_names members txn) c.deref.ensures.value in
    let mid = c.in_ok-write_down-in-Ok.ensures ∙ ap (λ es. c.args.events.now +++ es)
    (granted-event c.self.inside.clock c.args.number by _ txn _ _
    (c.in_ok-try_clone-in-Ok.ensures ∙ sym c.get-asked.ensures) named) in
    on_ok_weaker c.send.result
    (λ took.
    subst (λ (t : Txn). Emits c.args.self.now c.send.new.self c.args.events.now c.send.new.events
    (decision_events c.args.self.now c.args.number message t
    (decision_on c.args.self.now.facts.keys c.args.self.now.facts.clock t) message.from)
    3)
    c.get-asked.ensures
    (subst (λ (b : Cluster). Emits b c.send.new.self c.args.events.now c.send.new.events
    (decision_events b c.args.number message txn (decision_on b.facts.keys b.facts.clock txn) message.from) 3)
    c.self.view_is
    (granted-took before granting c.send.new.self c.args.number by message txn c.self.inside.clock
    c.args.events.now c.write_down.new.events c.send.new.events
    c.in-Member.is refl decision state mid
    (subst (λ (m : Message).
    Emits granting c.send.new.self c.write_down.new.events c.send.new.events (send_events granting m) 2) answer took))))
    c.send.ensures

pub returns-in_ok-write_down-in-Err-Mismatch : goal.returns-in_ok-write_down-in-Err-Mismatch
returns-in_ok-write_down-in-Err-Mismatch c =
    let before = seen c.self.inside in
    let txn = c.get-asked.result.now in
    let message = c.args.message.now in
    let by = c.in-Member.by in
    let key = c.in-Err-Mismatch.key in
    let found = c.in-Err-Mismatch.found in
    let refusing : Cluster = record before { facts = record before.facts { keys = c.apply.new.self } } in
    let decision : decision_on before.facts.keys before.facts.clock txn ≡ Refusal key found =
    (c.in-Err-Mismatch.ensures.refused key found).0 (ap Err c.in-Err-Mismatch.field-0-is) in
    let state : ◌≡◌ {A = Cluster} refusing before =
    ap (λ (keys : Keys). let g : Cluster = record before { facts = record before.facts { keys = keys } } in g)
    c.in-Err-Mismatch.ensures.err in
    let mid = c.in_ok-write_down-in-Err-Mismatch.ensures ∙ ap (λ (k : TxnKind). let event : Event = record {
      tick = c.self.inside.clock;
      kind = kinds.Store (stores.Refused c.args.number by k key found);
    } in c.args.events.now +++ event ∷ []) c.kind.ensures in
    on_ok_weaker c.send-in-Err-Mismatch.result
    (λ took.
    subst (λ (t : Txn).
    Emits c.args.self.now c.send-in-Err-Mismatch.new.self c.args.events.now c.send-in-Err-Mismatch.new.events
    (decision_events c.args.self.now c.args.number message t
    (decision_on c.args.self.now.facts.keys c.args.self.now.facts.clock t) message.from)
    3)
    c.get-asked.ensures
    (subst (λ (b : Cluster). Emits b c.send-in-Err-Mismatch.new.self c.args.events.now c.send-in-Err-Mismatch.new.events
    (decision_events b c.args.number message txn (decision_on b.facts.keys b.facts.clock txn) message.from) 3)
    c.self.view_is
    (refused-took before c.send-in-Err-Mismatch.new.self c.args.number by message txn key found c.self.inside.clock
    c.args.events.now c.write_down-in-Err-Mismatch.new.events c.send-in-Err-Mismatch.new.events
    c.in-Member.is refl decision mid
    (subst (λ (b : Cluster).
    Emits b c.send-in-Err-Mismatch.new.self c.write_down-in-Err-Mismatch.new.events c.send-in-Err-Mismatch.new.events
    (send_events b (answer_message message (bodies.Refused c.args.number key found))) 2)
    state
    (subst (λ (m : Message). Emits refusing c.send-in-Err-Mismatch.new.self c.write_down-in-Err-Mismatch.new.events
    c.send-in-Err-Mismatch.new.events (send_events refusing m) 2) c.answer_message-in-Err-Mismatch.ensures took)))))
    c.send-in-Err-Mismatch.ensures
